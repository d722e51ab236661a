-- A name is used in a document where it is a field's name, at any depth.
use Rattle.std.specs.Prelude.{Bool, false, ◌||◌, List, ℕ}
use Rattle.paper.specs.Meaning.{Doc, null, scalar, array, object, Docs, no_docs, doc, Fields, no_fields, field}
use Rattle.paper.specs.Words.{same}

unfoldable mutual
  pub used_in : List ℕ → Doc → Bool
  used_in name null = false
  used_in name (scalar s) = false
  used_in name (array ds) = used_in_all name ds
  used_in name (object fs) = used_in_fields name fs

  pub used_in_all : List ℕ → Docs → Bool
  used_in_all name no_docs = false
  used_in_all name (doc d ds) = used_in name d || used_in_all name ds

  pub used_in_fields : List ℕ → Fields → Bool
  used_in_fields name no_fields = false
  used_in_fields name (field first d fs) = same first name || (used_in name d || used_in_fields name fs)
