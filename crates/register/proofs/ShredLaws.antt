-- Shred: a lawful document under a good schema comes to its row, another is refused and leaves the buffer as it was; and the length
-- has room in a word.
use Rattle.paper.specs.declared.Unwritten.TheVariants.{Refused, Short}
use Rattle.std.specs.Prelude.{Option, None, Some, Err, Ok}
use mathlib.Core.Bool.{Bool, true, false, cond, ◌&&◌}
use mathlib.Core.List.{List}
use mathlib.Core.Path.{◌≡◌, refl, sym, ap, ◌∙◌}
use Prim.Native.Nat.{ℕ, ◌^◌, ◌≤◌, ◌<◌}
use native.Mathlib.Omega.{arith}
use borrow.Author.Tests.{leb-true, le-leb, lt-leb, lt-ltb}
use lib.Dec.{leb, ltb}
use lib.ListN.{length}
use Rattle.dictionary.specs.Lent.{LentNames}
use Rattle.documents.specs.Judged.{document_of}
use Rattle.forms.proofs.NormalLaws.{require_reached, obtain_reached}
use Rattle.paper.proofs.WordLaws.{never, and_both}
use Rattle.paper.specs.Limits.{most_levels, most_schema, most_row}
use Rattle.paper.specs.Meaning.{Doc}
use Rattle.paper.specs.Metadata.{dictionary_of}
use Rattle.paper.specs.Operations.{judged, value_judged, document_fits, writable, row_outcome, shred_outcome, row_answer}
use Rattle.paper.specs.Refusals.{Outcome, require, obtain, RowAnswer}
use Rattle.paper.specs.Schemas.{Schema, schema_of}
use Rattle.paper.specs.Shredding.{row_bytes}
use Rattle.paper.specs.Values.{meaning_of}
use Rattle.paper.specs.Words.{is_there}
use Rattle.paper.specs.declared.Refusal.TheVariants.{TooLong, BadSchema}
use Rattle.paper.specs.declared.Refusal.{Refusal}
use Rattle.handing.proofs.HandLaws.{refused_row}
use Rattle.handing.specs.Handing.{RowAnswered}
use Rattle.words.specs.Boundary.{row_has_room}
use Rattle.register.proofs.DocumentAnswers.{judged_lawful, judged_refused, lawful, refused_same}

-- ---- a document under a schema

abbrev Under : List ℕ → Doc → Outcome (List ℕ)
Under s d = obtain (schema_of s) BadSchema λ node. row_outcome node d

-- ---- judged in order: the lengths, the document, the schema

module _ (s m v : List ℕ) where
  pub shred_schema_long : most_schema < length s → (before : List ℕ) → RowAnswered (shred_outcome s m v) before before (Err (Refused TooLong))
  unfolding shred_outcome require
  shred_schema_long h = refused_row (rw (lt-leb (length s) most_schema h))

  module _ (short : length s ≤ most_schema) where
    inside : shred_outcome s m v ≡ require (document_fits m v) TooLong (judged m v λ names d. Under s d)
    unfolding shred_outcome
    inside = rw (le-leb (length s) most_schema short)

    module _ (r : Outcome LentNames) (told : r ≡ document_of m v) where
      pub shred_refused : (refusal : Refusal) → r ≡ Err refusal → (before : List ℕ) → RowAnswered (shred_outcome s m v) before before (Err (Refused refusal))
      shred_refused refusal e = refused_row (inside ∙ judged_refused (λ names d. Under s d) m v refusal (refused_same m v r told refusal e))

      -- good is whether the schema keeps its rules
      module _ (d : LentNames) (e : r ≡ Ok d) (good : Bool) (is : good ≡ is_there (schema_of s)) where
        doc : (doc : Doc) × (meaning_of most_levels d.names v ≡ Some doc) × (shred_outcome s m v ≡ Under s doc)
        doc =
            let l = lawful m v r told d e in
            (l.doc_is, l.means, inside ∙ judged_lawful (λ names d. Under s d) m v l)

        pub shred_schema_bad : good ≡ false → (before : List ℕ) → RowAnswered (shred_outcome s m v) before before (Err (Refused BadSchema))
        unfolding is_there obtain
        shred_schema_bad bad = refused_row (doc.2 ∙ go (schema_of s) (sym is ∙ bad))
          where
            go : (x : Option Schema) → is_there x ≡ false → obtain x BadSchema (λ node. row_outcome node doc.0) ≡ Err BadSchema
            go None f = refl
            go (Some node) f = never f

        pub shred_lawful : good ≡ true → {before after : List ℕ} {a : RowAnswer}
            → ((node : Schema) (doc : Doc) → schema_of s ≡ Some node → meaning_of most_levels d.names v ≡ Some doc → RowAnswered (row_outcome node doc) before after a)
            → RowAnswered (shred_outcome s m v) before after a
        unfolding is_there obtain
        shred_lawful well {before} {after} {a} answers =
            rw doc.2 (go (schema_of s) (sym is ∙ well) (λ node f. answers node doc.0 f doc.1))
          where
            go : (x : Option Schema) → is_there x ≡ true → ((node : Schema) → x ≡ Some node → RowAnswered (row_outcome node doc.0) before after a)
                → RowAnswered (obtain x BadSchema λ node. row_outcome node doc.0) before after a
            go None f tells = never (sym f)
            go (Some node) f tells = tells node refl

-- ---- the length of an answer has room in a word

length_fits : (o : Outcome (List ℕ)) → ((bytes : List ℕ) → o ≡ Ok bytes → length bytes ≤ most_row) → (room : ℕ) → row_has_room (row_answer o room) ≡ true
unfolding row_answer
length_fits (Err refusal) fits room = refl
length_fits (Ok bytes) fits room = go (leb (length bytes) room)
  where
    small : ltb (length bytes) (2 ^ 24) && ltb 0 (2 ^ 24) ≡ true
    small = let short : length bytes < 2 ^ 24 = omega (arith, fits bytes refl) in rw (lt-ltb (length bytes) (2 ^ 24) short)

    go : (b : Bool) → row_has_room (cond b (Ok (length bytes)) (Err (Short (length bytes)))) ≡ true
    go true = small
    go false = small

row_short : (node : Schema) (d : Doc) (bytes : List ℕ) → row_outcome node d ≡ Ok bytes → length bytes ≤ most_row
unfolding row_outcome
row_short node d bytes e =
    let told = require_reached _ (writable d && leb (length (row_bytes node d)) most_row) _ e in
    let same : row_bytes node d ≡ bytes = cc told.1 in
    rw (← same) (leb-true (length (row_bytes node d)) most_row (and_both (writable d) (leb (length (row_bytes node d)) most_row) told.0).1)

module _ (s m v : List ℕ) where
  shredded_short : (bytes : List ℕ) → shred_outcome s m v ≡ Ok bytes → length bytes ≤ most_row
  unfolding shred_outcome judged value_judged
  shredded_short bytes e =
      let first = require_reached _ (leb (length s) most_schema && document_fits m v) _ e in
      let second = obtain_reached _ (dictionary_of m) _ first.1 in
      let third = obtain_reached _ (meaning_of most_levels second.0 v) _ second.2 in
      let fourth = obtain_reached _ (schema_of s) _ third.2 in
      row_short fourth.0 third.0 bytes fourth.2

  pub row_fits : {before after : List ℕ} {a : RowAnswer} → RowAnswered (shred_outcome s m v) before after a → row_has_room a ≡ true
  row_fits {before} answered = ap row_has_room answered.answer_is ∙ length_fits (shred_outcome s m v) shredded_short (length before)
