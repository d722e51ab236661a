-- The kind of a node, by the node and by its bytes.
use Rattle.std.specs.Prelude.{cond, List, ◌≡◌, ℕ, ◌+◌, ◌<◌, eqb, length}
use Rattle.paper.specs.Schemas.{Schema, leftover_only, column, list, fields}
use Rattle.paper.specs.Words.{at}
use Rattle.schemas.specs.declared.readers.Kind.{Kind}
use Rattle.schemas.specs.declared.readers.Kind.TheVariants.{Leftover, Column, List as ListKind, Fields}

unfoldable pub kind_of : Schema → Kind
kind_of leftover_only = Leftover
kind_of (column said) = Column said.code
kind_of (list element) = ListKind
kind_of (fields columns) = Fields

-- The kind of the node at a position: by its tag, and a column's code behind its frame's head.
unfoldable pub kind_at : List ℕ → ℕ → Kind
kind_at s place =
    cond (eqb (at s place) 0x00) Leftover
    (cond (eqb (at s place) 0x10) (Column (at s (place + 3))) (cond (eqb (at s place) 0x20) ListKind Fields))

-- What that reads is there.
pub record KindThere (s : List ℕ) (place : ℕ) : Type 0 where
  pub tag_there : place < length s
  pub code_there : at s place ≡ 0x10 → place + 3 < length s
