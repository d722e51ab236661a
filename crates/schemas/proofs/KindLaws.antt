-- The kind of a node: by its tag, and what stands there by the kind that was read.
use mathlib.Core.List.{List}
use mathlib.Core.Path.{◌≡◌, refl, sym, subst, ◌∙◌}
use Prim.Native.Nat.{ℕ, ◌+◌}
use native.Mathlib.Omega.{arith}
use borrow.Author.Tests.{ne_eqb}
use Rattle.paper.specs.Schemas.{Column, Schema, leftover_only, column, list, fields, SchemaFields}
use Rattle.paper.specs.Words.{at}
use Rattle.schemas.proofs.StandingLaws.{LeftoverStands, ColumnStands, ListStands, ObjectStands, NodeAt, leftover_at, column_at, list_at, fields_at, node_at}
use Rattle.schemas.specs.Kinds.{kind_of, kind_at, KindThere}
use Rattle.schemas.specs.Frames.{frame_end}
use Rattle.schemas.specs.Positions.{Stands}
use Rattle.schemas.specs.declared.readers.Kind.{Kind}
use Rattle.schemas.specs.declared.readers.Kind.TheVariants.{Leftover, Column as ColumnKind, List as ListKind, Fields}

module _ (s : List ℕ) (place : ℕ) where
  pub kind_leftover : at s place ≡ 0x00 → Leftover ≡ kind_at s place
  unfolding kind_at
  kind_leftover e = rw e

  pub kind_column : at s place ≡ 0x10 → ColumnKind (at s (place + 3)) ≡ kind_at s place
  unfolding kind_at
  kind_column e = rw e

  pub kind_list : at s place ≡ 0x20 → ListKind ≡ kind_at s place
  unfolding kind_at
  kind_list e = rw e

  pub kind_fields : (at s place ≡ 0x00 → ⊥) → (at s place ≡ 0x10 → ⊥) → (at s place ≡ 0x20 → ⊥) → Fields ≡ kind_at s place
  unfolding kind_at
  kind_fields a b d = rw (ne_eqb (at s place) 0x00 a, ne_eqb (at s place) 0x10 b, ne_eqb (at s place) 0x20 d)

-- ---- what stands there

kind_by : {levels : ℕ} {s : List ℕ} {place : ℕ} {node : Schema} → NodeAt levels s place node → kind_at s place ≡ kind_of node
unfolding kind_at kind_of
kind_by (leftover_at here) = rw here.tagged
kind_by (column_at here) = rw (here.tagged, here.code_at)
kind_by (list_at here) = rw here.tagged
kind_by (fields_at here) = rw here.tagged

code_by : {levels : ℕ} {s : List ℕ} {place : ℕ} {node : Schema} → NodeAt levels s place node → at s place ≡ 0x10 → frame_end s place ≡ place + 4
code_by (leftover_at here) e = absurd (omega (arith, here.tagged))
code_by (column_at here) e = here.ends
code_by (list_at here) e = absurd (omega (arith, here.tagged))
code_by (fields_at here) e = absurd (omega (arith, here.tagged))

-- A node that stands, beside its kind.
pub data KindHere (levels : ℕ) (s : List ℕ) (place : ℕ) : Schema → Kind → Type 0 where
  leftover_here : LeftoverStands s place → KindHere levels s place leftover_only Leftover
  column_here : {said : Column} → ColumnStands s place said → KindHere levels s place (column said) (ColumnKind said.code)
  list_here : {element : Schema} → ListStands levels s place element → KindHere levels s place (list element) ListKind
  fields_here : {columns : SchemaFields} → ObjectStands levels s place columns → KindHere levels s place (fields columns) Fields

here_by : {levels : ℕ} {s : List ℕ} {place : ℕ} {node : Schema} → NodeAt levels s place node → KindHere levels s place node (kind_of node)
unfolding kind_of
here_by (leftover_at here) = leftover_here here
here_by (column_at here) = column_here here
here_by (list_at here) = list_here here
here_by (fields_at here) = fields_here here

module _ {levels : ℕ} {s : List ℕ} {place : ℕ} {node : Schema} (stands : Stands levels s place node) where
  pub kind_is : kind_at s place ≡ kind_of node
  kind_is = kind_by (node_at stands)

  pub kind_there : KindThere s place
  kind_there =
      record {
        tag_there = omega (arith, stands.within);
        code_there = λ e. omega (arith, stands.within, code_by (node_at stands) e);
      }

  module _ {k : Kind} (is : k ≡ kind_at s place) where
    pub kind_here : {told : Kind} → k ≡ told → KindHere levels s place node told
    kind_here e = subst (λ (o : Kind). KindHere levels s place node o) (sym (is ∙ kind_is) ∙ e) (here_by (node_at stands))

    pub leftover_here_lem : k ≡ Leftover → node ≡ leftover_only
    leftover_here_lem e = go (kind_here e)
      where
        go : {node : Schema} → KindHere levels s place node Leftover → node ≡ leftover_only
        go (leftover_here here) = refl

    pub column_here_lem : {code : ℕ} → k ≡ ColumnKind code → (said : Column) × (node ≡ column said) × (said.code ≡ code) × ColumnStands s place said
    column_here_lem e = go (kind_here e)
      where
        go : {node : Schema} {code : ℕ} → KindHere levels s place node (ColumnKind code) → (said : Column) × (node ≡ column said) × (said.code ≡ code) × ColumnStands s place said
        go (column_here {said = said} here) = (said, refl, refl, here)

    pub list_here_lem : k ≡ ListKind → (element : Schema) × (node ≡ list element) × ListStands levels s place element
    list_here_lem e = go (kind_here e)
      where
        go : {node : Schema} → KindHere levels s place node ListKind → (element : Schema) × (node ≡ list element) × ListStands levels s place element
        go (list_here {element = element} here) = (element, refl, here)

    pub object_here : k ≡ Fields → (columns : SchemaFields) × (node ≡ fields columns) × ObjectStands levels s place columns
    object_here e = go (kind_here e)
      where
        go : {node : Schema} → KindHere levels s place node Fields → (columns : SchemaFields) × (node ≡ fields columns) × ObjectStands levels s place columns
        go (fields_here {columns = columns} here) = (columns, refl, here)
