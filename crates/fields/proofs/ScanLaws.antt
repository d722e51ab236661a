-- One scan over a good schema: what is left at a place, and what a step from there passes.
use mathlib.Core.List.{List, [], ◌∷◌, ◌++◌, append_assoc}
use mathlib.Core.Path.{◌≡◌, refl, sym, subst, ◌∙◌}
use Prim.Native.Nat.{ℕ, ◌+◌, ◌-◌, ◌≤◌}
use native.Mathlib.Omega.{arith}
use lib.ListN.{length}
use Rattle.fields.proofs.SpotLaws.{Spot, spots_in, spots_of}
use Rattle.fields.proofs.TellingLaws.{field_room}
use Rattle.paper.specs.Schemas.{Schema, leftover_only, column, list, fields, SchemaFields, none_named, named}
use Rattle.paper.specs.Words.{at}
use Rattle.schemas.proofs.FieldsStandLaws.{field_stands, no_columns_lem}
use Rattle.schemas.proofs.StandingLaws.{leftover_stands, column_stands, list_stands, object_stands}
use Rattle.schemas.proofs.WalkLaws.{next_column, next_other}
use Rattle.schemas.specs.Frames.{frame_end}
use Rattle.schemas.specs.Positions.{field_node, field_name, Stands, FieldsStand}
use Rattle.schemas.specs.Walk.{frame_next}

-- What is left: nothing, a node and what is left behind it, or fields and what is left behind them.
pub data Left (s : List ℕ) : ℕ → List Spot → Type 0 where
  over : {place : ℕ} {left : List Spot} → length s ≤ place → left ≡ [] → Left s place left
  node_left : {place : ℕ} {left : List Spot} (levels : ℕ) (node : Schema) (more : List Spot) → Stands levels s place node
      → left ≡ spots_in s node place ++ more → Left s (frame_end s place) more → Left s place left
  fields_left : {place : ℕ} {left : List Spot} (levels : ℕ) (columns : SchemaFields) (to : ℕ) (more : List Spot) → FieldsStand levels s place to columns
      → left ≡ spots_of s columns place ++ more → Left s to more → Left s place left

moved : {s : List ℕ} {place other : ℕ} {left : List Spot} → place ≡ other → Left s place left → Left s other left
moved {s} {left = left} e rest = subst (λ (p : ℕ). Left s p left) e rest

-- A field is left first.
pub record FieldFirst (s : List ℕ) (place : ℕ) (left : List Spot) : Type 0 where
  pub tagged : at s place ≡ 0x31
  pub more : List Spot
  pub first : left ≡ record { place = place; name = field_name s place } ∷ more
  pub room : place + 9 ≤ length s
  pub named_in : field_node s place ≤ length s
  pub rest : Left s (field_node s place) more

-- A node is left first, and the scan goes on behind its head.
pub record NodeFirst (s : List ℕ) (place : ℕ) (left : List Spot) : Type 0 where
  pub no_field : at s place ≡ 0x31 → ⊥
  pub room : frame_next s place ≤ length s
  pub rest : Left s (frame_next s place) left

pub data Next (s : List ℕ) (place : ℕ) (left : List Spot) : Type 0 where
  at_end : length s ≤ place → left ≡ [] → Next s place left
  at_field : FieldFirst s place left → Next s place left
  at_node : NodeFirst s place left → Next s place left

module _ {s : List ℕ} {place : ℕ} {left : List Spot} where
  -- Behind the head of a node of a tag.
  behind_head : (tag : ℕ) → at s place ≡ tag → (tag ≡ 0x31 → ⊥) → (tag ≡ 0x10 → ⊥) → frame_end s place ≤ length s → Left s (place + 3) left → NodeFirst s place left
  behind_head tag tagged no_field no-column within rest =
      let a : at s place ≡ 0x31 → ⊥ = λ e. no_field (sym tagged ∙ e) in
      let b : at s place ≡ 0x10 → ⊥ = λ e. no-column (sym tagged ∙ e) in
      let next : place + 3 ≡ frame_next s place = next_other s place a b in
      record { no_field = a; room = omega arith; rest = moved next rest }

  module _ (more : List Spot) {levels : ℕ} (rest : Left s (frame_end s place) more) where
    node_next : (node : Schema) → Stands levels s place node → left ≡ spots_in s node place ++ more → NodeFirst s place left
    unfolding spots_in
    node_next leftover_only stands e =
        let here = leftover_stands stands in
        behind_head 0x00 here.tagged (λ f. omega arith) (λ f. omega arith) stands.within (rw e (moved here.ends rest))
    node_next (column said) stands e =
        let here = column_stands stands in
        let a : at s place ≡ 0x31 → ⊥ = λ f. omega (arith, here.tagged) in
        let next : place + 4 ≡ frame_next s place = next_column s place a here.tagged in
        record { no_field = a; room = omega (arith, stands.within, here.ends); rest = rw e (moved (here.ends ∙ next) rest) }
    node_next (list element) stands e =
        let here = list_stands stands in
        behind_head 0x20 here.tagged (λ f. omega arith) (λ f. omega arith) stands.within
        (node_left (levels - 1) element more here.inside e (moved (sym here.fills) rest))
    node_next (fields columns) stands e =
        let here = object_stands stands in
        behind_head 0x30 here.tagged (λ f. omega arith) (λ f. omega arith) stands.within
        (fields_left (levels - 1) columns (frame_end s place) more here.inside e rest)

  field_next : {levels to : ℕ} {name : List ℕ} {node : Schema} {columns : SchemaFields} (more : List Spot)
      → FieldsStand levels s place to (named name node columns) → left ≡ spots_of s (named name node columns) place ++ more → Left s to more → FieldFirst s place left
  unfolding spots_of
  field_next {levels} {to} {name} {node} {columns} more stand e rest =
      let here = field_stands stand in
      let inside = here.inside in
      let within = inside.within in
      record {
        tagged = here.tagged;
        more = spots_in s node (field_node s place) ++ (spots_of s columns (frame_end s place) ++ more);
        first = e ∙ rw (append_assoc (spots_in s node (field_node s place)) (spots_of s columns (frame_end s place)) more, here.name_is);
        room = field_room here;
        named_in = omega arith;
        rest = node_left levels node (spots_of s columns (frame_end s place) ++ more) inside refl
            (moved (sym here.fills) (fields_left levels columns to more here.behind refl rest));
      }

pub next : {s : List ℕ} {place : ℕ} {left : List Spot} → Left s place left → Next s place left
unfolding spots_of
next (over past none_left) = at_end past none_left
next (node_left levels node more stands e rest) = at_node (node_next more rest node stands e)
next {s} {place} {left} (fields_left levels none_named to more stand e rest) =
    subst (λ (p : ℕ). Next s p left) (sym (no_columns_lem stand)) (subst (λ (l : List Spot). Next s to l) (sym e) (next rest))
next (fields_left levels (named name node columns) to more stand e rest) = at_field (field_next more stand e rest)
