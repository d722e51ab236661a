-- The fields that stand between two positions, one after another: a name, a node that stands behind it, and the fields behind
-- both.
use Rattle.std.specs.Prelude.{Option, Some}
use mathlib.Core.Bool.{Bool, true, false}
use mathlib.Core.List.{List}
use mathlib.Core.Path.{◌≡◌, refl, sym, ap, subst, ◌∙◌}
use Prim.Native.Nat.{ℕ, ◌+◌, ◌≤◌, ◌<◌}
use native.Mathlib.Omega.{arith}
use borrow.Author.Tests.{leb-true, leb-false}
use lib.Dec.{leb}
use lib.ListN.{length}
use Rattle.paper.specs.Metadata.{rising}
use Rattle.paper.specs.Schemas.{Schema, SchemaFields, none_named, named, column_names}
use Rattle.paper.specs.Words.{at, and_then}
use Rattle.paper.proofs.WordLaws.{given_some, then_some}
use Rattle.names.proofs.RisingLaws.{rising_more}
use Rattle.schemas.proofs.FieldLaws.{field_then, columns_at, columns_ended}
use Rattle.schemas.proofs.FieldFrameLaws.{FieldHere, field_here}
use Rattle.schemas.proofs.StandingLaws.{node_stands}
use Rattle.schemas.specs.Frames.{frame_end}
use Rattle.schemas.specs.Positions.{field_node, field_name, field_within, node_in, columns_in, Stands, FieldsStand}

-- A field stands at a place: its name, its node, and the fields behind it.
pub record FieldStands (levels : ℕ) (s : List ℕ) (place to : ℕ) (name : List ℕ) (node : Schema) (more : SchemaFields) : Type 0 where
  pub tagged : at s place ≡ 0x31
  pub name_tagged : at s (place + 3) ≡ 0x32
  pub name_is : name ≡ field_name s place
  pub inside : Stands levels s (field_node s place) node
  pub fills : frame_end s (field_node s place) ≡ frame_end s place
  pub frame_in : frame_end s place ≤ to
  pub behind : FieldsStand levels s (frame_end s place) to more

-- The first of some fields.
pub record FirstField (levels : ℕ) (s : List ℕ) (place to : ℕ) (columns : SchemaFields) : Type 0 where
  pub name : List ℕ
  pub node : Schema
  pub more : SchemaFields
  pub are : columns ≡ named name node more
  pub stands : FieldStands levels s place to name node more

module _ {levels : ℕ} {s : List ℕ} {place to : ℕ} where
  pub no_field : {columns : SchemaFields} → FieldsStand levels s place to columns → to ≤ place → columns ≡ none_named
  no_field stand past =
      let none_left : columns_in levels s place to ≡ Some none_named = columns_ended levels s place to past in
      let are = stand.are in
      cc

  pub first_field : {columns : SchemaFields} → FieldsStand levels s place to columns → place < to → FirstField levels s place to columns
  unfolding field_then column_names
  first_field {columns} stand some_left =
      let node? : Option Schema = node_in levels s (field_node s place) (frame_end s place) in
      let more? : Option SchemaFields = columns_in levels s (frame_end s place) to in
      let framed = given_some (field_within s place to) (field_then (field_name s place) node? more?) (sym (columns_at levels s place to some_left stand.within) ∙ stand.are) in
      let here : FieldHere s place to = field_here s place to framed.0 in
      let node = then_some node? (λ n. and_then more? λ columns. Some (named (field_name s place) n columns)) framed.1 in
      let more = then_some more? (λ columns. Some (named (field_name s place) node.0 columns)) node.2 in
      let inside = node_stands levels s (field_node s place) (frame_end s place) node.0 (omega (arith, here.frame_in, stand.within)) node.1 in
      let same : named (field_name s place) node.0 more.0 ≡ columns = cc more.2 in
      let rise : rising (column_names (named (field_name s place) node.0 more.0)) ≡ true = ap (λ (c : SchemaFields). rising (column_names c)) same ∙ stand.rise in
      let behind : FieldsStand levels s (frame_end s place) to more.0 =
      record {
        ordered = here.frame_in;
        within = stand.within;
        are = more.1;
        rise = rising_more (field_name s place) (column_names more.0) rise;
      } in
      record {
        name = field_name s place;
        node = node.0;
        more = more.0;
        are = sym same;
        stands = record {
          tagged = here.tagged;
          name_tagged = here.name_tagged;
          name_is = refl;
          inside = inside.0;
          fills = inside.1;
          frame_in = here.frame_in;
          behind = behind;
        };
      }

  -- No fields are none at all, and a field is one at least.
  pub no_columns_lem : FieldsStand levels s place to none_named → place ≡ to
  no_columns_lem stand = go (leb to place) refl
    where
      go : (b : Bool) → leb to place ≡ b → place ≡ to
      go true e = omega (arith, leb-true to place e, stand.ordered)
      go false e = let first = first_field stand (leb-false to place e) in let z : ◌≡◌ {A = ℕ} 0 1 = cc first.are in absurd (omega arith)

  pub some_left : {name : List ℕ} {node : Schema} {more : SchemaFields} → FieldsStand levels s place to (named name node more) → place < to
  some_left {name} {node} {more} stand = go (leb to place) refl
    where
      go : (b : Bool) → leb to place ≡ b → place < to
      go true e = let none_left = no_field stand (leb-true to place e) in let z : ◌≡◌ {A = ℕ} 0 1 = cc in absurd (omega arith)
      go false e = leb-false to place e

  pub field_stands : {name : List ℕ} {node : Schema} {more : SchemaFields} → FieldsStand levels s place to (named name node more) → FieldStands levels s place to name node more
  field_stands {name} {node} {more} stand =
      let first = first_field stand (some_left stand) in
      let n : first.name ≡ name = cc first.are in
      let d : first.node ≡ node = cc first.are in
      let m : first.more ≡ more = cc first.are in
      subst (λ (x : List ℕ). FieldStands levels s place to x node more) n
      (subst (λ (x : Schema). FieldStands levels s place to first.name x more) d
      (subst (λ (x : SchemaFields). FieldStands levels s place to first.name first.node x) m first.stands))

  -- What the readers of a field ask.
  module _ {name : List ℕ} {node : Schema} {more : SchemaFields} (here : FieldStands levels s place to name node more) where
    pub field_framed : frame_end s place ≤ length s
    field_framed = omega (arith, here.frame_in, here.behind.within)

    pub field_named : field_node s place ≤ length s
    field_named = omega (arith, here.fills, field_framed)

  -- Fields are one list at most.
  pub one_list : {columns others : SchemaFields} → FieldsStand levels s place to columns → FieldsStand levels s place to others → columns ≡ others
  one_list stand also = let are = stand.are in let also-are = also.are in cc
