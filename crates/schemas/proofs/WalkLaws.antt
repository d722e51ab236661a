-- The frames of a schema in order of position: they lead through a node that stands to its end, and none lies between a frame
-- and the next.
use Rattle.std.specs.Prelude.{Some}
use mathlib.Core.Bool.{Bool, true, false, cond}
use mathlib.Core.List.{List}
use mathlib.Core.Logic.{◌⊎◌, inl, inr}
use mathlib.Core.Path.{◌≡◌, sym, subst, ◌∙◌}
use Prim.Native.Nat.{ℕ, ◌+◌, ◌-◌, ◌≤◌, ◌<◌}
use native.Mathlib.Omega.{arith}
use borrow.Author.Tests.{eq-eqb, ne_eqb}
use lib.Dec.{eqb}
use lib.ListN.{length}
use Rattle.paper.specs.Limits.{most_levels}
use Rattle.paper.specs.Schemas.{Schema, leftover_only, column, list, fields, SchemaFields, none_named, named, schema_of}
use Rattle.paper.specs.Words.{at}
use Rattle.schemas.proofs.FieldsStandLaws.{FieldStands, field_stands, no_columns_lem}
use Rattle.schemas.proofs.StandingLaws.{leftover_stands, column_stands, ListStands, list_stands, ObjectStands, object_stands, schema_stands}
use Rattle.schemas.specs.Frames.{frame_end}
use Rattle.schemas.specs.Positions.{field_node, Stands, FieldsStand}
use Rattle.schemas.specs.Walk.{frame_next, Frames, arrived, further}

-- ---- one frame further

module _ (s : List ℕ) (place : ℕ) where
  pub next_forward : place < frame_next s place
  unfolding frame_next
  next_forward = go (eqb (at s place) 0x31) (eqb (at s place) 0x10)
    where
      go : (a b : Bool) → place < cond a (field_node s place) (cond b (place + 4) (place + 3))
      go true b = omega arith
      go false true = omega arith
      go false false = omega arith

  pub next_field : at s place ≡ 0x31 → field_node s place ≡ frame_next s place
  unfolding frame_next
  next_field e = rw (eq-eqb (at s place) 0x31 e)

  module _ (no_field : at s place ≡ 0x31 → ⊥) where
    pub next_column : at s place ≡ 0x10 → place + 4 ≡ frame_next s place
    unfolding frame_next
    next_column e = rw (ne_eqb (at s place) 0x31 no_field, eq-eqb (at s place) 0x10 e)

    pub next_other : (at s place ≡ 0x10 → ⊥) → place + 3 ≡ frame_next s place
    unfolding frame_next
    next_other h = rw (ne_eqb (at s place) 0x31 no_field, ne_eqb (at s place) 0x10 h)

-- ---- runs of frames

module _ {s : List ℕ} where
  pub frames_rise : {place to : ℕ} → Frames s place to → place ≤ to
  frames_rise arrived = omega arith
  frames_rise (further {place = place} rest) = omega (arith, next_forward s place, frames_rise rest)

  pub frames_join : {from place to : ℕ} → Frames s from place → Frames s place to → Frames s from to
  frames_join arrived more = more
  frames_join (further rest) more = further (frames_join rest more)

  -- Two that start together: one goes on where the other ends.
  frames_meet : {from place other : ℕ} → Frames s from place → Frames s from other → Frames s place other ⊎ Frames s other place
  frames_meet arrived more = inl more
  frames_meet (further rest) arrived = inr (further rest)
  frames_meet (further rest) (further more) = frames_meet rest more

  past : {place other : ℕ} → Frames s place other → other < frame_next s place → other ≤ place
  past arrived h = omega arith
  past (further rest) h = absurd (omega (arith, frames_rise rest))

  -- No frame lies between a frame and the next.
  pub frames_between : {from place other : ℕ} → Frames s from place → Frames s from other → other < frame_next s place → other ≤ place
  frames_between {place = place} {other = other} here there h = go (frames_meet here there)
    where
      go : Frames s place other ⊎ Frames s other place → other ≤ place
      go (inl on) = past on h
      go (inr back) = frames_rise back

  -- Where the end is not reached yet, the frames lead on.
  pub frames_on : {place to : ℕ} → Frames s place to → place < to → Frames s (frame_next s place) to
  frames_on arrived h = absurd (omega arith)
  frames_on (further rest) h = rest

-- ---- through a node, and through fields

-- A run that goes on from a next frame that is known.
from : (s : List ℕ) (place next : ℕ) {to : ℕ} → next ≡ frame_next s place → Frames s next to → Frames s place to
from s place next {to} e rest = further (subst (λ (p : ℕ). Frames s p to) e rest)

up_to : (s : List ℕ) (place : ℕ) {end to : ℕ} → end ≡ to → Frames s place end → Frames s place to
up_to s place e run = subst (λ (p : ℕ). Frames s place p) e run

-- Behind the head of a node that is no column.
inward : (s : List ℕ) (place : ℕ) {tag : ℕ} → at s place ≡ tag → (tag ≡ 0x31 → ⊥) → (tag ≡ 0x10 → ⊥) → place + 3 ≡ frame_next s place
inward s place e a b = next_other s place (λ f. a (sym e ∙ f)) (λ f. b (sym e ∙ f))

module _ (s : List ℕ) where
  mutual
    pub node_frames : (node : Schema) (levels place : ℕ) → Stands levels s place node → Frames s place (frame_end s place)
    node_frames leftover_only levels place stands =
        let here = leftover_stands stands in
        from s place (place + 3) (inward s place here.tagged (omega arith) (omega arith)) (up_to s (place + 3) (sym here.ends) arrived)
    node_frames (column said) levels place stands =
        let here = column_stands stands in
        from s place (place + 4) (next_column s place (omega (arith, here.tagged)) here.tagged) (up_to s (place + 4) (sym here.ends) arrived)
    node_frames (list element) levels place stands =
        let here = list_stands stands in
        from s place (place + 3) (inward s place here.tagged (omega arith) (omega arith))
        (up_to s (place + 3) here.fills (node_frames element (levels - 1) (place + 3) here.inside))
    node_frames (fields columns) levels place stands =
        let here = object_stands stands in
        from s place (place + 3) (inward s place here.tagged (omega arith) (omega arith))
        (fields_frames columns (levels - 1) (place + 3) (frame_end s place) here.inside)

    pub fields_frames : (columns : SchemaFields) (levels place to : ℕ) → FieldsStand levels s place to columns → Frames s place to
    fields_frames none_named levels place to stand = up_to s place (no_columns_lem stand) arrived
    fields_frames (named name node more) levels place to stand =
        let here = field_stands stand in
        from s place (field_node s place) (next_field s place here.tagged)
        (frames_join (up_to s (field_node s place) here.fills (node_frames node levels (field_node s place) here.inside))
        (fields_frames more levels (frame_end s place) to here.behind))

pub schema_frames : (s : List ℕ) (node : Schema) → schema_of s ≡ Some node → Frames s 0 (length s)
schema_frames s node e =
    let stands = schema_stands s node e in up_to s 0 stands.1 (node_frames s node most_levels 0 stands.0)

-- ---- what stands inside is led to as well

module _ {s : List ℕ} {start levels place : ℕ} (run : Frames s start place) where
  pub element_reached : {element : Schema} → ListStands levels s place element → Frames s start (place + 3)
  element_reached here = frames_join run (from s place (place + 3) (inward s place here.tagged (omega arith) (omega arith)) arrived)

  pub fields_reached : {columns : SchemaFields} → ObjectStands levels s place columns → Frames s start (place + 3)
  fields_reached here = frames_join run (from s place (place + 3) (inward s place here.tagged (omega arith) (omega arith)) arrived)

  module _ {to : ℕ} {name : List ℕ} {node : Schema} {more : SchemaFields} (here : FieldStands levels s place to name node more) where
    pub node_reached : Frames s start (field_node s place)
    node_reached = frames_join run (from s place (field_node s place) (next_field s place here.tagged) arrived)

    pub next_reached : Frames s start (frame_end s place)
    next_reached = frames_join node_reached (up_to s (field_node s place) here.fills (node_frames s node levels (field_node s place) here.inside))
