-- A good schema is its tree written: the framing is canonical.
use Rattle.std.specs.Prelude.{Some}
use mathlib.Core.List.{List, [], ◌∷◌, ◌++◌}
use mathlib.Core.Path.{◌≡◌, sym, ap, ◌∙◌}
use Prim.Native.Nat.{ℕ, zero, suc, ◌+◌, ◌-◌, ◌≤◌, ◌<◌}
use native.Mathlib.Omega.{arith}
use lib.ListN.{length}
use lib.Seq.{take_all, take-add, drop-drop}
use Rattle.numbers.proofs.NumberLaws.{bytes_back}
use Rattle.numbers.specs.Little.{number, number_bytes, number_at}
use Rattle.paper.specs.Framing.{frame}
use Rattle.paper.specs.Limits.{most_levels}
use Rattle.paper.specs.Schemas.{Schema, leftover_only, column, list, fields, SchemaFields, none_named, named, schema_of}
use Rattle.paper.specs.Words.{at, part}
use Rattle.schemas.proofs.FieldsStandLaws.{field_stands, no_columns_lem}
use Rattle.frames.proofs.PieceLaws.{length_part, part_cons, part_none}
use Rattle.schemas.proofs.StandingLaws.{leftover_stands, column_stands, list_stands, object_stands, schema_stands}
use Rattle.schemas.specs.Frames.{frame_end, piece_at}
use Rattle.schemas.specs.Positions.{field_node, Stands, FieldsStand}
use Rattle.schemas.specs.Written.{schema_bytes, fields_bytes}

-- ---- a frame is its piece written

part_split : (s : List ℕ) (from mid to : ℕ) → from ≤ mid → mid ≤ to → part s from to ≡ part s from mid ++ part s mid to
part_split s from mid to a b =
    let e : to - from ≡ mid - from + (to - mid) = omega arith in
    let f : from + (mid - from) ≡ mid = omega arith in
    rw (e, take-add, drop-drop, f)

two_bytes : (a b : ℕ) → a < 256 → b < 256 → number_bytes 2 (number (a ∷ b ∷ [])) ≡ a ∷ b ∷ []
two_bytes a b h k = bytes_back (a ∷ b ∷ []) each
  where
    each : (i : ℕ) → at (a ∷ b ∷ []) i < 256
    each zero = h
    each (suc zero) = k
    each (suc (suc i)) = omega arith

module _ (s : List ℕ) (bytes : (i : ℕ) → at s i < 256) where
  -- The two bytes of a frame's size.
  size_bytes : (place : ℕ) → frame_end s place ≤ length s → part s (place + 1) (place + 3) ≡ number_bytes 2 (length (piece_at s place).body)
  unfolding number_at
  size_bytes place within =
      let one : suc (place + 1) ≡ place + 2 = omega arith in
      let two : suc (place + 2) ≡ place + 3 = omega arith in
      let width : place + 3 - (place + 1) ≡ 2 = omega arith in
      let are : part s (place + 1) (place + 3) ≡ at s (place + 1) ∷ at s (place + 2) ∷ [] =
      part_cons s (place + 1) (place + 3) (omega arith) (omega arith)
      ∙ rw (one, part_cons s (place + 2) (place + 3) (omega arith) (omega arith), two, part_none s (place + 3) (place + 3) (omega arith)) in
      let size : length (piece_at s place).body ≡ number (part s (place + 1) (place + 3)) =
      length_part s (place + 3) (frame_end s place) within ∙ rw width (omega arith) in
      rw (size, are) (sym (two_bytes (at s (place + 1)) (at s (place + 2)) (bytes (place + 1)) (bytes (place + 2))))

  frame_bytes : (place : ℕ) → frame_end s place ≤ length s → part s place (frame_end s place) ≡ frame (at s place) (piece_at s place).body
  unfolding frame
  frame_bytes place within =
      let one : suc place ≡ place + 1 = omega arith in
      part_cons s place (frame_end s place) within (omega arith)
      ∙ rw (one, part_split s (place + 1) (place + 3) (frame_end s place) (omega arith) (omega arith), size_bytes place within)

  -- ---- nodes and fields

  tagged_bytes : (place tag : ℕ) (body : List ℕ) → frame_end s place ≤ length s → at s place ≡ tag → (piece_at s place).body ≡ body → part s place (frame_end s place) ≡ frame tag body
  tagged_bytes place tag body within e f = frame_bytes place within ∙ rw (e, f)

  mutual
    unfolding schema_bytes

    pub node_written : (node : Schema) (levels place : ℕ) → Stands levels s place node → part s place (frame_end s place) ≡ schema_bytes node
    node_written leftover_only levels place stands =
        let here = leftover_stands stands in
        tagged_bytes place 0x00 [] stands.within here.tagged (part_none s (place + 3) (frame_end s place) (omega (arith, here.ends)))
    node_written (column said) levels place stands =
        let here = column_stands stands in
        tagged_bytes place 0x10 (said.code ∷ []) stands.within here.tagged
        (part_cons s (place + 3) (frame_end s place) stands.within (omega (arith, here.ends))
        ∙ rw (part_none s (suc (place + 3)) (frame_end s place) (omega (arith, here.ends)), here.code_at))
    node_written (list element) levels place stands =
        let here = list_stands stands in
        tagged_bytes place 0x20 (schema_bytes element) stands.within here.tagged
        (ap (part s (place + 3)) (sym here.fills) ∙ node_written element (levels - 1) (place + 3) here.inside)
    node_written (fields columns) levels place stands =
        let here = object_stands stands in
        tagged_bytes place 0x30 (fields_bytes columns) stands.within here.tagged (fields_written columns (levels - 1) (place + 3) (frame_end s place) here.inside)

    pub fields_written : (columns : SchemaFields) (levels place to : ℕ) → FieldsStand levels s place to columns → part s place to ≡ fields_bytes columns
    fields_written none_named levels place to stand = part_none s place to (omega (arith, no_columns_lem stand))
    fields_written (named name node more) levels place to stand =
        let here = field_stands stand in
        let node-fills = here.fills in
        let frame_in = here.frame_in in
        let within = stand.within in
        let inside : (piece_at s place).body ≡ frame 0x32 name ++ schema_bytes node =
        part_split s (place + 3) (field_node s place) (frame_end s place) (omega arith) (omega arith)
        ∙ rw (tagged_bytes (place + 3) 0x32 name (omega arith) here.name_tagged (sym here.name_is), ← node-fills, node_written node levels (field_node s place) here.inside) in
        part_split s place (frame_end s place) to (omega arith) frame_in
        ∙ rw (tagged_bytes place 0x31 (frame 0x32 name ++ schema_bytes node) (omega arith) here.tagged inside, fields_written more levels (frame_end s place) to here.behind)

  pub schema_written : (node : Schema) → schema_of s ≡ Some node → s ≡ schema_bytes node
  schema_written node e =
      let stands = schema_stands s node e in
      sym (take_all (length s - 0) s (omega arith)) ∙ ap (part s 0) (sym stands.1) ∙ node_written node most_levels 0 stands.0
