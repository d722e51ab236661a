-- An object's fields one at a time: the first field's frames, its node, and the fields behind it.
use Rattle.std.specs.Prelude.{Option, None, Some}
use mathlib.Core.Bool.{Bool, true, false, ◌&&◌}
use mathlib.Core.List.{List, [], ◌∷◌}
use mathlib.Core.Path.{◌≡◌, refl, sym, ap, ◌∙◌}
use Prim.Native.Nat.{ℕ, ◌+◌, ◌≤◌, ◌<◌}
use native.Mathlib.Omega.{arith}
use borrow.Author.Tests.{lt-leb, leb-true, leb-false}
use lib.Dec.{leb, eqb}
use lib.ListN.{length}
use Rattle.paper.specs.Framing.{Piece, pieces_of, only, one_piece}
use Rattle.paper.specs.Schemas.{Schema, SchemaFields, none_named, named, field_parts, field_nodes, node_of}
use Rattle.paper.specs.Words.{at, part, given, and_then}
use Rattle.schemas.proofs.FrameLaws.{tagged_ends}
use Rattle.frames.proofs.PieceLaws.{piece_then, pieces_none}
use Rattle.schemas.proofs.FramingLaws.{pieces_step}
use Rattle.schemas.specs.Frames.{frame_end, piece_at, frame_within, tagged_within}
use Rattle.schemas.specs.Positions.{field_node, field_name, field_within, node_in, columns_in}

-- ---- a field's parts

given_none : {A : Type 0} (b : Bool) → given {A = A} b None ≡ None
unfolding given
given_none true = refl
given_none false = refl

-- A name, and the one node behind it.
name_node : (inner : Piece → Option Schema) (name : Piece) (rest : Option (List Piece)) (columns : SchemaFields)
    → (and_then (piece_then name rest) λ parts. field_parts inner parts columns)
    ≡ given (eqb name.tag 0x32) (and_then (and_then (and_then rest only) inner) λ node. Some (named name.body node columns))
unfolding piece_then and_then field_parts only
name_node inner name None columns = sym (given_none (eqb name.tag 0x32))
name_node inner name (Some []) columns = sym (given_none (eqb name.tag 0x32))
name_node inner name (Some (node ∷ [])) columns = refl
name_node inner name (Some (node ∷ other ∷ rest)) columns = sym (given_none (eqb name.tag 0x32))

-- A field's body: a name's frame opens it, and a node fills the rest.
module _ (levels : ℕ) (s : List ℕ) (from to : ℕ) (ordered : from ≤ to) (within : to ≤ length s) (columns : SchemaFields) where
  field_parts_lem : (and_then (pieces_of (part s from to)) λ parts. field_parts (node_of levels) parts columns)
      ≡ given (tagged_within s from to 0x32) (and_then (node_in levels s (frame_end s from) to) λ node. Some (named (piece_at s from).body node columns))
  unfolding tagged_within node_in one_piece given and_then field_parts frame_within
  field_parts_lem = go (leb to from) refl
    where
      framed : (b : Bool) → (and_then (given b (piece_then (piece_at s from) (pieces_of (part s (frame_end s from) to)))) λ parts. field_parts (node_of levels) parts columns)
          ≡ given (b && eqb (at s from) 0x32) (and_then (and_then (and_then (pieces_of (part s (frame_end s from) to)) only) (node_of levels)) λ node. Some (named (piece_at s from).body node columns))
      framed false = refl
      framed true = name_node (node_of levels) (piece_at s from) (pieces_of (part s (frame_end s from) to)) columns

      go : (b : Bool) → leb to from ≡ b → (and_then (pieces_of (part s from to)) λ parts. field_parts (node_of levels) parts columns)
          ≡ given (frame_within s from to && eqb (at s from) 0x32) (and_then (and_then (and_then (pieces_of (part s (frame_end s from) to)) only) (node_of levels)) λ node. Some (named (piece_at s from).body node columns))
      go true e = let past : to ≤ from = leb-true to from e in rw (pieces_none s from to past, lt-leb (from + 3) to (omega arith))
      go false e = rw (pieces_step s from to within (leb-false to from e)) (framed (frame_within s from to))

-- ---- a field, and those behind it

unfoldable pub field_then : List ℕ → Option Schema → Option SchemaFields → Option SchemaFields
field_then name node more = and_then node λ n. and_then more λ columns. Some (named name n columns)

then_none : (name : List ℕ) (node : Option Schema) → field_then name node None ≡ None
unfolding field_then and_then
then_none name None = refl
then_none name (Some node) = refl

module _ (levels : ℕ) (s : List ℕ) (place to : ℕ) (more : place < to) (within : to ≤ length s) where
  columns_first : columns_in levels s place to
      ≡ given (tagged_within s place to 0x31)
      (and_then (columns_in levels s (frame_end s place) to) λ columns. and_then (pieces_of (piece_at s place).body) λ parts. field_parts (node_of levels) parts columns)
  unfolding columns_in tagged_within given and_then piece_then field_nodes
  columns_first = rw (pieces_step s place to within more) (go (frame_within s place to) (pieces_of (part s (frame_end s place) to)))
    where
      go : (b : Bool) (rest : Option (List Piece)) → and_then (given b (piece_then (piece_at s place) rest)) (field_nodes (node_of levels))
          ≡ given (b && eqb (at s place) 0x31) (and_then (and_then rest (field_nodes (node_of levels))) λ columns. and_then (pieces_of (piece_at s place).body) λ parts. field_parts (node_of levels) parts columns)
      go false rest = refl
      go true None = sym (given_none (eqb (at s place) 0x31))
      go true (Some pieces) = refl

  pub columns_at : columns_in levels s place to
      ≡ given (field_within s place to) (field_then (field_name s place) (node_in levels s (field_node s place) (frame_end s place)) (columns_in levels s (frame_end s place) to))
  unfolding field_within given and_then field_then
  columns_at = columns_first ∙ go (tagged_within s place to 0x31) refl
    where
      inside : frame_end s place ≤ to → (rest : Option SchemaFields) → (and_then rest λ columns. and_then (pieces_of (piece_at s place).body) λ parts. field_parts (node_of levels) parts columns)
          ≡ given (tagged_within s (place + 3) (frame_end s place) 0x32) (field_then (field_name s place) (node_in levels s (field_node s place) (frame_end s place)) rest)
      inside h None = sym (ap (given (tagged_within s (place + 3) (frame_end s place) 0x32)) (then_none (field_name s place) (node_in levels s (field_node s place) (frame_end s place))) ∙ given_none (tagged_within s (place + 3) (frame_end s place) 0x32))
      inside h (Some columns) = field_parts_lem levels s (place + 3) (frame_end s place) (omega arith) (omega arith) columns

      go : (b : Bool) → tagged_within s place to 0x31 ≡ b
          → given b (and_then (columns_in levels s (frame_end s place) to) λ columns. and_then (pieces_of (piece_at s place).body) λ parts. field_parts (node_of levels) parts columns)
          ≡ given (b && tagged_within s (place + 3) (frame_end s place) 0x32) (field_then (field_name s place) (node_in levels s (field_node s place) (frame_end s place)) (columns_in levels s (frame_end s place) to))
      go false e = refl
      go true e = inside (tagged_ends s place to 0x31 e) (columns_in levels s (frame_end s place) to)

pub columns_ended : (levels : ℕ) (s : List ℕ) (place to : ℕ) → to ≤ place → columns_in levels s place to ≡ Some none_named
unfolding columns_in and_then field_nodes
columns_ended levels s place to h = rw (pieces_none s place to h)
