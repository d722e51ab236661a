-- The loop over an object's fields: up to a field its fields are good, and those from it on decide.
use Rattle.std.specs.Prelude.{Option, None, Some}
use mathlib.Core.Bool.{Bool, true, false, not, ◌&&◌}
use mathlib.Core.List.{List, [], ◌∷◌, ◌++◌}
use mathlib.Core.Path.{◌≡◌, refl, sym, ◌∙◌}
use Prim.Native.Nat.{ℕ, ◌≤◌, ◌<◌}
use native.Mathlib.Omega.{arith}
use borrow.Author.Tests.{le-leb, eq-eqb, ne_eqb, eqb-true, eqb-false, not-true, not-false}
use lib.Dec.{leb, eqb}
use lib.ListN.{length}
use Rattle.order.specs.Before.{before}
use Rattle.paper.specs.Framing.{Piece, pieces_of}
use Rattle.paper.specs.Metadata.{rising}
use Rattle.paper.specs.Schemas.{Schema, fields, SchemaFields, none_named, named, column_names, field_nodes, node_by, node_of}
use Rattle.paper.specs.Words.{part, given, and_then, is_there}
use Rattle.schemas.proofs.FieldLaws.{field_then, columns_at, columns_ended}
use Rattle.schemas.proofs.FieldFrameLaws.{FieldHere, field_here}
use Rattle.frames.proofs.PieceLaws.{piece_then, pieces_none}
use Rattle.schemas.proofs.FramingLaws.{pieces_step}
use Rattle.schemas.specs.Frames.{frame_end, piece_at, frame_within}
use Rattle.schemas.specs.Positions.{field_node, field_name, field_within, follows_at, node_in, columns_in, object_in}

-- ---- names that rise behind others

-- Fields are there, and their names rise behind some.
unfoldable pub rising_behind : List (List ℕ) → Option SchemaFields → Bool
rising_behind names more = is_there (and_then more λ columns. given (rising (names ++ column_names columns)) (Some columns))

-- The name of the field before the one at a place, if there is one.
pub data NameBefore (s : List ℕ) (last place : ℕ) : List (List ℕ) → Type 0 where
  first_field : last ≡ place → NameBefore s last place []
  behind_field : last < place → field_node s last ≤ length s → NameBefore s last place (field_name s last ∷ [])

-- Whether a test passes does not depend on what it is for.
same_test : {A B : Type 0} (b : Bool) (x : A) (y : B) → is_there (given b (Some x)) ≡ is_there (given b (Some y))
unfolding given is_there
same_test true x y = refl
same_test false x y = refl

rising_then : (s : List ℕ) (last place : ℕ) {names : List (List ℕ)} → NameBefore s last place names → (node : Option Schema) (more : Option SchemaFields)
    → rising_behind names (field_then (field_name s place) node more) ≡ is_there node && (follows_at s last place && rising_behind (field_name s place ∷ []) more)
unfolding rising_behind field_then and_then is_there column_names follows_at given rising
rising_then s last place (first_field e) None more = refl
rising_then s last place (first_field e) (Some node) None = rw (eq-eqb last place e)
rising_then s last place (first_field e) (Some node) (Some columns) =
    rw (eq-eqb last place e) (same_test (rising (field_name s place ∷ column_names columns)) (named (field_name s place) node columns) columns)
rising_then s last place (behind_field h k) None more = refl
rising_then s last place (behind_field h k) (Some node) None = rw (ne_eqb last place (omega arith)) (go (before (field_name s last) (field_name s place)))
  where
    go : (b : Bool) → false ≡ b && false
    go true = refl
    go false = refl
rising_then s last place (behind_field h k) (Some node) (Some columns) =
    rw (ne_eqb last place (omega arith)) (go (before (field_name s last) (field_name s place)))
  where
    go : (b : Bool) → is_there (given (b && rising (field_name s place ∷ column_names columns)) (Some (named (field_name s place) node columns)))
        ≡ b && is_there (given (rising (field_name s place ∷ column_names columns)) (Some columns))
    go true = same_test (rising (field_name s place ∷ column_names columns)) (named (field_name s place) node columns) columns
    go false = refl

-- ---- the whole object

object_none : (levels : ℕ) (s : List ℕ) (from to : ℕ) → from ≡ to → false ≡ is_there (object_in levels s from to)
unfolding object_in node_by and_then field_nodes given is_there
object_none levels s from to e = rw (pieces_none s from to (omega arith))

-- Up to a field the fields are good: those from it on decide.
pub record FieldsSeen (levels : ℕ) (s : List ℕ) (from to last place : ℕ) : Type 0 where
  pub begun : from ≤ place
  pub before_end : place ≤ to
  pub names : List (List ℕ)
  pub seen : NameBefore s last place names
  pub whole_is : (from ≡ to → ⊥) → is_there (object_in levels s from to) ≡ rising_behind names (columns_in levels s place to)

module _ (levels : ℕ) (s : List ℕ) (from to : ℕ) (ordered : from ≤ to) (within : to ≤ length s) where
  object_columns : (from ≡ to → ⊥) → is_there (object_in levels s from to) ≡ rising_behind [] (columns_in levels s from to)
  unfolding object_in columns_in node_by rising_behind given and_then is_there piece_then
  object_columns some_bytes = rw (pieces_step s from to within (omega arith)) (go (frame_within s from to) (pieces_of (part s (frame_end s from) to)))
    where
      counted : (pieces : List Piece) → leb 1 (length pieces) ≡ true → (more : Option SchemaFields)
          → is_there (and_then more λ columns. given (leb 1 (length pieces) && rising (column_names columns)) (Some (fields columns)))
          ≡ is_there (and_then more λ columns. given (rising (column_names columns)) (Some columns))
      counted pieces e None = refl
      counted pieces e (Some columns) = rw e (same_test (rising (column_names columns)) (fields columns) columns)

      go : (b : Bool) (rest : Option (List Piece))
          → is_there (and_then (given b (piece_then (piece_at s from) rest)) λ pieces. and_then (field_nodes (node_of levels) pieces) λ columns. given (leb 1 (length pieces) && rising (column_names columns)) (Some (fields columns)))
          ≡ is_there (and_then (and_then (given b (piece_then (piece_at s from) rest)) (field_nodes (node_of levels))) λ columns. given (rising (column_names columns)) (Some columns))
      go false rest = refl
      go true None = refl
      go true (Some pieces) = counted (piece_at s from ∷ pieces) (le-leb 1 (length (piece_at s from ∷ pieces)) (omega arith)) (field_nodes (node_of levels) (piece_at s from ∷ pieces))

  pub fields_start : FieldsSeen levels s from to from from
  fields_start = record { begun = omega arith; before_end = ordered; names = []; seen = first_field refl; whole_is = object_columns }

-- ---- one field more

-- What is there once a field's frames passed: the names of the field and of the one before it, and its own frame.
pub record FieldPassed (s : List ℕ) (last place : ℕ) : Type 0 where
  pub last_named : field_node s last ≤ length s
  pub name_in : field_node s place ≤ frame_end s place
  pub frame_in : frame_end s place ≤ length s

module _ {levels : ℕ} {s : List ℕ} {from to last place : ℕ} (seen : FieldsSeen levels s from to last place) where
  pub fields_done : to ≤ place → not (eqb from to) ≡ is_there (object_in levels s from to)
  unfolding rising_behind and_then column_names is_there given rising
  fields_done past = go (eqb from to) refl
    where
      ended : {names : List (List ℕ)} → NameBefore s last place names → is_there (given (rising (names ++ [])) (Some none_named)) ≡ true
      ended (first_field e) = refl
      ended (behind_field h k) = refl

      go : (b : Bool) → eqb from to ≡ b → not b ≡ is_there (object_in levels s from to)
      go true e = object_none levels s from to (eqb-true from to e)
      go false e = sym (seen.whole_is (eqb-false from to e) ∙ rw (columns_ended levels s place to past) (ended seen.seen))

  module _ (within : to ≤ length s) (more : place < to) (framed : Bool) (is : framed ≡ field_within s place to) where
    whole : is_there (object_in levels s from to) ≡ rising_behind seen.names (columns_in levels s place to)
    whole = seen.whole_is (omega (arith, seen.begun))

    pub fields_cut : not framed ≡ true → false ≡ is_there (object_in levels s from to)
    unfolding rising_behind and_then given is_there
    fields_cut e =
        let f : field_within s place to ≡ false = sym is ∙ not-true framed e in
        sym (whole ∙ rw (columns_at levels s place to more within, f))

    module _ (passed : not framed ≡ false) where
      here : FieldHere s place to
      here = field_here s place to (sym is ∙ not-false framed passed)

      pub field_passed : FieldPassed s last place
      field_passed =
          record {
            last_named = go seen.seen;
            name_in = here.name_in;
            frame_in = omega (arith, here.frame_in);
          }
        where
          go : {names : List (List ℕ)} → NameBefore s last place names → field_node s last ≤ length s
          go (first_field e) = rw e (omega (arith, here.name_in, here.frame_in))
          go (behind_field h k) = k

      left : is_there (object_in levels s from to)
          ≡ is_there (node_in levels s (field_node s place) (frame_end s place)) && (follows_at s last place && rising_behind (field_name s place ∷ []) (columns_in levels s (frame_end s place) to))
      unfolding given
      left =
          whole ∙ rw (columns_at levels s place to more within, ← is, not-false framed passed)
          (rising_then s last place seen.seen (node_in levels s (field_node s place) (frame_end s place)) (columns_in levels s (frame_end s place) to))

      module _ (follows : Bool) (also : follows ≡ follows_at s last place) where
        pub fields_fall : not follows ≡ true → false ≡ is_there (object_in levels s from to)
        fields_fall e = sym (left ∙ rw (← also, not-true follows e) (go (is_there (node_in levels s (field_node s place) (frame_end s place)))))
          where
            go : (b : Bool) → b && false ≡ false
            go true = refl
            go false = refl

        module _ (rises : not follows ≡ false) (inner next : ℕ) (starts : inner ≡ field_node s place) (ends : next ≡ frame_end s place)
            (node : Bool) (judged : node ≡ is_there (node_in levels s inner next)) where
          left_node : is_there (object_in levels s from to) ≡ node && rising_behind (field_name s place ∷ []) (columns_in levels s next to)
          left_node = left ∙ rw (← also, not-false follows rises, judged, starts, ends)

          pub fields_bad : not node ≡ true → false ≡ is_there (object_in levels s from to)
          fields_bad e = sym (left_node ∙ rw (not-true node e))

          pub fields_next : not node ≡ false → FieldsSeen levels s from to place next
          fields_next e =
              record {
                begun = omega (arith, seen.begun);
                before_end = omega (arith, here.frame_in);
                names = field_name s place ∷ [];
                seen = behind_field (omega arith) (omega (arith, here.name_in, here.frame_in));
                whole_is = λ h. left_node ∙ rw (not-false node e);
              }
