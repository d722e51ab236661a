-- A scalar alone: its place by the outermost node, six bytes longer than it at most, and the row that is handed out.
use Rattle.paper.specs.Refusals.{RowAnswer}
use Rattle.std.specs.Prelude.{Some, None, Option, IsSome}
use mathlib.Core.Bool.{Bool, true, false, cond}
use mathlib.Core.List.{List, [], ◌∷◌}
use mathlib.Core.Logic.{◌⊎◌, inl, inr}
use mathlib.Core.Path.{◌≡◌, refl, ap, ◌∙◌}
use Prim.Native.Nat.{ℕ, ◌+◌, ◌-◌, ◌≤◌}
use native.Mathlib.Omega.{arith}
use lib.Dec.{eqb}
use lib.ListN.{length, take, drop, length-drop}
use Rattle.cutting.proofs.ColumnLaws.{column_cut, value_headed}
use Rattle.cutting.proofs.ListLaws.{no_list}
use Rattle.cutting.proofs.NodeLaws.{put_left}
use Rattle.cutting.proofs.ObjectLaws.{no_fields_lem}
use Rattle.cutting.specs.Cutting.{Valued}
use Rattle.enclosing.proofs.FrameLaws.{place_size}
use Rattle.enclosing.specs.Frames.{place_of, typed_if, fixed_place, column_place, Headed}
use Rattle.forms.proofs.NamesLaws.{normal-names_there}
use Rattle.normalise.proofs.NumberedLaws.{last_bytes}
use Rattle.paper.specs.FirstBytes.{reading_of}
use Rattle.paper.specs.Limits.{most_levels, most_value}
use Rattle.paper.specs.Meaning.{Doc}
use Rattle.paper.specs.Normal.{names_used, value_bytes}
use Rattle.paper.specs.Operations.{row_outcome}
use Rattle.paper.specs.Rows.{leftover}
use Rattle.paper.specs.Schemas.{Schema, leftover_only, column, list, fields}
use Rattle.paper.specs.Shredding.{cut, place_bytes}
use Rattle.paper.specs.Words.{at}
use Rattle.paper.specs.declared.Reading.TheVariants.{Fixed, Prefixed, Short, ObjectHead, ArrayHead, Nothing}
use Rattle.paper.specs.declared.Reading.{Reading}
use Rattle.putting.proofs.PutLaws.{told_here, told_full}
use Rattle.putting.specs.Put.{PutAs}
use Rattle.schemas.proofs.KindLaws.{kind_there, leftover_here_lem, column_here_lem, list_here_lem, object_here}
use Rattle.schemas.proofs.StandingLaws.{column_stands, schema_stands}
use Rattle.schemas.specs.Kinds.{kind_at, KindThere}
use Rattle.schemas.specs.Positions.{Stands}
use Rattle.schemas.specs.declared.readers.Kind.TheVariants.{Leftover, Column as ColumnKind, List as ListKind, Fields as FieldsKind}
use Rattle.schemas.specs.declared.readers.Kind.{Kind}
use Rattle.handing.proofs.HandLaws.{row_outcome_lem}
use Rattle.handing.specs.Handing.{RowAnswered, row_from, no_names, Alone}

-- ---- how long a place is

typed_size : (b : Bool) (cell s : List ℕ) → length cell ≤ length s → length (typed_if b cell s) ≤ 6 + length s
unfolding typed_if
typed_size true cell s few = let size = place_size 0x42 cell in omega arith
typed_size false cell s few = let size = place_size 0x41 s in omega arith

dropped : (n : ℕ) (s : List ℕ) → length (drop n s) ≤ length s
dropped n s = rw (length-drop n s) (omega arith)

fixed_size : (code kind : ℕ) (s : List ℕ) → 1 ≤ length s → length (fixed_place code kind s) ≤ 6 + length s
unfolding fixed_place
fixed_size code kind s some = go (eqb code 1) (eqb kind 1) (eqb kind 2)
  where
    go : (b c d : Bool) → length (cond b (cond c (place_of 0x42 (0x01 ∷ [])) (cond d (place_of 0x42 (0x00 ∷ [])) (place_of 0x41 s))) (typed_if (eqb code kind) (drop 1 s) s)) ≤ 6 + length s
    go true true d = let size = place_size 0x42 (0x01 ∷ []) in omega arith
    go true false true = let size = place_size 0x42 (0x00 ∷ []) in omega arith
    go true false false = let size = place_size 0x41 s in omega arith
    go false c d = typed_size (eqb code kind) (drop 1 s) s (dropped 1 s)

column_size : (code : ℕ) (r : Reading) (s : List ℕ) → 1 ≤ length s → length (column_place code r s) ≤ 6 + length s
unfolding column_place
column_size code (Fixed kind size) s some = fixed_size code kind s some
column_size code (Prefixed kind) s some = typed_size (eqb code kind) (drop 5 s) s (dropped 5 s)
column_size code (Short size) s some = typed_size (eqb code 16) (drop 1 s) s (dropped 1 s)
column_size code (ObjectHead counted id width) s some = let size = place_size 0x41 s in omega arith
column_size code (ArrayHead counted width) s some = let size = place_size 0x41 s in omega arith
column_size code Nothing s some = let size = place_size 0x41 s in omega arith

module _ {schema value : List ℕ} (alone : Alone schema value) where
  abbrev Under : Schema
  Under = alone.normal.node

  abbrev Document : Doc
  Document = alone.normal.d

  abbrev Place : List ℕ
  Place = place_bytes (names_used Document) (cut Under Document)

  stands : Stands most_levels schema 0 Under
  stands = (schema_stands schema Under alone.normal.node_is).0

  valued : Valued (names_used Document) value (length value) (length value)
  valued =
      record {
        d = Document;
        depth = most_levels;
        is = alone.normal.value_is;
        good = alone.normal.good;
        there = normal-names_there Document;
        short = alone.normal.value_short;
        notes_room = omega arith;
        ids_room = omega arith;
      }

  pub alone_kind : KindThere schema 0
  alone_kind = kind_there stands

  value_short : length (value_bytes (names_used Document) Document) ≤ most_value
  value_short = rw alone.normal.value_is at alone.normal.value_short

  pub alone_headed : Headed value
  alone_headed = rw alone.normal.value_is (value_headed (names_used Document) most_levels Document alone.normal.good value_short)

  -- ---- by the kind of the outermost node

  module _ {k : Kind} (is : k ≡ kind_at schema 0) where
    module _ {before after : List ℕ} {end : ℕ} {r : Option ℕ} (left : PutAs (place_of 0x41 value) before after 0 end r) where
      left_over : cut Under Document ≡ leftover Document → PutAs Place before after 0 end r
      unfolding valued
      left_over same = put_left Under valued same left

      alone_leftover : k ≡ Leftover → PutAs Place before after 0 end r
      unfolding cut
      alone_leftover e = left_over (ap (λ (n : Schema). cut n Document) (leftover_here_lem stands is e))

      alone_list : k ≡ ListKind → PutAs Place before after 0 end r
      alone_list e = let here = list_here_lem stands is e in left_over (ap (λ (n : Schema). cut n Document) here.1 ∙ no_list here.0 Document alone.no_array)

      alone_fields : k ≡ FieldsKind → PutAs Place before after 0 end r
      alone_fields e = let here = object_here stands is e in left_over (ap (λ (n : Schema). cut n Document) here.1 ∙ no_fields_lem here.0 Document alone.no_object)

      pub alone_untyped : (k ≡ Leftover) ⊎ ((k ≡ ListKind) ⊎ (k ≡ FieldsKind)) → PutAs Place before after 0 end r
      alone_untyped (inl e) = alone_leftover e
      alone_untyped (inr (inl e)) = alone_list e
      alone_untyped (inr (inr e)) = alone_fields e

    column_is : {code : ℕ} → k ≡ ColumnKind code → Place ≡ column_place code (reading_of (at value 0)) value
    column_is e =
        let here = column_here_lem stands is e in
        ap (λ (n : Schema). place_bytes (names_used Document) (cut n Document)) here.1
        ∙ column_cut here.0 here.3.good (names_used Document) most_levels Document alone.normal.good ∙ rw (here.2, ← alone.normal.value_is)

    pub alone_column : {code : ℕ} → k ≡ ColumnKind code → {before after : List ℕ} {end : ℕ} {r : Option ℕ}
        → PutAs (column_place code (reading_of (at value 0)) value) before after 0 end r → PutAs Place before after 0 end r
    alone_column e done = rw (column_is e) done

  -- ---- what was put, and the row

  left_size : (node : Schema) → cut node Document ≡ leftover Document → length (place_bytes (names_used Document) (cut node Document)) ≤ 6 + length value
  unfolding place_bytes place_of
  left_size node same =
      let is : place_bytes (names_used Document) (cut node Document) ≡ place_of 0x41 value = ap (place_bytes (names_used Document)) same ∙ rw (← alone.normal.value_is) in
      let long = ap length is ∙ place_size 0x41 value in
      omega arith

  place_short : length Place ≤ 6 + length value
  unfolding cut
  place_short = go Under stands
    where
      go : (node : Schema) → Stands most_levels schema 0 node → length (place_bytes (names_used Document) (cut node Document)) ≤ 6 + length value
      go leftover_only here = left_size leftover_only refl
      go (column said) here =
          let is : place_bytes (names_used Document) (cut (column said) Document) ≡ column_place said.code (reading_of (at value 0)) value =
          column_cut said (column_stands here).good (names_used Document) most_levels Document alone.normal.good ∙ rw (← alone.normal.value_is) in
          let size = column_size said.code (reading_of (at value 0)) value alone_headed.first in
          rw is size
      go (list element) here = left_size (list element) (no_list element Document alone.no_array)
      go (fields columns) here = left_size (fields columns) (no_fields_lem columns Document alone.no_object)

-- ---- of every reading of the bytes

module _ {schema value before after : List ℕ} {r : Option ℕ}
    (put : (alone : Alone schema value) → PutAs (place_bytes (names_used alone.normal.d) (cut alone.normal.node alone.normal.d)) before after 0 (length before) r) where
  pub alone_fits : Alone schema value → 6 + length value ≤ length before → IsSome r
  alone_fits known room = go r refl
    where
      go : (o : Option ℕ) → r ≡ o → IsSome o
      go (Some start) e = refl
      go None e = let long = told_full (put known) e in let short = place_short known in absurd (omega arith)

  pub alone_starts : Alone schema value → {start : ℕ} → r ≡ Some start → start ≤ length before
  alone_starts known e = let size = (told_here (put known) e).1.size in omega arith

  pub alone_answers : {start : ℕ} → r ≡ Some start → {row row' : List ℕ} {a : RowAnswer}
      → RowAnswered (row_from no_names (take (length before - start) (drop start after))) row row' a
      → (alone : Alone schema value) → RowAnswered (row_outcome alone.normal.node alone.normal.d) row row' a
  alone_answers e answered alone =
      rw (alone.normal.metadata_is, last_bytes (told_here (put alone) e).1, row_outcome_lem alone.normal.node alone.normal.d (value_short alone)) at answered
