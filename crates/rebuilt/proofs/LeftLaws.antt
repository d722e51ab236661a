-- The members of a leftover object are the fields that it means, and their names rise; an object without members has none.
use Rattle.std.specs.Prelude.{None, Some}
use mathlib.Core.Bool.{Bool, true, false, cond}
use mathlib.Core.List.{List, [], ◌∷◌}
use mathlib.Core.Path.{◌≡◌, refl, sym, ap, subst, ◌∙◌}
use Prim.Native.Nat.{ℕ, zero, suc, ◌-◌, ◌+◌, ◌/◌, ◌%◌, ◌≤◌}
use native.Mathlib.Omega.{arith}
use borrow.Author.Tests.{eqb-true}
use lib.Dec.{eqb}
use lib.ListN.{length, get_or, drop, length-drop}
use Rattle.clashes.proofs.LeftKindLaws.{left_kind}
use Rattle.containers.proofs.LayoutLaws.{ids_starts_length}
use Rattle.forms.proofs.LieLaws.{Bytes, bytes_drop, members_lie}
use Rattle.forms.proofs.WellFormedLaws.{decoded-well_formed}
use Rattle.forms.specs.WellFormed.{all_members, well_formed_by, well_formed}
use Rattle.marking.specs.Ids.{ids_inside, ids_by, ids_in}
use Rattle.numbers.specs.Little.{number, number_at}
use Rattle.paper.proofs.WordLaws.{never, given_some, then_some, and_both, some_there}
use Rattle.paper.specs.Bounds.{most_walked}
use Rattle.paper.specs.FirstBytes.{reading_of, kind_reading, count_size}
use Rattle.paper.specs.Meaning.{object, Fields, no_fields, field}
use Rattle.paper.specs.Metadata.{Dictionary, rising}
use Rattle.paper.specs.Normal.{field_names, member_bytes}
use Rattle.paper.specs.Rebuilding.{fields_in}
use Rattle.paper.specs.Rules.{is_object}
use Rattle.paper.specs.Values.{head_size_of, children_at, area_of, starts_of, ids_of, names_at, members_of, member_docs, meaning_by, meaning_of, whole}
use Rattle.paper.specs.Words.{at, is_there, numbers}
use Rattle.paper.specs.declared.Reading.TheVariants.{ObjectHead, Nothing}
use Rattle.rebuilt.proofs.MergeLaws.{IsField, AreFields, none_are, one_more}
use Rattle.rebuilt.proofs.NumberedLaws.{numbered_front, numbered_behind, numbered_more, numbered_rank, numbered_there}
use Rattle.rebuilt.specs.Members.{members_with, left_members_by, left_members, no_left}
use Rattle.rebuilt.specs.There.{Numbered}
use Rattle.values.proofs.ValueLaws.{object_container, object_id}
use Rattle.writing.proofs.MeaningLaws.{members_written, names_length, rewritten_is}
use Rattle.writing.specs.Rewritten.{parts_of, rewritten}
use Rattle.writing.specs.Written.{Right}
use Rattle.std.proofs.lemmas.Option.{same_Some}

-- ---- an object's own byte

pub record ObjectRead (s : List ℕ) : Type 0 where
  pub count_size_lem : ℕ
  pub id_size : ℕ
  pub offset_size : ℕ
  pub is : reading_of (at s 0) ≡ ObjectHead count_size_lem id_size offset_size

pub object_read : (levels : ℕ) (names : Dictionary) (s : List ℕ) (fs : Fields) → meaning_by (meaning_of levels names) names (reading_of (at s 0)) s ≡ Some (object fs)
    → at s 0 % 4 ≡ 2 → ObjectRead s
unfolding reading_of kind_reading meaning_by is_there
object_read levels names s fs e two =
    let reading : reading_of (at s 0) ≡ kind_reading 2 (at s 0 / 4) = rw two in
    go (eqb (at s 0 / 4 / 32) 0) reading (rw two at e)
  where
    go : (used : Bool)
        → reading_of (at s 0) ≡ cond used (ObjectHead (count_size (at s 0 / 4 / 16 % 2)) (at s 0 / 4 / 4 % 4 + 1) (at s 0 / 4 % 4 + 1)) Nothing
        → meaning_by (meaning_of levels names) names (cond used (ObjectHead (count_size (at s 0 / 4 / 16 % 2)) (at s 0 / 4 / 4 % 4 + 1) (at s 0 / 4 % 4 + 1)) Nothing) s
        ≡ Some (object fs) → ObjectRead s
    go true is m = record { count_size_lem = _; id_size = _; offset_size = _; is = is }
    go false is m = never (sym (some_there None m))

module _ (names normal : Dictionary) (ranks : List ℕ) where
  -- ---- members with ids, as fields with names

  with_are : (ids : List ℕ) (fs : Fields) → field_names fs ≡ names_at names ids → Numbered names normal ranks ids
      → AreFields normal ranks (members_with ids (member_bytes normal fs)) fs
  unfolding field_names names_at members_with member_bytes
  with_are [] no_fields are numbered = none_are
  with_are [] (field name d fs) are numbered = let none_left = ap length are in absurd (omega arith)
  with_are (id ∷ ids) no_fields are numbered = let none_left = ap length are in absurd (omega arith)
  with_are (id ∷ ids) (field name d fs) are numbered =
      let named : get_or names id [] ≡ name = sym (ap (λ (l : List (List ℕ)). get_or l 0 []) are) in
      let one : IsField normal ranks (record { id = id; bytes = _ }) name d =
      record { rank = numbered_rank id ids numbered named; there = numbered_there id ids numbered named; bytes_are = refl } in
      one_more one (with_are ids fs (ap (drop 1) are) (numbered_more id ids numbered))

  module _ (levels : ℕ) (s : List ℕ) (bytes : Bytes s) (small : length s ≤ most_walked) (fills : whole s ≡ true) (fs : Fields) (c i w : ℕ)
      (is : reading_of (at s 0) ≡ ObjectHead c i w) where
    area_bytes : Bytes (area_of c i w s)
    unfolding area_of
    area_bytes = bytes_drop (head_size_of (number_at s 1 c) c i w) s bytes

    area_small : length (area_of c i w s) ≤ most_walked
    unfolding area_of
    area_small = rw length-drop (omega arith)

    head_are : meaning_by (meaning_of levels names) names (ObjectHead c i w) s ≡ Some (object fs)
        → Numbered names normal ranks (ids_by (ids_in levels) (ObjectHead c i w) s)
        → AreFields normal ranks (left_members_by (rewritten levels ranks) (ObjectHead c i w) s) fs
    unfolding meaning_by ids_by left_members_by parts_of ids_inside fields_in
    head_are e numbered =
        let lie = then_some (members_of names c i w s) _ e in
        let inside = then_some (member_docs (meaning_of levels names) (area_of c i w s) (names_at names (ids_of c i s)) lie.0) _ lie.2 in
        let same : inside.0 ≡ fs = ap fields_in (same_Some (object inside.0) (object fs) inside.2) in
        let lies = members_lie names s c i w lie.0 lie.1 in
        let container = object_container s fills (ObjectHead c i w) (sym is) c i w refl small in
        let least = object_id s fills (ObjectHead c i w) (sym is) c i w refl in
        let many : length (names_at names (ids_of c i s)) ≡ length (starts_of c i w s) =
        names_length names (ids_of c i s) ∙ ids_starts_length s c i w container least in
        let right : Right names normal ranks (ids_inside (ids_in levels) (area_of c i w s) (children_at (area_of c i w s) (starts_of c i w s))) =
        (numbered_behind (ids_of c i s) (ids_inside (ids_in levels) (area_of c i w s) (children_at (area_of c i w s) (starts_of c i w s))) numbered).right in
        let both = members_written names normal ranks (meaning_of levels names) (ids_in levels) (rewritten levels ranks)
        (λ t d m b l r. rewritten_is levels names normal ranks t d m b l r) (area_of c i w s) area_bytes area_small (starts_of c i w s)
        lie.0 (names_at names (ids_of c i s)) inside.0 many lies.are inside.1 (rw lies.are at right) in
        let are : AreFields normal ranks (members_with (ids_of c i s) (parts_of (rewritten levels ranks) c i w s)) inside.0 =
        rw both.0 (with_are (ids_of c i s) inside.0 both.1 (numbered_front (ids_of c i s) _ numbered)) in
        subst (AreFields normal ranks (members_with (ids_of c i s) (parts_of (rewritten levels ranks) c i w s))) same are

  -- ---- a leftover that is an object

  module _ (left : List ℕ) (bytes : Bytes left) (small : length left ≤ most_walked) (fs : Fields) where
    pub left_are : (levels : ℕ) → meaning_of levels names left ≡ Some (object fs) → Numbered names normal ranks (ids_in levels left)
        → AreFields normal ranks (left_members (levels - 1) ranks left) fs
    unfolding meaning_of is_there ids_in left_members is_object
    left_are zero e numbered = never (sym (some_there None e))
    left_are (suc levels) e numbered =
        let told = given_some (whole left) _ e in
        let two : at left 0 % 4 ≡ 2 = eqb-true (at left 0 % 4) 2 (sym (left_kind (suc levels) names left e).0) in
        let read = object_read levels names left fs told.1 two in
        let one_less : suc levels - 1 ≡ levels = omega arith in
        rw (one_less, read.is)
        (head_are levels left bytes small told.0 fs read.count_size_lem read.id_size read.offset_size read.is (rw read.is at told.1) (rw read.is at numbered))

pub left_rises : (levels : ℕ) (names : Dictionary) (left : List ℕ) (fs : Fields) → meaning_of levels names left ≡ Some (object fs) → rising (field_names fs) ≡ true
unfolding well_formed well_formed_by
left_rises zero names left fs e = never (sym (decoded-well_formed zero names left (object fs) e))
left_rises (suc levels) names left fs e =
    (and_both (rising (field_names fs)) (all_members (well_formed levels) fs) (decoded-well_formed (suc levels) names left (object fs) e)).0

-- ---- no leftover

pub none_left : (levels : ℕ) (ranks : List ℕ) → left_members levels ranks no_left ≡ []
unfolding left_members reading_of kind_reading left_members_by members_with ids_of count_size numbers number_at number
none_left levels ranks = refl
