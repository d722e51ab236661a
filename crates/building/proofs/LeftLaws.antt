-- A leftover object's members and the notes of them, in step: each is a lawful value that can be written above the floor.
use Rattle.std.specs.Prelude.{Option, None, Some}
use mathlib.Core.Bool.{true, ◌&&◌}
use mathlib.Core.List.{List, [], ◌∷◌, ◌++◌, map}
use mathlib.Core.Path.{◌≡◌, refl, sym, ◌∙◌}
use Prim.Native.Nat.{ℕ, suc, ◌-◌, ◌*◌, ◌%◌, ◌≤◌, ◌<◌}
use native.Mathlib.Omega.{arith}
use borrow.Author.Tests.{eqb-true, ltb-true}
use lib.Dec.{ltb}
use lib.ListN.{length, length-drop}
use Rattle.containers.proofs.ChildLaws.{extent_fits, children_below}
use Rattle.containers.proofs.WalkLaws.{below_more}
use Rattle.marking.proofs.UsedIdLaws.{ids_below_lem}
use Rattle.ranking.proofs.HeldLaws.{below_both}
use Rattle.containers.proofs.LayoutLaws.{ids_starts_length}
use Rattle.containers.specs.Children.{once_in}
use Rattle.containers.specs.Layouts.{HeadThere}
use Rattle.forms.proofs.LieLaws.{bytes_drop, child_bytes_lem}
use Rattle.marking.specs.Ids.{ids_of_all, ids_inside, ids_by, ids_in}
use Rattle.noting.specs.Notes.{left_notes}
use Rattle.numbers.specs.Little.{number_at}
use Rattle.clashes.proofs.LeftKindLaws.{left_kind}
use Rattle.paper.specs.Rules.{is_object}
use Rattle.paper.proofs.WordLaws.{never, given_some, then_some, and_both, some_there, there_some}
use Rattle.paper.specs.FirstBytes.{reading_of}
use Rattle.paper.specs.Limits.{most_leftover}
use Rattle.paper.specs.Meaning.{object}
use Rattle.paper.specs.Metadata.{Dictionary, rising}
use Rattle.paper.specs.Values.{head_size_of, child_extent, children_at, child_bytes, area_of, starts_of, ids_of, names_at, meaning_by, meaning_of, whole}
use Rattle.paper.specs.declared.Child.{Child}
use Rattle.paper.specs.Words.{at, is_there, all_below}
use Rattle.paper.specs.declared.Reading.TheVariants.{ObjectHead}
use Rattle.rebuilt.proofs.LeftLaws.{ObjectRead, object_read}
use Rattle.rebuilt.proofs.NumberedLaws.{numbered_front, numbered_behind}
use Rattle.rebuilt.specs.Members.{Member, members_with, left_members_by, left_members}
use Rattle.rebuilt.specs.There.{Numbered}
use Rattle.values.proofs.ValueLaws.{object_container, object_id}
use Rattle.values.proofs.VerdictLaws.{object_verdict}
use Rattle.values.specs.Insides.{all_good, insides_good}
use Rattle.writing.proofs.RewrittenLaws.{OneLevel, one_level}
use Rattle.writing.specs.Rewritten.{sized_part, part_at, parts_of, rewritten}
use Rattle.building.proofs.NotesLaws.{InStep, none_ready, one_ready}
use Rattle.building.specs.Building.{Bytes, LeftObject, MemberReady, left_ready}
use Rattle.std.proofs.lemmas.Option.{same_Some}

module _ (levels : ℕ) (names normal : Dictionary) (ranks schema table area body : List ℕ) (places ids floor : ℕ) (bytes : Bytes area)
    (short : length area ≤ most_leftover) (high : (n : ℕ) → n ≤ length area → 2 * n ≤ floor) where
  abbrev Is : ℕ → ℕ → Member → Type 0
  Is at field m = MemberReady levels ranks schema table area body places ids floor at field m × (m.id < length ranks)

  abbrev own : ℕ → ℕ → List ℕ
  own start size = child_bytes area (record { start = start; size = size })

  -- One member.
  left_member : (id start size : ℕ) → child_extent area start ≡ Some size → is_there (meaning_of levels names (own start size)) ≡ true
      → Numbered names normal ranks (ids_in levels (own start size))
      → MemberReady levels ranks schema table area body places ids floor start 0 (record { id = id; bytes = part_at (rewritten levels ranks) area start })
  unfolding part_at sized_part
  left_member id start size long meant numbered =
      let means = there_some (meaning_of levels names (own start size)) meant in
      let fits = (extent_fits area start size long).1 in
      rw long
      (left_ready start size id names normal means.0 long means.1 numbered (child_bytes_lem area (record { start = start; size = size }) bytes) (high size (omega arith))
      (omega arith) (omega arith))

  -- All of them.
  children_ready : (own-ids starts : List ℕ) (kids : List Child) → length own-ids ≡ length starts → children_at area starts ≡ Some kids
      → all_good (meaning_of levels names) area kids ≡ true → Numbered names normal ranks (ids_of_all (ids_in levels) area kids) → all_below (length ranks) own-ids ≡ true
      → InStep Is (left_notes own-ids starts) (members_with own-ids (map (part_at (rewritten levels ranks) area) starts))
  unfolding left_notes members_with children_at all_good ids_of_all all_below
  children_ready [] [] kids many are good numbered below = none_ready
  children_ready [] (start ∷ starts) kids many are good numbered below = none_ready
  children_ready (id ∷ own-ids) [] kids many are good numbered below = none_ready
  children_ready (id ∷ own-ids) (start ∷ starts) kids many are good numbered below =
      let first = then_some (child_extent area start) _ are in
      let rest = then_some (children_at area starts) _ first.2 in
      let child : Child = record { start = start; size = first.0 } in
      let is : kids ≡ child ∷ rest.0 = sym (same_Some (child ∷ rest.0) kids rest.2) in
      let goods = and_both (is_there (meaning_of levels names (child_bytes area child))) (all_good (meaning_of levels names) area rest.0) (rw is at good) in
      let all : Numbered names normal ranks (ids_in levels (child_bytes area child) ++ ids_of_all (ids_in levels) area rest.0) = rw is at numbered in
      let belows = and_both (ltb id (length ranks)) (all_below (length ranks) own-ids) below in
      one_ready refl (
        left_member id start first.0 first.1 goods.0 (numbered_front (ids_in levels (child_bytes area child)) (ids_of_all (ids_in levels) area rest.0) all),
        ltb-true id (length ranks) belows.0,
      )
      (children_ready own-ids starts rest.0 (omega arith) rest.1 goods.1
      (numbered_behind (ids_in levels (child_bytes area child)) (ids_of_all (ids_in levels) area rest.0) all) belows.1)

-- ---- a leftover object by its head

one_less : (levels : ℕ) → suc levels - 1 ≡ levels
one_less levels = omega arith

module _ {levels : ℕ} {names normal : Dictionary} {ranks left : List ℕ} (beside : LeftObject (suc levels) names normal ranks left) where
  told : OneLevel (suc levels) names ranks left
  told = one_level (suc levels) names ranks left (some_there (meaning_of (suc levels) names left) beside.means)

  pub left_read : ObjectRead left
  unfolding meaning_of is_object
  left_read =
      let means = (given_some (whole left) _ beside.means).1 in
      object_read levels names left beside.members means (eqb-true (at left 0 % 4) 2 (sym (left_kind (suc levels) names left beside.means).0))

  module _ (c i w : ℕ) (is : reading_of (at left 0) ≡ ObjectHead c i w) where
    pub left_container : HeadThere left c i w
    left_container = let short = beside.short in object_container left told.fills (ObjectHead c i w) (sym is) c i w refl (omega arith)

    pub left_least : 1 ≤ i
    left_least = object_id left told.fills (ObjectHead c i w) (sym is) c i w refl

    abbrev area : List ℕ
    area = area_of c i w left

    left_ids : ids_in (suc levels) left ≡ ids_of c i left ++ ids_inside (ids_in levels) area (children_at area (starts_of c i w left))
    unfolding ids_by
    left_ids = told.ids ∙ rw (one_less levels, is)

    left_numbered : Numbered names normal ranks (ids_of c i left ++ ids_inside (ids_in levels) area (children_at area (starts_of c i w left)))
    left_numbered = rw left_ids at beside.numbered

    left_good : insides_good (meaning_of levels names) area (children_at area (starts_of c i w left)) ≡ true
    left_good =
        let by : is_there (meaning_by (meaning_of levels names) names (ObjectHead c i w) left) ≡ true = rw (one_less levels, is) at told.by in
        let verdict = object_verdict (meaning_of levels names) names left c i w (ids_starts_length left c i w left_container left_least) in
        let first = and_both (all_below (length names) (ids_of c i left) && rising (names_at names (ids_of c i left))) _ (sym verdict ∙ by) in
        (and_both (once_in (length area) (children_at area (starts_of c i w left))) _ first.1).1

    pub left_ready_lem : (schema table body : List ℕ) (places ids floor : ℕ) → ((n : ℕ) → n ≤ length left → 2 * n ≤ floor)
        → InStep (λ at field m. MemberReady levels ranks schema table area body places ids floor at field m × (m.id < length ranks)) (left_notes (ids_of c i left) (starts_of c i w left)) (left_members levels ranks left)
    unfolding left_members left_members_by parts_of insides_good ids_inside area_of
    left_ready_lem schema table body places ids floor high =
        rw is (go (children_at area (starts_of c i w left)) refl left_good (numbered_behind (ids_of c i left) _ left_numbered))
      where
        shorter : length area ≤ length left
        shorter = rw length-drop (omega arith)

        go : (x : Option (List Child)) → children_at area (starts_of c i w left) ≡ x → insides_good (meaning_of levels names) area x ≡ true
            → Numbered names normal ranks (ids_inside (ids_in levels) area x)
            → InStep (λ at field m. MemberReady levels ranks schema table area body places ids floor at field m × (m.id < length ranks)) (left_notes (ids_of c i left) (starts_of c i w left))
            (members_with (ids_of c i left) (map (part_at (rewritten levels ranks) area) (starts_of c i w left)))
        go None are good numbered = never (sym good)
        go (Some kids) are good numbered =
            let short = beside.short in
            let less-long = shorter in
            children_ready levels names normal ranks schema table area body places ids floor (bytes_drop (head_size_of (number_at left 1 c) c i w) left beside.bytes) (omega arith)
            (λ n h. high n (omega (arith, shorter))) (ids_of c i left) (starts_of c i w left) kids (ids_starts_length left c i w left_container left_least) are good numbered
            (numbered_front (ids_of c i left) _ left_numbered).below

    -- its ids are the dictionary's
    pub left_known : all_below (length names) (ids_of c i left) ≡ true
    left_known =
        let all : all_below (length names) (ids_of c i left ++ ids_inside (ids_in levels) area (children_at area (starts_of c i w left))) ≡ true =
        rw left_ids at (ids_below_lem (suc levels) names left (object beside.members) beside.means) in
        (below_both (length names) (ids_of c i left) (ids_inside (ids_in levels) area (children_at area (starts_of c i w left))) all).0

    -- its starts are inside it
    pub left_low : all_below (length left) (starts_of c i w left) ≡ true
    unfolding area_of insides_good is_there
    left_low =
        let shorter : length area ≤ length left = rw length-drop (omega arith) in
        below_more (length area) (length left) (starts_of c i w left) shorter (children_below area (starts_of c i w left) (good_there (children_at area (starts_of c i w left)) left_good))
      where
        good_there : (x : Option (List Child)) → insides_good (meaning_of levels names) area x ≡ true → is_there x ≡ true
        good_there None good = never (sym good)
        good_there (Some kids) good = refl
