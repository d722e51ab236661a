-- Marking inside a container's children, one child more at a time.
use Rattle.std.specs.Prelude.{Option, None, Some}
use mathlib.Core.Bool.{true}
use mathlib.Core.List.{List, ◌∷◌, ◌++◌}
use mathlib.Core.Path.{◌≡◌, refl, sym, ap, ◌∙◌}
use Prim.Native.Nat.{ℕ, ◌+◌, ◌≤◌, ◌<◌}
use lib.ListN.{length, get_or, drop}
use Rattle.marking.specs.Ids.{ids_of_all, ids_inside, ids_in, mark_ids}
use Rattle.marking.specs.Marking.{MarkableChild, MarkableInside, ids_of_sized, ids_at}
use Rattle.paper.specs.Bounds.{most_walked}
use Rattle.paper.specs.Meaning.{Doc}
use Rattle.paper.specs.Metadata.{Dictionary}
use Rattle.paper.specs.Values.{child_extent, children_at, child_bytes, meaning_of}
use Rattle.paper.specs.declared.Child.{Child}
use Rattle.paper.specs.Words.{and_then, is_there}
use Rattle.values.specs.Insides.{child_good, all_good, insides_good}
use Rattle.runs.proofs.NumbersRunLaws.{next_number, no_more}
use Rattle.marking.proofs.MarkLaws.{marked_length, mark_append}
use Rattle.paper.proofs.WordLaws.{never, and_both}
use Rattle.containers.proofs.ChildLaws.{with_first, children_none, children_some}

-- ---- one child more

module _ (inner : List ℕ → Option Doc) (ids : List ℕ → List ℕ) (area : List ℕ) (start : ℕ) (more : List ℕ) where
  -- The first child is lawful, the others are, and its ids come before theirs.
  abbrev More : Type 0
  More =
      (child_good inner area start ≡ true) × (insides_good inner area (children_at area more) ≡ true)
      × (ids_inside ids area (children_at area (start ∷ more)) ≡ ids_at ids area start ++ ids_inside ids area (children_at area more))

  good_more : insides_good inner area (children_at area (start ∷ more)) ≡ true → More
  unfolding insides_good all_good child_good ids_inside ids_of_all ids_at ids_of_sized with_first and_then is_there
  good_more = go (child_extent area start) refl
    where
      with_size : (size : ℕ) (K : Option (List Child)) → insides_good inner area (with_first start size K) ≡ true
          → (is_there (inner (child_bytes area (record { start = start; size = size }))) ≡ true) × (insides_good inner area K ≡ true)
          × (ids_inside ids area (with_first start size K) ≡ ids (child_bytes area (record { start = start; size = size })) ++ ids_inside ids area K)
      with_size size None f = never (sym f)
      with_size size (Some children) f =
          let both = and_both (is_there (inner (child_bytes area (record { start = start; size = size })))) (all_good inner area children) f in
          (both.0, both.1, refl)

      go : (x : Option ℕ) → child_extent area start ≡ x → insides_good inner area (children_at area (start ∷ more)) ≡ true
          → (is_there (and_then x λ size. inner (child_bytes area (record { start = start; size = size }))) ≡ true)
          × (insides_good inner area (children_at area more) ≡ true)
          × (ids_inside ids area (children_at area (start ∷ more)) ≡ ids_of_sized ids area start x ++ ids_inside ids area (children_at area more))
      go None e f = never (sym (rw (children_none area start more e) at f))
      go (Some size) e f =
          rw (children_some area start more size e) (with_size size (children_at area more) (rw (children_some area start more size e) at f))

-- ---- the loop

-- After k children: what is left is lawful, and is to be marked on what is marked.
pub record InsideSeen (levels : ℕ) (area starts used₀ used : List ℕ) (k : ℕ) : Type 0 where
  pub names : Dictionary
  pub room : length names ≤ length used
  pub same_size : length used ≡ length used₀
  pub left_good : insides_good (meaning_of levels names) area (children_at area (drop k starts)) ≡ true
  pub whole_is : mark_ids used₀ (ids_inside (ids_in levels) area (children_at area starts))
      ≡ mark_ids used (ids_inside (ids_in levels) area (children_at area (drop k starts)))

pub inside_start : {levels : ℕ} {area starts used : List ℕ} → MarkableInside levels area starts (length used) → InsideSeen levels area starts used used 0
inside_start markable = record { names = markable.names; room = markable.room; same_size = refl; left_good = markable.good; whole_is = refl }

module _ {levels : ℕ} {area starts used₀ used : List ℕ} {k : ℕ} (seen : InsideSeen levels area starts used₀ used k) where
  pub inside_done : length starts ≤ k → used ≡ mark_ids used₀ (ids_inside (ids_in levels) area (children_at area starts))
  unfolding ids_inside ids_of_all children_at mark_ids
  inside_done past =
      sym (seen.whole_is ∙ ap (λ (l : List ℕ). mark_ids used (ids_inside (ids_in levels) area (children_at area l))) (no_more starts k past))

  module _ (h : k < length starts) (start : ℕ) (is : start ≡ get_or starts k 0) where
    next : drop k starts ≡ start ∷ drop (k + 1) starts
    next = next_number starts k h start is

    more : More (meaning_of levels seen.names) (ids_in levels) area start (drop (k + 1) starts)
    more =
        good_more (meaning_of levels seen.names) (ids_in levels) area start (drop (k + 1) starts)
        (sym (ap (λ (l : List ℕ). insides_good (meaning_of levels seen.names) area (children_at area l)) next) ∙ seen.left_good)

    pub next_asks : length area ≤ most_walked → MarkableChild levels area start (length used)
    next_asks small = record { names = seen.names; good = more.0; room = seen.room; small = small }

    pub inside_next : (after : List ℕ) → after ≡ mark_ids used (ids_at (ids_in levels) area start) → InsideSeen levels area starts used₀ after (k + 1)
    inside_next after e =
        let size : length after ≡ length used = ap length e ∙ marked_length used (ids_at (ids_in levels) area start) in
        let left : List ℕ = ids_inside (ids_in levels) area (children_at area (drop (k + 1) starts)) in
        record {
          names = seen.names;
          room = rw size seen.room;
          same_size = size ∙ seen.same_size;
          left_good = more.1;
          whole_is = seen.whole_is ∙ ap (λ (l : List ℕ). mark_ids used (ids_inside (ids_in levels) area (children_at area l))) next
              ∙ ap (mark_ids used) more.2 ∙ mark_append used (ids_at (ids_in levels) area start) left ∙ ap (λ (l : List ℕ). mark_ids l left) (sym e);
        }
