-- The children of a lawful container: each is there, lawful inside, and has its ids in the table; what each is rewritten to
-- is one value.
use Rattle.std.specs.Prelude.{Option, None, Some}
use mathlib.Core.Bool.{true}
use mathlib.Core.List.{List, [], ◌∷◌, ◌++◌, map}
use mathlib.Core.Path.{◌≡◌, refl, sym, ap, ◌∙◌, subst}
use Prim.Native.Nat.{ℕ, zero, suc, ◌+◌, ◌^◌, ◌≤◌, ◌<◌}
use native.Mathlib.Omega.{arith}
use lib.Dec.{ltb}
use lib.ListN.{length, get_or, length-append}
use Rattle.forms.proofs.LieLaws.{child_length}
use Rattle.forms.proofs.PartLaws.{AllFilled}
use Rattle.forms.proofs.ScalarLaws.{Filled}
use Rattle.marking.specs.Ids.{ids_of_all, ids_inside, ids_in}
use Rattle.paper.specs.Bounds.{most_walked}
use Rattle.paper.proofs.WordLaws.{never, then_some, and_both}
use Rattle.paper.specs.Metadata.{Dictionary}
use Rattle.paper.specs.Values.{child_extent, children_at, child_bytes, meaning_of}
use Rattle.paper.specs.declared.Child.{Child}
use Rattle.paper.specs.Words.{is_there, all_below, joined}
use Rattle.containers.proofs.ChildLaws.{extent_fits}
use Rattle.values.specs.Insides.{all_good, insides_good}
use Rattle.writing.specs.Rewritten.{sized_part, part_at, rewritten}
use Rattle.writing.specs.Written.{WritableChild}
use Rattle.writing.proofs.RewrittenLaws.{rewritten_filled}
use Rattle.std.proofs.lemmas.Option.{same_Some}

pub below_append : (bound : ℕ) (ns ms : List ℕ) → all_below bound (ns ++ ms) ≡ true → (all_below bound ns ≡ true) × (all_below bound ms ≡ true)
unfolding all_below
below_append bound [] ms e = (refl, e)
below_append bound (n ∷ ns) ms e =
    let both = and_both (ltb n bound) (all_below bound (ns ++ ms)) e in
    let rest = below_append bound ns ms both.1 in
    (rw both.0 rest.0, rest.1)

module _ (levels : ℕ) (names : Dictionary) (ranks area : List ℕ) where
  -- One child of several, by its place.
  child_of : (starts : List ℕ) (kids : List Child) → children_at area starts ≡ Some kids → all_good (meaning_of levels names) area kids ≡ true
      → all_below (length ranks) (ids_of_all (ids_in levels) area kids) ≡ true → (k : ℕ) → k < length starts
      → WritableChild levels names ranks area (get_or starts k 0)
  unfolding children_at all_good ids_of_all
  child_of [] kids are good below k h = absurd (omega arith)
  child_of (start ∷ more) kids are good below k h =
      let first = then_some (child_extent area start) _ are in
      let rest = then_some (children_at area more) _ first.2 in
      let child : Child = record { start = start; size = first.0 } in
      let is : child ∷ rest.0 ≡ kids = same_Some (child ∷ rest.0) kids rest.2 in
      let goods = and_both (is_there (meaning_of levels names (child_bytes area child))) (all_good (meaning_of levels names) area rest.0)
      (ap (all_good (meaning_of levels names) area) is ∙ good) in
      let belows = below_append (length ranks) (ids_in levels (child_bytes area child)) (ids_of_all (ids_in levels) area rest.0)
      (ap (λ (l : List Child). all_below (length ranks) (ids_of_all (ids_in levels) area l)) is ∙ below) in
      at_place k h (record { size = first.0; long = first.1; meant = goods.0; ranked = belows.0 })
      (child_of more rest.0 rest.1 goods.1 belows.1)
    where
      at_place : (n : ℕ) → n < suc (length more) → WritableChild levels names ranks area start
          → ((j : ℕ) → j < length more → WritableChild levels names ranks area (get_or more j 0))
          → WritableChild levels names ranks area (get_or (start ∷ more) n 0)
      at_place zero l this others = this
      at_place (suc j) l this others = others j (omega arith)

  pub each_child : (starts : List ℕ) → insides_good (meaning_of levels names) area (children_at area starts) ≡ true
      → all_below (length ranks) (ids_inside (ids_in levels) area (children_at area starts)) ≡ true → (k : ℕ) → k < length starts
      → WritableChild levels names ranks area (get_or starts k 0)
  unfolding insides_good ids_inside
  each_child starts good below = go (children_at area starts) refl good below
    where
      go : (x : Option (List Child)) → children_at area starts ≡ x → insides_good (meaning_of levels names) area x ≡ true
          → all_below (length ranks) (ids_inside (ids_in levels) area x) ≡ true → (k : ℕ) → k < length starts
          → WritableChild levels names ranks area (get_or starts k 0)
      go None are g b = never (sym g)
      go (Some kids) are g b = child_of starts kids are g b

  -- ---- what each is rewritten to

  pub part_is : {start : ℕ} (child : WritableChild levels names ranks area start)
      → part_at (rewritten levels ranks) area start ≡ rewritten levels ranks (child_bytes area (record { start = start; size = child.size }))
  unfolding part_at sized_part
  part_is child = rw child.long

  module _ (small : length area ≤ most_walked) where
    pub child_small : {start : ℕ} (child : WritableChild levels names ranks area start)
        → length (child_bytes area (record { start = start; size = child.size })) ≤ most_walked
    child_small {start} child =
        let long = child_length area (record { start = start; size = child.size }) child.long in
        let fits = (extent_fits area start child.size child.long).1 in
        omega arith

    part_filled : {start : ℕ} → WritableChild levels names ranks area start → length (part_at (rewritten levels ranks) area start) < 2 ^ 32
        → Filled (part_at (rewritten levels ranks) area start)
    part_filled {start} child fit =
        let same = part_is child in
        let own : List ℕ = child_bytes area (record { start = start; size = child.size }) in
        let size = ap length same in
        subst (λ (l : List ℕ). Filled l) (sym same) (rewritten_filled levels names ranks own child.meant (child_small child) (omega arith))

    pub parts_filled : (starts : List ℕ) → ((k : ℕ) → k < length starts → WritableChild levels names ranks area (get_or starts k 0))
        → length (joined (map (part_at (rewritten levels ranks) area) starts)) < 2 ^ 32 → AllFilled (map (part_at (rewritten levels ranks) area) starts)
    unfolding AllFilled joined
    parts_filled [] each fit = tt
    parts_filled (start ∷ more) each fit =
        let one : List ℕ = part_at (rewritten levels ranks) area start in
        let others : List ℕ = joined (map (part_at (rewritten levels ranks) area) more) in
        let size : length (one ++ others) ≡ length one + length others = length-append one others in
        (part_filled (each 0 (omega arith)) (omega arith), parts_filled more (λ k h. each (suc k) (omega arith)) (omega arith))
