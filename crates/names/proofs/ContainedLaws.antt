-- Rising names that are all among others: they are no more, and no longer. Both are weights of a list of names, summed over it.
use mathlib.Core.Bool.{Bool, true, false, cond, ◌||◌}
use mathlib.Core.List.{List, [], ◌∷◌}
use mathlib.Core.Path.{◌≡◌, refl, sym, ap, ◌∙◌}
use Prim.Native.Nat.{ℕ, ◌+◌, ◌≤◌}
use native.Mathlib.Omega.{arith}
use lib.ListN.{length, length-append}
use Rattle.paper.specs.Metadata.{Dictionary, rising}
use Rattle.paper.specs.Words.{same, among, joined}
use Rattle.names.proofs.RisingLaws.{rising_more, rising_first}
use Rattle.names.proofs.SameLaws.{before_differs, same_is, among_first, among_more}
use Rattle.paper.proofs.WordLaws.{never}

-- Names without a name where it first stands.
unfoldable without : List ℕ → Dictionary → Dictionary
without name [] = []
without name (first ∷ more) = cond (same first name) more (first ∷ without name more)

-- Other names stay.
among_without : (gone name : List ℕ) (names : Dictionary) → same gone name ≡ false → among name (without gone names) ≡ among name names
unfolding without among
among_without gone name [] other = refl
among_without gone name (first ∷ more) other = go (same first gone) refl (among_without gone name more other)
  where
    go : (r : Bool) → same first gone ≡ r → among name (without gone more) ≡ among name more
        → among name (cond r more (first ∷ without gone more)) ≡ same first name || among name more
    go false e rest = ap (λ (b : Bool). same first name || b) rest
    go true e rest = rw (same_is first gone e, other)

module _ (weight : List ℕ → ℕ) where
  unfoldable total : Dictionary → ℕ
  total [] = 0
  total (name ∷ more) = weight name + total more

  total_without : (name : List ℕ) (names : Dictionary) → among name names ≡ true → total names ≡ weight name + total (without name names)
  unfolding total without among
  total_without name [] in_names = never (sym in_names)
  total_without name (first ∷ more) in_names = go (same first name) refl in_names (total_without name more)
    where
      go : (r : Bool) → same first name ≡ r → r || among name more ≡ true
          → (among name more ≡ true → total more ≡ weight name + total (without name more))
          → weight first + total more ≡ weight name + total (cond r more (first ∷ without name more))
      go true e here rest = rw (same_is first name e)
      go false e further rest = let left = rest further in omega arith

  total_contained : (used names : Dictionary) → rising used ≡ true → ((name : List ℕ) → among name used ≡ true → among name names ≡ true)
      → total used ≤ total names
  unfolding total
  total_contained [] names rise contained = omega arith
  total_contained (first ∷ more) names rise contained =
      let left : total names ≡ weight first + total (without first names) = total_without first names (contained first (among_first first more)) in
      let others : (name : List ℕ) → among name more ≡ true → among name (without first names) ≡ true =
      λ name in-more.
      among_without first name names (before_differs first name (rising_first first more name rise in-more))
      ∙ contained name (among_more name first more in-more) in
      let rest : total more ≤ total (without first names) = total_contained more (without first names) (rising_more first more rise) others in
      omega arith

total_count : (names : Dictionary) → total (λ name. 1) names ≡ length names
unfolding total
total_count [] = refl
total_count (name ∷ more) = let rest = total_count more in omega arith

total_joined : (names : Dictionary) → total length names ≡ length (joined names)
unfolding total joined
total_joined [] = refl
total_joined (name ∷ more) = rw (length-append, total_joined more)

module _ (used names : Dictionary) (rise : rising used ≡ true) (contained : (name : List ℕ) → among name used ≡ true → among name names ≡ true) where
  pub contained_count : length used ≤ length names
  contained_count =
      let all : total (λ name. 1) used ≤ total (λ name. 1) names = total_contained (λ name. 1) used names rise contained in
      rw (total_count used, total_count names) at all

  pub contained_length : length (joined used) ≤ length (joined names)
  contained_length =
      let all : total length used ≤ total length names = total_contained length used names rise contained in
      rw (total_joined used, total_joined names) at all
