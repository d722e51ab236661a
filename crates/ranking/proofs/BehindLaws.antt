-- One more name behind others: where it stays rising, which names there are, and which ids they have.
use mathlib.Core.Bool.{Bool, true, false, cond, ◌||◌}
use mathlib.Core.List.{List, [], ◌∷◌, ◌++◌}
use mathlib.Core.Path.{◌≡◌, refl, sym, ap, ◌∙◌}
use Prim.Native.Nat.{ℕ, zero, suc}
use native.Mathlib.Omega.{arith}
use lib.ListN.{length, get_or}
use Rattle.order.specs.Before.{before}
use Rattle.paper.specs.Metadata.{Dictionary, rising}
use Rattle.paper.specs.Normal.{id_of}
use Rattle.paper.specs.Words.{same, among}
use Rattle.names.proofs.SameLaws.{among_at}
use Rattle.paper.proofs.WordLaws.{never, and_both}
use Rattle.ranking.proofs.HeldLaws.{or_none, or_more}

-- A name that comes after the last one may be put behind rising names, ..
pub rising_behind : (names : Dictionary) (k : ℕ) (new : List ℕ) → rising names ≡ true → length names ≡ suc k → before (get_or names k []) new ≡ true
    → rising (names ++ (new ∷ [])) ≡ true
unfolding rising
rising_behind [] k new rise size after = absurd (omega arith)
rising_behind (a ∷ []) zero new rise size after = rw after
rising_behind (a ∷ []) (suc k) new rise size after = absurd (omega arith)
rising_behind (a ∷ b ∷ more) zero new rise size after = absurd (omega arith)
rising_behind (a ∷ b ∷ more) (suc k) new rise size after =
    let both = and_both (before a b) (rising (b ∷ more)) rise in
    rw both.0 (rising_behind (b ∷ more) k new both.1 (omega arith) after)

-- .. and so may one that comes after all of them.
pub rising_last : (names : Dictionary) (new : List ℕ) → rising names ≡ true → ((name : List ℕ) → among name names ≡ true → before name new ≡ true)
    → rising (names ++ (new ∷ [])) ≡ true
unfolding rising
rising_last [] new rise after = refl
rising_last (a ∷ more) new rise after =
    rising_behind (a ∷ more) (length more) new rise refl (after (get_or (a ∷ more) (length more) []) (among_at (a ∷ more) (length more) (omega arith)))

pub among_behind : (name : List ℕ) (names : Dictionary) (new : List ℕ) → among name (names ++ (new ∷ [])) ≡ among name names || same new name
unfolding among
among_behind name [] new = or_none (same new name)
among_behind name (a ∷ more) new =
    ap (λ (b : Bool). same a name || b) (among_behind name more new) ∙ sym (or_more (same a name) (among name more) (same new name))

-- The names in front keep their ids.
pub id_front : (names more : Dictionary) (name : List ℕ) → among name names ≡ true → id_of (names ++ more) name ≡ id_of names name
unfolding id_of among
id_front [] more name e = never (sym e)
id_front (a ∷ names) more name e = go (same a name) e (id_front names more name)
  where
    go : (b : Bool) → b || among name names ≡ true → (among name names ≡ true → id_of (names ++ more) name ≡ id_of names name)
        → cond b 0 (suc (id_of (names ++ more) name)) ≡ cond b 0 (suc (id_of names name))
    go true e rest = refl
    go false e rest = ap suc (rest e)
