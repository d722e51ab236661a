-- Normal ids: the used ids of a dictionary, one for each name, in the order of their names.
use Rattle.std.specs.Prelude.{Bool, true, cond, not, ◌&&◌, List, [], ◌∷◌, ◌++◌, ◌≡◌, ℕ, zero, suc, ◌≤◌, ◌<◌, eqb, length, get_or, take}
use Rattle.marking.specs.Ids.{holds}
use Rattle.order.specs.Before.{before}
use Rattle.paper.specs.Metadata.{Dictionary, rising}
use Rattle.paper.specs.Normal.{id_of}
use Rattle.paper.specs.Values.{names_at}
use Rattle.paper.specs.Words.{among, all_below}

-- The ids below a count whose entry in a table is 1, rising.
unfoldable pub used_ids : (count : ℕ) → List ℕ → List ℕ
used_ids zero used = []
used_ids (suc count) used = used_ids count used ++ cond (eqb (get_or used count 0) 1) (count ∷ []) []

-- A table starts with some ids, so many.
pub record Listed (ids chosen : List ℕ) (count : ℕ) : Type 0 where
  pub size : count ≡ length ids
  pub room : count ≤ length chosen
  pub front : take count chosen ≡ ids

-- Names never fall: none comes before the one in front of it.
unfoldable pub never_falls : List (List ℕ) → Bool
never_falls [] = true
never_falls (a ∷ []) = true
never_falls (a ∷ b ∷ more) = not (before b a) && never_falls (b ∷ more)

-- The same ids in another order, so that their names never fall.
pub record Sorted (names : Dictionary) (ids sorted : List ℕ) : Type 0 where
  pub size : length sorted ≡ length ids
  pub members : (id : ℕ) → holds id sorted ≡ holds id ids
  pub order : never_falls (names_at names sorted) ≡ true

-- Each of some ids has its name's place among the names of others as its entry.
abbrev pub RanksOf : Dictionary → (ids picked ranks : List ℕ) → Type 0
RanksOf names ids picked ranks = (id : ℕ) → holds id ids ≡ true → get_or ranks id 0 ≡ id_of (names_at names picked) (get_or names id [])

-- Of some ids, so many are picked, one for each name, and their names rise; each id's entry is its name's place among them.
pub record Folded (names : Dictionary) (ids chosen ranks : List ℕ) (picked : ℕ) : Type 0 where
  pub few : picked ≤ length ids
  pub size : length chosen ≡ length ids
  pub within : all_below (length names) (take picked chosen) ≡ true
  pub rise : rising (names_at names (take picked chosen)) ≡ true
  pub all : (name : List ℕ) → among name (names_at names (take picked chosen)) ≡ among name (names_at names ids)
  pub right : RanksOf names ids (take picked chosen) ranks

-- So many ids are picked of those used, one for each name used, and their names rise; each used id's entry is the place of
-- its name among them, its normal id.
pub record Ranked (names : Dictionary) (used ranks chosen : List ℕ) (picked : ℕ) : Type 0 where
  pub few : picked ≤ length names
  pub within : all_below (length names) (take picked chosen) ≡ true
  pub rise : rising (names_at names (take picked chosen)) ≡ true
  pub all : (name : List ℕ) → among name (names_at names (take picked chosen)) ≡ among name (names_at names (used_ids (length names) used))
  pub right : (id : ℕ) → id < length names → get_or used id 0 ≡ 1 → get_or ranks id 0 ≡ id_of (names_at names (take picked chosen)) (get_or names id [])
