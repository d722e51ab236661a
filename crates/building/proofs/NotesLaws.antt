-- Notes and the members that they are of, in step: merged by the same numbers they stay in step. `Is` tells of a member by
-- where it stands and its field.
use mathlib.Core.Bool.{Bool, true, false, cond}
use mathlib.Core.List.{List, [], ◌∷◌, map}
use mathlib.Core.Path.{◌≡◌, refl, sym, ap}
use Prim.Native.Nat.{ℕ, zero, suc, ◌+◌, ◌<◌}
use native.Mathlib.Omega.{arith}
use borrow.Author.Tests.{lt-ltb}
use lib.Dec.{ltb}
use lib.ListN.{length, get_or}
use Rattle.noting.specs.Notes.{Note, note_rank}
use Rattle.paper.proofs.WordLaws.{never}
use Rattle.paper.specs.Words.{all_below}
use Rattle.rebuilt.specs.Members.{Member, merge_into, merged_by, normal_id_of}
use Rattle.building.specs.Building.{member_in}

pub data InStep (Is : ℕ → ℕ → Member → Type 0) : List Note → List Member → Type 0 where
  none_ready : InStep Is [] []
  one_ready : {note : Note} {m : Member} {notes : List Note} {ms : List Member} → note.id ≡ m.id → Is note.place note.field m → InStep Is notes ms
      → InStep Is (note ∷ notes) (m ∷ ms)

module _ (Is : ℕ → ℕ → Member → Type 0) (ranks : List ℕ) where
  -- ---- merged

  -- One more in front of a first element, or behind it.
  either : (b c : Bool) → b ≡ c → {xs ys : List Note} {ms ls : List Member} → InStep Is xs ms → InStep Is ys ls
      → InStep Is (cond b xs ys) (cond c ms ls)
  either true true e first second = first
  either false false e first second = second
  either true false e first second = never e
  either false true e first second = never (sym e)

  into_ready : {note : Note} {m : Member} (same : note.id ≡ m.id) → Is note.place note.field m
      → (rest : List Note → List Note) (rest' : List Member → List Member) → ((ns : List Note) (ms : List Member) → InStep Is ns ms → InStep Is (rest ns) (rest' ms))
      → {notes : List Note} {ms : List Member} → InStep Is notes ms
      → InStep Is (merge_into (note_rank ranks) note rest notes) (merge_into (normal_id_of ranks) m rest' ms)
  unfolding merge_into note_rank normal_id_of
  into_ready same ready rest rest' each none_ready = one_ready same ready (each [] [] none_ready)
  into_ready {note} {m} same ready rest rest' each (one_ready {note = other} {m = mother} alike other-ready more) =
      either (ltb (get_or ranks other.id 0) (get_or ranks note.id 0)) (ltb (get_or ranks mother.id 0) (get_or ranks m.id 0)) (rw (same, alike))
      (one_ready alike other-ready (into_ready same ready rest rest' each more))
      (one_ready same ready (each _ _ (one_ready alike other-ready more)))

  pub merged_ready : {xs : List Note} {ms : List Member} {ys : List Note} {ls : List Member} → InStep Is xs ms → InStep Is ys ls
      → InStep Is (merged_by (note_rank ranks) xs ys) (merged_by (normal_id_of ranks) ms ls)
  unfolding merged_by
  merged_ready none_ready lefts = lefts
  merged_ready (one_ready {notes = notes} {ms = ms} same ready more) lefts =
      into_ready same ready (merged_by (note_rank ranks) notes) (merged_by (normal_id_of ranks) ms) (λ ns ls steps. merged_ready more steps) lefts

module _ {Is : ℕ → ℕ → Member → Type 0} where
  -- ---- read off one by one

  pub ready_at : {notes : List Note} {ms : List Member} → InStep Is notes ms → (k : ℕ) → k < length notes
      → Is (get_or (map (λ (n : Note). n.place) notes) k 0) (get_or (map (λ (n : Note). n.field) notes) k 0) (member_in ms k)
  ready_at none_ready k h = absurd (omega arith)
  ready_at (one_ready same ready more) zero h = ready
  ready_at (one_ready same ready more) (suc k) h = ready_at more k (omega arith)

  pub ready_size : {notes : List Note} {ms : List Member} → InStep Is notes ms → length ms ≡ length notes
  ready_size none_ready = refl
  ready_size (one_ready same ready more) = ap suc (ready_size more)

  pub ready_ids : {notes : List Note} {ms : List Member} → InStep Is notes ms → map (λ (m : Member). m.id) ms ≡ map (λ (n : Note). n.id) notes
  ready_ids none_ready = refl
  ready_ids (one_ready {note} {m} {notes} {ms} same ready more) = rw (ready_ids more, same)

-- Ids that are below a bound, each by itself, are all below it.
pub ready_below : {Is : ℕ → ℕ → Member → Type 0} (bound : ℕ) → ((at field : ℕ) (m : Member) → Is at field m → m.id < bound) → {notes : List Note} {ms : List Member}
    → InStep Is notes ms → all_below bound (map (λ (n : Note). n.id) notes) ≡ true
unfolding all_below
ready_below bound each none_ready = refl
ready_below bound each (one_ready {note} {m} same ready more) =
    rw (lt-ltb note.id bound (let low = each note.place note.field m ready in omega arith), ready_below bound each more)

-- Two lists merged are as long as both.
into_length : {A : Type 0} (key : A → ℕ) (x : A) (rest : List A → List A) (n : ℕ) → ((l : List A) → length (rest l) ≡ n + length l) → (ys : List A)
    → length (merge_into key x rest ys) ≡ suc n + length ys
unfolding merge_into
into_length key x rest n each [] = let here = each [] in omega arith
into_length key x rest n each (y ∷ ys) = go (ltb (key y) (key x)) (into_length key x rest n each ys)
  where
    go : (b : Bool) → length (merge_into key x rest ys) ≡ suc n + length ys → length (cond b (y ∷ merge_into key x rest ys) (x ∷ rest (y ∷ ys))) ≡ suc n + length (y ∷ ys)
    go true later = omega arith
    go false later = let here = each (y ∷ ys) in omega arith

pub merged_length : {A : Type 0} (key : A → ℕ) (xs ys : List A) → length (merged_by key xs ys) ≡ length xs + length ys
unfolding merged_by
merged_length key [] ys = omega arith
merged_length key (x ∷ xs) ys = into_length key x (merged_by key xs) (length xs) (λ l. merged_length key xs l) ys
