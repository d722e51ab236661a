-- The loops over the chosen names: their lengths summed, their offsets written, and the names themselves.
use mathlib.Core.List.{List, [], ◌++◌}
use mathlib.Core.Path.{◌≡◌, refl, ap, ◌∙◌}
use Prim.Native.Nat.{ℕ, ◌+◌, ◌*◌, ◌≤◌, ◌<◌}
use native.Mathlib.Nat.{zero-add}
use native.Mathlib.Omega.{arith}
use lib.ListN.{length, get_or, length-append}
use Rattle.naming.specs.Chosen.{chosen_names}
use Rattle.numbers.specs.Little.{number_bytes, put_at}
use Rattle.paper.specs.Metadata.{Dictionary}
use Rattle.paper.specs.Normal.{offsets_from, numbers_bytes}
use Rattle.paper.specs.Words.{joined}
use Rattle.names.proofs.RunLaws.{offsets_front}
use Rattle.naming.proofs.ChosenLaws.{names_left, names_next, names_ended, names_length}
use Rattle.naming.proofs.LeftLaws.{Left, left_all, first_room, left_next, left_none}
use Rattle.naming.proofs.SizeLaws.{offsets_size}
use Rattle.numbers.proofs.NumberLaws.{length-number_bytes}

-- ---- the lengths

-- After i names: with those that are left the total is that of all.
pub record Summed (names : Dictionary) (chosen : List ℕ) (total i : ℕ) : Type 0 where
  pub sum : total + length (joined (names_left names chosen i)) ≡ length (joined (chosen_names names chosen))

pub summed_start : (names : Dictionary) (chosen : List ℕ) → Summed names chosen 0 0
summed_start names chosen = record { sum = zero-add _ }

module _ {names : Dictionary} {chosen : List ℕ} {total i : ℕ} (seen : Summed names chosen total i) where
  module _ (h : i < length chosen) (name : List ℕ) (told : name ≡ get_or names (get_or chosen i 0) []) where
    name_left : joined (names_left names chosen i) ≡ name ++ joined (names_left names chosen (i + 1))
    unfolding joined
    name_left = ap joined (names_next names chosen i h) ∙ rw told

    pub summed_next : Summed names chosen (total + length name) (i + 1)
    summed_next =
        let sizes : length (joined (names_left names chosen i)) ≡ length name + length (joined (names_left names chosen (i + 1))) =
        ap length name_left ∙ length-append name (joined (names_left names chosen (i + 1))) in
        let sum = seen.sum in
        record { sum = omega arith }

  pub summed_done : length chosen ≤ i → total ≡ length (joined (chosen_names names chosen))
  unfolding joined
  summed_done past =
      let none : length (joined (names_left names chosen i)) ≡ 0 = ap (λ parts. length (joined parts)) (names_ended names chosen i past) in
      let sum = seen.sum in
      omega arith

-- ---- the offsets

-- After i offsets: the others are left, from the total on.
pub record OffsetsPut (names : Dictionary) (chosen before after : List ℕ) (place width at total i : ℕ) : Type 0 where
  pub summed : Summed names chosen total i
  pub left : Left before after place at (numbers_bytes width (offsets_from 0 (chosen_names names chosen)))
      (numbers_bytes width (offsets_from total (names_left names chosen i)))

pub offsets_start : (names : Dictionary) (chosen before : List ℕ) (place width : ℕ)
    → place + (length chosen + 1) * width ≤ length before → OffsetsPut names chosen before before place width place 0 0
offsets_start names chosen before place width room =
    record { summed = summed_start _ _; left = left_all before place _ (rw (offsets_size _ _ width (names_length names chosen)) room) }

module _ {names : Dictionary} {chosen before after : List ℕ} {place width at total i : ℕ}
    (seen : OffsetsPut names chosen before after place width at total i) where
  pub offset_room : at + width ≤ length after
  unfolding numbers_bytes
  offset_room =
      let front = offsets_front total (names_left names chosen i) in
      let room : at + length (number_bytes width total) ≤ length after =
      first_room (number_bytes width total) (numbers_bytes width front.0) (rw front.1 at seen.left) in
      rw (length-number_bytes width total) at room

  module _ {then : List ℕ} (put : then ≡ put_at after at (number_bytes width total)) where
    pub offsets_next : i < length chosen → (name : List ℕ) → name ≡ get_or names (get_or chosen i 0) []
        → OffsetsPut names chosen before then place width (at + width) (total + length name) (i + 1)
    unfolding numbers_bytes offsets_from
    offsets_next h name told =
        let rest : List ℕ = numbers_bytes width (offsets_from (total + length name) (names_left names chosen (i + 1))) in
        let here : numbers_bytes width (offsets_from total (names_left names chosen i)) ≡ number_bytes width total ++ rest =
        ap (λ parts. numbers_bytes width (offsets_from total parts)) (names_next names chosen i h) ∙ rw told in
        record {
          summed = summed_next seen.summed h name told;
          left = left_next (number_bytes width total) rest (at + width) (rw here at seen.left) put (rw (length-number_bytes width total));
        }

    pub offsets_done : length chosen ≤ i → then ≡ put_at before place (numbers_bytes width (offsets_from 0 (chosen_names names chosen)))
    unfolding numbers_bytes offsets_from
    offsets_done past =
        let here : numbers_bytes width (offsets_from total (names_left names chosen i)) ≡ number_bytes width total ++ [] =
        ap (λ parts. numbers_bytes width (offsets_from total parts)) (names_ended names chosen i past) in
        left_none (left_next (number_bytes width total) [] (at + length (number_bytes width total)) (rw here at seen.left) put refl)

-- ---- the names

-- After i names the others are left.
pub record NamesPut (names : Dictionary) (chosen before after : List ℕ) (place at i : ℕ) : Type 0 where
  pub left : Left before after place at (joined (chosen_names names chosen)) (joined (names_left names chosen i))

pub names_start : (names : Dictionary) (chosen before : List ℕ) (place : ℕ) → place + length (joined (chosen_names names chosen)) ≤ length before
    → NamesPut names chosen before before place place 0
names_start names chosen before place room = record { left = left_all before place _ room }

module _ {names : Dictionary} {chosen before after : List ℕ} {place at i : ℕ} (seen : NamesPut names chosen before after place at i) where
  module _ (h : i < length chosen) (name : List ℕ) (told : name ≡ get_or names (get_or chosen i 0) []) where
    left_here : Left before after place at (joined (chosen_names names chosen)) (name ++ joined (names_left names chosen (i + 1)))
    unfolding joined
    left_here = rw (names_next names chosen i h, ← told) at seen.left

    pub name_room : at + length name ≤ length after
    name_room = first_room name (joined (names_left names chosen (i + 1))) left_here

    pub names_on : {then : List ℕ} → then ≡ put_at after at name → NamesPut names chosen before then place (at + length name) (i + 1)
    names_on put = record { left = left_next name (joined (names_left names chosen (i + 1))) (at + length name) left_here put refl }

  pub names_done : length chosen ≤ i → after ≡ put_at before place (joined (chosen_names names chosen))
  unfolding joined
  names_done past = left_none (rw (names_ended names chosen i past) at seen.left)
