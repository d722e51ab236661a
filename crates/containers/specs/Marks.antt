-- The map of starts: a bit for each place of an area, 1 where a child starts.
use Rattle.std.specs.Prelude.{◌≡◌, List, [], ◌∷◌, ℕ, ◌*◌, ◌/◌, ◌%◌, ◌^◌, ◌≤◌, length, get_or, set, replicate, Some}
use Rattle.std.specs.Int.Bits.{bit_or}
use Rattle.paper.specs.Values.{children_at}
use Rattle.paper.specs.declared.Child.{Child}
use Rattle.containers.specs.Children.{sizes}

unfoldable pub bit_of : List ℕ → (place : ℕ) → ℕ
bit_of marks place = get_or marks (place / 8) 0 / 2 ^ (place % 8) % 2

unfoldable pub set_bit : List ℕ → (place : ℕ) → List ℕ
set_bit marks place = set marks (place / 8) (bit_or (get_or marks (place / 8) 0) (2 ^ (place % 8)))

unfoldable pub mark_all : List ℕ → List ℕ → List ℕ
mark_all marks [] = marks
mark_all marks (start ∷ more) = mark_all (set_bit marks start) more

-- The children at some starts are there, their sizes come to the area's length, and the starts are marked on a clean map
-- that has a bit for each byte of the area.
pub record Marked (area starts : List ℕ) (children : List Child) (marks : List ℕ) : Type 0 where
  pub are : children_at area starts ≡ Some children
  pub sum : sizes children ≡ length area
  pub size : ℕ
  pub room : length area ≤ 8 * size
  pub map : marks ≡ mark_all (replicate size 0) starts
