-- A container whose head is there.
use Rattle.std.specs.Prelude.{◌≡◌, List, ℕ, ◌≤◌, length, Some}
use Rattle.paper.specs.Bounds.{most_walked}
use Rattle.paper.specs.Values.{container_extent}

-- Bytes that a container fills, by its head, count and last offset.
pub record HeadThere (s : List ℕ) (counted id width : ℕ) : Type 0 where
  pub fills : container_extent counted id width s ≡ Some (length s)
  pub count_least : 1 ≤ counted
  pub count_most : counted ≤ 4
  pub id_most : id ≤ 4
  pub least : 1 ≤ width
  pub most : width ≤ 4
  pub small : length s ≤ most_walked
