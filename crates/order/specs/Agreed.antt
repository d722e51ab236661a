-- Two byte strings that agree up to a place, which is in both: how they stand to each other is decided behind it.
use Rattle.std.specs.Prelude.{List, ◌≡◌, ℕ, ◌≤◌, length, drop}
use Rattle.order.specs.Before.{order_of}

pub record Agreed (a b : List ℕ) (place : ℕ) : Type 0 where
  pub in_first : place ≤ length a
  pub in_second : place ≤ length b
  pub behind : order_of a b ≡ order_of (drop place a) (drop place b)
