-- What the quick look at a place stands on.
use Rattle.std.specs.Prelude.{List, ℕ}
use Rattle.paper.specs.Schemas.{Schema}
use Rattle.schemas.specs.Positions.{Stands}

-- Some node stands at a position.
pub record NodeThere (schema : List ℕ) (place : ℕ) : Type 0 where
  pub levels : ℕ
  pub node : Schema
  pub stands : Stands levels schema place node
