-- The code's constants are the numbers of `Limits.antt`.
use Rattle.std.specs.Prelude.{◌≡◌}
use Rattle.paper.specs.Limits.{most_metadata, most_value, most_schema, most_path, most_row, most_cell, most_leftover, most_levels}
use Rattle.paper.specs.declared.Limits.{Limits}

pub record AsStated (limits : Limits) : Type 0 where
  pub metadata : limits.metadata ≡ most_metadata
  pub value : limits.value ≡ most_value
  pub schema : limits.schema ≡ most_schema
  pub path : limits.path ≡ most_path
  pub row : limits.row ≡ most_row
  pub cell : limits.cell ≡ most_cell
  pub leftover : limits.leftover ≡ most_leftover
  pub levels : limits.levels ≡ most_levels
