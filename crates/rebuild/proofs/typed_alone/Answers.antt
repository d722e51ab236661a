-- `typed_alone`: a cell's document is what the row means; anything else goes by way of tables.
use borrow.Author.Rules.{rules}
use Rattle.places.proofs.PlaceLaws.{typed_long}
use Rattle.rebuild.proofs.AloneLaws.{alone_kind, alone_code, alone_cell, alone_short, alone_answers}
use Rattle.rebuild.proofs.typed_alone.Goals as goal

pub kind_at-requires : goal.kind_at-requires
kind_at-requires c = search (rules, alone_kind)

pub slice_bounds-cell-count : goal.slice_bounds-cell-count
slice_bounds-cell-count c = search (rules, typed_long)

pub slice_bounds-cell-start : goal.slice_bounds-cell-start
slice_bounds-cell-start c = search (rules, typed_long)

pub cell-requires : goal.cell-requires
cell-requires c = search (rules, alone_code, alone_cell, alone_short)

pub returns : goal.returns
returns c = search (rules, alone_answers)
