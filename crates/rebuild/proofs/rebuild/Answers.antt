-- `rebuild`: what the outermost place means is what the row means; a leftover alone is normalised as it is.
use borrow.Author.Rules.{rules}
use Rattle.places.proofs.PlaceLaws.{one_long}
use Rattle.rebuild.proofs.AloneLaws.{alone_typed, empty_answers}
use Rattle.rebuild.proofs.LeftoverLaws.{left_lent, left_answers}
use Rattle.rebuild.proofs.MeaningLaws.{row_answers}
use Rattle.rebuild.proofs.NumberedLaws.{metadata_there}
use Rattle.rebuild.proofs.rebuild.Goals as goal

pub slice_bounds-normalise-count : goal.slice_bounds-normalise-count
slice_bounds-normalise-count c = search (rules, one_long)

pub slice_bounds-normalise-start : goal.slice_bounds-normalise-start
slice_bounds-normalise-start c = search (rules, one_long)

pub open-requires : goal.open-requires
open-requires c = metadata_there c.requires

pub normalise-requires : goal.normalise-requires
normalise-requires c = search (rules, left_lent)

pub typed_alone-requires : goal.typed_alone-requires
typed_alone-requires c = search (rules, alone_typed)

pub returns-in-Empty : goal.returns-in-Empty
returns-in-Empty c = search (rules, row_answers, empty_answers)

pub returns-in-Leftover : goal.returns-in-Leftover
returns-in-Leftover c = search (rules, row_answers, left_answers)

pub returns-in-Typed : goal.returns-in-Typed
returns-in-Typed c = search (rules, row_answers)

pub returns-in-Both : goal.returns-in-Both
returns-in-Both c = search (rules, row_answers)
