-- `name_before`: what is said of the two names that are looked up.
use Rattle.ranking.proofs.sorting.name_before.Goals as goal

pub returns : goal.returns
returns c = cc
