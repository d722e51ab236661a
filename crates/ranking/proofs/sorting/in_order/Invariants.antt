-- `in_order`: what is left decides, behind the name of the last.
use lib.ListN.{length}
use Rattle.ranking.proofs.OrderedLaws.{Ordered}
use Rattle.ranking.proofs.sorting.in_order.Given as goal

abbrev pub invariant-loop-i : goal.invariant-loop-i
invariant-loop-i l = Ordered l.dictionary.names l.ids (length l.dictionary.names) l.last.0 l.i
