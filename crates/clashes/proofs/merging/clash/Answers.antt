-- `clash`: only an object has names, those of its ids, which are merged with the node's.
use Rattle.paths.proofs.LawfulLaws.{lawful_some, object_asks}
use Rattle.clashes.proofs.ClashLaws.{no_names_lem, ids_asks, clash_is}
use Rattle.clashes.proofs.merging.clash.Goals as goal

pub bounds-left-0 : goal.bounds-left-0
bounds-left-0 c = lawful_some c.requires.0

pub returns-in_default : goal.returns-in_default
returns-in_default c = no_names_lem _ _ c.of.ensures c.in_default.not-ObjectHead

pub object-object-requires : goal.object-object-requires
object-object-requires c = object_asks c.requires.0 _ c.of.ensures _ _ _ c.in-ObjectHead.is

pub merge-requires : goal.merge-requires
merge-requires c = record { ids_lawful = ids_asks c.requires.0 c.of.ensures c.in-ObjectHead.is c.object-object.ensures.ids; some_fields = c.requires.1 }

pub returns : goal.returns
returns c = clash_is c.requires.0 c.of.ensures c.in-ObjectHead.is c.object-object.ensures.ids c.merge.ensures
