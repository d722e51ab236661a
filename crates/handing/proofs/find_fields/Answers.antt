-- `find_fields`: where no field is named every table tells; sorted names need no index.
use Rattle.handing.proofs.NormalLaws.{sorted_ordered, nothing_told}
use Rattle.handing.proofs.find_fields.Goals as goal

pub fill-requires : goal.fill-requires
fill-requires c = let pre = c.requires in (pre.0, pre.1, pre.3, sorted_ordered pre.2 _)

pub returns-else-names_fields : goal.returns-else-names_fields
returns-else-names_fields c = nothing_told c.names_fields.ensures c.if-names_fields.false _ _
