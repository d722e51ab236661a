-- `with_tables`: the dictionary that the normal metadata opens to, the fields' ids in it, and the ids listed, are the tables.
use mathlib.Core.Path.{sym}
use native.Mathlib.Omega.{arith}
use lib.ListN.{length-take}
use lib.Seq.{length-take-le}
use borrow.Author.Rules.{rules}
use Rattle.handing.proofs.NormalLaws.{normal_good, normal_there, opens_sorted, opens_few, count_within, count_few, normal_tabled, tabled_answers}
use Rattle.handing.proofs.with_tables.Goals as goal

pub open-dictionary-requires : goal.open-dictionary-requires
open-dictionary-requires c = normal_there c.requires.0

pub find_fields-requires : goal.find_fields-requires
find_fields-requires c = let pre = c.requires in
    let opens = c.open-dictionary.ensures in
    let short = pre.0.schema_short in
    (normal_good pre.0, omega arith, opens_sorted pre.0 opens, opens_few pre.0 opens)

pub slice_bounds-list_ids-end : goal.slice_bounds-list_ids-end
slice_bounds-list_ids-end c = let pre = c.requires in omega (arith, count_within pre.0 c.open-dictionary.ensures c.len-count.ensures.count, pre.1)

pub slice_bounds-list_ids-end-2 : goal.slice_bounds-list_ids-end-2
slice_bounds-list_ids-end-2 c = let pre = c.requires in
    sym (length-take-le _ _ (omega (arith, count_within pre.0 c.open-dictionary.ensures c.len-count.ensures.count, pre.1)))

pub list_ids-requires : goal.list_ids-requires
list_ids-requires c = let pre = c.requires in
    rw length-take (omega (arith, count_few pre.0 c.open-dictionary.ensures c.len-count.ensures.count))

pub with_room-requires : goal.with_room-requires
with_room-requires c = let pre = c.requires in
    let opens = c.open-dictionary.ensures in
    let counted = c.len-count.ensures.count in
    let short = pre.0.schema_short in (
      normal_tabled pre.0 opens counted _ c.find_fields.ensures (search rules) (omega (arith, count_within pre.0 opens counted, pre.1)) c.list_ids.ensures,
      search rules,
      search rules,
      search rules,
    )

pub returns : goal.returns
returns c = let pre = c.requires in
    let opens = c.open-dictionary.ensures in
    let counted = c.len-count.ensures.count in
    let short = pre.0.schema_short in
    λ normal. tabled_answers normal opens counted _ c.find_fields.ensures (search rules) (omega (arith, count_within pre.0 opens counted, pre.1)) c.list_ids.ensures
    c.with_room.ensures
