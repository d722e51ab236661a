-- `names_read`: the offset size from the first byte, the count behind it.
use native.Mathlib.Omega.{arith}
use Rattle.dictionary.proofs.DictionaryLaws.{first_there, count_there, names_opened}
use Rattle.dictionary.proofs.names_read.Goals as goal

pub bounds-metadata-0 : goal.bounds-metadata-0
bounds-metadata-0 c = first_there _ c.requires

pub head_read-requires : goal.head_read-requires
head_read-requires c =
    let there = count_there _ c.requires c.from.ensures (omega (arith, c.from.ensures, c.type_inv.metadata 0)) in
    (omega (arith, c.from.ensures, c.type_inv.metadata 0), omega arith)

pub returns : goal.returns
returns c = rw c.head_read.ensures.told (names_opened _ c.requires c.from.ensures c.head_read.ensures.count.0)
