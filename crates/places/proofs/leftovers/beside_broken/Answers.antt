-- `beside_broken`: rule a by the node's tag, rule b by the leftover's first byte, rule c by the merge.
use mathlib.Core.Path.{refl}
use borrow.Author.Rules.{rules}
use Rattle.places.proofs.LeftLaws.{node_in, left_in, frame_in, clash_ready, other_node, other_left, clash_judged}
use Rattle.places.proofs.leftovers.beside_broken.Goals as goal
use Rattle.places.proofs.leftovers.beside_broken.Goals.{then-schema-node-ne48-via-then-schema-node-ne48, then-schema-node-ne48-via-else-schema-node-ne48+then-left-ne2}

pub bounds-schema-node : goal.bounds-schema-node
bounds-schema-node c = search (rules, node_in)

pub returns-then-schema-node-ne48 : goal.returns-then-schema-node-ne48
returns-then-schema-node-ne48 c =
    elim c.then-schema-node-ne48.branch [
      | then-schema-node-ne48-via-then-schema-node-ne48 w ↦ other_node _ _ w.if-schema-node-ne48.true
      | then-schema-node-ne48-via-else-schema-node-ne48+then-left-ne2 w ↦ other_left _ _ w.if-schema-node-ne48.false w.if-left-ne2.true
    ]

pub bounds-left-0 : goal.bounds-left-0
bounds-left-0 c = search (rules, left_in)

pub overflow_add-from : goal.overflow_add-from
overflow_add-from c = search (rules, node_in)

pub frame_end-to-requires : goal.frame_end-to-requires
frame_end-to-requires c = search frame_in

pub clash-requires : goal.clash-requires
clash-requires c = clash_ready c.requires c.if-schema-node-ne48.false _ _ refl c.frame_end-to.ensures

pub returns : goal.returns
returns c = clash_judged _ _ c.if-schema-node-ne48.false c.if-left-ne2.false _ c.frame_end-to.ensures _ c.clash.ensures
