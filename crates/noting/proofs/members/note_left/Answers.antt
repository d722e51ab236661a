use Prim.Native.Nat.{◌<◌}
use native.Mathlib.Omega.{arith}
use lib.ListN.{length}
use borrow.Author.Rules.{rules}
use Rattle.noting.proofs.LeftLaws.{left_start, left_done, left_room, start_there, start_low, id_low, id_ranked, left_over, left_next}
use Rattle.noting.proofs.members.note_left.Goals as goal

pub loop-i-init : goal.loop-i-init
loop-i-init c = search (rules, left_start)

pub normal_of-normal-requires : goal.normal_of-normal-requires
normal_of-normal-requires c = let here : c.loop-i.i < length c.args.lefts.now = omega arith in
    id_ranked c.loop-i.invariant here c.requires.0 c.requires.1 c.input_id-input.ensures.0

-- The next member is not below the bound, ..
pub returns-then-bound-normal : goal.returns-then-bound-normal
returns-then-bound-normal c = let here : c.loop-i.i < length c.args.lefts.now = omega arith in
    left_over c.loop-i.invariant here c.requires.0 c.input_id-input.ensures.0 c.normal_of-normal.ensures c.if-bound-normal.true

-- .. or it is noted.
pub get-requires : goal.get-requires
get-requires c = search (rules, start_there)

pub note-requires : goal.note-requires
note-requires c = let here : c.loop-i.i < length c.args.lefts.now = omega arith in
    let seen = c.loop-i.invariant in
    let pre = c.requires in
    (left_room seen here pre.3, id_low seen here pre.0 pre.1 c.input_id-input.ensures.0, start_low seen here pre.0 c.get.ensures.0, omega arith)

pub loop-i-preserved : goal.loop-i-preserved
loop-i-preserved c = let here : c.loop-i.i < length c.args.lefts.now = omega arith in
    left_next c.loop-i.invariant here c.requires.0 c.input_id-input.ensures.0 c.normal_of-normal.ensures c.if-bound-normal.false c.get.ensures.0 c.note.ensures

pub returns : goal.returns
returns c = left_done c.loop-i.invariant (omega arith) _ c.len.ensures
