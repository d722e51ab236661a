-- `rest`: the members that are left, the head of an object in front of them, and the head of a frame in front of that.
use borrow.Author.Rules.{rules}
use Rattle.remainder.proofs.RestLaws.{rest_noted, rest_ids, rest_ranked, rest_none, rest_full, rest_members, rest_full_head, rest_asks, rest_put}
use Rattle.remainder.proofs.rest.Goals as goal

pub returns-then-count-eq0 : goal.returns-then-count-eq0
returns-then-count-eq0 c = search (rules, rest_none)

pub copy_noted-requires : goal.copy_noted-requires
copy_noted-requires c = (search rules, search (rules, rest_noted))

pub returns-in_err-parts : goal.returns-in_err-parts
returns-in_err-parts c = λ ready. let pre = c.requires in
    rw c.from_residual.ensures
    (rest_full ready c.note_left-count.ensures c.if-count-eq0.false pre.0 c.copy_noted.ensures c.in_err-parts.was)

-- The members stand in the room, and the tables have their ids.
pub new-left-requires : goal.new-left-requires
new-left-requires c = rest_ids c.requires.2 c.note_left-count.ensures

pub object-requires : goal.object-requires
object-requires c = let pre = c.requires in
    record {
      room = rest_members pre.2 c.note_left-count.ensures c.if-count-eq0.false pre.0 c.copy_noted.ensures c.in_ok-parts.was c.new-left.ensures;
      ranked = rest_ranked pre.2 c.note_left-count.ensures c.new-left.ensures;
    }

pub returns-in_err-start : goal.returns-in_err-start
returns-in_err-start c = λ ready. let pre = c.requires in
    rw c.from_residual-in_err-start.ensures
    (rest_full_head ready c.note_left-count.ensures c.if-count-eq0.false pre.0 c.copy_noted.ensures c.in_ok-parts.was c.new-left.ensures
    c.object.ensures c.in_err-start.was)

pub head-requires : goal.head-requires
head-requires c = let pre = c.requires in
    rest_asks pre.2 c.note_left-count.ensures c.if-count-eq0.false pre.0 c.copy_noted.ensures c.in_ok-parts.was c.new-left.ensures
    c.object.ensures c.in_ok-start.was pre.1

pub returns : goal.returns
returns c = λ ready. let pre = c.requires in
    rest_put ready c.note_left-count.ensures c.if-count-eq0.false pre.0 c.copy_noted.ensures c.in_ok-parts.was c.new-left.ensures
    c.object.ensures c.in_ok-start.was c.head.ensures
