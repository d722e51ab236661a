-- `held`, `place`, `typed`, `list_places` and `object_places`: a place is marked by its parts, what is typed in it by the kind of
-- its node, and inner places one after another, plain ones at once. A call takes a level, or keeps it and goes from a walker to
-- `held` to `place` to `typed`.
use Prim.Native.Nat.{◌+◌, ◌-◌, ◌*◌}
use lib.ListN.{length}
use Rattle.gathering.proofs.WalkLaws.{ListSeen, FieldsSeen}
use Rattle.gathering.proofs.walker.Walk.+held_list_places_object_places_place_typed.Given as goal

abbrev pub decreases-held : goal.decreases-held
decreases-held l = 4 * l.levels + 2

abbrev pub decreases-list_places : goal.decreases-list_places
decreases-list_places l = 4 * l.levels + 3

abbrev pub decreases-object_places : goal.decreases-object_places
decreases-object_places l = 4 * l.levels + 3

abbrev pub decreases-place : goal.decreases-place
decreases-place l = 4 * l.levels + 1

abbrev pub decreases-typed : goal.decreases-typed
decreases-typed l = 4 * l.levels

abbrev pub invariant-list_places-loop-at : goal.invariant-list_places-loop-at
invariant-list_places-loop-at l = ListSeen l.levels l.self.schema.now l.self.table.now l.node l.body l.initial.used l.used l.at

abbrev pub decreases-list_places-loop-at : goal.decreases-list_places-loop-at
decreases-list_places-loop-at l = length l.body - l.at

abbrev pub invariant-object_places-loop-field : goal.invariant-object_places-loop-field
invariant-object_places-loop-field l = FieldsSeen l.levels l.self.schema.now l.self.table.now l.from l.to l.body l.initial.used l.used l.field l.at

abbrev pub decreases-object_places-loop-field : goal.decreases-object_places-loop-field
decreases-object_places-loop-field l = l.to - l.field
