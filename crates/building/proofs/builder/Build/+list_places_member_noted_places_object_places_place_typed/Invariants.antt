-- A place, what is typed in it, a list's places and an object's: each part is written in front of those behind it. A call takes a
-- level, or keeps it and goes on from an object to its members, to their places, to what is typed in them.
use Prim.Native.Nat.{◌+◌, ◌*◌}
use Rattle.building.proofs.ListLaws.{ListSeen}
use Rattle.building.proofs.NotedLaws.{NotedSeen}
use Rattle.building.proofs.builder.Build.+list_places_member_noted_places_object_places_place_typed.Given as goal

abbrev pub decreases-list_places : goal.decreases-list_places
decreases-list_places l = 5 * l.levels + 2

abbrev pub decreases-member : goal.decreases-member
decreases-member l = 5 * l.levels + 2

abbrev pub decreases-noted_places : goal.decreases-noted_places
decreases-noted_places l = 5 * l.levels + 3

abbrev pub decreases-object_places : goal.decreases-object_places
decreases-object_places l = 5 * l.levels + 4

abbrev pub decreases-place : goal.decreases-place
decreases-place l = 5 * l.levels + 1

abbrev pub decreases-typed : goal.decreases-typed
decreases-typed l = 5 * l.levels

abbrev pub invariant-list_places-loop-i : goal.invariant-list_places-loop-i
invariant-list_places-loop-i l = ListSeen l.levels l.self.ranks.now l.self.schema.now l.self.table.now l.node l.body l.initial.places l.initial.ids l.initial.out l.floor l.end l.count l.places l.ids l.out l.start l.i

abbrev pub decreases-list_places-loop-i : goal.decreases-list_places-loop-i
decreases-list_places-loop-i l = l.i

abbrev pub invariant-noted_places-loop-i : goal.invariant-noted_places-loop-i
invariant-noted_places-loop-i l = NotedSeen l.levels l.self.ranks.now l.self.schema.now l.self.table.now l.area l.body l.initial.places l.initial.ids l.initial.out l.floor l.end l.count l.places l.ids l.out l.start l.i

abbrev pub decreases-noted_places-loop-i : goal.decreases-noted_places-loop-i
decreases-noted_places-loop-i l = l.i
