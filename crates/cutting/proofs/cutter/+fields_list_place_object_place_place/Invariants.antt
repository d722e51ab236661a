-- A value under a node, a list's elements, an object's places: each is written in front of those behind it. A call takes a level, or
-- keeps it and goes on from an object to its fields, from a field to those behind it, and to a value under a node.
use Prim.Native.Nat.{◌+◌, ◌-◌, ◌*◌}
use Rattle.paper.specs.Limits.{most_schema}
use Rattle.cutting.proofs.ListLaws.{ListSeen}
use Rattle.cutting.proofs.cutter.+fields_list_place_object_place_place.Given as goal

abbrev pub decreases-fields : goal.decreases-fields
decreases-fields l = (most_schema + 4) * l.levels + 2 + (l.to - l.from)

abbrev pub decreases-list_place : goal.decreases-list_place
decreases-list_place l = (most_schema + 4) * l.levels + 1

abbrev pub decreases-object_place : goal.decreases-object_place
decreases-object_place l = (most_schema + 4) * l.levels + 3 + most_schema

abbrev pub decreases-place : goal.decreases-place
decreases-place l = (most_schema + 4) * l.levels

abbrev pub invariant-list_place-loop-i : goal.invariant-list_place-loop-i
invariant-list_place-loop-i l = ListSeen l.levels l.basis.ranks.now l.basis.schema.now l.basis.table.now l.node l.s l.initial.notes l.initial.ids l.initial.out l.end l.members l.notes l.ids l.out l.start l.i
