-- Rule f: present, and no id has the name.
use Rattle.std.specs.Prelude.{Some, None, Option, is_some}
use mathlib.Core.Bool.{Bool, true, false, not, ◌&&◌}
use mathlib.Core.Path.{◌≡◌}
use Rattle.dictionary.specs.declared.ids.InputId.{InputId}
use Rattle.places.specs.Walking.{is_nowhere}

pub nowhere_told : (present : Bool) → present ≡ true → (r : Option InputId) {looked : Option InputId} → r ≡ looked
    → (none : Bool) → is_some r ≡ not none → none ≡ (present && is_nowhere looked)
unfolding is_nowhere
nowhere_told present there None is true e = rw (there, ← is)
nowhere_told present there (Some id) is false e = rw (there, ← is)
nowhere_told present there None is false e = cc
nowhere_told present there (Some id) is true e = cc
