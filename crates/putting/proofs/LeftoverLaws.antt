-- A leftover: it can be written since the floor is high enough, and where it starts says whether there was room.
use Rattle.std.specs.Prelude.{Some, None}
use mathlib.Core.List.{List}
use Prim.Native.Nat.{ℕ, ◌≤◌, ◌<◌}
use native.Mathlib.Omega.{arith}
use lib.ListN.{length}
use Rattle.writing.specs.Ends.{EndsAt}
use Rattle.writing.specs.Written.{Writable}
use Rattle.putting.specs.Put.{Room, Leftover, PutAs, put, full}

pub leftover_writable : {out : List ℕ} {floor end : ℕ} → Room out floor end → {levels : ℕ} {s ranks : List ℕ} → Leftover levels s ranks floor
    → Writable levels s ranks (length out) end
leftover_writable room left =
    let above = room.above in
    let within = room.within in
    let small = room.small in
    let below = left.below in
    record {
      names = left.names;
      meant = left.meant;
      small = left.few;
      ranked = left.ranked;
      fits = omega arith;
      within = within;
      most = omega arith;
    }

module _ {bytes before after : List ℕ} {floor end start : ℕ} (ends : EndsAt bytes before after end start) where
  pub leftover_full : start < floor → PutAs bytes before after floor end None
  leftover_full low = let size = ends.size in full (omega arith)

  pub leftover_put : floor ≤ start → PutAs bytes before after floor end (Some start)
  leftover_put high = put start high ends
