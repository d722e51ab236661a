-- What was put in front of a place, taken apart; and a container's: its head in front of its parts makes it, and where one
-- of its parts would reach below the floor, so would all of it.
use Rattle.std.specs.Prelude.{Some, None, Option}
use mathlib.Core.List.{List, [], ◌∷◌, ◌++◌}
use mathlib.Core.Path.{◌≡◌, refl, sym, ap, ◌∙◌}
use Prim.Native.Nat.{ℕ, ◌+◌, ◌≤◌, ◌<◌}
use native.Mathlib.Omega.{arith}
use lib.ListN.{length, drop, length-append}
use lib.Seq.{drop_at, drop-drop}
use Rattle.forms.proofs.ContainerLaws.{array_fit}
use Rattle.forms.proofs.PartLaws.{AllFilled}
use Rattle.paper.specs.Normal.{array_bytes, object_bytes}
use Rattle.paper.specs.Words.{joined}
use Rattle.writing.proofs.EndLaws.{ends_behind, ends_join, ends_length}
use Rattle.writing.proofs.HeadLaws.{array_split, object_split}
use Rattle.writing.specs.Ends.{EndsAt, Lies}
use Rattle.writing.specs.Heads.{array_head, object_head}
use Rattle.putting.specs.Put.{Room, PutAs, put, full}

module _ {bytes before after : List ℕ} {floor end : ℕ} where
  pub put_here : {start : ℕ} → PutAs bytes before after floor end (Some start) → (floor ≤ start) × EndsAt bytes before after end start
  put_here (put start above ends) = (above, ends)

  pub put_full : PutAs bytes before after floor end None → end < floor + length bytes
  put_full (full short) = short

  pub put_length : {start : ℕ} → end ≤ length before → PutAs bytes before after floor end (Some start) → length after ≡ length before
  put_length within (put start above ends) = ends_length ends within

  -- There is still room in front of what was put.
  pub put_room : {start : ℕ} → Room before floor end → PutAs bytes before after floor end (Some start) → Room after floor start
  put_room room (put start above ends) =
      let size = ends.size in
      let within = room.within in
      let small = room.small in
      let same = ends_length ends within in
      record { above = above; within = omega arith; small = omega arith }

  -- Bytes that were put in front of others are put with them.
  pub put_join : {more last : List ℕ} {start : ℕ} {r : Option ℕ} → end ≤ length before → EndsAt bytes before after end start
      → PutAs more after last floor start r → PutAs (more ++ bytes) before last floor end r
  put_join {more} within ends (put first above front) = put first above (ends_join ends within front)
  put_join {more} within ends (full short) =
      let size = ends.size in
      let long = length-append more bytes in
      full (omega arith)

-- The same of an answer that a test told.
module _ {bytes before after : List ℕ} {floor end : ℕ} {r : Option ℕ} (done : PutAs bytes before after floor end r) where
  pub told_here : {start : ℕ} → r ≡ Some start → (floor ≤ start) × EndsAt bytes before after end start
  told_here e = put_here (rw e at done)

  pub told_full : r ≡ None → end < floor + length bytes
  told_full e = put_full (rw e at done)

  pub told_length : {start : ℕ} → end ≤ length before → r ≡ Some start → length after ≡ length before
  told_length within e = put_length within (rw e at done)

  pub told_room : {start : ℕ} → Room before floor end → r ≡ Some start → Room after floor start
  told_room room e = put_room room (rw e at done)

-- ---- a container: its head in front of its parts

-- Parts that were put lie there.
pub ends_lie : (parts : List (List ℕ)) {before middle : List ℕ} {start end : ℕ} → AllFilled parts → end ≤ length before
    → EndsAt (joined parts) before middle end start → Lies middle start end parts
ends_lie parts {before} {middle} {start} {end} filled within ends =
    let size = ends.size in
    let same = ends_length ends within in
    let front = ends_behind ends within in
    let long : ℕ = length (joined parts) in
    let behind : drop end middle ≡ drop end before =
    ap (λ (n : ℕ). drop n middle) (sym size) ∙ sym (drop-drop long start middle)
    ∙ ap (drop long) front ∙ drop_at (joined parts) (drop end before) long refl in
    record { filled = filled; size = size; are = rw behind front; within = omega arith }

module _ (parts : List (List ℕ)) {before middle after : List ℕ} {floor start end : ℕ} {r : Option ℕ} (within : end ≤ length before)
    (ends : EndsAt (joined parts) before middle end start) where
  pub put_array : PutAs (array_head parts) middle after floor start r → PutAs (array_bytes parts) before after floor end r
  put_array head = rw (array_split parts) (put_join within ends head)

  pub put_object : (ids : List ℕ) → PutAs (object_head ids parts) middle after floor start r → PutAs (object_bytes ids parts) before after floor end r
  put_object ids head = rw (object_split ids parts) (put_join within ends head)

-- ---- a part that would reach below the floor

pub object_holds : (ids : List ℕ) (parts : List (List ℕ)) → length (joined parts) ≤ length (object_bytes ids parts)
object_holds ids parts =
    let size = ap length (object_split ids parts) ∙ length-append (object_head ids parts) (joined parts) in
    omega arith

-- A part and those behind it are no longer than all parts.
pub parts_hold : (earlier : List (List ℕ)) (part : List ℕ) (later : List (List ℕ))
    → length part + length (joined later) ≤ length (joined (earlier ++ part ∷ later))
unfolding joined
parts_hold [] part later = rw (length-append part (joined later)) (omega arith)
parts_hold (first ∷ earlier) part later =
    let more = parts_hold earlier part later in
    rw (length-append first (joined (earlier ++ part ∷ later))) (omega arith)

module _ (earlier : List (List ℕ)) (part : List ℕ) (later : List (List ℕ)) (floor : ℕ) {before middle : List ℕ} {start end : ℕ}
    (ends : EndsAt (joined later) before middle end start) (short : start < floor + length part) where
  parts_short : end < floor + length (joined (earlier ++ part ∷ later))
  parts_short =
      let size = ends.size in
      let hold = parts_hold earlier part later in
      omega arith

  pub full_behind_array : end < floor + length (array_bytes (earlier ++ part ∷ later))
  full_behind_array =
      let few = parts_short in
      let hold = array_fit (earlier ++ part ∷ later) in
      omega arith

  pub full_behind_object : (ids : List ℕ) → end < floor + length (object_bytes ids (earlier ++ part ∷ later))
  full_behind_object ids =
      let few = parts_short in
      let hold = object_holds ids (earlier ++ part ∷ later) in
      omega arith
