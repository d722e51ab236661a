-- The room for a document: which tables and floor suffice for a row, and what is answered of what was put there.
use Rattle.paper.specs.declared.Unwritten.TheVariants.{Refused}
use Rattle.paper.specs.Refusals.{DocumentAnswer}
use Rattle.std.specs.Prelude.{Some, None, Option, Err}
use mathlib.Core.List.{List}
use mathlib.Core.Path.{◌≡◌, refl}
use Prim.Native.Nat.{ℕ, ◌+◌, ◌-◌, ◌*◌, ◌≤◌}
use native.Mathlib.Omega.{arith}
use lib.ListN.{length, take, drop}
use Rattle.std.specs.Option.{unwrap_or}
use Rattle.building.specs.Building.{Enough}
use Rattle.normalise.proofs.AnswerLaws.{answer_large}
use Rattle.normalise.proofs.NumberedLaws.{last_bytes}
use Rattle.normalise.specs.Answered.{Answered}
use Rattle.paper.specs.Limits.{most_leftover, most_row, most_value}
use Rattle.paper.specs.Meaning.{Doc}
use Rattle.paper.specs.Metadata.{Dictionary}
use Rattle.paper.specs.Normal.{names_used, normal_form}
use Rattle.paper.specs.Operations.{written}
use Rattle.paper.specs.declared.Refusal.TheVariants.{TooLarge}
use Rattle.putting.proofs.PutLaws.{told_here, told_full}
use Rattle.putting.specs.Put.{PutAs}
use Rattle.rows.specs.declared.judging.RowParts.{RowParts}
use Rattle.rebuild.proofs.NumberedLaws.{outermost_short}
use Rattle.rebuild.specs.Numbering.{Numbered, TriedAs, SomeTried, told, no_room}

-- ---- which tables and floor suffice

-- A floor at twice a short place's length.
pub short_enough : (most : ℕ) {size : ℕ} → size ≤ most → most ≤ most_row → {places ids floor : ℕ} → most ≤ places → most ≤ ids → 2 * most ≤ floor
    → Enough size places ids floor
short_enough most short least places ids high =
    record { small = omega arith; places_room = omega arith; ids_room = omega arith; high = λ n h k. omega arith }

-- A floor at twice the longest leftover's length.
pub long_enough : {size places ids floor : ℕ} → size ≤ most_row → size ≤ places → size ≤ ids → 2 * most_leftover ≤ floor
    → Enough size places ids floor
long_enough short places ids high =
    record { small = omega arith; places_room = omega arith; ids_room = omega arith; high = λ n h k. omega arith }

-- The outermost place of a numbered row.
pub place_short : {schema : List ℕ} {row : RowParts} {table ranks chosen : List ℕ} → Numbered schema row table ranks chosen → length row.outermost.now ≤ most_row
place_short n = let within = outermost_short n.judged in let short = n.judged.row_short in omega arith

-- ---- what was put

-- It starts inside.
pub put_starts : {bytes before after : List ℕ} {floor end : ℕ} {r : Option ℕ} → PutAs bytes before after floor end r → {start : ℕ} → r ≡ Some start → start ≤ end
put_starts at e = let size = (told_here at e).1.size in omega arith

module _ {d : Doc} {before after : List ℕ} {floor : ℕ} {r : Option ℕ} (at : PutAs (normal_form d).value before after floor (length before) r) where
  pub put_answers : {start : ℕ} → r ≡ Some start → {names : Dictionary} → names ≡ names_used d
      → {first first' second second' : List ℕ} {a : DocumentAnswer}
      → ((d : Doc) → names ≡ names_used d → take (length before - start) (drop start after) ≡ (normal_form d).value
      → Answered (written d) first first' second second' a)
      → TriedAs d first first' second second' (length before) floor (Some a)
  put_answers e used {a = a} answers = told a (answers d used (last_bytes (told_here at e).1))

  pub put_nowhere : r ≡ None → {first second : List ℕ} → TriedAs d first first second second (length before) floor None
  put_nowhere e = no_room (told_full at e) refl refl

-- ---- what was tried

-- Where none was tried, none sufficed.
pub untried : {d : Doc} {first second : List ℕ} → SomeTried d first first second second None
untried = record { room = 0; floor = 1; was = no_room (omega arith) refl refl }

module _ {d : Doc} {first first' second second' : List ℕ} {room floor : ℕ} where
  pub tried_told : {t : Option DocumentAnswer} → TriedAs d first first' second second' room floor t → {a : DocumentAnswer} → t ≡ Some a → Answered (written d) first first' second second' a
  tried_told (told own is) {a} e = let same : own ≡ a = cc in rw (← same) is
  tried_told (no_room long kept kept') e = absurd (let z : ◌≡◌ {A = ℕ} 0 1 = cc in omega arith)

  untold : {t : Option DocumentAnswer} → TriedAs d first first' second second' room floor t → t ≡ None
      → (first' ≡ first) × (second' ≡ second)
  untold (told own is) e = absurd (let z : ◌≡◌ {A = ℕ} 0 1 = cc in omega arith)
  untold (no_room long kept kept') e = (kept, kept')

  -- Where the room has as many bytes above its floor as a value may have at most, a value without room is too large.
  pub tried_last : {t : Option DocumentAnswer} → TriedAs d first first' second second' room floor t → floor + most_value ≤ room
      → Answered (written d) first first' second second' (unwrap_or t (Err (Refused TooLarge)))
  tried_last (told own is) high = is
  tried_last (no_room long kept kept') high = rw (kept, kept') (answer_large d (normal_form d).value refl first second (omega arith))

  -- The buffers are as they were, so another answer is the answer.
  pub tried_again : {t : Option DocumentAnswer} → TriedAs d first first' second second' room floor t → t ≡ None
      → {first'' second'' : List ℕ} {a : DocumentAnswer} → Answered (written d) first' first'' second' second'' a
      → Answered (written d) first first'' second second'' a
  tried_again tried e answered = rw ((untold tried e).0, (untold tried e).1) at answered
