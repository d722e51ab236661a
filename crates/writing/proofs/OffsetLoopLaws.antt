-- The loop that writes the offsets: what was shown of the parts that lie there, for whatever parts they are.
use Rattle.std.specs.Prelude.{Option, Some, None}
use mathlib.Core.List.{List, []}
use mathlib.Core.Path.{◌≡◌, refl, ◌∙◌}
use Prim.Native.Nat.{ℕ, ◌+◌, ◌-◌, ◌*◌, ◌^◌, ◌≤◌, ◌<◌}
use native.Mathlib.Omega.{arith}
use lib.ListN.{length, drop}
use mir.Syntax.{w64}
use mir.Val.{Fits}
use Rattle.numbers.specs.Little.{number_bytes, put_at}
use Rattle.paper.specs.Normal.{numbers_bytes, offsets_from}
use Rattle.paper.specs.Values.{child_extent}
use Rattle.writing.specs.Ends.{EndsAt, Lies, Lying}
use Rattle.writing.proofs.OffsetLaws.{OffsetsSeen, behind, room, room_fits, told_long, long_fits, seen_next, end_behind, seen_done, after_length}

-- The same of whatever parts lie there.
pub record OffsetsLoop (out₀ out : List ℕ) (count width start end from place child i : ℕ) : Type 0 where
  pub same_length : length out ≡ length out₀
  pub seen : (parts : List (List ℕ)) → Lies out₀ start end parts → length parts ≡ count
      → OffsetsSeen parts out₀ out count width start end from place child i

pub offsets_start : (out : List ℕ) (count width start end : ℕ) → (count + 1) * width ≤ start
    → OffsetsLoop out out count width start end (start - (count + 1) * width) (start - (count + 1) * width) start 0
offsets_start out count width start end fits =
    record {
      same_length = refl;
      seen = λ parts lie same. record {
        front = [];
        left = parts;
        rest = drop end out;
        filled = lie.filled;
        child_is = omega arith;
        count_is = omega arith;
        same_size = refl;
        inside = lie.within;
        place_is = rw same (omega arith);
        from_is = omega arith;
        are = lie.are;
        size = let is = lie.size in omega arith;
        whole = refl;
      };
    }

module _ {out₀ out : List ℕ} {count width start end from place child i : ℕ} (loop : OffsetsLoop out₀ out count width start end from place child i) where
  -- Parts lie there.
  module _ (lying : Lying out₀ start end count) where
    held : OffsetsSeen lying.parts out₀ out count width start end from place child i
    held = loop.seen lying.parts lying.lie lying.count_is

    pub child_behind : start ≤ child
    child_behind = behind held

    pub place_room : place + width ≤ length out
    place_room = room held

    pub place_fits : length out₀ < 2 ^ 64 → Fits w64 (place + width)
    place_fits small = room_fits held small

    pub last_behind : start ≤ end
    last_behind = end_behind held

    pub child_fits : (n : ℕ) {after : List ℕ} → after ≡ put_at out place (number_bytes width n) → i < count → (r : Option ℕ)
        → r ≡ child_extent after child → (size : ℕ) → r ≡ Some size → length out₀ < 2 ^ 64 → Fits w64 (child + size)
    child_fits n put h r told size e small = long_fits held n put h r told size e small

  module _ {after : List ℕ} (put : after ≡ put_at out place (number_bytes width (child - start))) (h : i < count) (r : Option ℕ)
      (told : r ≡ child_extent after child) where
    pub offsets_next : Lying out₀ start end count → (size : ℕ) → r ≡ Some size
        → OffsetsLoop out₀ after count width start end from (place + width) (child + size) (i + 1)
    offsets_next lying size e =
        record {
          same_length = after_length (held lying) (child - start) put ∙ loop.same_length;
          seen = λ parts lie counted. seen_next (loop.seen parts lie counted) (child - start) put h r told size e refl;
        }

    pub offsets_lost : r ≡ None → (parts : List (List ℕ)) → Lies out₀ start end parts → length parts ≡ count
        → EndsAt (numbers_bytes width (offsets_from 0 parts)) out₀ after start from
    offsets_lost e parts lie counted = absurd (told_long (loop.seen parts lie counted) (child - start) put h r told e)

  pub offsets_done : count ≤ i → {after : List ℕ} → after ≡ put_at out place (number_bytes width (end - start)) → (parts : List (List ℕ))
      → Lies out₀ start end parts → length parts ≡ count → EndsAt (numbers_bytes width (offsets_from 0 parts)) out₀ after start from
  offsets_done past put parts lie counted = seen_done (loop.seen parts lie counted) past put counted
