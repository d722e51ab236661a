-- Bytes put from a place on in several steps: what is left, put behind what is done, makes the whole.
use mathlib.Core.List.{List, [], ◌++◌}
use mathlib.Core.Path.{◌≡◌, refl, sym, ap, ◌∙◌}
use Prim.Native.Nat.{ℕ, ◌+◌, ◌≤◌}
use native.Mathlib.Omega.{arith}
use lib.ListN.{length, length-append}
use Rattle.numbers.specs.Little.{put_at}
use Rattle.numbers.proofs.PutLaws.{put_none, put_run, length_put}

pub record Left (before after : List ℕ) (place at : ℕ) (all left : List ℕ) : Type 0 where
  pub room : at + length left ≤ length after
  pub kept : length after ≡ length before
  pub whole : put_at after at left ≡ put_at before place all

pub left_all : (before : List ℕ) (place : ℕ) (all : List ℕ) → place + length all ≤ length before → Left before before place place all all
left_all before place all h = record { room = h; kept = refl; whole = refl }

module _ {before after : List ℕ} {place at : ℕ} {all : List ℕ} where
  -- The first of what is left has room, ..
  pub first_room : (first rest : List ℕ) → Left before after place at all (first ++ rest) → at + length first ≤ length after
  first_room first rest l =
      let room : at + length (first ++ rest) ≤ length after = l.room in
      let size : length (first ++ rest) ≡ length first + length rest = length-append first rest in
      omega arith

  -- .. and put there it leaves the rest.
  pub left_next : (first rest : List ℕ) (next : ℕ) {then : List ℕ} → Left before after place at all (first ++ rest)
      → then ≡ put_at after at first → next ≡ at + length first → Left before then place next all rest
  left_next first rest next {then} l e n =
      let room : at + length (first ++ rest) ≤ length after = l.room in
      let size : length (first ++ rest) ≡ length first + length rest = length-append first rest in
      let same : length then ≡ length after = ap length e ∙ length_put after at first (omega arith) in
      record {
        room = omega arith;
        kept = same ∙ l.kept;
        whole = rw (e, n) (put_run after at first rest (omega arith) ∙ l.whole);
      }

  pub left_none : Left before after place at all [] → after ≡ put_at before place all
  left_none l = sym (put_none after at) ∙ l.whole
