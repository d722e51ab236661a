-- A frame is its head in front of its body: the head is put, one more in front of it, or there is no room for it.
use Rattle.std.specs.Prelude.{Some, None, Option}
use mathlib.Core.List.{List, [], ◌++◌, append_assoc}
use mathlib.Core.Path.{◌≡◌, refl, sym, ap, ◌∙◌}
use Prim.Native.Nat.{ℕ, suc, ◌+◌, ◌-◌, ◌≤◌, ◌<◌}
use native.Mathlib.Omega.{arith}
use lib.ListN.{length, length-append}
use Rattle.numbers.proofs.NumberLaws.{length-number_bytes}
use Rattle.numbers.specs.Little.{put_at, number_bytes}
use Rattle.paper.specs.Framing.{frame}
use Rattle.putting.proofs.PutLaws.{put_join, told_here, told_full}
use Rattle.putting.proofs.ScalarLaws.{byte_ends}
use Rattle.putting.specs.Put.{PutAs, put, full}
use Rattle.writing.proofs.EndLaws.{number_ends, ends_join, ends_length}
use Rattle.writing.specs.Ends.{EndsAt}
use Rattle.enclosing.specs.Frames.{frame_head, place_of}

pub head_length : (tag size : ℕ) → length (frame_head tag size) ≡ 3
unfolding frame_head
head_length tag size = ap suc (length-number_bytes 2 size)

pub frame_split : (tag : ℕ) (body : List ℕ) → frame tag body ≡ frame_head tag (length body) ++ body
unfolding frame frame_head
frame_split tag body = refl

pub frame_length : (tag : ℕ) (body : List ℕ) → length (frame tag body) ≡ 3 + length body
frame_length tag body =
    ap length (frame_split tag body) ∙ length-append (frame_head tag (length body)) body ∙ ap (λ (n : ℕ). n + length body) (head_length tag (length body))

-- ---- one head

module _ (tag size : ℕ) {before : List ℕ} {start : ℕ} where
  pub head_full : {after : List ℕ} → start < 3 → PutAs (frame_head tag size) before after 0 start None
  head_full short = let long = head_length tag size in full (omega arith)

  pub put_head : {middle after : List ℕ} → tag < 256 → 3 ≤ start → start ≤ length before → middle ≡ put_at before (start - 3 + 1) (number_bytes 2 size)
      → after ≡ put_at middle (start - 3) (number_bytes 1 tag) → PutAs (frame_head tag size) before after 0 start (Some (start - 3))
  unfolding frame_head
  put_head {middle} small fits within count_is is =
      let count = number_ends before (start - 3 + 1) 2 size {end = start} count_is (omega arith) in
      let one = byte_ends middle (start - 3) tag {end = start - 3 + 1} small is (omega arith) in
      put (start - 3) (omega arith) (ends_join count within one)

-- In front of its body it makes the frame.
pub put_framed : (tag : ℕ) (body : List ℕ) {before middle after : List ℕ} {start end : ℕ} {r : Option ℕ} → end ≤ length before → EndsAt body before middle end start
    → PutAs (frame_head tag (end - start)) middle after 0 start r → PutAs (frame tag body) before after 0 end r
put_framed tag body {before} {middle} {after} {start} {end} {r} within ends head =
    let all = ends.size in
    let size : end - start ≡ length body = omega arith in
    rw (frame_split tag body, ← size) (put_join within ends head)

-- ---- the two heads of a place of one part

module _ (tag end : ℕ) {before middle : List ℕ} {start : ℕ} {r : Option ℕ}
    (within : start ≤ length before) (one : PutAs (frame_head tag (end - start)) before middle 0 start r) where
  pub enclosed_full : r ≡ None → {after : List ℕ} → PutAs (frame_head 0x50 (3 + (end - start)) ++ frame_head tag (end - start)) before after 0 start None
  enclosed_full e =
      let short = told_full one e in
      let long = length-append (frame_head 0x50 (3 + (end - start))) (frame_head tag (end - start)) in
      full (omega arith)

  module _ {inner : ℕ} (here : r ≡ Some inner) where
    inner_is : inner + 3 ≡ start
    inner_is =
        let size = (told_here one here).1.size in
        let long = head_length tag (end - start) in
        omega arith

    -- There is room for the next head.
    pub inner_below : start ≤ end → inner ≤ end
    inner_below ordered = let place = inner_is in omega arith

    pub inner_within : (n : ℕ) → n ≤ length before → n ≤ length middle
    inner_within n inside = rw (ends_length (told_here one here).1 within) inside

    pub inner_short : (n : ℕ) → length before ≤ n → length middle ≤ n
    inner_short n few = rw (ends_length (told_here one here).1 within) few

    pub put_enclosed : {after : List ℕ} {q : Option ℕ} → start ≤ end → PutAs (frame_head 0x50 (end - inner)) middle after 0 inner q
        → PutAs (frame_head 0x50 (3 + (end - start)) ++ frame_head tag (end - start)) before after 0 start q
    put_enclosed {after} {q} ordered two =
        let place = inner_is in
        let size : end - inner ≡ 3 + (end - start) = omega arith in
        let more : PutAs (frame_head 0x50 (3 + (end - start))) middle after 0 inner q = rw size at two in
        put_join within (told_here one here).1 more

-- ---- places that are empty or have one part

pub put_empty : {before after : List ℕ} {end : ℕ} {r : Option ℕ} → PutAs (frame_head 0x50 (end - end)) before after 0 end r → PutAs (frame 0x50 []) before after 0 end r
unfolding frame frame_head number_bytes
put_empty {before} {after} {end} {r} done = let none : end - end ≡ 0 = omega arith in rw none at done

place_split : (tag : ℕ) (body : List ℕ) → place_of tag body ≡ (frame_head 0x50 (3 + length body) ++ frame_head tag (length body)) ++ body
unfolding place_of
place_split tag body =
    frame_split 0x50 (frame tag body) ∙ ap (λ (n : ℕ). frame_head 0x50 n ++ frame tag body) (frame_length tag body)
    ∙ ap (λ (s : List ℕ). frame_head 0x50 (3 + length body) ++ s) (frame_split tag body)
    ∙ sym (append_assoc (frame_head 0x50 (3 + length body)) (frame_head tag (length body)) body)

pub place_size : (tag : ℕ) (body : List ℕ) → length (place_of tag body) ≡ 6 + length body
unfolding place_of
place_size tag body =
    let outer = frame_length 0x50 (frame tag body) in
    let inner = frame_length tag body in
    omega arith

pub place_long : (tag : ℕ) (body : List ℕ) → length body ≤ length (place_of tag body)
place_long tag body = let size = place_size tag body in omega arith

module _ (tag : ℕ) (body : List ℕ) {before : List ℕ} {end : ℕ} where
  pub place_full : {after : List ℕ} → end < length body → PutAs (place_of tag body) before after 0 end None
  place_full short = let long = place_long tag body in full (omega arith)

  pub put_place : {middle after : List ℕ} {start : ℕ} {r : Option ℕ} → end ≤ length before → EndsAt body before middle end start
      → PutAs (frame_head 0x50 (3 + (end - start)) ++ frame_head tag (end - start)) middle after 0 start r → PutAs (place_of tag body) before after 0 end r
  put_place {middle} {after} {start} {r} within ends heads =
      let all = ends.size in
      let size : end - start ≡ length body = omega arith in
      let more : PutAs (frame_head 0x50 (3 + length body) ++ frame_head tag (length body)) middle after 0 start r = rw size at heads in
      rw (place_split tag body) (put_join within ends more)
