-- The offsets of parts that stand already: a walk over the parts by their lengths, with what is left of the offsets to be
-- put behind what was put.
use Rattle.std.specs.Prelude.{Some, Option, None}
use mathlib.Core.List.{List, [], ◌∷◌, ◌++◌, append_assoc, append-nil}
use mathlib.Core.Path.{◌≡◌, refl, sym, ap, ◌∙◌}
use Prim.Native.Nat.{ℕ, suc, ◌+◌, ◌-◌, ◌*◌, ◌^◌, ◌≤◌, ◌<◌}
use native.Mathlib.Nat.{suc-mul}
use native.Mathlib.Numerals.{add-one}
use native.Mathlib.Omega.{arith}
use borrow.Author.Tests.{le-leb}
use lib.ListN.{length, drop, length-append}
use lib.Seq.{drop_at, drop-drop}
use mir.Syntax.{w64}
use mir.Val.{Fits}
use Rattle.forms.proofs.PartLaws.{AllFilled}
use Rattle.forms.proofs.ScalarLaws.{Filled}
use Rattle.heads.proofs.HeadLaws.{extent_more}
use Rattle.names.proofs.RunLaws.{numbers_bytes-length, offsets_length}
use Rattle.numbers.proofs.NumberLaws.{length-number_bytes}
use Rattle.numbers.proofs.PutLaws.{put_run, length_put}
use Rattle.numbers.specs.Little.{number_bytes, put_at}
use Rattle.paper.specs.Normal.{numbers_bytes, offsets_from}
use Rattle.paper.specs.Values.{child_extent}
use Rattle.paper.specs.Words.{given, and_then, joined}
use Rattle.writing.specs.Ends.{EndsAt}
use Rattle.writing.proofs.EndLaws.{put_ends, put_behind}

-- After i parts: their bytes, the parts left, and what is left to be put.
pub record OffsetsSeen (parts : List (List ℕ)) (out₀ out : List ℕ) (count width start end from place child i : ℕ) : Type 0 where
  pub front : List ℕ
  pub left : List (List ℕ)
  pub rest : List ℕ
  pub filled : AllFilled left
  pub child_is : child ≡ start + length front
  pub count_is : i + length left ≡ count
  pub same_size : length out ≡ length out₀
  pub inside : end ≤ length out₀
  pub place_is : place + (length left + 1) * width ≡ start
  pub from_is : from + (count + 1) * width ≡ start
  pub are : drop start out ≡ front ++ (joined left ++ rest)
  pub size : start + length front + length (joined left) ≡ end
  pub whole : put_at out₀ from (numbers_bytes width (offsets_from 0 parts)) ≡ put_at out place (numbers_bytes width (offsets_from (length front) left))

-- Some parts, or none.
some_left : (left : List (List ℕ)) → 0 < length left → (one : List ℕ) × (more : List (List ℕ)) × (left ≡ one ∷ more)
some_left [] h = absurd (omega arith)
some_left (one ∷ more) h = (one, more, refl)

none_left : (left : List (List ℕ)) → length left ≡ 0 → left ≡ []
none_left [] e = refl
none_left (one ∷ more) e = absurd (omega arith)

module _ {parts : List (List ℕ)} {out₀ out : List ℕ} {count width start end from place child i : ℕ}
    (seen : OffsetsSeen parts out₀ out count width start end from place child i) where
  pub behind : start ≤ child
  behind = let is = seen.child_is in omega arith

  place_further : (n : ℕ) → (n + 1) * width ≡ n * width + width
  place_further n = rw (add-one n, suc-mul)

  place_there : place + width ≤ start
  place_there = let is = seen.place_is in let more = place_further (length seen.left) in omega arith

  start_in : start ≤ length out
  start_in = let size = seen.size in let same = seen.same_size in let inside = seen.inside in omega arith

  pub room : place + width ≤ length out
  room = let a = place_there in let b = start_in in omega arith

  pub room_fits : length out₀ < 2 ^ 64 → Fits w64 (place + width)
  room_fits small = let a = room in let same = seen.same_size in record { fits = omega arith }

  -- A number was put at the place.
  module _ (n : ℕ) {after : List ℕ} (put : after ≡ put_at out place (number_bytes width n)) where
    sized : length (number_bytes width n) ≡ width
    sized = length-number_bytes width n

    pub after_length : length after ≡ length out
    after_length = let room = room in rw put (length_put out place (number_bytes width n) (rw sized room))

    after_are : drop start after ≡ seen.front ++ (joined seen.left ++ seen.rest)
    after_are = let there = place_there in rw put (put_behind out (number_bytes width n) place start (rw sized there) start_in) ∙ seen.are

    -- The next part.
    module _ (one : List ℕ) (more : List (List ℕ)) (left_is : seen.left ≡ one ∷ more) where
      joined_is : joined seen.left ++ seen.rest ≡ one ++ (joined more ++ seen.rest)
      unfolding joined
      joined_is = rw left_is (append_assoc one (joined more) seen.rest)

      joined_size : length (joined seen.left) ≡ length one + length (joined more)
      unfolding joined
      joined_size = rw left_is (length-append one (joined more))

      one_filled : Filled one × AllFilled more
      unfolding AllFilled
      one_filled = rw left_is at seen.filled

      here : drop child after ≡ one ++ (joined more ++ seen.rest)
      here =
          ap (λ (k : ℕ). drop k after) seen.child_is ∙ sym (drop-drop (length seen.front) start after)
          ∙ ap (drop (length seen.front)) after_are ∙ drop_at seen.front (joined seen.left ++ seen.rest) (length seen.front) refl ∙ joined_is

      child_long : child_extent after child ≡ Some (length one)
      unfolding child_extent and_then given
      child_long =
          let size = seen.size in
          let sum = joined_size in
          let is = seen.child_is in
          let same = seen.same_size in
          let inside = seen.inside in
          let all = after_length in
          rw (here, extent_more one (joined more ++ seen.rest) one_filled.0, le-leb (child + length one) (length after) (omega arith))

      -- what is left once the part is passed
      passed : (size : ℕ) → size ≡ length one → n ≡ length seen.front → i < count
          → OffsetsSeen parts out₀ after count width start end from (place + width) (child + size) (i + 1)
      passed size is n-is h =
          let front : List ℕ = seen.front ++ one in
          let long : length front ≡ length seen.front + length one = length-append seen.front one in
          let count_left : length seen.left ≡ suc (length more) = ap length left_is in
          let first : ℕ = length seen.front in
          let ends : List ℕ = numbers_bytes width (offsets_from (first + length one) more) in
          let room : place + length (number_bytes width first) ≤ length out = let r = room in rw (length-number_bytes width first) r in
          let split : numbers_bytes width (offsets_from first seen.left) ≡ number_bytes width first ++ ends =
          ap (λ (l : List (List ℕ)). numbers_bytes width (offsets_from first l)) left_is ∙ unfold numbers_bytes offsets_from in refl in
          let run : put_at (put_at out place (number_bytes width first)) (place + width) ends ≡ put_at out place (number_bytes width first ++ ends) =
          rw (length-number_bytes width first) at (put_run out place (number_bytes width first) ends room) in
          let put_first : after ≡ put_at out place (number_bytes width first) = put ∙ rw n-is in
          let place-was = seen.place_is in
          let place-more = place_further (length seen.left) in
          let left_same : length seen.left * width ≡ (length more + 1) * width = rw (count_left, ← add-one (length more)) in
          let child-was = seen.child_is in
          let count-was = seen.count_is in
          let size-was = seen.size in
          let sum = joined_size in
          record {
            front = front;
            left = more;
            rest = seen.rest;
            filled = one_filled.1;
            child_is = omega arith;
            count_is = omega arith;
            same_size = after_length ∙ seen.same_size;
            inside = seen.inside;
            place_is = omega arith;
            from_is = seen.from_is;
            are = after_are ∙ ap (λ (l : List ℕ). seen.front ++ l) joined_is ∙ sym (append_assoc seen.front one (joined more ++ seen.rest));
            size = omega arith;
            whole = seen.whole ∙ ap (put_at out place) split ∙ sym run
                ∙ rw (long, put_first);
          }

    -- By what was answered of its length.
    module _ (h : i < count) (r : Option ℕ) (told : r ≡ child_extent after child) where
      some_more : (one : List ℕ) × (more : List (List ℕ)) × (seen.left ≡ one ∷ more)
      some_more = let is = seen.count_is in some_left seen.left (omega arith)

      answer : r ≡ Some (length some_more.0)
      answer = told ∙ (child_long some_more.0 some_more.1 some_more.2)

      pub told_long : r ≡ None → ⊥
      told_long e = let same = answer in let z : ◌≡◌ {A = ℕ} 0 1 = cc in absurd (omega arith)

      module _ (size : ℕ) (e : r ≡ Some size) where
        size_is : size ≡ length some_more.0
        size_is = let same = answer in cc

        pub long_fits : length out₀ < 2 ^ 64 → Fits w64 (child + size)
        long_fits small =
            let is = size_is in
            let was = seen.size in
            let at = seen.child_is in
            let sum = joined_size some_more.0 some_more.1 some_more.2 in
            let inside = seen.inside in
            record { fits = omega arith }

        pub seen_next : n ≡ child - start → OffsetsSeen parts out₀ after count width start end from (place + width) (child + size) (i + 1)
        seen_next n-is = let at = seen.child_is in passed some_more.0 some_more.1 some_more.2 size size_is (omega arith) h

  -- The last offset.
  pub end_behind : start ≤ end
  end_behind = let size = seen.size in omega arith

  pub seen_done : count ≤ i → {after : List ℕ} → after ≡ put_at out place (number_bytes width (end - start)) → length parts ≡ count
      → EndsAt (numbers_bytes width (offsets_from 0 parts)) out₀ after start from
  seen_done past {after} put same =
      let counted = seen.count_is in
      let empty : seen.left ≡ [] = none_left seen.left (omega arith) in
      let nothing : length (joined seen.left) ≡ 0 = rw empty (unfold joined in refl) in
      let size = seen.size in
      let long : length seen.front ≡ end - start = omega arith in
      let alone : numbers_bytes width (offsets_from (length seen.front) []) ≡ number_bytes width (length seen.front) =
      unfold numbers_bytes offsets_from in append-nil (number_bytes width (length seen.front)) in
      let last : numbers_bytes width (offsets_from (length seen.front) seen.left) ≡ number_bytes width (end - start) =
      ap (λ (l : List (List ℕ)). numbers_bytes width (offsets_from (length seen.front) l)) empty ∙ alone ∙ ap (number_bytes width) long in
      let all : length (numbers_bytes width (offsets_from 0 parts)) ≡ (count + 1) * width =
      numbers_bytes-length width (offsets_from 0 parts) ∙ rw (offsets_length 0 parts, same, add-one count) in
      let from-was = seen.from_is in
      put_ends out₀ (numbers_bytes width (offsets_from 0 parts)) from (put ∙ ap (put_at out place) (sym last) ∙ sym seen.whole) (omega arith)
