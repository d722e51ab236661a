-- The loops over parts that are written last to first: those from one on stand up to the end, each one value.
use Rattle.std.specs.Prelude.{Some, None, Option}
use mathlib.Core.List.{List, [], ◌∷◌, ◌++◌}
use mathlib.Core.Path.{◌≡◌, sym, ap, ◌∙◌}
use Prim.Native.Nat.{ℕ, suc, ◌+◌, ◌^◌, ◌≤◌, ◌<◌}
use native.Mathlib.Omega.{arith}
use lib.ListN.{length, get_or, take, drop, drop_of_length-le, length-append, take-append-drop}
use lib.Seq.{drop-cons}
use Rattle.forms.proofs.PartLaws.{AllFilled}
use Rattle.forms.proofs.ScalarLaws.{Filled}
use Rattle.paper.specs.Words.{joined}
use Rattle.putting.proofs.PutLaws.{told_here, told_full}
use Rattle.putting.specs.Put.{Room, PutAs}
use Rattle.writing.proofs.EndLaws.{nothing_ends, ends_join}
use Rattle.writing.specs.Ends.{EndsAt}

pub record PartsSeen (parts : List (List ℕ)) (before out : List ℕ) (floor end start i : ℕ) : Type 0 where
  pub within : i ≤ length parts
  pub fits : end ≤ length before
  pub small : end ≤ 2 ^ 17
  pub ends : EndsAt (joined (drop i parts)) before out end start
  pub filled : AllFilled (drop i parts)

joined_length : (xs ys : List (List ℕ)) → length (joined (xs ++ ys)) ≡ length (joined xs) + length (joined ys)
unfolding joined
joined_length [] ys = omega arith
joined_length (x ∷ xs) ys =
    let all = length-append x (joined (xs ++ ys)) in
    let one = length-append x (joined xs) in
    let more = joined_length xs ys in
    omega arith

module _ (parts : List (List ℕ)) {out : List ℕ} {floor end : ℕ} (room : Room out floor end) where
  pub parts_start : (count : ℕ) → count ≡ length parts → PartsSeen parts out out floor end end count
  unfolding joined AllFilled
  parts_start count is =
      let none : drop count parts ≡ [] = drop_of_length-le parts {i = count} (omega arith) in
      let above = room.within in
      let small = room.small in
      record {
        within = omega arith;
        fits = room.within;
        small = omega arith;
        ends = rw none (nothing_ends out end);
        filled = rw none tt;
      }

module _ {parts : List (List ℕ)} {before out : List ℕ} {floor end start i : ℕ} (seen : PartsSeen parts before out floor end start i) where
  pub parts_done : i ≡ 0 → (EndsAt (joined parts) before out end start) × AllFilled parts
  parts_done e = (rw e at seen.ends, rw e at seen.filled)

  module _ (k : ℕ) (next : k + 1 ≡ i) {after : List ℕ} {r : Option ℕ} (put : PutAs (get_or parts k []) out after floor start r) where
    one_more : drop k parts ≡ get_or parts k [] ∷ drop i parts
    one_more = let short = seen.within in let up : suc k ≡ i = omega arith in rw (← up) (drop-cons parts k [] (omega arith))

    pub parts_next : {first : ℕ} → r ≡ Some first → (length (get_or parts k []) < 2 ^ 32 → Filled (get_or parts k [])) → PartsSeen parts before after floor end first k
    unfolding joined AllFilled
    parts_next {first} e fills =
        let here = (told_here put e).1 in
        let size = here.size in
        let all = seen.ends.size in
        let short = seen.within in
        let small = seen.small in
        record {
          within = omega arith;
          fits = seen.fits;
          small = small;
          ends = rw one_more (ends_join seen.ends seen.fits here);
          filled = rw one_more (fills (omega arith), seen.filled);
        }

    pub parts_full : r ≡ None → end < floor + length (joined parts)
    unfolding joined
    parts_full e =
        let short = told_full put e in
        let size = seen.ends.size in
        let whole : length (joined parts) ≡ length (joined (take k parts)) + (length (get_or parts k []) + length (joined (drop i parts))) =
        ap (λ (l : List (List ℕ)). length (joined l)) (sym (take-append-drop k parts)) ∙ joined_length (take k parts) (drop k parts) ∙ rw (one_more, length-append) in
        omega arith
