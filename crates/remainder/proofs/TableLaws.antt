-- One more member in the tables: behind those that were noted stands its number, and behind their ids its own.
use mathlib.Core.Bool.{Bool, true, false}
use mathlib.Core.List.{List, [], ◌∷◌, ◌++◌, append_assoc, map-append}
use mathlib.Core.Path.{◌≡◌, refl, sym}
use Prim.Native.Nat.{ℕ, suc, ◌+◌, ◌*◌, ◌≤◌, ◌<◌}
use native.Mathlib.Numerals.{add-one}
use native.Mathlib.Omega.{arith}
use borrow.Author.Tests.{eqb-true, eqb-false}
use lib.Dec.{eqb}
use lib.ListN.{length, get_or, set, take, length-set}
use lib.Seq.{get_or-set_same, get_or-set_other, take-suc-set}
use Rattle.members.specs.Members.{PartThere, member_part}
use Rattle.members.specs.declared.Members.{Members}
use Rattle.noting.proofs.FrontLaws.{numbers_put}
use Rattle.numbers.proofs.NumberLaws.{length-number_bytes, read_back}
use Rattle.numbers.specs.Little.{number, number_bytes, put_at}
use Rattle.paper.specs.Bounds.{most_walked}
use Rattle.paper.specs.Words.{numbers}
use Rattle.remainder.specs.Left.{NotedThere, noted_parts}

pub one_behind : {A : Type 0} (front : List A) {one same : A} → one ≡ same → (rest : List A) {more : List A} → more ≡ front ++ (one ∷ []) → front ++ (same ∷ rest) ≡ more ++ rest
one_behind front {one} is rest e = rw (e, ← is) (sym (append_assoc front (one ∷ []) rest))

module _ (s : List ℕ) (m : Members) (notes : List ℕ) (n k : ℕ) (room : n < length notes) where
  pub parts_more : noted_parts s m (set notes n k) (n + 1) ≡ noted_parts s m notes n ++ (member_part s m k ∷ [])
  parts_more =
      rw (add-one n, take-suc-set notes n k room) (map-append (λ (j : ℕ). member_part s m j) (take n notes) (k ∷ []))

  pub there_more : NotedThere s m notes n → PartThere s m k → NotedThere s m (set notes n k) (n + 1)
  there_more noted here = record { room = rw length-set (omega arith); there = λ i h. go i h (eqb i n) refl }
    where
      go : (i : ℕ) → i < n + 1 → (b : Bool) → eqb i n ≡ b → PartThere s m (get_or (set notes n k) i 0)
      go i h true e = let same = eqb-true i n e in rw (same, get_or-set_same notes n k 0 room) here
      go i h false e =
          let other = eqb-false i n e in
          rw (get_or-set_other notes n i k 0 other) (noted.there i (omega arith))

pub ids_more : (ids : List ℕ) (n id : ℕ) → 2 * n + 2 ≤ length ids → id < most_walked
    → numbers 2 (n + 1) (put_at ids (2 * n) (number_bytes 2 id)) ≡ numbers 2 n ids ++ (id ∷ [])
ids_more ids n id room low =
    let same : 2 * n ≡ n * 2 = omega arith in
    let there : suc n * 2 ≤ length ids = omega arith in
    let back : number (number_bytes 2 id) ≡ id = read_back 2 id low in
    rw (add-one n, same, numbers_put 2 n ids (number_bytes 2 id) (omega arith) (length-number_bytes 2 id) there, back)
