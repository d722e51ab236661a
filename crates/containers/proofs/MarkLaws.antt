-- Marks at the starts of children: the loop that sets them, and what the map then says.
use mathlib.Core.Bool.{true, false}
use mathlib.Core.List.{List, [], ◌∷◌, map}
use mathlib.Core.Path.{◌≡◌, refl, sym, ap, ◌∙◌}
use Prim.Native.Nat.{ℕ, ◌+◌, ◌*◌, ◌/◌, ◌≤◌, ◌<◌}
use native.Mathlib.Omega.{arith}
use borrow.Author.Tests.{ltb-true}
use lib.Dec.{leb, ltb, eqb}
use lib.ListN.{length, get_or, drop, replicate, length-replicate}
use Rattle.paper.specs.declared.Child.{Child}
use Rattle.paper.specs.Words.{one_if, all_below}
use Rattle.containers.specs.Marks.{bit_of, set_bit, mark_all}
use Rattle.runs.proofs.NumbersRunLaws.{below_at, next_number, no_more}
use Rattle.paper.proofs.WordLaws.{and_both}
use Rattle.containers.proofs.BitLaws.{set_bit_lem, other_bit, length-set_bit, clean_bit}
use Rattle.containers.proofs.CoverLaws.{Test, passed, failed, equal, at_most, starting}

-- ---- what a map says

-- How often a number is among some.
unfoldable pub times : ℕ → List ℕ → ℕ
times n [] = 0
times n (m ∷ ms) = one_if (eqb m n) + times n ms

pub starting_times : (place : ℕ) (children : List Child) → starting place children ≡ times place (map (λ (c : Child). c.start) children)
unfolding starting times
starting_times place [] = refl
starting_times place (child ∷ more) = ap (λ (n : ℕ). one_if (eqb child.start place) + n) (starting_times place more)

-- What is marked stays marked.
mark_keeps : (marks : List ℕ) (start i : ℕ) → start / 8 < length marks → bit_of marks i ≡ 1 → bit_of (set_bit marks start) i ≡ 1
mark_keeps marks start i h e = go (equal i start)
  where
    go : Test (eqb i start) (i ≡ start) (i ≡ start → ⊥) → bit_of (set_bit marks start) i ≡ 1
    go (passed t same) = rw same (set_bit_lem marks start h)
    go (failed t other) = other_bit marks start i other h ∙ e

-- The starts have bits on the map.
abbrev pub AllOn : List ℕ → List ℕ → Type 0
AllOn marks starts = all_below (8 * length marks) starts ≡ true

on_more : (marks : List ℕ) (start : ℕ) (more : List ℕ) → AllOn marks (start ∷ more) → (start / 8 < length marks) × AllOn (set_bit marks start) more
unfolding all_below
on_more marks start more e =
    let both = and_both (ltb start (8 * length marks)) (all_below (8 * length marks) more) e in
    let below : start < 8 * length marks = ltb-true start (8 * length marks) both.0 in
    (omega arith, rw (length-set_bit marks start) both.1)

marked_stays : (marks starts : List ℕ) (i : ℕ) → AllOn marks starts → bit_of marks i ≡ 1 → bit_of (mark_all marks starts) i ≡ 1
unfolding mark_all
marked_stays marks [] i on e = e
marked_stays marks (start ∷ more) i on e =
    let first = on_more marks start more on in
    marked_stays (set_bit marks start) more i first.1 (mark_keeps marks start i first.0 e)

-- What is among the starts is marked.
pub marked : (marks starts : List ℕ) (i : ℕ) → AllOn marks starts → 1 ≤ times i starts → bit_of (mark_all marks starts) i ≡ 1
unfolding mark_all times one_if
marked marks [] i on k = absurd (omega arith)
marked marks (start ∷ more) i on k = go (equal start i) (on_more marks start more on) (marked (set_bit marks start) more i) k
  where
    go : Test (eqb start i) (start ≡ i) (start ≡ i → ⊥) → (start / 8 < length marks) × AllOn (set_bit marks start) more
        → (AllOn (set_bit marks start) more → 1 ≤ times i more → bit_of (mark_all (set_bit marks start) more) i ≡ 1)
        → 1 ≤ one_if (eqb start i) + times i more → bit_of (mark_all (set_bit marks start) more) i ≡ 1
    go (passed t same) first rest k =
        marked_stays (set_bit marks start) more i first.1 (ap (bit_of (set_bit marks start)) (sym same) ∙ set_bit_lem marks start first.0)
    go (failed t other) first rest k =
        let later : 1 ≤ one_if false + times i more = rw t at k in
        rest first.1 (omega arith)

-- What is not among the starts keeps what it had.
pub unmarked : (marks starts : List ℕ) (i : ℕ) → AllOn marks starts → times i starts ≡ 0 → bit_of (mark_all marks starts) i ≡ bit_of marks i
unfolding mark_all times one_if
unmarked marks [] i on k = refl
unmarked marks (start ∷ more) i on k = go (equal start i) (on_more marks start more on) k (unmarked (set_bit marks start) more i)
  where
    go : Test (eqb start i) (start ≡ i) (start ≡ i → ⊥) → (start / 8 < length marks) × AllOn (set_bit marks start) more
        → one_if (eqb start i) + times i more ≡ 0
        → (AllOn (set_bit marks start) more → times i more ≡ 0 → bit_of (mark_all (set_bit marks start) more) i ≡ bit_of (set_bit marks start) i)
        → bit_of (mark_all (set_bit marks start) more) i ≡ bit_of marks i
    go (passed t same) first k rest = absurd (let bad : one_if true + times i more ≡ 0 = rw t at k in omega arith)
    go (failed t other) first k rest =
        let later : one_if false + times i more ≡ 0 = rw t at k in
        rest first.1 (omega arith) ∙ other_bit marks start i (λ e. other (sym e)) first.0

pub length_marks : (marks starts : List ℕ) → length (mark_all marks starts) ≡ length marks
unfolding mark_all
length_marks marks [] = refl
length_marks marks (start ∷ more) = length_marks (set_bit marks start) more ∙ length-set_bit marks start

-- On a clean map: 1 where a start is, else 0.
pub map_says : (size : ℕ) (starts : List ℕ) (i : ℕ) → all_below (8 * size) starts ≡ true → i < 8 * size
    → bit_of (mark_all (replicate size 0) starts) i ≡ one_if (leb 1 (times i starts))
unfolding one_if
map_says size starts i on h = go (at_most 1 (times i starts))
  where
    all_on : AllOn (replicate size 0) starts
    all_on = rw (length-replicate size (let z : ℕ = 0 in z)) on

    go : Test (leb 1 (times i starts)) (1 ≤ times i starts) (times i starts < 1)
        → bit_of (mark_all (replicate size 0) starts) i ≡ one_if (leb 1 (times i starts))
    go (passed t k) = rw t (marked (replicate size 0) starts i all_on k)
    go (failed t k) = rw t (unmarked (replicate size 0) starts i all_on (omega arith) ∙ clean_bit size i (omega arith))

-- ---- the loop that marks

-- After i starts: what is left is to be marked on what is marked.
pub record MarksSeen (starts marks₀ marks : List ℕ) (i : ℕ) : Type 0 where
  pub same_size : length marks ≡ length marks₀
  pub whole : mark_all marks₀ starts ≡ mark_all marks (drop i starts)

pub marks_start : (starts marks : List ℕ) → MarksSeen starts marks marks 0
marks_start starts marks = record { same_size = refl; whole = refl }

module _ {starts marks₀ marks : List ℕ} {i : ℕ} (seen : MarksSeen starts marks₀ marks i) where
  module _ (h : i < length starts) (start : ℕ) (is : start ≡ get_or starts i 0) where
    pub mark_inside : all_below (8 * length marks₀) starts ≡ true → start / 8 < length marks
    mark_inside below =
        let bound : get_or starts i 0 < 8 * length marks₀ = below_at (8 * length marks₀) starts i below h in
        let same : length marks ≡ length marks₀ = seen.same_size in
        omega arith

    pub marks_next : {after : List ℕ} → after ≡ set_bit marks start → MarksSeen starts marks₀ after (i + 1)
    unfolding mark_all
    marks_next e =
        record {
          same_size = ap length e ∙ length-set_bit marks start ∙ seen.same_size;
          whole = seen.whole ∙ ap (mark_all marks) (next_number starts i h start is) ∙ ap (λ (l : List ℕ). mark_all l (drop (i + 1) starts)) (sym e);
        }

  pub marks_done : length starts ≤ i → marks ≡ mark_all marks₀ starts
  unfolding mark_all
  marks_done past = sym (seen.whole ∙ ap (mark_all marks) (no_more starts i past))
