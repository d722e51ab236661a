-- A primitive of fixed size is lawful unless it is a decimal whose scale byte passes 38; a decimal has a scale byte.
use Rattle.std.specs.Prelude.{Option, None, Some}
use mathlib.Core.Bool.{Bool, true, not, ◌&&◌, ◌||◌, and-true}
use mathlib.Core.List.{List}
use mathlib.Core.Path.{◌≡◌, refl, sym, ap, ◌∙◌}
use Prim.Native.Nat.{ℕ, zero, suc, ◌+◌, ◌≤◌, ◌<◌}
use native.Mathlib.Omega.{arith}
use borrow.Author.Tests.{le-leb, lt-leb, leb-true, eqb-true}
use lib.Dec.{leb}
use lib.ListN.{length, get_or, drop}
use lib.Seq.{get_or-drop}
use Rattle.paper.specs.FirstBytes.{reading_of, payload_sizes, length_prefixed}
use Rattle.paper.specs.Meaning.{scalar, payload}
use Rattle.paper.specs.Values.{primitive_meaning, whole, ends_at, extent, extent_by}
use Rattle.paper.specs.Words.{at, is_there}
use Rattle.paper.specs.declared.Reading.TheVariants.{Fixed}
use Rattle.heads.proofs.HeadLaws.{extent_some}
use Rattle.heads.proofs.ReadingLaws.{fixed_sizes}
use Rattle.numbers.proofs.Table.{entry}
use Rattle.paper.proofs.WordLaws.{never, there_given}
use Rattle.std.proofs.lemmas.Option.{same_Some}

primitive_verdict : (code : ℕ) (s : List ℕ) → is_there (primitive_meaning code s) ≡ not (leb 8 code && leb code 10) || leb (at s 0) 38
unfolding primitive_meaning is_there
primitive_verdict zero s = refl
primitive_verdict (suc zero) s = refl
primitive_verdict (suc (suc zero)) s = refl
primitive_verdict (suc (suc (suc more))) s =
    there_given (not (leb 8 (suc (suc (suc more))) && leb (suc (suc (suc more))) 10) || leb (at s 0) 38) (Some (scalar (payload (suc (suc (suc more))) s)))
    ∙ and-true (not (leb 8 (suc (suc (suc more))) && leb (suc (suc (suc more))) 10) || leb (at s 0) 38)

pub primitive_plain : (code : ℕ) (s : List ℕ) → not (leb 8 code && leb code 10) ≡ true → is_there (primitive_meaning code s) ≡ true
primitive_plain code s e = primitive_verdict code s ∙ rw e

module _ (code : ℕ) (s : List ℕ) where
  pub primitive_low : code < 8 → true ≡ is_there (primitive_meaning code (drop 1 s))
  primitive_low h = sym (primitive_verdict code (drop 1 s) ∙ rw (lt-leb 8 code h))

  pub primitive_high : 8 ≤ code → 10 < code → true ≡ is_there (primitive_meaning code (drop 1 s))
  primitive_high h k = sym (primitive_verdict code (drop 1 s) ∙ rw (le-leb 8 code h, lt-leb code 10 k))

  pub primitive_scale : 8 ≤ code → code ≤ 10 → leb (get_or s 1 0) 38 ≡ is_there (primitive_meaning code (drop 1 s))
  primitive_scale h k = sym (primitive_verdict code (drop 1 s) ∙ rw (le-leb 8 code h, le-leb code 10 k, get_or-drop))

-- ---- a decimal has a scale byte

pub whole_extent : (s : List ℕ) → whole s ≡ true → extent s ≡ Some (length s)
unfolding whole ends_at
whole_extent s e = go (extent s) e
  where
    go : (x : Option ℕ) → ends_at x (length s) ≡ true → x ≡ Some (length s)
    go None f = never (sym f)
    go (Some n) f = ap Some (eqb-true n (length s) f)

decimal_size : (code : ℕ) → 8 ≤ code → code ≤ 10 → 5 ≤ get_or payload_sizes code 0
unfolding payload_sizes length_prefixed
decimal_size code h k = leb-true 5 (get_or payload_sizes code 0) (rw (le-leb 8 code h, le-leb code 10 k) at passed)
  where
    right : ℕ → ℕ → Bool
    right k x = not (leb 8 k && leb k 10) || leb 5 x

    passed : right code (get_or payload_sizes code 0) ≡ true
    passed = entry right payload_sizes refl code (omega arith)

pub scale_there : (code size : ℕ) (s : List ℕ) → whole s ≡ true → reading_of (at s 0) ≡ Fixed code size → 8 ≤ code → code ≤ 10 → 1 < length s
unfolding extent_by
scale_there code size s e f h k =
    let has = extent_some s (whole_extent s e) in
    let by : Some (1 + size) ≡ Some (length s) = rw f at has.1 in
    let fills : 1 + size ≡ length s = same_Some (1 + size) (length s) by in
    let is : size ≡ get_or payload_sizes code 0 = (fixed_sizes (at s 0) f).2 in
    let least : 5 ≤ get_or payload_sizes code 0 = decimal_size code h k in
    omega arith
