-- Where a container has what: its head is there, so its numbers are, and the parts that are lent are those of 01.
use mathlib.Core.List.{List}
use mathlib.Core.Path.{◌≡◌, refl, sym, ap, subst, ◌∙◌}
use Prim.Native.Nat.{ℕ, ◌+◌, ◌*◌, ◌^◌, ◌≤◌, ◌<◌}
use native.Mathlib.Nat.{suc-mul, mul-le-mul, mul-one, le_refl}
use native.Mathlib.Numerals.{add-one}
use native.Mathlib.Omega.{arith}
use lib.ListN.{length, drop, length-drop}
use mir.Syntax.{w64}
use mir.Val.{Fits}
use Rattle.numbers.specs.Little.{number_at}
use Rattle.paper.specs.Bounds.{most_walked}
use Rattle.paper.specs.Values.{head_size_of, area_of, starts_of, ids_of}
use Rattle.paper.specs.Words.{numbers}
use Rattle.containers.specs.Layouts.{HeadThere}
use Rattle.runs.proofs.NumbersRunLaws.{rest, rest_is, run_length}
use Rattle.heads.proofs.HeadLaws.{Spans, container_some}

module _ (s : List ℕ) (c i w : ℕ) (there : HeadThere s c i w) where
  spans : Spans s c i w (length s)
  spans = container_some s c i w there.fills

  pub count_there : (1 + c ≤ length s) × (1 ≤ c) × (c ≤ 4)
  count_there = (spans.count_there, there.count_least, there.count_most)

  -- What the count says is there: ids and offsets together.
  module _ (n : ℕ) (is : n ≡ number_at s 1 c) where
    head_parts : 1 + c + n * i + (n + 1) * w ≤ length s
    unfolding head_size_of
    head_parts = rw is spans.head_there

    more : (n + 1) * w ≡ n * w + w
    more = rw (add-one n, suc-mul)

    few : n ≤ n * w
    few = let e : n * 1 ≤ n * w = mul-le-mul (le_refl n) there.least in rw mul-one at e

    pub count_few : n ≤ most_walked
    count_few = let small = there.small in omega (arith, head_parts, more, few)

    pub ids_fit : Fits w64 (n * i)
    ids_fit = let small = there.small in record { fits = omega (arith, head_parts) }

    pub starts_fit : Fits w64 (1 + c + n * i)
    starts_fit = let small = there.small in record { fits = omega (arith, head_parts) }

    pub head_asks : (n < 2 ^ 32) × (c ≤ 4) × (i ≤ 4) × (w ≤ 4)
    head_asks = (omega (arith, count_few), there.count_most, there.id_most, there.most)

    pub ids_in : 1 + c ≤ length s
    ids_in = count_there.0

    pub starts_in : 1 + c + n * i ≤ length s
    starts_in = omega (arith, head_parts)

    -- the run of starts, and the run of ids, are there
    pub starts_there : n * w ≤ length (rest s (1 + c + n * i))
    starts_there = rw (rest_is s (1 + c + n * i), length-drop) (omega (arith, head_parts, more))

    pub ids_there : n * i ≤ length (rest s (1 + c))
    ids_there = rw (rest_is s (1 + c), length-drop) (omega (arith, head_parts))

    -- they are those of 01
    module _ (head : ℕ) (h : head ≡ head_size_of n c i w) where
      pub area_in : head ≤ length s
      area_in = rw (h, is) spans.head_there

      pub area_same : rest s head ≡ area_of c i w s
      unfolding area_of
      area_same = rest_is s head ∙ rw (h, is)

    pub starts_same : numbers w n (rest s (1 + c + n * i)) ≡ starts_of c i w s
    unfolding starts_of
    starts_same = rw (rest_is s (1 + c + n * i), is)

    pub ids_same : numbers i n (rest s (1 + c)) ≡ ids_of c i s
    unfolding ids_of
    ids_same = rw (rest_is s (1 + c), is)

    pub starts_few : length (starts_of c i w s) ≤ most_walked
    starts_few =
        let all = run_length w n (rest s (1 + c + n * i)) there.least starts_there in
        let same : length (starts_of c i w s) ≡ n = sym (ap length starts_same) ∙ all in
        omega (arith, count_few)

  pub area_small : length (area_of c i w s) ≤ most_walked
  unfolding area_of
  area_small = let small = there.small in rw length-drop (omega arith)

  -- An array's starts stand right behind its count.
  module _ (array : i ≡ 0) (n : ℕ) (is : n ≡ number_at s 1 c) where
    no_ids : 1 + c + n * i ≡ 1 + c
    no_ids = rw array (omega arith)

    pub array_starts_there : n * w ≤ length (rest s (1 + c))
    array_starts_there = subst (λ (k : ℕ). n * w ≤ length (rest s k)) no_ids (starts_there n is)

    pub array_starts_same : numbers w n (rest s (1 + c)) ≡ starts_of c i w s
    array_starts_same = ap (λ (k : ℕ). numbers w n (rest s k)) (sym no_ids) ∙ starts_same n is

  -- There are as many ids as starts.
  pub ids_starts_length : 1 ≤ i → length (ids_of c i s) ≡ length (starts_of c i w s)
  unfolding ids_of starts_of
  ids_starts_length least =
      let n : ℕ = number_at s 1 c in
      let all = head_parts n refl in
      let one = more n refl in
      run_length i n (drop (1 + c) s) least (rw length-drop (omega arith))
      ∙ sym (run_length w n (drop (1 + c + n * i) s) there.least (rw length-drop (omega arith)))
