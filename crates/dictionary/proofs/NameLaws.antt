-- The name of an id: where its two offsets stand, and the name between them.
use mathlib.Core.List.{List, []}
use mathlib.Core.Path.{◌≡◌, refl, sym, ap, ◌∙◌}
use Prim.Native.Nat.{ℕ, ◌+◌, ◌*◌, ◌≤◌, ◌<◌}
use native.Mathlib.Nat.{mul-le-mul_left, mul-le-mul_right, add-mul}
use native.Mathlib.Omega.{arith}
use lib.ListN.{length, get_or, drop, length-drop}
use Rattle.dictionary.specs.Judging.{Opened}
use Rattle.dictionary.specs.declared.Names.{Names}
use Rattle.numbers.specs.Little.{number_at}
use Rattle.paper.specs.Metadata.{name_offsets, names_area, names_in}
use Rattle.paper.specs.Words.{part}
use Rattle.dictionary.proofs.DictionaryLaws.{lawful, offsets_is, area_is, opened_width, opened_there, offsets_length}
use Rattle.runs.proofs.NumbersRunLaws.{run_at, number_drop, rest, rest_is}
use Rattle.dictionary.proofs.OffsetLaws.{cut_at_lem, good_next, good_within}

module _ {m : List ℕ} {d : Names} {id : ℕ} (pre : Opened m d × (id < d.count)) where
  -- Both offsets of the id lie before the names, which start within the metadata.
  pub name_places : (1 + d.width + id * d.width + d.width + d.width ≤ 1 + d.width + (d.count + 1) * d.width)
      × (1 + d.width + (d.count + 1) * d.width ≤ length m)
      × (d.count + 1 ≤ (d.count + 1) * d.width)
  name_places =
      let up : (id + 2) * d.width ≤ (d.count + 1) * d.width = let l : id + 2 ≤ d.count + 1 = omega arith in mul-le-mul_right d.width l in
      let split : (id + 2) * d.width ≡ id * d.width + 2 * d.width = add-mul id 2 d.width in
      let some : 1 ≤ d.width = (opened_width pre.0).0 in
      let l : (d.count + 1) * 1 ≤ (d.count + 1) * d.width = mul-le-mul_left (d.count + 1) some in
      (omega arith, opened_there pre.0, omega arith)

  -- What is read there are the id's offset and the next one.
  offset_at : (i p r : ℕ) → i ≤ d.count → p ≡ 1 + d.width + i * d.width → r ≡ number_at m p d.width → r ≡ get_or (name_offsets m) i 0
  offset_at i p r h e is =
      let there : (d.count + 1) * d.width ≤ length (drop (1 + d.width) m) = let l = opened_there pre.0 in rw length-drop (omega arith) in
      is ∙ ap (λ (q : ℕ). number_at m q d.width) e
      ∙ sym (number_drop m (1 + d.width) (i * d.width) d.width)
      ∙ sym (run_at d.width (d.count + 1) (drop (1 + d.width) m) i (opened_width pre.0).0 there (omega arith))
      ∙ ap (λ (ns : List ℕ). get_or ns i 0) (sym (offsets_is m d.width d.count pre.0.width pre.0.count))

  module _ (from to : ℕ) (lower : from ≡ number_at m (1 + d.width + id * d.width) d.width)
      (upper : to ≡ number_at m (1 + d.width + id * d.width + d.width) d.width) where
    is_lower : from ≡ get_or (name_offsets m) id 0
    is_lower = offset_at id (1 + d.width + id * d.width) from (omega arith) refl lower

    is_upper : to ≡ get_or (name_offsets m) (id + 1) 0
    is_upper =
        let e : (id + 1) * d.width ≡ id * d.width + 1 * d.width = add-mul id 1 d.width in
        offset_at (id + 1) (1 + d.width + id * d.width + d.width) to (omega arith) (omega arith) upper

    area_from : names_area m ≡ rest m (1 + d.width + (d.count + 1) * d.width)
    area_from =
        area_is m d.width d.count pre.0.width pre.0.count
        ∙ sym (rest_is m (1 + d.width + (d.count + 1) * d.width))

    pub name_within : (from ≤ to) × (to ≤ length (rest m (1 + d.width + (d.count + 1) * d.width)))
    name_within =
        let l = lawful m pre.0.there in
        let n = offsets_length pre.0 in
        rw (is_lower, is_upper, ← area_from)
        (good_next (name_offsets m) (names_area m) id l.offsets_good_lem (omega arith), good_within (name_offsets m) (names_area m) id l.offsets_good_lem (omega arith))

    pub name_is : part (rest m (1 + d.width + (d.count + 1) * d.width)) from to ≡ get_or (names_in m) id []
    unfolding names_in
    name_is =
        let n = offsets_length pre.0 in
        rw (cut_at_lem (names_area m) (name_offsets m) id (omega arith), ← is_lower, ← is_upper, area_from)
