-- A container as normal form lays it out: first byte, count, bytes of ids, offsets, parts. Each is found again where 01's
-- definitions look for it. An array is the case of ids of no bytes.
use Rattle.std.specs.Prelude.{Some}
use mathlib.Core.List.{List, [], ◌∷◌, ◌++◌, append_assoc}
use mathlib.Core.Path.{◌≡◌, sym, ap, ◌∙◌}
use Prim.Native.Nat.{ℕ, ◌+◌, ◌-◌, ◌*◌, ◌^◌, ◌≤◌, ◌<◌}
use native.Mathlib.Nat.{suc-mul, zero-add}
use native.Mathlib.Numerals.{add-one}
use native.Mathlib.Omega.{arith}
use lib.ListN.{length, drop, length-append}
use lib.Seq.{drop_at, drop-drop}
use Rattle.numbers.specs.Little.{number_bytes, number_at}
use Rattle.paper.specs.Normal.{offsets_from, numbers_bytes}
use Rattle.paper.specs.Values.{head_size_of, container_extent, area_of, starts_of, ids_of}
use Rattle.paper.specs.Words.{numbers, joined}
use Rattle.forms.proofs.PartLaws.{starts_from, starts_length, starts_below, offsets_starts, numbers_bytes-append}
use Rattle.heads.proofs.HeadLaws.{head_count, container_is}
use Rattle.names.proofs.RunLaws.{numbers_bytes-length, number_back, numbers_back, offsets_length}
use Rattle.numbers.proofs.NumberLaws.{length-number_bytes}

unfoldable pub laid : (first count_bytes width : ℕ) → (ids : List ℕ) → (parts : List (List ℕ)) → List ℕ
laid first c w ids parts = first ∷ number_bytes c (length parts) ++ (ids ++ (numbers_bytes w (offsets_from 0 parts) ++ joined parts))

module _ (first c i w : ℕ) (ids : List ℕ) (parts : List (List ℕ)) (id_size : length ids ≡ length parts * i) where
  abbrev s : List ℕ
  s = laid first c w ids parts

  offsets_size : length (numbers_bytes w (offsets_from 0 parts)) ≡ (length parts + 1) * w
  offsets_size = numbers_bytes-length w (offsets_from 0 parts) ∙ rw (offsets_length 0 parts, add-one)

  pub laid_length : length s ≡ head_size_of (length parts) c i w + length (joined parts)
  unfolding laid head_size_of
  laid_length =
      let ends : length (numbers_bytes w (offsets_from 0 parts) ++ joined parts) ≡ (length parts + 1) * w + length (joined parts) =
      length-append (numbers_bytes w (offsets_from 0 parts)) (joined parts) ∙ rw offsets_size in
      rw (length-append, length-number_bytes, length-append, ends, id_size) (omega arith)

  behind_count : drop (1 + c) s ≡ ids ++ (numbers_bytes w (offsets_from 0 parts) ++ joined parts)
  unfolding laid
  behind_count = sym (drop-drop c 1 s) ∙ drop_at (number_bytes c (length parts)) _ c (length-number_bytes c (length parts))

  behind_ids : drop (1 + c + length parts * i) s ≡ numbers_bytes w (offsets_from 0 parts) ++ joined parts
  behind_ids = sym (drop-drop (length parts * i) (1 + c) s) ∙ rw behind_count (drop_at ids _ (length parts * i) id_size)

  behind_head : drop (head_size_of (length parts) c i w) s ≡ joined parts
  unfolding head_size_of
  behind_head =
      sym (drop-drop ((length parts + 1) * w) (1 + c + length parts * i) s)
      ∙ rw behind_ids (drop_at (numbers_bytes w (offsets_from 0 parts)) (joined parts) ((length parts + 1) * w) offsets_size)

  module _ (counted : length parts < 256 ^ c) where
    pub laid_count : number_at s 1 c ≡ length parts
    unfolding laid number_at
    laid_count = number_back c (length parts) _ counted

    pub laid_area : area_of c i w s ≡ joined parts
    unfolding area_of
    laid_area = rw laid_count behind_head

    pub laid_ids : ids_of c i s ≡ numbers i (length parts) (ids ++ (numbers_bytes w (offsets_from 0 parts) ++ joined parts))
    unfolding ids_of
    laid_ids = rw (laid_count, behind_count)

    module _ (least : 1 ≤ w) (wide : length (joined parts) < 256 ^ w) where
      -- the starts, and the last offset behind them
      starts_last : numbers_bytes w (offsets_from 0 parts) ++ joined parts
          ≡ numbers_bytes w (starts_from 0 parts) ++ (number_bytes w (length (joined parts)) ++ joined parts)
      unfolding numbers_bytes
      starts_last =
          rw (offsets_starts 0 parts, zero-add, numbers_bytes-append, append_assoc)
          (ap (λ (l : List ℕ). numbers_bytes w (starts_from 0 parts) ++ l) (append_assoc (number_bytes w (length (joined parts))) [] (joined parts)))

      pub laid_starts : starts_of c i w s ≡ starts_from 0 parts
      unfolding starts_of
      laid_starts =
          rw (laid_count, behind_ids, starts_last, ← starts_length 0 parts)
          (numbers_back w (starts_from 0 parts) _ least (starts_below 0 (256 ^ w) parts (omega arith)))

      behind_starts : drop (1 + c + length parts * i + length parts * w) s ≡ number_bytes w (length (joined parts)) ++ joined parts
      behind_starts =
          let size : length (numbers_bytes w (starts_from 0 parts)) ≡ length parts * w =
          numbers_bytes-length w (starts_from 0 parts) ∙ rw starts_length in
          sym (drop-drop (length parts * w) (1 + c + length parts * i) s)
          ∙ rw (behind_ids, starts_last) (drop_at (numbers_bytes w (starts_from 0 parts)) _ (length parts * w) size)

      laid_last : number_at s (head_size_of (length parts) c i w - w) w ≡ length (joined parts)
      unfolding head_size_of number_at
      laid_last =
          let more : (length parts + 1) * w ≡ length parts * w + w = rw (add-one, suc-mul) in
          let place : head_size_of (length parts) c i w - w ≡ 1 + c + length parts * i + length parts * w = omega arith in
          rw (place, behind_starts) (number_back w (length (joined parts)) (joined parts) wide)

      pub laid_extent : container_extent c i w s ≡ Some (length s)
      laid_extent =
          let all : length s ≡ head_size_of (length parts) c i w + length (joined parts) = laid_length in
          container_is s c i w
          (record {
            count_there = omega (arith, head_count (length parts) c i w);
            head_there = rw laid_count (omega arith);
            spans = rw (laid_count, laid_last) all;
          })
