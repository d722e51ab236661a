-- The head of a container in normal form: all before its children.
use Rattle.std.specs.Prelude.{List, ◌∷◌, ◌++◌, ℕ, ◌+◌, ◌-◌, ◌*◌, length}
use Rattle.numbers.specs.Little.{number_bytes, smallest_width}
use Rattle.paper.specs.FirstBytes.{count_size}
use Rattle.paper.specs.Normal.{large_bit, largest, offsets_from, numbers_bytes}
use Rattle.paper.specs.Words.{joined}

unfoldable pub array_head : List (List ℕ) → List ℕ
array_head parts =
    let large = large_bit (length parts) in
    let width = smallest_width (length (joined parts)) in
    (3 + 4 * (width - 1) + 16 * large) ∷ number_bytes (count_size large) (length parts) ++ numbers_bytes width (offsets_from 0 parts)

unfoldable pub object_head : List ℕ → List (List ℕ) → List ℕ
object_head ids parts =
    let large = large_bit (length parts) in
    let id_width = smallest_width (largest ids) in
    let width = smallest_width (length (joined parts)) in
    (2 + 4 * (width - 1) + 16 * (id_width - 1) + 64 * large)
    ∷ number_bytes (count_size large) (length parts) ++ (numbers_bytes id_width ids ++ numbers_bytes width (offsets_from 0 parts))
