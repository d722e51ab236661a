-- "Of the 256 first bytes each has one fixed reading, by the kind and the sizes that its bits give" (01, Values).
use Rattle.std.specs.Prelude.{Bool, true, false, cond, List, [], ◌∷◌, ℕ, zero, suc, ◌+◌, ◌*◌, ◌/◌, ◌%◌, leb, eqb, get_or}
use Rattle.paper.specs.declared.Reading.{Reading}
use Rattle.paper.specs.declared.Reading.TheVariants.{Fixed, Prefixed, Short, ObjectHead, ArrayHead, Nothing}

-- The mark of the two types whose payload has its length in front.
unfoldable pub length_prefixed : ℕ
length_prefixed = 255

-- Primitive payload sizes by type 0 to 20.
unfoldable pub payload_sizes : List ℕ
payload_sizes =
    0 ∷ 0 ∷ 0 ∷ 1 ∷ 2 ∷ 4 ∷ 8 ∷ 8 ∷ 5 ∷ 9 ∷ 17 ∷ 4 ∷ 8 ∷ 8 ∷ 4 ∷ length_prefixed ∷ length_prefixed ∷ 8 ∷ 8 ∷ 8 ∷ 16 ∷ []

unfoldable pub primitive_reading : ℕ → Reading
primitive_reading type =
    cond (leb type 20)
    (cond (eqb (get_or payload_sizes type 0) length_prefixed) (Prefixed type) (Fixed type (get_or payload_sizes type 0)))
    Nothing

-- A count takes 1 byte, or 4 if large.
unfoldable pub count_size : ℕ → ℕ
count_size large = 1 + 3 * large

-- Low two bits of the first byte: primitive, short string, object, array. The six above them say the rest: of an object
-- offset size less one in two bits, id size less one in two, large in one, one unused; of an array offset size less one
-- in two bits, large in one, three unused.
unfoldable pub kind_reading : (kind rest : ℕ) → Reading
kind_reading zero rest = primitive_reading rest
kind_reading (suc zero) rest = Short rest
kind_reading (suc (suc zero)) rest =
    cond (eqb (rest / 32) 0) (ObjectHead (count_size (rest / 16 % 2)) (rest / 4 % 4 + 1) (rest % 4 + 1)) Nothing
kind_reading (suc (suc (suc more))) rest =
    cond (eqb (rest / 8) 0) (ArrayHead (count_size (rest / 4 % 2)) (rest % 4 + 1)) Nothing

unfoldable pub reading_of : ℕ → Reading
reading_of first = kind_reading (first % 4) (first / 4)
