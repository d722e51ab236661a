-- What the walker's inner functions answer of the insides of a container's children, in terms of the definitions of 01's
-- values.
use Rattle.std.specs.Prelude.{Bool, true, false, not, ◌&&◌, List, [], ◌∷◌, ℕ, leb, Option, None, Some}
use Rattle.paper.specs.declared.Reading.{Reading}
use Rattle.paper.specs.declared.Reading.TheVariants.{Fixed, Prefixed, Short, ObjectHead, ArrayHead, Nothing}
use Rattle.paper.specs.Words.{is_there, and_then}
use Rattle.paper.specs.Meaning.{Doc}
use Rattle.paper.specs.Values.{child_extent, child_bytes}
use Rattle.paper.specs.declared.Child.{Child}

-- A value of this reading has nothing inside that could break a rule: only a decimal's scale and a container's children
-- are judged beyond their lengths.
unfoldable pub plain_by : Reading → Bool
plain_by (Fixed type size) = not (leb 8 type && leb type 10)
plain_by (Prefixed type) = true
plain_by (Short size) = true
plain_by (ObjectHead count id offset) = false
plain_by (ArrayHead count offset) = false
plain_by Nothing = false

-- The child at a start is there and lawful inside, by what decodes one.
unfoldable pub child_good : (List ℕ → Option Doc) → List ℕ → (start : ℕ) → Bool
child_good inner area start =
    is_there (and_then (child_extent area start) λ size. inner (child_bytes area (record { start = start; size = size })))

-- The insides of children are all lawful, by what decodes one.
unfoldable pub all_good : (List ℕ → Option Doc) → List ℕ → List Child → Bool
all_good inner area [] = true
all_good inner area (child ∷ more) = is_there (inner (child_bytes area child)) && all_good inner area more

unfoldable pub insides_good : (List ℕ → Option Doc) → List ℕ → Option (List Child) → Bool
insides_good inner area None = false
insides_good inner area (Some children) = all_good inner area children
