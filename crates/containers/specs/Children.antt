-- What is answered of how a container's children lie, in terms of the definitions of 01's values.
use Rattle.std.specs.Prelude.{Bool, true, false, cond, ◌&&◌, List, [], ◌∷◌, ℕ, ◌+◌, Option, None, Some}
use Rattle.paper.specs.Values.{end_to_end, every_byte_once}
use Rattle.paper.specs.declared.Child.{Child}
use Rattle.containers.specs.declared.children.Lying.{Lying}
use Rattle.containers.specs.declared.children.Lying.TheVariants.{EndToEnd, Scattered}

-- The sizes of some children together.
unfoldable pub sizes : List Child → ℕ
sizes [] = 0
sizes (child ∷ more) = child.size + sizes more

-- What lengths come to: a child without one, children end to end from a place, or children that lie otherwise.
unfoldable pub lengths_from : (in_order : Bool) → (from end sum : ℕ) → Option (List Child) → Option Lying
lengths_from in_order from end sum None = None
lengths_from in_order from end sum (Some children) =
    cond (in_order && end_to_end from end children) (Some EndToEnd) (Some (Scattered (sum + sizes children)))

unfoldable pub lengths_of : (end : ℕ) → Option (List Child) → Option Lying
lengths_of end children = lengths_from true 0 end 0 children

-- Children are there, and every byte of the area is in exactly one.
unfoldable pub once_in : (end : ℕ) → Option (List Child) → Bool
once_in end None = false
once_in end (Some children) = every_byte_once end children

-- Children are there, and lie end to end.
unfoldable pub tiled_in : (end : ℕ) → Option (List Child) → Bool
tiled_in end None = false
tiled_in end (Some children) = end_to_end 0 end children
