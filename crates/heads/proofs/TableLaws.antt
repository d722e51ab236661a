-- The table of readings: its rule, computed once over all entries.
use mathlib.Core.List.{List, [], ◌∷◌}
use mathlib.Core.Path.{refl}
use Prim.Native.Nat.{ℕ}
use Rattle.heads.specs.Packing.{unpack, Packed}
use Rattle.paper.specs.FirstBytes.{length_prefixed, payload_sizes, primitive_reading, count_size, kind_reading, reading_of}
use Rattle.heads.proofs.PackLaws.{unpacked_from, readings_from, entry}

unfoldable pub readings : List ℕ
readings =
    0 ∷ 2 ∷ 3 ∷ 4 ∷ 0 ∷ 2 ∷ 11 ∷ 12 ∷ 0 ∷ 2 ∷ 19 ∷ 20 ∷ 8 ∷ 2 ∷ 27 ∷ 28 ∷
    16 ∷ 2 ∷ 35 ∷ 36 ∷ 32 ∷ 2 ∷ 43 ∷ 44 ∷ 64 ∷ 2 ∷ 51 ∷ 52 ∷ 64 ∷ 2 ∷ 59 ∷ 60 ∷
    40 ∷ 2 ∷ 67 ∷ 5 ∷ 72 ∷ 2 ∷ 75 ∷ 5 ∷ 136 ∷ 2 ∷ 83 ∷ 5 ∷ 32 ∷ 2 ∷ 91 ∷ 5 ∷
    64 ∷ 2 ∷ 99 ∷ 5 ∷ 64 ∷ 2 ∷ 107 ∷ 5 ∷ 32 ∷ 2 ∷ 115 ∷ 5 ∷ 1 ∷ 2 ∷ 123 ∷ 5 ∷
    1 ∷ 2 ∷ 131 ∷ 5 ∷ 64 ∷ 2 ∷ 139 ∷ 5 ∷ 64 ∷ 2 ∷ 147 ∷ 5 ∷ 64 ∷ 2 ∷ 155 ∷ 5 ∷
    128 ∷ 2 ∷ 163 ∷ 5 ∷ 5 ∷ 2 ∷ 171 ∷ 5 ∷ 5 ∷ 2 ∷ 179 ∷ 5 ∷ 5 ∷ 2 ∷ 187 ∷ 5 ∷
    5 ∷ 2 ∷ 195 ∷ 5 ∷ 5 ∷ 2 ∷ 203 ∷ 5 ∷ 5 ∷ 2 ∷ 211 ∷ 5 ∷ 5 ∷ 2 ∷ 219 ∷ 5 ∷
    5 ∷ 2 ∷ 227 ∷ 5 ∷ 5 ∷ 2 ∷ 235 ∷ 5 ∷ 5 ∷ 2 ∷ 243 ∷ 5 ∷ 5 ∷ 2 ∷ 251 ∷ 5 ∷
    5 ∷ 2 ∷ 5 ∷ 5 ∷ 5 ∷ 2 ∷ 5 ∷ 5 ∷ 5 ∷ 2 ∷ 5 ∷ 5 ∷ 5 ∷ 2 ∷ 5 ∷ 5 ∷
    5 ∷ 2 ∷ 5 ∷ 5 ∷ 5 ∷ 2 ∷ 5 ∷ 5 ∷ 5 ∷ 2 ∷ 5 ∷ 5 ∷ 5 ∷ 2 ∷ 5 ∷ 5 ∷
    5 ∷ 2 ∷ 5 ∷ 5 ∷ 5 ∷ 2 ∷ 5 ∷ 5 ∷ 5 ∷ 2 ∷ 5 ∷ 5 ∷ 5 ∷ 2 ∷ 5 ∷ 5 ∷
    5 ∷ 2 ∷ 5 ∷ 5 ∷ 5 ∷ 2 ∷ 5 ∷ 5 ∷ 5 ∷ 2 ∷ 5 ∷ 5 ∷ 5 ∷ 2 ∷ 5 ∷ 5 ∷
    5 ∷ 2 ∷ 5 ∷ 5 ∷ 5 ∷ 2 ∷ 5 ∷ 5 ∷ 5 ∷ 2 ∷ 5 ∷ 5 ∷ 5 ∷ 2 ∷ 5 ∷ 5 ∷
    5 ∷ 2 ∷ 5 ∷ 5 ∷ 5 ∷ 2 ∷ 5 ∷ 5 ∷ 5 ∷ 2 ∷ 5 ∷ 5 ∷ 5 ∷ 2 ∷ 5 ∷ 5 ∷
    5 ∷ 2 ∷ 5 ∷ 5 ∷ 5 ∷ 2 ∷ 5 ∷ 5 ∷ 5 ∷ 2 ∷ 5 ∷ 5 ∷ 5 ∷ 2 ∷ 5 ∷ 5 ∷
    5 ∷ 2 ∷ 5 ∷ 5 ∷ 5 ∷ 2 ∷ 5 ∷ 5 ∷ 5 ∷ 2 ∷ 5 ∷ 5 ∷ 5 ∷ 2 ∷ 5 ∷ 5 ∷ []

pub readings_all : Packed readings
unfolding readings unpacked_from readings_from unpack reading_of kind_reading count_size primitive_reading payload_sizes length_prefixed
readings_all = record { all = refl; says = entry readings refl }
