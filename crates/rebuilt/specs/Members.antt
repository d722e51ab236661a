-- The members of an object that is rebuilt: those of its leftover and those of its places, merged by their normal ids.
use Rattle.std.specs.Prelude.{cond, List, [], ◌∷◌, map, ℕ, ltb, get_or}
use Rattle.paper.specs.FirstBytes.{reading_of}
use Rattle.paper.specs.Normal.{object_bytes}
use Rattle.paper.specs.Values.{ids_of}
use Rattle.paper.specs.Words.{at}
use Rattle.paper.specs.declared.Reading.{Reading}
use Rattle.paper.specs.declared.Reading.TheVariants.{Fixed, Prefixed, Short, ObjectHead, ArrayHead, Nothing}
use Rattle.writing.specs.Rewritten.{ranks_at, parts_of, rewritten}

-- A member: its name's id in the row's dictionary, and its bytes in normal form.
pub record Member : Type 0 where
  pub id : ℕ
  pub bytes : List ℕ

-- ---- two lists merged by a number of each element; of equal numbers the first list's comes first

-- An element put where it belongs in a list, and what comes of the list's rest from there on.
unfoldable pub merge_into : {A : Type 0} → (A → ℕ) → A → (List A → List A) → List A → List A
merge_into key x rest [] = x ∷ rest []
merge_into key x rest (y ∷ ys) = cond (ltb (key y) (key x)) (y ∷ merge_into key x rest ys) (x ∷ rest (y ∷ ys))

unfoldable pub merged_by : {A : Type 0} → (A → ℕ) → List A → List A → List A
merged_by key [] ys = ys
merged_by key (x ∷ xs) ys = merge_into key x (merged_by key xs) ys

-- ---- the members of a leftover

unfoldable pub members_with : List ℕ → List (List ℕ) → List Member
members_with [] parts = []
members_with (id ∷ ids) [] = []
members_with (id ∷ ids) (part ∷ parts) = record { id = id; bytes = part } ∷ members_with ids parts

unfoldable pub left_members_by : (List ℕ → List ℕ) → Reading → List ℕ → List Member
left_members_by inner (Fixed type size) s = []
left_members_by inner (Prefixed type) s = []
left_members_by inner (Short size) s = []
left_members_by inner (ObjectHead c i w) s = members_with (ids_of c i s) (parts_of inner c i w s)
left_members_by inner (ArrayHead c w) s = []
left_members_by inner Nothing s = []

-- Of an object, within so many levels below it.
unfoldable pub left_members : (levels : ℕ) → (ranks : List ℕ) → List ℕ → List Member
left_members levels ranks s = left_members_by (rewritten levels ranks) (reading_of (at s 0)) s

-- The leftover of a place that has none beside its typed object: an object without members.
abbrev pub no_left : List ℕ
no_left = 0x02 ∷ 0x00 ∷ 0x00 ∷ []

-- ---- the object

unfoldable pub normal_id_of : (ranks : List ℕ) → Member → ℕ
normal_id_of ranks m = get_or ranks m.id 0

unfoldable pub object_of : (ranks : List ℕ) → List Member → List ℕ
object_of ranks ms = object_bytes (ranks_at ranks (map (λ (m : Member). m.id) ms)) (map (λ (m : Member). m.bytes) ms)
