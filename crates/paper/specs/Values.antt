-- "Values" (01): how long a value says it is, how an array's and an object's children lie, and what lawful bytes mean.
-- The order of judging inside a value: that it ends where its bytes do; its own header, count, ids, order and offsets; then
-- its children's lengths; then gaps and overlaps; then the children's insides in field or array order, nesting with them.
-- No answer shows the order: a value is lawful or it is not.
use Rattle.std.specs.Prelude.{Bool, true, false, not, ◌&&◌, ◌||◌, List, [], ◌∷◌, map, ℕ, zero, suc, ◌+◌, ◌-◌, ◌*◌, leb, ltb, eqb, length, get_or, take, drop, Option, None, Some}
use Rattle.numbers.specs.Little.{number_at}
use Rattle.paper.specs.Words.{at, one_if, given, and_then, numbers, all_below}
use Rattle.paper.specs.Metadata.{Dictionary, rising}
use Rattle.paper.specs.FirstBytes.{reading_of}
use Rattle.paper.specs.declared.Child.{Child}
use Rattle.paper.specs.declared.Reading.{Reading}
use Rattle.paper.specs.declared.Reading.TheVariants.{Fixed, Prefixed, Short, ObjectHead, ArrayHead, Nothing}
use Rattle.paper.specs.Meaning.{Scalar, boolean, payload, text, text_meaning, Doc, null, scalar, array, object, Docs, no_docs, doc, Fields, no_fields, field}

-- ---- how long the value that starts here says it is

-- The head of an array or an object: all before the value area. An array has ids of no bytes.
unfoldable pub head_size_of : (count count_bytes id_bytes offset_bytes : ℕ) → ℕ
head_size_of count count_bytes id_bytes offset_bytes = 1 + count_bytes + count * id_bytes + (count + 1) * offset_bytes

-- A container's head, if it is there, and its last offset.
unfoldable pub container_extent : (count_bytes id_bytes offset_bytes : ℕ) → List ℕ → Option ℕ
container_extent count_bytes id_bytes offset_bytes s =
    let head = head_size_of (number_at s 1 count_bytes) count_bytes id_bytes offset_bytes in
    given (leb (1 + count_bytes) (length s) && leb head (length s)) (Some (head + number_at s (head - offset_bytes) offset_bytes))

-- By its header, count and last offset alone, or a string's or binary's length.
unfoldable pub extent_by : Reading → List ℕ → Option ℕ
extent_by (Fixed type size) s = Some (1 + size)
extent_by (Prefixed type) s = given (leb 5 (length s)) (Some (5 + number_at s 1 4))
extent_by (Short size) s = Some (1 + size)
extent_by (ObjectHead count id offset) s = container_extent count id offset s
extent_by (ArrayHead count offset) s = container_extent count 0 offset s
extent_by Nothing s = None

unfoldable pub extent : List ℕ → Option ℕ
extent [] = None
extent (first ∷ rest) = extent_by (reading_of first) (first ∷ rest)

-- ---- how the children lie in a value area

-- How long the child at a start is, if it has a length and does not pass the area.
unfoldable pub child_extent : List ℕ → (start : ℕ) → Option ℕ
child_extent area start = and_then (extent (drop start area)) λ size. given (leb (start + size) (length area)) (Some size)

-- The children at given starts, if each has such a length.
unfoldable pub children_at : List ℕ → List ℕ → Option (List Child)
children_at area [] = Some []
children_at area (start ∷ more) =
    and_then (child_extent area start) λ size.
    and_then (children_at area more) λ children.
    Some (record { start = start; size = size } ∷ children)

-- An array's children: each ends where the next starts, from 0 to the end of the area.
unfoldable pub end_to_end : (from end : ℕ) → List Child → Bool
end_to_end from end [] = eqb from end
end_to_end from end (child ∷ more) = eqb child.start from && end_to_end (child.start + child.size) end more

-- How many children a byte of the area is in.
unfoldable pub holders : ℕ → List Child → ℕ
holders place [] = 0
holders place (child ∷ more) =
    one_if (leb child.start place && ltb place (child.start + child.size)) + holders place more

-- An object's children: every byte of the area, from 0 up to a place, is in exactly one child.
unfoldable pub every_byte_once : ℕ → List Child → Bool
every_byte_once zero children = true
every_byte_once (suc place) children = eqb (holders place children) 1 && every_byte_once place children

unfoldable pub child_bytes : List ℕ → Child → List ℕ
child_bytes area child = take child.size (drop child.start area)

-- ---- a container's numbers

unfoldable pub ids_of : (count_bytes id_bytes : ℕ) → List ℕ → List ℕ
ids_of count_bytes id_bytes s = numbers id_bytes (number_at s 1 count_bytes) (drop (1 + count_bytes) s)

-- Where the children start: all offsets but the last.
unfoldable pub starts_of : (count_bytes id_bytes offset_bytes : ℕ) → List ℕ → List ℕ
starts_of count_bytes id_bytes offset_bytes s =
    let count = number_at s 1 count_bytes in numbers offset_bytes count (drop (1 + count_bytes + count * id_bytes) s)

unfoldable pub area_of : (count_bytes id_bytes offset_bytes : ℕ) → List ℕ → List ℕ
area_of count_bytes id_bytes offset_bytes s = drop (head_size_of (number_at s 1 count_bytes) count_bytes id_bytes offset_bytes) s

-- An array's children, if they lie as they must.
unfoldable pub elements_of : (count_bytes offset_bytes : ℕ) → List ℕ → Option (List Child)
elements_of count_bytes offset_bytes s =
    let area = area_of count_bytes 0 offset_bytes s in
    let starts = starts_of count_bytes 0 offset_bytes s in
    given (all_below (length area) starts)
    (and_then (children_at area starts) λ children. given (end_to_end 0 (length area) children) (Some children))

-- The names of ids, by the dictionary.
unfoldable pub names_at : Dictionary → List ℕ → List (List ℕ)
names_at names ids = map (λ (id : ℕ). get_or names id []) ids

-- An object's children, if every id is below the dictionary's count, the names rise strictly and they lie as they must.
unfoldable pub members_of : Dictionary → (count_bytes id_bytes offset_bytes : ℕ) → List ℕ → Option (List Child)
members_of names count_bytes id_bytes offset_bytes s =
    let area = area_of count_bytes id_bytes offset_bytes s in
    let starts = starts_of count_bytes id_bytes offset_bytes s in
    let ids = ids_of count_bytes id_bytes s in
    given (all_below (length names) ids && rising (names_at names ids))
    (given (all_below (length area) starts)
    (and_then (children_at area starts) λ children. given (every_byte_once (length area) children) (Some children)))

-- ---- what lawful bytes mean

-- A primitive's payload by its type. The scale byte of a decimal is at most 38.
unfoldable pub primitive_meaning : ℕ → List ℕ → Option Doc
primitive_meaning zero s = Some null
primitive_meaning (suc zero) s = Some (scalar (boolean true))
primitive_meaning (suc (suc zero)) s = Some (scalar (boolean false))
primitive_meaning (suc (suc (suc more))) s =
    let type = suc (suc (suc more)) in
    given (not (leb 8 type && leb type 10) || leb (at s 0) 38) (Some (scalar (payload type s)))

-- A string, short or long.
unfoldable pub string_meaning : List ℕ → Option Doc
string_meaning s = and_then (text_meaning s) λ t. Some (scalar t)

-- Binary is type 15 and string type 16, without their length.
unfoldable pub prefixed_meaning : (string : Bool) → (type : ℕ) → List ℕ → Option Doc
prefixed_meaning true type s = string_meaning s
prefixed_meaning false type s = Some (scalar (payload type s))

-- The insides of children, by what decodes one.
unfoldable pub element_docs : (List ℕ → Option Doc) → List ℕ → List Child → Option Docs
element_docs inner area [] = Some no_docs
element_docs inner area (child ∷ more) =
    and_then (inner (child_bytes area child)) λ d. and_then (element_docs inner area more) λ ds. Some (doc d ds)

unfoldable pub member_docs : (List ℕ → Option Doc) → List ℕ → List (List ℕ) → List Child → Option Fields
member_docs inner area [] children = Some no_fields
member_docs inner area (name ∷ names) [] = None
member_docs inner area (name ∷ names) (child ∷ more) =
    and_then (inner (child_bytes area child)) λ d. and_then (member_docs inner area names more) λ fs. Some (field name d fs)

-- A value by the reading of its first byte, its children by what decodes one.
unfoldable pub meaning_by : (List ℕ → Option Doc) → Dictionary → Reading → List ℕ → Option Doc
meaning_by inner names (Fixed type size) s = primitive_meaning type (drop 1 s)
meaning_by inner names (Prefixed type) s = prefixed_meaning (eqb type 16) type (drop 5 s)
meaning_by inner names (Short size) s = string_meaning (drop 1 s)
meaning_by inner names (ObjectHead count id offset) s =
    and_then (members_of names count id offset s) λ children.
    and_then (member_docs inner (area_of count id offset s) (names_at names (ids_of count id s)) children) λ fs.
    Some (object fs)
meaning_by inner names (ArrayHead count offset) s =
    and_then (elements_of count offset s) λ children.
    and_then (element_docs inner (area_of count 0 offset s) children) λ ds.
    Some (array ds)
meaning_by inner names Nothing s = None

-- A value fills its bytes: it ends where they do.
unfoldable pub ends_at : Option ℕ → ℕ → Bool
ends_at None end = false
ends_at (Some size) end = eqb size end

unfoldable pub whole : List ℕ → Bool
whole s = ends_at (extent s) (length s)

-- What bytes mean that are one value, within so many levels; nothing if they break a rule.
unfoldable pub meaning_of : (levels : ℕ) → Dictionary → List ℕ → Option Doc
meaning_of zero names s = None
meaning_of (suc levels) names s =
    let meant = meaning_by (meaning_of levels names) names (reading_of (at s 0)) s in given (whole s) meant
