-- Rows that a wrong rule would answer otherwise: one or two for each of rules a to f, and for what does not parse.
use Rattle.std.specs.Prelude.{List, [], ◌∷◌, ◌++◌, ℕ}
use Rattle.paper.specs.Framing.{frame}
use Rattle.paper.specs.Lots.{Lot, rebuilds, refused_row, column_a, nested}
use Rattle.paper.specs.declared.Refusal.TheVariants.{BadRow, BrokenRule}

-- ---- schemas

-- leftover only
anything : List ℕ
anything = 0x00 ∷ 0x00 ∷ 0x00 ∷ []

-- a boolean column
yes_no : List ℕ
yes_no = 0x10 ∷ 0x01 ∷ 0x00 ∷ 0x01 ∷ []

-- a list of booleans, and a list of anything
list_of_yes_no : List ℕ
list_of_yes_no = 0x20 ∷ 0x04 ∷ 0x00 ∷ yes_no

list_of_anything : List ℕ
list_of_anything = 0x20 ∷ 0x03 ∷ 0x00 ∷ anything

-- ---- parts of rows

-- A row without names around what its outermost place holds.
row : List ℕ → List ℕ
row held = 0x40 ∷ 0x03 ∷ 0x00 ∷ 0x11 ∷ 0x00 ∷ 0x00 ∷ frame 0x50 held

null_left : List ℕ
null_left = 0x41 ∷ 0x01 ∷ 0x00 ∷ 0x00 ∷ []

empty_object_left : List ℕ
empty_object_left = 0x41 ∷ 0x03 ∷ 0x00 ∷ 0x02 ∷ 0x00 ∷ 0x00 ∷ []

empty_array_left : List ℕ
empty_array_left = 0x41 ∷ 0x03 ∷ 0x00 ∷ 0x03 ∷ 0x00 ∷ 0x00 ∷ []

empty_text_left : List ℕ
empty_text_left = 0x41 ∷ 0x01 ∷ 0x00 ∷ 0x01 ∷ []

true_typed : List ℕ
true_typed = 0x42 ∷ 0x01 ∷ 0x00 ∷ 0x01 ∷ []

-- One inner place, empty or with true in it.
empty_inside : List ℕ
empty_inside = 0x42 ∷ 0x03 ∷ 0x00 ∷ 0x50 ∷ 0x00 ∷ 0x00 ∷ []

true_inside : List ℕ
true_inside = 0x42 ∷ 0x07 ∷ 0x00 ∷ 0x50 ∷ 0x04 ∷ 0x00 ∷ true_typed

-- ---- the lots

unfoldable pub ruled : List Lot
unfolding column_a nested anything yes_no list_of_yes_no list_of_anything row null_left empty_object_left empty_array_left empty_text_left true_typed empty_inside true_inside
ruled =
    -- a. both under a column, the leftover an object
    refused_row yes_no (row (empty_object_left ++ true_typed)) BrokenRule
    -- b. both under an object node, the leftover null; an empty leftover object is legal
    ∷ refused_row column_a (row (null_left ++ empty_inside)) BrokenRule
    ∷ rebuilds column_a (row (empty_object_left ++ empty_inside)) (0x11 ∷ 0x00 ∷ 0x00 ∷ []) (0x02 ∷ 0x00 ∷ 0x00 ∷ [])
    -- d. an object alone under an object node, an array alone under a list node; an object alone under a column is legal
    ∷ refused_row column_a (row empty_object_left) BrokenRule
    ∷ refused_row list_of_yes_no (row empty_array_left) BrokenRule
    ∷ rebuilds yes_no (row empty_object_left) (0x11 ∷ 0x00 ∷ 0x00 ∷ []) (0x02 ∷ 0x00 ∷ 0x00 ∷ [])
    -- e. an empty list element
    ∷ refused_row list_of_yes_no (row empty_inside) BrokenRule
    -- f. a field present whose name is not in the dictionary; an empty place asks for no name, and is no null
    ∷ refused_row column_a (row true_inside) BrokenRule
    ∷ rebuilds column_a (row empty_inside) (0x11 ∷ 0x00 ∷ 0x00 ∷ []) (0x02 ∷ 0x00 ∷ 0x00 ∷ [])
    -- `42` under node `00`
    ∷ refused_row anything (row true_typed) BadRow
    -- a second `41`, and a `42` in front of the `41`, though the second could be read as the column's true
    ∷ refused_row yes_no (row (null_left ++ empty_text_left)) BadRow
    ∷ refused_row yes_no (row (true_typed ++ empty_text_left)) BadRow
    -- a leftover inside a list starts at level 2: it may have 15 levels, not 16
    ∷ rebuilds list_of_anything (row (frame 0x42 (frame 0x50 (frame 0x41 (nested 14))))) (0x11 ∷ 0x00 ∷ 0x00 ∷ []) (nested 15)
    ∷ refused_row list_of_anything (row (frame 0x42 (frame 0x50 (frame 0x41 (nested 15))))) BadRow
    -- 6 before 7: an empty list element, and behind it a boolean that is neither `00` nor `01`
    ∷ refused_row list_of_yes_no (row (frame 0x42 (frame 0x50 [] ++ frame 0x50 (0x42 ∷ 0x01 ∷ 0x00 ∷ 0x02 ∷ [])))) BadRow
    ∷ []
