-- What a place's own rules ask of its leftover.
use Rattle.std.specs.Prelude.{Bool, not, ◌&&◌, ◌||◌, ℕ, ◌%◌, eqb, Option, None, Some}
use Rattle.paper.specs.Meaning.{Doc}
use Rattle.paper.specs.Rules.{is_object, is_array, is_fields_node, is_list_node, named_by, has_any}
use Rattle.paper.specs.Schemas.{Schema}
use Rattle.places.specs.declared.verdicts.Verdict.{Verdict}
use Rattle.places.specs.declared.verdicts.Verdict.TheVariants.{Unparsed}

-- Alone under a node it breaks rule d.
unfoldable pub left_broken : Schema → Doc → Bool
left_broken node d = (is_object d && is_fields_node node) || (is_array d && is_list_node node)

-- The same by the node's tag and the leftover's first byte.
unfoldable pub left_broken_at : (tag first : ℕ) → Bool
left_broken_at tag first = (eqb (first % 4) 2 && eqb tag 0x30) || (eqb (first % 4) 3 && eqb tag 0x20)

-- Beside something typed it breaks rule a, b or c.
unfoldable pub beside_broken : Schema → Doc → Bool
beside_broken node d = not (is_fields_node node) || (not (is_object d) || has_any (named_by node) d)

-- A leftover that does not read does not parse; what comes of one that does goes on.
unfoldable pub with_left : Option Doc → (Doc → Verdict) → Verdict
with_left None next = Unparsed
with_left (Some d) next = next d
