-- What something comes to that has to parse (else 6) and to keep its rules (else 7), and the parts of rows judged so.
use Rattle.std.specs.Prelude.{Bool, true, false, cond, List, ℕ, ◌-◌, Option, None, Some}
use Rattle.paper.specs.Framing.{pieces_of}
use Rattle.paper.specs.Metadata.{Dictionary}
use Rattle.paper.specs.Rows.{Typed, place_under, no_body, cell_body, inner_body, list_places, field_places, row_of}
use Rattle.paper.specs.Rules.{cell_lawful, inner_lawful, elements_lawful, fields_lawful, place_lawful, row_lawful}
use Rattle.paper.specs.Schemas.{Schema, leftover_only, column, list, fields, SchemaFields}
use Rattle.paper.specs.Words.{and_then}
use Rattle.places.specs.declared.verdicts.Verdict.{Verdict}
use Rattle.places.specs.declared.verdicts.Verdict.TheVariants.{Lawful, Broken, Unparsed}

-- Not there: it does not parse. There: by whether it keeps the rules.
unfoldable pub verdict_of : {A : Type 0} → Option A → (A → Bool) → Verdict
verdict_of None keeps = Unparsed
verdict_of (Some a) keeps = cond (keeps a) Lawful Broken

-- ---- the parts of a row

-- What is typed under a node, with so many levels left at its place.
unfoldable pub typed_under : Schema → (levels : ℕ) → Dictionary → List ℕ → Option Typed
typed_under leftover_only levels names = no_body
typed_under (column said) levels names = cell_body said
typed_under (list element) levels names = inner_body (list_places (place_under element (levels - 1) names))
typed_under (fields columns) levels names = inner_body (field_places columns (levels - 1) names)

unfoldable pub typed_lawful : Schema → Dictionary → Typed → Bool
typed_lawful leftover_only names = cell_lawful
typed_lawful (column said) names = cell_lawful
typed_lawful (list element) names = inner_lawful (elements_lawful (place_lawful element names))
typed_lawful (fields columns) names = inner_lawful (fields_lawful columns names)

unfoldable pub typed_verdict : Schema → (levels : ℕ) → Dictionary → List ℕ → Verdict
typed_verdict node levels names s = verdict_of (typed_under node levels names s) (typed_lawful node names)

-- A place, by the body of its frame.
unfoldable pub place_verdict : Schema → (levels : ℕ) → Dictionary → List ℕ → Verdict
place_verdict node levels names body =
    verdict_of (place_under node levels names (record { tag = 0x50; body = body })) (place_lawful node names)

-- A list's places, and an object's, as bytes.
unfoldable pub elements_verdict : Schema → (levels : ℕ) → Dictionary → List ℕ → Verdict
elements_verdict element levels names s =
    verdict_of (and_then (pieces_of s) (list_places (place_under element levels names))) (elements_lawful (place_lawful element names))

unfoldable pub members_verdict : SchemaFields → (levels : ℕ) → Dictionary → List ℕ → Verdict
members_verdict columns levels names s =
    verdict_of (and_then (pieces_of s) (field_places columns levels names)) (fields_lawful columns names)

unfoldable pub row_verdict : Schema → List ℕ → Verdict
row_verdict schema row = verdict_of (row_of schema row) (row_lawful schema)

-- ---- two together: a 6 anywhere wins, then a 7

-- Where a rule is broken besides.
abbrev pub broken_if : Bool → Verdict → Verdict
broken_if true Unparsed = Unparsed
broken_if true Broken = Broken
broken_if true Lawful = Broken
broken_if false verdict = verdict

abbrev pub worse : Verdict → Verdict → Verdict
worse Unparsed second = Unparsed
worse Broken second = broken_if true second
worse Lawful second = second
