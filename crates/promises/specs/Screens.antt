-- Demand 4. The screens agree: what a column shows is what the document has.
use Rattle.std.specs.Prelude.{List, [], ◌∷◌, ◌≡◌, ℕ, Option, Some}
use Rattle.paper.specs.Meaning.{Doc}
use Rattle.paper.specs.Normal.{Document}
use Rattle.paper.specs.Rebuilding.{or_null, place_meaning, row_meaning}
use Rattle.paper.specs.Rows.{Row, row_of}
use Rattle.paper.specs.Schemas.{Schema, schema_of}
use Rattle.paper.specs.Standing.{Step, stands_at}
use Rattle.promises.specs.Done.{Bytes, Means, Rebuilds}
use Rattle.promises.specs.Walking.{Stop, place_at}

-- What a place shows: a typed cell's value, a leftover's, an object's two halves together, or nothing where it is empty. "An empty
-- outermost place rebuilds to null."
unfoldable pub shows : (path : List Step) → Stop → Option Doc
shows [] stop = Some (or_null (place_meaning stop.node stop.held))
shows (step ∷ more) stop = place_meaning stop.node stop.held

-- For every row that rebuild accepts, whoever wrote it, and every path of names and indexes through the schema to a place: what the
-- place shows is what stands at that path in the document that was written. So no column shows a lot that the document does not
-- have, and the document has none there that the column does not show.
abbrev pub ScreensAgree : Type 0
ScreensAgree =
    (schema row : List ℕ) (metadata_room value_room : ℕ) (form : Document) → Bytes row → Rebuilds schema row metadata_room value_room form
    → (node : Schema) (parsed : Row) → schema_of schema ≡ Some node → row_of node row ≡ Some parsed
    → (d : Doc) → Means form.metadata form.value d
    → (path : List Step) (stop : Stop) → place_at node parsed.outermost path ≡ Some stop → stands_at d path ≡ shows path stop

-- And the document that was written is lawful: it means what the row means.
abbrev pub RebuiltMeans : Type 0
RebuiltMeans =
    (schema row : List ℕ) (metadata_room value_room : ℕ) (form : Document) → Bytes row → Rebuilds schema row metadata_room value_room form
    → (node : Schema) (parsed : Row) → schema_of schema ≡ Some node → row_of node row ≡ Some parsed
    → Means form.metadata form.value (row_meaning node parsed)
