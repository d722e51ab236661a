-- Demand 4, the two screens as operations: one that shows a column, and one that asks find of the rebuilt document.
use Rattle.paper.specs.declared.Child.{Child}
use Rattle.paper.specs.Refusals.{Outcome}
use Rattle.std.specs.Prelude.{List, ◌≡◌, ℕ, ◌+◌, ◌≤◌, length, Option, None, Some, Ok}
use Rattle.paper.specs.Limits.{most_path}
use Rattle.paper.specs.Meaning.{Doc}
use Rattle.paper.specs.Normal.{Document}
use Rattle.paper.specs.Operations.{find_answer}
use Rattle.paper.specs.Paths.{path_of}
use Rattle.paper.specs.Rows.{Row, row_of}
use Rattle.paper.specs.Schemas.{Schema, schema_of}
use Rattle.paper.specs.Standing.{Step, stands_at}
use Rattle.paper.specs.Words.{part}
use Rattle.promises.specs.Done.{Bytes, Means, Rebuilds}
use Rattle.promises.specs.Screens.{shows}
use Rattle.promises.specs.Walking.{Stop, place_at}

-- Find's answer, in a document, tells of something: the bytes at the start and of the length that it answers, lent with the same
-- metadata, mean just that; and it is absent where there is nothing.
pub data Tells (metadata value : List ℕ) : Outcome (Option Child) → Option Doc → Type 0 where
  tells_of : {start size : ℕ} {d : Doc} → Means metadata (part value start (start + size)) d → Tells metadata value (Ok (Some (record { start = start; size = size }))) (Some d)
  tells_nothing : Tells metadata value (Ok None) None

-- In every lawful document, for every good path: find tells of what stands at the path.
abbrev pub FindTells : Type 0
FindTells =
    (metadata value path : List ℕ) (d : Doc) (steps : List Step) → Means metadata value d → length path ≤ most_path → path_of path ≡ Some steps
    → Tells metadata value (find_answer metadata value path) (stands_at d steps)

-- So for every row that rebuild accepts, whoever wrote it, and every good path that leads through the schema to a place: find in the
-- rebuilt document tells of what the place shows.
abbrev pub TwoScreens : Type 0
TwoScreens =
    (schema row : List ℕ) (metadata_room value_room : ℕ) (form : Document) → Bytes row → Rebuilds schema row metadata_room value_room form
    → (node : Schema) (parsed : Row) → schema_of schema ≡ Some node → row_of node row ≡ Some parsed
    → (path : List ℕ) (steps : List Step) (stop : Stop) → length path ≤ most_path → path_of path ≡ Some steps
    → place_at node parsed.outermost steps ≡ Some stop
    → Tells form.metadata form.value (find_answer form.metadata form.value path) (shows steps stop)
