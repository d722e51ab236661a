-- Demand 3. One row for one meaning.
use Rattle.std.specs.Prelude.{List, ◌↔◌, ◌≡◌, ℕ}
use Rattle.paper.specs.Meaning.{Doc}
use Rattle.paper.specs.Normal.{Document}
use Rattle.promises.specs.Done.{Bytes, Means, Normalises, Shreds, Rebuilds}

-- Under one schema, two documents that shred accepts have the same row exactly when they mean the same.
abbrev pub SameRowSameMeaning : Type 0
SameRowSameMeaning =
    (schema metadata value metadata' value' row row' : List ℕ) (room room' : ℕ) → Bytes metadata → Bytes metadata'
    → Shreds schema metadata value room row → Shreds schema metadata' value' room' row'
    → (d d' : Doc) → Means metadata value d → Means metadata' value' d' → (row ≡ row') ↔ (d ≡ d')

-- A row rebuilds to one document: whatever the buffers, what is written is the same.
abbrev pub OneDocument : Type 0
OneDocument =
    (schema row : List ℕ) (metadata_room value_room metadata_room' value_room' : ℕ) (form form' : Document)
    → Rebuilds schema row metadata_room value_room form → Rebuilds schema row metadata_room' value_room' form' → form ≡ form'

-- And that document is in normal form, whoever wrote the row: normalising it changes nothing.
abbrev pub RebuiltNormal : Type 0
RebuiltNormal =
    (schema row : List ℕ) (metadata_room value_room : ℕ) (form : Document) → Bytes row → Rebuilds schema row metadata_room value_room form
    → Normalises form.metadata form.value metadata_room value_room form

-- Shredding the form that a row of shred rebuilds to gives that row again, under the same schema.
abbrev pub RowAgain : Type 0
RowAgain =
    (schema metadata value row : List ℕ) (room metadata_room value_room : ℕ) (form : Document) → Bytes metadata
    → Shreds schema metadata value room row → Rebuilds schema row metadata_room value_room form
    → Shreds schema form.metadata form.value room row

-- Normalising a normal form changes nothing.
abbrev pub NormalAgain : Type 0
NormalAgain =
    (metadata value : List ℕ) (metadata_room value_room : ℕ) (form : Document) → Bytes metadata
    → Normalises metadata value metadata_room value_room form → Normalises form.metadata form.value metadata_room value_room form

-- Two documents that normalise accepts have the same normal form exactly when they mean the same.
abbrev pub SameFormSameMeaning : Type 0
SameFormSameMeaning =
    (metadata value metadata' value' : List ℕ) (metadata_room value_room metadata_room' value_room' : ℕ) (form form' : Document)
    → Bytes metadata → Bytes metadata' → Normalises metadata value metadata_room value_room form
    → Normalises metadata' value' metadata_room' value_room' form'
    → (d d' : Doc) → Means metadata value d → Means metadata' value' d' → (form ≡ form') ↔ (d ≡ d')
