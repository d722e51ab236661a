-- Rows (01): `40` metadata, `50` the outermost place, nothing more; and when a row does not parse under its schema.
use Rattle.std.specs.Prelude.{cond, ◌&&◌, List, [], ◌∷◌, ℕ, ◌-◌, leb, eqb, length, Option, None, Some}
use Rattle.paper.specs.Words.{given, and_then}
use Rattle.paper.specs.Limits.{most_leftover, most_metadata, most_levels}
use Rattle.paper.specs.Metadata.{Dictionary, dictionary_of}
use Rattle.paper.specs.Meaning.{Scalar, Doc}
use Rattle.paper.specs.Values.{meaning_of}
use Rattle.paper.specs.Framing.{Piece, pieces_of}
use Rattle.paper.specs.Schemas.{Column, Schema, leftover_only, column, list, fields, SchemaFields, none_named, named}
use Rattle.paper.specs.Cells.{cell_meaning}

-- A place holds at most one `41` (leftover) and then at most one `42` (typed). Typed is a cell of a column, or inner
-- places: a list's, or an object's, one for each schema field in schema order.
mutual
  pub data Place : Type 0 where
    empty : Place
    leftover : Doc → Place
    typed : Typed → Place
    both : Doc → Typed → Place

  pub data Typed : Type 0 where
    cell : Column → Scalar → Typed
    inner : Places → Typed

  pub data Places : Type 0 where
    no_places : Places
    place : Place → Places → Places

-- A leftover: a Variant under the row's metadata, of at most so many bytes, and within the levels left at its place.
unfoldable pub leftover_meaning : (levels : ℕ) → Dictionary → List ℕ → Option Doc
leftover_meaning levels names s = given (leb (length s) most_leftover) (meaning_of levels names s)

-- What a place holds, by what reads a leftover and what reads a typed body.
unfoldable pub place_parts : (List ℕ → Option Doc) → (List ℕ → Option Typed) → List Piece → Option Place
place_parts left right [] = Some empty
place_parts left right (first ∷ []) =
    cond (eqb first.tag 0x41) (and_then (left first.body) λ d. Some (leftover d))
    (given (eqb first.tag 0x42) (and_then (right first.body) λ t. Some (typed t)))
place_parts left right (first ∷ second ∷ []) =
    given (eqb first.tag 0x41 && eqb second.tag 0x42)
    (and_then (left first.body) λ d. and_then (right second.body) λ t. Some (both d t))
place_parts left right (first ∷ second ∷ third ∷ more) = None

-- Every place, inner ones too, has the tag `50`.
unfoldable pub place_by : (List ℕ → Option Doc) → (List ℕ → Option Typed) → Piece → Option Place
place_by left right piece =
    given (eqb piece.tag 0x50) (and_then (pieces_of piece.body) λ parts. place_parts left right parts)

-- A place with so many levels left, by what reads a typed body.
unfoldable pub place_within : (levels : ℕ) → Dictionary → (List ℕ → Option Typed) → Piece → Option Place
place_within levels names right piece = place_by (leftover_meaning levels names) right piece

-- ---- typed bodies

-- There is none under node `00`.
unfoldable pub no_body : List ℕ → Option Typed
no_body s = None

unfoldable pub cell_body : Column → List ℕ → Option Typed
cell_body said s = and_then (cell_meaning said s) λ value. Some (cell said value)

-- Inner places, by what reads them.
unfoldable pub inner_body : (List Piece → Option Places) → List ℕ → Option Typed
inner_body read s = and_then (pieces_of s) λ pieces. and_then (read pieces) λ ps. Some (inner ps)

-- A list's places, by what reads one.
unfoldable pub list_places : (Piece → Option Place) → List Piece → Option Places
list_places read [] = Some no_places
list_places read (piece ∷ more) = and_then (read piece) λ p. and_then (list_places read more) λ ps. Some (place p ps)

-- ---- a place under a node, with so many levels left

unfoldable mutual
  pub place_under : Schema → (levels : ℕ) → Dictionary → Piece → Option Place
  place_under leftover_only levels names = place_within levels names no_body
  place_under (column said) levels names = place_within levels names (cell_body said)
  place_under (list element) levels names =
      place_within levels names (inner_body (list_places (λ piece. place_under element (levels - 1) names piece)))
  place_under (fields columns) levels names =
      place_within levels names (inner_body (λ pieces. field_places columns (levels - 1) names pieces))

  -- An object's places, one for each schema field in schema order.
  pub field_places : SchemaFields → (levels : ℕ) → Dictionary → List Piece → Option Places
  field_places none_named levels names [] = Some no_places
  field_places none_named levels names (piece ∷ more) = None
  field_places (named name node columns) levels names [] = None
  field_places (named name node columns) levels names (piece ∷ more) =
      and_then (place_under node levels names piece) λ p.
      and_then (field_places columns levels names more) λ ps.
      Some (place p ps)

-- A row that parses: its dictionary and its outermost place.
pub record Row : Type 0 where
  pub names : Dictionary
  pub outermost : Place

unfoldable pub row_parts : Schema → List Piece → Option Row
row_parts schema [] = None
row_parts schema (first ∷ []) = None
row_parts schema (first ∷ second ∷ []) =
    given (eqb first.tag 0x40 && leb (length first.body) most_metadata)
    (and_then (dictionary_of first.body) λ names.
    and_then (place_under schema most_levels names second) λ p.
    Some (record { names = names; outermost = p }))
row_parts schema (first ∷ second ∷ third ∷ more) = None

unfoldable pub row_of : Schema → List ℕ → Option Row
row_of schema s = and_then (pieces_of s) λ pieces. row_parts schema pieces
