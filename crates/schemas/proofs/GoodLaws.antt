-- The rules of a schema as a tree: going into a good one, and that a schema that is read is good.
use Rattle.std.specs.Prelude.{Some}
use mathlib.Core.Bool.{Bool, true, ◌&&◌}
use mathlib.Core.List.{List}
use mathlib.Core.Path.{◌≡◌, refl, ap}
use Prim.Native.Nat.{ℕ, ◌+◌, ◌-◌, ◌≤◌}
use borrow.Author.Tests.{le-leb, leb-true}
use lib.Dec.{leb}
use Rattle.paper.specs.Limits.{most_levels}
use Rattle.paper.specs.Metadata.{rising}
use Rattle.paper.specs.Schemas.{Column, Schema, leftover_only, column, list, fields, SchemaFields, none_named, named, column_names, column_code, schema_of}
use Rattle.paper.proofs.WordLaws.{and_both}
use Rattle.schemas.proofs.FieldsStandLaws.{FirstField, first_field, field_stands}
use Rattle.schemas.proofs.StandingLaws.{some_level, column_stands, list_stands, object_stands, schema_stands}
use Rattle.schemas.specs.Frames.{frame_end}
use Rattle.schemas.specs.Positions.{field_node, Stands, FieldsStand}
use Rattle.schemas.specs.Written.{some_field, good_schema, good_fields}

-- ---- into a good tree

pub good_level : (node : Schema) (levels : ℕ) → good_schema node levels ≡ true → 1 ≤ levels
unfolding good_schema
good_level leftover_only levels good = leb-true 1 levels good
good_level (column said) levels good = leb-true 1 levels (and_both (leb 1 levels) (column_code said.code) good).0
good_level (list element) levels good = leb-true 1 levels (and_both (leb 1 levels) (good_schema element (levels - 1)) good).0
good_level (fields columns) levels good =
    leb-true 1 levels (and_both (leb 1 levels) ((some_field columns && rising (column_names columns)) && good_fields columns (levels - 1)) good).0

pub good_column : (said : Column) (levels : ℕ) → good_schema (column said) levels ≡ true → column_code said.code ≡ true
unfolding good_schema
good_column said levels good = (and_both (leb 1 levels) (column_code said.code) good).1

pub good_element : (element : Schema) (levels : ℕ) → good_schema (list element) levels ≡ true → good_schema element (levels - 1) ≡ true
unfolding good_schema
good_element element levels good = (and_both (leb 1 levels) (good_schema element (levels - 1)) good).1

pub record GoodObject (columns : SchemaFields) (levels : ℕ) : Type 0 where
  pub some_field_lem : some_field columns ≡ true
  pub rise : rising (column_names columns) ≡ true
  pub inside : good_fields columns (levels - 1) ≡ true

pub good_object : (columns : SchemaFields) (levels : ℕ) → good_schema (fields columns) levels ≡ true → GoodObject columns levels
unfolding good_schema
good_object columns levels good =
    let own : Bool = some_field columns && rising (column_names columns) in
    let tests = and_both own (good_fields columns (levels - 1)) (and_both (leb 1 levels) (own && good_fields columns (levels - 1)) good).1 in
    let owns = and_both (some_field columns) (rising (column_names columns)) tests.0 in
    record { some_field_lem = owns.0; rise = owns.1; inside = tests.1 }

pub good_field : (name : List ℕ) (node : Schema) (more : SchemaFields) (levels : ℕ) → good_fields (named name node more) levels ≡ true
    → (good_schema node levels ≡ true) × (good_fields more levels ≡ true)
unfolding good_schema
good_field name node more levels good = and_both (good_schema node levels) (good_fields more levels) good

-- ---- what is read is good

both : {a b : Bool} → a ≡ true → b ≡ true → a && b ≡ true
both e f = rw (e, f)

level_there : {levels : ℕ} {s : List ℕ} {place : ℕ} {node : Schema} → Stands levels s place node → leb 1 levels ≡ true
level_there {levels} stands = le-leb 1 levels (some_level stands)

field_there : {levels : ℕ} {s : List ℕ} {place to : ℕ} {columns : SchemaFields} → FirstField levels s place to columns → some_field columns ≡ true
unfolding some_field
field_there first = ap some_field first.are

module _ (s : List ℕ) where
  mutual
    unfolding good_schema good_fields

    pub node_good : (node : Schema) (levels place : ℕ) → Stands levels s place node → good_schema node levels ≡ true
    node_good leftover_only levels place stands = level_there stands
    node_good (column said) levels place stands = both (level_there stands) (column_stands stands).good
    node_good (list element) levels place stands = both (level_there stands) (node_good element (levels - 1) (place + 3) (list_stands stands).inside)
    node_good (fields columns) levels place stands =
        let object = object_stands stands in
        let inside = object.inside in
        both (level_there stands)
        (both (both (field_there (first_field inside object.some_field_lem)) inside.rise) (fields_good columns (levels - 1) (place + 3) (frame_end s place) inside))

    pub fields_good : (columns : SchemaFields) (levels place to : ℕ) → FieldsStand levels s place to columns → good_fields columns levels ≡ true
    fields_good none_named levels place to stand = refl
    fields_good (named name node more) levels place to stand =
        let field = field_stands stand in
        both (node_good node levels (field_node s place) field.inside) (fields_good more levels (frame_end s place) to field.behind)

pub schema_good : (s : List ℕ) (node : Schema) → schema_of s ≡ Some node → good_schema node most_levels ≡ true
schema_good s node e = node_good s node most_levels 0 (schema_stands s node e).0
