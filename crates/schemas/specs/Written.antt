-- A schema as a tree: how it is written, and when it keeps the rules.
use Rattle.std.specs.Prelude.{Bool, true, false, ◌&&◌, List, [], ◌∷◌, ◌++◌, ℕ, ◌-◌, leb}
use Rattle.paper.specs.Framing.{frame}
use Rattle.paper.specs.Metadata.{rising}
use Rattle.paper.specs.Schemas.{Schema, leftover_only, column, list, fields, SchemaFields, none_named, named, column_names, column_code}

unfoldable mutual
  pub schema_bytes : Schema → List ℕ
  schema_bytes leftover_only = frame 0x00 []
  schema_bytes (column said) = frame 0x10 (said.code ∷ [])
  schema_bytes (list element) = frame 0x20 (schema_bytes element)
  schema_bytes (fields columns) = frame 0x30 (fields_bytes columns)

  pub fields_bytes : SchemaFields → List ℕ
  fields_bytes none_named = []
  fields_bytes (named name node more) = frame 0x31 (frame 0x32 name ++ schema_bytes node) ++ fields_bytes more

-- There is a field.
unfoldable pub some_field : SchemaFields → Bool
some_field none_named = false
some_field (named name node more) = true

-- Within so many levels: codes are type codes, an object has a field or more, and names rise strictly.
unfoldable mutual
  pub good_schema : Schema → (levels : ℕ) → Bool
  good_schema leftover_only levels = leb 1 levels
  good_schema (column said) levels = leb 1 levels && column_code said.code
  good_schema (list element) levels = leb 1 levels && good_schema element (levels - 1)
  good_schema (fields columns) levels =
      leb 1 levels && ((some_field columns && rising (column_names columns)) && good_fields columns (levels - 1))

  pub good_fields : SchemaFields → (levels : ℕ) → Bool
  good_fields none_named levels = true
  good_fields (named name node more) levels = good_schema node levels && good_fields more levels
