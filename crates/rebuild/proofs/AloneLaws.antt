-- A lawful row that is a cell alone, or nothing: its document is that scalar, or null.
use Rattle.paper.specs.Refusals.{DocumentAnswer}
use Rattle.std.specs.Prelude.{Some}
use mathlib.Core.Bool.{true}
use mathlib.Core.List.{List}
use mathlib.Core.Path.{◌≡◌, refl, sym, ap, ◌∙◌}
use Prim.Native.Nat.{ℕ, ◌≤◌}
use native.Mathlib.Omega.{arith}
use lib.ListN.{length, length-take, length-drop}
use Rattle.normalise.specs.Answered.{Answered}
use Rattle.paper.proofs.WordLaws.{there_some}
use Rattle.paper.specs.Bounds.{most_walked}
use Rattle.paper.specs.Cells.{cell_meaning}
use Rattle.paper.specs.Limits.{most_levels}
use Rattle.paper.specs.Meaning.{Scalar, null, scalar}
use Rattle.paper.specs.Metadata.{Dictionary}
use Rattle.paper.specs.Operations.{written}
use Rattle.paper.specs.Rebuilding.{or_null, place_meaning_by, cell_doc}
use Rattle.paper.specs.Rows.{Place, cell, cell_body, leftover_meaning}
use Rattle.paper.specs.Schemas.{Column, Schema, column, schema_of, column_code}
use Rattle.paper.specs.Words.{part, is_there, and_then}
use Rattle.places.specs.Parts.{parts_of}
use Rattle.places.specs.Verdicts.{typed_under}
use Rattle.places.specs.declared.parts.Parts.TheVariants.{Empty, Typed}
use Rattle.places.specs.declared.parts.Parts.{Parts}
use Rattle.rebuilt.proofs.HeldLaws.{Held, nothing_held, typed_held}
use Rattle.rebuilt.proofs.PartsLaws.{typed_meaning}
use Rattle.rebuilt.proofs.ThereLaws.{place_only, typed_kind, typed_code, typed_cell}
use Rattle.rebuilt.specs.Meant.{place_doc}
use Rattle.rebuilt.specs.There.{TypedThere}
use Rattle.rows.specs.Judging.{row_dictionary}
use Rattle.rows.specs.declared.judging.RowParts.{RowParts}
use Rattle.schemas.proofs.KindLaws.{column_here_lem}
use Rattle.schemas.proofs.StandingLaws.{schema_stands}
use Rattle.schemas.specs.Kinds.{kind_at, KindThere}
use Rattle.schemas.specs.declared.readers.Kind.TheVariants.{Column as ColumnKind}
use Rattle.schemas.specs.declared.readers.Kind.{Kind}
use Rattle.rebuild.proofs.LeftoverLaws.{held_doc}
use Rattle.rebuild.proofs.NumberedLaws.{outermost_short, place_lawful_lem, row_there}
use Rattle.rebuild.specs.Rebuilding.{Judged, doc_under, row_doc}
use Rattle.std.proofs.lemmas.Option.{same_Some}

-- ---- what is held

module _ (levels : ℕ) (names : Dictionary) (body : List ℕ) where
  cell_held : (said : Column) {value : Scalar} → cell_meaning said (part body 3 (length body)) ≡ Some value
      → (p : Place) → Held (leftover_meaning levels names) (typed_under (column said) levels names) body Typed p
      → or_null (place_meaning_by (typed_meaning (column said)) p) ≡ scalar value
  unfolding typed_under cell_body and_then or_null place_meaning_by typed_meaning cell_doc
  cell_held said {value} means p (typed_held {t = t} read) =
      let is : cell said value ≡ t = same_Some (cell said value) t (sym (rw means) ∙ read) in
      ap cell_doc (sym is)

  nothing_held_lem : (under : Schema) (p : Place) → Held (leftover_meaning levels names) (typed_under under levels names) body Empty p
      → or_null (place_meaning_by (typed_meaning under) p) ≡ null
  unfolding or_null place_meaning_by
  nothing_held_lem under p (nothing_held e) = refl

-- ---- of a row

module _ {schema table : List ℕ} {row : RowParts} (judged : Judged schema row table) {p : Parts} (is : p ≡ parts_of row.outermost.now) where
  abbrev Names : Dictionary
  Names = (row_dictionary row).names

  node : (n : Schema) × (schema_of schema ≡ Some n)
  node = there_some (schema_of schema) judged.good

  pub empty_answers : p ≡ Empty → {first first' second second' : List ℕ} {a : DocumentAnswer}
      → Answered (written null) first first' second second' a → Answered (written (row_doc schema row)) first first' second second' a
  unfolding row_doc doc_under
  empty_answers e answers =
      let same : place_doc node.0 most_levels Names row.outermost.now ≡ null =
      held_doc node.0 most_levels Names row.outermost.now (place_lawful_lem judged node.0 node.1) (sym is ∙ e)
      (nothing_held_lem most_levels Names row.outermost.now node.0) in
      rw (node.1, same) answers

  module _ (e : p ≡ Typed) where
    pub alone_typed : parts_of row.outermost.now ≡ Typed
    alone_typed = sym is ∙ e

    abbrev Body : List ℕ
    Body = part row.outermost.now 3 (length row.outermost.now)

    there : TypedThere most_levels Names schema table 0 Body
    there = place_only (row_there judged) is e

    pub alone_short : length Body ≤ most_walked
    alone_short =
        let within = outermost_short judged in
        let short = judged.row_short in
        rw (length-take, length-drop) (omega arith)

    pub alone_kind : KindThere schema 0
    alone_kind = typed_kind there

    module _ {k : Kind} (kind_is : k ≡ kind_at schema 0) {code : ℕ} (column_is : k ≡ ColumnKind code) where
      pub alone_code : column_code code ≡ true
      alone_code = typed_code there kind_is column_is

      pub alone_cell : is_there (cell_meaning (record { code = code }) Body) ≡ true
      alone_cell = typed_cell there kind_is column_is

      pub alone_answers : {first first' second second' : List ℕ} {a : DocumentAnswer}
          → ((value : Scalar) → cell_meaning (record { code = code }) Body ≡ Some value → Answered (written (scalar value)) first first' second second' a)
          → Answered (written (row_doc schema row)) first first' second second' a
      unfolding row_doc doc_under
      alone_answers answers =
          let meant = there_some (cell_meaning (record { code = code }) Body) alone_cell in
          let here = column_here_lem (schema_stands schema node.0 node.1).0 kind_is column_is in
          let said : ◌≡◌ {A = Column} here.0 (record { code = code }) = ap (λ (n : ℕ). record { code = n }) here.2 in
          let same : place_doc node.0 most_levels Names row.outermost.now ≡ scalar meant.0 =
          rw here.1
          (held_doc (column here.0) most_levels Names row.outermost.now (place_lawful_lem judged (column here.0) (node.1 ∙ ap Some here.1)) (sym is ∙ e)
          (cell_held most_levels Names row.outermost.now here.0 (ap (λ (c : Column). cell_meaning c Body) said ∙ meant.1))) in
          rw (node.1, same) (answers meant.0 meant.1)
