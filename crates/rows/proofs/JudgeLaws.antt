-- A row opened and judged: each answer by the tests that led there.
use Rattle.paper.specs.declared.Refusal.{Refusal}
use Rattle.paper.specs.declared.Refusal.TheVariants.{BrokenRule, BadRow}
use Rattle.std.specs.Prelude.{Some, None, Option, Ok, Err}
use Rattle.std.specs.Option.{ok_or}
use Rattle.std.proofs.Common.{inl, inr}
use mathlib.Core.Bool.{Bool, true, false, not}
use mathlib.Core.List.{List}
use mathlib.Core.Path.{◌≡◌, refl, sym, ap, subst, ◌∙◌}
use Prim.Native.Nat.{ℕ, ◌+◌, ◌-◌, ◌*◌, ◌/◌, ◌≤◌, ◌<◌}
use native.Mathlib.Nat.{mul-le-mul, mul-one}
use native.Mathlib.Omega.{arith}
use borrow.Author.Tests.{not-true}
use lib.ListN.{length, length-take, length-drop}
use Rattle.dictionary.specs.Lent.{LentNames, Lent, lent_of, lent_read}
use Rattle.fields.specs.Telling.{names_fields}
use Rattle.fields.proofs.NamesLaws.{none_told}
use Rattle.paper.specs.Bounds.{most_names}
use Rattle.paper.specs.Limits.{most_metadata, most_row, most_levels}
use Rattle.paper.specs.Metadata.{Dictionary, flag_set, offset_size, dictionary_of}
use Rattle.paper.specs.Schemas.{Schema, schema_of}
use Rattle.paper.specs.Words.{at, part, and_then, is_there}
use Rattle.dictionary.proofs.LentLaws.{lent_dictionary, lent_is, lent_size}
use Rattle.names.proofs.NeverLongerLaws.{read_length}
use Rattle.paper.proofs.WordLaws.{never, there_some}
use Rattle.schemas.specs.Positions.{Stands}
use Rattle.schemas.proofs.StandingLaws.{schema_stands}
use Rattle.places.proofs.HalfLaws.{Halves, halved, unhalved, row_other_tag, row_long_metadata, row_bad_metadata, row_other_place, row_place}
use Rattle.places.specs.Halves.{middle_of}
use Rattle.rows.specs.Judging.{row_dictionary, InOrder, OpenedAs, opened as opened_row, unopened, PartsReady, TableTells, Walked, JudgedAs}
use Rattle.places.specs.Verdicts.{place_verdict, row_verdict}
use Rattle.places.specs.Walking.{NodeReady}
use Rattle.rows.specs.declared.opened.OpenRow.{OpenRow}
use Rattle.places.specs.declared.verdicts.Verdict.TheVariants.{Lawful, Broken, Unparsed}
use Rattle.places.specs.declared.verdicts.Verdict.{Verdict}

-- ---- a row opened

not_lent : (m : List ℕ) → lent_of m ≡ None → dictionary_of m ≡ None
unfolding lent_of and_then
not_lent m e = go (dictionary_of m) (λ names. record { names = names; width = offset_size (at m 0); sorted = flag_set (at m 0); size = length m }) e
  where
    go : (x : Option Dictionary) (seen : Dictionary → LentNames) → and_then x (λ names. Some (seen names)) ≡ None → x ≡ None
    go None seen f = refl
    go (Some names) seen f = cc

-- Each name takes an offset, so a dictionary has no more names than its metadata has bytes.
few_names : {d : LentNames} → Lent d → d.size ≤ most_metadata → length d.names ≤ most_names
unfolding offset_size
few_names {d} lent short =
    let all = read_length lent.metadata d.names (lent_dictionary lent) in
    let one : (length d.names + 1) * 1 ≤ (length d.names + 1) * offset_size (at lent.metadata 0) = mul-le-mul (omega arith) (omega arith) in
    let same = mul-one (length d.names + 1) in
    let size = lent_size lent in
    omega arith

module _ (row : List ℕ) (r : Option ℕ) (told : r ≡ middle_of row) where
  pub open_unhalved : r ≡ None → OpenedAs row None
  open_unhalved e = unopened (unhalved row r told e)

  module _ {middle : ℕ} (e : r ≡ Some middle) where
    h : Halves row middle
    h = halved row r told middle e

    pub halves_fit : (3 ≤ middle) × (middle + 3 ≤ length row)
    halves_fit = (h.first_long, h.second_long)

    pub open_other_tag : (at row 0 ≡ 0x40 → ⊥) → OpenedAs row None
    open_other_tag other = unopened (λ schema. row_other_tag schema row middle h other)

    module _ (tag : at row 0 ≡ 0x40) where
      pub open_long : most_metadata < middle - 3 → OpenedAs row None
      open_long long = unopened (λ schema. row_long_metadata schema row middle h tag long)

      module _ (short : middle - 3 ≤ most_metadata) (j : Option LentNames) (is : j ≡ lent_of (part row 3 middle)) where
        pub open_bad : j ≡ None → OpenedAs row None
        open_bad f = unopened (λ schema. row_bad_metadata schema row middle h tag short (not_lent (part row 3 middle) (sym is ∙ f)))

        module _ {d : LentNames} (f : j ≡ Some d) where
          abbrev lent : Lent d
          lent = record { metadata = part row 3 middle; opens = sym is ∙ f }

          pub open_other_place : (at row middle ≡ 0x50 → ⊥) → OpenedAs row None
          open_other_place other = unopened (λ schema. row_other_place schema row middle h tag short d.names (lent_dictionary lent) other)

          -- what was read of the metadata is what it opens to
          pub open_is : d ≡ lent_read (part row 3 middle)
          open_is = sym (lent_is lent)

          pub open_at : at row middle ≡ 0x50 → (open_row : OpenRow) → open_row.dictionary ≡ d → open_row.parts.metadata.now ≡ part row 3 middle
              → open_row.parts.outermost.now ≡ part row (middle + 3) (length row) → OpenedAs row (Some open_row)
          open_at place open_row own found holds =
              let size : length (part row 3 middle) ≡ middle - 3 = let fits = h.first_long in let behind = h.second_long in rw (length-take, length-drop) (omega arith) in
              let long = lent_size lent in
              let read : row_dictionary open_row.parts ≡ d = sym open_row.opens ∙ own in
              opened_row open_row
              (record {
                middle = middle;
                first_long = h.first_long;
                second_long = h.second_long;
                halved = sym told ∙ e;
                opens = rw read (sym is ∙ f);
                short = rw read (omega arith);
                holds = holds;
                comes_to = λ schema. rw (read, holds) (row_place schema row middle h tag short d.names (lent_dictionary lent) place);
              })
              found

-- ---- a row walked

module _ {schema : List ℕ} {row : OpenRow} {table : List ℕ} (ready : PartsReady schema row table) where
  pub ready_node : TableTells schema row.dictionary table → NodeReady most_levels row.dictionary.names schema table 0
  ready_node told =
      let got = there_some (schema_of schema) ready.good in
      record { tabled = ready.tabled; node = got.0; stands = (schema_stands schema got.0 got.1).0; told = told got.0 got.1 }

  -- A table of the same length does as well.
  pub ready_after : (after : List ℕ) → length after ≡ length table → PartsReady schema row after
  ready_after after same = record { lent = ready.lent; few = ready.few; small = ready.small; good = ready.good; tabled = rw same ready.tabled }

  -- A schema that names no field.
  pub nothing_told : (r : Bool) → ((node : Schema) → schema_of schema ≡ Some node → r ≡ names_fields node) → not r ≡ true → TableTells schema row.dictionary table
  nothing_told r told none_named node is = none_told _ schema table node 0 (sym (told node is) ∙ not-true r none_named)

  pub walked : TableTells schema row.dictionary table
      → (v : Verdict) → ((under : Schema) → Stands most_levels schema 0 under → v ≡ place_verdict under most_levels row.dictionary.names row.parts.outermost.now)
      → Walked schema row table v
  walked told v judged-place = record { verdict_is = λ node is. judged-place node (schema_stands schema node is).0; told = told }

-- Where the flag is set no index is needed.
pub sorted_none : {n m : ℕ} (flag : Bool) → flag ≡ true → flag ≡ false → n ≤ m
sorted_none flag set clear = never (sym set ∙ clear)

-- ---- a row judged

row_in : {bytes : List ℕ} {o : Option OpenRow} → OpenedAs bytes o → {row : OpenRow} → o ≡ Some row
    → (in_order : InOrder bytes row.parts) × (row.parts.metadata.now ≡ part bytes 3 in_order.middle)
row_in (opened_row one in_order found) {row} e = let same : one ≡ row = cc in rw (← same) (in_order, found)
row_in (unopened never-parses) e = cc

row_out : {bytes : List ℕ} {o : Option OpenRow} → OpenedAs bytes o → o ≡ None → (schema : Schema) → Unparsed ≡ row_verdict schema bytes
row_out (opened_row row in_order found) e = cc
row_out (unopened never-parses) e = never-parses

-- What comes of it where 6 is said of a row that is not opened.
pub was_opened : (o : Option OpenRow) {row : OpenRow} → Ok row ≡ ok_or o BadRow → o ≡ Some row
was_opened None e = cc
was_opened (Some row) e = cc

was_cut : (o : Option OpenRow) {r : Refusal} → Err r ≡ ok_or o BadRow → (o ≡ None) × (r ≡ BadRow)
was_cut None e = (refl, cc)
was_cut (Some row) e = cc

module _ {schema bytes : List ℕ} {o : Option OpenRow} (told : OpenedAs bytes o) where
  pub judged_cut : {r : Refusal} → Err r ≡ ok_or o BadRow → (table : List ℕ) → JudgedAs schema bytes table (Err r)
  judged_cut e table =
      let cut = was_cut o e in
      rw cut.1 (record {
        verdict_is = λ node is. row_out told cut.0 node;
        handed = λ parts f. cc;
        refused = λ r f. inr (cc);
      })

  module _ {row : OpenRow} (e : o ≡ Some row) where
    pub judged_ready : {table : List ℕ} → is_there (schema_of schema) ≡ true → length schema / 9 ≤ length table → length bytes ≤ most_row → PartsReady schema row table
    judged_ready good tabled short =
        let here = (row_in told e).0 in
        let lent : Lent (row_dictionary row.parts) = record { metadata = part bytes 3 here.middle; opens = here.opens } in
        let size = ap length here.holds in
        let within : length (part bytes (here.middle + 3) (length bytes)) ≤ length bytes = simp (length-take, length-drop) (omega arith) in
        record {
          lent = subst Lent (sym row.opens) lent;
          few = rw row.opens (few_names lent here.short);
          small = omega arith;
          good = good;
          tabled = tabled;
        }

    module _ {after : List ℕ} {v : Verdict} (walk : Walked schema row after v) where
      -- What was walked is the row, and the table tells of what its metadata opens to.
      came_to : (node : Schema) → schema_of schema ≡ Some node → v ≡ row_verdict node bytes
      came_to node is =
          walk.verdict_is node is ∙ ap (λ (d : LentNames). place_verdict node most_levels d.names row.parts.outermost.now) row.opens ∙ (row_in told e).0.comes_to node

      told_on : TableTells schema (row_dictionary row.parts) after
      told_on = subst (λ (d : LentNames). TableTells schema d after) row.opens walk.told

      pub judged_lawful : v ≡ Lawful → JudgedAs schema bytes after (Ok row.parts)
      judged_lawful f =
          record {
            verdict_is = λ node is. sym f ∙ came_to node is;
            handed = λ other g. let same : row.parts ≡ other = cc in rw (← same) (record { in_order = (row_in told e).0; found = (row_in told e).1; told = told_on });
            refused = λ r g. cc;
          }

      pub judged_broken : v ≡ Broken → JudgedAs schema bytes after (Err BrokenRule)
      judged_broken f =
          record {
            verdict_is = λ node is. sym f ∙ came_to node is;
            handed = λ other g. cc;
            refused = λ r g. inl (cc);
          }

      pub judged_unparsed : v ≡ Unparsed → JudgedAs schema bytes after (Err BadRow)
      judged_unparsed f =
          record {
            verdict_is = λ node is. sym f ∙ came_to node is;
            handed = λ other g. cc;
            refused = λ r g. inr (cc);
          }
