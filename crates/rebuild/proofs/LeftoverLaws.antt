-- A lawful row that is a leftover alone: its document is that leftover's, so normalising the leftover answers.
use Rattle.paper.specs.Refusals.{DocumentAnswer}
use Rattle.std.specs.Prelude.{Option, None, Some}
use mathlib.Core.List.{List}
use mathlib.Core.Path.{◌≡◌, refl, sym, ◌∙◌}
use Prim.Native.Nat.{ℕ}
use native.Mathlib.Omega.{arith}
use lib.Dec.{leb}
use lib.ListN.{length}
use Rattle.dictionary.specs.Lent.{LentNames, lent_of}
use Rattle.normalise.specs.Answered.{Answered, Lent}
use Rattle.paper.proofs.WordLaws.{given_some, there_some, some_there}
use Rattle.paper.specs.Limits.{most_leftover, most_levels}
use Rattle.paper.specs.Meaning.{Doc}
use Rattle.paper.specs.Metadata.{Dictionary}
use Rattle.paper.specs.Operations.{written}
use Rattle.paper.specs.Rebuilding.{or_null, place_meaning_by, place_meaning}
use Rattle.paper.specs.Rows.{Place, leftover_meaning, place_under}
use Rattle.paper.specs.Rules.{place_lawful}
use Rattle.paper.specs.Schemas.{Schema, schema_of}
use Rattle.paper.specs.Values.{meaning_of}
use Rattle.paper.specs.Words.{part, and_then}
use Rattle.places.specs.Parts.{parts_of}
use Rattle.places.specs.Verdicts.{verdict_of, typed_under, place_verdict}
use Rattle.places.specs.declared.parts.Parts.TheVariants.{Leftover}
use Rattle.places.specs.declared.parts.Parts.{Parts}
use Rattle.places.specs.declared.verdicts.Verdict.TheVariants.{Lawful}
use Rattle.rebuilt.proofs.HeldLaws.{Held, left_held, under_held}
use Rattle.rebuilt.proofs.PartsLaws.{typed_meaning, meaning_parts}
use Rattle.rebuilt.proofs.ThereLaws.{unparsed_not, LeftThere, place_leftover}
use Rattle.rebuilt.specs.Meant.{place_doc}
use Rattle.rows.specs.Judging.{row_dictionary}
use Rattle.rows.specs.declared.judging.RowParts.{RowParts}
use Rattle.rebuild.proofs.NumberedLaws.{opened_is, place_lawful_lem, row_there}
use Rattle.rebuild.specs.Rebuilding.{Judged, doc_under, row_doc}
use Rattle.std.proofs.lemmas.Option.{same_Some}

-- ---- what a lawful place means, by what it holds

module _ (under : Schema) (levels : ℕ) (names : Dictionary) (body : List ℕ) where
  abbrev Read : Option Place
  Read = place_under under levels names (record { tag = 0x50; body = body })

  pub held_doc : place_verdict under levels names body ≡ Lawful → {q : Parts} → parts_of body ≡ q → {d : Doc}
      → ((p : Place) → Held (leftover_meaning levels names) (typed_under under levels names) body q p → or_null (place_meaning_by (typed_meaning under) p) ≡ d)
      → place_doc under levels names body ≡ d
  unfolding place_verdict verdict_of place_doc and_then
  held_doc lawful is {d} means = go Read refl lawful
    where
      go : (x : Option Place) → Read ≡ x → verdict_of x (place_lawful under names) ≡ Lawful → or_null (and_then Read (place_meaning under)) ≡ d
      go None e kept = unparsed_not kept
      go (Some p) e kept =
          let held = rw is at (under_held under levels names (record { tag = 0x50; body = body }) p e) in
          rw (e, meaning_parts under) (means p held)

  -- A leftover alone means what the place means.
  left_held_lem : {d : Doc} → meaning_of levels names (part body 3 (length body)) ≡ Some d
      → (p : Place) → Held (leftover_meaning levels names) (typed_under under levels names) body Leftover p → or_null (place_meaning_by (typed_meaning under) p) ≡ d
  unfolding leftover_meaning or_null place_meaning_by
  left_held_lem {d} means p (left_held {d = own} read) =
      same_Some own d (sym (given_some (leb (length (part body 3 (length body))) most_leftover) _ read).1 ∙ means)

-- ---- of a row

module _ {schema table : List ℕ} {row : RowParts} (judged : Judged schema row table) {p : Parts} (is : p ≡ parts_of row.outermost.now) (e : p ≡ Leftover) where
  node : (n : Schema) × (schema_of schema ≡ Some n)
  node = there_some (schema_of schema) judged.good

  abbrev names : Dictionary
  names = (row_dictionary row).names

  left : LeftThere most_levels names (part row.outermost.now 3 (length row.outermost.now))
  left = place_leftover (row_there judged) is e

  -- under the dictionary that its metadata opens to
  module _ {own : LentNames} (opened : Some own ≡ lent_of row.metadata.now) where
    pub left_lent : Lent own (part row.outermost.now 3 (length row.outermost.now))
    left_lent =
        let few = left.few in
        rw (opened_is judged opened) (record {
          meant = some_there (meaning_of most_levels names (part row.outermost.now 3 (length row.outermost.now))) left.means;
          metadata_short = judged.handed.in_order.short;
          value_short = omega arith;
        })

    pub left_answers : {first first' second second' : List ℕ} {a : DocumentAnswer}
        → ((d : Doc) → meaning_of most_levels own.names (part row.outermost.now 3 (length row.outermost.now)) ≡ Some d → Answered (written d) first first' second second' a)
        → Answered (written (row_doc schema row)) first first' second second' a
    unfolding row_doc doc_under
    left_answers answers =
        let same : place_doc node.0 most_levels names row.outermost.now ≡ left.doc =
        held_doc node.0 most_levels names row.outermost.now (place_lawful_lem judged node.0 node.1) (sym is ∙ e)
        (left_held_lem node.0 most_levels names row.outermost.now left.means) in
        rw (node.1, same) (answers left.doc (rw (opened_is judged opened) left.means))
