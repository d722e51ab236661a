-- A row that was judged lawful: what the gathering of its ids asks, and, with these marked and ranked, what the writing of its
-- document asks and what is then written.
use Rattle.std.specs.Prelude.{Some, Option}
use Rattle.std.proofs.lemmas.Option.{same_Some}
use mathlib.Core.Bool.{true}
use mathlib.Core.List.{List}
use mathlib.Core.Path.{◌≡◌, sym, ap, subst, ◌∙◌}
use Prim.Native.Nat.{ℕ, ◌+◌, ◌*◌, ◌≤◌}
use native.Mathlib.Nat.{mul-le-mul, mul-one}
use native.Mathlib.Omega.{arith}
use lib.ListN.{length, replicate, take, length-take, length-drop}
use Rattle.building.proofs.MemberLaws.{part_bytes}
use Rattle.building.specs.Building.{Bytes, Enough, PlaceReady}
use Rattle.dictionary.proofs.LentLaws.{lent_dictionary, lent_there, lent_size}
use Rattle.dictionary.specs.Lent.{LentNames, Lent, lent_of}
use Rattle.gathering.specs.Gathering.{PlaceReady as Gatherable}
use Rattle.marking.specs.Ids.{mark_ids}
use Rattle.names.proofs.NeverLongerLaws.{never_longer, read_length}
use Rattle.names.proofs.UsedLaws.{names_rise}
use Rattle.naming.specs.Chosen.{chosen_names}
use Rattle.normalise.proofs.NumberedLaws.{picked_among, picked_chosen}
use Rattle.paper.proofs.WordLaws.{there_some}
use Rattle.paper.specs.Bounds.{most_names}
use Rattle.paper.specs.Limits.{most_levels, most_metadata}
use Rattle.paper.specs.Meaning.{Doc}
use Rattle.paper.specs.Metadata.{Dictionary, offset_size, dictionary_of}
use Rattle.paper.specs.Normal.{names_used, metadata_bytes, value_bytes, normal_form}
use Rattle.paper.specs.Schemas.{Schema, schema_of}
use Rattle.paper.specs.Words.{at, part, is_there}
use Rattle.places.specs.Verdicts.{place_verdict}
use Rattle.places.specs.declared.verdicts.Verdict.TheVariants.{Lawful}
use Rattle.putting.specs.Put.{PutAs}
use Rattle.ranking.specs.Ranks.{Ranked}
use Rattle.rebuilt.proofs.ChosenLaws.{row_chosen, row_numbered}
use Rattle.rebuilt.proofs.RebuiltLaws.{place_rebuilt_lem}
use Rattle.rebuilt.proofs.UsingLaws.{place_ids-below, place_ids-used}
use Rattle.rebuilt.specs.Meant.{place_doc}
use Rattle.rebuilt.specs.Rebuilt.{place_rebuilt}
use Rattle.rebuilt.specs.There.{PlaceThere, Numbered as NumberedIds}
use Rattle.rebuilt.specs.Using.{place_ids}
use Rattle.rows.specs.Judging.{row_dictionary}
use Rattle.rows.specs.declared.judging.RowParts.{RowParts}
use Rattle.schemas.proofs.StandingLaws.{schema_stands}
use Rattle.schemas.specs.Positions.{Stands}
use Rattle.rebuild.specs.Rebuilding.{Judged, doc_under, row_doc}
use Rattle.rebuild.specs.Numbering.{Numbered}

-- ---- a row that was judged lawful

-- Each name takes an offset, so a dictionary has no more names than its metadata has bytes.
few_names : {d : LentNames} → Lent d → d.size ≤ most_metadata → length d.names ≤ most_names
unfolding offset_size
few_names {d} lent short =
    let all = read_length lent.metadata d.names (lent_dictionary lent) in
    let one : (length d.names + 1) * 1 ≤ (length d.names + 1) * offset_size (at lent.metadata 0) = mul-le-mul (omega arith) (omega arith) in
    let same = mul-one (length d.names + 1) in
    let size = lent_size lent in
    omega arith

-- Under its schema's node, what a row means.
doc_under_lem : (schema : List ℕ) (row : RowParts) (node : Schema) → schema_of schema ≡ Some node
    → row_doc schema row ≡ place_doc node most_levels (row_dictionary row).names row.outermost.now
unfolding row_doc doc_under
doc_under_lem schema row node is = rw is

module _ {schema table : List ℕ} {row : RowParts} (judged : Judged schema row table) where
  -- Its outermost place is no longer than the row.
  pub outermost_short : length row.outermost.now ≤ length judged.bytes
  outermost_short = rw (judged.handed.in_order.holds, length-take, length-drop) (omega arith)

  -- Its metadata opens to its dictionary.
  pub lent : Lent (row_dictionary row)
  lent = record { metadata = part judged.bytes 3 judged.handed.in_order.middle; opens = judged.handed.in_order.opens }

  -- So the metadata that was handed on keeps its rules, and what is opened of it is that dictionary.
  opens : lent_of row.metadata.now ≡ Some (row_dictionary row)
  opens = ap lent_of judged.handed.found ∙ judged.handed.in_order.opens

  pub metadata_there : is_there (dictionary_of row.metadata.now) ≡ true
  metadata_there = lent_there (record { metadata = row.metadata.now; opens = opens })

  pub opened_is : {d : LentNames} → Some d ≡ lent_of row.metadata.now → d ≡ row_dictionary row
  opened_is {d} e = same_Some d (row_dictionary row) (e ∙ opens)

  pub place_lawful_lem : (node : Schema) → schema_of schema ≡ Some node → place_verdict node most_levels (row_dictionary row).names row.outermost.now ≡ Lawful
  place_lawful_lem node is = judged.handed.in_order.comes_to node ∙ judged.lawful node is

  pub row_there : PlaceThere most_levels (row_dictionary row).names schema table 0 row.outermost.now
  row_there =
      let got = there_some (schema_of schema) judged.good in
      record {
        tabled = judged.tabled;
        under = got.0;
        stands = (schema_stands schema got.0 got.1).0;
        told = judged.handed.told got.0 got.1;
        lawful = place_lawful_lem got.0 got.1;
      }

  pub count_few : length (row_dictionary row).names ≤ most_names
  count_few = few_names lent judged.handed.in_order.short

  -- what the gathering asks, of a table that has an entry for each name
  pub gatherable : (size : ℕ) → length (row_dictionary row).names ≤ size → Gatherable most_levels schema table 0 row.outermost.now size
  gatherable size room =
      let within = outermost_short in
      let short = judged.row_short in
      record { names = (row_dictionary row).names; there = row_there; room = omega arith; small = omega arith }

  module _ {before used : List ℕ}
      (marks : (under : Schema) → Stands most_levels schema 0 under → used ≡ mark_ids before (place_ids under most_levels schema table 0 row.outermost.now))
      (clean : before ≡ replicate (length before) 0) (room : length (row_dictionary row).names ≤ length before)
      {ranks chosen : List ℕ} {picked : ℕ} (ranked : Ranked (row_dictionary row).names used ranks chosen picked) where
    abbrev Names : Dictionary
    Names = (row_dictionary row).names

    abbrev body : List ℕ
    body = row.outermost.now

    marked : (under : Schema) → schema_of schema ≡ Some under → used ≡ mark_ids (replicate (length before) 0) (place_ids under most_levels schema table 0 body)
    marked under is = marks under (schema_stands schema under is).0 ∙ ap (λ (l : List ℕ). mark_ids l (place_ids under most_levels schema table 0 body)) clean

    names_chosen : chosen_names Names (take picked chosen) ≡ names_used (row_doc schema row)
    names_chosen =
        let got = there_some (schema_of schema) judged.good in
        row_chosen got.0 most_levels Names schema table 0 body (judged.handed.told got.0 got.1) (place_lawful_lem got.0 got.1)
        (length before) room used (marked got.0 got.1) ranks chosen picked ranked
        ∙ ap names_used (sym (doc_under_lem schema row got.0 got.1))

    ids_numbered : length Names ≤ length ranks → (under : Schema) → schema_of schema ≡ Some under
        → NumberedIds Names (names_used (row_doc schema row)) ranks (place_ids under most_levels schema table 0 body)
    ids_numbered ranks_room under is =
        subst (λ (d : Doc). NumberedIds Names (names_used d) ranks (place_ids under most_levels schema table 0 body)) (sym (doc_under_lem schema row under is))
        (row_numbered under most_levels Names schema table 0 body (judged.handed.told under is) (place_lawful_lem under is)
        (length before) room used (marked under is) ranks chosen picked ranked count_few ranks_room)

    pub numbered : Bytes body → length Names ≤ length ranks → Numbered schema row table ranks (take picked chosen)
    numbered bytes ranks_room =
        record {
          judged = judged;
          choice = picked_chosen lent judged.handed.in_order.short ranked;
          used = names_chosen;
          ranked = ranks_room;
          numbered = ids_numbered ranks_room;
          bytes = bytes;
        }

  -- The names used are names of the row's dictionary, so the normal metadata is no longer than the row's.
  pub metadata_fits : Bytes judged.bytes → length (normal_form (row_doc schema row)).metadata ≤ most_metadata
  unfolding normal_form lent
  metadata_fits bytes =
      let got = there_some (schema_of schema) judged.good in
      let here = judged.handed.in_order in
      let told = judged.handed.told got.0 got.1 in
      let lawful = place_lawful_lem got.0 got.1 in
      let names : Dictionary = (row_dictionary row).names in
      let d : Doc = place_doc got.0 most_levels names row.outermost.now in
      let below = place_ids-below got.0 most_levels names schema table 0 row.outermost.now told lawful in
      let used = place_ids-used got.0 most_levels names schema table 0 row.outermost.now told lawful in
      let shorter : length (metadata_bytes (names_used d)) ≤ length lent.metadata =
      never_longer lent.metadata names (lent_dictionary lent) (part_bytes judged.bytes bytes 3 here.middle) (names_used d) (names_rise d)
      (λ name e. picked_among names _ below name (used name ∙ e)) in
      let short = here.short in
      let size = lent_size lent in
      rw (doc_under_lem schema row got.0 got.1) (omega arith)

-- ---- numbered: what the writing asks, and what is written

module _ {schema : List ℕ} {row : RowParts} {table ranks chosen : List ℕ} (n : Numbered schema row table ranks chosen) where
  pub place_ready_lem : {places ids floor : ℕ} → Enough (length row.outermost.now) places ids floor
      → PlaceReady most_levels ranks schema table 0 row.outermost.now places ids floor
  unfolding row_there
  place_ready_lem enough =
      let few = count_few n.judged in
      let room = n.ranked in
      let there = row_there n.judged in
      record {
        names = (row_dictionary row).names;
        normal = names_used (row_doc schema row);
        ground = record { few = few; ranked = room; schema_short = n.judged.schema_short };
        there = there;
        numbered = n.numbered there.under (there_some (schema_of schema) n.judged.good).1;
        bytes = n.bytes;
        enough = enough;
      }

  -- What is rebuilt is the document's value in normal form.
  rebuilt_is : (node : Schema) → schema_of schema ≡ Some node
      → place_rebuilt node most_levels ranks schema table 0 row.outermost.now ≡ (normal_form (row_doc schema row)).value
  unfolding normal_form
  rebuilt_is node is =
      let within = outermost_short n.judged in
      let short = n.judged.row_short in
      place_rebuilt_lem node most_levels (row_dictionary row).names (names_used (row_doc schema row)) ranks schema table 0 row.outermost.now
      (schema_stands schema node is).0 (n.judged.handed.told node is) (place_lawful_lem n.judged node is) (names_rise (row_doc schema row))
      (n.numbered node is) n.bytes (omega arith)
      ∙ ap (value_bytes (names_used (row_doc schema row))) (sym (doc_under_lem schema row node is))

  pub value_put : {before after : List ℕ} {floor end : ℕ} {r : Option ℕ}
      → ((under : Schema) → Stands most_levels schema 0 under
      → PutAs (place_rebuilt under most_levels ranks schema table 0 row.outermost.now) before after floor end r)
      → PutAs (normal_form (row_doc schema row)).value before after floor end r
  value_put {before} {after} {floor} {end} {r} put =
      let got = there_some (schema_of schema) n.judged.good in
      subst (λ (bytes : List ℕ). PutAs bytes before after floor end r) (rebuilt_is got.0 got.1) (put got.0 (schema_stands schema got.0 got.1).0)
