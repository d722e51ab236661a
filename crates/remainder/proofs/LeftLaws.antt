-- A turn over an object's members, for one reading of it: a member is named by the fields that are left, or it is noted. What stands
-- in the tables, and what those fields leave of the members that are left, make all that is left over.
use mathlib.Core.Bool.{true, false, ◌&&◌}
use mathlib.Core.List.{List, ◌++◌, map}
use mathlib.Core.Path.{◌≡◌, ap, ◌∙◌}
use Prim.Native.Nat.{ℕ, ◌+◌, ◌*◌, ◌≤◌, ◌<◌}
use native.Mathlib.Omega.{arith}
use lib.ListN.{length, set}
use Rattle.fields.proofs.TellingLaws.{field_in_table}
use Rattle.fields.specs.Telling.{entry_place, FieldsTold}
use Rattle.forms.specs.WellFormed.{names_there, field_names_there}
use Rattle.members.proofs.FromLaws.{FirstMember, first_member}
use Rattle.members.specs.Members.{member_id, From}
use Rattle.members.specs.declared.Members.{Members}
use Rattle.names.proofs.IdLaws.{id_below}
use Rattle.names.proofs.RisingLaws.{rising_more}
use Rattle.numbers.specs.Little.{number_bytes, put_at}
use Rattle.paper.proofs.WordLaws.{and_both}
use Rattle.paper.specs.Bounds.{most_walked}
use Rattle.paper.specs.Meaning.{Fields, field}
use Rattle.paper.specs.Metadata.{rising}
use Rattle.paper.specs.Normal.{id_of, field_names, member_bytes}
use Rattle.paper.specs.Schemas.{SchemaFields, column_names}
use Rattle.paper.specs.Shredding.{unnamed}
use Rattle.paper.specs.Words.{numbers, among}
use Rattle.schemas.proofs.FieldsStandLaws.{first_field}
use Rattle.schemas.specs.Positions.{FieldsStand}
use Rattle.remainder.proofs.NamedLaws.{name_here, name_nowhere}
use Rattle.remainder.proofs.UnnamedLaws.{unnamed_alike, unnamed_has, unnamed_lacks, name_there, first_lowest}
use Rattle.remainder.specs.Left.{NotedThere, noted_parts}
use Rattle.remainder.specs.Passing.{names_id, Fielded, Passed}
use Rattle.remainder.specs.Remainder.{RestReady}
use Rattle.remainder.proofs.TableLaws.{one_behind, parts_more, there_more, ids_more}

-- After k members, for one reading of what was lent.
pub record LeftSeen {ranks schema table : List ℕ} {from to : ℕ} {s : List ℕ} {m : Members} {notes_room ids_room : ℕ}
    (ready : RestReady ranks schema table from to s m notes_room ids_room) (notes ids : List ℕ) (n place k : ℕ) : Type 0 where
  pub columns : SchemaFields
  pub left : Fields
  pub stand : FieldsStand ready.levels schema place to columns
  pub told : FieldsTold ready.names schema table columns place
  pub members : From ready.names s m k left
  pub rise : rising (field_names left) ≡ true
  pub there : field_names_there ready.names left ≡ true
  pub noted : NotedThere s m notes n
  pub parts_whole : member_bytes ready.names (unnamed (column_names ready.columns) ready.fs)
      ≡ noted_parts s m notes n ++ member_bytes ready.names (unnamed (column_names columns) left)
  pub ids_whole : map (id_of ready.names) (field_names (unnamed (column_names ready.columns) ready.fs))
      ≡ numbers 2 n ids ++ map (id_of ready.names) (field_names (unnamed (column_names columns) left))

module _ {ranks schema table : List ℕ} {from to : ℕ} {s : List ℕ} {m : Members} {notes_room ids_room : ℕ}
    {ready : RestReady ranks schema table from to s m notes_room ids_room} {notes ids : List ℕ} {n place k : ℕ} (seen : LeftSeen ready notes ids n place k) where
  abbrev pub fielded : Fielded schema table place to
  fielded =
      record {
        names = ready.names;
        columns = seen.columns;
        levels = ready.levels;
        rises = ready.ground.rises;
        stand = seen.stand;
        told = seen.told;
      }

  pub entry_there : {id next : ℕ} → Passed fielded id next → next < to → entry_place next < length table
  entry_there passed here = field_in_table (first_field passed.skipped.stand here).stands table ready.ground.tabled

  module _ (h : k < m.count) where
    pub first : FirstMember ready.names s m k seen.left
    first = first_member seen.members h

    abbrev these : Fields
    these = field first.name first.d first.more

    these_rise : rising (field_names these) ≡ true
    these_rise = rw first.are at seen.rise

    these_there : field_names_there ready.names these ≡ true
    these_there = rw first.are at seen.there

    both_there : (among first.name ready.names ≡ true) × (field_names_there ready.names first.more ≡ true)
    unfolding field_names_there
    both_there =
        let own = and_both (among first.name ready.names) (names_there ready.names first.d && field_names_there ready.names first.more) these_there in
        (own.0, (and_both (names_there ready.names first.d) (field_names_there ready.names first.more) own.1).1)

    module _ {id : ℕ} (id_is : id ≡ member_id s m k) {next : ℕ} (passed : Passed fielded id next) where
      abbrev more : SchemaFields
      more = passed.skipped.more

      own : id ≡ id_of ready.names first.name
      own = id_is ∙ first.id_is

      -- The fields that were passed name none of the members from here on.
      left_same : unnamed (column_names seen.columns) seen.left ≡ unnamed (column_names more) these
      left_same =
          let lowest = first_lowest ready.names ready.ground.rises first.name first.d first.more these_there these_rise in
          ap (unnamed (column_names seen.columns)) first.are
          ∙ unnamed_alike (column_names seen.columns) (column_names more) these λ other inside.
          passed.skipped.alike other (name_there ready.names these these_there other inside) (rw own (lowest other inside))

      -- A member that is named.
      pub seen_named : names_id table next to id ≡ true → LeftSeen ready notes ids n next (k + 1)
      unfolding field_names
      seen_named e =
          let is : names_id table next to (id_of ready.names first.name) ≡ true = rw own at e in
          let has = name_here ready.names ready.ground.rises first.name both_there.0 passed.skipped.stand passed.skipped.told is in
          let same : unnamed (column_names seen.columns) seen.left ≡ unnamed (column_names more) first.more =
          left_same ∙ unnamed_has (column_names more) first.name first.d first.more has in
          record {
            columns = more;
            left = first.more;
            stand = passed.skipped.stand;
            told = passed.skipped.told;
            members = first.behind;
            rise = rising_more first.name (field_names first.more) these_rise;
            there = both_there.1;
            noted = seen.noted;
            parts_whole = seen.parts_whole ∙ rw same;
            ids_whole = seen.ids_whole ∙ rw same;
          }

      -- One that is not.
      pub seen_left : names_id table next to id ≡ false → n < length notes → 2 * n + 2 ≤ length ids
          → LeftSeen ready (set notes n k) (put_at ids (2 * n) (number_bytes 2 id)) (n + 1) next (k + 1)
      unfolding field_names member_bytes
      seen_left e room ids_fit =
          let is : names_id table next to (id_of ready.names first.name) ≡ false = rw own at e in
          let high = rw own at passed.high in
          let lacks = name_nowhere ready.names ready.ground.rises first.name both_there.0 passed.skipped.stand passed.skipped.told high is in
          let same : unnamed (column_names seen.columns) seen.left ≡ field first.name first.d (unnamed (column_names more) first.more) =
          left_same ∙ unnamed_lacks (column_names more) first.name first.d first.more lacks in
          let below = id_below ready.names first.name both_there.0 in
          let few = ready.ground.few in
          let is-own = own in
          let low : id < most_walked = omega arith in
          let others : Fields = unnamed (column_names more) first.more in
          record {
            columns = more;
            left = first.more;
            stand = passed.skipped.stand;
            told = passed.skipped.told;
            members = first.behind;
            rise = rising_more first.name (field_names first.more) these_rise;
            there = both_there.1;
            noted = there_more s m notes n k room seen.noted first.part_there;
            parts_whole = seen.parts_whole ∙ ap (λ (f : Fields). noted_parts s m notes n ++ member_bytes ready.names f) same
                ∙ one_behind (noted_parts s m notes n) first.part_is (member_bytes ready.names others) (parts_more s m notes n k room);
            ids_whole = seen.ids_whole ∙ ap (λ (f : Fields). numbers 2 n ids ++ map (id_of ready.names) (field_names f)) same
                ∙ one_behind (numbers 2 n ids) own (map (id_of ready.names) (field_names others)) (ids_more ids n id ids_fit low);
          }
