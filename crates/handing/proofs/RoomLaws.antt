-- The room for a row's outermost place: what the cutting asks, and what is answered of what was put there.
use Rattle.paper.specs.declared.Unwritten.TheVariants.{Refused}
use Rattle.paper.specs.Refusals.{RowAnswer}
use Rattle.std.specs.Prelude.{Some, None, Option, Err, unwrap_or}
use mathlib.Core.List.{List}
use mathlib.Core.Path.{◌≡◌, refl}
use Prim.Native.Nat.{ℕ, ◌-◌, ◌≤◌, ◌<◌}
use native.Mathlib.Omega.{arith}
use lib.ListN.{length, take, drop}
use Rattle.cutting.specs.Cutting.{PlaceReady, place_cut}
use Rattle.forms.proofs.NamesLaws.{normal-names_there}
use Rattle.names.proofs.UsedLaws.{names_rise}
use Rattle.normalise.proofs.NumberedLaws.{last_bytes}
use Rattle.paper.specs.Limits.{most_levels, most_row, most_value}
use Rattle.paper.specs.Meaning.{Doc}
use Rattle.paper.specs.Normal.{names_used, value_bytes}
use Rattle.paper.specs.Operations.{row_outcome}
use Rattle.paper.specs.Schemas.{Schema}
use Rattle.paper.specs.Shredding.{cut, place_bytes}
use Rattle.paper.specs.declared.Refusal.TheVariants.{TooLarge}
use Rattle.putting.proofs.PutLaws.{told_here, told_full}
use Rattle.putting.specs.Put.{PutAs}
use Rattle.schemas.proofs.StandingLaws.{schema_stands}
use Rattle.handing.proofs.HandLaws.{refused_row, row_outcome_lem, place_large}
use Rattle.handing.proofs.NormalLaws.{normal_few}
use Rattle.handing.specs.Handing.{RowAnswered, row_from, Tabled, TriedAs, told, no_room}

-- ---- what was put

module _ {ranks schema table metadata value : List ℕ} (ready : Tabled ranks schema table metadata value) where
  abbrev Under : Schema
  Under = ready.normal.node

  abbrev Document : Doc
  Document = ready.normal.d

  abbrev Place : List ℕ
  Place = place_bytes (names_used Document) (cut Under Document)

  pub value_short : length (value_bytes (names_used Document) Document) ≤ most_value
  value_short = rw ready.normal.value_is at ready.normal.value_short

  module _ {notes ids : ℕ} (notes_room : length value ≤ notes) (ids_room : length value ≤ ids) where
    -- what the cutting asks
    pub place_ready_lem : PlaceReady most_levels ranks schema table 0 value notes ids
    place_ready_lem =
        record {
          names = names_used Document;
          ground =
              record {
                rises = names_rise Document;
                few = normal_few ready.normal;
                ranked = ready.ranked;
                own = ready.own;
                schema_short = ready.normal.schema_short;
                tabled = ready.tabled;
              };
          under = Under;
          stands = (schema_stands schema Under ready.normal.node_is).0;
          told = ready.told;
          valued =
              record {
                d = Document;
                depth = most_levels;
                is = ready.normal.value_is;
                good = ready.normal.good;
                there = normal-names_there Document;
                short = ready.normal.value_short;
                notes_room = notes_room;
                ids_room = ids_room;
              };
        }

    module _ {before after : List ℕ} {r : Option ℕ} (put : (asked : PlaceReady most_levels ranks schema table 0 value notes ids) → PutAs (place_cut asked) before after 0 (length before) r) where
      placed : PutAs Place before after 0 (length before) r
      unfolding place_ready_lem
      placed = put place_ready_lem

      -- it starts inside
      pub place_starts : {start : ℕ} → r ≡ Some start → start ≤ length before
      place_starts e = let size = (told_here placed e).1.size in omega arith

      pub place_answers : {start : ℕ} → r ≡ Some start → {row row' : List ℕ} {a : RowAnswer}
          → RowAnswered (row_from metadata (take (length before - start) (drop start after))) row row' a → TriedAs Under Document row row' (length before) (Some a)
      place_answers e {a = a} answered =
          told a (rw (ready.normal.metadata_is, last_bytes (told_here placed e).1, row_outcome_lem Under Document value_short) at answered)

      pub place_nowhere : r ≡ None → {row : List ℕ} → TriedAs Under Document row row (length before) None
      place_nowhere e = let long = told_full placed e in no_room (omega arith) refl

-- ---- what was tried

module _ {node : Schema} {d : Doc} {row row' : List ℕ} {room : ℕ} where
  pub tried_told : {t : Option RowAnswer} → TriedAs node d row row' room t → {a : RowAnswer} → t ≡ Some a → RowAnswered (row_outcome node d) row row' a
  tried_told (told own is) {a} e = let same : own ≡ a = cc in rw (← same) is
  tried_told (no_room long kept) e = absurd (let z : ◌≡◌ {A = ℕ} 0 1 = cc in omega arith)

  untold : {t : Option RowAnswer} → TriedAs node d row row' room t → t ≡ None → (room < length (place_bytes (names_used d) (cut node d))) × (row' ≡ row)
  untold (told own is) e = absurd (let z : ◌≡◌ {A = ℕ} 0 1 = cc in omega arith)
  untold (no_room long kept) e = (long, kept)

  module _ {t : Option RowAnswer} (tried : TriedAs node d row row' room t) (e : t ≡ None) where
    -- Where the room is as long as a row may be, the row is too large.
    pub tried_large : length (value_bytes (names_used d) d) ≤ most_value → room ≡ most_row → RowAnswered (row_outcome node d) row row' (Err (Refused TooLarge))
    tried_large short longest =
        let long : most_row < length (place_bytes (names_used d) (cut node d)) = omega (arith, (untold tried e).0) in
        rw (untold tried e).1 (refused_row (place_large node d short long) row)

    -- The buffer is as it was, so another answer is the answer.
    pub tried_again : {row'' : List ℕ} {a : RowAnswer} → RowAnswered (row_outcome node d) row' row'' a → RowAnswered (row_outcome node d) row row'' a
    tried_again answered = rw (untold tried e).1 at answered

  -- What was not written by way of the long room is too large.
  pub tried_or : {t : Option RowAnswer} → TriedAs node d row row' room t → length (value_bytes (names_used d) d) ≤ most_value → room ≡ most_row
      → RowAnswered (row_outcome node d) row row' (unwrap_or t (Err (Refused TooLarge)))
  tried_or (told own is) short longest = is
  tried_or (no_room long kept) short longest = tried_large (no_room long kept) refl short longest
