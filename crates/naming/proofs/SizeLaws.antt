-- How long normal metadata is, and that its parts, written one behind the other, make it.
use mathlib.Core.List.{List, [], ◌∷◌, ◌++◌}
use mathlib.Core.Path.{◌≡◌, refl, sym, ap, subst, ◌∙◌}
use Prim.Native.Nat.{ℕ, ◌+◌, ◌*◌, ◌-◌, ◌≤◌, ◌<◌, max}
use native.Mathlib.Nat.{mul-le-mul, zero-add}
use native.Mathlib.Omega.{arith}
use lib.ListN.{length, set}
use Rattle.dictionary.specs.Lent.{LentNames}
use Rattle.naming.specs.Chosen.{chosen_names, Chosen}
use Rattle.numbers.specs.Little.{number_bytes, put_at, smallest_width}
use Rattle.paper.specs.Bounds.{most_names}
use Rattle.paper.specs.Metadata.{Dictionary}
use Rattle.paper.specs.Normal.{offsets_from, numbers_bytes, metadata_width, metadata_bytes}
use Rattle.paper.specs.Words.{joined}
use Rattle.names.proofs.MetadataLaws.{metadata_length}
use Rattle.names.proofs.RunLaws.{numbers_bytes-length, offsets_length}
use Rattle.naming.proofs.ChosenLaws.{names_length}
use Rattle.naming.proofs.LeftLaws.{Left, left_all, first_room, left_next}
use Rattle.numbers.proofs.NumberLaws.{length-number_bytes}
use Rattle.numbers.proofs.PutLaws.{put_one, length_put}

-- The width of the larger of two numbers, one to four.
abbrev pub Wide : (count total width : ℕ) → Type 0
Wide count total width = (width ≡ smallest_width (max count total)) × (1 ≤ width) × (width ≤ 4)

-- So many offsets of a width.
pub offsets_size : (normal : Dictionary) (count width : ℕ) → length normal ≡ count
    → length (numbers_bytes width (offsets_from 0 normal)) ≡ (count + 1) * width
offsets_size normal count width counted =
    let size : length (offsets_from 0 normal) ≡ count + 1 = let all = offsets_length 0 normal in omega arith in
    numbers_bytes-length width (offsets_from 0 normal) ∙ ap (λ (n : ℕ). n * width) size

-- They are few enough for sums to fit.
pub size_fits : (count width : ℕ) → count ≤ most_names → width ≤ 4 → (count + 1) * width ≤ (most_names + 1) * 4
size_fits count width few most = let next : count + 1 ≤ most_names + 1 = omega arith in mul-le-mul next most

module _ (normal : Dictionary) (count total width : ℕ) (counted : length normal ≡ count) (sum : total ≡ length (joined normal))
    (wide : Wide count total width) where
  width_is : metadata_width normal ≡ width
  unfolding metadata_width
  width_is = rw (counted, ← sum) (sym wide.0)

  pub size_is : 1 + width + (count + 1) * width + total ≡ length (metadata_bytes normal)
  size_is = sym (metadata_length normal ∙ rw (width_is, counted, ← sum))

  -- The header, the count, the offsets, the names.
  parts : metadata_bytes normal
      ≡ ((17 + 64 * (width - 1)) ∷ []) ++ (number_bytes width count ++ (numbers_bytes width (offsets_from 0 normal) ++ joined normal))
  unfolding metadata_bytes
  parts = rw (width_is, counted)

-- The names with their count, their total, their offset size and room for their metadata.
pub record Fitting (normal : Dictionary) (count total width : ℕ) (before : List ℕ) : Type 0 where
  pub counted : length normal ≡ count
  pub sum : total ≡ length (joined normal)
  pub wide : Wide count total width
  pub room : length (metadata_bytes normal) ≤ length before

pub fitting : {d : LentNames} {chosen : List ℕ} {total width : ℕ} (before : List ℕ)
    → Chosen d chosen × (length (metadata_bytes (chosen_names d.names chosen)) ≤ length before)
    → total ≡ length (joined (chosen_names d.names chosen)) → Wide (length chosen) total width
    → Fitting (chosen_names d.names chosen) (length chosen) total width before
fitting {d} {chosen} before pre sum wide = record { counted = names_length d.names chosen; sum = sum; wide = wide; room = pre.1 }

-- What is left behind each part.
module _ {normal : Dictionary} {count total width : ℕ} {before : List ℕ} (f : Fitting normal count total width before) where
  begin : Left before before 0 0 (metadata_bytes normal)
      (((17 + 64 * (width - 1)) ∷ []) ++ (number_bytes width count ++ (numbers_bytes width (offsets_from 0 normal) ++ joined normal)))
  begin =
      subst (Left before before 0 0 (metadata_bytes normal)) (parts normal count total width f.counted f.sum f.wide)
      (left_all before 0 (metadata_bytes normal) (rw zero-add f.room))

  offsets_long : length (numbers_bytes width (offsets_from 0 normal)) ≡ (count + 1) * width
  offsets_long = offsets_size normal count width f.counted

  pub header_room : 0 < length before
  header_room = let size = metadata_length normal in let room = f.room in omega arith

  module _ {first : List ℕ} (header : first ≡ set before 0 (17 + 64 * (width - 1))) where
    behind_header : Left before first 0 1 (metadata_bytes normal) (number_bytes width count ++ (numbers_bytes width (offsets_from 0 normal) ++ joined normal))
    behind_header = left_next _ _ 1 begin (header ∙ put_one before 0 (17 + 64 * (width - 1)) header_room) refl

    pub count_room : 1 + width ≤ length first
    count_room =
        let room : 1 + length (number_bytes width count) ≤ length first = first_room (number_bytes width count) _ behind_header in
        rw (length-number_bytes width count) at room

    module _ {second : List ℕ} (number : second ≡ put_at first 1 (number_bytes width count)) where
      behind_count : Left before second 0 (1 + width) (metadata_bytes normal) (numbers_bytes width (offsets_from 0 normal) ++ joined normal)
      behind_count = left_next _ _ (1 + width) behind_header number (rw (length-number_bytes width count))

      pub offsets_room : 1 + width + (count + 1) * width ≤ length second
      offsets_room =
          let room : 1 + width + length (numbers_bytes width (offsets_from 0 normal)) ≤ length second =
          first_room (numbers_bytes width (offsets_from 0 normal)) _ behind_count in
          rw offsets_long at room

      module _ {third : List ℕ} (offsets : third ≡ put_at second (1 + width) (numbers_bytes width (offsets_from 0 normal))) where
        behind_offsets : Left before third 0 (1 + width + (count + 1) * width) (metadata_bytes normal) (joined normal)
        behind_offsets = left_next _ _ (1 + width + (count + 1) * width) behind_count offsets (rw offsets_long)

        pub names_room : 1 + width + (count + 1) * width + length (joined normal) ≤ length third
        names_room = behind_offsets.room

        module _ {last : List ℕ} (names : last ≡ put_at third (1 + width + (count + 1) * width) (joined normal)) where
          pub written : last ≡ put_at before 0 (metadata_bytes normal)
          written = names ∙ behind_offsets.whole

          pub written_length : length last ≡ length before
          written_length = ap length names ∙ length_put third _ (joined normal) names_room ∙ behind_offsets.kept
