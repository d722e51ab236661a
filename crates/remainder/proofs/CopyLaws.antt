-- Noted members copied last to first: those from one on stand so that they end at a place.
use Rattle.std.specs.Prelude.{Some, None}
use mathlib.Core.List.{List, [], ◌∷◌, ◌++◌}
use mathlib.Core.Path.{◌≡◌, refl, sym, ap, ◌∙◌}
use Prim.Native.Nat.{ℕ, suc, ◌+◌, ◌-◌, ◌≤◌, ◌<◌}
use native.Mathlib.Omega.{arith}
use lib.ListN.{length, get_or, take, drop, length-map, drop_of_length-le, take-append-drop, get_or-map}
use lib.Seq.{drop-cons, get_or-take, length-take-le}
use Rattle.members.specs.Members.{PartThere, member_part}
use Rattle.members.specs.declared.Members.{Members}
use Rattle.paper.specs.Words.{joined}
use Rattle.putting.proofs.PutLaws.{parts_hold}
use Rattle.putting.specs.Put.{Room, PutAs, put, full}
use Rattle.writing.proofs.EndLaws.{nothing_ends, ends_join, ends_length}
use Rattle.writing.specs.Ends.{EndsAt}
use Rattle.remainder.specs.Left.{NotedThere, noted_parts}

module _ (s : List ℕ) (m : Members) (notes : List ℕ) (count : ℕ) where
  abbrev parts : List (List ℕ)
  parts = noted_parts s m notes count

  -- Those from i on stand there.
  pub record CopySeen (out₀ out : List ℕ) (end start i : ℕ) : Type 0 where
    pub within : i ≤ count
    pub same_size : length out ≡ length out₀
    pub ends : EndsAt (joined (drop i parts)) out₀ out end start

module _ {s : List ℕ} {m : Members} {notes : List ℕ} {count : ℕ} (noted : NotedThere s m notes count) where
  taken : length (take count notes) ≡ count
  taken = length-take-le count notes noted.room

  many : length (noted_parts s m notes count) ≡ count
  many = length-map (take count notes) (λ (k : ℕ). member_part s m k) ∙ taken

  pub copy_start : (out : List ℕ) (end : ℕ) → CopySeen s m notes count out out end end count
  unfolding joined
  copy_start out end =
      let size = many in
      let none : drop count (noted_parts s m notes count) ≡ [] = drop_of_length-le (noted_parts s m notes count) {i = count} (omega arith) in
      record { within = omega arith; same_size = refl; ends = rw none (nothing_ends out end) }

  module _ {out₀ out : List ℕ} {end start i : ℕ} (room : Room out₀ 0 end) (seen : CopySeen s m notes count out₀ out end start i) where
    pub copy_done : i ≤ 0 → PutAs (joined (noted_parts s m notes count)) out₀ out 0 end (Some start)
    copy_done over = let none : i ≡ 0 = omega arith in put start (omega arith) (rw none at seen.ends)

    pub copy_within : start ≤ length out
    copy_within =
        let within = room.within in
        let size = seen.ends.size in
        rw (ends_length seen.ends within) (omega arith)

    module _ (some_left : 0 < i) where
      inside : i - 1 < count
      inside = let within = seen.within in omega arith

      pub copy_index : i - 1 < length notes
      copy_index = let here = inside in let fits = noted.room in omega arith

      pub copy_there : {k : ℕ} → k ≡ get_or notes (i - 1) 0 → PartThere s m k
      copy_there spotted = rw spotted (noted.there (i - 1) inside)

      -- The next one in front of them.
      module _ {k : ℕ} (spotted : k ≡ get_or notes (i - 1) 0) {part : List ℕ} (is : part ≡ member_part s m k) where
        further : drop (i - 1) (noted_parts s m notes count) ≡ part ∷ drop i (noted_parts s m notes count)
        further =
            let size = many in
            let here = inside in
            let next : suc (i - 1) ≡ i = omega arith in
            let one : get_or (noted_parts s m notes count) (i - 1) (member_part s m 0) ≡ part =
            get_or-map (λ (k : ℕ). member_part s m k) (take count notes) (i - 1) 0
            ∙ ap (λ (j : ℕ). member_part s m j) (get_or-take count notes (i - 1) 0 here ∙ sym spotted) ∙ sym is in
            drop-cons (noted_parts s m notes count) (i - 1) (member_part s m 0) (omega arith) ∙ rw (one, next)

        pub copy_full : start < length part → {after : List ℕ} → PutAs (joined (noted_parts s m notes count)) out₀ after 0 end None
        copy_full short =
            let all : List (List ℕ) = noted_parts s m notes count in
            let whole : take (i - 1) all ++ (part ∷ drop i all) ≡ all = rw (← further) (take-append-drop (i - 1) all) in
            let hold = parts_hold (take (i - 1) all) part (drop i all) in
            let fits : length part + length (joined (drop i all)) ≤ length (joined all) = rw whole at hold in
            let size = seen.ends.size in
            full (omega arith)

        pub copy_next : {after : List ℕ} {next : ℕ} → EndsAt part out after start next → CopySeen s m notes count out₀ after end next (i - 1)
        unfolding joined
        copy_next one =
            let within = seen.within in
            let before = copy_within in
            record {
              within = omega arith;
              same_size = ends_length one before ∙ seen.same_size;
              ends = rw further (ends_join seen.ends room.within one);
            }
