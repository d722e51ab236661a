-- What is found lies inside the value, so that its start and its length have room in a word.
use Rattle.std.specs.Prelude.{Option, None, Some, Ok}
use mathlib.Core.Bool.{Bool, true, false, ◌&&◌}
use mathlib.Core.List.{List}
use mathlib.Core.Path.{◌≡◌, refl}
use Prim.Native.Nat.{ℕ, ◌+◌, ◌^◌, ◌≤◌, ◌<◌}
use native.Mathlib.Omega.{arith}
use borrow.Author.Tests.{leb-true, lt-ltb}
use lib.Dec.{leb, ltb}
use lib.ListN.{length}
use Rattle.paper.specs.Limits.{most_metadata, most_value, most_path, most_levels}
use Rattle.paper.specs.Meaning.{Doc}
use Rattle.paper.specs.Metadata.{Dictionary, dictionary_of}
use Rattle.paper.specs.Operations.{judged, document_fits, find_answer, value_judged}
use Rattle.paper.specs.Paths.{path_of, find_from}
use Rattle.paper.specs.Standing.{Step}
use Rattle.paper.specs.Refusals.{require, obtain}
use Rattle.paper.specs.Values.{meaning_of}
use Rattle.paper.specs.declared.Child.{Child}
use Rattle.paper.specs.Words.{is_there}
use Rattle.paper.specs.declared.Refusal.TheVariants.{TooLong, BadMetadata, BadValue, BadPath}
use Rattle.paths.specs.Places.{LawfulIn}
use Rattle.words.specs.Boundary.{found_has_room}
use Rattle.paper.proofs.WordLaws.{and_both, some_there}
use Rattle.paths.proofs.FindLaws.{found_inside}

-- As far as a place of a value that is no longer than a value may be.
small : (start size : ℕ) → start + size ≤ most_value → ltb start (2 ^ 24) && ltb size (2 ^ 24) ≡ true
small start size h =
    let one : start < 2 ^ 24 = omega arith in
    let two : size < 2 ^ 24 = omega arith in
    rw (lt-ltb start (2 ^ 24) one, lt-ltb size (2 ^ 24) two)

module _ (v : List ℕ) (short : length v ≤ most_value) (names : Dictionary) (meant : is_there (meaning_of most_levels names v) ≡ true) where
  lawful : LawfulIn names v
  lawful = record { levels = most_levels; meant = meant; small = omega arith }

  along : (steps : List Step) → found_has_room ((Ok (find_from names steps 0 v))) ≡ true
  along steps = go (find_from names steps 0 v) refl
    where
      go : (x : Option Child) → find_from names steps 0 v ≡ x → found_has_room ((Ok x)) ≡ true
      go None e = refl
      go (Some child) e =
          let inside = found_inside names steps 0 v child lawful e in small child.start child.size (omega arith)

  path_fits : (x : Option (List Step)) → found_has_room ((obtain x BadPath λ steps. Ok (find_from names steps 0 v))) ≡ true
  unfolding obtain
  path_fits None = refl
  path_fits (Some steps) = along steps

pub found_fits : (m v p : List ℕ) → found_has_room (find_answer m v p) ≡ true
unfolding find_answer judged value_judged require obtain document_fits
found_fits m v p = go (document_fits m v && leb (length p) most_path) refl (dictionary_of m)
  where
    short : document_fits m v && leb (length p) most_path ≡ true → length v ≤ most_value
    short e =
        let both = and_both (document_fits m v) (leb (length p) most_path) e in
        leb-true (length v) most_value (and_both (leb (length m) most_metadata) (leb (length v) most_value) both.0).1

    inner : length v ≤ most_value → (names : Dictionary) (x : Option Doc) → meaning_of most_levels names v ≡ x
        → found_has_room ((obtain x BadValue λ d. obtain (path_of p) BadPath λ steps. Ok (find_from names steps 0 v))) ≡ true
    inner h names None e = refl
    inner h names (Some d) e = path_fits v h names (some_there (meaning_of most_levels names v) e) (path_of p)

    go : (b : Bool) → document_fits m v && leb (length p) most_path ≡ b → (x : Option Dictionary)
        → found_has_room ((require b TooLong (obtain x BadMetadata λ names. obtain (meaning_of most_levels names v) BadValue λ d. obtain (path_of p) BadPath λ steps. Ok (find_from names steps 0 v)))) ≡ true
    go false e x = refl
    go true e None = refl
    go true e (Some names) = inner (short e) names (meaning_of most_levels names v) refl
