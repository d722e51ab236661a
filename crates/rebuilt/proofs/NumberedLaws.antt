-- Ids that are numbered: so is each part of them, and the first one's number is its name's place in the normal dictionary.
use mathlib.Core.Bool.{true}
use mathlib.Core.List.{List, [], ◌∷◌, ◌++◌}
use mathlib.Core.Path.{◌≡◌, sym, ap, ◌∙◌}
use Prim.Native.Nat.{ℕ}
use lib.ListN.{length, get_or}
use Rattle.marking.specs.Ids.{holds}
use Rattle.names.proofs.SameLaws.{or_second}
use Rattle.paper.specs.Metadata.{Dictionary}
use Rattle.paper.specs.Normal.{id_of}
use Rattle.paper.specs.Words.{among}
use Rattle.ranking.proofs.HeldLaws.{held_first, held_append, below_both}
use Rattle.writing.proofs.MeaningLaws.{or_first}
use Rattle.rebuilt.specs.There.{Numbered}

module _ {names normal : Dictionary} {ranks : List ℕ} where
  pub numbered_front : (front behind : List ℕ) → Numbered names normal ranks (front ++ behind) → Numbered names normal ranks front
  numbered_front front behind all =
      let held : (id : ℕ) → holds id front ≡ true → holds id (front ++ behind) ≡ true =
      λ id e. held_append id front behind ∙ or_first (holds id front) (holds id behind) e in
      record {
        below = (below_both (length ranks) front behind all.below).0;
        right = λ id e. all.right id (held id e);
        there = λ id e. all.there id (held id e);
        few = all.few;
      }

  pub numbered_behind : (front behind : List ℕ) → Numbered names normal ranks (front ++ behind) → Numbered names normal ranks behind
  numbered_behind front behind all =
      let held : (id : ℕ) → holds id behind ≡ true → holds id (front ++ behind) ≡ true =
      λ id e. held_append id front behind ∙ or_second (holds id front) (holds id behind) e in
      record {
        below = (below_both (length ranks) front behind all.below).1;
        right = λ id e. all.right id (held id e);
        there = λ id e. all.there id (held id e);
        few = all.few;
      }

  pub numbered_more : (id : ℕ) (ids : List ℕ) → Numbered names normal ranks (id ∷ ids) → Numbered names normal ranks ids
  numbered_more id ids all = numbered_behind (id ∷ []) ids all

  -- The first id, by the name that it has.
  module _ (id : ℕ) (ids : List ℕ) (all : Numbered names normal ranks (id ∷ ids)) {name : List ℕ} (named : get_or names id [] ≡ name) where
    pub numbered_rank : get_or ranks id 0 ≡ id_of normal name
    numbered_rank = all.right id (held_first id ids) ∙ ap (id_of normal) named

    pub numbered_there : among name normal ≡ true
    numbered_there = sym (ap (λ (n : List ℕ). among n normal) named) ∙ all.there id (held_first id ids)
