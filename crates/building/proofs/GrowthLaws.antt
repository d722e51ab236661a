-- A leftover whose ids are numbered is written in at most twice its bytes, so the floor is high enough for it.
use Rattle.std.specs.Prelude.{Some}
use mathlib.Core.Bool.{true}
use mathlib.Core.List.{List}
use mathlib.Core.Path.{◌≡◌, sym, ap, ◌∙◌}
use Prim.Native.Nat.{ℕ, ◌*◌, ◌≤◌}
use native.Mathlib.Omega.{arith}
use lib.ListN.{length}
use Rattle.forms.proofs.GrowthLaws.{value_grows}
use Rattle.forms.proofs.NamesLaws.{used_there}
use Rattle.marking.proofs.UsedIdLaws.{ids_used}
use Rattle.marking.specs.Ids.{ids_in}
use Rattle.names.specs.Used.{used_in}
use Rattle.paper.specs.Limits.{most_leftover}
use Rattle.paper.specs.Meaning.{Doc}
use Rattle.paper.specs.Metadata.{Dictionary}
use Rattle.paper.specs.Normal.{value_bytes}
use Rattle.paper.specs.Values.{meaning_of}
use Rattle.paper.specs.Words.{among}
use Rattle.paper.proofs.WordLaws.{some_there}
use Rattle.putting.specs.Put.{Leftover}
use Rattle.ranking.proofs.HeldLaws.{named}
use Rattle.rebuilt.specs.There.{Numbered}
use Rattle.writing.proofs.MeaningLaws.{rewritten_is}
use Rattle.writing.specs.Rewritten.{rewritten}
use Rattle.building.specs.Building.{Bytes}

module _ (levels : ℕ) {names normal : Dictionary} {ranks : List ℕ} (s : List ℕ) {d : Doc} (means : meaning_of levels names s ≡ Some d)
    (numbered : Numbered names normal ranks (ids_in levels s)) (bytes : Bytes s) (short : length s ≤ most_leftover) where
  every_name : (name : List ℕ) → used_in name d ≡ true → among name normal ≡ true
  every_name name e =
      let id = named names (ids_in levels s) name (ids_used levels names s d means name ∙ e) in
      ap (λ (n : List ℕ). among n normal) (sym id.2) ∙ numbered.there id.0 id.1

  rewritten_grows : length (rewritten levels ranks s) ≤ 2 * length s
  rewritten_grows =
      let same : rewritten levels ranks s ≡ value_bytes normal d = rewritten_is levels names normal ranks s d means bytes (omega arith) numbered.right in
      rw same (value_grows levels names normal s d means bytes (omega arith) (used_there normal d every_name) numbered.few)

  pub leftover_ready : {floor : ℕ} → 2 * length s ≤ floor → Leftover levels s ranks floor
  leftover_ready high =
      let grows = rewritten_grows in
      record {
        names = names;
        meant = some_there (meaning_of levels names s) means;
        few = omega arith;
        ranked = numbered.below;
        below = omega arith;
      }
