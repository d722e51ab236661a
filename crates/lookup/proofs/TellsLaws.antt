-- What an answer tells of a name: whether the name is among the names, and of an id that it has the name.
use Rattle.std.specs.Prelude.{Option, Some, None}
use mathlib.Core.Bool.{true, false}
use mathlib.Core.List.{List, []}
use mathlib.Core.Path.{◌≡◌}
use Prim.Native.Nat.{ℕ, ◌<◌}
use native.Mathlib.Omega.{arith}
use lib.ListN.{length, get_or}
use Rattle.dictionary.specs.declared.ids.InputId.{InputId}
use Rattle.lookup.specs.Looking.{Tells, found, missing}
use Rattle.names.proofs.SameLaws.{among_at}
use Rattle.paper.specs.Metadata.{Dictionary}
use Rattle.paper.specs.Words.{among}

-- Two answers that differ prove anything.
other : {A : Type 0} → ◌≡◌ {A = ℕ} 0 1 → A
other e = absurd (omega arith)

module _ {names : Dictionary} {name : List ℕ} {looked : Option InputId} (tells : Tells names name looked) where
  pub tells_id : {id : InputId} → looked ≡ Some id → (id.0 < length names) × (get_or names id.0 [] ≡ name)
  tells_id {id} e = go tells e
    where
      go : {answer : Option InputId} → Tells names name answer → answer ≡ Some id → (id.0 < length names) × (get_or names id.0 [] ≡ name)
      go (found told within is) f = let same : told ≡ id = cc in rw (← same) (within, is)
      go (missing none_has) f = other cc

  pub tells_among : {id : InputId} → looked ≡ Some id → among name names ≡ true
  tells_among {id} e = let has = tells_id e in rw has.1 at (among_at names id.0 has.0)

  pub tells_missing : looked ≡ None → among name names ≡ false
  tells_missing e = go tells e
    where
      go : {answer : Option InputId} → Tells names name answer → answer ≡ None → among name names ≡ false
      go (found told within is) f = other cc
      go (missing none_has) f = none_has
