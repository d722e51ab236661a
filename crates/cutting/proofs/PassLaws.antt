-- Members passed over by their ids, and the member of a field.
use Rattle.std.specs.Prelude.{Some, None, Option}
use mathlib.Core.Bool.{Bool, true, false}
use mathlib.Core.List.{List}
use mathlib.Core.Path.{◌≡◌, refl}
use Prim.Native.Nat.{ℕ, ◌+◌, ◌≤◌, ◌<◌}
use native.Mathlib.Omega.{arith}
use borrow.Author.Tests.{lt-ltb, le-ltb, ltb-true, ltb-false}
use lib.Dec.{ltb, eqb}
use Rattle.dictionary.specs.declared.ids.InputId.{InputId}
use Rattle.members.specs.Members.{IdThere, member_id}
use Rattle.members.specs.declared.Members.{Members}
use Rattle.cutting.specs.Cutting.{Run, Passed, PassedBy, up_to, none, is_member}

-- ---- the loop over the members from one on

pub record PassSeen (s : List ℕ) (m : Members) (from bound k : ℕ) : Type 0 where
  pub behind : from ≤ k
  pub within : k ≤ m.count
  pub lower : (j : ℕ) → from ≤ j → j < k → member_id s m j < bound

module _ {s : List ℕ} {m : Members} {from : ℕ} (run : Run s m from) where
  pub pass_start : (bound : ℕ) → PassSeen s m from bound from
  pass_start bound = record { behind = omega arith; within = run.within; lower = λ j least below. absurd (omega arith) }

  module _ {bound k : ℕ} (seen : PassSeen s m from bound k) where
    pub pass_there : k < m.count → IdThere s m k
    pass_there below = run.there k seen.behind below

    pub pass_stops : (id : ℕ) → id ≡ member_id s m k → bound ≤ id → Passed s m from bound k
    pass_stops id is most =
        record { behind = seen.behind; within = seen.within; lower = seen.lower; stops = λ below. omega arith }

    pub pass_ends : m.count ≤ k → Passed s m from bound k
    pass_ends over = record { behind = seen.behind; within = seen.within; lower = seen.lower; stops = λ below. absurd (omega arith) }

    pub pass_next : k < m.count → (id : ℕ) → id ≡ member_id s m k → id < bound → PassSeen s m from bound (k + 1)
    pass_next below id is less =
        let least = seen.behind in
        record { behind = omega arith; within = omega arith; lower = λ j from_on up_to_lem. go j from_on up_to_lem (ltb j k) refl }
      where
        go : (j : ℕ) → from ≤ j → j < k + 1 → (b : Bool) → ltb j k ≡ b → member_id s m j < bound
        go j from_on up_to_lem true e = seen.lower j from_on (ltb-true j k e)
        go j from_on up_to_lem false e =
            let last = ltb-false j k e in
            let same : j ≡ k = omega arith in
            rw same (omega arith)

-- ---- by what the table tells

module _ {s : List ℕ} {m : Members} {from : ℕ} {looked told : Option InputId} (is : told ≡ looked) where
  pub passed_to : {id : InputId} → told ≡ Some id → {bound to : ℕ} → bound ≡ id.0 → Passed s m from bound to → PassedBy s m from looked to
  passed_to {id} e {bound} {to} same passed = rw (← is, e) (up_to id to (rw same at passed))

  pub passed_none : told ≡ None → PassedBy s m from looked from
  passed_none e = rw (← is, e) none

pub run_there : (s : List ℕ) (m : Members) (k : ℕ) → Run s m k → k < m.count → IdThere s m k
run_there s m k run below = run.there k (omega arith) below

module _ (s : List ℕ) (m : Members) (k : ℕ) where
  pub past_last : m.count ≤ k → (looked : Option InputId) → false ≡ is_member s m k looked
  unfolding is_member
  past_last over (Some id) = rw (le-ltb k m.count over)
  past_last over None = refl

  module _ {looked told : Option InputId} (is : told ≡ looked) where
    pub member_by_id : k < m.count → {id : InputId} → told ≡ Some id → (n : ℕ) → n ≡ member_id s m k → eqb id.0 n ≡ is_member s m k looked
    unfolding is_member
    member_by_id below e n same = rw (← is, e, lt-ltb k m.count below, same)

    pub member_of_none : told ≡ None → false ≡ is_member s m k looked
    unfolding is_member
    member_of_none e = rw (← is, e)
