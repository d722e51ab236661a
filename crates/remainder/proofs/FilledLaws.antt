-- What the writer of an object asks of the members that are left: each says how long it is, and each id is its own normal one.
use mathlib.Core.Bool.{true, ◌&&◌}
use mathlib.Core.List.{List, [], ◌∷◌, append-nil}
use mathlib.Core.Path.{◌≡◌, refl}
use Prim.Native.Nat.{ℕ, ◌+◌, ◌^◌, ◌≤◌, ◌<◌}
use native.Mathlib.Omega.{arith}
use borrow.Author.Tests.{ltb-true}
use lib.Dec.{ltb}
use lib.ListN.{length, get_or, length-take, length-drop}
use Rattle.forms.proofs.BackLaws.{value_extent}
use Rattle.forms.proofs.PartLaws.{AllFilled}
use Rattle.forms.specs.WellFormed.{all_members, well_formed, names_there, field_names_there}
use Rattle.members.specs.Members.{start_at, member_part, From, ended, further}
use Rattle.members.specs.declared.Members.{Members}
use Rattle.paper.proofs.WordLaws.{and_both}
use Rattle.paper.specs.Limits.{most_value}
use Rattle.paper.specs.Meaning.{Fields}
use Rattle.paper.specs.Metadata.{Dictionary}
use Rattle.paper.specs.Normal.{value_bytes, member_bytes}
use Rattle.paper.specs.Words.{among, part, all_below}
use Rattle.writing.specs.Rewritten.{ranks_at}

part_short : (s : List ℕ) (from to : ℕ) → length (part s from to) ≤ length s
part_short s from to = rw (length-take, length-drop) (omega arith)

member_short : (s : List ℕ) (m : Members) (k : ℕ) (bytes : List ℕ) → member_part s m k ≡ bytes → length bytes ≤ length s
member_short s m k bytes is = rw (← is) (part_short s (m.area + start_at s m k) (m.area + start_at s m (k + 1)))

module _ (names : Dictionary) (few : length names ≤ 2 ^ 32) (depth : ℕ) {s : List ℕ} {m : Members} (short : length s ≤ most_value) where
  pub members_filled : {k : ℕ} {fs : Fields} → From names s m k fs → all_members (well_formed depth) fs ≡ true → field_names_there names fs ≡ true → AllFilled (member_bytes names fs)
  unfolding member_bytes AllFilled all_members field_names_there
  members_filled (ended all) good there = tt
  members_filled (further {k = k} {name = name} {d = d} {fs = fs} part_there id_there id_is part_is behind) good there =
      let goods = and_both (well_formed depth d) (all_members (well_formed depth) fs) good in
      let own = and_both (among name names) (names_there names d && field_names_there names fs) there in
      let inside = and_both (names_there names d) (field_names_there names fs) own.1 in
      let size : length (value_bytes names d) ≤ length s = member_short s m k (value_bytes names d) part_is in
      let says = value_extent names few depth d goods.0 inside.0 (omega arith) [] in
      (rw append-nil at says, members_filled behind goods.1 inside.1)

-- Ids that are their own normal ids.
pub ranks_own : (ranks : List ℕ) (count : ℕ) → ((id : ℕ) → id < count → get_or ranks id 0 ≡ id) → (ids : List ℕ) → all_below count ids ≡ true → ranks_at ranks ids ≡ ids
unfolding ranks_at all_below
ranks_own ranks count own [] below = refl
ranks_own ranks count own (id ∷ ids) below =
    let both = and_both (ltb id count) (all_below count ids) below in
    rw (own id (ltb-true id count both.0), ranks_own ranks count own ids both.1)
