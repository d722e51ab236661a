-- Fields from a member on: the first of them, or none where the members end.
use mathlib.Core.List.{List}
use mathlib.Core.Path.{◌≡◌, refl}
use Prim.Native.Nat.{ℕ, ◌+◌, ◌≤◌, ◌<◌}
use native.Mathlib.Omega.{arith}
use Rattle.members.specs.Members.{PartThere, IdThere, member_id, member_part, From, ended, further}
use Rattle.members.specs.declared.Members.{Members}
use Rattle.paper.specs.Meaning.{Doc, Fields, no_fields, field}
use Rattle.paper.specs.Metadata.{Dictionary}
use Rattle.paper.specs.Normal.{id_of, value_bytes}

pub record FirstMember (names : Dictionary) (s : List ℕ) (m : Members) (k : ℕ) (fs : Fields) : Type 0 where
  pub name : List ℕ
  pub d : Doc
  pub more : Fields
  pub are : fs ≡ field name d more
  pub part_there : PartThere s m k
  pub id_there : IdThere s m k
  pub id_is : member_id s m k ≡ id_of names name
  pub part_is : member_part s m k ≡ value_bytes names d
  pub behind : From names s m (k + 1) more

module _ {names : Dictionary} {s : List ℕ} {m : Members} where
  pub first_member : {k : ℕ} {fs : Fields} → From names s m k fs → k < m.count → FirstMember names s m k fs
  first_member (ended all) h = absurd (omega arith)
  first_member (further part_there id_there id_is part_is behind) h =
      record {
        name = _;
        d = _;
        more = _;
        are = refl;
        part_there = part_there;
        id_there = id_there;
        id_is = id_is;
        part_is = part_is;
        behind = behind;
      }

  pub no_member : {k : ℕ} {fs : Fields} → From names s m k fs → m.count ≤ k → fs ≡ no_fields
  no_member (ended all) over = refl
  no_member (further part_there id_there id_is part_is behind) over = let below = part_there.below in absurd (omega arith)
