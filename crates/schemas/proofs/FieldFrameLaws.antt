-- A field's two frames and the order of two fields, as the judge tests them.
use mathlib.Core.Bool.{Bool, true, false}
use mathlib.Core.List.{List}
use mathlib.Core.Path.{◌≡◌, sym, ◌∙◌}
use Prim.Native.Nat.{ℕ, ◌+◌, ◌≤◌}
use native.Mathlib.Omega.{arith}
use borrow.Author.Tests.{eq-eqb, ne_eqb}
use lib.ListN.{length}
use Rattle.order.specs.Before.{before}
use Rattle.paper.specs.Words.{at}
use Rattle.paper.proofs.WordLaws.{and_both}
use Rattle.schemas.proofs.FrameLaws.{tagged_ends, tagged_tag}
use Rattle.schemas.specs.Frames.{frame_end, tagged_within}
use Rattle.schemas.specs.Positions.{field_node, field_name, field_within, follows_at}

-- ---- a field's two frames

module _ (s : List ℕ) (place end : ℕ) (first : Bool) (is : first ≡ tagged_within s place end 0x31) where
  pub field_not : first ≡ false → first ≡ field_within s place end
  unfolding field_within
  field_not e = let f : tagged_within s place end 0x31 ≡ false = sym is ∙ e in rw (e, f)

  module _ (passed : first ≡ true) where
    frame_passed : tagged_within s place end 0x31 ≡ true
    frame_passed = sym is ∙ passed

    pub field_frame : end ≤ length s → frame_end s place ≤ length s
    field_frame within = omega (arith, tagged_ends s place end 0x31 frame_passed)

    pub field_body : end ≤ length s → (to : ℕ) → to ≡ frame_end s place → to ≤ length s
    field_body within to e = omega (arith, field_frame within)

    pub field_is : (to : ℕ) → to ≡ frame_end s place → (b : Bool) → b ≡ tagged_within s (place + 3) to 0x32 → b ≡ field_within s place end
    unfolding field_within
    field_is to e b second = second ∙ rw (frame_passed, e)

-- ---- a field behind another

module _ (s : List ℕ) (last place : ℕ) where
  pub follows_first : last ≡ place → true ≡ follows_at s last place
  unfolding follows_at
  follows_first e = rw (eq-eqb last place e)

  pub follows_by : (last ≡ place → ⊥) → (a b : List ℕ) → a ≡ field_name s last → b ≡ field_name s place → (r : Bool) → r ≡ before a b
      → r ≡ follows_at s last place
  unfolding follows_at
  follows_by h a b first second r is = is ∙ rw (first, second, ne_eqb last place h)

-- What a field that passed has: its frame and tag, and in it the name's.
pub record FieldHere (s : List ℕ) (place end : ℕ) : Type 0 where
  pub frame_in : frame_end s place ≤ end
  pub tagged : at s place ≡ 0x31
  pub name_in : field_node s place ≤ frame_end s place
  pub name_tagged : at s (place + 3) ≡ 0x32

pub field_here : (s : List ℕ) (place end : ℕ) → field_within s place end ≡ true → FieldHere s place end
unfolding field_within
field_here s place end e =
    let both = and_both (tagged_within s place end 0x31) (tagged_within s (place + 3) (frame_end s place) 0x32) e in
    record {
      frame_in = tagged_ends s place end 0x31 both.0;
      tagged = tagged_tag s place end 0x31 both.0;
      name_in = tagged_ends s (place + 3) (frame_end s place) 0x32 both.1;
      name_tagged = tagged_tag s (place + 3) (frame_end s place) 0x32 both.1;
    }
