-- Writing from the end of a buffer towards its front.
use Rattle.std.specs.Prelude.{List, ◌++◌, ◌≡◌, ℕ, ◌+◌, ◌≤◌, length, take, drop}
use Rattle.paper.specs.Words.{joined}
use Rattle.forms.proofs.PartLaws.{AllFilled}

-- New bytes stand so that they end at a place; all before and after keep their values.
pub record EndsAt (new before after : List ℕ) (end start : ℕ) : Type 0 where
  pub size : start + length new ≡ end
  pub bytes : after ≡ take start before ++ (new ++ drop end before)

-- Parts lie end to end from a place up to another, each as long as it says.
pub record Lies (out : List ℕ) (start end : ℕ) (parts : List (List ℕ)) : Type 0 where
  pub filled : AllFilled parts
  pub size : start + length (joined parts) ≡ end
  pub are : drop start out ≡ joined parts ++ drop end out
  pub within : end ≤ length out

-- So many parts lie there.
pub record Lying (out : List ℕ) (start end count : ℕ) : Type 0 where
  pub parts : List (List ℕ)
  pub lie : Lies out start end parts
  pub count_is : length parts ≡ count
