-- What a string or a binary means: a text, or a payload, of its bytes. Any bytes are text.
use Rattle.std.specs.Prelude.{Some}
use mathlib.Core.Bool.{Bool, true, false, cond}
use mathlib.Core.List.{List}
use mathlib.Core.Path.{◌≡◌, refl}
use Prim.Native.Nat.{ℕ}
use Rattle.paper.specs.Words.{and_then, is_there}
use Rattle.paper.specs.Meaning.{Doc, scalar, payload, text, text_meaning}
use Rattle.paper.specs.Values.{string_meaning, prefixed_meaning}

pub string_back : (s : List ℕ) → string_meaning s ≡ Some (scalar (text s))
unfolding string_meaning text_meaning and_then
string_back s = refl

pub string_is : (s : List ℕ) {d : Doc} → string_meaning s ≡ Some d → d ≡ scalar (text s)
unfolding string_meaning text_meaning and_then
string_is s e = cc

pub string_there : (s : List ℕ) → is_there (string_meaning s) ≡ true
unfolding string_meaning text_meaning and_then is_there
string_there s = refl

-- What bytes with their length in front mean.
abbrev pub prefixed_doc : (string : Bool) → (type : ℕ) → List ℕ → Doc
prefixed_doc string type s = scalar (cond string (text s) (payload type s))

pub prefixed_back : (string : Bool) (type : ℕ) (s : List ℕ) → prefixed_meaning string type s ≡ Some (prefixed_doc string type s)
unfolding prefixed_meaning
prefixed_back true type s = string_back s
prefixed_back false type s = refl

pub prefixed_is : (string : Bool) (type : ℕ) (s : List ℕ) {d : Doc} → prefixed_meaning string type s ≡ Some d → d ≡ prefixed_doc string type s
unfolding prefixed_meaning
prefixed_is true type s e = string_is s e
prefixed_is false type s e = cc

pub prefixed_there : (string : Bool) (type : ℕ) (s : List ℕ) → is_there (prefixed_meaning string type s) ≡ true
unfolding prefixed_meaning is_there
prefixed_there true type s = string_there s
prefixed_there false type s = refl
