-- A cell alone: how long it is as a value, what is written of it, and what is answered.
use Rattle.std.specs.Prelude.{Some, Ok}
use mathlib.Core.Bool.{true}
use mathlib.Core.List.{List, [], ◌∷◌, ◌++◌}
use mathlib.Core.Path.{◌≡◌, refl, sym, ap, subst, ◌∙◌}
use Prim.Native.Nat.{ℕ, ◌+◌, ◌*◌, ◌%◌, ◌≤◌, ◌<◌}
use native.Mathlib.Omega.{arith}
use borrow.Author.Tests.{eq-eqb, ne_eqb, le-leb, lt-leb}
use lib.ListN.{length, length-append}
use Rattle.cells.proofs.CodeLaws.{code_most}
use Rattle.normalise.proofs.AnswerLaws.{lengths_same, handed_done}
use Rattle.normalise.specs.Answered.{Answered}
use Rattle.numbers.proofs.NumberLaws.{length-number_bytes}
use Rattle.numbers.proofs.PutLaws.{put_run}
use Rattle.numbers.specs.Little.{put_at, number_bytes, smallest_width, width_within}
use Rattle.paper.specs.Cells.{cell_meaning}
use Rattle.paper.specs.Limits.{most_value}
use Rattle.paper.specs.Meaning.{Scalar, Doc, scalar, null}
use Rattle.paper.specs.Normal.{add_names, names_used, numbers_bytes, offsets_from, metadata_width, metadata_bytes, text_bytes, prefixed_bytes, value_bytes, normal_form}
use Rattle.paper.specs.Operations.{written, lengths_of}
use Rattle.paper.specs.Schemas.{column_code}
use Rattle.paper.specs.Words.{at, joined}
use Rattle.rebuilt.proofs.CellLaws.{cell_is}
use Rattle.rebuilt.specs.Rebuilt.{cell_value}

-- ---- how long a cell is as a value

prefixed_size : (code : ℕ) (s : List ℕ) → length (prefixed_bytes code s) ≡ 5 + length s
unfolding prefixed_bytes
prefixed_size code s = rw (length-append, length-number_bytes) (omega arith)

module _ (code : ℕ) (s : List ℕ) where
  pub boolean_size : code ≡ 1 → 1 ≡ length (cell_value code s)
  unfolding cell_value
  boolean_size e = rw e

  pub short_size : code ≡ 16 → length s ≤ 63 → 1 + length s ≡ length (cell_value code s)
  unfolding cell_value text_bytes
  short_size e few = rw (e, le-leb (length s) 63 few) (omega arith)

  pub long_size : code ≡ 16 → 63 < length s → 5 + length s ≡ length (cell_value code s)
  unfolding cell_value text_bytes
  long_size e many = rw (e, lt-leb (length s) 63 many) (sym (prefixed_size 16 s))

  pub binary_size : code ≡ 15 → 5 + length s ≡ length (cell_value code s)
  unfolding cell_value
  binary_size e = rw e (sym (prefixed_size 15 s))

  pub plain_size : (code ≡ 1 → ⊥) → (code ≡ 16 → ⊥) → (code ≡ 15 → ⊥) → 1 + length s ≡ length (cell_value code s)
  unfolding cell_value
  plain_size no_boolean no_text no_binary = rw (ne_eqb code 1 no_boolean, ne_eqb code 16 no_text, ne_eqb code 15 no_binary) (omega arith)

-- Where the value has room, so have its parts.
module _ (code : ℕ) (s : List ℕ) {room : ℕ} (fits : length (cell_value code s) ≤ room) where
  pub boolean_fits : code ≡ 1 → 0 + 1 ≤ room
  boolean_fits e = let size = boolean_size code s e in omega arith

  pub short_fits : code ≡ 16 → length s ≤ 63 → 1 + length s ≤ room
  short_fits e few = let size = short_size code s e few in omega arith

  pub long_fits : code ≡ 16 → 63 < length s → 5 + length s ≤ room
  long_fits e many = let size = long_size code s e many in omega arith

  pub binary_fits : code ≡ 15 → 5 + length s ≤ room
  binary_fits e = let size = binary_size code s e in omega arith

  pub plain_fits : (code ≡ 1 → ⊥) → (code ≡ 16 → ⊥) → (code ≡ 15 → ⊥) → 1 + length s ≤ room
  plain_fits no_boolean no_text no_binary = let size = plain_size code s no_boolean no_text no_binary in omega arith

-- ---- what is written: one run behind another

one_byte : (byte : ℕ) → byte < 256 → number_bytes 1 byte ≡ byte ∷ []
unfolding number_bytes
one_byte byte small = let same : byte % 256 ≡ byte = omega arith in rw same

pub put_headed : (first : ℕ) (s before : List ℕ) {middle after : List ℕ} → first < 256 → 1 + length s ≤ length before
    → middle ≡ put_at before 0 (number_bytes 1 first) → after ≡ put_at middle 1 s → after ≡ put_at before 0 (first ∷ s)
put_headed first s before small room head body =
    let one : put_at before 0 (number_bytes 1 first) ≡ put_at before 0 (first ∷ []) = ap (put_at before 0) (one_byte first small) in
    body ∙ rw (head, one) (put_run before 0 (first ∷ []) s (omega arith))

pub put_prefixed : (code : ℕ) (s before : List ℕ) {headed counted after : List ℕ} → code < 64 → 5 + length s ≤ length before
    → headed ≡ put_at before 0 (number_bytes 1 (4 * code)) → counted ≡ put_at headed 1 (number_bytes 4 (length s)) → after ≡ put_at counted 5 s
    → after ≡ put_at before 0 (prefixed_bytes code s)
unfolding prefixed_bytes
put_prefixed code s before small room head count body =
    let one : put_at before 0 (number_bytes 1 (4 * code)) ≡ put_at before 0 ((4 * code) ∷ []) = ap (put_at before 0) (one_byte (4 * code) (omega arith)) in
    let size : length (number_bytes 4 (length s)) ≡ 4 = length-number_bytes 4 (length s) in
    let two : put_at (put_at before 0 ((4 * code) ∷ [])) 1 (number_bytes 4 (length s)) ≡ put_at before 0 ((4 * code) ∷ number_bytes 4 (length s)) =
    put_run before 0 ((4 * code) ∷ []) (number_bytes 4 (length s)) (omega arith) in
    let five : 0 + length ((4 * code) ∷ number_bytes 4 (length s)) ≡ 5 = omega arith in
    let three : put_at (put_at before 0 ((4 * code) ∷ number_bytes 4 (length s))) 5 s ≡ put_at before 0 ((4 * code) ∷ number_bytes 4 (length s) ++ s) =
    subst (λ (k : ℕ). put_at (put_at before 0 ((4 * code) ∷ number_bytes 4 (length s))) k s ≡ put_at before 0 ((4 * code) ∷ number_bytes 4 (length s) ++ s)) five
    (put_run before 0 ((4 * code) ∷ number_bytes 4 (length s)) s (omega arith)) in
    body ∙ rw (count, head, one, two) three

pub first_small : (code wide : ℕ) → column_code code ≡ true → wide ≡ code → 4 * wide < 256
first_small code wide known is = let most = code_most code known in omega arith

module _ (code : ℕ) (s : List ℕ) (before : List ℕ) {after : List ℕ} where
  pub wrote_true : code ≡ 1 → at s 0 ≡ 1 → after ≡ put_at before 0 (number_bytes 1 4) → after ≡ put_at before 0 (cell_value code s)
  unfolding cell_value
  wrote_true e one done = rw (e, eq-eqb (at s 0) 1 one) (done ∙ ap (put_at before 0) (one_byte 4 (omega arith)))

  pub wrote_false : code ≡ 1 → (at s 0 ≡ 1 → ⊥) → after ≡ put_at before 0 (number_bytes 1 8) → after ≡ put_at before 0 (cell_value code s)
  unfolding cell_value
  wrote_false e other done = rw (e, ne_eqb (at s 0) 1 other) (done ∙ ap (put_at before 0) (one_byte 8 (omega arith)))

  pub wrote_short : code ≡ 16 → length s ≤ 63 → after ≡ put_at before 0 ((4 * length s + 1) ∷ s) → after ≡ put_at before 0 (cell_value code s)
  unfolding cell_value text_bytes
  wrote_short e few done = rw (e, le-leb (length s) 63 few) done

  pub wrote_long : code ≡ 16 → 63 < length s → after ≡ put_at before 0 (prefixed_bytes 16 s) → after ≡ put_at before 0 (cell_value code s)
  unfolding cell_value text_bytes
  wrote_long e many done = rw (e, lt-leb (length s) 63 many) done

  pub wrote_binary : code ≡ 15 → after ≡ put_at before 0 (prefixed_bytes 15 s) → after ≡ put_at before 0 (cell_value code s)
  unfolding cell_value
  wrote_binary e done = rw e done

  pub wrote_plain : (code ≡ 1 → ⊥) → (code ≡ 16 → ⊥) → (code ≡ 15 → ⊥) → (wide : ℕ) → wide ≡ code → after ≡ put_at before 0 ((4 * wide) ∷ s)
      → after ≡ put_at before 0 (cell_value code s)
  unfolding cell_value
  wrote_plain no_boolean no_text no_binary wide is done = rw (ne_eqb code 1 no_boolean, ne_eqb code 16 no_text, ne_eqb code 15 no_binary, ← is) done

-- ---- metadata without names

no_names_lem : number_bytes 3 17 ≡ metadata_bytes []
unfolding number_bytes metadata_bytes metadata_width smallest_width width_within numbers_bytes offsets_from joined
no_names_lem = refl

three : 3 ≡ length (metadata_bytes [])
unfolding number_bytes
three = ap length no_names_lem

-- ---- a document that uses no names: how long it is, and that it is written

module _ (d : Doc) (none_used : [] ≡ names_used d) (value : List ℕ) (is : value ≡ (normal_form d).value) (size : ℕ) (long : size ≡ length value) where
  lone_needed : lengths_of (normal_form d) ≡ record { metadata = 3; value = size }
  lone_needed = lengths_same d [] none_used value is (record { metadata = 3; value = size }) three long

  lone_done : {first first' second second' : List ℕ} → (size ≤ most_value) × (3 ≤ length first) × (size ≤ length second)
      → first' ≡ put_at first 0 (number_bytes 3 17) → second' ≡ put_at second 0 value
      → Answered (written d) first first' second second' (Ok (record { metadata = 3; value = size }))
  lone_done {first} room named valued =
      handed_done d [] none_used value is (record { metadata = 3; value = size }) three long room (named ∙ ap (put_at first 0) no_names_lem) valued

-- ---- of a cell

module _ (code : ℕ) (s : List ℕ) (size : ℕ) (long : size ≡ length (cell_value code s)) (value : Scalar) (means : cell_meaning (record { code = code }) s ≡ Some value) where
  cell_value_lem : cell_value code s ≡ (normal_form (scalar value)).value
  unfolding normal_form value_bytes
  cell_value_lem = cell_is code s means

  cell_names : [] ≡ names_used (scalar value)
  unfolding names_used add_names
  cell_names = refl

  pub cell_needed : lengths_of (normal_form (scalar value)) ≡ record { metadata = 3; value = size }
  cell_needed = lone_needed (scalar value) cell_names _ cell_value_lem size long

  pub cell_done : {first first' second second' : List ℕ} → (size ≤ most_value) × (3 ≤ length first) × (size ≤ length second)
      → first' ≡ put_at first 0 (number_bytes 3 17) → second' ≡ put_at second 0 (cell_value code s)
      → Answered (written (scalar value)) first first' second second' (Ok (record { metadata = 3; value = size }))
  cell_done room named valued = lone_done (scalar value) cell_names _ cell_value_lem size long room named valued

-- ---- of a null

null_names : [] ≡ names_used null
unfolding names_used add_names
null_names = refl

null_value : number_bytes 1 0 ≡ (normal_form null).value
unfolding normal_form value_bytes number_bytes
null_value = refl

null_size : 1 ≡ length (number_bytes 1 0)
null_size = sym (length-number_bytes 1 0)

pub null_needed : lengths_of (normal_form null) ≡ record { metadata = 3; value = 1 }
null_needed = lone_needed null null_names _ null_value 1 null_size

pub null_done : {first first' second second' : List ℕ} → (1 ≤ most_value) × (3 ≤ length first) × (1 ≤ length second)
    → first' ≡ put_at first 0 (number_bytes 3 17) → second' ≡ put_at second 0 (number_bytes 1 0)
    → Answered (written null) first first' second second' (Ok (record { metadata = 3; value = 1 }))
null_done room named valued = lone_done null null_names _ null_value 1 null_size room named valued
