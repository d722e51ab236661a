-- Scalars put in front of a place: by the test that there is no room for them, or by what was written; and a cell by its code.
use Rattle.std.specs.Prelude.{Some, None, Option}
use mathlib.Core.Bool.{true}
use mathlib.Core.List.{List, [], ◌∷◌}
use mathlib.Core.Path.{◌≡◌, refl}
use Prim.Native.Nat.{ℕ, ◌+◌, ◌-◌, ◌*◌, ◌%◌, ◌≤◌, ◌<◌}
use native.Mathlib.Omega.{arith}
use borrow.Author.Tests.{eq-eqb, ne_eqb, le-leb, lt-leb}
use lib.ListN.{length, length-append}
use Rattle.cells.proofs.CodeLaws.{code_most}
use Rattle.numbers.proofs.NumberLaws.{length-number_bytes}
use Rattle.numbers.specs.Little.{put_at, number_bytes}
use Rattle.paper.specs.Normal.{text_bytes, prefixed_bytes}
use Rattle.paper.specs.Schemas.{column_code}
use Rattle.paper.specs.Words.{at}
use Rattle.rebuilt.specs.Rebuilt.{cell_value}
use Rattle.writing.proofs.EndLaws.{number_ends, ends_join, ends_length}
use Rattle.writing.specs.Ends.{EndsAt}
use Rattle.putting.specs.Put.{Room, PutAs, put, full}

-- One byte.
pub byte_ends : (before : List ℕ) (place byte : ℕ) {after : List ℕ} {end : ℕ} → byte < 256 → after ≡ put_at before place (number_bytes 1 byte)
    → place + 1 ≡ end → EndsAt (byte ∷ []) before after end place
unfolding number_bytes
byte_ends before place byte small is size =
    let same : byte % 256 ≡ byte = omega arith in
    rw same at (number_ends before place 1 byte is size)

prefixed_size : (code : ℕ) (s : List ℕ) → length (prefixed_bytes code s) ≡ 5 + length s
unfolding prefixed_bytes
prefixed_size code s = rw (length-append, length-number_bytes) (omega arith)

module _ {before : List ℕ} {floor end : ℕ} (room : Room before floor end) where
  no_room : (bytes : List ℕ) (size : ℕ) {after : List ℕ} → length bytes ≡ size → end - floor < size → PutAs bytes before after floor end None
  no_room bytes size long short =
      let above = room.above in
      full (omega arith)

  pub one_full : (byte : ℕ) {after : List ℕ} → end - floor < 1 → PutAs (byte ∷ []) before after floor end None
  one_full byte short = no_room (byte ∷ []) 1 refl short

  pub headed_full : (first : ℕ) (s : List ℕ) {after : List ℕ} → end - floor < 1 + length s → PutAs (first ∷ s) before after floor end None
  headed_full first s short = no_room (first ∷ s) (1 + length s) (omega arith) short

  pub prefixed_full : (code : ℕ) (s : List ℕ) {after : List ℕ} → end - floor < 5 + length s → PutAs (prefixed_bytes code s) before after floor end None
  prefixed_full code s short = no_room (prefixed_bytes code s) (5 + length s) (prefixed_size code s) short

  pub put_one : (byte : ℕ) {after : List ℕ} → byte < 256 → 1 ≤ end - floor → after ≡ put_at before (end - 1) (number_bytes 1 byte)
      → PutAs (byte ∷ []) before after floor end (Some (end - 1))
  put_one byte small fits is =
      let above = room.above in
      put (end - 1) (omega arith) (byte_ends before (end - 1) byte small is (omega arith))

  -- ---- a first byte in front of bytes that are there

  module _ (s : List ℕ) {middle : List ℕ} {body : ℕ} (copied : EndsAt s before middle end body) where
    pub body_above : (size : ℕ) → size + length s ≤ end - floor → floor + size ≤ body
    body_above size fits =
        let above = room.above in
        let long = copied.size in
        omega arith

    pub body_within : body ≤ length middle
    body_within =
        let long = copied.size in
        let within = room.within in
        rw (ends_length copied within) (omega arith)

    pub put_headed : (first : ℕ) {after : List ℕ} → first < 256 → 1 + length s ≤ end - floor → after ≡ put_at middle (body - 1) (number_bytes 1 first)
        → PutAs (first ∷ s) before after floor end (Some (body - 1))
    put_headed first small fits is =
        let least = body_above 1 fits in
        let one = byte_ends middle (body - 1) first {end = body} small is (omega arith) in
        put (body - 1) (omega arith) (ends_join copied room.within one)

    pub put_prefixed : (code : ℕ) {counted after : List ℕ} → code < 64 → 5 + length s ≤ end - floor
        → counted ≡ put_at middle (body - 4) (number_bytes 4 (length s)) → after ≡ put_at counted (body - 4 - 1) (number_bytes 1 (4 * code))
        → PutAs (prefixed_bytes code s) before after floor end (Some (body - 4 - 1))
    unfolding prefixed_bytes
    put_prefixed code {counted} small fits count_is is =
        let least = body_above 5 fits in
        let count = number_ends middle (body - 4) 4 (length s) {end = body} count_is (omega arith) in
        let long = ends_join copied room.within count in
        let one = byte_ends counted (body - 4 - 1) (4 * code) {end = body - 4} (omega arith) is (omega arith) in
        put (body - 4 - 1) (omega arith) (ends_join long room.within one)

-- ---- strings

module _ (s : List ℕ) {before after : List ℕ} {floor end : ℕ} {r : Option ℕ} where
  pub text_short : length s ≤ 63 → PutAs ((4 * length s + 1) ∷ s) before after floor end r → PutAs (text_bytes s) before after floor end r
  unfolding text_bytes
  text_short few done = rw (le-leb (length s) 63 few) done

  pub text_long : 63 < length s → PutAs (prefixed_bytes 16 s) before after floor end r → PutAs (text_bytes s) before after floor end r
  unfolding text_bytes
  text_long many done = rw (lt-leb (length s) 63 many) done

-- ---- a cell by its code

pub first_small : (code wide : ℕ) → column_code code ≡ true → wide ≡ code → 4 * wide < 256
first_small code wide known is = let most = code_most code known in omega arith

module _ (code : ℕ) (s : List ℕ) {before after : List ℕ} {floor end : ℕ} {r : Option ℕ} where
  pub cell_true : code ≡ 1 → at s 0 ≡ 1 → PutAs (4 ∷ []) before after floor end r → PutAs (cell_value code s) before after floor end r
  unfolding cell_value
  cell_true e one done = rw (e, eq-eqb (at s 0) 1 one) done

  pub cell_false : code ≡ 1 → (at s 0 ≡ 1 → ⊥) → PutAs (8 ∷ []) before after floor end r → PutAs (cell_value code s) before after floor end r
  unfolding cell_value
  cell_false e other done = rw (e, ne_eqb (at s 0) 1 other) done

  pub cell_text : code ≡ 16 → PutAs (text_bytes s) before after floor end r → PutAs (cell_value code s) before after floor end r
  unfolding cell_value
  cell_text e done = rw e done

  pub cell_binary : code ≡ 15 → PutAs (prefixed_bytes 15 s) before after floor end r → PutAs (cell_value code s) before after floor end r
  unfolding cell_value
  cell_binary e done = rw e done

  pub cell_plain : (code ≡ 1 → ⊥) → (code ≡ 16 → ⊥) → (code ≡ 15 → ⊥) → (wide : ℕ) → wide ≡ code → PutAs ((4 * wide) ∷ s) before after floor end r
      → PutAs (cell_value code s) before after floor end r
  unfolding cell_value
  cell_plain no-boolean no_text no-binary wide is done = rw (ne_eqb code 1 no-boolean, ne_eqb code 16 no_text, ne_eqb code 15 no-binary, ← is) done
