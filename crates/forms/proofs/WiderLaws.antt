-- A container that is written, against one that was read: its head is at most twice as long where ids and offsets take two
-- bytes at most, and its parts come to at most twice the area.
use Rattle.std.specs.Prelude.{Option, None, Some}
use mathlib.Core.Bool.{Bool, true, false, cond}
use mathlib.Core.List.{List, [], ◌∷◌}
use mathlib.Core.Path.{◌≡◌, refl, sym, ap, ◌∙◌}
use Prim.Native.Nat.{ℕ, zero, suc, ◌+◌, ◌*◌, ◌^◌, ◌≤◌, ◌<◌}
use native.Mathlib.Nat.{mul-le-mul}
use native.Mathlib.Omega.{arith}
use borrow.Author.Tests.{leb-false}
use lib.Dec.{leb}
use lib.ListN.{length, drop, length-append, length-drop}
use Rattle.forms.specs.WellFormed.{names_there, all_names_there, field_names_there}
use Rattle.numbers.specs.Little.{number_at}
use Rattle.paper.specs.FirstBytes.{count_size}
use Rattle.paper.specs.Meaning.{Doc, Docs, no_docs, doc, Fields, no_fields, field}
use Rattle.paper.specs.Metadata.{Dictionary}
use Rattle.paper.specs.Normal.{large_bit, value_bytes, element_bytes, member_bytes}
use Rattle.paper.specs.Values.{child_extent, head_size_of, area_of, starts_of, child_bytes, element_docs, member_docs}
use Rattle.paper.specs.declared.Child.{Child}
use Rattle.paper.specs.Words.{is_there, among, joined}
use Rattle.containers.specs.Children.{sizes}
use Rattle.forms.proofs.ContainerLaws.{count_of, width_of}
use Rattle.forms.proofs.LieLaws.{Bytes, bytes_drop, child_length, child_bytes_lem, Lie, lie_count, lie_sizes, numbers_few}
use Rattle.heads.proofs.HeadLaws.{Spans}
use Rattle.names.proofs.NeverLongerLaws.{number_at-below}
use Rattle.numbers.proofs.WidthLaws.{smallest_least}
use Rattle.paper.proofs.WordLaws.{never, then_some, and_both, some_there}
use Rattle.containers.proofs.ChildLaws.{AllSized, extent_fits}
use Rattle.std.proofs.lemmas.Option.{same_Some}

-- ---- heads

-- A count that was read from so many bytes takes at most twice as many.
count_grows : (p n c : ℕ) → p ≤ n → n < 256 ^ c → 1 ≤ c → count_size (large_bit p) ≤ 2 * c
unfolding count_size large_bit
count_grows p n c few held least = go (leb p 255) refl c held least
  where
    go : (b : Bool) → leb p 255 ≡ b → (c : ℕ) → n < 256 ^ c → 1 ≤ c → 1 + 3 * cond b 0 1 ≤ 2 * c
    go true e c h l = omega arith
    go false e zero h l = absurd (omega arith)
    go false e (suc zero) h l = let many : 255 < p = leb-false p 255 e in absurd (omega arith)
    go false e (suc (suc c)) h l = omega arith

head_grows : (p n c' c i' i w' w : ℕ) → p ≤ n → c' ≤ 2 * c → i' ≤ 2 * i → w' ≤ 2 * w → head_size_of p c' i' w' ≤ 2 * head_size_of n c i w
unfolding head_size_of
head_grows p n c' c i' i w' w few count id width =
    let ids : p * i' ≤ n * (2 * i) = mul-le-mul few id in
    let more : p + 1 ≤ n + 1 = omega arith in
    let offsets : (p + 1) * w' ≤ (n + 1) * (2 * w) = mul-le-mul more width in
    omega arith

-- ---- the insides of a container

-- The most bytes of a value whose children, twice as long, are counted by two bytes: a container's head takes three or more.
abbrev pub most_read : ℕ
most_read = 32770

-- What is written of what so many bytes at most mean is at most twice as long.
abbrev pub Grows : Dictionary → (List ℕ → Option Doc) → Type 0
Grows used decode =
    (s : List ℕ) (d : Doc) → Bytes s → length s ≤ most_read
    → decode s ≡ Some d → names_there used d ≡ true → length (value_bytes used d) ≤ 2 * length s

module _ (used : Dictionary) (decode : List ℕ → Option Doc)
    (each : Grows used decode)
    (area : List ℕ) (bytes : Bytes area) (short : length area ≤ most_read) where
  child_grows : (child : Child) (d : Doc) → child_extent area child.start ≡ Some child.size → decode (child_bytes area child) ≡ Some d
      → names_there used d ≡ true → length (value_bytes used d) ≤ 2 * child.size
  child_grows child d sized e there =
      let size : length (child_bytes area child) ≡ child.size = child_length area child sized in
      let end : child.start + child.size ≤ length area = (extent_fits area child.start child.size sized).1 in
      let grown = each (child_bytes area child) d (child_bytes_lem area child bytes) (omega arith) e there in
      omega arith

  pub elements_grow : (children : List Child) (ds : Docs) → AllSized area children → element_docs decode area children ≡ Some ds
      → all_names_there used ds ≡ true
      → (length (element_bytes used ds) ≤ length children) × (length (joined (element_bytes used ds)) ≤ 2 * sizes children)
  unfolding element_docs all_names_there element_bytes joined AllSized sizes
  elements_grow [] ds sized e there = rw (← same_Some no_docs ds e) (omega arith, omega arith)
  elements_grow (child ∷ more) ds sized e there =
      let first = then_some (decode (child_bytes area child)) _ e in
      let rest = then_some (element_docs decode area more) _ first.2 in
      let same : doc first.0 rest.0 ≡ ds = same_Some (doc first.0 rest.0) ds rest.2 in
      let found = and_both (names_there used first.0) (all_names_there used rest.0) (ap (all_names_there used) same ∙ there) in
      let one = child_grows child first.0 sized.0 first.1 found.0 in
      let others = elements_grow more rest.0 sized.1 rest.1 found.1 in
      rw (← same, length-append) (omega arith, omega arith)

  pub members_grow : (names : List (List ℕ)) (children : List Child) (fs : Fields) → AllSized area children
      → member_docs decode area names children ≡ Some fs
      → field_names_there used fs ≡ true
      → (length (member_bytes used fs) ≤ length children) × (length (joined (member_bytes used fs)) ≤ 2 * sizes children)
  unfolding member_docs field_names_there member_bytes joined AllSized sizes is_there
  members_grow [] children fs sized e there = rw (← same_Some no_fields fs e) (omega arith, omega arith)
  members_grow (name ∷ names) [] fs sized e there = never (sym (some_there None e))
  members_grow (name ∷ names) (child ∷ more) fs sized e there =
      let first = then_some (decode (child_bytes area child)) _ e in
      let rest = then_some (member_docs decode area names more) _ first.2 in
      let same : field name first.0 rest.0 ≡ fs = same_Some (field name first.0 rest.0) fs rest.2 in
      let own = and_both (among name used) _ (ap (field_names_there used) same ∙ there) in
      let found = and_both (names_there used first.0) (field_names_there used rest.0) own.1 in
      let one = child_grows child first.0 sized.0 first.1 found.0 in
      let others = members_grow names more rest.0 sized.1 rest.1 found.1 in
      rw (← same, length-append) (omega arith, omega arith)

-- ---- a container

module _ (s : List ℕ) (bytes : Bytes s) (short : length s ≤ most_read) (c i w : ℕ) (spans : Spans s c i w (length s)) (counted : 1 ≤ c) (wide : 1 ≤ w)
  where
    area_rest : head_size_of (number_at s 1 c) c i w + length (area_of c i w s) ≡ length s
    unfolding area_of
    area_rest = let head = spans.head_there in rw length-drop (omega arith)

    pub area_bytes : Bytes (area_of c i w s)
    unfolding area_of
    area_bytes = bytes_drop (head_size_of (number_at s 1 c) c i w) s bytes

    pub area_short : length (area_of c i w s) ≤ most_read
    area_short = let all = area_rest in omega arith

    children_few : (children : List Child) → Lie (area_of c i w s) (starts_of c i w s) children → length children ≤ number_at s 1 c
    unfolding starts_of
    children_few children lie = rw (lie_count lie) (numbers_few w (number_at s 1 c) (drop (1 + c + number_at s 1 c * i) s))

    -- Parts no more than its children, and at most twice as long, in ids of at most twice as many bytes.
    pub container_grows : (children : List Child) → Lie (area_of c i w s) (starts_of c i w s) children → (parts : List (List ℕ)) (i' : ℕ)
        → (length parts ≤ length children) × (length (joined parts) ≤ 2 * sizes children) → i' ≤ 2 * i
        → head_size_of (length parts) (count_of parts) i' (width_of parts) + length (joined parts) ≤ 2 * length s
    unfolding head_size_of
    container_grows children lie parts i' grown id =
        let all = area_rest in
        let some-offset : 1 ≤ number_at s 1 c + 1 = omega arith in
        let offsets : 1 * 1 ≤ (number_at s 1 c + 1) * w = mul-le-mul some-offset wide in
        let many = children_few children lie in
        let sum = lie_sizes lie in
        let few : length parts ≤ number_at s 1 c = omega arith in
        let double : length (joined parts) ≤ 2 * length (area_of c i w s) = omega arith in
        let count : count_of parts ≤ 2 * c = count_grows (length parts) (number_at s 1 c) c few (number_at-below s 1 c bytes) counted in
        let narrow : width_of parts ≤ 2 = smallest_least (length (joined parts)) 2 (omega arith) (omega arith) in
        let width : width_of parts ≤ 2 * w = omega arith in
        let head = head_grows (length parts) (number_at s 1 c) (count_of parts) c i' i (width_of parts) w few count id width in
        omega arith
