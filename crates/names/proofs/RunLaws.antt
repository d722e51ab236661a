-- What is written one after another is read back: numbers of one width, and parts of any length by the offsets where each starts.
use mathlib.Core.Bool.{true}
use mathlib.Core.List.{List, [], ◌∷◌, ◌++◌, append_assoc}
use mathlib.Core.Path.{◌≡◌, refl, sym, ap, ◌∙◌}
use Prim.Native.Nat.{ℕ, suc, ◌+◌, ◌*◌, ◌-◌, ◌^◌, ◌≤◌, ◌<◌}
use native.Mathlib.Nat.{suc-mul, zero-mul, zero-add}
use native.Mathlib.Omega.{arith}
use borrow.Author.Tests.{ltb-true, lt-ltb, le-leb, eq-eqb}
use lib.Dec.{ltb}
use lib.ListN.{length, get_or, drop, length-append}
use lib.Seq.{take_at, drop_at, take-append_seam, drop-append_seam}
use Rattle.numbers.specs.Little.{number_bytes, number_at}
use Rattle.paper.specs.Metadata.{never_fall, cut_at, offsets_good}
use Rattle.paper.specs.Normal.{offsets_from, numbers_bytes}
use Rattle.paper.specs.Words.{part, numbers, last_of, all_below, joined}
use Rattle.runs.proofs.NumbersRunLaws.{run_step, below_at}
use Rattle.numbers.proofs.NumberLaws.{length-number_bytes, read_back}
use Rattle.paper.proofs.WordLaws.{and_both}

-- ---- numbers of one width

pub numbers_bytes-length : (width : ℕ) (ns : List ℕ) → length (numbers_bytes width ns) ≡ length ns * width
unfolding numbers_bytes
numbers_bytes-length width [] = sym (zero-mul width)
numbers_bytes-length width (n ∷ ns) =
    rw (length-append, length-number_bytes, numbers_bytes-length width ns, suc-mul) (omega arith)

-- A number is read back, whatever stands behind it.
pub number_back : (width n : ℕ) (rest : List ℕ) → n < 256 ^ width → number_at (number_bytes width n ++ rest) 0 width ≡ n
unfolding number_at
number_back width n rest h =
    rw (take_at (number_bytes width n) rest width (length-number_bytes width n)) (read_back width n h)

pub numbers_back : (width : ℕ) (ns rest : List ℕ) → 1 ≤ width → all_below (256 ^ width) ns ≡ true
    → numbers width (length ns) (numbers_bytes width ns ++ rest) ≡ ns
unfolding numbers numbers_bytes all_below
numbers_back width [] rest some all = refl
numbers_back width (n ∷ ns) rest some all =
    let both = and_both (ltb n (256 ^ width)) (all_below (256 ^ width) ns) all in
    let size : length (number_bytes width n) ≡ width = length-number_bytes width n in
    let behind : List ℕ = numbers_bytes width ns ++ rest in
    let there : 0 < length (number_bytes width n ++ behind) = rw length-append (omega arith) in
    let here : number_at (number_bytes width n ++ behind) 0 width ≡ n = number_back width n behind (ltb-true n (256 ^ width) both.0) in
    let more : drop width (number_bytes width n ++ behind) ≡ behind = drop_at (number_bytes width n) behind width size in
    let others : numbers width (length ns) behind ≡ ns = numbers_back width ns rest some both.1 in
    ap (numbers width (suc (length ns))) (append_assoc (number_bytes width n) (numbers_bytes width ns) rest)
    ∙ run_step width (length ns) (number_bytes width n ++ behind) there ∙ rw (here, more, others)

-- ---- where parts start

pub offsets_length : (start : ℕ) (parts : List (List ℕ)) → length (offsets_from start parts) ≡ suc (length parts)
unfolding offsets_from
offsets_length start [] = refl
offsets_length start (one ∷ more) = ap suc (offsets_length (start + length one) more)

pub offsets_first : (start : ℕ) (parts : List (List ℕ)) → get_or (offsets_from start parts) 0 0 ≡ start
unfolding offsets_from
offsets_first start [] = refl
offsets_first start (one ∷ more) = refl

-- The offsets of some parts begin with the start.
pub offsets_front : (start : ℕ) (parts : List (List ℕ)) → (more : List ℕ) × (offsets_from start parts ≡ start ∷ more)
unfolding offsets_from
offsets_front start [] = ([], refl)
offsets_front start (one ∷ more) = (offsets_from (start + length one) more, refl)

pub offsets_last : (start : ℕ) (parts : List (List ℕ)) → last_of (offsets_from start parts) ≡ start + length (joined parts)
unfolding offsets_from joined last_of
offsets_last start [] = sym (omega arith)
offsets_last start (one ∷ more) =
    let front = offsets_front (start + length one) more in
    let rest : last_of (offsets_from (start + length one) more) ≡ start + length one + length (joined more) = offsets_last (start + length one) more in
    ap (λ (ns : List ℕ). last_of (start ∷ ns)) front.1 ∙ sym (ap last_of front.1) ∙ rest ∙ rw length-append (omega arith)

pub offsets_fall : (start : ℕ) (parts : List (List ℕ)) → never_fall (offsets_from start parts) ≡ true
unfolding offsets_from never_fall
offsets_fall start [] = refl
offsets_fall start (one ∷ more) =
    let front = offsets_front (start + length one) more in
    let rest : never_fall ((start + length one) ∷ front.0) ≡ true = sym (ap never_fall front.1) ∙ offsets_fall (start + length one) more in
    ap (λ (ns : List ℕ). never_fall (start ∷ ns)) front.1 ∙ rw (le-leb start (start + length one) (omega arith)) rest

-- Each is below what is above the last.
pub offsets_below : (start bound : ℕ) (parts : List (List ℕ)) → start + length (joined parts) < bound
    → all_below bound (offsets_from start parts) ≡ true
unfolding offsets_from joined all_below
offsets_below start bound [] h = rw (lt-ltb start bound (omega arith))
offsets_below start bound (one ∷ more) h =
    let size : length (one ++ joined more) ≡ length one + length (joined more) = length-append one (joined more) in
    rw (lt-ltb start bound (omega arith), offsets_below (start + length one) bound more (omega arith))

pub offsets_most : (start : ℕ) (parts : List (List ℕ)) (i : ℕ) → i ≤ length parts → get_or (offsets_from start parts) i 0 ≤ start + length (joined parts)
offsets_most start parts i h =
    let bound : ℕ = suc (start + length (joined parts)) in
    let all : all_below bound (offsets_from start parts) ≡ true = offsets_below start bound parts (omega arith) in
    let size : length (offsets_from start parts) ≡ suc (length parts) = offsets_length start parts in
    let l : get_or (offsets_from start parts) i 0 < bound = below_at bound (offsets_from start parts) i all (omega arith) in
    omega arith

-- What is cut at them is the parts, past a front that none of them is in.
pub parts_back : (front : List ℕ) (parts : List (List ℕ)) → cut_at (front ++ joined parts) (offsets_from (length front) parts) ≡ parts
unfolding offsets_from joined cut_at
parts_back front [] = refl
parts_back front (one ∷ more) =
    let next = offsets_front (length front + length one) more in
    let size : length front + length one - length front ≡ length one = omega arith in
    let past : drop (length front) (front ++ (one ++ joined more)) ≡ one ++ joined more = drop-append_seam front (one ++ joined more) in
    let here : part (front ++ (one ++ joined more)) (length front) (length front + length one) ≡ one =
    rw (past, size) (take-append_seam one (joined more)) in
    let others : cut_at (front ++ (one ++ joined more)) (offsets_from (length front + length one) more) ≡ more =
    rw (← append_assoc front one (joined more), ← length-append front one) (parts_back (front ++ one) more) in
    let rest : cut_at (front ++ (one ++ joined more)) ((length front + length one) ∷ next.0) ≡ more = rw next.1 at others in
    ap (λ (ns : List ℕ). cut_at (front ++ (one ++ joined more)) (length front ∷ ns)) next.1 ∙ rw (here, rest)

pub parts_cut : (parts : List (List ℕ)) → cut_at (joined parts) (offsets_from 0 parts) ≡ parts
parts_cut parts = parts_back [] parts

-- All that offsets owe to what they cut.
pub offsets_good_lem : (parts : List (List ℕ)) → offsets_good (offsets_from 0 parts) (joined parts) ≡ true
unfolding offsets_good
offsets_good_lem parts =
    let ends : last_of (offsets_from 0 parts) ≡ length (joined parts) = offsets_last 0 parts ∙ zero-add (length (joined parts)) in
    rw (offsets_first 0 parts, offsets_fall 0 parts, eq-eqb (last_of (offsets_from 0 parts)) (length (joined parts)) ends)
