-- A lawful document whose names are numbered: what its value's writing asks, and what then stands in the room.
use Rattle.paper.specs.Refusals.{DocumentAnswer}
use Rattle.std.specs.Prelude.{Some}
use Rattle.dictionary.specs.Lent.{LentNames, Lent as Opens}
use Rattle.dictionary.proofs.LentLaws.{lent_dictionary, lent_size}
use Rattle.names.proofs.NeverLongerLaws.{read_length}
use mathlib.Core.Bool.{true}
use mathlib.Core.List.{List, [], ◌++◌, append-nil}
use mathlib.Core.Path.{◌≡◌, sym, ap, ◌∙◌}
use Prim.Native.Nat.{ℕ, ◌+◌, ◌-◌, ◌*◌, ◌≤◌, ◌<◌}
use native.Mathlib.Nat.{mul-le-mul, mul-one}
use native.Mathlib.Omega.{arith}
use lib.ListN.{length, get_or, take, drop, replicate, length-take, length-map, drop_of_length-le}
use lib.Seq.{drop_at, take_all}
use Rattle.marking.specs.Ids.{ids_in, mark_ids}
use Rattle.marking.specs.Marking.{Markable}
use Rattle.naming.specs.Chosen.{chosen_names, Chosen}
use Rattle.normalise.specs.Answered.{Lent, Numbered, Answered}
use Rattle.paper.specs.Bounds.{most_names, most_walked}
use Rattle.paper.specs.Limits.{most_levels, most_metadata}
use Rattle.paper.specs.Meaning.{Doc}
use Rattle.paper.specs.Metadata.{Dictionary, offset_size}
use Rattle.paper.specs.Normal.{names_used, value_bytes, normal_form}
use Rattle.paper.specs.Operations.{written}
use Rattle.paper.specs.Values.{meaning_of, names_at}
use Rattle.paper.specs.Words.{at, among, all_below, joined}
use Rattle.ranking.specs.Ranks.{Ranked}
use Rattle.writing.specs.Ends.{EndsAt}
use Rattle.writing.specs.Written.{Right, Ready, Wrote}
use Rattle.forms.proofs.GrowthLaws.{value_grows}
use Rattle.forms.proofs.NamesLaws.{normal-names_there}
use Rattle.marking.proofs.UsedIdLaws.{ids_below_lem, ids_used}
use Rattle.names.proofs.ContainedLaws.{contained_length}
use Rattle.names.proofs.SameLaws.{among_at}
use Rattle.paper.proofs.WordLaws.{there_some}
use Rattle.ranking.proofs.ChosenLaws.{chosen_used, ranks_right}
use Rattle.ranking.proofs.HeldLaws.{named, below_held}
use Rattle.containers.proofs.WalkLaws.{below_more}
use Rattle.std.proofs.lemmas.Option.{same_Some}

-- ---- a numbered document is ready to be written

few_names : {dictionary : LentNames} {v ranks chosen : List ℕ} (n : Numbered dictionary v ranks chosen) → length (names_used n.d) ≤ most_names
unfolding names_at
few_names {dictionary} {v} {ranks} {chosen} n =
    let same : length (chosen_names dictionary.names chosen) ≡ length (names_used n.d) = ap length n.used in
    let all : length (chosen_names dictionary.names chosen) ≡ length chosen = length-map chosen (λ (id : ℕ). get_or dictionary.names id []) in
    let few = n.choice.few in
    omega arith

pub ready : {dictionary : LentNames} {v ranks chosen : List ℕ} → Numbered dictionary v ranks chosen
    → (room : ℕ) → 2 * length v ≤ room → room ≤ most_walked → Ready most_levels v ranks room room
ready {dictionary} {v} n room twice most =
    let short = n.value_short in
    let grows : length (value_bytes (names_used n.d) n.d) ≤ 2 * length v =
    value_grows most_levels dictionary.names (names_used n.d) v n.d n.means n.bytes (omega arith) (normal-names_there n.d)
    (let few = few_names n in omega arith) in
    record {
      names = dictionary.names;
      normal = names_used n.d;
      d = n.d;
      meant = n.means;
      bytes = n.bytes;
      small = omega arith;
      ranked = n.ranked;
      right = n.right;
      fits = omega arith;
      within = omega arith;
      most = most;
    }

-- ---- what stands in the room is the normal value, so what is handed out is the answer

-- New bytes that end where a buffer does are its last bytes.
pub last_bytes : {new before after : List ℕ} {start : ℕ} → EndsAt new before after (length before) start → take (length before - start) (drop start after) ≡ new
last_bytes {new} {before} {after} {start} e =
    let size : start + length new ≡ length before = e.size in
    let front : length (take start before) ≡ start = length-take start before ∙ (omega arith) in
    let none : drop (length before) before ≡ [] = drop_of_length-le before {i = length before} (omega arith) in
    let all : after ≡ take start before ++ new = e.bytes ∙ rw (none, append-nil) in
    let rest : drop start after ≡ new = ap (drop start) all ∙ drop_at (take start before) new start front in
    rw rest (take_all (length before - start) new (omega arith))

-- It starts inside.
pub write_starts : {dictionary : LentNames} {v ranks chosen : List ℕ} → Numbered dictionary v ranks chosen → {before after : List ℕ} {end start : ℕ}
    → ((ns normal : Dictionary) (d : Doc) → meaning_of most_levels ns v ≡ Some d → Right ns normal ranks (ids_in most_levels v) → Wrote normal d before after end start)
    → start ≤ end
write_starts {dictionary} n wrote =
    let own = wrote dictionary.names (names_used n.d) n.d n.means n.right in
    let size = own.size in
    omega arith

pub write_answers : {dictionary : LentNames} {v ranks chosen : List ℕ} → Numbered dictionary v ranks chosen → {before after : List ℕ} {start : ℕ}
    → ((ns normal : Dictionary) (d : Doc) → meaning_of most_levels ns v ≡ Some d → Right ns normal ranks (ids_in most_levels v) → Wrote normal d before after (length before) start)
    → {first first' second second' : List ℕ} {a : DocumentAnswer}
    → ((d : Doc) → chosen_names dictionary.names chosen ≡ names_used d → take (length before - start) (drop start after) ≡ (normal_form d).value
    → Answered (written d) first first' second second' a)
    → (d : Doc) → meaning_of most_levels dictionary.names v ≡ Some d → Answered (written d) first first' second second' a
unfolding normal_form
write_answers {dictionary} n wrote answers d means =
    let same : n.d ≡ d = same_Some n.d d (sym n.means ∙ means) in
    let own = wrote dictionary.names (names_used n.d) n.d n.means n.right in
    rw (← same) (answers n.d n.used (last_bytes own))

-- What is among the names of ids of a dictionary is among its names.
pub picked_among : (names : Dictionary) (ids : List ℕ) → all_below (length names) ids ≡ true
    → (name : List ℕ) → among name (names_at names ids) ≡ true → among name names ≡ true
picked_among names ids below name e =
    let n = named names ids name e in
    let inside : n.0 < length names = below_held (length names) ids below n.0 n.1 in
    ap (λ (x : List ℕ). among x names) (sym n.2) ∙ among_at names n.0 inside

-- Lawful metadata has few names, and the ids picked by the ranking are chosen for the metadata.
module _ {dictionary : LentNames} (opens : Opens dictionary) (small : dictionary.size ≤ most_metadata) where
  all_long : dictionary.size ≡ 1 + offset_size (at opens.metadata 0) + (length dictionary.names + 1) * offset_size (at opens.metadata 0) + length (joined dictionary.names)
  all_long = sym (lent_size opens) ∙ read_length opens.metadata dictionary.names (lent_dictionary opens)

  pub count_few : length dictionary.names ≤ most_names
  unfolding offset_size
  count_few =
      let all = all_long in
      let one : (length dictionary.names + 1) * 1 ≤ (length dictionary.names + 1) * offset_size (at opens.metadata 0) = mul-le-mul (omega arith) (omega arith) in
      let same = mul-one (length dictionary.names + 1) in
      omega arith

  module _ {used ranks chosen : List ℕ} {picked : ℕ} (ranked : Ranked dictionary.names used ranks chosen picked) where
    -- the names chosen are names of the dictionary, so they are no longer together
    chosen_short : length (joined (chosen_names dictionary.names (take picked chosen))) ≤ dictionary.size
    chosen_short =
        let inside = contained_length (chosen_names dictionary.names (take picked chosen)) dictionary.names ranked.rise
        (picked_among dictionary.names (take picked chosen) ranked.within) in
        let all = all_long in
        omega arith

    pub picked_chosen : Chosen dictionary (take picked chosen)
    picked_chosen =
        let few = count_few in
        let picked-few = ranked.few in
        let cut = length-take picked chosen in
        record { few = omega arith; known = ranked.within; small = small; short = chosen_short }

-- ---- the names of a lawful document, marked and ranked, are numbered

module _ {dictionary : LentNames} {v : List ℕ} (opens : Opens dictionary) (lent : Lent dictionary v) where
  -- what the marking asks, of a table that has an entry for each name
  pub markable : (size : ℕ) → length dictionary.names ≤ size → Markable most_levels v size
  markable size room = let short = lent.value_short in record { names = dictionary.names; meant = lent.meant; room = room; small = omega arith }

  pub numbered : ((i : ℕ) → get_or v i 0 < 256) → {before used : List ℕ} → used ≡ mark_ids before (ids_in most_levels v) → before ≡ replicate (length before) 0
      → length dictionary.names ≤ length before → {ranks chosen : List ℕ} {picked : ℕ} → Ranked dictionary.names used ranks chosen picked
      → length dictionary.names ≤ length ranks → Numbered dictionary v ranks (take picked chosen)
  numbered bytes {before} {used} marks clean room {ranks} {chosen} {picked} ranked ranks_room =
      let there = there_some (meaning_of most_levels dictionary.names v) lent.meant in
      let d : Doc = there.0 in
      let means : meaning_of most_levels dictionary.names v ≡ Some d = there.1 in
      let marked : used ≡ mark_ids (replicate (length before) 0) (ids_in most_levels v) = marks ∙ ap (λ (l : List ℕ). mark_ids l (ids_in most_levels v)) clean in
      let ids : List ℕ = ids_in most_levels v in
      let below : all_below (length dictionary.names) ids ≡ true = ids_below_lem most_levels dictionary.names v d means in
      let exact = ids_used most_levels dictionary.names v d means in
      record {
        choice = picked_chosen opens lent.metadata_short ranked;
        d = d;
        means = means;
        used = chosen_used dictionary.names ids below d exact (length before) room used marked ranks chosen picked ranked;
        ranked = below_more (length dictionary.names) (length ranks) ids ranks_room below;
        right = ranks_right dictionary.names ids below d exact (length before) room used marked ranks chosen picked ranked;
        bytes = bytes;
        value_short = lent.value_short;
      }
