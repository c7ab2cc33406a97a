-- The counts that a gate keeps, behind zeros for the generations that are done, are those of all generations.
use Rattle.std.specs.Prelude.{ℕ, ◌≡◌, ◌<◌, ◌≤◌, ◌+◌, ◌-◌, List, [], ◌∷◌, ◌++◌, length, replicate, refl}
use Rattle.std.proofs.Common.{ap, ◌∙◌, sym, subst, arith, get_or, set, drop, length-append, append_assoc, inl, inr}
use Rattle.std.proofs.lemmas.List.{get_or-append_right, set-append_right, get_or-replicate, length-replicate, replicate_more}
use Rattle.std.proofs.lemmas.Bool.{cases_lt}
use Rattle.std.proofs.Math.ListN.{get_or-append, get_or-eq_default}
use Rattle.flush_gate.specs.Flushes.{Flushes, AreFrom, AreOlderDone, OldestWaits, Leaves}
use Rattle.flush_gate.specs.declared.waiters.Waiting.{Waiting}

-- all counts, where those before `oldest` are 0
abbrev pub all_counts : ℕ → List ℕ → List ℕ
all_counts oldest counts = replicate oldest 0 ++ counts

pub length-all_counts : (oldest : ℕ) (counts : List ℕ) → length (all_counts oldest counts) ≡ oldest + length counts
length-all_counts oldest counts = length-append (replicate oldest 0) counts ∙ ap (λ n. n + length counts) (length-replicate oldest 0)

pub count_at : (oldest : ℕ) (counts : List ℕ) (g : ℕ) → oldest ≤ g → get_or (all_counts oldest counts) g 0 ≡ get_or counts (g - oldest) 0
count_at oldest counts g behind = get_or-append_right (replicate oldest 0) counts oldest g 0 (length-replicate oldest 0) behind

pub count_before : (oldest : ℕ) (counts : List ℕ) (g : ℕ) → g < oldest → get_or (all_counts oldest counts) g 0 ≡ 0
count_before oldest counts g before =
    let size : length (replicate oldest 0) ≡ oldest = length-replicate {A = ℕ} oldest 0 in
    get_or-append (replicate oldest 0) counts 0 g (omega (arith, size)) ∙ get_or-replicate oldest g 0 0 before

-- a count above 0 stands among the kept ones
pub count_kept : (oldest : ℕ) (counts : List ℕ) (g : ℕ) → 0 < get_or (all_counts oldest counts) g 0 → oldest ≤ g
count_kept oldest counts g some =
    elim (cases_lt g oldest) [ inl before ↦ absurd (omega (arith, count_before oldest counts g before)) | inr behind ↦ behind ]

pub count_inside : (oldest : ℕ) (counts : List ℕ) (g : ℕ) → 0 < get_or (all_counts oldest counts) g 0 → g < oldest + length counts
count_inside oldest counts g some =
    let size = length-all_counts oldest counts in
    elim (cases_lt g (oldest + length counts)) [
      | inl inside ↦ inside
      | inr outside ↦
          let past : length (all_counts oldest counts) ≤ g = omega (arith, size, outside) in
          absurd (omega (arith, get_or-eq_default (all_counts oldest counts) 0 past))
    ]

-- one count is changed
pub counted : (f : ℕ → ℕ) (room oldest place v : ℕ) (counts : List ℕ) (flushes : List Waiting) (gate : Flushes)
    → record { room = room; under_way = all_counts oldest counts; waiting = flushes } ≡ gate → place < length counts → v ≡ get_or counts place 0
    → ◌≡◌ {A = Flushes} (record { room = room; under_way = all_counts oldest (set counts place (f v)); waiting = flushes })
    (record { room = gate.room; under_way = set gate.under_way (oldest + place) (f (get_or gate.under_way (oldest + place) 0)); waiting = gate.waiting })
counted f room oldest place v counts flushes gate is inside read =
    let at : oldest + place - oldest ≡ place = omega arith in
    let old = count_at oldest counts (oldest + place) (omega arith) in
    let moved = set-append_right (replicate oldest 0) counts oldest (oldest + place) (f v) (length-replicate oldest 0) (omega arith) in
    let same : v ≡ get_or (all_counts oldest counts) (oldest + place) 0 = read ∙ sym (old ∙ ap (λ k. get_or counts k 0) at) in
    let written : all_counts oldest (set counts place (f v)) ≡ set (all_counts oldest counts) (oldest + place) (f (get_or (all_counts oldest counts) (oldest + place) 0))
    = ap (λ k. replicate oldest 0 ++ set counts k (f v)) (sym at) ∙ sym moved ∙ ap (λ n. set (all_counts oldest counts) (oldest + place) (f n)) same in
    rw (← is) (ap (λ (us : List ℕ). record { room = room; under_way = us; waiting = flushes }) written)

pub AreFrom-push : (n : ℕ) (flushes : List Waiting) (flush : Waiting) → AreFrom n flushes → flush.generation ≡ n + length flushes → AreFrom n (flushes ++ flush ∷ [])
AreFrom-push n [] flush from is = (omega (arith, is), tt)
AreFrom-push n (first ∷ rest) flush from is = (from.0, AreFrom-push (n + 1) rest flush from.1 (omega (arith, is)))

busy_oldest : (oldest : ℕ) (counts : List ℕ) (generation : ℕ) → generation ≡ oldest + 1 → (get_or counts 0 0 ≡ 0 → ⊥)
    → ((older : ℕ) → older < generation → get_or (all_counts oldest counts) older 0 ≡ 0) → ⊥
busy_oldest oldest counts generation is busy done =
    let here = count_at oldest counts oldest (omega arith) in
    let at : oldest - oldest ≡ 0 = omega arith in
    busy (sym (here ∙ ap (λ k. get_or counts k 0) at) ∙ done oldest (omega (arith, is)))

waits_among : (oldest : ℕ) (counts : List ℕ) (flushes : List Waiting) → AreFrom (oldest + 1) flushes → (get_or counts 0 0 ≡ 0 → ⊥)
    → (first : Waiting) (rest : List Waiting) → flushes ≡ first ∷ rest
    → ((older : ℕ) → older < first.generation → get_or (all_counts oldest counts) older 0 ≡ 0) → ⊥
waits_among oldest counts [] from busy first rest is done = cc
waits_among oldest counts (flush ∷ flushes) from busy first rest is done =
    let same : flush ≡ first = cc in
    busy_oldest oldest counts first.generation (ap (λ (w : Waiting). w.generation) (sym same) ∙ from.0) busy done

-- the oldest flush waits where the oldest count isn't 0
pub waits : (room oldest : ℕ) (counts : List ℕ) (flushes : List Waiting) (gate : Flushes)
    → record { room = room; under_way = all_counts oldest counts; waiting = flushes } ≡ gate → AreFrom (oldest + 1) flushes
    → (get_or counts 0 0 ≡ 0 → ⊥) → OldestWaits gate
waits room oldest counts flushes gate is from busy = rw (← is) (waits_among oldest counts flushes from busy)

head_zero : (counts : List ℕ) → 0 < length counts → get_or counts 0 0 ≡ 0 → counts ≡ 0 ∷ drop 1 counts
head_zero [] some zero_first = absurd (omega arith)
head_zero (count ∷ counts) some zero_first = ap (λ n. n ∷ counts) zero_first

-- the oldest count, which is 0, becomes one of the zeros
one_more_zero : (oldest : ℕ) (counts : List ℕ) → 0 < length counts → get_or counts 0 0 ≡ 0 → all_counts (oldest + 1) (drop 1 counts) ≡ all_counts oldest counts
one_more_zero oldest counts some zero_first =
    ap (λ (zeros : List ℕ). zeros ++ drop 1 counts) (sym (replicate_more oldest 0)) ∙ append_assoc (replicate oldest 0) (0 ∷ []) (drop 1 counts)
    ∙ ap (λ (cs : List ℕ). replicate oldest 0 ++ cs) (sym (head_zero counts some zero_first))

-- no older write is under way where that holds of the kept counts
pub done_before : (room oldest generation : ℕ) (counts : List ℕ) (flushes : List Waiting) (gate : Flushes)
    → record { room = room; under_way = all_counts oldest counts; waiting = flushes } ≡ gate
    → ((k : ℕ) → k < length counts → oldest + k < generation → get_or counts k 0 ≡ 0) → AreOlderDone gate generation
done_before room oldest generation counts flushes gate is each =
    rw (← is) (λ older before. elim (cases_lt older oldest) [
      | inl below ↦ count_before oldest counts older below
      | inr behind ↦ count_at oldest counts older behind ∙
          elim (cases_lt (older - oldest) (length counts)) [
            | inl inside ↦ each (older - oldest) inside (omega arith)
            | inr outside ↦ get_or-eq_default counts 0 outside
          ]
    ])

leaves_here : (room oldest : ℕ) (counts : List ℕ) (flush : Waiting) (flushes rest : List Waiting) → AreFrom (oldest + 1) flushes
    → flushes ≡ flush ∷ rest → 0 < length counts → get_or counts 0 0 ≡ 0
    → Leaves (record { room = room; under_way = all_counts oldest counts; waiting = flushes }) (record { room = room; under_way = all_counts (oldest + 1) (drop 1 counts); waiting = rest }) flush
leaves_here room oldest counts flush flushes rest from is some zero_first =
    let from_head : AreFrom (oldest + 1) (flush ∷ rest) = subst (λ (fs : List Waiting). AreFrom (oldest + 1) fs) is from in
    let number = from_head.0 in
    record {
      oldest = is;
      older_done = done_before room oldest flush.generation counts flushes _ refl (λ k inside before. let none : k ≡ 0 = omega arith in ap (λ n. get_or counts n 0) none ∙ zero_first);
      kept = ap (λ (us : List ℕ). record { room = room; under_way = us; waiting = rest }) (one_more_zero oldest counts some zero_first);
    }

-- the oldest flush leaves where the oldest count is 0
pub leaves : (room oldest : ℕ) (counts left : List ℕ) (flush : Waiting) (flushes rest : List Waiting) (gate : Flushes)
    → record { room = room; under_way = all_counts oldest counts; waiting = flushes } ≡ gate → AreFrom (oldest + 1) flushes
    → flushes ≡ flush ∷ rest → 0 < length counts → get_or counts 0 0 ≡ 0 → left ≡ drop 1 counts
    → Leaves gate (record { room = room; under_way = all_counts (oldest + 1) left; waiting = rest }) flush
leaves room oldest counts left flush flushes rest gate is from head some zero_first popped = rw (popped, ← is) (leaves_here room oldest counts flush flushes rest from head some zero_first)

-- and one that isn't 0 shows that an older write is
pub not_done_before : (room oldest generation place : ℕ) (counts : List ℕ) (flushes : List Waiting) (gate : Flushes)
    → record { room = room; under_way = all_counts oldest counts; waiting = flushes } ≡ gate
    → oldest + place < generation → (get_or counts place 0 ≡ 0 → ⊥) → AreOlderDone gate generation → ⊥
not_done_before room oldest generation place counts flushes gate is before busy done =
    let here = rw (← is) at done in
    let at : oldest + place - oldest ≡ place = omega arith in
    busy (sym (count_at oldest counts (oldest + place) (omega arith) ∙ ap (λ k. get_or counts k 0) at) ∙ here (oldest + place) before)
