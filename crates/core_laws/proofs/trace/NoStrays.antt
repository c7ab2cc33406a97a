-- In a fair session no decrement finds 0: its updates are taken in the order of its entries, and the count that goes with them fits.
-- And a counter that has all of them is the number of mappings.
use Rattle.std.proofs.Common.{ℕ, ◌+◌, ◌*◌, ◌%◌, ◌≡◌, false, Bool, List, [], ◌∷◌, ◌++◌, length, refl, sym, ◌∙◌, ap, subst, inl, inr, arith}
use Rattle.blk_base.specs.Counters.{limit_of}
use Rattle.blk_base.specs.declared.journal_entry.Update.{Update}
use Rattle.blk_base.specs.declared.place.Mapping.{Mapping}
use Rattle.blk_base.specs.declared.place.Mapping.TheVariants.{Unmapped, Zero, At}
use Rattle.blk_base.specs.declared.place.Pbn.{Pbn}
use Rattle.blk_base.proofs.PageIdLaws.{same_block}
use Rattle.core_laws.proofs.Common.{Adds, IsFair, IsSession, Logged, Makes, Remapping, Remaps, Removes, RightTrace, Session, Strays, Trace, cases_Bool, durable, entry_of, eqb_tells, fair_before, opened_image, total}
use Rattle.core_laws.proofs.kept.MapCounts.{durable_running}
use Rattle.core_laws.proofs.lists.CountedIn.{counted_by, counted_here, leads_not, total_part}
use Rattle.core_laws.proofs.trace.EntriesInTurn.{pointed}
use Rattle.data_vio.specs.Zones.{physical_zone_of}
use Rattle.core_model.specs.CountUpdates.{CountUpdate, Decrement, Increment, decrement_of, increment_of, is_counted_in, mapping_of, updates_by, updates_in, updates_of, updates_taken}
use Rattle.core_model.specs.Sessions.{opened_uses}
use Rattle.core_model.specs.Tokens.{is_entry, is_old, leads_to}
use Rattle.core_model.specs.Trace.{added, new_of, removed, strayed}
use Rattle.core_model.specs.Uses.{counted, uncounted}
use Rattle.count_laws.proofs.UpdateLaws.{next_fits_sum, taken_is_mapped}
use Rattle.count_laws.specs.Points as points
use Rattle.count_laws.specs.Points.{points_in, those_of, update_led}
use Rattle.count_laws.specs.Strays.{FitsCounter}
use Rattle.count_laws.specs.Turns.{HasMappingsAfter}
use Rattle.image_model.specs.Counts.{adds_of, takes_of}

-- The updates of entries, and those with points.

-- an update of this block, at a point of its half
abbrev IsOne : CountUpdate → Update → Type 0
IsOne (Increment e) p = (new_of e ≡ At p.at) × (p.point.0 % 2 ≡ 0)
IsOne (Decrement e) p = (e.old ≡ At p.at) × (p.point.0 % 2 ≡ 1)

abbrev Pairs : List CountUpdate → List Update → Type 0
Pairs [] [] = Unit {0}
Pairs (u ∷ us) (p ∷ ps) = IsOne u p × Pairs us ps
Pairs us ps = ⊥

both_pair : (us : List CountUpdate) (ps : List Update) (vs : List CountUpdate) (qs : List Update) → Pairs us ps → Pairs vs qs → Pairs (us ++ vs) (ps ++ qs)
both_pair [] [] vs qs one two = two
both_pair [] (p ∷ ps) vs qs one two = absurd one
both_pair (u ∷ us) [] vs qs one two = absurd one
both_pair (u ∷ us) (p ∷ ps) vs qs one two = (one.0, both_pair us ps vs qs one.1 two)

increments : (e : Logged) (m : Mapping) (n : ℕ) → new_of e ≡ m → n % 2 ≡ 0 → Pairs (increment_of e m) (update_led m n)
increments e (At x) n is even = ((is, even), tt)
increments e Unmapped n is even = tt
increments e Zero n is even = tt

decrements : (e : Remapping) (m : Mapping) (n : ℕ) → e.old ≡ m → n % 2 ≡ 1 → Pairs (decrement_of e m) (update_led m n)
decrements e (At x) n is odd = ((is, odd), tt)
decrements e Unmapped n is odd = tt
decrements e Zero n is odd = tt

by_entry : (e : Logged) (n : ℕ) → n % 2 ≡ 0 → (n + 1) % 2 ≡ 1 → Pairs (updates_by e) (points.updates_by (entry_of e) n)
by_entry (Remaps e) n even odd = both_pair (increment_of (Remaps e) e.new) (update_led e.new n) (decrement_of e e.old) (update_led e.old (n + 1)) (increments (Remaps e) e.new n refl even) (decrements e e.old (n + 1) refl odd)
by_entry (Makes p) n even odd = ((refl, even), tt)

paired : (es : List Logged) → Pairs (updates_of es) (points.updates_of (pointed es))
paired [] = tt
paired (e ∷ es) = both_pair (updates_of es) (points.updates_of (pointed es)) (updates_by e) (points.updates_by (entry_of e) (2 * length es)) (paired es) (by_entry e (2 * length es) (omega arith) (omega arith))

-- Of a physical zone: the test that says whether it counts a block, and the updates of its blocks.
abbrev is_own : Session → ℕ → Pbn → Bool
is_own s zone x = is_counted_in s.sizes zone (At x)

own_paired : (s : Session) (zone : ℕ) (us : List CountUpdate) (ps : List Update) → Pairs us ps → Pairs (updates_in s.sizes zone us) (those_of (is_own s zone) ps)
own_paired s zone [] [] pairs = tt
own_paired s zone [] (p ∷ ps) pairs = absurd pairs
own_paired s zone (u ∷ us) [] pairs = absurd pairs
own_paired s zone (u ∷ us) (p ∷ ps) pairs =
    let later = own_paired s zone us ps pairs.1 in
    let same : is_counted_in s.sizes zone (mapping_of u) ≡ is_own s zone p.at = ap (is_counted_in s.sizes zone) (leads u pairs.0) in
    elim (cases_Bool (is_own s zone p.at)) [
      | inl is ↦ rw (is, same ∙ is) (pairs.0, later)
      | inr other ↦ rw (other, same ∙ other) later
    ]
  where
    leads : (u : CountUpdate) → IsOne u p → mapping_of u ≡ At p.at
    leads (Increment e) one = one.0
    leads (Decrement e) one = one.0

-- what stands where
record Cut (taken : List CountUpdate) (u : CountUpdate) (ps : List Update) : Type 0 where
  pub before : List Update
  pub here : Update
  pub behind : List Update
  pub parts : ps ≡ before ++ (here ∷ behind)
  pub taken_pair : Pairs taken before
  pub is_one : IsOne u here

cut : (taken : List CountUpdate) (u : CountUpdate) (rest : List CountUpdate) (ps : List Update) → Pairs (taken ++ u ∷ rest) ps → Cut taken u ps
cut [] u rest [] pairs = absurd pairs
cut [] u rest (p ∷ ps) pairs = record { before = []; here = p; behind = ps; parts = refl; taken_pair = tt; is_one = pairs.0 }
cut (v ∷ taken) u rest [] pairs = absurd pairs
cut (v ∷ taken) u rest (p ∷ ps) pairs =
    let later = cut taken u rest ps pairs.1 in
    record { before = p ∷ later.before; here = later.here; behind = later.behind; parts = ap (λ (qs : List Update). p ∷ qs) later.parts; taken_pair = (pairs.0, later.taken_pair); is_one = later.is_one }

-- How many of them add to a block, and take away.
abbrev adds_by : Pbn → CountUpdate → ℕ
adds_by x (Increment e) = is_entry x e
adds_by x (Decrement e) = 0

abbrev takes_by : Pbn → CountUpdate → ℕ
takes_by x (Increment e) = 0
takes_by x (Decrement e) = is_old x e

-- a point more
record Counts (x : Pbn) (u : CountUpdate) (p : Update) (later : List Update) : Type 0 where
  pub adds : adds_of (points_in x (p ∷ later)) ≡ adds_by x u + adds_of (points_in x later)
  pub takes : takes_of (points_in x (p ∷ later)) ≡ takes_by x u + takes_of (points_in x later)

one_counts : (x : Pbn) (u : CountUpdate) (p : Update) (later : List Update) → IsOne u p → Counts x u p later
one_counts x (Increment e) p later (is, even) = elim (eqb_tells p.at.0 x.0) [
  | inl same ↦ let one : is_entry x e ≡ 1 = ap (leads_to x) is ∙ rw same.0 refl in record { adds = rw (same.0, even) (omega (arith, one)); takes = rw (same.0, even) (omega arith) }
  | inr other ↦ let none : is_entry x e ≡ 0 = ap (leads_to x) is ∙ rw other.0 refl in record { adds = rw other.0 (omega (arith, none)); takes = rw other.0 (omega arith) }
]
one_counts x (Decrement e) p later (is, odd) = elim (eqb_tells p.at.0 x.0) [
  | inl same ↦ let one : is_old x e ≡ 1 = ap (leads_to x) is ∙ rw same.0 refl in record { adds = rw (same.0, odd) (omega arith); takes = rw (same.0, odd) (omega (arith, one)) }
  | inr other ↦ let none : is_old x e ≡ 0 = ap (leads_to x) is ∙ rw other.0 refl in record { adds = rw other.0 (omega arith); takes = rw other.0 (omega (arith, none)) }
]

pair_sums : (x : Pbn) (us : List CountUpdate) (ps : List Update) → Pairs us ps → (adds_of (points_in x ps) ≡ total (adds_by x) us) × (takes_of (points_in x ps) ≡ total (takes_by x) us)
pair_sums x [] [] pairs = (refl, refl)
pair_sums x [] (p ∷ ps) pairs = absurd pairs
pair_sums x (u ∷ us) [] pairs = absurd pairs
pair_sums x (u ∷ us) (p ∷ ps) pairs =
    let here = one_counts x u p ps pairs.0 in
    let later = pair_sums x us ps pairs.1 in
    (omega (arith, here.adds, later.0), omega (arith, here.takes, later.1))

one_last : (f : CountUpdate → ℕ) (us : List CountUpdate) (u : CountUpdate) → total f (us ++ u ∷ []) ≡ total f us + f u
one_last f [] u = omega arith
one_last f (v ∷ us) u = omega (arith, one_last f us u)

taken_adds : (x : Pbn) (t : Trace) → total (adds_by x) (updates_taken t) ≡ total (is_entry x) (added t)
taken_adds x [] = refl
taken_adds x (Adds e ∷ t) = omega (arith, one_last (adds_by x) (updates_taken t) (Increment e), taken_adds x t)
taken_adds x (Removes e to ∷ t) = omega (arith, one_last (adds_by x) (updates_taken t) (Decrement e), taken_adds x t)
taken_adds x (Strays e ∷ t) = omega (arith, one_last (adds_by x) (updates_taken t) (Decrement e), taken_adds x t)
taken_adds x (other ∷ t) = taken_adds x t

taken_takes : (x : Pbn) (t : Trace) → total (takes_by x) (updates_taken t) ≡ total (is_old x) (removed t) + total (is_old x) (strayed t)
taken_takes x [] = refl
taken_takes x (Adds e ∷ t) = omega (arith, one_last (takes_by x) (updates_taken t) (Increment e), taken_takes x t)
taken_takes x (Removes e to ∷ t) = omega (arith, one_last (takes_by x) (updates_taken t) (Decrement e), taken_takes x t)
taken_takes x (Strays e ∷ t) = omega (arith, one_last (takes_by x) (updates_taken t) (Decrement e), taken_takes x t)
taken_takes x (other ∷ t) = taken_takes x t

-- of a block of a zone as many are added and taken away by the updates of the zone as by all
own_adds : (s : Session) (zone : ℕ) (x : Pbn) → physical_zone_of s.sizes x ≡ zone → (us : List CountUpdate) → total (adds_by x) (updates_in s.sizes zone us) ≡ total (adds_by x) us
own_adds s zone x here us = total_part (adds_by x) (λ u. is_counted_in s.sizes zone (mapping_of u)) us none
  where
    none : (u : CountUpdate) → is_counted_in s.sizes zone (mapping_of u) ≡ false → adds_by x u ≡ 0
    none (Increment e) out = leads_not s.sizes zone (new_of e) x here out
    none (Decrement e) out = refl

own_takes : (s : Session) (zone : ℕ) (x : Pbn) → physical_zone_of s.sizes x ≡ zone → (us : List CountUpdate) → total (takes_by x) (updates_in s.sizes zone us) ≡ total (takes_by x) us
own_takes s zone x here us = total_part (takes_by x) (λ u. is_counted_in s.sizes zone (mapping_of u)) us none
  where
    none : (u : CountUpdate) → is_counted_in s.sizes zone (mapping_of u) ≡ false → takes_by x u ≡ 0
    none (Increment e) out = refl
    none (Decrement e) out = leads_not s.sizes zone e.old x here out

-- an update that takes away needs one
no_zero : (limit : ℕ) (u : Update) → u.point.0 % 2 ≡ 1 → FitsCounter limit 0 u → ⊥
no_zero limit u odd fits = let one = fits.takes odd in omega (arith, one)

pub no_strays : (s : Session) (t : Trace) → IsSession s → RightTrace s t → IsFair s t → strayed t ≡ []
no_strays s [] session right fair = refl
no_strays s (Strays e ∷ t) session right fair =
    let before = fair_before s (Strays e) t fair in
    let none = no_strays s t session right.2 before in
    let stray = right.0 in
    let entries = pointed (durable t) in
    let zone = stray.next.zone in
    let all = own_paired s zone (updates_of (durable t)) (points.updates_of entries) (paired (durable t)) in
    let taken = updates_in s.sizes zone (updates_taken t) in
    let place = cut taken (Decrement e) stray.next.rest (those_of (is_own s zone) (points.updates_of entries)) (subst (λ (us : List CountUpdate). Pairs us (those_of (is_own s zone) (points.updates_of entries))) stray.next.next all) in
    let x : Pbn = place.here.at in
    let here : physical_zone_of s.sizes x ≡ zone = counted_by s.sizes zone x (sym (ap (is_counted_in s.sizes zone) place.is_one.0) ∙ stray.next.own) in
    let block : stray.block ≡ x = same_block stray.block x (sym stray.old_is ∙ place.is_one.0) in
    let none_counted : opened_uses s x + total (is_entry x) (added t) ≡ total (is_old x) (removed t) = subst (λ (y : Pbn). opened_uses s y + total (is_entry y) (added t) ≡ total (is_old y) (removed t)) block stray.none_counted in
    let sums = pair_sums x taken place.before place.taken_pair in
    let adds = own_adds s zone x here (updates_taken t) in
    let takes = own_takes s zone x here (updates_taken t) in
    let strays = ap (total (is_old x)) none in
    let running = durable_running s t x session right.2 before in
    let fits = next_fits_sum (limit_of s.sizes.geometry) (opened_uses s x) running.now entries (is_own s zone) place.before place.behind place.here 0 running.counted
    place.parts (omega (arith, none_counted, sums.0, sums.1, adds, takes, taken_adds x t, taken_takes x t, strays)) in
    absurd (no_zero (limit_of s.sizes.geometry) place.here place.is_one.1 fits)
no_strays s (h ∷ t) session right fair = no_strays s t session right.2 (fair_before s h t fair)

-- So a counter that has the updates of all entries has what the map with these has.
pub all_taken : (s : Session) (t : Trace) → IsSession s → RightTrace s t → IsFair s t → (zone : ℕ) → updates_in s.sizes zone (updates_taken t) ≡ updates_in s.sizes zone (updates_of (durable t))
    → (x : Pbn) → physical_zone_of s.sizes x ≡ zone → (counter : ℕ) → counter + uncounted t x ≡ counted s t x → HasMappingsAfter (opened_image s) (pointed (durable t)) x counter
all_taken s t session right fair zone all x here counter sum =
    let entries = pointed (durable t) in
    let running = durable_running s t x session right fair in
    let own = updates_in s.sizes zone (updates_of (durable t)) in
    let sums = pair_sums x own (those_of (is_own s zone) (points.updates_of entries)) (own_paired s zone (updates_of (durable t)) (points.updates_of entries) (paired (durable t))) in
    let adds = taken_adds x t in
    let takes = taken_takes x t in
    let adds_all = ap (total (adds_by x)) all in
    let takes_all = ap (total (takes_by x)) all in
    let adds_own = own_adds s zone x here (updates_taken t) in
    let takes_own = own_takes s zone x here (updates_taken t) in
    let strays = ap (total (is_old x)) (no_strays s t session right fair) in
    let count : counter + takes_of (points_in x (those_of (is_own s zone) (points.updates_of entries))) ≡ opened_uses s x + adds_of (points_in x (those_of (is_own s zone) (points.updates_of entries))) =
    omega (arith, sum, sums.0, sums.1, adds, takes, adds_all, takes_all, adds_own, takes_own, strays) in
    let same = taken_is_mapped (opened_image s) entries x (opened_uses s x) running (is_own s zone) counter (counted_here s.sizes zone x here) count in
    subst (HasMappingsAfter (opened_image s) entries x) (sym same) running.has
