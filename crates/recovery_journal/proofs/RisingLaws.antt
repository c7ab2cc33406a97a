-- Entries whose points rise: how many there can be, and which of them are below a point.
use Rattle.std.specs.Prelude.{ℕ, zero, suc, ◌≡◌, ◌+◌, ◌*◌, ◌/◌, ◌%◌, ◌<◌, ◌≤◌, List, [], ◌∷◌, ◌++◌, length, take, drop, All, refl}
use Rattle.std.proofs.Common.{arith, sym, subst, ap, ◌∙◌, get_or, append_assoc}
use Rattle.std.proofs.lemmas.List.{take_more, length-take-le}
use Rattle.std.proofs.lemmas.List.Elements.{All-nil, All-cons, All-weaker}
use Rattle.blk_base.specs.declared.journal_entry.Entry.{Entry}
use Rattle.blk_base.specs.declared.point.Point.{Point}
use Rattle.blk_base.specs.declared.journal_entry.CommittedEntry.{CommittedEntry}
use Rattle.recovery_journal.specs.Log.{point_at, first_sequence, placed}
use Rattle.recovery_journal.specs.Kept.{rank, AreRising}

-- points are ordered as their ranks
pub rank_rises : (p q : ℕ) → p % 512 < 384 → q % 512 < 384 → rank p < rank q → p < q
rank_rises p q first second below = omega arith

pub rank_placed : (sequence number : ℕ) → number < 192 → rank (point_at sequence number) ≡ sequence * 192 + number
rank_placed sequence number few = omega arith

pub placed_in_block : (sequence number : ℕ) → number < 192 → point_at sequence number % 512 < 384
placed_in_block sequence number few = omega arith

pub AreRising-from : (low low' : ℕ) (es : List CommittedEntry) (high : ℕ) → low' ≤ low → AreRising low es high → AreRising low' es high
AreRising-from low low' [] high below rising = omega arith
AreRising-from low low' (e ∷ es) high below rising = (rising.0, omega (arith, rising.1), rising.2)

pub length-AreRising : (low : ℕ) (es : List CommittedEntry) (high : ℕ) → AreRising low es high → low + length es ≤ high
length-AreRising low [] high rising = omega arith
length-AreRising low (e ∷ es) high rising = omega (arith, rising.1, length-AreRising (rank e.point.0 + 1) es high rising.2)

pub AreRising-append : (low : ℕ) (es : List CommittedEntry) (mid : ℕ) (fs : List CommittedEntry) (high : ℕ)
    → AreRising low es mid → AreRising mid fs high → AreRising low (es ++ fs) high
AreRising-append low [] mid fs high first second = AreRising-from mid low fs high first second
AreRising-append low (e ∷ es) mid fs high first second = (first.0, first.1, AreRising-append (rank e.point.0 + 1) es mid fs high first.2 second)

pub AreRising-drop : (n low : ℕ) (es : List CommittedEntry) (high : ℕ) → AreRising low es high → AreRising low (drop n es) high
AreRising-drop zero low es high rising = rising
AreRising-drop (suc n) low [] high rising = rising
AreRising-drop (suc n) low (e ∷ es) high rising =
    AreRising-from (rank e.point.0 + 1) low (drop n es) high (omega (arith, rising.1)) (AreRising-drop n (rank e.point.0 + 1) es high rising.2)

-- the entries of a block rise
pub AreRising-placed : (sequence number : ℕ) (es : List Entry) → number + length es ≤ 192
    → AreRising (sequence * 192 + number) (placed sequence number es) ((sequence + 1) * 192)
AreRising-placed sequence number [] few = omega arith
AreRising-placed sequence number (e ∷ es) few =
    let here = rank_placed sequence number (omega arith) in
    let place = placed_in_block sequence number (omega arith) in
    (place, omega (arith, here), subst (λ (n : ℕ). AreRising n (placed sequence (number + 1) es) ((sequence + 1) * 192)) (omega (arith, here)) (AreRising-placed sequence (number + 1) es (omega arith)))

-- each is above the first
pub points_above : (low : ℕ) (es : List CommittedEntry) (high p : ℕ) → p % 512 < 384 → rank p < low → AreRising low es high
    → All (λ e. p < e.point.0) es
points_above low [] high p place below rising = All-nil (λ (e : CommittedEntry). p < e.point.0)
points_above low (e ∷ es) high p place below rising =
    All-cons (λ (e : CommittedEntry). p < e.point.0) e es (rank_rises p e.point.0 place rising.0 (omega (arith, rising.1)))
    (points_above (rank e.point.0 + 1) es high p place (omega (arith, rising.1)) rising.2)

-- and the first is the lowest
pub points_from_first : (low : ℕ) (es : List CommittedEntry) (high p : ℕ) → AreRising low es high → All (λ e. p ≤ e.point.0) (take 1 es)
    → All (λ e. p ≤ e.point.0) es
points_from_first low [] high p rising first = All-nil (λ (e : CommittedEntry). p ≤ e.point.0)
points_from_first low (e ∷ es) high p rising first =
    let at_first : p ≤ e.point.0 = first 0 e (omega arith) in
    All-cons (λ (e : CommittedEntry). p ≤ e.point.0) e es at_first
    (All-weaker (λ (f : CommittedEntry). e.point.0 < f.point.0) (λ (f : CommittedEntry). p ≤ f.point.0) (λ f above. omega (arith, above)) es
    (points_above (rank e.point.0 + 1) es high e.point.0 rising.0 (omega arith) rising.2))

-- there is room for the entries of all blocks from the first one's on
pub AreRising-from_head : (es : List CommittedEntry) (sequence : ℕ) → AreRising 0 es (sequence * 192) → AreRising (first_sequence es sequence * 192) es (sequence * 192)
AreRising-from_head [] sequence rising = omega arith
AreRising-from_head (e ∷ es) sequence rising = (rising.0, omega arith, rising.2)

pub few_entries : (es : List CommittedEntry) (sequence : ℕ) → AreRising 0 es (sequence * 192) → first_sequence es sequence * 192 + length es ≤ sequence * 192
few_entries es sequence rising = length-AreRising (first_sequence es sequence * 192) es (sequence * 192) (AreRising-from_head es sequence rising)

pub first_reached : (es : List CommittedEntry) (sequence : ℕ) → AreRising 0 es (sequence * 192) → first_sequence es sequence ≤ sequence
first_reached es sequence rising = omega (arith, few_entries es sequence rising)

-- leaving out entries at the front never lowers the first sequence
pub first_rises : (low n : ℕ) (es : List CommittedEntry) (sequence : ℕ) → AreRising low es (sequence * 192) → first_sequence es sequence ≤ first_sequence (drop n es) sequence
first_rises low zero es sequence rising = omega arith
first_rises low (suc n) [] sequence rising = omega arith
first_rises low (suc n) (e ∷ es) sequence rising =
    first_behind (rank e.point.0 + 1) (drop n es) sequence e.point.0 rising.0 (omega arith) (AreRising-drop n (rank e.point.0 + 1) es (sequence * 192) rising.2)
  where
    first_behind : (low : ℕ) (es : List CommittedEntry) (sequence p : ℕ) → p % 512 < 384 → rank p < low → AreRising low es (sequence * 192) → p / 512 ≤ first_sequence es sequence
    first_behind low [] sequence p place below rising = omega arith
    first_behind low (e ∷ es) sequence p place below rising = omega (arith, rising.1)

-- one more entry of a block, and how many these are
pub placed-push : (sequence number : ℕ) (es : List Entry) (e : Entry)
    → placed sequence number (es ++ e ∷ []) ≡ placed sequence number es ++ (record { entry = e; point = record { 0 = point_at sequence (number + length es) } }) ∷ []
placed-push sequence number [] e =
    let place : number + 0 ≡ number = omega arith in
    ap (λ (n : ℕ). (record { entry = e; point = record { 0 = point_at sequence n } }) ∷ []) (sym place)
placed-push sequence number (f ∷ fs) e =
    let place : number + 1 + length fs ≡ number + suc (length fs) = omega arith in
    let first : CommittedEntry = record { entry = f; point = record { 0 = point_at sequence number } } in
    ap (λ (es : List CommittedEntry). first ∷ es) (placed-push sequence (number + 1) fs e)
    ∙ ap (λ (n : ℕ). first ∷ (placed sequence (number + 1) fs ++ (record { entry = e; point = record { 0 = point_at sequence n } }) ∷ [])) place

pub length-placed : (sequence number : ℕ) (es : List Entry) → length (placed sequence number es) ≡ length es
length-placed sequence number [] = refl
length-placed sequence number (e ∷ es) = ap (λ (n : ℕ). suc n) (length-placed sequence (number + 1) es)

-- the entries so far, and the one that was read, as they were added
pub placed_more : (sequence number : ℕ) (filling : List Entry) (d : Entry) (point : Point) (old base new : List CommittedEntry)
    → number < length filling → point.0 ≡ point_at sequence number → base ≡ old ++ placed sequence 0 (take number filling)
    → new ≡ base ++ (record { entry = get_or filling number d; point = point }) ∷ [] → new ≡ old ++ placed sequence 0 (take (number + 1) filling)
placed_more sequence number filling d point old base new inside at before added =
    let place : 0 + length (take number filling) ≡ number = omega (arith, length-take-le number filling (omega arith)) in
    let one : ℕ → CommittedEntry = λ n. record { entry = get_or filling number d; point = record { 0 = n } } in
    added ∙ ap (λ (es : List CommittedEntry). es ++ (record { entry = get_or filling number d; point = point }) ∷ []) before
    ∙ append_assoc old (placed sequence 0 (take number filling)) ((record { entry = get_or filling number d; point = point }) ∷ []) ∙ ap (λ (es : List CommittedEntry). old ++ es)
    (ap (λ (n : ℕ). placed sequence 0 (take number filling) ++ one n ∷ []) at
    ∙ ap (λ (n : ℕ). placed sequence 0 (take number filling) ++ one (point_at sequence n) ∷ []) (sym place)
    ∙ sym (placed-push sequence 0 (take number filling) (get_or filling number d))
    ∙ ap (λ (es : List Entry). placed sequence 0 es) (sym (take_more filling number d inside)))
