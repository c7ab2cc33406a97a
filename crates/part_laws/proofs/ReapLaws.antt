-- The head of the recovery journal, by the watermarks of a trace.
use Rattle.std.proofs.Common.{◌≡◌, ℕ, suc, ◌+◌, ◌-◌, ◌*◌, ◌/◌, ◌%◌, ◌<◌, ◌≤◌, max, ◌⊎◌, inl, inr, Option, None, List, [], ◌∷◌, ◌++◌, length, length-set, slice_index_or, All, refl, ap, sym, arith, ◌∙◌, subst}
use Rattle.std.proofs.lemmas.Bool.Decides.{eqb_tells}
use Rattle.std.proofs.lemmas.List.{get_or-set_same, get_or-set_other, get_or-replicate, length-replicate, get_or_default}
use Rattle.blk_base.specs.Points.{raised}
use Rattle.blk_base.specs.declared.geometry.Geometry.{Geometry}
use Rattle.blk_base.specs.declared.journal_entry.CommittedEntry.{CommittedEntry}
use Rattle.blk_base.specs.declared.point.Point.{Point}
use Rattle.journal_codec.specs.declared.forms.JournalBlock.{JournalBlock}
use Rattle.recovery_journal.specs.Kept.{IsKept, AreRising, rank}
use Rattle.recovery_journal.specs.Log.{Log, Advances, IsBehind, IsDurable, IsNeeded, Seals as SealsBlock, first_sequence, head_of, opening, placed, point_at}
use Rattle.recovery_journal.proofs.RisingLaws.{first_reached, rank_rises}
use Rattle.part_laws.specs.Watermarks.{Setup, watermark}
use Rattle.part_laws.specs.Parts.{HasEntry, Logged}
use Rattle.part_laws.specs.RightTraces.{IsHandled, RightTrace, RiseMayFollow}
use Rattle.part_laws.specs.Stillness.{HasAsked, IsStill}
use Rattle.part_laws.specs.Trace.{Happening, Seals, Trace, IsSealed, needed, risen, sequence}
use Rattle.part_laws.proofs.FallLaws.{watermark_stays}
use Rattle.part_laws.proofs.HeardLaws.{sealed_formed}
use Rattle.part_laws.proofs.WatermarkLaws.{marked_handled}
use Rattle.part_laws.proofs.StillLaws.{watermark_still}
use Rattle.part_laws.specs.ReapedEntries.{HasPoint, IsOther, Reaps, watermark_in}

point_split : (p : ℕ) (es fs : List CommittedEntry) → HasPoint p (es ++ fs) → HasPoint p es ⊎ HasPoint p fs
point_split p [] fs has = inr has
point_split p (e ∷ es) fs (inl this) = inl (inl this)
point_split p (e ∷ es) fs (inr has) = elim (point_split p es fs has) [ inl first ↦ inl (inr first) | inr second ↦ inr second ]

point_front : (p : ℕ) (es fs : List CommittedEntry) → HasPoint p es → HasPoint p (es ++ fs)
point_front p [] fs has = absurd has
point_front p (e ∷ es) fs (inl this) = inl this
point_front p (e ∷ es) fs (inr has) = inr (point_front p es fs has)

point_back : (p : ℕ) (es fs : List CommittedEntry) → HasPoint p fs → HasPoint p (es ++ fs)
point_back p [] fs has = has
point_back p (e ∷ es) fs has = inr (point_back p es fs has)

-- what each watermark is above
durable_below : (watermarks : List Point) (es : List CommittedEntry) (p z : ℕ) → All (λ entry. IsDurable watermarks entry.point) es → HasPoint p es → z < length watermarks
    → p < watermark_in watermarks z
durable_below watermarks [] p z all has inside = absurd has
durable_below watermarks (e ∷ es) p z all (inl this) inside =
    let below : e.point.0 < watermark_in watermarks z = all 0 e (omega arith) z (record { 0 = 0 }) inside in
    omega (arith, this, below)
durable_below watermarks (e ∷ es) p z all (inr has) inside = durable_below watermarks es p z (λ k d within. all (suc k) d (omega (arith, within))) has inside

-- of entries that rise, the first has the least sequence
above_first : (low : ℕ) (es : List CommittedEntry) (high p : ℕ) → AreRising low es high → HasPoint p es → (low ≤ rank p) × (p % 512 < 384)
above_first low [] high p rising has = absurd has
above_first low (e ∷ es) high p rising (inl this) = subst (λ (n : ℕ). (low ≤ rank n) × (n % 512 < 384)) this (rising.1, rising.0)
above_first low (e ∷ es) high p rising (inr has) =
    let r = above_first (rank e.point.0 + 1) es high p rising.2 has in
    (omega (arith, rising.1, r.0), r.1)

first_least : (low : ℕ) (es : List CommittedEntry) (high p n : ℕ) → AreRising low es high → HasPoint p es → first_sequence es n ≤ p / 512
first_least low [] high p n rising has = absurd has
first_least low (e ∷ es) high p n rising (inl this) = omega (arith, this)
first_least low (e ∷ es) high p n rising (inr has) =
    let r = above_first (rank e.point.0 + 1) es high p rising.2 has in
    let less = rank_rises e.point.0 p rising.0 r.1 (omega (arith, r.0)) in
    omega (arith, less)

pub head_rises : (s : Setup) (log : Log) (t : Trace) → RightTrace s t → IsKept log → Reaps s log t → risen s.start t ≤ head_of log
    → RiseMayFollow s (head_of log) t
head_rises s log t right kept reaps more = record { above = more; within = within_of; handled = handled_of }
  where
    within_of : head_of log ≤ sequence s.start t
    within_of = omega (arith, first_reached log.entries log.sequence kept.rising, reaps.number)

    handled_of : (e : Logged) → IsSealed t e → e.at < head_of log * 512 → IsHandled t e
    handled_of e is below = elim (reaps.kept e is) [
      | inl there ↦
          let least = first_least 0 log.entries (log.sequence * 192) e.at log.sequence kept.rising there in
          absurd (omega (arith, below, least))
      | inr low ↦ λ z p has. marked_handled s t e z p right is (low z ((sealed_formed s t e right is).inside z p has)) has
    ]

-- as it begins
pub opening_reaps : (s : Setup) (g : Geometry) → Reaps s (opening g s.start s.zones) []
opening_reaps s g = record {
  number = refl;
  count = length-replicate s.zones (record { 0 = point_at s.start 0 });
  watermarks = marks_of;
  kept = λ e is. absurd is;
}
  where
    marks_of : (z : ℕ) → z < s.zones → watermark_in (opening g s.start s.zones).watermarks z ≤ watermark s z []
    marks_of z inside =
        let here = ap (λ (p : Point). p.0) (get_or-replicate s.zones z (record { 0 = point_at s.start 0 }) (record { 0 = 0 }) inside) in
        omega (arith, here)

-- over what happens
pub reaps_on : (s : Setup) (log : Log) (h : Happening) (t : Trace) → IsOther h → RightTrace s (h ∷ t) → Reaps s log t → Reaps s log (h ∷ t)
reaps_on s log (Seals es) t other right reaps = absurd other
reaps_on s log h t other right reaps = record {
  number = reaps.number;
  count = reaps.count;
  watermarks = λ z inside. omega (arith, reaps.watermarks z inside, watermark_stays s h t z right);
  kept = λ e is. elim (reaps.kept e is) [
    | inl there ↦ inl there
    | inr low ↦ inr (λ z inside. omega (arith, low z inside, watermark_stays s h t z right))
  ];
}

-- as a block is sealed
pub reaps_sealed : (s : Setup) (old new : Log) (block : JournalBlock) (es : List Logged) (t : Trace) → RightTrace s (Seals es ∷ t) → SealsBlock old new block
    → ((e : Logged) → HasEntry e es → HasPoint e.at (placed old.sequence 0 old.filling)) → Reaps s old t → Reaps s new (Seals es ∷ t)
reaps_sealed s old new block es t right seals same reaps = record {
  number = ap (λ (l : Log). l.sequence) seals.follows ∙ ap (λ (n : ℕ). n + 1) reaps.number;
  count = ap (λ (l : Log). length l.watermarks) seals.follows ∙ reaps.count;
  watermarks = λ z inside. omega (arith, ap (λ (l : Log). watermark_in l.watermarks z) seals.follows, reaps.watermarks z inside, watermark_stays s (Seals es) t z right);
  kept = kept_of;
}
  where
    into : (p : ℕ) → HasPoint p (old.entries ++ placed old.sequence 0 old.filling) → HasPoint p new.entries
    into p has = subst (λ (l : Log). HasPoint p l.entries) (sym seals.follows) has

    kept_of : (e : Logged) → HasEntry e es ⊎ IsSealed t e → HasPoint e.at new.entries ⊎ ((z : ℕ) → z < s.zones → e.at < watermark s z (Seals es ∷ t))
    kept_of e (inl has) = inl (into e.at (point_back e.at old.entries (placed old.sequence 0 old.filling) (same e has)))
    kept_of e (inr is) = elim (reaps.kept e is) [
      | inl there ↦ inl (into e.at (point_front e.at old.entries (placed old.sequence 0 old.filling) there))
      | inr low ↦ inr (λ z inside. omega (arith, low z inside, watermark_stays s (Seals es) t z right))
    ]

-- as a watermark rises
watermark_raised : (s : Setup) (watermarks : List Point) (z : ℕ) (point : Point) (t : Trace) (k : ℕ) → z < length watermarks → point.0 ≤ watermark s z t
    → watermark_in watermarks k ≤ watermark s k t → watermark_in (raised watermarks z point) k ≤ watermark s k t
watermark_raised s watermarks z point t k inside most before = elim (eqb_tells k z) [
  | inl same ↦
      let top : Point = record { 0 = max (slice_index_or watermarks z point).0 point.0 } in
      let here : watermark_in (raised watermarks z point) z ≡ top.0 = ap (λ (p : Point). p.0) (get_or-set_same watermarks z top (record { 0 = 0 }) inside) in
      let old : (slice_index_or watermarks z point).0 ≡ watermark_in watermarks z = ap (λ (p : Point). p.0) (get_or_default watermarks z point (record { 0 = 0 }) inside) in
      let was : watermark_in watermarks z ≤ watermark s z t = subst (λ (n : ℕ). watermark_in watermarks n ≤ watermark s n t) same.1 before in
      subst (λ (n : ℕ). watermark_in (raised watermarks z point) n ≤ watermark s n t) (sym same.1) (omega (arith, here, old, was, most))
  | inr other ↦
      let top : Point = record { 0 = max (slice_index_or watermarks z point).0 point.0 } in
      let there = ap (λ (p : Point). p.0) (get_or-set_other watermarks z k top (record { 0 = 0 }) other.1) in
      omega (arith, there, before)
]

pub reaps_advanced : (s : Setup) (old new : Log) (z : ℕ) (point : Point) (t : Trace) → z < s.zones → Advances old new z point → point.0 ≤ watermark s z t
    → Reaps s old t → Reaps s new t
reaps_advanced s old new z point t inside advances most reaps = record {
  number = ap (λ (l : Log). l.sequence) advances.rest ∙ reaps.number;
  count = count_of;
  watermarks = marks_of;
  kept = kept_of;
}
  where
    count_of : length new.watermarks ≡ s.zones
    count_of = ap (λ (ps : List Point). length ps) advances.watermarks ∙ length-set old.watermarks z (record { 0 = max (slice_index_or old.watermarks z point).0 point.0 }) ∙ reaps.count

    marks_of : (k : ℕ) → k < s.zones → watermark_in new.watermarks k ≤ watermark s k t
    marks_of k within =
        subst (λ (ps : List Point). watermark_in ps k ≤ watermark s k t) (sym advances.watermarks)
        (watermark_raised s old.watermarks z point t k (omega (arith, inside, reaps.count)) most (reaps.watermarks k within))

    low_of : (e : Logged) → HasPoint e.at advances.durable → (k : ℕ) → k < s.zones → e.at < watermark s k t
    low_of e gone k within =
        omega (arith, durable_below new.watermarks advances.durable e.at k advances.done gone (omega (arith, within, count_of)), marks_of k within)

    split : (e : Logged) → HasPoint e.at advances.durable ⊎ HasPoint e.at new.entries → HasPoint e.at new.entries ⊎ ((k : ℕ) → k < s.zones → e.at < watermark s k t)
    split e (inl gone) = inr (low_of e gone)
    split e (inr there) = inl there

    kept_of : (e : Logged) → IsSealed t e → HasPoint e.at new.entries ⊎ ((k : ℕ) → k < s.zones → e.at < watermark s k t)
    kept_of e is = elim (reaps.kept e is) [
      | inl there ↦ split e (point_split e.at advances.durable new.entries (subst (λ (es : List CommittedEntry). HasPoint e.at es) advances.parts there))
      | inr low ↦ inr low
    ]

-- a lower point is behind what wasn't handed out too
pub behind_lower : (log : Log) (point lower : Point) → lower.0 ≤ point.0 → IsBehind log point → IsBehind log lower
behind_lower log point lower less behind = record {
  sealed = λ k d inside. omega (arith, less, behind.sealed k d inside);
  filling = omega (arith, less, behind.filling);
}

-- once all is still
watermark_passed : (s : Setup) (t : Trace) (z h : ℕ) → RightTrace s t → IsStill s t → z < s.zones → h * 512 ≤ needed t + 1 → h ≤ sequence s.start t → h * 512 ≤ watermark s z t
watermark_passed s t z h right still inside need filled =
    let low = watermark_still s t z (h * 512) right still inside need (omega (arith, filled)) in
    omega (arith, low)

first_passed : (s : Setup) (t : Trace) (h n : ℕ) (watermarks : List Point) (es : List CommittedEntry) → h ≤ n
    → ((z : ℕ) → z < length watermarks → h * 512 ≤ watermark_in watermarks z) → All (λ entry. IsNeeded watermarks entry.point) es → h ≤ first_sequence es n
first_passed s t h n watermarks [] filled passed all = filled
first_passed s t h n watermarks (e ∷ es) filled passed all =
    let needs : IsNeeded watermarks e.point = all 0 e (omega arith) in
    let here : watermark_in watermarks needs.0 ≡ needs.1.0 = ap (λ (p : Point). p.0) (get_or_default watermarks needs.0 (record { 0 = 0 }) needs.1 needs.2 ∙ needs.3) in
    omega (arith, passed needs.0 needs.2, here, needs.4)

pub slot_when_still : (s : Setup) (log : Log) (t : Trace) → RightTrace s t → IsStill s t → IsKept log → Reaps s log t
    → ((z : ℕ) → z < s.zones → watermark s z t ≤ watermark_in log.watermarks z) → 2 ≤ log.size → HasAsked s log.size t
    → log.sequence + 2 ≤ head_of log + log.size
slot_when_still s log t right still kept reaps exact ring need =
    let h : ℕ = log.sequence + 2 - log.size in
    let first = first_passed s t h log.sequence log.watermarks log.entries (omega (arith, ring)) passed kept.needed in
    omega (arith, first)
  where
    passed : (z : ℕ) → z < length log.watermarks → (log.sequence + 2 - log.size) * 512 ≤ watermark_in log.watermarks z
    passed z within =
        let inside : z < s.zones = omega (arith, within, reaps.count) in
        let low = watermark_passed s t z (log.sequence + 2 - log.size) right still inside (omega (arith, need, reaps.number)) (omega (arith, ring, reaps.number)) in
        omega (arith, low, exact z inside)
