-- The reports that a logical zone keeps: one of a request is of its own entry.
use Rattle.std.proofs.Common.{◌≡◌, ℕ, Bool, true, if◌then◌else◌, false, not, ◌&&◌, Contains, Option, None, Some, is_some, List, [], ◌∷◌, refl, sym, ◌∙◌, ap, subst, inl, inr, arith}
use Rattle.std.proofs.lemmas.List.Elements.{All-from_recursion, recursion_from_All}
use Rattle.std.specs.List.{find}
use Rattle.blk_base.specs.declared.place.Mapping.TheVariants.{Unmapped, Zero, At}
use Rattle.core_laws.proofs.Common.{AllByRecursion, IsEntered, Logged, Makes, Mapping, OnBlock, Remapping, Remaps, RightTrace, Session, Trace, Vio, Writer, entered, logged_of, remapping, remappings, same_Some, same_tells, same_writer}
use Rattle.core_laws.proofs.kept.Spared.{contains_cut}
use Rattle.core_laws.proofs.trace.DeskOfTrace.{IsKnown, committed_entered}
use Rattle.core_model.specs.LogicalFacts.{AwaitsReport, ReportOk}
use Rattle.core_model.specs.LogicalRules.{is_reported, reports_left, without_report}
use Rattle.core_model.specs.PageLinks.{block_in}
use Rattle.core_model.specs.RightTraces.{IsReported}
use Rattle.core_model.specs.Trace.{durable, passed}
use Rattle.plain_laws.proofs.FirstLaws.{All-but_first, All-find, find-but_first_none, find-passes}
use Rattle.plain_laws.proofs.ListLaws.{every-front}

-- what holds of the remappings among entries holds of one of them
pub each_logged : (P : Remapping → Type 0) (es : List Logged) (e : Remapping) → AllByRecursion P (remappings es) → Contains es (Remaps e) → P e
each_logged P [] e all has = let below = has.1 in absurd (omega (arith, below))
each_logged P (Remaps f ∷ es) e all has = elim (contains_cut (Remaps f) es (Remaps e) has) [
  | inl same ↦ let one : f ≡ e = cc in subst P one all.0
  | inr rest ↦ each_logged P es e all.1 rest
]
each_logged P (Makes p ∷ es) e all has = elim (contains_cut (Makes p) es (Remaps e) has) [
  | inl same ↦ absurd cc
  | inr rest ↦ each_logged P es e all rest
]

-- a report of a request is of its entry
pub own_report : (s : Session) (t : Trace) (zone : ℕ) (v : Vio) (e : Remapping) → RightTrace s t → IsEntered s t v → ReportOk s t zone e → same_writer e.request v.request ≡ true → e ≡ remapping v
own_report s t zone v e right is report same =
    let known = each_logged (IsKnown (entered t)) (durable t) e (every-front (IsKnown (entered t)) (remappings (durable t)) (passed t) (committed_entered s t right)).0 report.0.decrement.committed in
    elim (same_tells e.request v.request) [
      | inl one ↦ same_Some _ _ (sym known ∙ ap (λ (w : Writer). logged_of (entered t) w) one.1 ∙ is.entry)
      | inr other ↦ absurd (let no = other.0 in cc)
    ]

-- so where it doesn't wait for its report, that came
pub came : (s : Session) (t : Trace) (zone : ℕ) (reported : List Remapping) (v : Vio) → RightTrace s t → IsEntered s t v → AllByRecursion (ReportOk s t zone) reported
    → (m : Mapping) → (is_some (block_in m) && not (is_reported v.request reported)) ≡ false → OnBlock (λ x. IsReported t (remapping v)) m
came s t zone reported v right is all Unmapped waits = tt
came s t zone reported v right is all Zero waits = tt
came s t zone reported v right is all (At x) waits = by (find (λ e. same_writer e.request v.request) reported) refl waits
  where
    by : (o : Option Remapping) → find (λ e. same_writer e.request v.request) reported ≡ o → not (is_some o) ≡ false → IsReported t (remapping v)
    by None none waits = absurd cc
    by (Some e) found waits =
        let report = All-find (λ e. same_writer e.request v.request) (ReportOk s t zone) reported e (All-from_recursion (ReportOk s t zone) reported all) found in
        let own = own_report s t zone v e right is report (find-passes (λ e. same_writer e.request v.request) reported e found) in
        subst (IsReported t) own report.0.reported

-- without that of a request the others are there as before
pub left_ok : (s : Session) (t : Trace) (zone : ℕ) (reported : List Remapping) (v : Vio) → AllByRecursion (ReportOk s t zone) reported → AllByRecursion (ReportOk s t zone) (reports_left v reported)
left_ok s t zone reported v all = by (is_some (block_in v.old))
  where
    by : (b : Bool) → AllByRecursion (ReportOk s t zone) (if b then without_report v.request reported else reported)
    by true = recursion_from_All (ReportOk s t zone) (without_report v.request reported) (All-but_first (λ e. same_writer e.request v.request) (ReportOk s t zone) reported (All-from_recursion (ReportOk s t zone) reported all))
    by false = all

not_reported : (w u : Writer) (reported : List Remapping) → is_reported u reported ≡ false → is_reported u (without_report w reported) ≡ false
not_reported w u reported none = ap is_some (find-but_first_none (λ e. same_writer e.request w) (λ e. same_writer e.request u) reported (nothing (find (λ e. same_writer e.request u) reported) none))
  where
    nothing : (o : Option Remapping) → is_some o ≡ false → o ≡ None
    nothing None none = refl
    nothing (Some e) none = absurd cc

-- and those that wait for theirs wait as before
pub waits_still : (zone : ℕ) (reported : List Remapping) (v : Vio) (vs : List Vio) → AllByRecursion (AwaitsReport zone reported) vs → AllByRecursion (AwaitsReport zone (reports_left v reported)) vs
waits_still zone reported v [] all = tt
waits_still zone reported v (u ∷ vs) all = (record { at_home = all.0.at_home; own = all.0.own; replaces = all.0.replaces; none = by (is_some (block_in v.old)) }, waits_still zone reported v vs all.1)
  where
    by : (b : Bool) → is_reported u.request (if b then without_report v.request reported else reported) ≡ false
    by true = not_reported v.request u.request reported all.0.none
    by false = all.0.none
