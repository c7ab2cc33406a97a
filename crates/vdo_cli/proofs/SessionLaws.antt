-- What a session did, from what its core, its schedule and its report say.
use Rattle.std.proofs.Common.{ℕ, suc, ◌≡◌, ◌⊎◌, ◌+◌, ◌<◌, ◌≤◌, ◌^◌, ◌++◌, true, false, IsTrue, List, [], ◌∷◌, Option, Some, None, IsSome, Contains, refl, sym, ◌∙◌, ap, subst, append_assoc, arith, inl, inr}
use Rattle.std.proofs.Math.Path.{fun_ext}
use Rattle.std.proofs.lemmas.List.{append-nil}
use Rattle.blk_base.specs.declared.geometry.Geometry.{Geometry}
use Rattle.blk_base.specs.declared.geometry.Super.{Super}
use Rattle.blk_base.specs.declared.opened.Opened.{Opened}
use Rattle.blk_base.specs.declared.place.Mapping.TheVariants.{At}
use Rattle.blk_base.specs.declared.place.Pbn.{Pbn}
use Rattle.blk_base.specs.declared.request.Answer.{Answer as Reply}
use Rattle.blk_base.specs.declared.request.Answer.TheVariants as reply
use Rattle.blk_base.specs.declared.request.Request.{Request}
use Rattle.blk_base.specs.declared.request.Request.TheVariants as request
use Rattle.blk_base.specs.declared.request.Writer.{Writer}
use Rattle.disk_model.specs.Causes.{Rose}
use Rattle.disk_model.specs.declared.call.Call.{Call}
use Rattle.disk_model.specs.Log.{Blocks}
use Rattle.disk_model.specs.Seen.{Seen, Stays}
use Rattle.disk_model.specs.Since.{SinceThen}
use Rattle.disk_model.specs.Trust.{Trust}
use Rattle.disk_model.proofs.SeenLaws.{stays_on}
use Rattle.image_model.proofs.CountLaws.{is_first_or_behind, none_in_nothing}
use Rattle.image_model.specs.Maps.{value_of}
use Rattle.image_model.specs.Sound.{IsSound}
use Rattle.data_vio.specs.declared.logged.Remapping.{Remapping}
use Rattle.data_vio.specs.declared.sizes.Sizes.{Sizes}
use Rattle.core_model.specs.declared.zones.Zone.{Zone}
use Rattle.core_model.specs.Legal.{Legal}
use Rattle.core_model.specs.PageLinks.{opened_page}
use Rattle.core_model.specs.Reports.{IsMappedIn, opening_values, report_of}
use Rattle.core_model.specs.RightTraces.{HarmMayFollow, HearingMayFollow, MayAnswer, MayFollow, RightTrace}
use Rattle.core_model.specs.Sessions.{Session, IsFair, IsSession}
use Rattle.core_model.specs.Start.{IsFirst}
use Rattle.core_model.specs.Steps.{Leads}
use Rattle.core_model.specs.Trace.{Aborts, Adds, Asks, Withdraws, Passes, Calls, Commits, Draws, Drops, Enters, Seals, Fails, Flushes, Gives, Happening, Harms, Hears, Removes, Says, Sets, Strays, Takes, Trace, calls, damage_in, first_of, has_read_fault, has_stopped, is_harmed, lines, moments, strayed}
use Rattle.core_laws.proofs.kept.FirstState.{legal_first}
use Rattle.core_laws.proofs.trace.AbortsOfTrace.{stops_at_failure}
use Rattle.core_laws.proofs.trace.DamageOfTrace.{fair_undamaged}
use Rattle.core_laws.proofs.trace.MarksOfTrace.{marks_right}
use Rattle.core_laws.proofs.trace.ReportOfTrace.{report_reads_right, run_right}
use Rattle.core_laws.proofs.kept.LegalMoves.{legal_leads}
use Rattle.core_laws.proofs.quiet.Quiet.{quiet_writes}
use Rattle.step_parts.specs.DeviceLog.{HasCalled, RoseBy, failed_calls}
use Rattle.page_codec.specs.declared.fault.PageFault.{PageFault}
use Rattle.rebuild.specs.Openings.{OpensRight}
use Rattle.rebuild.specs.Recoveries.{IsTold}
use Rattle.rebuild.specs.declared.forms.Recovered.{Recovered}
use Rattle.recovery_laws.specs.Kept.{AreInside, image_in}
use Rattle.core_stops.proofs.EndOfTrace.{session_ends}
use Rattle.core_stops.proofs.SoundStops.{sound_stops}
use Rattle.core_stops.proofs.EarlyLaws.{run_is_right}
use Rattle.core_stops.proofs.InsideLaws.{events_inside, inside_both}
use Rattle.core_stops.proofs.LogLaws.{marks_within}
use Rattle.core_stops.proofs.SequenceLaws.{next_clean}
use Rattle.core_stops.specs.Ends.{EndsRight}
use Rattle.core_stops.specs.Logs.{StopsRight, report_from}
use Rattle.core_stops.specs.Sequences.{ShowsValues, next_start}
use Rattle.session_stops.specs.Beginnings.{IsToServe}
use Rattle.vdo_core.specs.declared.cores.Setup.{Setup}
use Rattle.vdo_core.specs.Cores.{CanBegin, sizes_of}
use Rattle.vdo_core.specs.Plays.{core_with}
use Rattle.vdo_core.specs.Done.{IsDone}
use Rattle.vdo_core.proofs.DoneLaws.{answered_when_done}
use Rattle.vdo_core.proofs.SessionLaws.{bare, can_serve, honest_reads, is_of, is_session}
use Rattle.vdo_model.specs.DeskLog.{AllAnswered, answer_of}
use Rattle.vdo_model.specs.FlushMarks.{successes}
use Rattle.vdo_model.specs.QuietWrites.{QuietRight}
use Rattle.vdo_model.specs.RightReads.{ReadsRight}
use Rattle.vdo_model.proofs.NameLaws.{same_tells}
use Rattle.vdo_model.specs.Scripts.{Script, request_at}
use Rattle.vdo_model.specs.declared.report.Damage.{Damage}
use Rattle.vdo_model.specs.declared.report.Damage.TheVariants.{Page, Stray}
use Rattle.vdo_model.specs.declared.report.DeskLine.TheVariants as line
use Rattle.vdo_model.specs.declared.report.RunReport.{RunReport}
use Rattle.vdo_model.specs.Stops.{RightAfterStops}
use Rattle.schedule.specs.Turns.{Drives, driving}
use Rattle.schedule.proofs.TurnLaws.{driven_leads}
use Rattle.vdo_core.specs.Starts.{IsOf}
use Rattle.vdo_core.specs.declared.events.Event.{Event}
use Rattle.vdo_cli.specs.declared.words.Course.{Course}
use Rattle.vdo_cli.specs.Endings.{ServesRequests}
use Rattle.vdo_cli.specs.Openings.{HasSequencesLeft, IsReady}
use Rattle.vdo_cli.specs.Sessions.{HasDamage, HasStray, IsExplained, IsOver, IsReported, IsStrayAt, task}
use Rattle.vdo_cli.specs.Stops.{Happens}
use Rattle.vdo_cli.proofs.OpenedSessions.{as_opened, as_opened_values, head_of_sound}
use Rattle.vdo_cli.proofs.RecoveredImages.{IsLeft, left_by, ready_kept, ready_shows, still_told}

-- what happened before a happening, of a right trace
right_at : (s : Session) (newer older : Trace) (h : Happening) → RightTrace s (newer ++ h ∷ older) → MayFollow s h older
right_at s [] older h right = right.0
right_at s (other ∷ newer) older h right = right_at s newer older h right.2

-- An answer says that the device failed, or that the session was stopped: so many calls failed, or there is this damage.

abbrev IsMetBy : ℕ → Option Damage → Reply → Type 0
IsMetBy failed damage reply.ReadFault = 1 ≤ failed
IsMetBy failed damage reply.Stopped = (1 ≤ failed) ⊎ IsSome damage
IsMetBy failed damage reply.Damaged = IsSome damage
IsMetBy failed damage other = Unit {0}

some_first : (o : Option Damage) (d : Damage) → IsSome (first_of o d)
some_first (Some earlier) d = refl
some_first None d = refl

stopped_told : (t : Trace) → has_stopped t ≡ true → (1 ≤ failed_calls t) ⊎ IsSome (damage_in t)
stopped_told [] stopped = absurd cc
stopped_told (Fails w c kept ∷ t) stopped = inl (omega arith)
stopped_told (Harms w at bytes fault ∷ t) stopped = inr (some_first (damage_in t) (Page at fault))
stopped_told (Hears damage ∷ t) stopped = inr (some_first (damage_in t) damage)
stopped_told (other ∷ t) stopped = stopped_told t stopped

fault_told : (t : Trace) (w : Writer) → has_read_fault t w ≡ true → 1 ≤ failed_calls t
fault_told [] w fault = absurd cc
fault_told (Fails v c kept ∷ t) w fault = omega arith
fault_told (other ∷ t) w fault = fault_told t w fault

harm_told : (t : Trace) (w : Writer) → is_harmed t w ≡ true → IsSome (damage_in t)
harm_told [] w harmed = absurd cc
harm_told (Harms v at bytes fault ∷ t) w harmed = some_first (damage_in t) (Page at fault)
harm_told (Hears damage ∷ t) w harmed = some_first (damage_in t) damage
harm_told (other ∷ t) w harmed = harm_told t w harmed

cause_told : (s : Session) (t : Trace) (w : Writer) (r : Request) (a : Reply) → MayAnswer s t w r a → IsMetBy (failed_calls t) (damage_in t) a
cause_told s t w (request.Read at) reply.Stopped cause = stopped_told t cause.0
cause_told s t w (request.Read at) reply.ReadFault cause = fault_told t w cause.1
cause_told s t w (request.Read at) reply.Damaged cause = harm_told t w cause.1
cause_told s t w (request.Write at bytes fua) reply.Stopped (inl cause) = stopped_told t cause.0
cause_told s t w (request.Write at bytes fua) reply.Stopped (inr (below, at_once)) = stopped_told t at_once.stopped
cause_told s t w (request.Write at bytes fua) reply.ReadFault cause = fault_told t w cause.2
cause_told s t w (request.Write at bytes fua) reply.Damaged cause = harm_told t w cause.2
cause_told s t w (request.Discard at) reply.Stopped (inl cause) = stopped_told t cause.0
cause_told s t w (request.Discard at) reply.Stopped (inr (below, at_once)) = stopped_told t at_once.stopped
cause_told s t w (request.Discard at) reply.ReadFault cause = fault_told t w cause.2
cause_told s t w (request.Discard at) reply.Damaged cause = harm_told t w cause.2
cause_told s t w request.Flush reply.Stopped cause = stopped_told t cause
cause_told s t w request.Flush reply.ReadFault cause = absurd cause
cause_told s t w request.Flush reply.Damaged cause = absurd cause
cause_told s t w r reply.Ok cause = tt
cause_told s t w r (reply.Bytes bytes) cause = tt
cause_told s t w r reply.Range cause = tt
cause_told s t w r reply.NoSpace cause = tt
cause_told s t w r reply.Full cause = tt

-- it stays so where more calls failed, and where there is more damage
more_failed : (n : ℕ) (d : Option Damage) (a : Reply) → IsMetBy n d a → IsMetBy (suc n) d a
more_failed n d reply.ReadFault told = omega (arith, told)
more_failed n d reply.Stopped (inl failed) = inl (omega (arith, failed))
more_failed n d reply.Stopped (inr some) = inr some
more_failed n d reply.Damaged told = told
more_failed n d other told = tt

more_damage : (n : ℕ) (d : Option Damage) (new : Damage) (a : Reply) → IsMetBy n d a → IsMetBy n (first_of d new) a
more_damage n d new reply.ReadFault told = told
more_damage n d new reply.Stopped (inl failed) = inl failed
more_damage n d new reply.Stopped (inr some) = inr (some_first d new)
more_damage n d new reply.Damaged told = some_first d new
more_damage n d new other told = tt

-- so of each answer that there is
answered_told : (s : Session) (t : Trace) (w : Writer) (r : Request) (a : Reply) → RightTrace s t → request_at s.script w ≡ Some r → answer_of (lines t) w ≡ Some a → IsMetBy (failed_calls t) (damage_in t) a
answered_told s [] w r a right asked is = absurd cc
answered_told s (Says (line.Begin v) ∷ t) w r a right asked is = answered_told s t w r a right.2 asked is
answered_told s (Says (line.Answer v b) ∷ t) w r a right asked is = elim (same_tells v w) [
  | inl same ↦
      let answers : b ≡ a = cc (is, same.0) in
      cause_told s t w r a (rw (← same.1, ← answers) (right.0.1 r (rw same.1 asked)))
  | inr other ↦ let older : answer_of (lines t) w ≡ Some a = cc (is, other.0) in answered_told s t w r a right.2 asked older
]
answered_told s (Flushes mark ∷ t) w r a right asked is = elim (same_tells mark.request w) [
  | inl same ↦ let answers : reply.Ok ≡ a = cc (is, same.0) in subst (λ (b : Reply). IsMetBy (failed_calls t) (damage_in t) b) answers tt
  | inr other ↦ let older : answer_of (lines t) w ≡ Some a = cc (is, other.0) in answered_told s t w r a right.2 asked older
]
answered_told s (Fails v c true ∷ t) w r a right asked is = more_failed (failed_calls t) (damage_in t) a (answered_told s t w r a right.2 asked is)
answered_told s (Fails v c false ∷ t) w r a right asked is = more_failed (failed_calls t) (damage_in t) a (answered_told s t w r a right.2 asked is)
answered_told s (Harms v at bytes fault ∷ t) w r a right asked is = more_damage (failed_calls t) (damage_in t) (Page at fault) a (answered_told s t w r a right.2 asked is)
answered_told s (Draws p ∷ t) w r a right asked is = answered_told s t w r a right.2 asked is
answered_told s (Enters e ∷ t) w r a right asked is = answered_told s t w r a right.2 asked is
answered_told s (Seals ∷ t) w r a right asked is = answered_told s t w r a right.2 asked is
answered_told s (Commits e ∷ t) w r a right asked is = answered_told s t w r a right.2 asked is
answered_told s (Sets e ∷ t) w r a right asked is = answered_told s t w r a right.2 asked is
answered_told s (Gives g ∷ t) w r a right asked is = answered_told s t w r a right.2 asked is
answered_told s (Hears damage ∷ t) w r a right asked is = more_damage (failed_calls t) (damage_in t) damage a (answered_told s t w r a right.2 asked is)
answered_told s (Takes v page x ∷ t) w r a right asked is = answered_told s t w r a right.2 asked is
answered_told s (Asks v k ∷ t) w r a right asked is = answered_told s t w r a right.2 asked is
answered_told s (Withdraws v k got ∷ t) w r a right asked is = answered_told s t w r a right.2 asked is
answered_told s (Drops v x to ∷ t) w r a right asked is = answered_told s t w r a right.2 asked is
answered_told s (Adds e ∷ t) w r a right asked is = answered_told s t w r a right.2 asked is
answered_told s (Removes e to ∷ t) w r a right asked is = answered_told s t w r a right.2 asked is
answered_told s (Strays e ∷ t) w r a right asked is = answered_told s t w r a right.2 asked is
answered_told s (Passes e ∷ t) w r a right asked is = answered_told s t w r a right.2 asked is
answered_told s (Aborts e ∷ t) w r a right asked is = answered_told s t w r a right.2 asked is
answered_told s (Calls c ∷ t) w r a right asked is = answered_told s t w r a right.2 asked is

rose : (n before now : ℕ) → 1 ≤ n → RoseBy n before now → Rose before now
rose n before now some by = omega (arith, some, by)

explained : (report : RunReport) (n : ℕ) (before after : Seen) (a : Reply) → IsMetBy n report.damage a → RoseBy n before.faults after.faults → IsExplained report before after a
explained report n before after reply.ReadFault told by = rose n before.faults after.faults told by
explained report n before after reply.Stopped (inl failed) by = inl (rose n before.faults after.faults failed by)
explained report n before after reply.Stopped (inr some) by = inr some
explained report n before after reply.Damaged told by = told
explained report n before after other told by = tt

-- The damage that a trace has.

behind : (s : Session) (h : Happening) (t : Trace) (at : Pbn) (fault : PageFault) → HasDamage s t at fault → HasDamage s (h ∷ t) at fault
behind s h t at fault has = record {
  request = has.request;
  bytes = has.bytes;
  newer = h ∷ has.newer;
  older = has.older;
  is = ap (λ (u : Trace). h ∷ u) has.is;
  cause = has.cause;
}

here : (s : Session) (t : Trace) (w : Writer) (x at : Pbn) (bytes : List ℕ) (found fault : PageFault) → Page x found ≡ Page at fault → HarmMayFollow s w x bytes found t
    → HasDamage s (Harms w x bytes found ∷ t) at fault
here s t w x at bytes found fault same cause =
    let places : x ≡ at = cc same in
    let faults : found ≡ fault = cc same in
    subst (λ (y : Pbn). HasDamage s (Harms w x bytes found ∷ t) y fault) places
    (subst (λ (f : PageFault). HasDamage s (Harms w x bytes found ∷ t) x f) faults
    (record { request = w; bytes = bytes; newer = []; older = t; is = refl; cause = cause }))

first_or_new : (o : Option Damage) (new d : Damage) → first_of o new ≡ Some d → (o ≡ Some d) ⊎ (new ≡ d)
first_or_new (Some earlier) new d is = inl is
first_or_new None new d is = inr cc

damage_of : (s : Session) (t : Trace) (at : Pbn) (fault : PageFault) → RightTrace s t → damage_in t ≡ Some (Page at fault) → HasDamage s t at fault
damage_of s [] at fault right is = absurd cc
damage_of s (Harms w x bytes found ∷ t) at fault right is = elim (first_or_new (damage_in t) (Page x found) (Page at fault) is) [
  | inl earlier ↦ behind s (Harms w x bytes found) t at fault (damage_of s t at fault right.2 earlier)
  | inr new ↦ here s t w x at bytes found fault new right.0
]
damage_of s (Hears damage ∷ t) at fault right is = elim (first_or_new (damage_in t) damage (Page at fault) is) [
  | inl earlier ↦ behind s (Hears damage) t at fault (damage_of s t at fault right.2 earlier)
  | inr new ↦ absurd (let stray : Stray right.0.block 0 ≡ Page at fault = sym right.0.damage_is ∙ new in cc)
]
damage_of s (h ∷ t) at fault right is = behind s h t at fault (damage_of s t at fault right.2 is)

-- Each decrement that found 0 did so at its moment.
later : (s : Session) (h : Happening) (t : Trace) (e : Remapping) → IsStrayAt s t e → IsStrayAt s (h ∷ t) e
later s h t e at = record { newer = h ∷ at.newer; older = at.older; is = ap (λ (u : Trace). h ∷ u) at.is; cause = at.cause }

stray_at : (s : Session) (t : Trace) (e : Remapping) → RightTrace s t → Contains (strayed t) e → IsStrayAt s t e
stray_at s [] e right has = absurd (none_in_nothing e has)
stray_at s (Strays first ∷ t) e right has = elim (is_first_or_behind first (strayed t) e has) [
  | inl same ↦ subst (λ (f : Remapping). IsStrayAt s (Strays first ∷ t) f) same (record { newer = []; older = t; is = refl; cause = right.0 })
  | inr behind ↦ later s (Strays first) t e (stray_at s t e right.2 behind)
]
stray_at s (h ∷ t) e right has = later s h t e (stray_at s t e right.2 has)

-- and one of them is the damage that was told
after : (s : Session) (h : Happening) (t : Trace) (at : Pbn) (count : ℕ) → HasStray s t at count → HasStray s (h ∷ t) at count
after s h t at count has = record { entry = has.entry; old_is = has.old_is; none = has.none; found = later s h t has.entry has.found }

told_now : (s : Session) (t : Trace) (damage : Damage) (at : Pbn) (count : ℕ) → RightTrace s t → HearingMayFollow damage t → damage ≡ Stray at count → HasStray s t at count
told_now s t damage at count right hears is =
    let same : Stray hears.block 0 ≡ Stray at count = sym hears.damage_is ∙ is in
    let block : hears.block ≡ at = cc same in
    let none : 0 ≡ count = cc same in
    record { entry = hears.entry; old_is = hears.old_is ∙ ap At block; none = sym none; found = stray_at s t hears.entry right hears.strays }

stray_of : (s : Session) (t : Trace) (at : Pbn) (count : ℕ) → RightTrace s t → damage_in t ≡ Some (Stray at count) → HasStray s t at count
stray_of s [] at count right is = absurd cc
stray_of s (Harms w x bytes found ∷ t) at count right is = elim (first_or_new (damage_in t) (Page x found) (Stray at count) is) [
  | inl earlier ↦ after s (Harms w x bytes found) t at count (stray_of s t at count right.2 earlier)
  | inr new ↦ absurd (cc new)
]
stray_of s (Hears damage ∷ t) at count right is = elim (first_or_new (damage_in t) damage (Stray at count) is) [
  | inl earlier ↦ after s (Hears damage) t at count (stray_of s t at count right.2 earlier)
  | inr new ↦ after s (Hears damage) t at count (told_now s t damage at count right.2 right.0 new)
]
stray_of s (h ∷ t) at count right is = after s h t at count (stray_of s t at count right.2 is)

-- what happened by turns leads there, and the device had its calls
module _ (trust : Trust) (sizes : Sizes) (state state' : ℕ) (events : List Event) (first last : List Zone) (before after : Seen) (made : Trace)
    (drives : Drives trust sizes events (driving state first before) (driving state' last after) made) where
  pub turns_lead : Leads sizes (core_with first []) (core_with last made)
  turns_lead =
      subst (λ (t : Trace). Leads sizes (core_with first []) (core_with last t)) (append-nil made)
      ((driven_leads trust sizes events (driving state first before) (driving state' last after) made drives).0 [])

  pub turns_call : HasCalled trust before after made
  turns_call = (driven_leads trust sizes events (driving state first before) (driving state' last after) made drives).1

-- A core that began over what was opened, and came to its end.
module _ (trust : Trust) (setup : Setup) (start : Opened) (script : Script) (first last : List Zone) (trace : Trace) (before after : Seen) (can : CanBegin (sizes_of setup start.head) script start)
    (begins : (s : Session) → IsOver (task setup start script) s → IsFirst s (core_with first [])) (leads : Leads (sizes_of setup start.head) (core_with first []) (core_with last trace)) (done : IsDone last)
    (called : HasCalled trust before after trace) where
  -- it is legal, of each session over that
  legal_over : (s : Session) → IsSession s → IsOver (task setup start script) s → Legal s (core_with last trace)
  legal_over s session over =
      legal_leads s (core_with first []) (core_with last trace) session (subst (λ (sizes : Sizes). Leads sizes (core_with first []) (core_with last trace)) (sym over.sizes_is) leads)
      (legal_first s (core_with first []) (begins s over) session)

  -- none of its calls writes a block behind the image
  pub session_inside : AreInside start.head.geometry (calls trace)
  session_inside = events_inside (sizes_of setup start.head) (let some = can.geometry.journal.0 in omega (arith, some)) (core_with first []) (core_with last trace) leads tt

  abbrev over : Session
  over = bare (sizes_of setup start.head) script start

  pub session : IsSession over
  session = is_session (sizes_of setup start.head) script start can

  pub legal : Legal over (core_with last trace)
  legal = legal_over over session (is_of (sizes_of setup start.head) script start can)

  pub answered : AllAnswered script (lines trace)
  answered = answered_when_done over (core_with last trace) legal done

  -- of which it can tell
  abbrev pub report : RunReport
  report = report_of over trace

  pub reported : IsReported setup start report trace before after
  reported = record {
    session = over;
    is_over = is_of (sizes_of setup start.head) script start can;
    report_is = refl;
    run_right = run_right over trace session legal.right answered;
    causes = λ newer older w r a is asked. (right_at over newer older (Says (line.Answer w a)) (subst (RightTrace over) is legal.right)).1 r asked;
    faults = λ w r a asked is. explained report (failed_calls trace) before after a (answered_told over trace w r a legal.right asked is) called.faults;
    damage = λ at fault is. damage_of over trace at fault legal.right is;
    stray = λ at count is. stray_of over trace at count legal.right is;
    stops = stops_at_failure over trace legal.right;
  }

  -- of an honest device, over the one image that there is
  module _ (image : Blocks) (sound : IsSound image) (is : IsTold trust before image) (right : OpensRight image start) (named : start.head.geometry.nonce < 2 ^ 64) where
    abbrev real : Session
    real = record {
      sizes = sizes_of setup start.head;
      script = script;
      links = opened_page start.pages.items;
      counters = start.counters.items;
      blocks = before.opening;
      before = before.log;
      image = image;
    }

    real_over : IsOver (task setup start script) real
    real_over = record { sizes_is = refl; script_is = refl; links_is = refl; counters_are = refl }

    real_session : IsSession real
    real_session = can_serve (sizes_of setup start.head) script start real can real_over

    real_legal : Legal real (core_with last trace)
    real_legal = legal_over real real_session real_over

    -- it is fair
    real_fair : IsFair real trace
    real_fair = record {
      honest = honest_reads real trace (called.given is.told is.fair);
      opened = as_opened real start sound right refl refl refl refl is.one;
    }

    pub reads_of_image : ReadsRight (opening_values real) report.requests report.desk report.places report.histories
    reads_of_image = report_reads_right real trace real_session real_legal.right (real_legal.gives_right real_fair)

    pub undamaged_of_image : report.damage ≡ None
    undamaged_of_image = fair_undamaged real trace real_session real_legal.right real_fair

    pub quiet_of_image : QuietRight (IsMappedIn start.head.geometry start.head.start) start.head.geometry before.opening before.log report (calls trace)
    quiet_of_image = quiet_writes real (core_with first []) (core_with last trace) real_session (begins real real_over) leads real_fair

    -- its values
    pub values_of_image : opening_values real ≡ value_of (image_in image sound)
    values_of_image = fun_ext (as_opened_values real start sound right refl refl refl refl is.one)

    -- the image as it is served
    own_head : sound.head ≡ start.head
    own_head = head_of_sound image sound start right

    abbrev to_serve : sound.head.clean ≡ true → sound.head.start + 2 ^ 19 ≤ 2 ^ 54 → IsToServe image
    to_serve clean late = record {
      sound = sound;
      clean = clean;
      late = late;
      named = subst (λ (h : Super). h.geometry.nonce < 2 ^ 64) (sym own_head) named;
    }

    -- each of its stops leaves a sound image
    pub stops_of_image : sound.head.clean ≡ true → sound.head.start + 2 ^ 19 ≤ 2 ^ 54
        → RightAfterStops (ShowsValues start.head.geometry (start.head.start + 2 ^ 18)) before.opening before.log start.head.geometry.logical (opening_values real) report (calls trace)
    stops_of_image clean late =
        sound_stops real trace (to_serve clean late) real_session real_legal.right real_fair
        (ap (λ (h : Super). h.geometry) own_head) (ap (λ (h : Super). h.start) own_head)

    -- and its end is right
    pub end_of_image : sound.head.clean ≡ true → sound.head.start + 2 ^ 19 ≤ 2 ^ 54
        → EndsRight (ShowsValues start.head.geometry (start.head.start + 2 ^ 18)) before.opening (calls trace ++ before.log) start.head.geometry.logical (opening_values real) report
    end_of_image clean late =
        session_ends real trace (to_serve clean late) real_session real_legal.right real_fair
        (ap (λ (h : Super). h.geometry) own_head) (ap (λ (h : Super). h.start) own_head)

  -- What was done before it.
  module _ (entry : Seen) (found : Recovered) (ready : IsReady trust entry before found start) (named : start.head.geometry.nonce < 2 ^ 64) where
    stays_till : Stays entry before
    stays_till = stays_on entry ready.middle before ready.recovery.stays ready.opening.untouched.stays

    pub happens : IsTrue trust.tells → Happens (moments trace) report entry before after
    happens told =
        let made = ready.recovery.grows told in
        let read = ready.opening.untouched.reads told in
        record {
          earlier = read.0 ++ made.0;
          earlier_is = read.1 ∙ ap (λ (l : List Call). read.0 ++ l) made.1 ∙ sym (append_assoc read.0 made.0 entry.log);
          lines = refl;
          calls = called.log told;
          flushes = marks_right over trace session legal.right;
        }

    -- the image that recovery leaves
    module _ (image : Blocks) (told : IsTold trust entry image) (sound : IsSound image) where
      left_then : IsLeft image sound trust ready.middle
      left_then = left_by trust entry ready.middle image sound found told ready.recovery

      abbrev left : IsLeft image sound trust before
      left = record {
        left = left_then.left;
        is_told = still_told trust ready.middle before left_then.left left_then.is_told ready.opening.untouched;
        is_sound = left_then.is_sound;
        clean = left_then.clean;
        geometry = left_then.geometry;
        values = left_then.values;
        next = left_then.next;
      }

      opens : OpensRight left.left start
      opens = ready.opening.says left_then.left left_then.is_told

      -- no leaf is found not to decode
      pub undamaged_then : report.damage ≡ None
      undamaged_then = undamaged_of_image left.left left.is_sound left.is_told opens named

      pub quiet_then : QuietRight (IsMappedIn start.head.geometry start.head.start) start.head.geometry before.opening before.log report (calls trace)
      quiet_then = quiet_of_image left.left left.is_sound left.is_told opens named

      values_are : opening_values (real left.left left.is_sound left.is_told opens named) ≡ value_of (image_in image sound)
      values_are = values_of_image left.left left.is_sound left.is_told opens named ∙ fun_ext left.values

      pub reads_then : ReadsRight (value_of (image_in image sound)) report.requests report.desk report.places report.histories
      reads_then = subst (λ (values : ℕ → List ℕ). ReadsRight values report.requests report.desk report.places report.histories) values_are
          (reads_of_image left.left left.is_sound left.is_told opens named)

      -- over the log of the whole call
      own_geometry : start.head.geometry ≡ sound.head.geometry
      own_geometry = ap (λ (h : Super). h.geometry) (sym (head_of_sound left.left left.is_sound start opens)) ∙ left.geometry

      -- nothing behind it was written
      pub inside_then : SinceThen (AreInside start.head.geometry) entry.log after.log
      inside_then =
          let made = calls trace in
          let before_it = ready_shows trust entry before image told sound found start ready (next_start image sound) sound.head.geometry.logical (omega arith) in (
            made ++ before_it.0,
            called.log told.told ∙ ap (λ (l : List Call). made ++ l) before_it.1 ∙ sym (append_assoc made before_it.0 entry.log),
            inside_both start.head.geometry made before_it.0 session_inside (subst (λ (g : Geometry). AreInside g before_it.0) (sym own_geometry) before_it.2.1),
          )

      own_start : start.head.start ≡ next_start image sound
      own_start = ap (λ (h : Super). h.start) (sym (head_of_sound left.left left.is_sound start opens))
          ∙ sym (next_clean left.is_sound.head left.is_sound.last left.clean) ∙ left.next

      first_starts : left.is_sound.head.start ≡ next_start image sound
      first_starts = sym (next_clean left.is_sound.head left.is_sound.last left.clean) ∙ left.next

      abbrev Shown : Geometry → ℕ → Blocks → (ℕ → List ℕ) → Type 0
      Shown g from opening values = RightAfterStops (ShowsValues g (from + 2 ^ 18)) opening before.log g.logical values report (calls trace)

      session_stops : HasSequencesLeft image sound → Shown sound.head.geometry (next_start image sound) entry.opening (value_of (image_in image sound))
      session_stops late =
          subst (λ (g : Geometry). Shown g (next_start image sound) entry.opening (value_of (image_in image sound))) own_geometry
          (subst (λ (from : ℕ). Shown start.head.geometry from entry.opening (value_of (image_in image sound))) own_start
          (subst (λ (opening : Blocks). Shown start.head.geometry start.head.start opening (value_of (image_in image sound))) stays_till.opening
          (subst (λ (values : ℕ → List ℕ). Shown start.head.geometry start.head.start before.opening values) values_are
          (stops_of_image left.left left.is_sound left.is_told opens named left.clean (let from = first_starts in omega (arith, late, from))))))

      pub stops_then : HasSequencesLeft image sound
          → StopsRight (ShowsValues sound.head.geometry (next_start image sound + 2 ^ 18)) entry.opening entry.log after.log sound.head.geometry.logical (value_of (image_in image sound))
          (report_from (successes before.log) report)
      stops_then late =
          let most = next_start image sound + 2 ^ 18 in
          let before_it = ready_shows trust entry before image told sound found start ready most sound.head.geometry.logical (omega arith) in
          let happened = happens told.told in
          let now : after.log ≡ calls trace ++ (before_it.0 ++ entry.log) = happened.calls ∙ ap (λ (l : List Call). calls trace ++ l) before_it.1 in
          let session : RightAfterStops (ShowsValues sound.head.geometry most) entry.opening (before_it.0 ++ entry.log) sound.head.geometry.logical (value_of (image_in image sound)) report (calls trace) =
          subst (λ (l : List Call). RightAfterStops (ShowsValues sound.head.geometry most) entry.opening l sound.head.geometry.logical (value_of (image_in image sound)) report (calls trace)) before_it.1
          (session_stops late) in
          let right = run_is_right entry.opening image entry.log before_it.0 (calls trace) sound sound.head.geometry.logical most 0 report
          (marks_within report.requests (moments trace) report.marks happened.flushes) before_it.2.0 session in
          subst (λ (l : List Call). StopsRight (ShowsValues sound.head.geometry most) entry.opening entry.log l sound.head.geometry.logical (value_of (image_in image sound)) (report_from (successes before.log) report))
          (sym now)
          (subst (λ (l : List Call). StopsRight (ShowsValues sound.head.geometry most) entry.opening entry.log (calls trace ++ (before_it.0 ++ entry.log)) sound.head.geometry.logical (value_of (image_in image sound)) (report_from (successes l) report))
          (sym before_it.1) right)

      abbrev Ended : Geometry → ℕ → Blocks → (ℕ → List ℕ) → List Call → Type 0
      Ended g from opening values log = EndsRight (ShowsValues g (from + 2 ^ 18)) opening log g.logical values report

      pub ends_then : HasSequencesLeft image sound → Ended sound.head.geometry (next_start image sound) entry.opening (value_of (image_in image sound)) after.log
      ends_then late =
          subst (λ (g : Geometry). Ended g (next_start image sound) entry.opening (value_of (image_in image sound)) after.log) own_geometry
          (subst (λ (from : ℕ). Ended start.head.geometry from entry.opening (value_of (image_in image sound)) after.log) own_start
          (subst (λ (opening : Blocks). Ended start.head.geometry start.head.start opening (value_of (image_in image sound)) after.log) stays_till.opening
          (subst (λ (values : ℕ → List ℕ). Ended start.head.geometry start.head.start before.opening values after.log) values_are
          (subst (λ (log : List Call). Ended start.head.geometry start.head.start before.opening (opening_values (real left.left left.is_sound left.is_told opens named)) log) (sym (called.log told.told))
          (end_of_image left.left left.is_sound left.is_told opens named left.clean (let from = first_starts in omega (arith, late, from)))))))

    pub plays : (schedule state : ℕ) (events : List Event) → Stays before after
        → Drives trust (sizes_of setup start.head) events (driving schedule first before) (driving state last after) trace
        → ServesRequests trust (record { schedule = schedule; setup = setup }) found start report entry after
    plays schedule state events stays drives = record {
      opened = before;
      ready = ready;
      trace = trace;
      driven = record {
        first = first;
        last = last;
        begins = begins;
        events = events;
        state = state;
        drives = drives;
        done = done;
      };
      reported = reported;
      stays = stays_on entry before after stays_till stays;
      reads_right = λ image told sound. reads_then image told sound;
      undamaged = λ image told sound. undamaged_then image told sound;
      quiet = λ image told sound. quiet_then image told sound;
      happens = happens;
      early = ready_kept trust entry before found start ready;
      inside = λ told. (calls trace, called.log told, session_inside);
      inside_since = λ image told sound. inside_then image told sound;
      stops = λ image told sound late. stops_then image told sound late;
      ends = λ image told sound late. ends_then image told sound late;
    }

-- what a core did that began with what was opened, was driven to its end, and told its report
pub played : (trust : Trust) (course : Course) (state : ℕ) (start : Opened) (script : Script) (sizes : Sizes) (first last : List Zone) (entry before after : Seen) (found : Recovered)
    (report : RunReport) → CanBegin (sizes_of course.setup start.head) script start → IsReady trust entry before found start → start.head.geometry.nonce < 2 ^ 64
    → sizes ≡ sizes_of course.setup start.head
    → ((s : Session) → IsOf s sizes script start → IsFirst s (core_with first []))
    → ((events : List Event) × (made : Trace) × Drives trust sizes events (driving course.schedule first before) (driving state last after) made) → IsDone last → Stays before after
    → ((s : Session) (t : Trace) → IsSession s → Legal s (core_with last t) → IsDone last → report ≡ report_of s t)
    → ServesRequests trust course found start report entry after × (report.requests ≡ script)
played trust course state start script sizes first last entry before after found report can ready named sizes_are begins driven done stays says =
    let sized : sizes ≡ sizes_of course.setup start.head = sizes_are in
    let begins_so = (λ (s : Session) (over : IsOver (task course.setup start script) s). begins s (rw sized over)) in
    let (events, made, drives_so) = driven in
    let drives : Drives trust (sizes_of course.setup start.head) events (driving course.schedule first before) (driving state last after) made =
    subst (λ (z : Sizes). Drives trust z events (driving course.schedule first before) (driving state last after) made) sized drives_so in
    let leads = turns_lead trust (sizes_of course.setup start.head) course.schedule state events first last before after made drives in
    let called = turns_call trust (sizes_of course.setup start.head) course.schedule state events first last before after made drives in
    let report_is = says (over trust course.setup start script first last made before after can begins_so leads done called) made
    (session trust course.setup start script first last made before after can begins_so leads done called)
    (legal trust course.setup start script first last made before after can begins_so leads done called) done in (
      subst (λ (r : RunReport). ServesRequests trust course found start r entry after) (sym report_is)
          (plays trust course.setup start script first last made before after can begins_so leads done called entry found ready named course.schedule state events stays drives),
      ap (λ (r : RunReport). r.requests) report_is,
    )
