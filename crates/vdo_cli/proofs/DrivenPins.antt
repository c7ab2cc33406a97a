-- Rows that pin how a core served a session (`IsDriven`), what its report tells (`IsReported`), and what happened to the
-- device on the way (`Happens`). Those that are accepted are of the session of a script that asks for nothing.
use Rattle.std.proofs.Common.{ℕ, ◌≡◌, ◌≢◌, ◌<◌, ◌+◌, ◌^◌, ◌++◌, Bool, true, false, List, [], ◌∷◌, ◌*◌, length, replicate, slice_get, Some, None, IsSome, refl, sym, ◌∙◌, ap, subst, inl, inr, arith}
use Rattle.blk_base.specs.declared.opened.Opened.{Opened}
use Rattle.blk_base.specs.declared.place.Mapping.TheVariants.{At, Unmapped}
use Rattle.blk_base.specs.declared.place.PageId.{PageId}
use Rattle.blk_base.specs.declared.place.Pbn.{Pbn}
use Rattle.blk_base.specs.declared.request.Answer.{Answer as Reply}
use Rattle.blk_base.specs.declared.request.Answer.TheVariants as reply
use Rattle.blk_base.specs.declared.request.Request.TheVariants as request
use Rattle.blk_base.specs.declared.request.Writer.{Writer}
use Rattle.blk_base.specs.Forms.{lba as address}
use Rattle.disk_model.specs.declared.call.Call.{Call}
use Rattle.disk_model.specs.declared.call.Call.TheVariants.{Write, Flush}
use Rattle.disk_model.specs.Log.{Blocks}
use Rattle.disk_model.specs.Seen.{Seen}
use Rattle.disk_model.specs.Trust.{Trust, trust_of}
use Rattle.data_vio.specs.declared.sizes.Sizes.{Sizes}
use Rattle.core_model.specs.PageLinks.{opened_page}
use Rattle.core_model.specs.Sessions.{Session}
use Rattle.core_model.specs.SessionLimits.{requests_in}
use Rattle.core_model.specs.Start.{IsFirst, IsFirstData}
use Rattle.core_model.specs.declared.zones.Zone.{Zone}
use Rattle.core_model.specs.declared.zones.ZoneData.{ZoneData}
use Rattle.core_model.specs.declared.zones.ZoneData.TheVariants as kind
use Rattle.core_model.specs.Trace.{Calls, Fails, Happening, Says, Seals, Trace, lines}
use Rattle.core_model.specs.Uses.{counted, uncounted, used_at}
use Rattle.page_codec.specs.declared.fault.PageFault.{PageFault}
use Rattle.rebuild.specs.declared.forms.Recovered.{Recovered}
use Rattle.schedule.specs.Turns.{Drives, Driving, driving}
use Rattle.stream_text.specs.StreamRequests.{no_requests}
use Rattle.vdo_core.specs.Cores.{CanBegin}
use Rattle.vdo_core.specs.Done.{IsDone}
use Rattle.vdo_core.proofs.SessionLaws.{bare}
use Rattle.vdo_core.specs.Plays.{core_with}
use Rattle.vdo_core.specs.declared.cores.Setup.{Setup}
use Rattle.vdo_core.specs.declared.events.Event.{Event}
use Rattle.vdo_model.specs.DeskLog.{answer_of}
use Rattle.vdo_model.specs.FlushMarks.{Moment, Desk, Device, lines_of}
use Rattle.vdo_model.specs.Scripts.{Script, request_at}
use Rattle.vdo_model.specs.declared.report.Damage.TheVariants.{Page, Stray}
use Rattle.vdo_model.specs.declared.report.DeskLine.{DeskLine}
use Rattle.vdo_model.specs.declared.report.DeskLine.TheVariants.{Begin, Answer}
use Rattle.vdo_model.specs.declared.report.RunReport.{RunReport}
use Rattle.vdo_model.proofs.Example.{of_a}
use Rattle.zone_counts.specs.Zone.{Zone as Counters}
use Rattle.vdo_cli.specs.Openings.{IsReady}
use Rattle.vdo_cli.specs.Sessions.{HasStray, IsDriven, IsOver, IsReported, task, task_sizes}
use Rattle.vdo_cli.specs.Stops.{Happens}
use Rattle.vdo_cli.proofs.EmptyScript.{AreFirst, empty_driven, empty_happens, empty_report, empty_reported, still_report, usual_setup, usual_sizes}
use Rattle.vdo_cli.proofs.PlayPins.{device}
use Rattle.vdo_cli.proofs.SessionLaws.{answered, turns_call, turns_lead}

-- Accepted: of an image that is ready and links no page, all three parts of the session of no request.
module _ (schedule : ℕ) (found : Recovered) (start : Opened) (before opened : Seen) (ready : IsReady (trust_of true true) before opened found start)
    (unlinked : (page : PageId) → opened_page start.pages.items page ≡ None) (counts : Counters) (first : AreFirst start counts) (named : start.head.geometry.nonce < 2 ^ 64) where
  driven-empty : IsDriven (trust_of true true) schedule (task usual_setup start no_requests) [] opened opened
  driven-empty = empty_driven (trust_of true true) schedule found start before opened ready unlinked counts first

  reported-empty : IsReported usual_setup start (still_report start) [] opened opened
  reported-empty = empty_reported (trust_of true true) schedule found start before opened ready unlinked counts first

  happens-empty : Happens [] (still_report start) before opened opened
  happens-empty = empty_happens (trust_of true true) schedule found start before opened ready unlinked counts first named refl

-- IsDriven. By schedule 7 over some image.
abbrev session_over : Opened → Script → Session
session_over start script = bare (usual_sizes start.head) script start

is_over : (start : Opened) (script : Script) → IsOver (task usual_setup start script) (session_over start script)
is_over start script = record { sizes_is = refl; script_is = refl; links_is = refl; counters_are = refl }

-- a core that begins with no request is done, so it takes no turn, and nothing happens
done_by : (s : Session) (zones : List Zone) (zone : Zone) (keeps : ZoneData) → slice_get zones 0 ≡ Some zone → zone.keeps ≡ keeps → s.script ≡ no_requests → IsFirstData s 0 keeps → IsDone zones
done_by s zones zone (kind.Desk desk) had is none own = record {
  zone = zone;
  desk = desk;
  had = had;
  keeps = is;
  full = ap (λ (log : List DeskLine). length log) own.log ∙ sym (ap (λ (script : Script). 2 * requests_in script) (own.requests ∙ none));
}
done_by s zones zone (kind.Logical l) had is none own = absurd (omega (arith, own.number_is))
done_by s zones zone (kind.Physical p) had is none own = absurd (omega (arith, own.number_is))
done_by s zones zone (kind.Journal j) had is none own = absurd (omega (arith, own.number_is))
done_by s zones zone (kind.Device d) had is none own = absurd (omega (arith, own.number_is))

begins_done : (s : Session) (zones : List Zone) → s.script ≡ no_requests → IsFirst s (core_with zones []) → IsDone zones
begins_done s [] none first = absurd (omega (arith, first.count))
begins_done s (zone ∷ zones) none first = done_by s (zone ∷ zones) zone zone.keeps refl refl none (first.each 0 zone refl).own

makes_nothing : (trust : Trust) (sizes : Sizes) (events : List Event) (old new : Driving) (made : Trace) → IsDone old.vdo.zones
    → Drives trust sizes events old new made → made ≡ []
makes_nothing trust sizes [] old new made done (same, nothing) = nothing
makes_nothing trust sizes (e ∷ events) old new made done (between, early, late, undone, turn, one, rest, is) = absurd (undone done)

driven-empty_no_more : (start : Opened) (before after : Seen) → IsDriven (trust_of true false) 7 (task usual_setup start no_requests) (Seals ∷ []) before after → ⊥
driven-empty_no_more start before after driven =
    let done = begins_done (session_over start no_requests) driven.first refl (driven.begins (session_over start no_requests) (is_over start no_requests)) in
    let old = driving 7 driven.first before in
    let new = driving driven.state driven.last after in
    let nothing = makes_nothing (trust_of true false) (usual_sizes start.head) driven.events old new (Seals ∷ []) done driven.drives in
    absurd cc

module _ (start : Opened) (script : Script) (trace : Trace) (before after : Seen) (driven : IsDriven (trust_of true false) 7 (task usual_setup start script) trace before after) where
  -- the first core is one of the session: it has zones
  driven-not_from_no_zone : driven.first ≡ [] → ⊥
  driven-not_from_no_zone none = let first = driven.begins (session_over start script) (is_over start script) in omega (arith, first.count, ap length none)

  -- the turns begin with the number of this schedule; without any the core stays as it is, and nothing happens; and a core
  -- that is done takes none
  abbrev Led : List Event → Type 0
  Led events = Drives (trust_of true false) (usual_sizes start.head) events (driving 7 driven.first before) (driving driven.state driven.last after) trace

  driven-not_by_schedule_8 : driven.events ≡ [] → driven.state ≡ 8 → ⊥
  driven-not_by_schedule_8 none is = let led : Led [] = subst Led none driven.drives in omega (arith, ap (λ (d : Driving). d.state) led.0, is)

  driven-not_without_a_turn : driven.events ≡ [] → driven.last ≢ driven.first → ⊥
  driven-not_without_a_turn none differ = let led : Led [] = subst Led none driven.drives in differ (ap (λ (d : Driving). d.vdo.zones) led.0)

  driven-not_more_without_a_turn : driven.events ≡ [] → trace ≢ [] → ⊥
  driven-not_more_without_a_turn none some = let led : Led [] = subst Led none driven.drives in some led.1

  driven-not_beyond_the_end : (e : Event) (events : List Event) → driven.events ≡ e ∷ events → IsDone driven.first → ⊥
  driven-not_beyond_the_end e events some done = let led : Led (e ∷ events) = subst Led some driven.drives in led.3 done

  -- the last core is done, and so every request is answered by what happened on the way
  driven-not_to_no_zone : driven.last ≡ [] → ⊥
  driven-not_to_no_zone none = let had = driven.done.had in let nothing : None ≡ Some driven.done.zone = rw none at had in absurd cc

  driven-not_without_an_answer : CanBegin (usual_sizes start.head) script start → (w : Writer) → IsSome (request_at script w) → answer_of (lines trace) w ≡ None → ⊥
  driven-not_without_an_answer can w asked none =
      let leads = turns_lead (trust_of true false) (usual_sizes start.head) 7 driven.state driven.events driven.first driven.last before after trace driven.drives in
      let called = turns_call (trust_of true false) (usual_sizes start.head) 7 driven.state driven.events driven.first driven.last before after trace driven.drives in
      let all = answered (trust_of true false) usual_setup start script driven.first driven.last trace before after can driven.begins leads driven.done called in
      let has : IsSome (answer_of (lines trace) w) = all w asked in
      absurd (let unanswered = rw none at has in cc)

-- the device has the calls that happened, and no other
driven-not_called_besides : (start : Opened) (script : Script) (opening : Blocks) → IsDriven (trust_of true false) 7 (task usual_setup start script) [] (device opening [] 0 0) (device opening (Flush true ∷ []) 0 0) → ⊥
driven-not_called_besides start script opening driven =
    let called = turns_call (trust_of true false) (usual_sizes start.head) 7 driven.state driven.events driven.first driven.last (device opening [] 0 0) (device opening (Flush true ∷ []) 0 0) [] driven.drives in
    let size = ap length (called.log refl) in
    omega (arith, size)

-- task, task_sizes: the zones and the depth are those of the setup, each of its own kind
abbrev two_by_three : Setup
two_by_three = record { logical_zones = 2; physical_zones = 3; depth = 5 }

sizes_of_two_by_three : (start : Opened) (script : Script) → task_sizes (task two_by_three start script)
    ≡ record { geometry = start.head.geometry; start = start.head.start; zones = 2; physical = 3; depth = 5 }
sizes_of_two_by_three start script = refl

over-not_zones_changed_about : (start : Opened) (script : Script) (s : Session) → IsOver (task two_by_three start script) s → s.sizes.zones ≡ 3 → ⊥
over-not_zones_changed_about start script s over three = omega (arith, three, ap (λ (sizes : Sizes). sizes.zones) over.sizes_is)

over-not_of_another_depth : (start : Opened) (script : Script) (s : Session) → IsOver (task two_by_three start script) s → s.sizes.depth ≡ 1 → ⊥
over-not_of_another_depth start script s over one = omega (arith, one, ap (λ (sizes : Sizes). sizes.depth) over.sizes_is)

-- IsReported. The session is that of this image, with as many logical zones as its setup has
reported-not_of_two_zones : (start : Opened) (report : RunReport) (trace : Trace) (before after : Seen) (reported : IsReported usual_setup start report trace before after)
    → reported.session.sizes.zones ≡ 2 → ⊥
reported-not_of_two_zones start report trace before after reported two = omega (arith, two, ap (λ (sizes : Sizes). sizes.zones) reported.is_over.sizes_is)

-- the report has the places that were drawn, here none
abbrev placed_report : Opened → RunReport
placed_report start = record (still_report start) { places = record { request = of_a 0; zone = 0; place = 0 } ∷ [] }

reported-not_with_other_places : (start : Opened) (before after : Seen) → IsReported usual_setup start (placed_report start) [] before after → ⊥
reported-not_with_other_places start before after reported =
    let places = ap (λ (report : RunReport). length report.places) reported.report_is in
    let zones = ap (λ (sizes : Sizes). sizes.zones) reported.is_over.sizes_is in
    let none = rw zones at places in
    omega (arith, none)

-- no more requests of a stream are under way than its depth
abbrev deep_report : RunReport
deep_report = record empty_report { requests = (request.Flush ∷ request.Flush ∷ []) ∷ replicate 15 []; desk = Begin (record { stream = 0; number = 1 }) ∷ Begin (of_a 0) ∷ [] }

reported-not_deeper : (start : Opened) (trace : Trace) (before after : Seen) → IsReported usual_setup start deep_report trace before after → ⊥
reported-not_deeper start trace before after reported = omega (arith, reported.run_right.desk_log.0.2)

-- nothing is begun that wasn't asked
abbrev begun_report : RunReport
begun_report = record empty_report { desk = Begin (of_a 0) ∷ [] }

reported-not_another_desk : (start : Opened) (trace : Trace) (before after : Seen) → IsReported usual_setup start begun_report trace before after → ⊥
reported-not_another_desk start trace before after reported = absurd (let asked = reported.run_right.desk_log.0.1 in cc)

-- an answer has its cause: a read of address 1 isn't beyond a logical size of 2
abbrev read_report : RunReport
read_report = record empty_report { requests = (request.Read (address 1) ∷ []) ∷ replicate 15 []; desk = Answer (of_a 0) reply.Range ∷ Begin (of_a 0) ∷ [] }

reported-not_beyond : (start : Opened) (before after : Seen) → 1 < start.head.geometry.logical
    → IsReported usual_setup start read_report (Says (Answer (of_a 0) reply.Range) ∷ Says (Begin (of_a 0)) ∷ []) before after → ⊥
reported-not_beyond start before after below reported =
    let beyond = reported.causes [] (Says (Begin (of_a 0)) ∷ []) (of_a 0) (request.Read (address 1)) reply.Range refl refl in
    let logical = ap (λ (sizes : Sizes). sizes.geometry.logical) reported.is_over.sizes_is in
    omega (arith, below, beyond, logical)

-- a read that failed made the device's count rise
abbrev fault_report : RunReport
fault_report = record read_report { desk = Answer (of_a 0) reply.ReadFault ∷ Begin (of_a 0) ∷ [] }

reported-not_without_rise : (start : Opened) (trace : Trace) (opening : Blocks) (log log' : List Call) → IsReported usual_setup start fault_report trace (device opening log 0 0) (device opening log' 0 0) → ⊥
reported-not_without_rise start trace opening log log' reported = let rose = reported.faults (of_a 0) (request.Read (address 1)) reply.ReadFault refl refl in omega (arith, rose)

-- a request that was answered stopped, or damaged, was stopped by damage, where no call failed
abbrev answered_with : Reply → RunReport
answered_with a = record read_report { desk = Answer (of_a 0) a ∷ Begin (of_a 0) ∷ [] }

reported-not_stopped_so : (start : Opened) (trace : Trace) (opening : Blocks) (log log' : List Call) → IsReported usual_setup start (answered_with reply.Stopped) trace (device opening log 0 0) (device opening log' 0 0) → ⊥
reported-not_stopped_so start trace opening log log' reported = elim (reported.faults (of_a 0) (request.Read (address 1)) reply.Stopped refl refl) [ inl rose ↦ omega (arith, rose) | inr some ↦ absurd (cc some) ]

reported-not_damaged_so : (start : Opened) (trace : Trace) (before after : Seen) → IsReported usual_setup start (answered_with reply.Damaged) trace before after → ⊥
reported-not_damaged_so start trace before after reported = absurd (let some = reported.faults (of_a 0) (request.Read (address 1)) reply.Damaged refl refl in cc)

-- damage was found of a leaf that was read
nothing_happened : (newer older : Trace) (h : Happening) → [] ≡ newer ++ h ∷ older → ⊥
nothing_happened [] older h is = absurd cc
nothing_happened (first ∷ newer) older h is = absurd cc

reported-not_damaged_by_nothing : (start : Opened) (before after : Seen) (x : Pbn) (fault : PageFault) → IsReported usual_setup start (record (still_report start) { damage = Some (Page x fault) }) [] before after → ⊥
reported-not_damaged_by_nothing start before after x fault reported = let has = reported.damage x fault refl in nothing_happened has.newer has.older _ has.is

reported-not_stray_of_nothing : (start : Opened) (before after : Seen) (x : Pbn) → IsReported usual_setup start (record (still_report start) { damage = Some (Stray x 0) }) [] before after → ⊥
reported-not_stray_of_nothing start before after x reported = let has = reported.stray x 0 refl in nothing_happened has.found.newer has.found.older _ has.found.is

-- IsStrayAt, HasStray: of an entry that replaces this block, whose counter was 0 then
module _ (s : Session) (t : Trace) (x : Pbn) (count : ℕ) where
  stray-not_of_one : HasStray s t x 1 → ⊥
  stray-not_of_one has = absurd (cc has.none)

  stray-not_of_nothing_replaced : (has : HasStray s t x count) → has.entry.old ≡ Unmapped → ⊥
  stray-not_of_nothing_replaced has none = absurd (let both : Unmapped ≡ At x = sym none ∙ has.old_is in cc)

  stray-not_while_counted : (has : HasStray s t x count) → counted s has.found.older has.found.cause.block ≡ 1 → uncounted has.found.older has.found.cause.block ≡ 0 → ⊥
  stray-not_while_counted has one none = let same = has.found.cause.none_counted in omega (arith, same, one, none)

-- the report counts the used blocks of what was opened
abbrev used_with : Sizes → List ℕ → ℕ
used_with sizes counters = used_at (record { sizes = sizes; script = no_requests; links = λ page. None; counters = counters; blocks = []; before = []; image = [] }) []

one_use : (start : Opened) (s : Session) → IsOver (task usual_setup start no_requests) s → used_at s [] ≡ used_with (usual_sizes start.head) start.counters.items
one_use start s over = ap (λ (sizes : Sizes). used_with sizes s.counters) over.sizes_is ∙ ap (λ (counters : List ℕ). used_with (usual_sizes start.head) counters) over.counters_are

reported-not_with_more_used : (start : Opened) (before after : Seen) → IsReported usual_setup start (record (still_report start) { used = used_at (session_over start no_requests) [] + 1 }) [] before after → ⊥
reported-not_with_more_used start before after reported =
    let used = ap (λ (report : RunReport). report.used) reported.report_is in
    let same = one_use start reported.session reported.is_over in
    omega (arith, used, same)

-- no write follows a flush that failed
reported-not_written_after : (start : Opened) (report : RunReport) (before after : Seen) (w : Writer) (x : Pbn) (bytes : List ℕ) (kept : Bool)
    → IsReported usual_setup start report (Calls (Write x bytes true) ∷ Fails w (Flush false) kept ∷ []) before after → ⊥
reported-not_written_after start report before after w x bytes kept reported = absurd (let goes_on = reported.stops.0 refl in cc)

-- Happens.
module _ (moments : List Moment) (report : RunReport) (before opened after : Seen) (happens : Happens moments report before opened after) where
  -- the moments have the lines of the desk log, and the calls of the device
  happens-not_another_line : moments ≡ [] → report.desk ≡ Begin (of_a 0) ∷ [] → ⊥
  happens-not_another_line none begun = let size = ap (λ (ms : List Moment). length (lines_of ms)) (sym none) ∙ ap length (happens.lines ∙ begun) in omega (arith, size)

happens-not_called_besides : (before : Seen) (opening : Blocks)
    → Happens [] empty_report before (device opening [] 0 0) (device opening (Flush true ∷ []) 0 0) → ⊥
happens-not_called_besides before opening happens = let size = ap length happens.calls in omega (arith, size)

-- a flush that was answered Ok has its mark
abbrev flushing : List Moment
flushing = Desk (Answer (of_a 0) reply.Ok) ∷ Device (Flush true) ∷ Desk (Begin (of_a 0)) ∷ []

abbrev unmarked_report : RunReport
unmarked_report = record empty_report { requests = (request.Flush ∷ []) ∷ replicate 15 []; desk = lines_of flushing }

happens-not_without_its_mark : (before opened after : Seen) → Happens flushing unmarked_report before opened after → ⊥
happens-not_without_its_mark before opened after happens = absurd (let has = happens.flushes.all (of_a 0) refl refl in cc)
