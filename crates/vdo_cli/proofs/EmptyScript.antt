-- The session of a script that asks for nothing: over each image that is ready and links no page, a core begins, is done at once,
-- and tells an empty report. So there is a session that was served, and the rows beside this file speak of it.
use Rattle.std.proofs.Common.{ℕ, zero, suc, ◌≡◌, ◌<◌, ◌^◌, ◌∙◌, Bool, false, IsTrue, List, [], ◌∷◌, None, Ok, refl, sym, ap, subst, arith}
use Rattle.std.proofs.lemmas.Option.{same_Some}
use Rattle.std.specs.List.{AllByRecursion}
use Rattle.blk_base.specs.Limits.{IsGeometry}
use Rattle.blk_base.specs.declared.geometry.Geometry.{Geometry}
use Rattle.blk_base.specs.declared.geometry.Super.{Super}
use Rattle.blk_base.specs.declared.opened.Opened.{Opened}
use Rattle.blk_base.specs.declared.place.PageId.{PageId}
use Rattle.blk_base.specs.declared.request.Request.{Request}
use Rattle.data_vio.specs.declared.sizes.Sizes.{Sizes}
use Rattle.core_model.specs.declared.zones.SuperblockStage.TheVariants.{AsOpened}
use Rattle.core_model.specs.declared.zones.Zone.{Zone}
use Rattle.core_model.specs.declared.zones.ZoneData.{ZoneData}
use Rattle.core_model.specs.declared.zones.ZoneData.TheVariants as at
use Rattle.core_model.specs.PageLinks.{opened_page}
use Rattle.core_model.specs.Reports.{report_of}
use Rattle.core_model.specs.Sessions.{Session}
use Rattle.core_model.specs.Start.{IsFirst, IsFirstData, IsFirstZone, first_log}
use Rattle.core_model.specs.Steps.{rests}
use Rattle.disk_model.specs.Seen.{Seen}
use Rattle.disk_model.specs.Trust.{Trust}
use Rattle.disk_model.specs.Streams.{SourceSeen}
use Rattle.plain_laws.specs.Sums.{Each}
use Rattle.rebuild.specs.declared.forms.Recovered.{Recovered}
use Rattle.slab_tickets.specs.Tickets.{Desk, empty_desk}
use Rattle.step_parts.specs.DeviceLog.{HasCalled}
use Rattle.stream_text.specs.StreamRequests.{no_requests}
use Rattle.stream_text.specs.WholeScript.{whole_script}
use Rattle.vdo_core.specs.Cores.{CanBegin, sizes_of}
use Rattle.vdo_core.specs.declared.cores.Setup.{Setup}
use Rattle.vdo_core.specs.Done.{IsDone}
use Rattle.vdo_core.proofs.SessionLaws as sessions
use Rattle.vdo_core.specs.Plays.{core_with}
use Rattle.vdo_model.specs.Scripts.{Script, IsServed}
use Rattle.vdo_words.specs.Commands.{default_core}
use Rattle.vdo_model.specs.declared.report.RunReport.{RunReport}
use Rattle.zone_counts.proofs.FitLaws.{opened_claims}
use Rattle.zone_counts.proofs.OpenedCounts.{opened_here}
use Rattle.zone_counts.specs.Openings.{opened_count}
use Rattle.zone_counts.specs.Zone.{IsOpeningZone, IsZone, Zone as Counters}
use Rattle.vdo_cli.specs.declared.words.Course.{Course}
use Rattle.vdo_cli.specs.Commands.{course_of, setup_of}
use Rattle.vdo_cli.specs.Endings.{RunsSession}
use Rattle.vdo_cli.specs.Openings.{IsReady}
use Rattle.vdo_cli.specs.Sessions.{IsDriven, IsOver, IsReported, task}
use Rattle.vdo_cli.specs.Stops.{Happens}
use Rattle.vdo_cli.specs.Outsides.{input_setting, inputs}
use Rattle.vdo_cli.proofs.BareTrees.{bare, bare_is}
use Rattle.vdo_cli.proofs.ScriptLaws.{can_begin}
use Rattle.vdo_cli.proofs.SessionLaws.{happens, plays, reported}

-- a core that is set up as without options, and its schedule and its sizes
abbrev pub usual_setup : Setup
usual_setup = setup_of default_core

abbrev pub usual : ℕ → Course
usual schedule = course_of schedule default_core

abbrev pub usual_sizes : Super → Sizes
usual_sizes head = sizes_of usual_setup head

-- a report of no request, and the one of a session of none over what was opened
abbrev pub empty_report : RunReport
empty_report = record { requests = no_requests; desk = []; marks = []; receipts = []; places = []; histories = []; damage = None; used = 0; total = 0 }

abbrev pub still_report : Opened → RunReport
still_report start = report_of (sessions.bare (usual_sizes start.head) no_requests start) []

-- the counters with which the physical zone begins
pub record AreFirst (start : Opened) (counts : Counters) : Type 0 where
  pub opens : IsOpeningZone start 0 1 32 counts
  pub right : IsZone counts

-- The first core over what was opened, with this script.
module _ (start : Opened) (script : Script) (counts : Counters) where
  abbrev pub first_zone : ℕ → ZoneData → Zone
  first_zone number keeps = record { number = number; steps = 0; keeps = keeps; ports = record { inbox = []; outboxes = [] ∷ [] ∷ [] ∷ [] ∷ [] ∷ [] } }

  abbrev pub first_zones : List Zone
  first_zones =
      first_zone 0 (at.Desk (record { requests = script; log = []; marks = []; receipts = []; notices = 0; parked = [] }))
      ∷ first_zone 1 (at.Logical (record { zone = 0; notified = false; next = 0; places = []; held = []; waiting = []; retired = []; tree = bare start.head.geometry; making = []; lacking = []; unlinkable = []; settling = []; reported = []; slots = [] }))
      ∷ first_zone 2 (at.Physical (record { notified = false; strays = []; counts = counts }))
      ∷ first_zone 3 (at.Journal (record { notified = false; busy = false; broken = false; log = first_log (usual_sizes start.head); filling = []; waiting = []; entered = []; committed = [] }))
      ∷ first_zone 4 (at.Device (record { stopped = false; calls = 0; superblock = AsOpened; damage = None }))
      ∷ []

  module _ (sizes : IsGeometry start.head.geometry) (unlinked : (page : PageId) → opened_page start.pages.items page ≡ None) (first : AreFirst start counts) (s : Session) (over : IsOver (task usual_setup start script) s) where
    its_geometry : start.head.geometry ≡ s.sizes.geometry
    its_geometry = ap (λ (sizes : Sizes). sizes.geometry) (sym over.sizes_is)

    zones_are : s.sizes.zones ≡ 1
    zones_are = ap (λ (sizes : Sizes). sizes.zones) over.sizes_is

    physical_are : s.sizes.physical ≡ 1
    physical_are = ap (λ (sizes : Sizes). sizes.physical) over.sizes_is

    depth_is : s.sizes.depth ≡ 1
    depth_is = ap (λ (sizes : Sizes). sizes.depth) over.sizes_is

    room_is : counts.desk.room ≡ 32
    room_is = ap (λ (d : Desk). d.room) first.opens.desk

    begun : (number : ℕ) (keeps : ZoneData) → IsFirstData s number keeps → IsFirstZone s number (first_zone number keeps)
    begun number keeps own = record { number_is = refl; steps = refl; lanes = omega (arith, zones_are, physical_are); inbox = refl; outboxes = (refl, (refl, (refl, (refl, (refl, tt))))); own = own }

    each : Each (IsFirstZone s) first_zones
    each zero zone is = subst (IsFirstZone s 0) (same_Some _ _ is) (begun 0 _ (record { number_is = refl; requests = sym over.script_is; log = refl; marks = refl; receipts = refl; notices = refl; parked = refl }))
    each (suc zero) zone is = subst (IsFirstZone s 1) (same_Some _ _ is) (begun 1 _ (record {
      number_is = refl;
      among = omega (arith, zones_are);
      notified = refl;
      next = refl;
      places = refl;
      held = refl;
      waiting = refl;
      retired = refl;
      making = refl;
      lacking = refl;
      unlinkable = refl;
      settling = refl;
      reported = refl;
      tree = rw (over.sizes_is, over.links_is) (bare_is start.head.geometry (opened_page start.pages.items) sizes unlinked);
      slots = refl;
    }))
    each (suc (suc zero)) zone is = subst (IsFirstZone s 2) (same_Some _ _ is) (begun 2 _ (record {
      number_is = omega (arith, zones_are, first.opens.zone);
      notified = refl;
      strays = refl;
      is_zone = first.right;
      geometry = first.opens.geometry ∙ its_geometry;
      zones = first.opens.zones ∙ sym physical_are;
      counters = λ x own.
          (opened_here start 0 1 32 counts first.opens first.right x own).0
          ∙ ap (λ (g : Geometry). opened_count g start.counters.items x) its_geometry
          ∙ ap (λ (ns : List ℕ). opened_count s.sizes.geometry ns x) (sym over.counters_are);
      claims = λ x. opened_claims start 0 1 32 counts first.opens first.right x;
      desk = first.opens.desk ∙ ap (λ (zone : ℕ). empty_desk zone 32) (sym first.opens.zone) ∙ ap (λ (room : ℕ). empty_desk counts.zone room) (sym room_is);
      room = (omega (arith, room_is), omega (arith, room_is, depth_is));
    }))
    each (suc (suc (suc zero))) zone is = subst (IsFirstZone s 3) (same_Some _ _ is) (begun 3 _ (record {
      number_is = omega (arith, zones_are, physical_are);
      notified = refl;
      busy = refl;
      broken = refl;
      log = ap first_log (sym over.sizes_is);
      filling = refl;
      waiting = refl;
      entered = refl;
      committed = refl;
    }))
    each (suc (suc (suc (suc zero)))) zone is = subst (IsFirstZone s 4) (same_Some _ _ is) (begun 4 _ (record { number_is = omega (arith, zones_are, physical_are); stopped = refl; calls = refl; superblock = refl; damage = refl }))
    each (suc (suc (suc (suc (suc i))))) zone is = absurd cc

    pub first_begins : IsFirst s (core_with first_zones [])
    first_begins = record { count = omega (arith, zones_are, physical_are); each = each; trace_is = refl }

-- of a script without requests it is done, and the device isn't called
pub first_done : (start : Opened) (counts : Counters) → IsDone (first_zones start no_requests counts)
first_done start counts = record { zone = _; desk = _; had = refl; keeps = refl; full = refl }

pub not_called : (trust : Trust) (seen : Seen) → HasCalled trust seen seen []
not_called trust seen = record {
  stays = record { opening = refl; size = refl };
  log = λ told. refl;
  given = λ told fair. tt;
  faults = omega arith;
  unkept = omega arith;
  idle = λ none. refl;
}

-- whatever holds of each request holds of none
no_request : (P : Request → Type 0) → AllByRecursion (AllByRecursion P) no_requests
no_request P = (tt, (tt, (tt, (tt, (tt, (tt, (tt, (tt, (tt, (tt, (tt, (tt, (tt, (tt, (tt, (tt, tt))))))))))))))))

-- Over an image that is ready and links no page.
module _ (trust : Trust) (schedule : ℕ) (found : Recovered) (start : Opened) (before opened : Seen) (ready : IsReady trust before opened found start)
    (unlinked : (page : PageId) → opened_page start.pages.items page ≡ None) (counts : Counters) (first : AreFirst start counts) where
  pub can : CanBegin (usual_sizes start.head) no_requests start
  can = can_begin _ usual_setup start no_requests (record { logical = (omega arith, omega arith); physical = (omega arith, omega arith); depth = (omega arith, omega arith) }) ready.opening.head ready.opening.fits (record { rows = refl; few = omega arith; writes = no_request IsServed })

  abbrev zones : List Zone
  zones = first_zones start no_requests counts

  begins : (s : Session) → IsOver (task usual_setup start no_requests) s → IsFirst s (core_with zones [])
  begins = first_begins start no_requests counts can.geometry unlinked first

  -- a core begins and is done, tells a report of no request, and calls no device
  pub empty_driven : IsDriven trust schedule (task usual_setup start no_requests) [] opened opened
  empty_driven = record {
    first = zones;
    last = zones;
    begins = begins;
    events = [];
    state = schedule;
    drives = (refl, refl);
    done = first_done start counts;
  }

  pub empty_reported : IsReported usual_setup start (still_report start) [] opened opened
  empty_reported =
      reported trust usual_setup start no_requests zones zones [] opened opened can
      begins rests (first_done start counts) (not_called trust opened)

  module _ (named : start.head.geometry.nonce < 2 ^ 64) where
    pub empty_happens : IsTrue trust.tells → Happens [] (still_report start) before opened opened
    empty_happens =
        happens trust usual_setup start no_requests zones zones [] opened opened can
        begins rests (first_done start counts) (not_called trust opened) before found ready named

    pub empty_plays : (source_tells : Bool) (source rest : SourceSeen) → (IsTrue source_tells → whole_script source.left ≡ Ok no_requests) → (IsTrue source_tells → rest.left ≡ [])
        → RunsSession (input_setting trust source_tells) (usual schedule) found (still_report start) (inputs before source) (inputs opened rest)
    empty_plays source_tells source rest script_is whole = record {
      start = start;
      serves =
          plays trust usual_setup start no_requests zones zones [] opened opened can
          begins rests (first_done start counts) (not_called trust opened) before found ready named schedule schedule []
          (record { opening = refl; size = refl }) (refl, refl);
      script_is = script_is;
      to_its_end = whole;
    }
