-- A session for what was opened of an image, whatever is on the device: nothing is said of that.
use Rattle.vdo_core.specs.declared.numbers.TheConstants.{MOST_ZONES}
use Rattle.std.proofs.Common.{ℕ, ◌≡◌, ◌≤◌, ◌*◌, Bool, true, List, slice_index, inl, inr, [], ◌∷◌, ◌++◌, length, refl, sym, ◌∙◌, ap, subst, arith}
use Rattle.std.proofs.lemmas.Bool.{cases_lt}
use Rattle.std.proofs.lemmas.List.{get_or_past}
use Rattle.std.proofs.lemmas.List.Elements.{All-get_or}
use Rattle.std.specs.List.{All}
use Rattle.blk_base.specs.Counters.{limit_of}
use Rattle.blk_base.specs.declared.geometry.Geometry.{Geometry}
use Rattle.blk_base.specs.declared.opened.Opened.{Opened}
use Rattle.disk_model.specs.Seen.{Seen}
use Rattle.disk_model.specs.Trust.{Trust}
use Rattle.disk_model.specs.declared.call.Call.TheVariants.{Read}
use Rattle.vdo_model.specs.Scripts.{Script}
use Rattle.data_vio.specs.declared.sizes.Sizes.{Sizes}
use Rattle.core_model.specs.declared.zones.Zone.{Zone}
use Rattle.core_model.specs.declared.zones.ZoneData.{ZoneData}
use Rattle.core_model.specs.Facts.{DataOk}
use Rattle.core_model.specs.Legal.{Legal}
use Rattle.core_model.specs.PageLinks.{opened_page}
use Rattle.core_model.specs.Sessions.{AreCounters, HasHonestReads, IsSession, Session}
use Rattle.core_model.specs.Start.{IsFirst}
use Rattle.core_model.specs.Steps.Leads.{rests}
use Rattle.core_model.specs.Trace.{Calls, Harms, Trace}
use Rattle.data_vio.specs.Zones.{desk_number}
use Rattle.core_laws.proofs.kept.FirstState.{legal_first}
use Rattle.core_laws.proofs.kept.LegalMoves.{legal_leads}
use Rattle.core_laws.proofs.kept.ZoneKinds.{desk_sits}
use Rattle.step_parts.specs.DeviceLog.{GivesSettled}
use Rattle.vdo_core.specs.Conditions.{AllCanStep, CanStep}
use Rattle.vdo_core.specs.Cores.{CanBegin, IsReached}
use Rattle.vdo_core.specs.Plays.{LeadsTo, core_with}
use Rattle.vdo_core.specs.Starts.{IsOf}
use Rattle.vdo_core.proofs.LinkLaws.{linked_data, linked_up}
use Rattle.vdo_core.proofs.StepLaws.{can_step}
use Rattle.vdo_core.proofs.PlayLaws.{leads_on}

-- counters of which each is within the limit: what stands for one past the end is too
are_counters : (g : Geometry) (counters : List ℕ) → length counters ≡ g.slabs * g.slab_blocks → All (λ counter. counter ≤ limit_of g) counters → AreCounters g counters
are_counters g counters size limit = record {
  each = size;
  limit = λ k. elim (cases_lt k (length counters)) [
    | inl below ↦ All-get_or (λ counter. counter ≤ limit_of g) counters k 0 below limit
    | inr past ↦ let none : slice_index counters k ≡ 0 = get_or_past counters k 0 past in omega (arith, none)
  ];
}

-- any session of these sizes and this script over what was opened can be served, whatever else it says of a device
pub can_serve : (sizes : Sizes) (script : Script) (opened : Opened) (s : Session) → CanBegin sizes script opened → IsOf s sizes script opened → IsSession s
can_serve sizes script opened s can over =
    let g = opened.head.geometry in
    let same : s.sizes.geometry ≡ g = ap (λ (z : Sizes). z.geometry) over.sizes_is ∙ can.same in
    record {
      sizes = rw over.sizes_is can.geometry;
      start = rw over.sizes_is can.start;
      used = rw over.sizes_is (let journal = can.geometry.journal in omega (arith, journal));
      zones = rw over.sizes_is (can.zones, can.physical);
      limits = rw (over.sizes_is, over.script_is) can.limits;
      served = rw over.script_is can.served;
      linked = λ page x is. rw same (linked_data g opened.pages.items can.pages page x (rw over.links_is at is));
      rooted = λ page some. rw (same, over.links_is) (linked_up g opened.pages.items can.pages page (rw over.links_is at some));
      counters = rw (same, over.counters_are) (are_counters g opened.counters.items can.counters can.limit);
    }

-- the session, with no device
abbrev pub bare : Sizes → Script → Opened → Session
bare sizes script opened = record { sizes = sizes; script = script; links = opened_page opened.pages.items; counters = opened.counters.items; blocks = []; before = []; image = [] }

module _ (sizes : Sizes) (script : Script) (opened : Opened) (can : CanBegin sizes script opened) where
  pub is_of : IsOf (bare sizes script opened) sizes script opened
  is_of = record { sizes_is = refl; script_is = refl; links_is = refl; counters_are = refl }

  pub is_session : IsSession (bare sizes script opened)
  is_session = can_serve sizes script opened (bare sizes script opened) can is_of

  -- a first core of it is reached
  abbrev pub first_reached : (zones : List Zone) → IsFirst (bare sizes script opened) (core_with zones []) → IsReached sizes zones
  first_reached zones begins = record {
    session = bare sizes script opened;
    first = zones;
    trace = [];
    sizes_are = refl;
    is_session = is_session;
    is_first = begins;
    leads = rests;
  }

-- reads that gave what was settled are honest
pub honest_reads : (s : Session) (t : Trace) → GivesSettled s.blocks s.before t → HasHonestReads s t
honest_reads s [] given = tt
honest_reads s (Calls (Read at bytes true) ∷ t) given = ((given.0, given.1), honest_reads s t given.2)
honest_reads s (Harms w at bytes fault ∷ t) given = ((given.0, given.1), honest_reads s t given.2)
honest_reads s (other ∷ t) given = honest_reads s t given

-- what is reached is legal, and leads to what is reached, and each zone can step there
module _ (sizes : Sizes) (zones : List Zone) (reached : IsReached sizes zones) where
  pub legal_here : Legal reached.session (core_with zones reached.trace)
  legal_here =
      let start = core_with reached.first [] in
      legal_leads reached.session start (core_with zones reached.trace) reached.is_session reached.leads (legal_first reached.session start reached.is_first reached.is_session)

  -- a core has at most as many zones as there is room for
  pub few_zones : length zones ≤ MOST_ZONES
  few_zones = let limits = reached.is_session.limits in omega (arith, legal_here.count, limits.zones, limits.physical)

  abbrev pub reached_on : (trust : Trust) (later : List Zone) (before after : Seen) → LeadsTo trust sizes zones later before after → IsReached sizes later
  reached_on trust later before after (made, leads, told) = record {
    session = reached.session;
    first = reached.first;
    trace = made ++ reached.trace;
    sizes_are = reached.sizes_are;
    is_session = reached.is_session;
    is_first = reached.is_first;
    leads = leads_on reached.session.sizes (core_with reached.first []) (core_with zones reached.trace) (core_with later (made ++ reached.trace)) reached.leads (rw reached.sizes_are (leads reached.trace));
  }

  pub all_can_step : AllCanStep sizes zones
  all_can_step n z had = subst (λ (sizes : Sizes). CanStep sizes z) reached.sizes_are (can_step reached.session (core_with zones reached.trace) n z reached.is_session legal_here had)

-- a core has one script: that of its desk
pub one_script : (s s' : Session) (zones : List Zone) (t t' : Trace) → Legal s (core_with zones t) → Legal s' (core_with zones t') → s.script ≡ s'.script
one_script s s' zones t t' legal legal' =
    let sits = desk_sits s t zones legal.each legal.count in
    let own = subst (λ (d : ZoneData). DataOk s t desk_number d) sits.keeps (legal.each desk_number sits.zone sits.had).own in
    let own' = subst (λ (d : ZoneData). DataOk s' t' desk_number d) sits.keeps (legal'.each desk_number sits.zone sits.had).own in
    sym own.sound.requests ∙ own'.sound.requests
