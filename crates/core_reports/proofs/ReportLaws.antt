-- The zones of a legal core have what its report says.
use Rattle.std.proofs.Common.{ℕ, suc, ◌≡◌, ◌<◌, ◌≤◌, ◌+◌, ◌-◌, ◌++◌, min, Option, Some, List, [], ◌∷◌, length, slice_get, refl, sym, ◌∙◌, ap, subst, append_assoc, inl, inr, arith}
use Rattle.std.proofs.lemmas.List.{append-nil}
use Rattle.blk_base.specs.Regions.{data_blocks}
use Rattle.core_laws.proofs.Common.{AllAnswered, AllByRecursion, AreDrawn, DataOk, DeskLine, HistoryEntry, IsSession, Placed, RunReport, Script, Session, Trace, Zone, ZoneData, desk_number, journal_number, journaled, lines, marks, places, some_is, cases_lt}
use Rattle.core_laws.proofs.kept.ZoneKinds.{desk_sits, device_sits, journal_sits, physical_sits}
use Rattle.core_laws.proofs.trace.PlacesOfTrace.{places_drawn}
use Rattle.core_limits.proofs.DeskLimits.{asked_inside}
use Rattle.core_limits.proofs.PlaceLimits.{places_few}
use Rattle.vdo_model.proofs.ZoneOrderLaws.{drawn_same, listed_same}
use Rattle.vdo_model.specs.Histories.{histories_of}
use Rattle.vdo_model.specs.ZoneOrder.{by_zone}
use Rattle.core_model.specs.DeskData.{Desk}
use Rattle.core_model.specs.Trace.{damage_in, receipts}
use Rattle.core_model.specs.Uses.{sum_below, used_at, used_of_slab}
use Rattle.data_vio.specs.Zones.{device_number, physical_number}
use Rattle.vdo_model.specs.declared.report.Damage.{Damage}
use Rattle.core_model.specs.declared.desk.DeskReport.{DeskReport}
use Rattle.core_model.specs.Legal.{Legal}
use Rattle.core_laws.proofs.trace.StoppedPasses.{handed_journaled}
use Rattle.core_model.specs.Reports.{listed_places, progress_of, report_of}
use Rattle.core_model.specs.SessionLimits.{most_requests, most_streams}
use Rattle.core_model.specs.declared.zones.ZoneData.TheVariants as at
use Rattle.core_reports.specs.Found.{AreFound, IsFound}
use Rattle.core_reports.specs.Listed.{HasDamage, HasDesk, HasEntered, HasGeometry, places_at, places_of_all, used_by, used_by_all}
use Rattle.core_reports.specs.Rooms.{IsRoomFor}
use Rattle.core_reports.proofs.SharedSums.{share_below, shared_out}
use Rattle.core_reports.proofs.UsedLaws.{share_told}

module _ (s : Session) (t : Trace) where
  -- so many logical zones stand below this number
  record Reaches (i m : ℕ) : Type 0 where
    pub below : i ≤ s.sizes.zones + 1 → m ≡ i - 1
    pub past : s.sizes.zones + 1 ≤ i → m ≡ s.sizes.zones

  -- with the places of the zone of this number the list reaches further
  record ReachesOn (i m : ℕ) (d : ZoneData) : Type 0 where
    pub next : ℕ
    pub reaches : Reaches (suc i) next
    pub listed : places_at d ++ by_zone m (places t) ≡ by_zone next (places t)

  one_reached : (i m n : ℕ) → Reaches i m → Reaches i n → m ≡ n
  one_reached i m n a b = elim (cases_lt i (s.sizes.zones + 1)) [
    | inl below ↦ let x = a.below (omega (arith, below)) in let y = b.below (omega (arith, below)) in omega (arith, x, y)
    | inr past ↦ let x = a.past past in let y = b.past past in omega (arith, x, y)
  ]

  -- a zone behind the logical ones draws none
  stays : (i m : ℕ) (d : ZoneData) → s.sizes.zones + 1 ≤ i → Reaches i m → (places_at d ≡ []) → ReachesOn i m d
  stays i m d past reach none = record { next = m; reaches = record { below = λ h. absurd (omega (arith, h, past)); past = λ h. reach.past past }; listed = rw none refl }

  reaches_on : (i m : ℕ) (d : ZoneData) → DataOk s t i d → Reaches i m → ReachesOn i m d
  reaches_on i m (at.Logical l) own reach =
      let number = own.number_is in
      let among = own.sound.among in
      let here : m ≡ l.zone = let is = reach.below (omega (arith, number, among)) in omega (arith, number, is) in
      record {
        next = suc l.zone;
        reaches = record { below = λ h. omega (arith, number); past = λ h. omega (arith, number, among, h) };
        listed = rw (own.lists.places_is, here) refl;
      }
  reaches_on i m (at.Desk desk) own reach =
      let number = own.number_is in
      let none = reach.below (omega (arith, number)) in
      record { next = m; reaches = record { below = λ h. omega (arith, number, none); past = λ h. omega (arith, number, none, h) }; listed = refl }
  reaches_on i m other own reach = let number = own.number_is in stays i m other (omega (arith, number)) reach refl

  -- the zones from this number on: their places behind those of the zones before them
  listed_from : (i m last : ℕ) (zones : List Zone) → ((k : ℕ) (z : Zone) → slice_get zones k ≡ Some z → DataOk s t (i + k) z.keeps) → Reaches i m → Reaches (i + length zones) last
      → places_of_all zones ++ by_zone m (places t) ≡ by_zone last (places t)
  listed_from i m last [] own reach end = ap (λ (n : ℕ). by_zone n (places t)) (one_reached i m last reach (at_end end))
    where
      at_end : Reaches (i + 0) last → Reaches i last
      at_end end = subst (λ (n : ℕ). Reaches n last) (omega arith) end
  listed_from i m last (z ∷ zones) own reach end =
      let on = reaches_on i m z.keeps (subst (λ (n : ℕ). DataOk s t n z.keeps) (omega arith) (own 0 z refl)) reach in
      append_assoc (places_of_all zones) (places_at z.keeps) (by_zone m (places t))
      ∙ ap (λ (ps : List Placed). places_of_all zones ++ ps) on.listed
      ∙ listed_from (suc i) on.next last zones (λ k y had. subst (λ (n : ℕ). DataOk s t n y.keeps) (omega arith) (own (suc k) y had)) on.reaches
      (subst (λ (n : ℕ). Reaches n last) (omega arith) end)

-- what the physical zones count, zone after zone
module _ (s : Session) (t : Trace) where
  -- how many blocks are used of the slabs of a physical zone, and how many physical zones stand below a number
  abbrev share : ℕ → ℕ
  share = share_below (used_of_slab s t) s.sizes.physical s.sizes.geometry.slabs

  abbrev physical_before : ℕ → ℕ
  physical_before i = min (i - (1 + s.sizes.zones)) s.sizes.physical

  -- with the zone of this number
  counts_none : (i : ℕ) (d : ZoneData) → used_by d ≡ 0 → physical_before (suc i) ≡ physical_before i
      → used_by d + sum_below share (physical_before i) ≡ sum_below share (physical_before (suc i))
  counts_none i d none same = let still = ap (sum_below share) same in omega (arith, none, still)

  counts_on : (i : ℕ) (d : ZoneData) → DataOk s t i d → used_by d + sum_below share (physical_before i) ≡ sum_below share (physical_before (suc i))
  counts_on i (at.Physical p) own =
      let number = own.number_is in
      let below : p.counts.zone < s.sizes.physical = omega (arith, own.sound.is_zone.slabs.number, own.sound.zones) in
      let here : physical_before i ≡ p.counts.zone = omega (arith, number, below) in
      let next : physical_before (suc i) ≡ suc p.counts.zone = omega (arith, number, below) in
      let told = share_told s t p.counts own.sound.is_zone own.sound.geometry own.lists.counters
      ∙ ap (λ (n : ℕ). share_below (used_of_slab s t) n s.sizes.geometry.slabs p.counts.zone) own.sound.zones in
      let first = ap (sum_below share) here in
      let last = ap (sum_below share) next in
      omega (arith, told, first, last)
  counts_on i (at.Logical l) own = counts_none i (at.Logical l) refl (omega (arith, own.number_is, own.sound.among))
  counts_on i other own = counts_none i other refl (omega (arith, own.number_is))

  pub used_from : (i : ℕ) (zones : List Zone) → ((k : ℕ) (z : Zone) → slice_get zones k ≡ Some z → DataOk s t (i + k) z.keeps)
      → used_by_all zones + sum_below share (physical_before i) ≡ sum_below share (physical_before (i + length zones))
  used_from i [] own =
      let same : i ≡ i + length {A = Zone} [] = omega arith in
      let end = ap (λ (n : ℕ). sum_below share (physical_before n)) same in
      omega (arith, end)
  used_from i (z ∷ zones) own =
      let here = counts_on i z.keeps (subst (λ (n : ℕ). DataOk s t n z.keeps) (omega arith) (own 0 z refl)) in
      let rest = used_from (suc i) zones (λ k y had. subst (λ (n : ℕ). DataOk s t n y.keeps) (omega arith) (own (suc k) y had)) in
      let size : suc i + length zones ≡ i + length (z ∷ zones) = omega arith in
      let end = ap (λ (n : ℕ). sum_below share (physical_before n)) size in
      omega (arith, here, rest, end)

module _ (s : Session) (t : Trace) (zones : List Zone) (session : IsSession s) (legal : Legal s (record { zones = zones; trace = t })) where
  -- what a zone says of its own data
  own : (n : ℕ) (z : Zone) (d : ZoneData) → slice_get zones n ≡ Some z → z.keeps ≡ d → DataOk s t n d
  own n z d had keeps = subst (λ (e : ZoneData). DataOk s t n e) keeps (legal.each n z had).own

  pub places_listed : places_of_all zones ≡ listed_places s t
  places_listed =
      let count = legal.count in
      sym (append-nil (places_of_all zones))
      ∙ listed_from s t 0 0 s.sizes.zones zones (λ k z had. subst (λ (n : ℕ). DataOk s t n z.keeps) (omega arith) (legal.each k z had).own)
      (record { below = λ h. omega arith; past = λ h. absurd (omega (arith, h)) })
      (record { below = λ h. absurd (omega (arith, h, count)); past = λ h. refl })

  -- they are right places too
  listed_drawn : AreDrawn s.sizes.zones s.sizes.geometry.logical s.script (lines t) (listed_places s t)
  listed_drawn =
      let drawn = places_drawn s t legal.right in
      drawn_same s.sizes.zones s.sizes.geometry.logical s.script (lines t) (places t) (listed_places s t)
      (listed_same s.sizes.zones s.sizes.geometry.logical s.script (lines t) (places t) session.zones.0 drawn) drawn

  pub places_few_enough : length (places_of_all zones) ≤ most_requests
  places_few_enough =
      let same = ap (λ (ps : List Placed). length ps) places_listed in
      omega (arith, same, session.limits.requests, places_few s.sizes.zones s.sizes.geometry.logical s.script (lines t) (listed_places s t) listed_drawn)

  -- each place is of a request whose answer is found
  all_found : (room : List ℕ) (ps : List Placed) → IsRoomFor room s.script → AllAnswered s.script (lines t) → AreDrawn s.sizes.zones s.sizes.geometry.logical s.script (lines t) ps
      → AllByRecursion (λ p. IsFound (lines t) room p.request) ps
  all_found room [] for answered drawn = tt
  all_found room (p ∷ ps) for answered drawn =
      let some = some_is _ _ drawn.0.zone.2 in
      let inside = asked_inside s.script p.request some in
      let stream : p.request.stream < most_streams = omega (arith, inside.0, session.limits.streams) in
      let here : IsFound (lines t) room p.request
      = record { stream = stream; number = omega (arith, inside.1, for p.request.stream stream); answered = answered p.request some } in
      (here, all_found room ps for answered drawn.1)

  pub places_found : (room : List ℕ) (ps : List Placed) → IsRoomFor room s.script → AllAnswered s.script (lines t) → ps ≡ places_of_all zones
      → AreFound (lines t) room (journaled t) (progress_of t) ps
  places_found room ps for answered is =
      subst (λ (qs : List Placed). AreFound (lines t) room (journaled t) (progress_of t) qs) (sym (is ∙ places_listed))
      (record { few = few; handed = λ w stopped. handed_journaled s t w legal.right stopped; found = all_found room (listed_places s t) for answered listed_drawn })
    where
      few : length (listed_places s t) ≤ most_requests
      few = let same = ap (λ (qs : List Placed). length qs) places_listed in omega (arith, same, places_few_enough)

  -- the desk, with what it says of itself
  pub record ItsDesk : Type 0 where
    pub desk : Desk
    pub has : HasDesk desk zones
    pub requests_is : desk.requests ≡ s.script
    pub log_is : desk.log ≡ lines t
    pub marks_is : desk.marks ≡ marks t
    pub receipts_is : desk.receipts ≡ receipts t

  pub its_desk : ItsDesk
  its_desk =
      let sits = desk_sits s t zones legal.each legal.count in
      let is = own desk_number sits.zone (at.Desk sits.it) sits.had sits.keeps in
      record {
        desk = sits.it;
        has = record { zone = sits.zone; had = sits.had; keeps = sits.keeps };
        requests_is = is.sound.requests;
        log_is = is.lists.log_is;
        marks_is = is.lists.marks_is;
        receipts_is = is.lists.receipts_is;
      }

  pub its_entries : HasEntered (journaled t) zones
  its_entries =
      let sits = journal_sits s t zones legal.each legal.count in
      record {
        number = journal_number s.sizes;
        zone = sits.zone;
        journal = sits.it;
        had = sits.had;
        keeps = sits.keeps;
        each = λ n z j had keeps. (own n z (at.Journal j) had keeps).lists.entered_is;
      }

  pub its_damage : HasDamage (damage_in t) zones
  its_damage =
      let sits = device_sits s t zones legal.each legal.count in
      record {
        number = device_number s.sizes;
        zone = sits.zone;
        device = sits.it;
        had = sits.had;
        keeps = sits.keeps;
        each = λ n z d had keeps. (own n z (at.Device d) had keeps).lists.damage_is;
      }

  -- all physical zones have the sizes of the image
  pub its_geometry : HasGeometry s.sizes.geometry zones
  its_geometry =
      let sits = physical_sits s t zones legal.each legal.count 0 session.zones.1 in
      record {
        number = physical_number s.sizes 0;
        zone = sits.zone;
        physical = sits.it;
        had = sits.had;
        keeps = sits.keeps;
        each = λ n z p had keeps. (own n z (at.Physical p) had keeps).sound.geometry;
      }

  -- all zones count all blocks that are used
  pub all_used : used_by_all zones ≡ used_at s t
  all_used =
      let count = legal.count in
      let all = used_from s t 0 zones (λ k z had. subst (λ (n : ℕ). DataOk s t n z.keeps) (omega arith) (legal.each k z had).own) in
      let none : physical_before s t 0 ≡ 0 = omega arith in
      let ends : physical_before s t (0 + length zones) ≡ s.sizes.physical = omega (arith, count) in
      let first = ap (sum_below (share s t)) none in
      let last = ap (sum_below (share s t)) ends in
      let whole = shared_out (used_of_slab s t) s.sizes.physical session.zones.1 s.sizes.geometry.slabs in
      omega (arith, all, first, last, whole)

  -- so the desk, the places, the histories, the damage and the space make the report
  pub report_is : (rows : DeskReport) (ps : List Placed) (hs : List HistoryEntry) (damage : Option Damage) (used total : ℕ)
      → rows ≡ record { requests = its_desk.desk.requests; log = its_desk.desk.log; marks = its_desk.desk.marks; receipts = its_desk.desk.receipts } → ps ≡ places_of_all zones
      → hs ≡ histories_of its_desk.desk.requests its_desk.desk.log (progress_of t) ps → damage ≡ damage_in t → used ≡ used_by_all zones → total ≡ data_blocks s.sizes.geometry
      → ◌≡◌ {A = RunReport} (record { requests = rows.requests; desk = rows.log; marks = rows.marks; receipts = rows.receipts; places = ps; histories = hs; damage = damage; used = used; total = total }) (report_of s t)
  report_is rows ps hs damage used total rows_are ps_are hs_are damage_is used_is total_is =
      let placed : ps ≡ listed_places s t = ps_are ∙ places_listed in
      let requests : rows.requests ≡ s.script = ap (λ (r : DeskReport). r.requests) rows_are ∙ its_desk.requests_is in
      let log : rows.log ≡ lines t = ap (λ (r : DeskReport). r.log) rows_are ∙ its_desk.log_is in
      let marked : rows.marks ≡ marks t = ap (λ (r : DeskReport). r.marks) rows_are ∙ its_desk.marks_is in
      let kept : rows.receipts ≡ receipts t = ap (λ (r : DeskReport). r.receipts) rows_are ∙ its_desk.receipts_is in
      let histories : hs ≡ histories_of s.script (lines t) (progress_of t) (listed_places s t)
      = hs_are
      ∙ ap (λ (script : Script). histories_of script its_desk.desk.log (progress_of t) ps) its_desk.requests_is
      ∙ ap (λ (desk : List DeskLine). histories_of s.script desk (progress_of t) ps) its_desk.log_is
      ∙ ap (λ (qs : List Placed). histories_of s.script (lines t) (progress_of t) qs) placed in
      let used_blocks : used ≡ used_at s t = used_is ∙ all_used in
      rw (requests, log, marked, kept, placed, histories, damage_is, used_blocks, total_is) refl
