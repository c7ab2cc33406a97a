-- A legal core in which nothing is left to do has answered each request: nobody holds a lock or waits for one, no block of the
-- journal goes round, and the stop notices of all zones have come if the session is stopped.
use Rattle.std.proofs.Common.{◌≡◌, ℕ, ◌+◌, ◌≤◌, Bool, true, false, not, is_some, cond, Option, None, Some, List, [], ◌∷◌, ◌++◌, length, slice_get, refl, sym, ap, ◌∙◌, subst, inl, inr, arith}
use Rattle.std.proofs.lemmas.List.{nil_from_length}
use Rattle.core_laws.proofs.Common.{AllAnswered, AllByRecursion, DataOk, Desk, IsNextLine, Item, JournalZone, KeptOk, LogicalZone, Phase, Session, Token, Vio, WaitsOk, Writer, Zone, ZoneData, as_items, bit, cases_Bool, cases_lt, desk_number, device_number, eqb_tells, given, heard_at, held_at, holder_token, holds, idle_at, is_answer, is_begin, is_sealed, is_word, journal_token, kept_by, lines, notice_token, notified_by, notified_zones, queued, room_token, total, total-get, total_alone, total_zero, weight}
use Rattle.data_vio.specs.declared.items.Phase.TheVariants as phase
use Rattle.core_model.specs.declared.zones.ZoneData.TheVariants as at
use Rattle.core_model.specs.Legal.{Legal}
use Rattle.blk_base.specs.declared.place.Mapping.{Mapping}
use Rattle.blk_base.specs.declared.place.Mapping.TheVariants.{Unmapped, Zero, At}
use Rattle.core_laws.proofs.Common.{IsEntered, IsToBlock, Remapping, same_self, same_tells, zone_number, zone_of}
use Rattle.core_laws.proofs.logical.ReportFacts.{own_report}
use Rattle.core_limits.proofs.UpdateSums.{kept_reports, reports_wait}
use Rattle.core_model.specs.Facts.{CarriesFor, CarriesPage}
use Rattle.core_model.specs.LogicalFacts.{AwaitsReport, ReportOk, Awaits}
use Rattle.core_model.specs.LogicalRules.{is_reported}
use Rattle.core_model.specs.PageLinks.{block_in}
use Rattle.core_model.specs.Tokens.{decrement_weight, has_old, report_token, waiter_token, waiter_weight}
use Rattle.blk_base.specs.declared.place.PageId.{PageId}
use Rattle.core_model.specs.LogicalRules.{is_held}
use Rattle.core_model.specs.Steps.{Core, IsStill, MayBegin}
use Rattle.core_model.specs.Tokens.{is_same, making_at, making_token, one_journal}
use Rattle.core_laws.proofs.kept.ActKept.{bare_of, carries_at}
use Rattle.core_laws.proofs.logical.PageLists.{listed_times, times}
use Rattle.vdo_model.specs.declared.report.DeskLine.TheVariants.{Begin}
use Rattle.core_laws.proofs.kept.ZoneKinds.{desk_sits, device_sits}
use Rattle.core_laws.proofs.tokens.Known.{IsIn, kept_in}
use Rattle.core_laws.proofs.trace.DeskOfTrace.{desk_log_right}
use Rattle.core_limits.proofs.DeskLimits.{lines_are, log_few}
use Rattle.core_limits.proofs.FullLogs.{answered_when_full}
use Rattle.core_limits.proofs.Rooms.{carried, only_desk, split_sum}
use Rattle.core_limits.proofs.StillLogs.{all_there}

-- requests weigh nothing as blocks of the journal, and as stop notices
no_block : (vs : List Vio) → total is_sealed (as_items vs) ≡ 0
no_block [] = refl
no_block (v ∷ vs) = omega (arith, no_block vs)

no_word : (vs : List Vio) → total is_word (as_items vs) ≡ 0
no_word [] = refl
no_word (v ∷ vs) = omega (arith, no_word vs)

-- what two lists of requests weigh
pub both_items : (weigh : Item → ℕ) (vs ws : List Vio) → total weigh (as_items (vs ++ ws)) ≡ total weigh (as_items vs) + total weigh (as_items ws)
both_items weigh [] ws = omega arith
both_items weigh (v ∷ vs) ws = omega (arith, both_items weigh vs ws)

-- and those in a phase without a lock weigh none
no_lock : (q : Phase) (vs : List Vio) → holds q ≡ false → AllByRecursion (IsIn q) vs → total holder_token.item (as_items vs) ≡ 0
no_lock q [] free all = refl
no_lock q (v ∷ vs) free all = let here = ap (λ (p : Phase). bit (holds p)) all.0 ∙ ap bit free in omega (arith, here, no_lock q vs free all.1)

module _ (s : Session) (core : Core) (legal : Legal s core) (still : IsStill s.sizes core.zones) where
  own : (n : ℕ) (z : Zone) → slice_get core.zones n ≡ Some z → (d : ZoneData) → z.keeps ≡ d → DataOk s core.trace n d
  own n z had d keeps = subst (λ (k : ZoneData). DataOk s core.trace n k) keeps (legal.each n z had).own

  -- no lane has an item, so a zone carries only what it keeps
  lane_empty : (n : ℕ) (z : Zone) → slice_get core.zones n ≡ Some z → (to : ℕ) (lane : List Item) → slice_get z.ports.outboxes to ≡ Some lane → lane ≡ []
  lane_empty n z had to lane there = elim (eqb_tells to n) [
    | inl same ↦ (legal.each n z had).to_itself lane (subst (λ (i : ℕ). slice_get z.ports.outboxes i ≡ Some lane) same.1 there)
    | inr other ↦ still.all_moved n z had to lane other.1 there
  ]

  carried_kept : (t : Token) (n : ℕ) (z : Zone) → slice_get core.zones n ≡ Some z → carried t z ≡ queued t.item z.keeps
  carried_kept t n z had =
      let inbox = ap (total t.item) (still.nothing n z had).inbox in
      let lanes = total_zero (total t.item) z.ports.outboxes (λ to lane there. ap (total t.item) (lane_empty n z had to lane there)) in
      omega (arith, inbox, lanes)

  -- where that weighs nothing, all that is held is the zones' own
  own_alone : (t : Token) → ((n : ℕ) (z : Zone) → slice_get core.zones n ≡ Some z → queued t.item z.keeps ≡ 0) → total (weight t) core.zones ≡ total (λ (z : Zone). t.own z.keeps) core.zones
  own_alone t none =
      let zero = total_zero (carried t) core.zones (λ n z had. carried_kept t n z had ∙ none n z had) in
      omega (arith, split_sum t core.zones, zero)

  -- The journal is idle.
  one_idle : (n : ℕ) (z : Zone) → slice_get core.zones n ≡ Some z → (j : JournalZone) → z.keeps ≡ at.Journal j → j.busy ≡ false
  one_idle n z had j keeps = elim (cases_Bool j.busy) [
    | inr idle ↦ idle
    | inl busy ↦
        let held = own_alone journal_token (λ m y there. no_block (kept_by y.keeps)) in
        let alone = total_alone (λ (y : Zone). idle_at y.keeps) core.zones n z had (λ m y there ne. other m y.keeps ne (legal.each m y there).own) in
        let here : idle_at z.keeps ≡ 0 = ap idle_at keeps ∙ ap (λ (b : Bool). bit (not b)) busy in
        let given_here : one_journal z.keeps ≡ 1 = ap one_journal keeps in
        let most = total-get (given journal_token) core.zones n z had in
        let balance = legal.journal in
        absurd (omega (arith, held, alone, here, given_here, most, balance))
  ]
    where
      mine : DataOk s core.trace n (at.Journal j)
      mine = own n z had (at.Journal j) keeps

      other : (m : ℕ) (d : ZoneData) → (m ≡ n → ⊥) → DataOk s core.trace m d → idle_at d ≡ 0
      other m (at.Journal k) ne ok = absurd (ne (ok.number_is ∙ sym mine.number_is))
      other m d ne ok = refl

  journal_keeps_none : (n : ℕ) (z : Zone) → slice_get core.zones n ≡ Some z → (j : JournalZone) → z.keeps ≡ at.Journal j → kept_by (at.Journal j) ≡ []
  journal_keeps_none n z had j keeps =
      let unused = (own n z had (at.Journal j) keeps).sound.1 (one_idle n z had j keeps) in
      ap (λ (vs : List Vio). vs ++ j.waiting) unused.unfilled ∙ unused.unawaited

  -- No decrement is under way, so nobody waits for a report.
  no_update : (u : Writer) (vs : List Vio) → total (decrement_weight u) (as_items vs) ≡ 0
  no_update u [] = refl
  no_update u (v ∷ vs) = omega (arith, no_update u vs)

  none_found : (u : Writer) (reported : List Remapping) → is_reported u reported ≡ false → total (has_old u) reported ≡ 0
  none_found u [] none = refl
  none_found u (e ∷ reported) none = elim (same_tells e.request u) [
    | inl same ↦ absurd (let some = rw same.0 at none in cc)
    | inr other ↦ let rest = none_found u reported (rw other.0 at none) in rw other.0 (omega (arith, rest))
  ]

  none_there : (zone : ℕ) (v : Vio) → IsEntered s core.trace v → (zone_of s.sizes.zones v.at.0 ≡ zone → ⊥) → (reported : List Remapping) → AllByRecursion (ReportOk s core.trace zone) reported → total (has_old v.request) reported ≡ 0
  none_there zone v entered elsewhere [] all = refl
  none_there zone v entered elsewhere (e ∷ reported) all = elim (same_tells e.request v.request) [
    | inl same ↦
        let own = own_report s core.trace zone v e legal.right entered all.0 same.0 in
        absurd (elsewhere (ap (λ (f : Remapping). zone_of s.sizes.zones f.at.0) (sym own) ∙ all.0.1))
    | inr other ↦ let rest = none_there zone v entered elsewhere reported all.1 in rw other.0 (omega (arith, rest))
  ]

  none_settles : (n : ℕ) (z : Zone) → slice_get core.zones n ≡ Some z → (l : LogicalZone) → z.keeps ≡ at.Logical l → l.settling ≡ []
  none_settles n z had l keeps = by l.settling refl
    where
      k : DataOk s core.trace n (at.Logical l)
      k = own n z had (at.Logical l) keeps

      by : (vs : List Vio) → l.settling ≡ vs → vs ≡ []
      by [] is = refl
      by (v ∷ vs) is =
          let waits = (subst (λ (us : List Vio). AllByRecursion (KeptOk s core.trace phase.Settle) us) is k.kept.2).0 in
          let awaits = (subst (λ (us : List Vio). AllByRecursion (AwaitsReport l.zone l.reported) us) is k.sound.reports).0 in
          let u = v.request in
          let entered : IsEntered s core.trace v = (subst (CarriesFor s core.trace v phase.Settle) awaits.own (carries_at s core.trace v phase.Settle waits.2 waits.1)).0 in
          let moving = total_zero (carried (report_token u)) core.zones (λ m y there. carried_kept (report_token u) m y there ∙ no_update u (kept_by y.keeps)) in
          let home : zone_of s.sizes.zones v.at.0 ≡ l.zone = let name = ap (zone_number s.sizes) (sym awaits.at_home ∙ waits.0.home) in omega (arith, name) in
          let alone = total_alone (λ (y : Zone). kept_reports u y.keeps) core.zones n z had (λ m y there ne. elsewhere v entered home m y.keeps ne (legal.each m y there).own) in
          let here = ap (kept_reports u) keeps ∙ none_found u l.reported awaits.none in
          let carried_here = total-get (carried (waiter_token u)) core.zones n z had in
          let queued_here = carried_kept (waiter_token u) n z had in
          let line = ap (λ (d : ZoneData). queued (waiter_token u).item d) keeps in
          let some = weighs v waits.2 awaits.own awaits.replaces in
          let among = both_items (waiter_token u).item l.waiting (l.lacking ++ l.settling) in
          let last = both_items (waiter_token u).item l.lacking l.settling in
          let first = ap (λ (us : List Vio). total (waiter_token u).item (as_items us)) is in
          absurd (omega (arith, reports_wait s core legal u, moving, alone, here, carried_here, queued_here, line, some, among, last, first))
        where
          to_block : (m : Mapping) → IsToBlock m → is_some (block_in m) ≡ true
          to_block (At x) is = refl
          to_block Unmapped is = absurd is
          to_block Zero is = absurd is

          weighs : (v : Vio) → v.phase ≡ phase.Settle → v.page ≡ None → IsToBlock v.old → waiter_weight v.request v ≡ 1
          weighs v is bare replaces = rw (is, bare, same_self v.request, to_block v.old replaces) refl

          elsewhere : (v : Vio) → IsEntered s core.trace v → zone_of s.sizes.zones v.at.0 ≡ l.zone → (m : ℕ) (d : ZoneData) → (m ≡ n → ⊥) → DataOk s core.trace m d → kept_reports v.request d ≡ 0
          elsewhere v entered home m (at.Logical other) ne ok =
              none_there other.zone v entered (λ same. ne (let a = ok.number_is in let b = k.number_is in omega (arith, a, b, same, home))) other.reported ok.lists.reports_are
          elsewhere v entered home m other ne ok = refl

  settled : (f : Item → ℕ) (n : ℕ) (z : Zone) → slice_get core.zones n ≡ Some z → (l : LogicalZone) → z.keeps ≡ at.Logical l → total f (as_items l.settling) ≡ 0
  settled f n z had l keeps = ap (λ (vs : List Vio). total f (as_items vs)) (none_settles n z had l keeps)

  -- No page is being made, so nobody waits for one.
  no_maker : (page : PageId) (n : ℕ) (z : Zone) → slice_get core.zones n ≡ Some z → queued (making_token page).item z.keeps ≡ 0
  no_maker page n z had = by z.keeps refl
    where
      none_makes : (q : Phase) (vs : List Vio) → ((v : Vio) (other : PageId) → CarriesPage s core.trace v other q → ⊥) → AllByRecursion (KeptOk s core.trace q) vs → total (making_token page).item (as_items vs) ≡ 0
      none_makes q [] none all = refl
      none_makes q (v ∷ vs) none all =
          let bare = (bare_of s core.trace v q (none v) (carries_at s core.trace v q all.0.2 all.0.1)).0 in
          let here : bit (is_same page v.page) ≡ 0 = ap (λ (o : Option PageId). bit (is_same page o)) bare in
          omega (arith, here, none_makes q vs none all.1)

      by : (d : ZoneData) → z.keeps ≡ d → queued (making_token page).item d ≡ 0
      by (at.Desk desk) keeps = none_makes phase.Reply desk.parked (λ v other no. no) (own n z had (at.Desk desk) keeps).kept
      by (at.Logical l) keeps =
          let kept = (own n z had (at.Logical l) keeps).kept in
          let waiting = none_makes phase.Wait l.waiting (λ v other no. no) kept.0 in
          let lacking = none_makes phase.Look l.lacking (λ v other no. no) kept.1 in
          omega (arith, waiting, lacking, settled (making_token page).item n z had l keeps, both_items (making_token page).item l.waiting (l.lacking ++ l.settling), both_items (making_token page).item l.lacking l.settling)
      by (at.Journal j) keeps = ap (λ (vs : List Vio). total (making_token page).item (as_items vs)) (journal_keeps_none n z had j keeps)
      by other keeps = refl

  none_made : (n : ℕ) (z : Zone) → slice_get core.zones n ≡ Some z → (l : LogicalZone) → z.keeps ≡ at.Logical l → (page : PageId) → times page l.making ≡ 0
  none_made n z had l keeps page =
      let held = own_alone (making_token page) (no_maker page) in
      let none = total_zero (λ (y : Zone). (making_token page).own y.keeps) core.zones (λ m y there. refl) in
      let here = total-get (given (making_token page)) core.zones n z had in
      let same = ap (making_at page) keeps in
      let balance = legal.making page in
      omega (arith, held, none, here, same, balance)

  none_lacks : (n : ℕ) (z : Zone) → slice_get core.zones n ≡ Some z → (l : LogicalZone) → z.keeps ≡ at.Logical l → l.lacking ≡ []
  none_lacks n z had l keeps = by l.lacking (own n z had (at.Logical l) keeps).sound.pages.waits
    where
      by : (vs : List Vio) → AllByRecursion (Awaits l.tree l.making) vs → vs ≡ []
      by [] waits = refl
      by (v ∷ vs) waits = absurd (let some = listed_times waits.0.page l.making waits.0.is_made in let none = none_made n z had l keeps waits.0.page in omega (arith, some, none))

  -- Nobody holds a lock, so nobody waits for one.
  no_holder : (n : ℕ) (z : Zone) → slice_get core.zones n ≡ Some z → queued holder_token.item z.keeps ≡ 0
  no_holder n z had = by z.keeps refl
    where
      by : (d : ZoneData) → z.keeps ≡ d → queued holder_token.item d ≡ 0
      by (at.Desk desk) keeps = no_lock phase.Reply desk.parked refl (kept_in s core.trace (at.Desk desk) (own n z had (at.Desk desk) keeps).kept)
      by (at.Logical l) keeps =
          let waiting = no_lock phase.Wait l.waiting refl (kept_in s core.trace (at.Logical l) (own n z had (at.Logical l) keeps).kept).0 in
          let lacking = ap (λ (vs : List Vio). total holder_token.item (as_items vs)) (none_lacks n z had l keeps) in
          omega (arith, waiting, lacking, settled holder_token.item n z had l keeps, both_items holder_token.item l.waiting (l.lacking ++ l.settling), both_items holder_token.item l.lacking l.settling)
      by (at.Journal j) keeps = ap (λ (vs : List Vio). total holder_token.item (as_items vs)) (journal_keeps_none n z had j keeps)
      by other keeps = refl

  none_held : (n : ℕ) (z : Zone) → slice_get core.zones n ≡ Some z → (l : LogicalZone) → z.keeps ≡ at.Logical l → l.held ≡ []
  none_held n z had l keeps =
      let held = own_alone holder_token no_holder in
      let none = total_zero (λ (y : Zone). holder_token.own y.keeps) core.zones (λ m y there. refl) in
      let here = total-get (given holder_token) core.zones n z had in
      let same = ap held_at keeps in
      let balance = legal.holders in
      nil_from_length l.held (omega (arith, held, none, here, same, balance))

  none_waits : (n : ℕ) (z : Zone) → slice_get core.zones n ≡ Some z → (l : LogicalZone) → z.keeps ≡ at.Logical l → l.waiting ≡ []
  none_waits n z had l keeps = by l.waiting (own n z had (at.Logical l) keeps).sound.locks.waits
    where
      by : (vs : List Vio) → AllByRecursion (WaitsOk l.zone l.next l.held) vs → vs ≡ []
      by [] waits = refl
      by (v ∷ vs) waits = absurd (let locked = waits.0.locked in let none = ap (is_held v.at.0) (none_held n z had l keeps) in cc)

  -- No answer waits for the stop notices: all of them have come, or none was sent.
  none_parked : (n : ℕ) (z : Zone) → slice_get core.zones n ≡ Some z → (desk : Desk) → z.keeps ≡ at.Desk desk → desk.parked ≡ []
  none_parked n z had desk keeps = nil_from_length desk.parked (elim (cases_lt 0 (length desk.parked)) [
    | inr none ↦ omega (arith, none)
    | inl some ↦
        let k = own n z had (at.Desk desk) keeps in
        let device = device_sits s core.trace core.zones legal.each legal.count in
        let d = own (device_number s.sizes) device.zone device.had (at.Device device.it) device.keeps in
        let stopped : device.it.stopped ≡ true = d.lists.stopped_is ∙ k.told (omega (arith, some)) in
        let held = own_alone (notice_token s.sizes) (λ m y there. no_word (kept_by y.keeps)) in
        let heard = total_alone (λ (y : Zone). heard_at y.keeps) core.zones n z had (λ m y there ne. other m y.keeps ne (legal.each m y there).own) in
        let here = ap heard_at keeps in
        let sent = total-get (given (notice_token s.sizes)) core.zones (device_number s.sizes) device.zone device.had in
        let all : notified_by s.sizes device.zone.keeps ≡ notified_zones s.sizes = ap (notified_by s.sizes) device.keeps ∙ ap (λ (b : Bool). cond b (notified_zones s.sizes) 0) stopped in
        let early = k.sound.parked_early some in
        let balance = legal.stop_notices in
        absurd (omega (arith, held, heard, here, sent, all, early, balance))
  ])
    where
      mine : DataOk s core.trace n (at.Desk desk)
      mine = own n z had (at.Desk desk) keeps

      other : (m : ℕ) (d : ZoneData) → (m ≡ n → ⊥) → DataOk s core.trace m d → heard_at d ≡ 0
      other m (at.Desk k) ne ok = absurd (ne (ok.number_is ∙ sym mine.number_is))
      other m d ne ok = refl

  -- So no zone keeps a request, and as many were answered as begun.
  kept_none : (n : ℕ) (z : Zone) → slice_get core.zones n ≡ Some z → kept_by z.keeps ≡ []
  kept_none n z had = by z.keeps refl
    where
      by : (d : ZoneData) → z.keeps ≡ d → kept_by d ≡ []
      by (at.Desk desk) keeps = none_parked n z had desk keeps
      by (at.Logical l) keeps =
          ap (λ (vs : List Vio). vs ++ (l.lacking ++ l.settling)) (none_waits n z had l keeps) ∙ ap (λ (vs : List Vio). vs ++ l.settling) (none_lacks n z had l keeps) ∙ none_settles n z had l keeps
      by (at.Journal j) keeps = journal_keeps_none n z had j keeps
      by other keeps = refl

  as_many_answered : total is_begin (lines core.trace) ≡ total is_answer (lines core.trace)
  as_many_answered =
      let held = own_alone room_token (λ n z had. ap (λ (vs : List Vio). total room_token.item (as_items vs)) (kept_none n z had)) in
      sym (only_desk s core legal is_begin) ∙ sym legal.room ∙ held ∙ only_desk s core legal is_answer

  -- no stream may begin a request
  none_begins : (w : Writer) → IsNextLine s.sizes.depth s.script (Begin w) (lines core.trace) → ⊥
  none_begins w next =
      let desk = desk_sits s core.trace core.zones legal.each legal.count in
      let k = own desk_number desk.zone desk.had (at.Desk desk.it) desk.keeps in
      let may : MayBegin s.sizes (at.Desk desk.it) = (w, rw (sym k.sound.requests, sym k.lists.log_is) at next) in
      (still.nothing desk_number desk.zone desk.had).none_begins (subst (MayBegin s.sizes) (sym desk.keeps) may)

  pub all_answered : 1 ≤ s.sizes.depth → AllAnswered s.script (lines core.trace)
  all_answered depth =
      let log = lines core.trace in
      let right = desk_log_right s core.trace legal.right in
      let there = all_there s.sizes.depth s.script log right (omega (arith, as_many_answered)) depth none_begins in
      answered_when_full s.sizes.depth s.script log right (omega (arith, lines_are log, log_few s.sizes.depth s.script log right, there, as_many_answered))
