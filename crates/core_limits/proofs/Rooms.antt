-- In a legal core no lane and no list of a zone has more than its share.
use Rattle.std.proofs.Common.{◌≡◌, ℕ, zero, suc, ◌+◌, ◌*◌, ◌≤◌, Bool, true, false, cond, Some, List, [], ◌∷◌, length, slice_get, get_or, refl, ap, ◌∙◌, subst, inl, inr, arith}
use Rattle.core_laws.proofs.Common.{answered, begun, DataOk, desk_number, DeskLine, device_number, eqb_tells, given, in_log, is_answer, is_begin, is_sealed, is_word, IsDeskLog, Item, journal_token, kept_by, lines, notice_token, notified_by, notified_zones, queued, room_token, Script, Session, some_of, total, total-get, total_alone, weight, Zone, ZoneData}
use Rattle.std.proofs.lemmas.Option.{slice_get_within}
use Rattle.vdo_model.specs.declared.report.DeskLine.TheVariants.{Begin, Answer}
use Rattle.data_vio.specs.declared.items.Item.TheVariants as item
use Rattle.core_model.specs.declared.zones.ZoneData.TheVariants as at
use Rattle.core_model.specs.Legal.{Legal, share}
use Rattle.core_model.specs.Steps.{Core}
use Rattle.core_limits.proofs.StreamSums.{over, over_more, over_none, stream_there}
use Rattle.core_limits.proofs.UpdateSums.{IsKnown, all_known, damages_few, entries_few, kept_reports, known_by, reports_wait, updates_in, updates_weigh}
pub use Rattle.core_limits.proofs.UpdateSums.{carried, split_sum}
use Rattle.core_laws.proofs.Common.{AllByRecursion, ItemOk, LogicalZone, Writer, every-map}
use Rattle.core_model.specs.LogicalFacts.{ReportOk}
use Rattle.core_model.specs.Tokens.{damage_token, decrement_weight, is_damage, report_token}
use Rattle.core_laws.proofs.tokens.Lift.{items_total}
use Rattle.core_laws.proofs.trace.DeskOfTrace.{desk_log_right}
use Rattle.core_laws.proofs.kept.ZoneKinds.{desk_sits, device_sits, journal_once, no_words}

-- Each stream has at most so many requests under way.
pub stream_bound : (depth : ℕ) (script : Script) (desk : List DeskLine) (stream : ℕ) → IsDeskLog depth script desk → begun stream desk ≤ answered stream desk + depth
stream_bound depth script [] stream right = omega arith
stream_bound depth script (Begin w ∷ older) stream right = elim (eqb_tells w.stream stream) [
  | inl same ↦ let few = right.0.2 in let a = ap (λ k. begun k older) same.1 in let b = ap (λ k. answered k older) same.1 in rw same.0 (omega (arith, few, a, b))
  | inr other ↦ rw other.0 (stream_bound depth script older stream right.1)
]
stream_bound depth script (Answer w a ∷ older) stream right = elim (eqb_tells w.stream stream) [
  | inl same ↦ let rest = stream_bound depth script older stream right.1 in rw same.0 (omega (arith, rest))
  | inr other ↦ rw other.0 (stream_bound depth script older stream right.1)
]

-- what is begun, and what is answered, over all streams
pub all_begun : (depth : ℕ) (script : Script) (desk : List DeskLine) → IsDeskLog depth script desk → total is_begin desk ≤ over (length script) (λ i. begun i desk)
all_begun depth script [] right = omega arith
all_begun depth script (Begin w ∷ older) right =
    let rest = all_begun depth script older right.1 in
    let asked = some_of _ right.0.1 in
    let below = slice_get_within (get_or script w.stream []) w.number asked.0 asked.1 in
    elim (over_more (length script) w.stream (λ i. begun i older)) [
      | inl one ↦ omega (arith, rest, one.1)
      | inr none ↦ let there = stream_there script w.stream (omega (arith, below)) in absurd (omega (arith, none.0, there))
    ]
all_begun depth script (Answer w a ∷ older) right = let rest = all_begun depth script older right.1 in omega (arith, rest)

pub all_answered : (k : ℕ) (desk : List DeskLine) → over k (λ i. answered i desk) ≤ total is_answer desk
all_answered k [] = over_none k (λ i. 0) (λ i. omega arith)
all_answered k (Begin w ∷ older) = let rest = all_answered k older in omega (arith, rest)
all_answered k (Answer w a ∷ older) =
    let rest = all_answered k older in
    elim (over_more k w.stream (λ i. answered i older)) [ inl one ↦ omega (arith, rest, one.1) | inr none ↦ omega (arith, rest, none.1) ]

bounded : (depth : ℕ) (script : Script) (desk : List DeskLine) (k : ℕ) → IsDeskLog depth script desk → over k (λ i. begun i desk) ≤ over k (λ i. answered i desk) + k * depth
bounded depth script desk zero right = omega arith
bounded depth script desk (suc k) right =
    let rest = bounded depth script desk k right in
    let one = stream_bound depth script desk k right in
    let product : suc k * depth ≡ depth + k * depth = omega arith in
    omega (arith, rest, one, product)

-- as many requests are under way as that
pub under_way : (depth : ℕ) (script : Script) (desk : List DeskLine) → IsDeskLog depth script desk → total is_begin desk ≤ total is_answer desk + length script * depth
under_way depth script desk right =
    let a = all_begun depth script desk right in
    let b = bounded depth script desk (length script) right in
    let c = all_answered (length script) desk in
    omega (arith, a, b, c)

counted : (items : List Item) → length items ≤ total room_token.item items + total is_word items + total is_sealed items + length (updates_in items) + total is_damage items
counted [] = omega arith
counted (item.Request v ∷ items) = omega (arith, counted items)
counted (other ∷ items) = omega (arith, counted items)

lane_of : (f : Item → ℕ) (lanes : List (List Item)) (i : ℕ) (lane : List Item) → slice_get lanes i ≡ Some lane → total f lane ≤ total (total f) lanes
lane_of f lanes i lane had = total-get (total f) lanes i lane had

pub one_each : {X : Type 0} (xs : List X) → total (λ x. 1) xs ≡ length xs
one_each [] = refl
one_each (x ∷ xs) = omega (arith, one_each xs)

module _ (s : Session) (core : Core) (legal : Legal s core) where
  abbrev zones : List Zone
  zones = core.zones

  pub only_desk : (f : DeskLine → ℕ) → total (λ (z : Zone). in_log f z.keeps) core.zones ≡ total f (lines core.trace)
  only_desk f =
      let desk = desk_sits s core.trace core.zones legal.each legal.count in
      let k = subst (λ (d : ZoneData). DataOk s core.trace desk_number d) desk.keeps (legal.each desk_number desk.zone desk.had).own in
      total_alone (λ (z : Zone). in_log f z.keeps) core.zones desk_number desk.zone desk.had (λ j y there ne. no_log j y.keeps ne (legal.each j y there).own)
      ∙ ap (in_log f) desk.keeps ∙ ap (total f) k.lists.log_is
    where
      no_log : (j : ℕ) (d : ZoneData) → (j ≡ desk_number → ⊥) → DataOk s core.trace j d → in_log f d ≡ 0
      no_log j (at.Desk d) ne k = absurd (ne k.number_is)
      no_log j other ne k = refl

  -- the device gives out no more notices than it notifies zones
  pub few_words : total (given (notice_token s.sizes)) core.zones ≤ notified_zones s.sizes
  few_words =
      let device = device_sits s core.trace core.zones legal.each legal.count in
      let alone = total_alone (given (notice_token s.sizes)) core.zones (device_number s.sizes) device.zone device.had (λ j y there ne. no_words s core.trace j y.keeps ne (legal.each j y there).own) in
      let notified = ap (notified_by s.sizes) device.keeps in
      omega (arith, alone, notified, by device.it.stopped)
    where
      by : (b : Bool) → cond b (notified_zones s.sizes) 0 ≤ notified_zones s.sizes
      by true = omega arith
      by false = omega arith

  -- all requests under way
  pub all_requests : total (carried room_token) core.zones ≤ length s.script * s.sizes.depth
  all_requests =
      let split = split_sum room_token core.zones in
      let balance = legal.room in
      let begins = only_desk is_begin in
      let answers = only_desk is_answer in
      let few = under_way s.sizes.depth s.script (lines core.trace) (desk_log_right s core.trace legal.right) in
      omega (arith, split, balance, begins, answers, few)

  few_requests : (n : ℕ) (z : Zone) → slice_get core.zones n ≡ Some z → carried room_token z ≤ length s.script * s.sizes.depth
  few_requests n z had =
      let here = total-get (carried room_token) core.zones n z had in
      omega (arith, here, all_requests)

  few_notices : (n : ℕ) (z : Zone) → slice_get core.zones n ≡ Some z → total is_word z.ports.inbox + total (total is_word) z.ports.outboxes ≤ notified_zones s.sizes
  few_notices n z had =
      let here = total-get (weight (notice_token s.sizes)) core.zones n z had in
      let balance = legal.stop_notices in
      omega (arith, here, balance, few_words)

  -- there is one block of the journal, or none
  few_blocks : (n : ℕ) (z : Zone) → slice_get core.zones n ≡ Some z → total is_sealed z.ports.inbox + total (total is_sealed) z.ports.outboxes ≤ 1
  few_blocks n z had =
      let here = total-get (weight journal_token) core.zones n z had in
      let balance = legal.journal in
      omega (arith, here, balance, journal_once s core.trace core.zones legal.each)

  -- decrements and reports, one for each request at most; and damage is told once by each physical zone
  few_damages : (n : ℕ) (z : Zone) → slice_get core.zones n ≡ Some z → total is_damage z.ports.inbox + total (total is_damage) z.ports.outboxes ≤ s.sizes.physical
  few_damages n z had =
      let here = total-get (weight damage_token) core.zones n z had in
      let few = damages_few s core legal in
      omega (arith, here, few)

  few_updates : (n : ℕ) (z : Zone) (items : List Item) (m : ℕ) → slice_get core.zones n ≡ Some z → AllByRecursion (ItemOk s core.trace m) items
      → ((u : Writer) → total (decrement_weight u) items ≤ total (decrement_weight u) z.ports.inbox + total (total (decrement_weight u)) z.ports.outboxes) → length (updates_in items) ≤ length s.script * s.sizes.depth
  few_updates n z items m had ok among =
      let few = entries_few s core legal (updates_in items) (all_known s core legal m items ok) (λ u.
      let here = total-get (carried (report_token u)) core.zones n z had in
      let part = among u in
      omega (arith, updates_weigh u items, part, here, reports_wait s core legal u)) in
      omega (arith, few, all_requests)

  pub inbox_room : (n : ℕ) (z : Zone) → slice_get core.zones n ≡ Some z → length z.ports.inbox ≤ share s
  inbox_room n z had =
      let a = few_requests n z had in
      let b = few_notices n z had in
      let c = counted z.ports.inbox in
      let d = few_blocks n z had in
      let e = few_damages n z had in
      let f = few_updates n z z.ports.inbox n had (legal.each n z had).inbox (λ u. omega arith) in
      omega (arith, a, b, c, d, e, f)

  pub lane_room : (n : ℕ) (z : Zone) (to : ℕ) (lane : List Item) → slice_get core.zones n ≡ Some z → slice_get z.ports.outboxes to ≡ Some lane → length lane ≤ share s
  lane_room n z to lane had there =
      let a = few_requests n z had in
      let b = few_notices n z had in
      let c = counted lane in
      let d = lane_of room_token.item z.ports.outboxes to lane there in
      let e = lane_of is_word z.ports.outboxes to lane there in
      let f = lane_of is_sealed z.ports.outboxes to lane there in
      let g = few_blocks n z had in
      let h = few_damages n z had in
      let i = lane_of is_damage z.ports.outboxes to lane there in
      let j = few_updates n z lane to had ((legal.each n z had).outboxes to lane there) (λ u. let part = lane_of (decrement_weight u) z.ports.outboxes to lane there in omega (arith, part)) in
      omega (arith, a, b, c, d, e, f, g, h, i, j)

  pub queue_room : (n : ℕ) (z : Zone) → slice_get core.zones n ≡ Some z → queued (λ it. 1) z.keeps ≤ share s
  queue_room n z had =
      let a = few_requests n z had in
      let b = items_total (λ it. 1) (kept_by z.keeps) in
      let c = items_total room_token.item (kept_by z.keeps) in
      omega (arith, a, b, c)

  -- and no more reports are kept
  pub kept_few : (n : ℕ) (z : Zone) → slice_get core.zones n ≡ Some z → (l : LogicalZone) → z.keeps ≡ at.Logical l → length l.reported ≤ share s
  kept_few n z had l keeps =
      let k = subst (λ (d : ZoneData). DataOk s core.trace n d) keeps (legal.each n z had).own in
      let known = every-map {P = ReportOk s core.trace l.zone} {Q = IsKnown s core legal} (λ e ok. known_by s core legal e ok.0.decrement) l.reported k.lists.reports_are in
      let few = entries_few s core legal l.reported known (λ u.
      let here = total-get (λ (y : Zone). kept_reports u y.keeps) core.zones n z had in
      let same = ap (kept_reports u) keeps in
      omega (arith, here, same, reports_wait s core legal u)) in
      omega (arith, few, all_requests)
