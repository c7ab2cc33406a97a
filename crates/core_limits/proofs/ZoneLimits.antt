-- In a legal core of a session that is no larger than it may be, the lists of each zone are no longer than said.
use Rattle.std.proofs.Common.{◌≡◌, ℕ, zero, suc, ◌≤◌, Some, List, [], ◌∷◌, length, slice_get, refl, ap, subst, arith}
use Rattle.std.proofs.lemmas.Nat.{mul-le}
use Rattle.core_laws.proofs.Common.{AllByRecursion, DataOk, Desk, IsSession, Item, LogicalZone, Placed, Script, Session, Zone, ZoneData, heard_at, kept_by, lines, notice_token, places, total-get, weight}
use Rattle.core_model.specs.declared.zones.ZoneData.TheVariants as at
use Rattle.core_model.specs.Legal.{Legal, share}
use Rattle.core_model.specs.DeskLimits.{IsDeskWithin}
use Rattle.core_model.specs.SessionLimits.{IsShort, most_depth, most_items, most_notices, most_requests, most_streams, reads_in, requests_in}
use Rattle.core_model.specs.DeskLines.{is_bytes}
use Rattle.plain_laws.specs.Sums.{total}
use Rattle.vdo_model.specs.declared.report.DeskLine.{DeskLine}
use Rattle.core_model.specs.Steps.{Core}
use Rattle.core_limits.proofs.DeskLimits.{answers_few, begins_few, log_few, marks_few, receipts_few}
use Rattle.core_limits.proofs.ReadLimits.{bytes_few}
use Rattle.core_limits.proofs.PlaceLimits.{in_zone_few, places_few}
use Rattle.core_laws.proofs.tokens.Lift.{items_total}
use Rattle.core_limits.proofs.Rooms.{few_words, inbox_room, lane_room, one_each, queue_room}
use Rattle.core_laws.proofs.trace.DeskOfTrace.{desk_log_right}
use Rattle.core_laws.proofs.trace.PlacesOfTrace.{places_drawn}

-- what holds of the element at each number
every_at : {X : Type 0} (P : X → Type 0) (xs : List X) → ((i : ℕ) (x : X) → slice_get xs i ≡ Some x → P x) → AllByRecursion P xs
every_at P [] all = tt
every_at P (x ∷ xs) all = (all zero x refl, every_at P xs (λ i y e. all (suc i) y e))

module _ (s : Session) (core : Core) (session : IsSession s) (legal : Legal s core) where
  -- a share is no more than so many items
  pub few_items : share s ≤ most_items
  few_items =
      let product = mul-le (length s.script) s.sizes.depth most_streams most_depth session.limits.streams session.limits.depth in
      omega (arith, product, session.limits.zones, session.limits.physical)

  module _ (n : ℕ) (z : Zone) (had : slice_get core.zones n ≡ Some z) where
    pub inbox_within : IsShort z.ports.inbox
    inbox_within = let room = inbox_room s core legal n z had in omega (arith, few_items, room)

    pub lanes_within : AllByRecursion (λ lane. IsShort lane) z.ports.outboxes
    lanes_within = every_at (λ (lane : List Item). IsShort lane) z.ports.outboxes (λ to lane there. let room = lane_room s core legal n z to lane had there in omega (arith, few_items, room))

    pub waiting_within : IsShort (kept_by z.keeps)
    waiting_within =
        let room = queue_room s core legal n z had in
        omega (arith, few_items, room, items_total (λ it. 1) (kept_by z.keeps), one_each (kept_by z.keeps))

    -- no more stop notices come to the desk than there are
    few_heard : heard_at z.keeps ≤ most_notices
    few_heard =
        let here = total-get (weight (notice_token s.sizes)) core.zones n z had in
        let balance = legal.stop_notices in
        omega (arith, here, balance, few_words s core legal, session.limits.zones, session.limits.physical)

    -- what it keeps, by its kind
    own : (d : ZoneData) → z.keeps ≡ d → DataOk s core.trace n d
    own d keeps = subst (λ (d : ZoneData). DataOk s core.trace n d) keeps (legal.each n z had).own

    pub desk_within : (desk : Desk) → z.keeps ≡ at.Desk desk → IsDeskWithin desk
    desk_within desk keeps =
        let k = own (at.Desk desk) keeps in
        let right = desk_log_right s core.trace legal.right in
        let requests = ap (λ (script : Script). requests_in script) k.sound.requests in
        let log = ap (λ xs. length xs) k.lists.log_is in
        let given = ap (λ (lines : List DeskLine). total is_bytes lines) k.lists.log_is in
        let reads = ap (λ (script : Script). reads_in script) k.sound.requests in
        let marked = ap (λ xs. length xs) k.lists.marks_is in
        let kept = ap (λ xs. length xs) k.lists.receipts_is in
        let parked = ap (λ (d : ZoneData). length (kept_by d)) keeps in
        let heard = ap heard_at keeps in
        record {
          log = omega (arith, log, requests, log_few s.sizes.depth s.script (lines core.trace) right);
          bytes = omega (arith, given, reads, bytes_few s core.trace legal.right);
          marks = omega (arith, marked, requests, marks_few core.trace, answers_few s.sizes.depth s.script (lines core.trace) right, begins_few s.sizes.depth s.script (lines core.trace) right);
          receipts = omega (arith, kept, requests, receipts_few core.trace, answers_few s.sizes.depth s.script (lines core.trace) right, begins_few s.sizes.depth s.script (lines core.trace) right);
          parked = omega (arith, parked, waiting_within);
          notices = omega (arith, heard, few_heard);
        }

    pub places_within : (l : LogicalZone) → z.keeps ≡ at.Logical l → length l.places ≤ most_requests
    places_within l keeps =
        let k = own (at.Logical l) keeps in
        let is = ap (λ (ps : List Placed). length ps) k.lists.places_is in
        let few = places_few s.sizes.zones s.sizes.geometry.logical s.script (lines core.trace) (places core.trace) (places_drawn s core.trace legal.right) in
        omega (arith, is, few, in_zone_few l.zone (places core.trace), session.limits.requests)
