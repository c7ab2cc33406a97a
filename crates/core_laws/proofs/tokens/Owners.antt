-- Who holds a request, and the lock of an address, holds it alone.
use Rattle.std.proofs.Common.{Option, if◌then◌else◌, None, ◌≡◌, ℕ, ◌+◌, ◌≤◌, length, List, [], ◌∷◌, refl, ap, inl, inr, arith, ◌<◌, Bool, true, false, not, ◌&&◌, ◌==◌, Some, slice_get, sym, ◌∙◌, subst}
use Rattle.core_laws.proofs.Common.{Pbn, AllByRecursion, Balanced, as_items, kept_by, VioOk, DataOk, DeskLine, Each, IsDeskLog, Item, ItemOk, Lock, LockOk, LogicalZone, RightTrace, Script, Session, Sizes, Trace, Vio, Writer, Zone, ZoneData, ZoneId, ZoneOk, begins_of, begun, bit, desk_number, eqb_tells, every-map, given, holder_weight, holds, in_log, lease_token, lines, lock_weight, locks_at, logical_number, of_vio, request_token, same_tells, total, total-get, total_alone, weight, zone_number, zone_of, physical_number, eq-eqb}
use Rattle.vdo_model.specs.declared.report.DeskLine.TheVariants.{Begin, Answer}
use Rattle.core_laws.proofs.trace.DeskOfTrace.{desk_log_right}
use Rattle.core_laws.proofs.trace.Growth.{begun_more}
use Rattle.core_laws.proofs.kept.ZoneKinds.{total_once}
use Rattle.data_vio.specs.Phases.{Where, AtDesk, AtHome, AtPhysical, AtTicket, AtJournal, AtDevice, InNoLane, phase_rule, number_at}
use Rattle.core_laws.proofs.tokens.Known.{Leased}
use Rattle.core_model.specs.Legal.{Legal}
use Rattle.core_model.specs.Steps.{Core}
use Rattle.core_model.specs.Tokens.{out_at, out_in, ticket_token}
use Rattle.core_model.specs.declared.zones.PhysicalZone.{PhysicalZone}
use Rattle.core_model.specs.declared.zones.ZoneData.TheVariants as at
use Rattle.data_vio.specs.declared.items.Item.TheVariants as item
use Rattle.blk_base.specs.declared.place.ZoneId.TheVariants as id
use Rattle.data_vio.specs.Vios.{counts_for, ticket_zone}
use Rattle.slab_counts.specs.declared.tickets.Ticket.{Ticket}

-- A request is begun once, and under way in one place.

-- one more of its stream is begun
begun_now : (v : Writer) (older : List DeskLine) → begun v.stream (Begin v ∷ older) ≡ begun v.stream older + 1
begun_now v older = elim (eqb_tells v.stream v.stream) [ inl is ↦ rw is.0 refl | inr other ↦ absurd (other.1 refl) ]

-- a request whose number is still to come has no line of its beginning
pub not_begun : (depth : ℕ) (script : Script) (desk : List DeskLine) (w : Writer) → IsDeskLog depth script desk → begun w.stream desk ≤ w.number → total (begins_of w) desk ≡ 0
not_begun depth script [] w log le = refl
not_begun depth script (Answer v a ∷ older) w log le = omega (arith, not_begun depth script older w log.1 le)
not_begun depth script (Begin v ∷ older) w log le = elim (same_tells v w) [
  | inl same ↦
      let stream = ap (λ (u : Writer). begun u.stream (Begin v ∷ older)) same.1 in
      let number = ap (λ (u : Writer). u.number) same.1 in
      absurd (omega (arith, le, begun_now v older, stream, number, log.0.0))
  | inr other ↦
      let before = not_begun depth script older w log.1 (omega (arith, le, begun_more w.stream (Begin v) older)) in
      rw other.0 (omega (arith, before))
]

-- each request is begun once
pub begun_once : (depth : ℕ) (script : Script) (desk : List DeskLine) (w : Writer) → IsDeskLog depth script desk → total (begins_of w) desk ≤ 1
begun_once depth script [] w log = omega arith
begun_once depth script (Answer v a ∷ older) w log = omega (arith, begun_once depth script older w log.1)
begun_once depth script (Begin v ∷ older) w log = elim (same_tells v w) [
  | inl same ↦
      let stream = ap (λ (u : Writer). begun u.stream older) same.1 in
      let number = ap (λ (u : Writer). u.number) same.1 in
      let before = not_begun depth script older w log.1 (omega (arith, stream, number, log.0.0)) in
      rw same.0 (omega (arith, before))
  | inr other ↦ rw other.0 (omega (arith, begun_once depth script older w log.1))
]

module _ (s : Session) (t : Trace) (right : RightTrace s t) (zones : List Zone) (each : Each (ZoneOk s t) zones) (w : Writer) where
  one_begin_at : (n : ℕ) (d : ZoneData) → DataOk s t n d → (in_log (begins_of w) d ≤ 1) × ((n ≡ desk_number → ⊥) → in_log (begins_of w) d ≡ 0)
  one_begin_at n (at.Desk desk) ok = (rw ok.lists.log_is (begun_once s.sizes.depth s.script (lines t) w (desk_log_right s t right)), λ ne. absurd (ne ok.number_is))
  one_begin_at n other ok = (omega arith, λ ne. refl)

  -- it is given out once
  pub request_once : total (given (request_token w)) zones ≤ 1
  request_once = total_once (given (request_token w)) zones desk_number (λ n z had. one_begin_at n z.keeps (each n z had).own)

-- Who holds the lock of an address has it at its home, and nobody else holds it.

-- the number of the logical zone of an address
abbrev pub home_of : Session → ℕ → ℕ
home_of s a = logical_number (zone_of s.sizes.zones a)

-- locks of other addresses weigh nothing
no_locks : (a : ℕ) (test : ℕ → Bool) (locks : List Lock) → AllByRecursion (λ (lock : Lock). lock.at.0 ≡ a → ⊥) locks → total (lock_weight a test) locks ≡ 0
no_locks a test [] h = refl
no_locks a test (lock ∷ locks) h = elim (eqb_tells lock.at.0 a) [
  | inl same ↦ absurd (h.0 same.1)
  | inr other ↦ rw other.0 (omega (arith, no_locks a test locks h.1))
]

-- the locks whose place passes a test, and those whose place doesn't
split_locks : (a : ℕ) (test : ℕ → Bool) (locks : List Lock) → total (lock_weight a test) locks + total (lock_weight a (λ p. not (test p))) locks ≡ total (lock_weight a (λ p. true)) locks
split_locks a test [] = refl
split_locks a test (lock ∷ locks) = let x = one (lock.at.0 == a) (test lock.place) in omega (arith, x, split_locks a test locks)
  where
    one : (b c : Bool) → bit (b && c) + bit (b && not c) ≡ bit (b && true)
    one true true = refl
    one true false = refl
    one false c = refl

module _ (s : Session) (t : Trace) (a : ℕ) where
  pub locks_elsewhere : (test : ℕ → Bool) (j : ℕ) (d : ZoneData) → DataOk s t j d → (j ≡ home_of s a → ⊥) → locks_at a test d ≡ 0
  locks_elsewhere test j (at.Logical l) own ne =
      no_locks a test l.held (every-map {P = LockOk s l.zone l.next} (λ (lock : Lock) ok here. ne (own.number_is ∙ ap logical_number (sym ok.0 ∙ ap (zone_of s.sizes.zones) here))) l.held own.sound.locks.locks_are)
  locks_elsewhere test j other own ne = refl

  module _ (zones : List Zone) (each : Each (ZoneOk s t) zones) where
    -- only the home of an address gives its lock
    pub given_at_home : (test : ℕ → Bool) (n : ℕ) (z : Zone) → slice_get zones n ≡ Some z → n ≡ home_of s a → total (given (lease_token a test)) zones ≡ locks_at a test z.keeps
    given_at_home test n z had home = total_alone (given (lease_token a test)) zones n z had (λ j y k ne. locks_elsewhere test j y.keeps (each j y k).own (λ q. ne (q ∙ sym home)))

-- A request served at a logical zone is served at its home.
pub at_home : (sizes : Sizes) (n zone : ℕ) (home : ZoneId) (turn : ℕ) (claim : Option Pbn) (tickets : List Ticket) (q : Where) → n ≡ logical_number zone → zone < sizes.zones
    → n ≡ number_at sizes home (counts_for sizes turn claim) (ticket_zone tickets) q → n ≡ zone_number sizes home
at_home sizes n zone home turn claim tickets AtHome is below to = to
at_home sizes n zone home turn claim tickets AtDesk is below to = absurd (omega (arith, is, below, to))
at_home sizes n zone home turn None tickets AtPhysical is below to = absurd (omega (arith, is, below, to))
at_home sizes n zone home turn (Some x) tickets AtPhysical is below to = absurd (omega (arith, is, below, to))
at_home sizes n zone home turn claim [] AtTicket is below to = absurd (omega (arith, is, below, to))
at_home sizes n zone home turn claim (k ∷ others) AtTicket is below to = absurd (omega (arith, is, below, to))
at_home sizes n zone home turn claim tickets AtJournal is below to = absurd (omega (arith, is, below, to))
at_home sizes n zone home turn claim tickets AtDevice is below to = absurd (omega (arith, is, below, to))
at_home sizes n zone home turn claim tickets InNoLane is below to = absurd (omega (arith, is, below, to))

-- its weight
front_weight : (test : ℕ → Bool) (v : Vio) → holds v.phase ≡ true → holder_weight v.at.0 test v ≡ bit (test v.place)
front_weight test v h = elim (eqb_tells v.at.0 v.at.0) [
  | inl same ↦ rw (h, same.0) refl
  | inr other ↦ absurd (other.1 refl)
]

one_of_two : (test : ℕ → Bool) (place x y z : ℕ) → x + y ≡ z → z ≤ 1 → bit (test place) ≤ x → bit (not (test place)) ≤ y → x ≡ bit (test place)
one_of_two test place x y z e le = by_bit (test place)
  where
    by_bit : (b : Bool) → bit b ≤ x → bit (not b) ≤ y → x ≡ bit b
    by_bit true h k = omega (arith, h, k)
    by_bit false h k = omega (arith, h, k)

-- From the balance of all locks of its address: whoever weighs for one in its logical zone has it there.
leased_with : (s : Session) (t : Trace) (zones : List Zone) (n : ℕ) (z : Zone) (l : LogicalZone) (v : Vio)
    → Each (ZoneOk s t) zones → ((test : ℕ → Bool) → Balanced (lease_token v.at.0 test) zones)
    → slice_get zones n ≡ Some z → z.keeps ≡ at.Logical l → n ≡ home_of s v.at.0 → ((test : ℕ → Bool) → bit (test v.place) ≤ weight (lease_token v.at.0 test) z) → Leased l v
leased_with s t zones n z l v each balance had keeps home weighs test =
    let own = subst (λ (d : ZoneData). DataOk s t n d) keeps (each n z had).own in
    let a = v.at.0 in
    let gave : (test : ℕ → Bool) → total (given (lease_token a test)) zones ≡ total (lock_weight a test) l.held = λ test. given_at_home s t a zones each test n z had home ∙ ap (locks_at a test) keeps in
    let bound : (test : ℕ → Bool) → bit (test v.place) ≤ total (lock_weight a test) l.held = λ test.
    let w = total-get (weight (lease_token a test)) zones n z had in
    let g = gave test in
    let e = balance test in
    let most = weighs test in
    omega (arith, most, w, g, e)
    in
    one_of_two test v.place (total (lock_weight a test) l.held) (total (lock_weight a (λ p. not (test p))) l.held) (total (lock_weight a (λ p. true)) l.held)
    (split_locks a test l.held) (own.sound.locks.once a) (bound test) (bound (λ p. not (test p)))

-- the front of a logical zone that holds a lock has it there
pub leased_front : (s : Session) (t : Trace) (zones : List Zone) (n : ℕ) (z : Zone) (l : LogicalZone) (v : Vio) (rest : List Item)
    → Each (ZoneOk s t) zones → ((test : ℕ → Bool) → Balanced (lease_token v.at.0 test) zones)
    → slice_get zones n ≡ Some z → z.ports.inbox ≡ item.Request v ∷ rest → z.keeps ≡ at.Logical l → holds v.phase ≡ true → Leased l v
leased_front s t zones n z l v rest each balance had front keeps h =
    let ok = each n z had in
    let own = subst (λ (d : ZoneData). DataOk s t n d) keeps ok.own in
    let first = (subst (λ (items : List Item). AllByRecursion (ItemOk s t n) items) front ok.inbox).0 in
    let home : n ≡ home_of s v.at.0 = at_home s.sizes n l.zone v.home (length v.tickets + v.place) v.claim v.tickets (phase_rule v.phase).zone own.number_is own.sound.among first.2 ∙ ap (zone_number s.sizes) first.0.home in
    leased_with s t zones n z l v each balance had keeps home (λ test.
    let one = front_weight test v h in
    let inbox = ap (total (of_vio (holder_weight v.at.0 test))) front in
    omega (arith, one, inbox))

-- and so has a request that it keeps with its lock
pub leased_kept : (s : Session) (t : Trace) (zones : List Zone) (n : ℕ) (z : Zone) (l : LogicalZone) (v : Vio)
    → Each (ZoneOk s t) zones → ((test : ℕ → Bool) → Balanced (lease_token v.at.0 test) zones)
    → slice_get zones n ≡ Some z → z.keeps ≡ at.Logical l → v.home ≡ id.Logical l.zone → VioOk s t v → holds v.phase ≡ true
    → ((f : Vio → ℕ) → f v ≤ total f (kept_by (at.Logical l))) → Leased l v
leased_kept s t zones n z l v each balance had keeps at_zone ok h among =
    let own = subst (λ (d : ZoneData). DataOk s t n d) keeps (each n z had).own in
    let home : n ≡ home_of s v.at.0 = own.number_is ∙ ap (zone_number s.sizes) (sym at_zone) ∙ ap (zone_number s.sizes) ok.home in
    leased_with s t zones n z l v each balance had keeps home (λ test.
    let one = front_weight test v h in
    let f : Vio → ℕ = holder_weight v.at.0 test in
    let some = among f in
    let kept = queued_total f (kept_by (at.Logical l)) in
    let lines = ap (λ (d : ZoneData). total (of_vio f) (as_items (kept_by d))) keeps in
    omega (arith, one, some, kept, lines))
  where
    queued_total : (f : Vio → ℕ) (vs : List Vio) → total (of_vio f) (as_items vs) ≡ total f vs
    queued_total f [] = refl
    queued_total f (u ∷ us) = omega (arith, queued_total f us)

-- A ticket that somebody holds is out in its zone.
module _ (s : Session) (core : Core) (legal : Legal s core) where
  out_elsewhere : (zone : ℕ) (test : ℕ → Bool) (j : ℕ) (d : ZoneData) → DataOk s core.trace j d → (j ≡ physical_number s.sizes zone → ⊥) → out_at zone test d ≡ 0
  out_elsewhere zone test j (at.Physical p) own ne = elim (eqb_tells p.counts.zone zone) [
    | inl same ↦ absurd (ne (own.number_is ∙ ap (physical_number s.sizes) same.1))
    | inr other ↦ rw other.0 refl
  ]
  out_elsewhere zone test j other own ne = refl

  pub held_is_out : (n : ℕ) (z : Zone) (p : PhysicalZone) → slice_get core.zones n ≡ Some z → z.keeps ≡ at.Physical p → (test : ℕ → Bool) → 1 ≤ total (weight (ticket_token p.counts.zone test)) core.zones → 1 ≤ out_in test p.counts
  held_is_out n z p had keeps test some =
      let token = ticket_token p.counts.zone test in
      let number = (subst (λ (d : ZoneData). DataOk s core.trace n d) keeps (legal.each n z had).own).number_is in
      let alone : total (given token) core.zones ≡ out_at p.counts.zone test (at.Physical p)
      = total_alone (given token) core.zones n z had (λ j y there ne. out_elsewhere p.counts.zone test j y.keeps (legal.each j y there).own (λ is. ne (is ∙ sym number))) ∙ ap token.gave keeps in
      let here : out_at p.counts.zone test (at.Physical p) ≡ out_in test p.counts = ap (λ (b : Bool). if b then out_in test p.counts else 0) (eq-eqb p.counts.zone p.counts.zone refl) in
      let balanced = legal.tickets p.counts.zone test in
      omega (arith, some, balanced, alone, here)
