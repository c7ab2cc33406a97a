-- No more tickets are out in a physical zone than requests are under way: each has one of it at most.
use Rattle.std.proofs.Common.{◌≡◌, ℕ, suc, ◌+◌, ◌-◌, ◌*◌, ◌/◌, ◌%◌, ◌<◌, ◌≤◌, nat_eq, Bool, true, false, None, Some, List, [], ◌∷◌, ◌++◌, length, slice_get, refl, ap, sym, ◌∙◌, subst, inl, inr, mul-le-mul_right, arith}
use Rattle.std.proofs.Math.Nat.{add-mul-mod_self_right, mod-eq_of_lt, mod-lt}
use Rattle.std.proofs.lemmas.Nat.{div-add-mod'}
use Rattle.core_laws.proofs.Common.{AllByRecursion, Carries, DataOk, Each, IsSession, Item, ItemOk, KeptEach, KeptOk, Phase, PhysicalZone, Session, Sizes, Trace, Vio, Zone, ZoneData, ZoneOk, as_items, bit, cases_lt, eq-eqb, eqb_tells, given, queued, room_token, total, total-get, total_zero, made_by}
use Rattle.data_vio.specs.declared.items.Item.TheVariants as item
use Rattle.data_vio.specs.declared.items.Phase.TheVariants as phase
use Rattle.data_vio.specs.Phases.{phase_rule}
use Rattle.core_model.specs.Facts.{CarriesFor}
use Rattle.core_model.specs.PhysicalFacts.{AreInTurn, IsAsking, IsWithdrawing}
use Rattle.core_model.specs.RequestFacts.{ClaimOk}
use Rattle.core_model.specs.Legal.{Legal}
use Rattle.core_model.specs.PhysicalLimits.{IsPhysicalWithin}
use Rattle.core_model.specs.SessionLimits.{most_streams, most_requests}
use Rattle.core_model.specs.Steps.{Core}
use Rattle.core_model.specs.Tokens.{Token, ticket_token, ticket_weight}
use Rattle.core_model.specs.declared.zones.ZoneData.TheVariants as at
use Rattle.slab_counts.specs.declared.tickets.Ticket.{Ticket}
use Rattle.slab_tickets.specs.declared.forms.Waiting.{Waiting}
use Rattle.core_laws.proofs.kept.FirstState.{total_at_most}
use Rattle.core_limits.proofs.Rooms.{all_requests, carried, split_sum}
use Rattle.core_limits.proofs.Stillness.{both_items}

-- fewer turns than there are zones don't come to the same zone again
never_again : (count turn more : ℕ) → 0 < more → more < count → (turn + more) % count ≡ turn % count → ⊥
never_again count turn more some less same = elim (cases_lt (rest + more) count) [
  | inl inside ↦ let to = at_parts ∙ add-mul-mod_self_right (rest + more) (turn / count) count ∙ mod-eq_of_lt inside in omega (arith, some, to, same)
  | inr outside ↦
      let left : rest + more - count + (turn / count + 1) * count ≡ rest + more + turn / count * count = omega (arith, outside, again) in
      let inside : rest + more - count < count = omega (arith, below, less, outside) in
      let to = at_parts ∙ ap (λ (n : ℕ). n % count) (sym left) ∙ add-mul-mod_self_right (rest + more - count) (turn / count + 1) count ∙ mod-eq_of_lt inside in
      omega (arith, to, same, less, outside)
]
  where
    rest : ℕ
    rest = turn % count

    below : rest < count
    below = mod-lt turn (omega (arith, less))

    parts : turn / count * count + rest ≡ turn
    parts = div-add-mod' turn count

    again : (turn / count + 1) * count ≡ turn / count * count + count
    again = omega arith

    at_parts : (turn + more) % count ≡ (rest + more + turn / count * count) % count
    at_parts = ap (λ (n : ℕ). n % count) (let is : turn + more ≡ rest + more + turn / count * count = omega (arith, parts) in is)

abbrev any : ℕ → Bool
any number = true

weighs_one : (zone : ℕ) (k : Ticket) → ticket_weight zone any k ≤ 1
weighs_one zone k = elim (eqb_tells k.zone zone) [ inl same ↦ rw same.0 (omega arith) | inr other ↦ rw other.0 (omega arith) ]

module _ (sizes : Sizes) (zone : ℕ) where
  none_again : (turn more : ℕ) (tickets : List Ticket) → turn % sizes.physical ≡ zone → 0 < more → more + length tickets ≤ sizes.physical → AreInTurn sizes (turn + more) tickets → total (ticket_weight zone any) tickets ≡ 0
  none_again turn more [] here some few all = refl
  none_again turn more (k ∷ others) here some few all =
      let rest = none_again turn (suc more) others here (omega arith) (omega (arith, few)) (subst (λ (n : ℕ). AreInTurn sizes n others) (let same : suc (turn + more) ≡ turn + suc more = omega arith in same) all.1) in
      elim (eqb_tells k.zone zone) [
        | inl same ↦ absurd (never_again sizes.physical turn more some (omega (arith, few)) (sym all.0 ∙ same.1 ∙ sym here))
        | inr other ↦ rw other.0 (omega (arith, rest))
      ]

  -- so of tickets in their turns, no more than there are zones, one is of the zone
  one_of_zone : (turn : ℕ) (tickets : List Ticket) → length tickets ≤ sizes.physical → AreInTurn sizes turn tickets → total (ticket_weight zone any) tickets ≤ 1
  one_of_zone turn [] few all = omega arith
  one_of_zone turn (k ∷ others) few all = elim (eqb_tells k.zone zone) [
    | inl same ↦
        let none = none_again turn 1 others (sym all.0 ∙ same.1) (omega arith) (omega (arith, few)) (subst (λ (n : ℕ). AreInTurn sizes n others) (let next : suc turn ≡ turn + 1 = omega arith in next) all.1) in
        let one = weighs_one zone k in
        omega (arith, none, one)
    | inr other ↦ let rest = one_of_zone (suc turn) others (omega (arith, few)) all.1 in rw other.0 (omega (arith, rest))
  ]

-- sums, where each thing weighs no more
total_where : {X : Type 0} (P : X → Type 0) (f g : X → ℕ) (xs : List X) → ((x : X) → P x → f x ≤ g x) → AllByRecursion P xs → total f xs ≤ total g xs
total_where P f g [] less all = omega arith
total_where P f g (x ∷ xs) less all = omega (arith, less x all.0, total_where P f g xs less all.1)

lanes_where : {X : Type 0} (P : ℕ → X → Type 0) (f g : X → ℕ) (lanes : List (List X)) → ((n : ℕ) (x : X) → P n x → f x ≤ g x) → Each (λ n. AllByRecursion (P n)) lanes → total (total f) lanes ≤ total (total g) lanes
lanes_where P f g [] less each = omega arith
lanes_where P f g (lane ∷ lanes) less each =
    omega (arith, total_where (P 0) f g lane (less 0) (each 0 lane refl), lanes_where (λ n. P (suc n)) f g lanes (λ n. less (suc n)) (λ n. each (suc n)))

module _ (s : Session) (t : Trace) (zone : ℕ) where
  abbrev held : Vio → ℕ
  held v = total (ticket_weight zone any) v.tickets

  none_held : (v : Vio) → v.tickets ≡ [] → held v ≤ 1
  none_held v none = let no = ap (total (ticket_weight zone any)) none in omega (arith, no)

  -- a request has one of the zone at most
  one_held : (v : Vio) → Carries s t v v.phase → ClaimOk s v → held v ≤ 1
  one_held v carries claim = by v.phase carries claim.no_ticket
    where
      asks_own : (o : _) → CarriesFor s t v phase.Claim o → IsAsking s t v.request v.place v.tickets
      asks_own None k = k.4
      asks_own (Some page) k = k.2

      back_own : (o : _) → CarriesFor s t v phase.Withdraw o → IsWithdrawing s t v.request v.claim v.tickets
      back_own None k = k.3
      back_own (Some page) k = k.2

      by : (q : Phase) → Carries s t v q → ((phase_rule q).asks ≡ false → v.tickets ≡ []) → held v ≤ 1
      by phase.Claim k none = let asks = asks_own v.page k in one_of_zone s.sizes zone v.place v.tickets (let fewer = asks.fewer in omega (arith, fewer)) asks.in_turn
      by phase.Withdraw k none = let back = back_own v.page k in one_of_zone s.sizes zone back.turn v.tickets back.few back.in_turn
      by other k none = none_held v (none refl)

  item_most : (to : ℕ) (it : Item) → ItemOk s t to it → (ticket_token zone any).item it ≤ room_token.item it
  item_most to (item.Request v) ok = one_held v ok.1 ok.3
  item_most to (item.Block b) ok = total_where (KeptOk s t phase.Pending) held (λ v. 1) b.vios (λ v k. one_held v k.1 k.3) ok.0.0
  item_most to other ok = omega arith

  kept_most : (q : Phase) (vs : List Vio) → AllByRecursion (KeptOk s t q) vs → total (ticket_token zone any).item (as_items vs) ≤ total room_token.item (as_items vs)
  kept_most q [] all = omega arith
  kept_most q (v ∷ vs) all = omega (arith, one_held v all.0.1 all.0.3, kept_most q vs all.1)

  both_most : (p q : Phase) (vs ws : List Vio) → AllByRecursion (KeptOk s t p) vs → AllByRecursion (KeptOk s t q) ws → total (ticket_token zone any).item (as_items (vs ++ ws)) ≤ total room_token.item (as_items (vs ++ ws))
  both_most p q vs ws one two = omega (arith, both_items (ticket_token zone any).item vs ws, both_items room_token.item vs ws, kept_most p vs one, kept_most q ws two)

  queue_most : (d : ZoneData) → KeptEach (KeptOk s t) d → queued (ticket_token zone any).item d ≤ queued room_token.item d
  queue_most (at.Desk desk) all = kept_most phase.Reply desk.parked all
  queue_most (at.Logical l) all =
      let held = (ticket_token zone any).item in
      let rest = l.lacking ++ l.settling in
      omega (arith, both_items held l.waiting rest, both_items room_token.item l.waiting rest, kept_most phase.Wait l.waiting all.0, both_most phase.Look phase.Settle l.lacking l.settling all.1 all.2)
  queue_most (at.Journal j) all = both_most phase.Pending phase.Enter j.filling j.waiting all.0 all.1
  queue_most other all = omega arith

  zone_most : (n : ℕ) (z : Zone) → ZoneOk s t n z → carried (ticket_token zone any) z ≤ carried room_token z
  zone_most n z ok =
      let inbox = total_where (ItemOk s t n) (ticket_token zone any).item room_token.item z.ports.inbox (item_most n) ok.inbox in
      let lanes = lanes_where (ItemOk s t) (ticket_token zone any).item room_token.item z.ports.outboxes item_most ok.outboxes in
      let kept = queue_most z.keeps ok.own.kept in
      omega (arith, inbox, lanes, kept)

all_out : (waits : List Waiting) → total (λ (w : Waiting). bit (any w.number)) waits ≡ length waits
all_out [] = refl
all_out (w ∷ waits) = omega (arith, all_out waits)

module _ (s : Session) (core : Core) (session : IsSession s) (legal : Legal s core) (n : ℕ) (z : Zone) (had : slice_get core.zones n ≡ Some z) (p : PhysicalZone) (keeps : z.keeps ≡ at.Physical p) where
  own_ok : DataOk s core.trace n (at.Physical p)
  own_ok = subst (λ (e : ZoneData). DataOk s core.trace n e) keeps (legal.each n z had).own

  abbrev mine : Token
  mine = ticket_token p.counts.zone any

  all_given : given mine z ≡ length p.counts.desk.out
  all_given = ap mine.gave keeps ∙ all_there
    where
      all_there : mine.gave (at.Physical p) ≡ length p.counts.desk.out
      all_there = let same : nat_eq p.counts.zone p.counts.zone ≡ true = eq-eqb p.counts.zone p.counts.zone refl in rw same (all_out p.counts.desk.out)

  few_out : length p.counts.desk.out ≤ most_streams * s.sizes.depth
  few_out =
      let here = total-get (given mine) core.zones n z had in
      let balance = legal.tickets p.counts.zone any in
      let split = split_sum mine core.zones in
      let none = total_zero (λ (y : Zone). mine.own y.keeps) core.zones (λ j y there. refl) in
      let each = total_at_most (carried mine) (carried room_token) core.zones (λ j y there. zone_most s core.trace p.counts.zone j y (legal.each j y there)) in
      let streams = mul-le-mul_right s.sizes.depth session.limits.streams in
      omega (arith, here, all_given, balance, split, none, each, all_requests s core legal, streams)

  -- so a physical zone has room for one more
  pub tickets_within : length p.counts.desk.out < p.counts.desk.room
  tickets_within = let room = own_ok.sound.room in omega (arith, few_out, room.0, room.1)

  pub physical_within : length p.strays ≤ most_requests → IsPhysicalWithin z.steps p
  physical_within few = record { strays = few; tickets = tickets_within; issued = own_ok.sound.few; begun = let counted = (legal.each n z had).counted in let made = ap made_by keeps in omega (arith, counted, made) }
