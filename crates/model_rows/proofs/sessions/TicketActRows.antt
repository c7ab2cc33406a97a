-- What a physical zone does with a write that asks for a data block, and with one that withdraws its tickets: for each rule a case, and for
-- each of its clauses one that breaks it alone. The zone is the first of two.
use Rattle.std.proofs.Common.{ℕ, ◌≡◌, ◌≢◌, ◌<◌, ◌-◌, ◌∙◌, false, Option, None, Some, List, [], ◌∷◌, length, refl, ap, sym, subst, arith, inl, inr}
use Rattle.std.specs.Prelude.{drop, slice_index, slice_index_or, slice_set}
use Rattle.std.proofs.Common.{get_or-set_other}
use Rattle.std.proofs.lemmas.Option.{same_Some}
use Rattle.std.proofs.lemmas.Bool.Decides.{eqb_tells}
use Rattle.std.proofs.lemmas.List.{get_or-replicate}
use Rattle.blk_base.specs.declared.place.Mapping.TheVariants.{At}
use Rattle.blk_base.specs.declared.place.Pbn.{Pbn}
use Rattle.blk_base.specs.declared.place.ZoneId.{ZoneId}
use Rattle.blk_base.specs.declared.place.ZoneId.TheVariants as id
use Rattle.blk_base.specs.declared.request.Answer.TheVariants as reply
use Rattle.blk_base.specs.Forms.{pbn as block}
use Rattle.data_vio.specs.declared.items.Asks.TheVariants as asks
use Rattle.data_vio.specs.declared.items.Item.TheVariants.{Report, Request}
use Rattle.data_vio.specs.declared.items.Phase.{Phase}
use Rattle.data_vio.specs.declared.items.Phase.TheVariants as phase
use Rattle.data_vio.specs.declared.items.Vio.{Vio}
use Rattle.data_vio.specs.Vios.{Post, claiming, holding, refused, with_tickets}
use Rattle.slab_counts.specs.Counts.{ClaimsFree, Counts, HasNoFree, IsFree, IsOfSlab, unclaimed, unmapped}
use Rattle.slab_counts.specs.declared.tickets.Receipt.{Receipt}
use Rattle.slab_counts.specs.declared.tickets.Ticket.{Ticket}
use Rattle.slab_tickets.specs.declared.forms.Waiting.{Waiting}
use Rattle.slab_tickets.specs.declared.forms.Withdrawn.{Withdrawn}
use Rattle.slab_tickets.specs.declared.forms.Withdrawn.TheVariants.{Block, Nothing}
use Rattle.zone_counts.specs.ZoneAnswers.{GivesTicket, WithdrawsFrom}
use Rattle.zone_counts.proofs.OneAnswer.{one_asked, one_begun, one_changed, one_worth}
use Rattle.zone_counts.specs.ByBlock.{out_with, served_ticket}
use Rattle.zone_counts.specs.declared.forms.Asked.TheVariants as answer
use Rattle.zone_counts.specs.Zone.{Changes, ClaimsLowest, IsClaimedIn, NoneFree, Serves, Zone, slab_at, slab_of}
use Rattle.core_model.specs.PhysicalRules.{BeginsNext, PhysicalServes, PhysicalTakes, asks_on, goes_on, next_step, served}
use Rattle.core_model.specs.Trace.{Asks as AsksIn, Drops, Removes, Takes, Trace, Withdraws}
use Rattle.core_model.specs.declared.zones.PhysicalZone.{PhysicalZone}
use Rattle.core_model.proofs.ZoneForms.{nothing, one, slab_with, zone_with}
use Rattle.model_rows.proofs.sessions.PhaseRows.{all, none_free, stepped, vio, waiting}
use Rattle.model_rows.proofs.sessions.TicketTraces.{ticket, two}
use Rattle.core_model.proofs.WorkedTraces.{first, of_second, other, second}

-- a zone with these counts
abbrev zone : Zone → PhysicalZone
zone z = record { notified = false; strays = []; counts = z }

-- its blocks are all mapped; or all but block 85, which is free, or claimed
abbrev full : Zone
full = zone_with (slab_with all nothing)

abbrev but_one : List ℕ
but_one = slice_set all 6 0

abbrev with_free : Zone
with_free = zone_with (slab_with but_one nothing)

abbrev claimed : Zone
claimed = zone_with (slab_with but_one one)

others_used : (k : ℕ) → k < 64 → k ≢ 6 → slice_index but_one k ≡ 1
others_used k below other = get_or-set_other all 6 k 0 0 other ∙ get_or-replicate 64 k 1 0 below

all_but_one : (held : List ℕ) (x : Pbn) → IsOfSlab (slab_with but_one held) x → IsFree (slab_with but_one held) x → x.0 ≡ 85
all_but_one held x here is = elim (eqb_tells x.0 85) [
  | inl same ↦ same.1
  | inr differs ↦
      let used = others_used (x.0 - 79) (omega (arith, here.0, here.1)) (λ same. differs.1 (omega (arith, same, here.0))) in
      absurd (omega (arith, used, is.0))
]

none_free_of_claimed : NoneFree claimed.slabs
none_free_of_claimed k below = subst (λ n. HasNoFree (slab_at claimed.slabs n)) (let first_one : 0 ≡ k = omega (arith, below) in first_one) of_slab
  where
    of_slab : HasNoFree (slab_with but_one one)
    of_slab x here is = let place = all_but_one one x here is in let held = rw place at is.1 in omega (arith, held)

claims_85 : ClaimsFree (slab_with but_one nothing) (slab_with but_one one) (block 85)
claims_85 = record {
  of_slab = (omega arith, omega arith);
  free = (refl, refl);
  lowest = λ other here below is. omega (arith, below, all_but_one nothing other here is);
  now_claimed = refl;
}

lowest_85 : ClaimsLowest with_free.slabs claimed.slabs (block 85)
lowest_85 = record { place = 0; inside = omega arith; before = λ k below. absurd (omega (arith, below)); slab = slab_with but_one one; claims = claims_85; after = refl }

-- what stands in a list first: to which zone it goes, of which stream the request is, the number of the ticket, the block that went to it;
-- which block is dropped behind it, and to which ticket it goes; and the claim and the receipt of the request that is posted
abbrev first_zone : List Post → ZoneId
first_zone [] = id.Desk
first_zone (post ∷ posts) = post.0

abbrev stream_in : Trace → ℕ
stream_in (AsksIn w k ∷ t) = w.stream
stream_in (Withdraws w k got ∷ t) = w.stream
stream_in t = 9

abbrev number_in : Trace → ℕ
number_in (AsksIn w k ∷ t) = k.number
number_in (Withdraws w k got ∷ t) = k.number
number_in t = 9

abbrev got_in : Trace → ℕ
got_in (Withdraws w k (Some x) ∷ t) = x.0
got_in t = 0

abbrev dropped_in : Trace → ℕ
dropped_in (Drops w x to ∷ t) = x.0
dropped_in t = 0

abbrev to_in : Trace → Option ℕ
to_in (Drops w x to ∷ Withdraws v k got ∷ t) = to
to_in t = Some 9

abbrev one_to : Trace → Option ℕ
one_to (Drops w x to ∷ t) = to
one_to (Removes e to ∷ t) = to
one_to t = Some 9

abbrev claim_in : List Post → Option Pbn
claim_in ((to, Request v) ∷ posts) = v.claim
claim_in posts = None

abbrev receipt_in : List Post → Option Receipt
receipt_in ((to, Request v) ∷ posts) = v.receipt
receipt_in posts = None

-- a write that asks for a block, or withdraws: its place, and its tickets
abbrev writes : Phase → ℕ → List Ticket → Vio
writes now place tickets = record (vio first asks.Write now place) { tickets = tickets }

-- asks_on: to the next zone, while one is left; else to that of its oldest ticket
asks_another : asks_on two (writes phase.Claim 0 (ticket 0 0 ∷ [])) ≡ (id.Physical 1, Request (writes phase.Claim 0 (ticket 0 0 ∷ [])))
asks_another = refl

asks_no_more : asks_on two (record (writes phase.Claim 1 (ticket 1 5 ∷ ticket 0 0 ∷ [])) { new = At (block 90) }) ≡ (id.Physical 1, Request (writes phase.Withdraw 1 (ticket 1 5 ∷ ticket 0 0 ∷ [])))
asks_no_more = refl

-- goes_on: to withdraw the next ticket, with a claim and with none; then to store, or to be answered that there is no space
goes_to_withdraw : (goes_on (writes phase.Store 0 (ticket 1 5 ∷ [])) (ticket 1 5 ∷ []) (Some (block 85)) ≡ (id.Physical 1, Request (writes phase.Withdraw 0 (ticket 1 5 ∷ []))))
    × (goes_on (writes phase.Withdraw 0 (ticket 1 5 ∷ [])) (ticket 1 5 ∷ []) None ≡ (id.Physical 1, Request (writes phase.Withdraw 0 (ticket 1 5 ∷ []))))
goes_to_withdraw = (refl, refl)

goes_to_store : goes_on (writes phase.Withdraw 0 []) [] (Some (block 85)) ≡ (id.Device, Request (writes phase.Store 0 []))
goes_to_store = refl

goes_away : goes_on (writes phase.Withdraw 0 []) [] None ≡ (id.Logical 0, Request (record (writes phase.Abort 0 []) { answer = Some reply.NoSpace }))
goes_away = refl

-- claims: where one is free, a write claims it, though it has tickets, and then withdraws these
claims_in_the_next_zone : PhysicalServes two (zone with_free) (writes phase.Claim 0 (ticket 1 5 ∷ [])) (zone claimed) (Takes first None (block 85) ∷ [])
    ((id.Physical 1, Request (record (writes phase.Withdraw 0 (ticket 1 5 ∷ [])) { new = At (block 85); claim = Some (block 85) })) ∷ [])
claims_in_the_next_zone = PhysicalServes.claims (block 85) claimed refl (record { claims = lowest_85; same = refl }) refl refl refl

-- asks: where none is free, a write is given the next ticket, in the zone's next step, and asks the next zone
abbrev asker : Vio
asker = writes phase.Claim 0 []

abbrev asked : Zone
asked = stepped full 0 1 (waiting first 0 None ∷ [])

begun_full : BeginsNext full (stepped full 0 0 [])
begun_full = (false, record { some = λ is. cc; none = λ is. none_free; after = refl })

gives_first : GivesTicket (stepped full 0 0 []) asked first (ticket 0 0)
gives_first = record { none_free = none_free; issues = record { now = refl; zone = refl; number = refl; after = refl }; same = refl }

abbrev goes_to_next : List Post
goes_to_next = (id.Physical 1, Request (writes phase.Claim 0 (ticket 0 0 ∷ []))) ∷ []

asks_next : PhysicalServes two (zone full) asker (zone asked) (AsksIn first (ticket 0 0) ∷ []) goes_to_next
asks_next = PhysicalServes.asks (ticket 0 0) (stepped full 0 0 []) asked refl (omega arith) begun_full gives_first refl refl refl

-- its tickets are kept in their order; with one of each zone it withdraws the oldest
asks_the_last_zone : PhysicalServes two (zone full) (writes phase.Claim 1 (ticket 1 5 ∷ [])) (zone asked) (AsksIn first (ticket 0 0) ∷ []) ((id.Physical 1, Request (writes phase.Withdraw 1 (ticket 1 5 ∷ ticket 0 0 ∷ []))) ∷ [])
asks_the_last_zone = PhysicalServes.asks (ticket 0 0) (stepped full 0 0 []) asked refl (omega arith) begun_full gives_first refl refl refl

-- no rule says anything else of it
asks_so : (new : PhysicalZone) (made : Trace) (posts : List Post) → PhysicalServes two (zone full) asker new made posts → (new ≡ zone asked) × (made ≡ AsksIn first (ticket 0 0) ∷ []) × (posts ≡ goes_to_next)
asks_so new made posts (PhysicalServes.claims x z is gives n m p) = absurd (none_free gives.claims.place gives.claims.inside x gives.claims.claims.of_slab gives.claims.claims.free)
asks_so new made posts (PhysicalServes.asks k b z is fewer begins gives n m p) =
    let begun = one_begun full b (stepped full 0 0 []) 0 begins begun_full in
    let from : GivesTicket (stepped full 0 0 []) z first k = subst (λ (y : Zone). GivesTicket y z first k) begun gives in
    let same = one_asked (stepped full 0 0 []) z asked first (answer.Ticket k) (answer.Ticket (ticket 0 0)) from gives_first in
    let k_is : k ≡ ticket 0 0 = same_ticket k (ticket 0 0) same.1 in
    (n ∙ ap zone same.0, m ∙ ap (λ (t : Ticket). AsksIn first t ∷ []) k_is, p ∙ ap (λ (t : Ticket). asks_on two (holding t asker) ∷ []) k_is)
  where
    same_ticket : (k t : Ticket) → answer.Ticket k ≡ answer.Ticket t → k ≡ t
    same_ticket k t is = cc
asks_so new made posts (PhysicalServes.takes_block k others x b z is tickets claim begins withdraws n m p) = absurd cc
asks_so new made posts (PhysicalServes.drops_block k others x y b w z is tickets claim begins withdraws has change n m p) = absurd cc
asks_so new made posts (PhysicalServes.has_none k others receipt b z is tickets begins withdraws n m p) = absurd cc
asks_so new made posts (PhysicalServes.counts x slab z is claim has fits change n m p) = absurd cc
asks_so new made posts (PhysicalServes.drops x z is claim has change n m p) = absurd cc
asks_so new made posts (PhysicalServes.drops_none is claim n m p) = absurd cc
asks_so new made posts (PhysicalServes.spends is n m p) = absurd cc

asks-and_gives_up : (new : PhysicalZone) (made : Trace) → ¬ PhysicalServes two (zone full) asker new made ((id.Logical 0, Request (record (writes phase.Abort 0 []) { answer = Some reply.NoSpace })) ∷ [])
asks-and_gives_up new made = λ serves. let posts = ap first_zone (asks_so _ _ _ serves).2 in cc

asks-one_zone_of_two : (new : PhysicalZone) (made : Trace) → ¬ PhysicalServes two (zone full) asker new made ((id.Physical 0, Request (writes phase.Withdraw 0 (ticket 0 0 ∷ []))) ∷ [])
asks-one_zone_of_two new made = λ serves. let posts = ap first_zone (asks_so _ _ _ serves).2 in cc

asks-without_a_ticket : (made : Trace) (posts : List Post) → ¬ PhysicalServes two (zone full) asker (zone (stepped full 0 0 [])) made posts
asks-without_a_ticket made posts = λ serves. let out : 0 ≡ 1 = ap (λ (p : PhysicalZone). length p.counts.desk.out) (asks_so _ _ _ serves).0 in omega (arith, out)

asks-in_no_step : (z : Zone) (made : Trace) (posts : List Post) → z.desk.step ≡ None → ¬ PhysicalServes two (zone full) asker (zone z) made posts
asks-in_no_step z made posts none = λ serves. let step = sym none ∙ ap (λ (p : PhysicalZone). p.counts.desk.step) (asks_so _ _ _ serves).0 in cc

asks-without_a_word : (new : PhysicalZone) (posts : List Post) → ¬ PhysicalServes two (zone full) asker new [] posts
asks-without_a_word new posts = λ serves. let made = (asks_so _ _ _ serves).1 in cc

asks-for_itself : (new : PhysicalZone) (posts : List Post) → ¬ PhysicalServes two (zone full) asker new (AsksIn second (ticket 0 0) ∷ []) posts
asks-for_itself new posts = λ serves. let stream : 1 ≡ 0 = ap stream_in (asks_so _ _ _ serves).1 in omega (arith, stream)

asks-for_the_next_ticket : (new : PhysicalZone) (posts : List Post) → ¬ PhysicalServes two (zone full) asker new (AsksIn first (ticket 0 1) ∷ []) posts
asks-for_the_next_ticket new posts = λ serves. let number : 1 ≡ 0 = ap number_in (asks_so _ _ _ serves).1 in omega (arith, number)

-- the next step begins in one way, and the oldest ticket is withdrawn in one
module _ (old begun gone : Zone) (k : Ticket) (others : List Ticket) (result : Withdrawn) (begins : BeginsNext old begun) (withdraws : WithdrawsFrom begun gone k result) where
  gone_so : (k' : Ticket) (others' : List Ticket) (result' : Withdrawn) (begun' gone' : Zone) → k ∷ others ≡ k' ∷ others' → BeginsNext old begun' → WithdrawsFrom begun' gone' k' result'
      → (k' ≡ k) × (others' ≡ others) × (gone' ≡ gone) × (result' ≡ result)
  gone_so k' others' result' begun' gone' tickets begins' withdraws' =
      let oldest : k' ≡ k = sym (ap (λ (ks : List Ticket). oldest_of k ks) tickets) in
      let rest : others' ≡ others = sym (ap (λ (ks : List Ticket). drop 1 ks) tickets) in
      let now = one_begun old begun' begun (next_step old.desk.step) begins' begins in
      let from : WithdrawsFrom begun gone' k result'
      = subst (λ (t : Ticket). WithdrawsFrom begun gone' t result') oldest (subst (λ (z : Zone). WithdrawsFrom z gone' k' result') now withdraws') in
      let same = one_worth begun gone' gone k result' result from withdraws in
      (oldest, rest, same.0, same.1)
    where
      oldest_of : Ticket → List Ticket → Ticket
      oldest_of t [] = t
      oldest_of t (first_one ∷ ks) = first_one

-- a request that withdraws its tickets, with a claim or none; the zone in which three are out, of which the oldest has block 85, and
-- without that
abbrev holder : Option Pbn → List Ticket → Vio
holder claim tickets = record (writes phase.Withdraw 0 tickets) { claim = claim }

abbrev has_both : List Ticket
has_both = ticket 0 0 ∷ ticket 1 5 ∷ []

abbrev others_wait : List Waiting
others_wait = waiting second 1 None ∷ waiting other 2 None ∷ []

abbrev all_out : ℕ → Zone
all_out step = stepped claimed step 3 (waiting first 0 (Some (block 85)) ∷ others_wait)

abbrev others_out : Zone
others_out = stepped claimed 5 3 others_wait

begun_all : BeginsNext (all_out 4) (all_out 5)
begun_all = (false, record { some = λ is. cc; none = λ is. none_free_of_claimed; after = refl })

gives_85 : WithdrawsFrom (all_out 5) others_out (ticket 0 0) (Block (block 85))
gives_85 = record { withdraws = record { place = 0; here = refl; waiting = waiting first 0 (Some (block 85)); is = refl; step = 5; now = refl; worth_is = refl; after = refl }; same = refl }

-- nor does it ask where one is free, or where it has its block
asks-where_one_is_free : (new : PhysicalZone) (k : Ticket) (posts : List Post) → ¬ PhysicalServes two (zone with_free) asker new (AsksIn first k ∷ []) posts
asks-where_one_is_free new k posts = λ serves. by new (AsksIn first k ∷ []) posts refl serves
  where
    by : (new : PhysicalZone) (made : Trace) (posts : List Post) → made ≡ AsksIn first k ∷ [] → PhysicalServes two (zone with_free) asker new made posts → ⊥
    by new made posts asks (PhysicalServes.claims x z is gives n m p) = absurd cc
    by new made posts asks (PhysicalServes.asks k' b z is fewer begins gives n m p) =
        let still : b.slabs ≡ with_free.slabs = ap (λ (y : Zone). y.slabs) begins.1.after in
        (subst (λ (slabs : List Counts). NoneFree slabs) still gives.none_free) 0 (omega arith) (block 85) (omega arith, omega arith) (refl, refl)
    by new made posts asks (PhysicalServes.takes_block k' others x b z is tickets claim begins withdraws n m p) = absurd cc
    by new made posts asks (PhysicalServes.drops_block k' others x y b w z is tickets claim begins withdraws has change n m p) = absurd cc
    by new made posts asks (PhysicalServes.has_none k' others receipt b z is tickets begins withdraws n m p) = absurd cc
    by new made posts asks (PhysicalServes.counts x slab z is claim has fits change n m p) = absurd cc
    by new made posts asks (PhysicalServes.drops x z is claim has change n m p) = absurd cc
    by new made posts asks (PhysicalServes.drops_none is claim n m p) = absurd cc
    by new made posts asks (PhysicalServes.spends is n m p) = absurd cc

-- nor with a ticket of each zone
asks-a_zone_again : (new : PhysicalZone) (k : Ticket) (posts : List Post) → ¬ PhysicalServes two (zone full) (writes phase.Claim 0 (ticket 1 5 ∷ ticket 0 0 ∷ [])) new (AsksIn first k ∷ []) posts
asks-a_zone_again new k posts = λ serves. by (AsksIn first k ∷ []) refl serves
  where
    by : (made : Trace) → made ≡ AsksIn first k ∷ [] → PhysicalServes two (zone full) (writes phase.Claim 0 (ticket 1 5 ∷ ticket 0 0 ∷ [])) new made posts → ⊥
    by made asks (PhysicalServes.claims x z is gives n m p) = absurd cc
    by made asks (PhysicalServes.asks k' b z is fewer begins gives n m p) = omega (arith, fewer)
    by made asks (PhysicalServes.takes_block k' others x b z is tickets claim begins withdraws n m p) = absurd cc
    by made asks (PhysicalServes.drops_block k' others x y b w z is tickets claim begins withdraws has change n m p) = absurd cc
    by made asks (PhysicalServes.has_none k' others receipt b z is tickets begins withdraws n m p) = absurd cc
    by made asks (PhysicalServes.counts x slab z is claim has fits change n m p) = absurd cc
    by made asks (PhysicalServes.drops x z is claim has change n m p) = absurd cc
    by made asks (PhysicalServes.drops_none is claim n m p) = absurd cc
    by made asks (PhysicalServes.spends is n m p) = absurd cc

stores_elsewhere : (old new : PhysicalZone) (v : Vio) (made : Trace) (posts : List Post) → v.phase ≡ phase.Store → ¬ PhysicalServes two old v new made posts
stores_elsewhere old new v made posts stores = λ serves. by serves
  where
    by : PhysicalServes two old v new made posts → ⊥
    by (PhysicalServes.claims x z is gives n m p) = absurd cc
    by (PhysicalServes.asks k b z is fewer begins gives n m p) = absurd cc
    by (PhysicalServes.takes_block k others x b z is tickets claim begins withdraws n m p) = absurd cc
    by (PhysicalServes.drops_block k others x y b w z is tickets claim begins withdraws has change n m p) = absurd cc
    by (PhysicalServes.has_none k others receipt b z is tickets begins withdraws n m p) = absurd cc
    by (PhysicalServes.counts x slab z is claim has fits change n m p) = absurd cc
    by (PhysicalServes.drops x z is claim has change n m p) = absurd cc
    by (PhysicalServes.drops_none is claim n m p) = absurd cc
    by (PhysicalServes.spends is n m p) = absurd cc

-- takes_block: the first block that went to one of its tickets is its own, and then it withdraws the others
abbrev goes_on_with_it : List Post
goes_on_with_it = (id.Physical 1, Request (record (holder (Some (block 85)) (ticket 1 5 ∷ [])) { new = At (block 85) })) ∷ []

takes : PhysicalServes two (zone (all_out 4)) (holder None has_both) (zone others_out) (Withdraws first (ticket 0 0) (Some (block 85)) ∷ []) goes_on_with_it
takes = PhysicalServes.takes_block (ticket 0 0) (ticket 1 5 ∷ []) (block 85) (all_out 5) others_out refl refl refl begun_all gives_85 refl refl refl

same_block : (x y : Pbn) → Block x ≡ Block y → x ≡ y
same_block x y is = cc

same_mapping : (x : Pbn) → At (block 85) ≡ At x → x ≡ block 85
same_mapping x is = cc

takes_so : (new : PhysicalZone) (made : Trace) (posts : List Post) → PhysicalServes two (zone (all_out 4)) (holder None has_both) new made posts
    → (new ≡ zone others_out) × (made ≡ Withdraws first (ticket 0 0) (Some (block 85)) ∷ []) × (posts ≡ goes_on_with_it)
takes_so new made posts (PhysicalServes.takes_block k others x b z is tickets claim begins withdraws n m p) =
    let so = gone_so (all_out 4) (all_out 5) others_out (ticket 0 0) (ticket 1 5 ∷ []) (Block (block 85)) begun_all gives_85 k others (Block x) b z tickets begins withdraws in
    let x_is = same_block x (block 85) so.3 in (
      n ∙ ap zone so.2,
      m ∙ ap (λ (t : Ticket). Withdraws first t (Some x) ∷ []) so.0 ∙ ap (λ (y : Pbn). Withdraws first (ticket 0 0) (Some y) ∷ []) x_is,
      p ∙ ap (λ (ks : List Ticket). served (claiming x (with_tickets ks (holder None has_both))) ∷ []) so.1
          ∙ ap (λ (y : Pbn). served (claiming y (with_tickets (ticket 1 5 ∷ []) (holder None has_both))) ∷ []) x_is,
    )
takes_so new made posts (PhysicalServes.drops_block k others x y b w z is tickets claim begins withdraws has change n m p) = absurd cc
takes_so new made posts (PhysicalServes.has_none k others receipt b z is tickets begins withdraws n m p) =
    let so = gone_so (all_out 4) (all_out 5) others_out (ticket 0 0) (ticket 1 5 ∷ []) (Block (block 85)) begun_all gives_85 k others (Nothing receipt) b z tickets begins withdraws in
    let no = so.3 in absurd cc
takes_so new made posts (PhysicalServes.claims x z is gives n m p) = absurd cc
takes_so new made posts (PhysicalServes.asks k b z is fewer begins gives n m p) = absurd cc
takes_so new made posts (PhysicalServes.counts x slab z is claim has fits change n m p) = absurd cc
takes_so new made posts (PhysicalServes.drops x z is claim has change n m p) = absurd cc
takes_so new made posts (PhysicalServes.drops_none is claim n m p) = absurd cc
takes_so new made posts (PhysicalServes.spends is n m p) = absurd cc

takes-another_block : (new : PhysicalZone) (posts : List Post) → ¬ PhysicalServes two (zone (all_out 4)) (holder None has_both) new (Withdraws first (ticket 0 0) (Some (block 86)) ∷ []) posts
takes-another_block new posts = λ serves. let got : 86 ≡ 85 = ap got_in (takes_so _ _ _ serves).1 in omega (arith, got)

takes-none : (new : PhysicalZone) (posts : List Post) → ¬ PhysicalServes two (zone (all_out 4)) (holder None has_both) new (Withdraws first (ticket 0 0) None ∷ []) posts
takes-none new posts = λ serves. let got : 0 ≡ 85 = ap got_in (takes_so _ _ _ serves).1 in omega (arith, got)

takes-by_its_newest_ticket : (new : PhysicalZone) (posts : List Post) → ¬ PhysicalServes two (zone (all_out 4)) (holder None has_both) new (Withdraws first (ticket 1 5) (Some (block 85)) ∷ []) posts
takes-by_its_newest_ticket new posts = λ serves. let number : 5 ≡ 0 = ap number_in (takes_so _ _ _ serves).1 in omega (arith, number)

takes-and_is_still_out : (made : Trace) (posts : List Post) → ¬ PhysicalServes two (zone (all_out 4)) (holder None has_both) (zone (all_out 5)) made posts
takes-and_is_still_out made posts = λ serves. let out : 3 ≡ 2 = ap (λ (p : PhysicalZone). length p.counts.desk.out) (takes_so _ _ _ serves).0 in omega (arith, out)

takes-in_the_same_step : (made : Trace) (posts : List Post) → ¬ PhysicalServes two (zone (all_out 4)) (holder None has_both) (zone (stepped claimed 4 3 others_wait)) made posts
takes-in_the_same_step made posts = λ serves. let step : 4 ≡ 5 = same_Some _ _ (ap (λ (p : PhysicalZone). p.counts.desk.step) (takes_so _ _ _ serves).0) in omega (arith, step)

takes-and_stores_with_tickets : (new : PhysicalZone) (made : Trace) (v : Vio) → ¬ PhysicalServes two (zone (all_out 4)) (holder None has_both) new made ((id.Device, Request v) ∷ [])
takes-and_stores_with_tickets new made v = λ serves. let posts = ap first_zone (takes_so _ _ _ serves).2 in cc

takes-and_has_no_claim : (new : PhysicalZone) (made : Trace) → ¬ PhysicalServes two (zone (all_out 4)) (holder None has_both) new made ((id.Physical 1, Request (holder None (ticket 1 5 ∷ []))) ∷ [])
takes-and_has_no_claim new made = λ serves. let claim = ap claim_in (takes_so _ _ _ serves).2 in cc

-- drops_block: where it has one, the block goes to the next ticket that waits; and with no ticket left it stores
abbrev holds_90 : Vio
holds_90 = record (holder (Some (block 90)) (ticket 0 0 ∷ [])) { new = At (block 90) }

abbrev passed_on : Zone
passed_on = stepped claimed 5 3 (waiting second 1 (Some (block 85)) ∷ waiting other 2 None ∷ [])

abbrev passes : Changes others_out passed_on (block 85) (unclaimed (slab_of others_out (block 85)) (block 85))
passes = record { serves = inr (record { block = block 85; claims = lowest_85; gives = record { place = 0; oldest = refl; waiting = waiting second 1 None; is = refl; after = refl } }); same = refl }

is_claimed : IsClaimedIn others_out (block 85)
is_claimed = record { own = record { data_block = record { slab = 0; offset = 6; inside = (omega arith, omega arith); stands = refl }; own = refl }; some = omega arith }

abbrev stores_the_first : List Post
stores_the_first = (id.Device, Request (record holds_90 { phase = phase.Store; tickets = [] })) ∷ []

drops_the_second : PhysicalServes two (zone (all_out 4)) holds_90 (zone passed_on) (Drops first (block 85) (Some 1) ∷ Withdraws first (ticket 0 0) (Some (block 85)) ∷ []) stores_the_first
drops_the_second = PhysicalServes.drops_block (ticket 0 0) [] (block 85) (block 90) (all_out 5) others_out passed_on refl refl refl begun_all gives_85 is_claimed passes refl refl refl

-- it goes to the oldest that waits
to_the_oldest : (z : Zone) (change : Changes others_out z (block 85) (unclaimed (slab_of others_out (block 85)) (block 85))) → (z ≡ passed_on) × (served_ticket change.serves ≡ Some 1)
to_the_oldest z change = (one_changed others_out z passed_on (block 85) (unclaimed (slab_of others_out (block 85)) (block 85)) change passes, by change.serves)
  where
    by : (serves : Serves with_free.slabs others_out.desk z.slabs z.desk) → served_ticket serves ≡ Some 1
    by (inl (inl none, same, same')) = absurd cc
    by (inl (inr none, same, same')) = absurd (none 0 (omega arith) (block 85) (omega arith, omega arith) (refl, refl))
    by (inr serves) =
        let place : 0 ≡ serves.gives.place = same_Some _ _ serves.gives.oldest in
        let is : waiting second 1 None ≡ serves.gives.waiting = subst (λ (k : ℕ). slice_index_or others_wait k serves.gives.waiting ≡ serves.gives.waiting) (sym place) serves.gives.is in
        ap (λ (w : Waiting). Some w.number) (sym is)

drops_so : (new : PhysicalZone) (made : Trace) (posts : List Post) → PhysicalServes two (zone (all_out 4)) holds_90 new made posts
    → (new ≡ zone passed_on) × (made ≡ Drops first (block 85) (Some 1) ∷ Withdraws first (ticket 0 0) (Some (block 85)) ∷ []) × (posts ≡ stores_the_first)
drops_so new made posts (PhysicalServes.drops_block k others x y b w z is tickets claim begins withdraws has change n m p) =
    let so = gone_so (all_out 4) (all_out 5) others_out (ticket 0 0) [] (Block (block 85)) begun_all gives_85 k others (Block x) b w tickets begins withdraws in
    let x_is = same_block x (block 85) so.3 in
    let at_x = subst (λ (at : Pbn). (change : Changes others_out z at (unclaimed (slab_of others_out at) at)) → (z ≡ passed_on) × (served_ticket change.serves ≡ Some 1)) (sym x_is) (to_the_oldest z) in
    let at_w = subst (λ (from : Zone). (change : Changes from z x (unclaimed (slab_of from x) x)) → (z ≡ passed_on) × (served_ticket change.serves ≡ Some 1)) (sym so.2) at_x in
    let to = at_w change in (
      n ∙ ap zone to.0,
      m ∙ ap (λ (to : Option ℕ). Drops first x to ∷ Withdraws first k (Some x) ∷ []) to.1 ∙ ap (λ (t : Ticket). Drops first x (Some 1) ∷ Withdraws first t (Some x) ∷ []) so.0
          ∙ ap (λ (at : Pbn). Drops first at (Some 1) ∷ Withdraws first (ticket 0 0) (Some at) ∷ []) x_is,
      p ∙ ap (λ (ks : List Ticket). served (with_tickets ks holds_90) ∷ []) so.1,
    )
drops_so new made posts (PhysicalServes.takes_block k others x b z is tickets claim begins withdraws n m p) = absurd cc
drops_so new made posts (PhysicalServes.has_none k others receipt b z is tickets begins withdraws n m p) =
    let so = gone_so (all_out 4) (all_out 5) others_out (ticket 0 0) [] (Block (block 85)) begun_all gives_85 k others (Nothing receipt) b z tickets begins withdraws in
    let no = so.3 in absurd cc
drops_so new made posts (PhysicalServes.claims x z is gives n m p) = absurd cc
drops_so new made posts (PhysicalServes.asks k b z is fewer begins gives n m p) = absurd cc
drops_so new made posts (PhysicalServes.counts x slab z is claim has fits change n m p) = absurd cc
drops_so new made posts (PhysicalServes.drops x z is claim has change n m p) = absurd cc
drops_so new made posts (PhysicalServes.drops_none is claim n m p) = absurd cc
drops_so new made posts (PhysicalServes.spends is n m p) = absurd cc

drops-to_the_newest : (new : PhysicalZone) (posts : List Post) → ¬ PhysicalServes two (zone (all_out 4)) holds_90 new (Drops first (block 85) (Some 2) ∷ Withdraws first (ticket 0 0) (Some (block 85)) ∷ []) posts
drops-to_the_newest new posts = λ serves. let to : 2 ≡ 1 = same_Some _ _ (ap to_in (drops_so _ _ _ serves).1) in omega (arith, to)

drops-past_who_waits : (new : PhysicalZone) (posts : List Post) → ¬ PhysicalServes two (zone (all_out 4)) holds_90 new (Drops first (block 85) None ∷ Withdraws first (ticket 0 0) (Some (block 85)) ∷ []) posts
drops-past_who_waits new posts = λ serves. let to = ap to_in (drops_so _ _ _ serves).1 in cc

drops-none_of_two : (new : PhysicalZone) (posts : List Post) → ¬ PhysicalServes two (zone (all_out 4)) holds_90 new (Withdraws first (ticket 0 0) (Some (block 85)) ∷ []) posts
drops-none_of_two new posts = λ serves. let to = ap to_in (drops_so _ _ _ serves).1 in cc

drops-before_it_has_it : (new : PhysicalZone) (posts : List Post) → ¬ PhysicalServes two (zone (all_out 4)) holds_90 new (Withdraws first (ticket 0 0) (Some (block 85)) ∷ Drops first (block 85) (Some 1) ∷ []) posts
drops-before_it_has_it new posts = λ serves. let to = ap to_in (drops_so _ _ _ serves).1 in cc

drops-the_first_block : (new : PhysicalZone) (posts : List Post) → ¬ PhysicalServes two (zone (all_out 4)) holds_90 new (Drops first (block 90) (Some 1) ∷ Withdraws first (ticket 0 0) (Some (block 85)) ∷ []) posts
drops-the_first_block new posts = λ serves. let dropped : 90 ≡ 85 = ap dropped_in (drops_so _ _ _ serves).1 in omega (arith, dropped)

drops-and_passes_nothing_on : (made : Trace) (posts : List Post) → ¬ PhysicalServes two (zone (all_out 4)) holds_90 (zone others_out) made posts
drops-and_passes_nothing_on made posts = λ serves. let with_it : 0 ≡ 1 = ap (λ (p : PhysicalZone). out_with (block 85) p.counts.desk) (drops_so _ _ _ serves).0 in omega (arith, with_it)

drops-and_stores_the_second : (new : PhysicalZone) (made : Trace) → ¬ PhysicalServes two (zone (all_out 4)) holds_90 new made ((id.Device, Request (record (writes phase.Store 0 []) { new = At (block 85); claim = Some (block 85) })) ∷ [])
drops-and_stores_the_second new made = λ serves. let claim : 85 ≡ 90 = ap (λ (x : Pbn). x.0) (same_Some _ _ (ap claim_in (drops_so _ _ _ serves).2)) in omega (arith, claim)

-- has_none: no block went to the ticket, which becomes a receipt; with no ticket left and no claim, there is no space
abbrev waits_in_vain : ℕ → Zone
waits_in_vain step = stepped full step 1 (waiting first 0 None ∷ [])

abbrev waited : Zone
waited = stepped full 5 1 []

abbrev receipt : Receipt
receipt = record { zone = 0; asked = 0; withdrawn = 5 }

begun_in_vain : BeginsNext (waits_in_vain 4) (waits_in_vain 5)
begun_in_vain = (false, record { some = λ is. cc; none = λ is. none_free; after = refl })

gives_none : WithdrawsFrom (waits_in_vain 5) waited (ticket 0 0) (Nothing receipt)
gives_none = record { withdraws = record { place = 0; here = refl; waiting = waiting first 0 None; is = refl; step = 5; now = refl; worth_is = refl; after = refl }; same = refl }

abbrev gives_up : List Post
gives_up = (id.Logical 0, Request (record (writes phase.Abort 0 []) { receipt = Some receipt; answer = Some reply.NoSpace })) ∷ []

has_none : PhysicalServes two (zone (waits_in_vain 4)) (holder None (ticket 0 0 ∷ [])) (zone waited) (Withdraws first (ticket 0 0) None ∷ []) gives_up
has_none = PhysicalServes.has_none (ticket 0 0) [] receipt (waits_in_vain 5) waited refl refl begun_in_vain gives_none refl refl refl

has_none_as_yet : PhysicalServes two (zone (waits_in_vain 4)) (holder None has_both) (zone waited) (Withdraws first (ticket 0 0) None ∷ []) ((id.Physical 1, Request (record (holder None (ticket 1 5 ∷ [])) { receipt = Some receipt })) ∷ [])
has_none_as_yet = PhysicalServes.has_none (ticket 0 0) (ticket 1 5 ∷ []) receipt (waits_in_vain 5) waited refl refl begun_in_vain gives_none refl refl refl

has_none_but_its_own : PhysicalServes two (zone (waits_in_vain 4)) holds_90 (zone waited) (Withdraws first (ticket 0 0) None ∷ [])
    ((id.Device, Request (record holds_90 { phase = phase.Store; tickets = []; receipt = Some receipt })) ∷ [])
has_none_but_its_own = PhysicalServes.has_none (ticket 0 0) [] receipt (waits_in_vain 5) waited refl refl begun_in_vain gives_none refl refl refl

none_so : (new : PhysicalZone) (made : Trace) (posts : List Post) → PhysicalServes two (zone (waits_in_vain 4)) (holder None (ticket 0 0 ∷ [])) new made posts
    → (new ≡ zone waited) × (made ≡ Withdraws first (ticket 0 0) None ∷ []) × (posts ≡ gives_up)
none_so new made posts (PhysicalServes.has_none k others got b z is tickets begins withdraws n m p) =
    let so = gone_so (waits_in_vain 4) (waits_in_vain 5) waited (ticket 0 0) [] (Nothing receipt) begun_in_vain gives_none k others (Nothing got) b z tickets begins withdraws in (
      n ∙ ap zone so.2,
      m ∙ ap (λ (t : Ticket). Withdraws first t None ∷ []) so.0,
      p ∙ ap (λ (r : Receipt). served (refused r (with_tickets others (holder None (ticket 0 0 ∷ [])))) ∷ []) (same_receipt got receipt so.3)
          ∙ ap (λ (ks : List Ticket). served (refused receipt (with_tickets ks (holder None (ticket 0 0 ∷ [])))) ∷ []) so.1,
    )
  where
    same_receipt : (r r' : Receipt) → Nothing r ≡ Nothing r' → r ≡ r'
    same_receipt r r' is = cc
none_so new made posts (PhysicalServes.takes_block k others x b z is tickets claim begins withdraws n m p) =
    let so = gone_so (waits_in_vain 4) (waits_in_vain 5) waited (ticket 0 0) [] (Nothing receipt) begun_in_vain gives_none k others (Block x) b z tickets begins withdraws in
    let no = so.3 in absurd cc
none_so new made posts (PhysicalServes.drops_block k others x y b w z is tickets claim begins withdraws has change n m p) = absurd cc
none_so new made posts (PhysicalServes.claims x z is gives n m p) = absurd cc
none_so new made posts (PhysicalServes.asks k b z is fewer begins gives n m p) = absurd cc
none_so new made posts (PhysicalServes.counts x slab z is claim has fits change n m p) = absurd cc
none_so new made posts (PhysicalServes.drops x z is claim has change n m p) = absurd cc
none_so new made posts (PhysicalServes.drops_none is claim n m p) = absurd cc
none_so new made posts (PhysicalServes.spends is n m p) = absurd cc

has_none-but_a_block : (new : PhysicalZone) (posts : List Post) → ¬ PhysicalServes two (zone (waits_in_vain 4)) (holder None (ticket 0 0 ∷ [])) new (Withdraws first (ticket 0 0) (Some (block 85)) ∷ []) posts
has_none-but_a_block new posts = λ serves. let got : 85 ≡ 0 = ap got_in (none_so _ _ _ serves).1 in omega (arith, got)

has_none-and_is_still_out : (made : Trace) (posts : List Post) → ¬ PhysicalServes two (zone (waits_in_vain 4)) (holder None (ticket 0 0 ∷ [])) (zone (waits_in_vain 5)) made posts
has_none-and_is_still_out made posts = λ serves. let out : 1 ≡ 0 = ap (λ (p : PhysicalZone). length p.counts.desk.out) (none_so _ _ _ serves).0 in omega (arith, out)

has_none-and_asks_again : (new : PhysicalZone) (made : Trace) (v : Vio) → ¬ PhysicalServes two (zone (waits_in_vain 4)) (holder None (ticket 0 0 ∷ [])) new made ((id.Physical 1, Request v) ∷ [])
has_none-and_asks_again new made v = λ serves. let posts = ap first_zone (none_so _ _ _ serves).2 in cc

has_none-without_a_receipt : (new : PhysicalZone) (made : Trace) → ¬ PhysicalServes two (zone (waits_in_vain 4)) (holder None (ticket 0 0 ∷ [])) new made ((id.Logical 0, Request (record (writes phase.Abort 0 []) { answer = Some reply.NoSpace })) ∷ [])
has_none-without_a_receipt new made = λ serves. let got = ap receipt_in (none_so _ _ _ serves).2 in cc

has_none-from_another_step : (new : PhysicalZone) (made : Trace)
    → ¬ PhysicalServes two (zone (waits_in_vain 4)) (holder None (ticket 0 0 ∷ [])) new made
    ((id.Logical 0, Request (record (writes phase.Abort 0 []) { receipt = Some (record receipt { withdrawn = 4 }); answer = Some reply.NoSpace })) ∷ [])
has_none-from_another_step new made = λ serves. let step : 4 ≡ 5 = ap (λ (r : Receipt). r.withdrawn) (same_Some _ _ (ap receipt_in (none_so _ _ _ serves).2)) in omega (arith, step)

-- drops, removes: the block of a claim that is dropped, and of the last mapping that is taken off, goes to the oldest ticket that waits
abbrev aborts : Vio
aborts = record (holder (Some (block 85)) []) { phase = phase.AbortClaim }

aborts_to_a_ticket : PhysicalServes two (zone others_out) aborts (zone passed_on) (Drops first (block 85) (Some 1) ∷ [])
    ((id.Logical 0, Request (writes phase.Abort 0 [])) ∷ [])
aborts_to_a_ticket = PhysicalServes.drops (block 85) passed_on refl refl is_claimed passes refl refl refl

aborts-past_who_waits : (new : PhysicalZone) (posts : List Post) → ¬ PhysicalServes two (zone others_out) aborts new (Drops first (block 85) None ∷ []) posts
aborts-past_who_waits new posts = λ serves. by new (Drops first (block 85) None ∷ []) posts refl serves
  where
    by : (new : PhysicalZone) (made : Trace) (posts : List Post) → made ≡ Drops first (block 85) None ∷ [] → PhysicalServes two (zone others_out) aborts new made posts → ⊥
    by new made posts drops (PhysicalServes.drops x z is claim has change n m p) =
        let x_is : block 85 ≡ x = same_Some _ _ claim in
        let at_x = subst (λ (at : Pbn). (change : Changes others_out z at (unclaimed (slab_of others_out at) at)) → (z ≡ passed_on) × (served_ticket change.serves ≡ Some 1)) x_is (to_the_oldest z) in
        let to = (at_x change).1 in
        let said = ap one_to (sym drops ∙ m) in
        cc
    by new made posts drops (PhysicalServes.claims x z is gives n m p) = absurd cc
    by new made posts drops (PhysicalServes.asks k b z is fewer begins gives n m p) = absurd cc
    by new made posts drops (PhysicalServes.takes_block k others x b z is tickets claim begins withdraws n m p) = absurd cc
    by new made posts drops (PhysicalServes.drops_block k others x y b w z is tickets claim begins withdraws has change n m p) = absurd cc
    by new made posts drops (PhysicalServes.has_none k others receipt b z is tickets begins withdraws n m p) = absurd cc
    by new made posts drops (PhysicalServes.counts x slab z is claim has fits change n m p) = absurd cc
    by new made posts drops (PhysicalServes.drops_none is claim n m p) = absurd cc
    by new made posts drops (PhysicalServes.spends is n m p) = absurd cc

abbrev mapped : Zone
mapped = stepped full 5 3 others_wait

abbrev unmaps : Changes mapped passed_on (block 85) (slab_with but_one nothing)
unmaps = record { serves = inr (record { block = block 85; claims = lowest_85; gives = record { place = 0; oldest = refl; waiting = waiting second 1 None; is = refl; after = refl } }); same = refl }

removes_to_a_ticket : PhysicalTakes two (zone mapped) of_second (zone passed_on) (Removes of_second (Some 1) ∷ []) ((id.Logical 0, Report of_second) ∷ [])
removes_to_a_ticket = PhysicalTakes.removes (block 85) (slab_with but_one nothing) passed_on refl is_claimed.own (omega arith, refl) unmaps refl refl refl

waits_for_it : (z : Zone) (change : Changes mapped z (block 85) (slab_with but_one nothing)) → served_ticket change.serves ≡ None → ⊥
waits_for_it z change none = by change.serves none
  where
    by : (serves : Serves with_free.slabs mapped.desk z.slabs z.desk) → served_ticket serves ≡ None → ⊥
    by (inl (inl quiet, same, same')) none = absurd cc
    by (inl (inr used, same, same')) none = absurd (used 0 (omega arith) (block 85) (omega arith, omega arith) (refl, refl))
    by (inr serves) none = absurd cc

removes-past_who_waits : (new : PhysicalZone) (posts : List Post) → ¬ PhysicalTakes two (zone mapped) of_second new (Removes of_second None ∷ []) posts
removes-past_who_waits new posts = λ takes. by new (Removes of_second None ∷ []) posts refl takes
  where
    by : (new : PhysicalZone) (made : Trace) (posts : List Post) → made ≡ Removes of_second None ∷ [] → PhysicalTakes two (zone mapped) of_second new made posts → ⊥
    by new made posts removes (PhysicalTakes.removes x slab z old own fits change n m p) =
        let at = same_mapping x old in
        let counts : slab ≡ slab_with but_one nothing = fits.1 ∙ ap (λ (y : Pbn). unmapped (slab_of mapped y) y) at in
        let at_slab = subst (λ (c : Counts). (change : Changes mapped z (block 85) c) → served_ticket change.serves ≡ None → ⊥) (sym counts) (waits_for_it z) in
        let at_x = subst (λ (y : Pbn). (change : Changes mapped z y slab) → served_ticket change.serves ≡ None → ⊥) (sym at) at_slab in
        at_x change (sym (ap one_to (sym removes ∙ m)))
    by new made posts removes (PhysicalTakes.is_stray x old own stray n m p) = absurd cc
