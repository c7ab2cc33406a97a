-- What a rule that applies says of a write that asks for a block, or withdraws a ticket.
use Rattle.std.proofs.Common.{◌≡◌, ◌<◌, ℕ, Bool, true, false, Option, None, Some, List, [], ◌∷◌, length, refl, ap, sym, ◌∙◌, subst}
use Rattle.std.proofs.lemmas.Option.{none-some}
use Rattle.blk_base.specs.declared.place.Pbn.{Pbn}
use Rattle.core_model.specs.declared.zones.PhysicalZone.{PhysicalZone}
use Rattle.core_model.specs.PhysicalRules.{BeginsNext, PhysicalServes, next_step, served, with_counts}
use Rattle.core_model.specs.PhysicalRules.PhysicalServes.{asks, claims, counts, drops, drops_block, drops_none, has_none, spends, takes_block}
use Rattle.core_model.specs.Trace.{Drops, Trace, Withdraws}
use Rattle.data_vio.specs.declared.items.Phase.TheVariants as phase
use Rattle.data_vio.specs.declared.items.Vio.{Vio}
use Rattle.data_vio.specs.declared.sizes.Sizes.{Sizes}
use Rattle.data_vio.specs.Vios.{Post, claiming, refused, with_tickets}
use Rattle.slab_counts.specs.Counts.{unclaimed}
use Rattle.slab_counts.specs.declared.tickets.Receipt.{Receipt}
use Rattle.slab_counts.specs.declared.tickets.Ticket.{Ticket}
use Rattle.slab_tickets.specs.declared.forms.Withdrawn.{Withdrawn}
use Rattle.slab_tickets.specs.declared.forms.Withdrawn.TheVariants.{Block, Nothing}
use Rattle.slab_tickets.specs.Tickets.{Desk, IsNow, IsOutAt, begun}
use Rattle.step_parts.specs.Rules.{Applies}
use Rattle.zone_counts.proofs.OneAnswer.{one_begun, one_worth}
use Rattle.zone_counts.specs.ZoneAnswers.{WithdrawsFrom}
use Rattle.zone_counts.specs.ByBlock.{served_ticket}
use Rattle.zone_counts.specs.Zone.{BeginsStep, Changes, IsClaimedIn, NoneFree, Zone, slab_of}

-- a step that begins is under way
begun_now : (free : Bool) (step : ℕ) (desk : Desk) → IsNow (begun free step desk) step
begun_now true step desk = refl
begun_now false step desk = refl

pub is_now : (old new : Zone) (step : ℕ) → BeginsStep old new step → (now : ℕ) × IsNow new.desk now
is_now old new step begins = (step, ap (λ (z : Zone). z.desk.step) begins.1.after ∙ begun_now begins.0 step old.desk)

-- where none is free, one that asks has fewer tickets than there are zones
pub may_ask : (sizes : Sizes) (old : PhysicalZone) (v : Vio) → v.phase ≡ phase.Claim → NoneFree old.counts.slabs → Applies (PhysicalServes sizes old v) → length v.tickets < sizes.physical
may_ask sizes old v is none (new, made, posts, claims x z h1 gives h3 h4 h5) = absurd (none gives.claims.place gives.claims.inside x gives.claims.claims.of_slab gives.claims.claims.free)
may_ask sizes old v is none (new, made, posts, asks k b z h1 fewer h3 h4 h5 h6 h7) = fewer
may_ask sizes old v is none (new, made, posts, takes_block k others x b z h1 h2 h3 h4 h5 h6 h7 h8) = absurd cc
may_ask sizes old v is none (new, made, posts, drops_block k others x y b m z h1 h2 h3 h4 h5 h6 h7 h8 h9 h10) = absurd cc
may_ask sizes old v is none (new, made, posts, has_none k others receipt b z h1 h2 h3 h4 h5 h6 h7) = absurd cc
may_ask sizes old v is none (new, made, posts, counts x slab z h1 h2 h3 h4 h5 h6 h7 h8) = absurd cc
may_ask sizes old v is none (new, made, posts, drops x z h1 h2 h3 h4 h5 h6 h7) = absurd cc
may_ask sizes old v is none (new, made, posts, drops_none h1 h2 h3 h4 h5) = absurd cc
may_ask sizes old v is none (new, made, posts, spends h1 h2 h3 h4) = absurd cc

-- What is withdrawn of a ticket: where that is a block, and the write has one, there is a claim on it.
abbrev Result : Zone → Ticket → Option Pbn → Type 0
Result b k claim = (result : Withdrawn) × (m : Zone) × WithdrawsFrom b m k result × ((x y : Pbn) → result ≡ Block x → claim ≡ Some y → IsClaimedIn m x)

abbrev first_of : List Ticket → Ticket → Ticket
first_of [] other = other
first_of (k ∷ others) other = k

module _ (sizes : Sizes) (old : PhysicalZone) (v : Vio) (k : Ticket) (others : List Ticket) (b : Zone) (is : v.phase ≡ phase.Withdraw) (oldest : v.tickets ≡ k ∷ others) (begins : BeginsNext old.counts b) where
  -- by another name of the ticket, and of the zone in which the step is begun
  here : (k' : Ticket) (others' : List Ticket) (b' m : Zone) (result : Withdrawn) → v.tickets ≡ k' ∷ others' → BeginsNext old.counts b' → WithdrawsFrom b' m k' result → WithdrawsFrom b m k result
  here k' others' b' m result oldest' begins' did =
      let ticket : k' ≡ k = ap (λ (ks : List Ticket). first_of ks k) (sym oldest' ∙ oldest) in
      let zone : b' ≡ b = one_begun old.counts b' b (next_step old.counts.desk.step) begins' begins in
      subst (λ (z : Zone). WithdrawsFrom z m k result) zone (subst (λ (t : Ticket). WithdrawsFrom b' m t result) ticket did)

  no_block : (receipt : Withdrawn) (m : Zone) → WithdrawsFrom b m k receipt → ((x : Pbn) → receipt ≡ Block x → ⊥) → Result b k v.claim
  no_block receipt m did none = (receipt, m, did, λ x y block own. absurd (none x block))

  result : Applies (PhysicalServes sizes old v) → Result b k v.claim
  result (new, made, posts, takes_block k' others' x b' z h1 oldest' none begins' did h6 h7 h8) =
      (Block x, z, here k' others' b' z (Block x) oldest' begins' did, λ x' y block own. absurd (none-some y (sym none ∙ own)))
  result (new, made, posts, drops_block k' others' x y b' m z h1 oldest' h3 begins' did claimed h7 h8 h9 h10) =
      (Block x, m, here k' others' b' m (Block x) oldest' begins' did, λ x' y' block own. (let same : x ≡ x' = cc in subst (λ (at : Pbn). IsClaimedIn m at) same claimed))
  result (new, made, posts, has_none k' others' receipt b' z h1 oldest' begins' did h5 h6 h7) =
      (Nothing receipt, z, here k' others' b' z (Nothing receipt) oldest' begins' did, λ x y block own. absurd cc)
  result (new, made, posts, claims x z h1 h2 h3 h4 h5) = absurd cc
  result (new, made, posts, asks k' b' z h1 h2 h3 h4 h5 h6 h7) = absurd cc
  result (new, made, posts, counts x slab z h1 h2 h3 h4 h5 h6 h7 h8) = absurd cc
  result (new, made, posts, drops x z h1 h2 h3 h4 h5 h6 h7) = absurd cc
  result (new, made, posts, drops_none h1 h2 h3 h4 h5) = absurd cc
  result (new, made, posts, spends h1 h2 h3 h4) = absurd cc

  -- the ticket is out
  pub is_out : Applies (PhysicalServes sizes old v) → (place : ℕ) × IsOutAt b.desk k place
  is_out rule = let did = (result rule).2 in (did.withdraws.place, did.withdraws.here)

  -- and there is a claim on the block that went to it, where the write has one
  pub is_claimed : (m : Zone) (x y : Pbn) → Applies (PhysicalServes sizes old v) → WithdrawsFrom b m k (Block x) → v.claim ≡ Some y → IsClaimedIn m x
  is_claimed m x y rule did own =
      let by_rule = result rule in
      let same = one_worth b m by_rule.1 k (Block x) by_rule.0 did by_rule.2 in
      subst (λ (z : Zone). IsClaimedIn z x) (sym same.0) (by_rule.3 x y (sym same.1) own)

  -- What becomes of the write, with its other tickets: it takes the block that went to the ticket, or drops it where it has one.
  module _ (new : PhysicalZone) (m z : Zone) (x : Pbn) (w goes : Vio) (posts : List Post) (rule : Applies (PhysicalServes sizes old v)) (w_is : w ≡ with_tickets others v)
      (did : WithdrawsFrom b m k (Block x)) (new_is : new ≡ with_counts z old) (posts_are : posts ≡ served goes ∷ []) where
    takes : v.claim ≡ None → (z ≡ m) × (goes ≡ claiming x w) → (made : Trace) × PhysicalServes sizes old v new made posts
    takes none (same, goes_is) = (
      Withdraws v.request k (Some x) ∷ [],
      takes_block k others x b m is oldest none begins did (new_is ∙ ap (λ (c : Zone). with_counts c old) same) refl
          (posts_are ∙ ap (λ (u : Vio). served u ∷ []) (goes_is ∙ ap (λ (u : Vio). claiming x u) w_is)),
    )

    drops_it : (y : Pbn) → v.claim ≡ Some y → Changes m z x (unclaimed (slab_of m x) x) × (goes ≡ w) → (made : Trace) × PhysicalServes sizes old v new made posts
    drops_it y own (change, goes_is) = (
      Drops v.request x (served_ticket change.serves) ∷ Withdraws v.request k (Some x) ∷ [],
      drops_block k others x y b m z is oldest own begins did (is_claimed m x y rule did own) change new_is refl (posts_are ∙ ap (λ (u : Vio). served u ∷ []) (goes_is ∙ w_is)),
    )

    by_claim : (claim : Option Pbn) → v.claim ≡ claim → (w.claim ≡ None → (z ≡ m) × (goes ≡ claiming x w))
        → ((y : Pbn) → w.claim ≡ Some y → Changes m z x (unclaimed (slab_of m x) x) × (goes ≡ w)) → (made : Trace) × PhysicalServes sizes old v new made posts
    by_claim None none kept dropped = takes none (kept (ap (λ (u : Vio). u.claim) w_is ∙ none))
    by_claim (Some y) own kept dropped = drops_it y own (dropped y (ap (λ (u : Vio). u.claim) w_is ∙ own))

    pub has_block : (w.claim ≡ None → (z ≡ m) × (goes ≡ claiming x w))
        → ((y : Pbn) → w.claim ≡ Some y → Changes m z x (unclaimed (slab_of m x) x) × (goes ≡ w)) → (made : Trace) × PhysicalServes sizes old v new made posts
    has_block = by_claim v.claim refl

  -- or it has a receipt
  pub has_receipt : (new : PhysicalZone) (z : Zone) (receipt : Receipt) (w goes : Vio) (posts : List Post) → w ≡ with_tickets others v → WithdrawsFrom b z k (Nothing receipt)
      → new ≡ with_counts z old → goes ≡ refused receipt w → posts ≡ served goes ∷ [] → (made : Trace) × PhysicalServes sizes old v new made posts
  has_receipt new z receipt w goes posts w_is did new_is goes_is posts_are = (
    Withdraws v.request k None ∷ [],
    has_none k others receipt b z is oldest begins did new_is refl (posts_are ∙ ap (λ (u : Vio). served u ∷ []) (goes_is ∙ ap (λ (u : Vio). refused receipt u) w_is)),
  )
