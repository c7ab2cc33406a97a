-- What is posted for a request that is begun, and for one that gets the lock of its address.
use Rattle.std.proofs.Common.{◌≡◌, ◌⊎◌, true, false, None, Some, [], inl, inr, refl, ap, sym, subst}
use Rattle.core_laws.proofs.Common.{Asks, Post, Request, Sizes, Vio, Writer, cases_Bool, same_Some, turned}
use Rattle.blk_base.specs.declared.place.Mapping.TheVariants.{Unmapped, Zero}
use Rattle.blk_base.specs.declared.request.Request.TheVariants as request
use Rattle.data_vio.specs.declared.items.Asks.TheVariants.{Read, Write, Discard, Flush}
use Rattle.data_vio.specs.declared.items.Item.TheVariants as item
use Rattle.data_vio.specs.declared.items.Phase.TheVariants as phase
use Rattle.core_model.specs.DeskRules.{vio_of}
use Rattle.core_model.specs.LogicalRules.{are_zeros, enters_with, read_next, next_for, goes_on}
use Rattle.data_vio.specs.Vios.{counts_of}

-- a request that is begun has its name, and arrives or flushes
pub begun_request : (sizes : Sizes) (w : Writer) (r : Request) (v : Vio) → vio_of sizes w r ≡ Some v → v.request ≡ w
begun_request sizes w (request.Read at) v is = ap (λ (u : Vio). u.request) (sym (same_Some _ _ is))
begun_request sizes w (request.Write at bytes false) v is = ap (λ (u : Vio). u.request) (sym (same_Some _ _ is))
begun_request sizes w (request.Discard at) v is = ap (λ (u : Vio). u.request) (sym (same_Some _ _ is))
begun_request sizes w request.Flush v is = ap (λ (u : Vio). u.request) (sym (same_Some _ _ is))
begun_request sizes w other v is = absurd cc

pub begun_phase : (sizes : Sizes) (w : Writer) (r : Request) (v : Vio) → vio_of sizes w r ≡ Some v → (v.phase ≡ phase.Arrive) ⊎ (v.phase ≡ phase.Flush)
begun_phase sizes w (request.Read at) v is = inl (ap (λ (u : Vio). u.phase) (sym (same_Some _ _ is)))
begun_phase sizes w (request.Write at bytes false) v is = inl (ap (λ (u : Vio). u.phase) (sym (same_Some _ _ is)))
begun_phase sizes w (request.Discard at) v is = inl (ap (λ (u : Vio). u.phase) (sym (same_Some _ _ is)))
begun_phase sizes w request.Flush v is = inr (ap (λ (u : Vio). u.phase) (sym (same_Some _ _ is)))
begun_phase sizes w other v is = absurd cc

-- and makes no page
pub begun_page : (sizes : Sizes) (w : Writer) (r : Request) (v : Vio) → vio_of sizes w r ≡ Some v → v.page ≡ None
begun_page sizes w (request.Read at) v is = ap (λ (u : Vio). u.page) (sym (same_Some _ _ is))
begun_page sizes w (request.Write at bytes false) v is = ap (λ (u : Vio). u.page) (sym (same_Some _ _ is))
begun_page sizes w (request.Discard at) v is = ap (λ (u : Vio). u.page) (sym (same_Some _ _ is))
begun_page sizes w request.Flush v is = ap (λ (u : Vio). u.page) (sym (same_Some _ _ is))
begun_page sizes w other v is = absurd cc

-- and has no claim
pub begun_claim : (sizes : Sizes) (w : Writer) (r : Request) (v : Vio) → vio_of sizes w r ≡ Some v → v.claim ≡ None
begun_claim sizes w (request.Read at) v is = ap (λ (u : Vio). u.claim) (sym (same_Some _ _ is))
begun_claim sizes w (request.Write at bytes false) v is = ap (λ (u : Vio). u.claim) (sym (same_Some _ _ is))
begun_claim sizes w (request.Discard at) v is = ap (λ (u : Vio). u.claim) (sym (same_Some _ _ is))
begun_claim sizes w request.Flush v is = ap (λ (u : Vio). u.claim) (sym (same_Some _ _ is))
begun_claim sizes w other v is = absurd cc

-- nor a ticket
pub begun_tickets : (sizes : Sizes) (w : Writer) (r : Request) (v : Vio) → vio_of sizes w r ≡ Some v → v.tickets ≡ []
begun_tickets sizes w (request.Read at) v is = ap (λ (u : Vio). u.tickets) (sym (same_Some _ _ is))
begun_tickets sizes w (request.Write at bytes false) v is = ap (λ (u : Vio). u.tickets) (sym (same_Some _ _ is))
begun_tickets sizes w (request.Discard at) v is = ap (λ (u : Vio). u.tickets) (sym (same_Some _ _ is))
begun_tickets sizes w request.Flush v is = ap (λ (u : Vio). u.tickets) (sym (same_Some _ _ is))
begun_tickets sizes w other v is = absurd cc

-- what is posted for a request that goes on with the lock of its address, by a fact of each post that it may be
pub goes_by : (P : Post → Type 0) (sizes : Sizes) (v : Vio) (post : Post) → goes_on sizes v ≡ Some post → (v.asks ≡ Read → P (read_next v v.old)) → (v.asks ≡ Write → are_zeros v.bytes ≡ true → P (enters_with Zero v))
    → (v.asks ≡ Write → are_zeros v.bytes ≡ false → P (counts_of sizes v, item.Request (turned phase.Claim v))) → (v.asks ≡ Discard → P (enters_with Unmapped v)) → P post
goes_by P sizes v post is reads zeros others discards = by v.asks refl is
  where
    by : (asks : Asks) → v.asks ≡ asks → next_for sizes v asks ≡ Some post → P post
    by Read asks next = subst P (same_Some _ _ next) (reads asks)
    by Write asks next = elim (cases_Bool (are_zeros v.bytes)) [
      | inl all ↦ subst P (rw all at (same_Some _ _ next)) (zeros asks all)
      | inr some ↦ subst P (rw some at (same_Some _ _ next)) (others asks some)
    ]
    by Discard asks next = subst P (same_Some _ _ next) (discards asks)
    by Flush asks next = absurd cc
