-- Every list of calls keeps the locks in order.
use Rattle.std.specs.Prelude.{ℕ, List}
use Rattle.std.proofs.Common.{sym, subst, inl, inr}
use Rattle.plain_laws.proofs.LeadLaws.{leads_keep}
use Rattle.hash_locks.specs.Operations.{Operation, Arrival, Settling, RollingOver, Ending, Does, LeadTo}
use Rattle.hash_locks.specs.LockedNames.{Sharing, AreInOrder}
use Rattle.hash_locks.proofs.SharingLaws.{arrives_in_order, leaves_in_order, oldest_in_order, frees_in_order}

module _ {V : Type 0} (bytes_of : V → List ℕ) where
  call_keeps : (call : Operation V) (old new : Sharing V) → AreInOrder bytes_of old → Does bytes_of call old new → AreInOrder bytes_of new
  call_keeps (Arrival name vio) old new order (room, (role, did)) = arrives_in_order bytes_of old new name vio role order room did
  call_keeps (Settling name) old new order (inl (vio, left)) = leaves_in_order bytes_of old new _ order left
  call_keeps (Settling name) old new order (inr (nobody, same)) = subst (λ (k : Sharing V). AreInOrder bytes_of k) (sym same) order
  call_keeps (RollingOver name) old new order (inl (vio, left)) = leaves_in_order bytes_of old new _ order left
  call_keeps (RollingOver name) old new order (inr free) = frees_in_order bytes_of old new name order free
  call_keeps Ending old new order (inl (waiter, was)) = oldest_in_order bytes_of old new waiter order was
  call_keeps Ending old new order (inr (nobody, same)) = subst (λ (k : Sharing V). AreInOrder bytes_of k) (sym same) order

  pub calls_keep : (old new : Sharing V) (calls : List (Operation V)) → AreInOrder bytes_of old → LeadTo bytes_of old calls new → AreInOrder bytes_of new
  calls_keep = leads_keep (Does {V = V} bytes_of) (AreInOrder bytes_of) call_keeps
