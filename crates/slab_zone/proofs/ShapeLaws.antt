-- A call on the counts leaves the slabs of the zone where they are, and what is to be written of them.
use Rattle.std.specs.Prelude.{ℕ, ◌≡◌, ◌+◌, ◌*◌, List, [], ◌∷◌, length, Result, Ok, Err}
use Rattle.std.specs.Result.{OnOk, OnErr}
use Rattle.std.proofs.Common.{sym, ◌∙◌, ap, arith, inl, inr, refl}
use Rattle.std.proofs.lemmas.List.{length-set}
use Rattle.blk_base.specs.declared.place.Pbn.{Pbn}
use Rattle.slab_counts.specs.Counts.{Counts, HasRoom, claimed}
use Rattle.slab_tickets.specs.Tickets.{Desk}
use Rattle.zone_counts.specs.Zone.{Zone, IsClaimedIn, Changes, ClaimsLowest, Serves, index_of, slab_of, with_slab}
use Rattle.zone_counts.specs.ZoneAnswers.{SharesIn}
use Rattle.zone_counts.specs.Operations.{Operation, Begins, Asks', Withdraws', Shares', Extends, Drops, SpendsPage, Applies, Refused, Does}
use Rattle.zone_counts.specs.declared.forms.Asked.TheVariants as asked
use Rattle.zone_counts.proofs.OperationLaws.{calls_keep}
use Rattle.slab_writes.specs.Writes.{Writes}
use Rattle.slab_zone.specs.Whole.{WholeZone, IsWhole, AreOfZone}

-- the slabs stand where they stood
pub record IsShaped (old new : Zone) : Type 0 where
  pub geometry : new.geometry ≡ old.geometry
  pub zone : new.zone ≡ old.zone
  pub zones : new.zones ≡ old.zones
  pub many : length new.slabs ≡ length old.slabs

shaped : (old new : Zone) (slabs : List Counts) (desk : Desk) → new ≡ record old { slabs = slabs; desk = desk } → length slabs ≡ length old.slabs → IsShaped old new
shaped old new slabs desk same many = record {
  geometry = ap (λ (z : Zone). z.geometry) same;
  zone = ap (λ (z : Zone). z.zone) same;
  zones = ap (λ (z : Zone). z.zones) same;
  many = ap (λ (z : Zone). length z.slabs) same ∙ many;
}

claimed_many : (old new : List Counts) (at : Pbn) → ClaimsLowest old new at → length new ≡ length old
claimed_many old new at did = ap (λ (cs : List Counts). length cs) did.after ∙ length-set old did.place did.slab

serves_many : (old : List Counts) (desk : Desk) (new : List Counts) (desk' : Desk) → Serves old desk new desk' → length new ≡ length old
serves_many old desk new desk' (inl (quiet, same, same')) = ap (λ (cs : List Counts). length cs) same
serves_many old desk new desk' (inr serves) = claimed_many old new serves.block serves.claims

changes_shape : (old new : Zone) (at : Pbn) (c : Counts) → Changes old new at c → IsShaped old new
changes_shape old new at c did = shaped old new new.slabs new.desk did.same (serves_many _ old.desk new.slabs new.desk did.serves ∙ length-set old.slabs (index_of old at) c)

pub call_shape : (call : Operation) (old new : Zone) → Does call old new → IsShaped old new
call_shape (Begins free step) old new did = shaped old new old.slabs _ did.1.after refl
call_shape (Asks' writer (asked.Block at)) old new did = shaped old new new.slabs old.desk did.1.same (claimed_many old.slabs new.slabs at did.1.claims)
call_shape (Asks' writer (asked.Ticket ticket)) old new did = shaped old new old.slabs new.desk did.1.same refl
call_shape (Withdraws' ticket result) old new did = shaped old new old.slabs new.desk did.same refl
call_shape (Shares' at) old new did = shaped old new _ old.desk did.after (length-set old.slabs (index_of old at) did.slab)
call_shape (Extends at) old new did = shaped old new _ old.desk did.2 (length-set old.slabs (index_of old at) _)
call_shape (Drops at) old new did = changes_shape old new at _ did.1
call_shape (SpendsPage at) old new did = shaped old new _ old.desk did.1 (length-set old.slabs (index_of old at) _)
call_shape (Applies half at c) old new did = changes_shape old new at c did.2
call_shape Refused old new did = shaped old new old.slabs old.desk did refl

-- and so what is to be written is of the same slabs
pub of_shaped : (old new : Zone) (writes : List Writes) → IsShaped old new → AreOfZone old.geometry old.zone old.zones (length old.slabs) writes → AreOfZone new.geometry new.zone new.zones (length new.slabs) writes
of_shaped old new writes same are = record {
  many = are.many ∙ sym same.many;
  each = λ k below.
      let one = are.each k (omega (arith, below, same.many)) in
      let here : k * old.zones + old.zone ≡ k * new.zones + new.zone
      = ap (λ (n : ℕ). k * n + old.zone) (sym same.zones) ∙ ap (λ (n : ℕ). k * new.zones + n) (sym same.zone) in
      record { journal = one.journal ∙ sym same.geometry; slab = one.slab ∙ here; blocks = one.blocks ∙ sym same.geometry };
}

pub call_keeps : (call : Operation) (z : WholeZone) (new : Zone) → IsWhole z → Does call z.counts new → IsWhole (record { counts = new; writes = z.writes })
call_keeps call z new is did = record {
  counts = calls_keep z.counts new (call ∷ []) is.counts (z.counts, refl, did);
  writes = of_shaped z.counts new z.writes (call_shape call z.counts new did) is.writes;
}

pub same_keeps : (z : WholeZone) (new : Zone) → IsWhole z → new ≡ z.counts → IsWhole (record { counts = new; writes = z.writes })
same_keeps z new is same = call_keeps Refused z new is same

pub shared_keeps : {X E : Type 0} (result : Result X E) (z : WholeZone) (new : Zone) (at : Pbn) → IsWhole z → OnOk result (SharesIn z.counts new at) → OnErr result (new ≡ z.counts) → IsWhole (record { counts = new; writes = z.writes })
shared_keeps (Ok x) z new at is shares same = call_keeps (Shares' at) z new is shares
shared_keeps (Err e) z new at is shares same = same_keeps z new is same

pub extended_keeps : {X E : Type 0} (result : Result X E) (z : WholeZone) (new : Zone) (at : Pbn) → IsWhole z → IsClaimedIn z.counts at → OnOk result (HasRoom (slab_of z.counts at) at)
    → OnOk result (new ≡ with_slab z.counts at (claimed (slab_of z.counts at) at)) → OnErr result (new ≡ z.counts) → IsWhole (record { counts = new; writes = z.writes })
extended_keeps (Ok x) z new at is there room did same = call_keeps (Extends at) z new is (there, room, did)
extended_keeps (Err e) z new at is there room did same = same_keeps z new is same
