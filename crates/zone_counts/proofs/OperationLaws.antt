-- What lists of calls keep of a zone, and that its receipts are right.
use Rattle.std.specs.Prelude.{ℕ, ◌≡◌, ◌+◌, ◌*◌, ◌<◌, true, false, List, [], ◌∷◌, length, Option, None}
use Rattle.std.proofs.Common.{sym, ◌∙◌, ap, subst, arith, inl, inr, refl, get_or}
use Rattle.std.proofs.lemmas.List.{get_or_default}
use Rattle.std.proofs.lemmas.Nat.{div-add-mod'}
use Rattle.blk_base.specs.Regions.{IsDataBlock, slab_start_of}
use Rattle.blk_base.specs.declared.geometry.Geometry.{Geometry}
use Rattle.blk_base.specs.declared.place.Pbn.{Pbn}
use Rattle.plain_laws.proofs.LeadLaws.{leads_keep}
use Rattle.slab_counts.specs.Counts.{Counts, IsOfSlab, IsClaimed, IsFree, HasNoFree, unclaimed, claimed, with_page}
use Rattle.slab_counts.specs.Kept.{IsWithin}
use Rattle.slab_counts.specs.Operations.{Shared, Extended, Dropped, Applied}
use Rattle.slab_counts.specs.declared.tickets.Ticket.{Ticket}
use Rattle.slab_counts.specs.declared.tickets.Receipt.{Receipt}
use Rattle.slab_tickets.specs.Tickets.{Desk, IsBelow, empty_desk, NoneWaits, begun}
use Rattle.slab_tickets.specs.declared.forms.Withdrawn.TheVariants.{Nothing}
use Rattle.slab_tickets.specs.Operations as tickets
use Rattle.slab_tickets.proofs.ReceiptLaws.{right_receipt}
use Rattle.zone_counts.specs.Zone.{Zone, IsZone, IsOf, IsOfZone, IsClaimedIn, AreSlabs, Changes, NoneBefore, NoneFree, place_in, index_of, slab_number, slab_at, slab_of, with_slab, nowhere}
use Rattle.zone_counts.specs.ZoneAnswers.{WithdrawsFrom}
use Rattle.zone_counts.specs.Operations.{Operation, Begins, Asks', Withdraws', Shares', Extends, Drops, SpendsPage, Applies, Refused, Does, LeadTo, IsRight, begins_of}
use Rattle.zone_counts.specs.declared.forms.Asked.TheVariants as asked
use Rattle.zone_counts.proofs.PlaceLaws.{number_is}
use Rattle.zone_counts.proofs.SlabLaws.{IsStill, IsBusier, still, no_more_free, busier_page, only_dropped, only_applied}
use Rattle.zone_counts.proofs.ZoneLaws.{busier, served, zone_claimed, zone_withdrawn}

-- a block of the zone is of one of its slabs
module _ (g : Geometry) (zone zones : ℕ) (slabs : List Counts) (at : Pbn) (are : AreSlabs g zone zones slabs) (own : IsOf g zone zones at) where
  block : IsDataBlock g at.0
  block = own.data_block

  number : slab_number g at ≡ block.slab
  number = number_is g block.slab block.offset at block.inside.1 block.stands

  pub inside : place_in g zones at < length slabs
  inside = are.all (slab_number g at) (omega (arith, number, block.inside.0)) own.own

  pub of_slab : IsOfSlab (slab_at slabs (place_in g zones at)) at
  of_slab =
      let one = are.each (place_in g zones at) inside in
      let slab : (slab_at slabs (place_in g zones at)).slab ≡ block.slab
      = one.0 ∙ (let whole : place_in g zones at * zones + zone ≡ slab_number g at = omega (arith, div-add-mod' (slab_number g at) zones, own.own) in whole) ∙ number in
      let start : slab_start_of (slab_at slabs (place_in g zones at)).geometry (slab_at slabs (place_in g zones at)).slab ≡ slab_start_of g block.slab
      = ap (λ (h : Geometry). slab_start_of h (slab_at slabs (place_in g zones at)).slab) one.1 ∙ ap (λ (n : ℕ). slab_start_of g n) slab in
      let size = ap (λ (h : Geometry). h.slab_blocks) one.1 in
      (omega (arith, start, block.stands), omega (arith, start, size, block.stands, block.inside.1))

module _ (z : Zone) (is : IsZone z) where
  claimed_in : (at : Pbn) → IsClaimedIn z at → IsClaimed (slab_of z at) at
  claimed_in at claimed = record { of_slab = of_slab z.geometry z.zone z.zones z.slabs at is.slabs claimed.own; some = claimed.some }

  no_cursor : NoneBefore z.slabs 0
  no_cursor k below = absurd (omega (arith, below))

  read : (at : Pbn) → IsOfZone z at → slab_of z at ≡ get_or z.slabs (index_of z at) (slab_of z at)
  read at own = get_or_default z.slabs (index_of z at) nowhere (slab_of z at) (inside z.geometry z.zone z.zones z.slabs at is.slabs own)

  within : (at : Pbn) → IsOfZone z at → IsWithin (slab_of z at)
  within at own = (is.slabs.each (index_of z at) (inside z.geometry z.zone z.zones z.slabs at is.slabs own)).2

  zone_busier : (at : Pbn) (c : Counts) → IsOfZone z at → IsBusier (slab_of z at) c → IsZone (with_slab z at c)
  zone_busier at c own change = (busier z 0 (index_of z at) (slab_of z at) c is no_cursor (inside z.geometry z.zone z.zones z.slabs at is.slabs own) (read at own) change).0

  zone_changed : (new : Zone) (at : Pbn) (c : Counts) → IsOfZone z at → IsStill (slab_of z at) c → (HasNoFree (slab_of z at) → (b : Pbn) → IsOfSlab c b → IsFree c b → b.0 ≡ at.0)
      → Changes z new at c → IsZone new
  zone_changed new at c own change only did =
      subst (λ (x : Zone). IsZone x) (sym did.same)
      (served z 0 (index_of z at) (slab_of z at) c is no_cursor (inside z.geometry z.zone z.zones z.slabs at is.slabs own) (read at own) new.slabs new.desk at change only did.serves)

pub as_zone : (new made : Zone) → new ≡ made → IsZone made → IsZone new
as_zone new made same is = subst (λ (x : Zone). IsZone x) (sym same) is

pub call_keeps : (call : Operation) (old new : Zone) → IsZone old → Does call old new → IsZone new
call_keeps (Begins true step) old new is did = as_zone new _ did.1.after (record { slabs = is.slabs; desk = is.desk; settled = is.settled })
call_keeps (Begins false step) old new is did = as_zone new _ did.1.after (record { slabs = is.slabs; desk = is.desk; settled = is.settled })
call_keeps (Asks' writer (asked.Block at)) old new is did = as_zone new _ did.1.same (zone_claimed old new.slabs at is did.1.claims)
call_keeps (Asks' writer (asked.Ticket ticket)) old new is did = as_zone new _ did.1.same (record {
  slabs = is.slabs;
  desk = ap (λ (d : Desk). d.zone) did.1.issues.after ∙ is.desk;
  settled = inr did.1.none_free;
})
call_keeps (Withdraws' ticket result) old new is did = as_zone new _ did.same (zone_withdrawn old new.desk ticket result is did.withdraws)
call_keeps (Shares' at) old new is did =
    let in_it = within old is at did.own in
    as_zone new _ did.after (zone_busier old is at did.slab did.own (record {
      still = still (Shared at) (slab_of old at) did.slab in_it did.shares;
      keeps = no_more_free (Shared at) (slab_of old at) did.slab in_it did.shares (λ b. refl);
    }))
call_keeps (Extends at) old new is did =
    let in_it = within old is at did.0.own in
    as_zone new _ did.2 (zone_busier old is at _ did.0.own (record {
      still = still (Extended at) (slab_of old at) (claimed (slab_of old at) at) in_it (claimed_in old is at did.0, did.1, refl);
      keeps = no_more_free (Extended at) (slab_of old at) (claimed (slab_of old at) at) in_it (claimed_in old is at did.0, did.1, refl) (λ b. refl);
    }))
call_keeps (Drops at) old new is did =
    let in_it = within old is at did.0.own in
    let there = claimed_in old is at did.0 in
    zone_changed old is new at (unclaimed (slab_of old at) at) did.0.own (still (Dropped at) (slab_of old at) (unclaimed (slab_of old at) at) in_it (there, refl))
    (only_dropped (slab_of old at) (unclaimed (slab_of old at) at) at in_it there refl) did.1
call_keeps (SpendsPage at) old new is did =
    as_zone new _ did.1 (zone_busier old is at _ did.0.own (busier_page (slab_of old at) (with_page (slab_of old at) at) at (within old is at did.0.own) (claimed_in old is at did.0) refl))
call_keeps (Applies half at counts) old new is did =
    let in_it = within old is at did.0 in
    let here = of_slab old.geometry old.zone old.zones old.slabs at is.slabs did.0 in
    zone_changed old is new at counts did.0 (still (Applied half at) (slab_of old at) counts in_it (here, did.1)) (only_applied half (slab_of old at) counts at in_it here did.1) did.2
call_keeps Refused old new is did = as_zone new old did is

pub calls_keep : (old new : Zone) (calls : List Operation) → IsZone old → LeadTo old calls new → IsZone new
calls_keep = leads_keep Does IsZone call_keeps

-- the calls as those on the tickets
record OnTickets (first : Desk) (desk : Desk) (last step : Option ℕ) : Type 0 where
  calls : List tickets.Operation
  lead : tickets.LeadTo first calls desk
  last_is : tickets.last_free_of calls ≡ last
  step_is : tickets.step_of calls ≡ step

same_desk : (first old new : Desk) (last step : Option ℕ) → new ≡ old → OnTickets first old last step → OnTickets first new last step
same_desk first old new last step same on = subst (λ (d : Desk). OnTickets first d last step) (sym same) on

pub quiet : (z : Zone) → IsZone z → ¬ NoneFree z.slabs → NoneWaits z.desk
quiet z is some = elim is.settled [ inl none ↦ none | inr free ↦ absurd (some free) ]

changed : (first : Desk) (old new : Zone) (at : Pbn) (c : Counts) (last step : Option ℕ) → Changes old new at c → OnTickets first old.desk last step → OnTickets first new.desk last step
changed first old new at c last step did on = elim did.serves [
  | inl nothing ↦ same_desk first old.desk new.desk last step nothing.2 on
  | inr serves ↦ record { calls = tickets.Given serves.block ∷ on.calls; lead = (old.desk, on.lead, serves.gives); last_is = on.last_is; step_is = on.step_is }
]

on_tickets : (first z : Zone) (calls : List Operation) → IsZone first → LeadTo first calls z → (first.desk.step ≡ None) → OnTickets first.desk z.desk (tickets.last_free_of (begins_of calls)) (tickets.step_of (begins_of calls))
on_tickets first z [] is same none = same_desk first.desk first.desk z.desk None None (ap (λ (x : Zone). x.desk) same) (record { calls = []; lead = refl; last_is = refl; step_is = refl })
on_tickets first z (Begins true step ∷ calls) is (before, lead, did) none =
    let on = on_tickets first before calls is lead none in
    same_desk first.desk (begun true step before.desk) z.desk _ _ (ap (λ (x : Zone). x.desk) did.1.after) (record {
      calls = tickets.Begins true step ∷ on.calls;
      lead = (before.desk, on.lead, (quiet before (calls_keep first before calls is lead) (did.1.some refl), did.0, refl));
      last_is = on.step_is;
      step_is = refl;
    })
on_tickets first z (Begins false step ∷ calls) is (before, lead, did) none =
    let on = on_tickets first before calls is lead none in
    same_desk first.desk (begun false step before.desk) z.desk _ _ (ap (λ (x : Zone). x.desk) did.1.after) (record {
      calls = tickets.Begins false step ∷ on.calls;
      lead = (before.desk, on.lead, (did.0, refl));
      last_is = on.last_is;
      step_is = refl;
    })
on_tickets first z (Asks' writer (asked.Block at) ∷ calls) is (before, lead, did) none =
    same_desk first.desk before.desk z.desk _ _ (ap (λ (x : Zone). x.desk) did.1.same) (on_tickets first before calls is lead none)
on_tickets first z (Asks' writer (asked.Ticket ticket) ∷ calls) is (before, lead, did) none =
    let on = on_tickets first before calls is lead none in
    record { calls = tickets.Issued writer ticket ∷ on.calls; lead = (before.desk, on.lead, (did.0, did.1.issues)); last_is = on.last_is; step_is = on.step_is }
on_tickets first z (Withdraws' ticket result ∷ calls) is (before, lead, did) none =
    let on = on_tickets first before calls is lead none in
    record { calls = tickets.Withdrawn' ticket result ∷ on.calls; lead = (before.desk, on.lead, did.withdraws); last_is = on.last_is; step_is = on.step_is }
on_tickets first z (Shares' at ∷ calls) is (before, lead, did) none =
    same_desk first.desk before.desk z.desk _ _ (ap (λ (x : Zone). x.desk) did.after) (on_tickets first before calls is lead none)
on_tickets first z (Extends at ∷ calls) is (before, lead, did) none =
    same_desk first.desk before.desk z.desk _ _ (ap (λ (x : Zone). x.desk) did.2) (on_tickets first before calls is lead none)
on_tickets first z (Drops at ∷ calls) is (before, lead, did) none =
    changed first.desk before z at _ _ _ did.1 (on_tickets first before calls is lead none)
on_tickets first z (SpendsPage at ∷ calls) is (before, lead, did) none =
    same_desk first.desk before.desk z.desk _ _ (ap (λ (x : Zone). x.desk) did.1) (on_tickets first before calls is lead none)
on_tickets first z (Applies half at counts ∷ calls) is (before, lead, did) none =
    changed first.desk before z at counts _ _ did.2 (on_tickets first before calls is lead none)
on_tickets first z (Refused ∷ calls) is (before, lead, did) none =
    same_desk first.desk before.desk z.desk _ _ (ap (λ (x : Zone). x.desk) did) (on_tickets first before calls is lead none)

pub zone_receipt : (first old new : Zone) (room : ℕ) (calls : List Operation) (ticket : Ticket) (receipt : Receipt) → IsZone first → first.desk ≡ empty_desk first.zone room
    → LeadTo first calls old → WithdrawsFrom old new ticket (Nothing receipt) → IsRight calls receipt
zone_receipt first old new room calls ticket receipt is opened lead did =
    let on = on_tickets first old calls is lead (ap (λ (d : Desk). d.step) opened) in
    let from = subst (λ (d : Desk). tickets.LeadTo d on.calls old.desk) opened on.lead in
    let right = right_receipt first.zone room on.calls old.desk new.desk ticket receipt from did.withdraws in
    subst (λ (last : Option ℕ). IsBelow last receipt.asked) on.last_is right
