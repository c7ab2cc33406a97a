-- What a call of a physical zone leaves as it is: the sizes of the zone, and the room and the numbers of its tickets.
use Rattle.std.proofs.Common.{ℕ, ◌≡◌, ◌+◌, ◌≤◌, Bool, true, false, Option, None, Some, List, refl, ap, sym, ◌∙◌, subst, inl, inr, arith}
use Rattle.blk_base.specs.declared.place.PageId.{PageId}
use Rattle.core_laws.proofs.Common.{Pbn, Writer}
use Rattle.core_model.specs.PhysicalRules.{BeginsNext, next_step, spent_for}
use Rattle.slab_counts.specs.Counts.{Counts}
use Rattle.slab_counts.specs.declared.tickets.Ticket.{Ticket}
use Rattle.slab_tickets.specs.Numbers.{AreNumbered}
use Rattle.slab_tickets.specs.Tickets.{Desk, begun}
use Rattle.slab_tickets.specs.declared.forms.Withdrawn.{Withdrawn}
use Rattle.zone_counts.specs.ZoneAnswers.{GivesBlock, GivesTicket, WithdrawsFrom}
use Rattle.zone_counts.specs.Zone.{Zone, Changes, Serves}
use Rattle.zone_counts.proofs.TicketLaws.{begun_numbered, changed_numbered, issued_numbered, withdrawn_numbered}

-- No more tickets were given than steps were begun, and each has a number of its own.
pub record IsKeptBy (old z : Zone) : Type 0 where
  pub zone : z.zone ≡ old.zone
  pub zones : z.zones ≡ old.zones
  pub geometry : z.geometry ≡ old.geometry
  pub desk_zone : z.desk.zone ≡ old.desk.zone
  pub room : z.desk.room ≡ old.desk.room
  pub few : z.desk.issued + next_step old.desk.step ≤ old.desk.issued + next_step z.desk.step
  pub once : next_step z.desk.step ≤ next_step old.desk.step + 1
  pub numbered : AreNumbered old.desk → AreNumbered z.desk

-- a zone by its parts
sizes_kept : (old z : Zone) (slabs : List Counts) (desk : Desk) → z ≡ record old { slabs = slabs; desk = desk } → (z.zone ≡ old.zone) × (z.zones ≡ old.zones) × (z.geometry ≡ old.geometry)
sizes_kept old z slabs desk same = (ap (λ (w : Zone). w.zone) same, ap (λ (w : Zone). w.zones) same, ap (λ (w : Zone). w.geometry) same)

-- where its desk gave no ticket
desk_kept : (old z : Zone) (slabs : List Counts) → z ≡ record old { slabs = slabs; desk = z.desk } → z.desk.zone ≡ old.desk.zone → z.desk.room ≡ old.desk.room → z.desk.issued ≡ old.desk.issued → z.desk.step ≡ old.desk.step
    → (AreNumbered old.desk → AreNumbered z.desk) → IsKeptBy old z
desk_kept old z slabs same desk room issued step numbered =
    let sizes = sizes_kept old z slabs z.desk same in
    let next = ap next_step step in
    record { zone = sizes.0; zones = sizes.1; geometry = sizes.2; desk_zone = desk; room = room; few = omega (arith, issued, next); once = omega (arith, next); numbered = numbered }

pub claimed_keeps : (old z : Zone) (x : Pbn) → GivesBlock old z x → IsKeptBy old z
claimed_keeps old z x gives =
    let desk : z.desk ≡ old.desk = ap (λ (w : Zone). w.desk) gives.same in
    desk_kept old z z.slabs (gives.same ∙ ap (λ (d : Desk). record old { slabs = z.slabs; desk = d }) (sym desk)) (ap (λ (d : Desk). d.zone) desk) (ap (λ (d : Desk). d.room) desk) (ap (λ (d : Desk). d.issued) desk) (ap (λ (d : Desk). d.step) desk)
    (subst AreNumbered (sym desk))

pub withdrawn_keeps : (old z : Zone) (k : Ticket) (worth : Withdrawn) → WithdrawsFrom old z k worth → IsKeptBy old z
withdrawn_keeps old z k worth from =
    let after = from.withdraws.after in
    desk_kept old z old.slabs from.same (ap (λ (d : Desk). d.zone) after) (ap (λ (d : Desk). d.room) after) (ap (λ (d : Desk). d.issued) after) (ap (λ (d : Desk). d.step) after) (λ numbered. withdrawn_numbered old z k worth numbered from)

-- who is served keeps its number
record SameDesk (old z : Desk) : Type 0 where
  zone : z.zone ≡ old.zone
  room : z.room ≡ old.room
  issued : z.issued ≡ old.issued
  step : z.step ≡ old.step

served_desk : (slabs slabs' : List Counts) (desk desk' : Desk) → Serves slabs desk slabs' desk' → SameDesk desk desk'
served_desk slabs slabs' desk desk' (inl same) = let is = same.2 in record { zone = ap (λ (d : Desk). d.zone) is; room = ap (λ (d : Desk). d.room) is; issued = ap (λ (d : Desk). d.issued) is; step = ap (λ (d : Desk). d.step) is }
served_desk slabs slabs' desk desk' (inr serves) =
    let is = serves.gives.after in
    record { zone = ap (λ (d : Desk). d.zone) is; room = ap (λ (d : Desk). d.room) is; issued = ap (λ (d : Desk). d.issued) is; step = ap (λ (d : Desk). d.step) is }

pub changed_keeps : (old z : Zone) (x : Pbn) (slab : Counts) → Changes old z x slab → IsKeptBy old z
changed_keeps old z x slab change =
    let desk = served_desk _ z.slabs old.desk z.desk change.serves in
    desk_kept old z z.slabs change.same desk.zone desk.room desk.issued desk.step (λ numbered. changed_numbered old z x slab numbered change)

pub counted_keeps : (page : Option PageId) (old z : Zone) (x : Pbn) (slab : Counts) → Changes (spent_for page old x) z x slab → IsKeptBy old z
counted_keeps None old z x slab change = changed_keeps old z x slab change
counted_keeps (Some page) old z x slab change =
    let k = changed_keeps (spent_for (Some page) old x) z x slab change in
    record { zone = k.zone; zones = k.zones; geometry = k.geometry; desk_zone = k.desk_zone; room = k.room; few = k.few; once = k.once; numbered = k.numbered }

-- a step begins
begun_step : (free : Bool) (step : ℕ) (desk : Desk) → (begun free step desk).step ≡ Some step
begun_step true step desk = refl
begun_step false step desk = refl

begun_rest : (free : Bool) (step : ℕ) (desk : Desk) → ((begun free step desk).zone ≡ desk.zone) × ((begun free step desk).room ≡ desk.room) × ((begun free step desk).issued ≡ desk.issued)
begun_rest true step desk = (refl, refl, refl)
begun_rest false step desk = (refl, refl, refl)

module _ (old b : Zone) (begins : BeginsNext old b) where
  begun_desk : b.desk ≡ begun begins.0 (next_step old.desk.step) old.desk
  begun_desk = ap (λ (w : Zone). w.desk) begins.1.after

  pub begun_next_step : next_step b.desk.step ≡ next_step old.desk.step + 1
  begun_next_step = ap next_step (ap (λ (d : Desk). d.step) begun_desk ∙ begun_step begins.0 (next_step old.desk.step) old.desk)

  pub now : b.desk.step ≡ Some (next_step old.desk.step)
  now = ap (λ (d : Desk). d.step) begun_desk ∙ begun_step begins.0 (next_step old.desk.step) old.desk

  rest : ((begun begins.0 (next_step old.desk.step) old.desk).zone ≡ old.desk.zone) × ((begun begins.0 (next_step old.desk.step) old.desk).room ≡ old.desk.room) × ((begun begins.0 (next_step old.desk.step) old.desk).issued ≡ old.desk.issued)
  rest = begun_rest begins.0 (next_step old.desk.step) old.desk

  pub begun_keeps : IsKeptBy old b
  begun_keeps =
      let issued : b.desk.issued ≡ old.desk.issued = ap (λ (d : Desk). d.issued) begun_desk ∙ rest.2 in
      record {
        zone = ap (λ (w : Zone). w.zone) begins.1.after;
        zones = ap (λ (w : Zone). w.zones) begins.1.after;
        geometry = ap (λ (w : Zone). w.geometry) begins.1.after;
        desk_zone = ap (λ (d : Desk). d.zone) begun_desk ∙ rest.0;
        room = ap (λ (d : Desk). d.room) begun_desk ∙ rest.1;
        few = omega (arith, issued, begun_next_step);
        once = omega (arith, begun_next_step);
        numbered = λ numbered. begun_numbered old b (next_step old.desk.step) numbered begins;
      }

  -- and a ticket is given in it
  pub ticket_keeps : (z : Zone) (w : Writer) (k : Ticket) → GivesTicket b z w k → IsKeptBy old z
  ticket_keeps z w k gives =
      let after = gives.issues.after in
      let issued : z.desk.issued ≡ b.desk.issued + 1 = ap (λ (d : Desk). d.issued) after in
      let step : next_step z.desk.step ≡ next_step b.desk.step = ap (λ (d : Desk). next_step d.step) after in
      let before : b.desk.issued ≡ old.desk.issued = ap (λ (d : Desk). d.issued) begun_desk ∙ rest.2 in
      let k' = begun_keeps in
      record {
        zone = ap (λ (w : Zone). w.zone) gives.same ∙ k'.zone;
        zones = ap (λ (w : Zone). w.zones) gives.same ∙ k'.zones;
        geometry = ap (λ (w : Zone). w.geometry) gives.same ∙ k'.geometry;
        desk_zone = ap (λ (d : Desk). d.zone) after ∙ k'.desk_zone;
        room = ap (λ (d : Desk). d.room) after ∙ k'.room;
        few = omega (arith, issued, step, before, begun_next_step);
        once = omega (arith, step, begun_next_step);
        numbered = λ numbered. issued_numbered b z w k (k'.numbered numbered) gives;
      }

  -- or taken back
  pub back_keeps : (z : Zone) (k : Ticket) (worth : Withdrawn) → WithdrawsFrom b z k worth → IsKeptBy old z
  back_keeps z k worth from =
      let k' = begun_keeps in
      let m = withdrawn_keeps b z k worth from in
      let step : next_step z.desk.step ≡ next_step b.desk.step = ap (λ (d : Desk). next_step d.step) from.withdraws.after in
      record {
        zone = m.zone ∙ k'.zone;
        zones = m.zones ∙ k'.zones;
        geometry = m.geometry ∙ k'.geometry;
        desk_zone = m.desk_zone ∙ k'.desk_zone;
        room = m.room ∙ k'.room;
        few = let one = m.few in let two = k'.few in omega (arith, one, two);
        once = omega (arith, step, begun_next_step);
        numbered = λ numbered. m.numbered (k'.numbered numbered);
      }

-- and a change after that
pub changed_after : (old m z : Zone) (x : Pbn) (slab : Counts) → IsKeptBy old m → Changes m z x slab → IsKeptBy old z
changed_after old m z x slab first change =
    let second = changed_keeps m z x slab change in
    let step : next_step z.desk.step ≡ next_step m.desk.step = ap next_step (served_desk _ z.slabs m.desk z.desk change.serves).step in
    record {
      zone = second.zone ∙ first.zone;
      zones = second.zones ∙ first.zones;
      geometry = second.geometry ∙ first.geometry;
      desk_zone = second.desk_zone ∙ first.desk_zone;
      room = second.room ∙ first.room;
      few = let one = first.few in let two = second.few in omega (arith, one, two);
      once = let one = first.once in omega (arith, one, step);
      numbered = λ numbered. second.numbered (first.numbered numbered);
    }
