-- An opened zone without claims is the physical zone of this number at the start of a session over that image.
use Rattle.std.proofs.Common.{◌≡◌, ◌*◌, ℕ, List, [], false, max, refl, sym, ◌∙◌, ap, subst, arith}
use Rattle.blk_base.specs.declared.geometry.Geometry.{Geometry}
use Rattle.blk_base.specs.declared.opened.Opened.{Opened}
use Rattle.core_model.specs.PhysicalRules.{HasTicketRoom}
use Rattle.core_model.specs.Sessions.{Session}
use Rattle.core_model.specs.Start.{IsFirstPhysical}
use Rattle.data_vio.specs.Zones.{physical_number}
use Rattle.data_vio.specs.declared.logged.Remapping.{Remapping}
use Rattle.data_vio.specs.declared.sizes.Sizes.{Sizes}
use Rattle.slab_tickets.specs.Tickets.{Desk, empty_desk}
use Rattle.zone_counts.specs.Openings.{opened_count}
use Rattle.zone_counts.specs.Zone.{Zone, IsOpeningZone, IsZone}
use Rattle.zone_counts.proofs.FitLaws.{opened_claims}
use Rattle.zone_counts.proofs.OpenedCounts.{opened_here}

-- room for 32 tickets for each request that a stream may have under way, and for 32 at least
pub has_ticket_room : (sizes : Sizes) (depth : ℕ) → depth ≡ max sizes.depth 1 → HasTicketRoom sizes (32 * depth)
has_ticket_room sizes depth is = (omega (arith, is), omega (arith, is))

module _ (s : Session) (sizes : Sizes) (opened : Opened) (same : s.sizes ≡ sizes) (geometry : sizes.geometry ≡ opened.head.geometry) (counters : s.counters ≡ opened.counters.items) where
  -- by another name of its number, and of how many there are
  pub starts : (number zone zones room : ℕ) (strays : List Remapping) (counts : Zone) → zone ≡ number → zones ≡ sizes.physical → strays ≡ []
      → HasTicketRoom sizes room
      → IsOpeningZone opened zone zones room counts → IsZone counts
      → IsFirstPhysical s (physical_number s.sizes number) (record { notified = false; strays = strays; counts = counts })
  starts number zone zones room strays counts zone_is zones_are none has_room opening is =
      let room_is : counts.desk.room ≡ room = ap (λ (d : Desk). d.room) opening.desk in
      let own : s.sizes.geometry ≡ opened.head.geometry = ap (λ (z : Sizes). z.geometry) same ∙ geometry in
      record {
        number_is = ap (physical_number s.sizes) (sym (opening.zone ∙ zone_is));
        notified = refl;
        strays = none;
        is_zone = is;
        geometry = opening.geometry ∙ sym own;
        zones = opening.zones ∙ zones_are ∙ sym (ap (λ (z : Sizes). z.physical) same);
        counters = λ x here.
            (opened_here opened zone zones room counts opening is x here).0 ∙ ap (λ (g : Geometry). opened_count g opened.counters.items x) (sym own)
            ∙ ap (λ (ns : List ℕ). opened_count s.sizes.geometry ns x) (sym counters);
        claims = λ x. opened_claims opened zone zones room counts opening is x;
        desk = opening.desk ∙ ap (λ (n : ℕ). empty_desk n room) (sym opening.zone) ∙ ap (λ (n : ℕ). empty_desk counts.zone n) (sym room_is);
        room = subst (λ (n : ℕ). HasTicketRoom s.sizes n) (sym room_is) (subst (λ (z : Sizes). HasTicketRoom z room) (sym same) has_room);
      }
