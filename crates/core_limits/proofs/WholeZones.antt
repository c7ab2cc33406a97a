-- In a legal core each zone keeps within its room: its lanes, and what it keeps, by its kind.
use Rattle.std.proofs.Common.{◌≡◌, ℕ, Some, ◌++◌, length, length-append, slice_get, refl, ap, arith}
use Rattle.core_laws.proofs.Common.{IsSession, Session, Zone, ZoneData, kept_by}
use Rattle.core_model.specs.declared.zones.ZoneData.TheVariants as at
use Rattle.core_model.specs.Legal.{Legal}
use Rattle.core_model.specs.Limits.{IsDataWithin, IsWithin}
use Rattle.core_model.specs.Steps.{Core}
use Rattle.core_limits.proofs.Bounds.{calls_within, committed_within, entered_within, filling_within, held_within, next_within, retired_within, sequence_within, slots_within, strays_within, unlinkable_within}
use Rattle.core_limits.proofs.Rooms.{kept_few}
use Rattle.core_limits.proofs.MakingLimits.{makers_few}
use Rattle.core_limits.proofs.TicketLimits.{physical_within}
use Rattle.core_limits.proofs.ZoneLimits.{desk_within, few_items, inbox_within, lanes_within, places_within, waiting_within}

module _ (s : Session) (core : Core) (session : IsSession s) (legal : Legal s core) (n : ℕ) (z : Zone) (had : slice_get core.zones n ≡ Some z) where
  data_within : (d : ZoneData) → z.keeps ≡ d → IsDataWithin z.steps d
  data_within (at.Desk desk) keeps = desk_within s core session legal n z had desk keeps
  data_within (at.Logical l) keeps =
      let held = held_within s core legal n z had l keeps in
      let waiting = waiting_within s core session legal n z had in
      let waits = ap (λ (d : ZoneData). length (kept_by d)) keeps in
      record {
        next = next_within s core legal n z had l keeps;
        places = places_within s core session legal n z had l keeps;
        held = omega (arith, held, few_items s core session legal);
        waiting = omega (arith, waiting, waits, length-append l.waiting (l.lacking ++ l.settling), length-append l.lacking l.settling);
        retired = retired_within s core legal n z had session l keeps;
        slots = slots_within s core legal n z had session l keeps;
        making = omega (arith, makers_few s core legal n z l had keeps, few_items s core session legal);
        lacking = omega (arith, waiting, waits, length-append l.waiting (l.lacking ++ l.settling), length-append l.lacking l.settling);
        settling = omega (arith, waiting, waits, length-append l.waiting (l.lacking ++ l.settling), length-append l.lacking l.settling);
        reported = omega (arith, kept_few s core legal n z had l keeps, few_items s core session legal);
        unlinkable = unlinkable_within s core legal n z had session l keeps;
      }
  data_within (at.Journal j) keeps =
      let waiting = waiting_within s core session legal n z had in
      let waits = ap (λ (d : ZoneData). length (kept_by d)) keeps in
      record {
        sequence = sequence_within s core legal n z had session j keeps;
        filling = filling_within s core legal n z had session j keeps;
        waiting = omega (arith, waiting, waits, length-append j.filling j.waiting);
        entered = entered_within s core legal n z had session j keeps;
        committed = committed_within s core legal n z had session j keeps;
      }
  data_within (at.Device d) keeps = calls_within s core legal n z had d keeps
  data_within (at.Physical p) keeps = physical_within s core session legal n z had p keeps (strays_within s core legal n z had session p keeps)

  pub zone_within : IsWithin z
  zone_within = record { inbox = inbox_within s core session legal n z had; outboxes = lanes_within s core session legal n z had; own = data_within z.keeps refl }
