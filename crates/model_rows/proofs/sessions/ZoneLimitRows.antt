-- How long the lists of the other zones get, and the lanes of a zone: each clause at its limit, and one past it.
use Rattle.std.proofs.Common.{None, Some, ℕ, ◌≡◌, ◌-◌, ◌^◌, false, List, [], ◌∷◌, replicate, refl, arith}
use Rattle.std.proofs.lemmas.List.{length-replicate}
use Rattle.vdo_model.specs.declared.report.Placed.{Placed}
use Rattle.data_vio.specs.declared.logged.Logged.TheVariants.{Remaps}
use Rattle.data_vio.specs.declared.items.Item.{Item}
use Rattle.data_vio.specs.declared.items.Item.TheVariants.{StopNotice}
use Rattle.data_vio.specs.declared.items.Phase.TheVariants as phase
use Rattle.data_vio.specs.declared.items.Vio.{Vio}
use Rattle.blk_base.proofs.Example.{leaf}
use Rattle.blk_base.specs.Forms.{lba as address}
use Rattle.block_map_tree.specs.Tree.{Tree}
use Rattle.core_model.specs.declared.zones.SuperblockStage.TheVariants.{AsOpened}
use Rattle.core_model.specs.declared.zones.DeviceZone.{DeviceZone}
use Rattle.core_model.specs.JournalData.{JournalZone}
use Rattle.core_model.specs.LogicalData.{Lock, LogicalZone}
use Rattle.core_model.specs.declared.zones.Zone.{Zone}
use Rattle.core_model.specs.declared.zones.ZoneData.TheVariants as at
use Rattle.core_model.specs.JournalLimits.{IsJournalWithin}
use Rattle.core_model.specs.Limits.{IsWithin}
use Rattle.core_model.specs.LogicalLimits.{IsLogicalWithin}
use Rattle.core_model.specs.PhysicalLimits.{IsPhysicalWithin}
use Rattle.core_model.specs.PhysicalRules.{next_step}
use Rattle.core_model.specs.declared.zones.PhysicalZone.{PhysicalZone}
use Rattle.core_model.proofs.ZoneForms.{empty_log, slab_with, zone_with}
use Rattle.model_rows.proofs.sessions.PhaseRows.{stepped, waiting, writes}
use Rattle.core_model.proofs.WorkedTraces.{first, of_first, place, sizes}

abbrev waits : Vio
waits = writes phase.Wait

abbrev lock : Lock
lock = record { at = address 0; place = 0 }

abbrev drawn : Placed
drawn = place first 0 0

abbrev no_tree : Tree
no_tree = record { forest = record { geometry = sizes.geometry; zone = 0; zones = 1 }; pages = []; dirty_points = [] }

-- a logical zone with so many of each
abbrev logical : (next places held waiting retired slots : ℕ) → LogicalZone
logical next places held waiting retired slots = record {
  zone = 0;
  notified = false;
  next = next;
  places = replicate places drawn;
  held = replicate held lock;
  waiting = replicate waiting waits;
  retired = replicate retired (address 0);
  tree = no_tree;
  making = [];
  lacking = [];
  unlinkable = [];
  settling = [];
  reported = [];
  slots = replicate slots of_first;
}

-- with its pages: those that are being made, who waits for one, and those that are never linked
abbrev with_pages : LogicalZone → ℕ → ℕ → ℕ → LogicalZone
with_pages l making lacking unlinkable = record l { making = replicate making leaf; lacking = replicate lacking waits; unlinkable = replicate unlinkable leaf }

-- with who waits for the report of its decrement, and the reports that came first
abbrev with_reports : LogicalZone → ℕ → ℕ → LogicalZone
with_reports l settling reported = record l { settling = replicate settling waits; reported = replicate reported of_first }

-- one that made nine steps: nine places at most, 65,536 requests in all, 526 items under way, one entry of each request for its
-- address, and two for pages
logical_full : IsLogicalWithin 9 (with_reports (with_pages (logical 9 65536 526 526 65536 65536) 526 526 196608) 526 526)
logical_full = record {
  next = omega arith;
  places = omega (arith, length-replicate 65536 drawn);
  held = omega (arith, length-replicate 526 lock);
  waiting = omega (arith, length-replicate 526 waits);
  retired = omega (arith, length-replicate 65536 (address 0));
  slots = omega (arith, length-replicate 65536 of_first);
  making = omega (arith, length-replicate 526 leaf);
  lacking = omega (arith, length-replicate 526 waits);
  unlinkable = omega (arith, length-replicate 196608 leaf);
  settling = omega (arith, length-replicate 526 waits);
  reported = omega (arith, length-replicate 526 of_first);
}

logical_settling : IsLogicalWithin 9 (with_reports (logical 9 65536 526 526 65536 65536) 527 526) → ⊥
logical_settling is = absurd (omega (arith, is.settling, length-replicate 527 waits))

logical_reported : IsLogicalWithin 9 (with_reports (logical 9 65536 526 526 65536 65536) 526 527) → ⊥
logical_reported is = absurd (omega (arith, is.reported, length-replicate 527 of_first))

logical_making : IsLogicalWithin 9 (with_pages (logical 9 65536 526 526 65536 65536) 527 526 196608) → ⊥
logical_making is = absurd (omega (arith, is.making, length-replicate 527 leaf))

logical_lacking : IsLogicalWithin 9 (with_pages (logical 9 65536 526 526 65536 65536) 526 527 196608) → ⊥
logical_lacking is = absurd (omega (arith, is.lacking, length-replicate 527 waits))

logical_unlinkable : IsLogicalWithin 9 (with_pages (logical 9 65536 526 526 65536 65536) 526 526 196609) → ⊥
logical_unlinkable is = absurd (omega (arith, is.unlinkable, length-replicate 196609 leaf))

-- one more of each
logical_next : IsLogicalWithin 9 (logical 10 65536 526 526 65536 65536) → ⊥
logical_next is = absurd (omega (arith, is.next))

logical_places : IsLogicalWithin 9 (logical 9 65537 526 526 65536 65536) → ⊥
logical_places is = absurd (omega (arith, is.places, length-replicate 65537 drawn))

logical_held : IsLogicalWithin 9 (logical 9 65536 527 526 65536 65536) → ⊥
logical_held is = absurd (omega (arith, is.held, length-replicate 527 lock))

logical_waiting : IsLogicalWithin 9 (logical 9 65536 526 527 65536 65536) → ⊥
logical_waiting is = absurd (omega (arith, is.waiting, length-replicate 527 waits))

logical_retired : IsLogicalWithin 9 (logical 9 65536 526 526 65537 65536) → ⊥
logical_retired is = absurd (omega (arith, is.retired, length-replicate 65537 (address 0)))

logical_slots : IsLogicalWithin 9 (logical 9 65536 526 526 65536 65537) → ⊥
logical_slots is = absurd (omega (arith, is.slots, length-replicate 65537 of_first))

-- a journal with so many of each
abbrev journal : (sequence filling waiting entered committed : ℕ) → JournalZone
journal sequence filling waiting entered committed = record {
  notified = false;
  busy = false;
  broken = false;
  log = record empty_log { sequence = sequence };
  filling = replicate filling waits;
  waiting = replicate waiting waits;
  entered = replicate entered (Remaps of_first);
  committed = replicate committed (Remaps of_first);
}

journal_full : IsJournalWithin (journal (2 ^ 55 - 1) 192 526 196608 196608)
journal_full = record {
  sequence = omega arith;
  filling = omega (arith, length-replicate 192 waits);
  waiting = omega (arith, length-replicate 526 waits);
  entered = omega (arith, length-replicate 196608 (Remaps of_first));
  committed = omega (arith, length-replicate 196608 (Remaps of_first));
}

journal_sequence : IsJournalWithin (journal (2 ^ 55) 192 526 196608 196608) → ⊥
journal_sequence is = absurd (omega (arith, is.sequence))

journal_filling : IsJournalWithin (journal 1 193 526 196608 196608) → ⊥
journal_filling is = absurd (omega (arith, is.filling, length-replicate 193 waits))

journal_waiting : IsJournalWithin (journal 1 192 527 196608 196608) → ⊥
journal_waiting is = absurd (omega (arith, is.waiting, length-replicate 527 waits))

journal_entered : IsJournalWithin (journal 1 192 526 196609 196608) → ⊥
journal_entered is = absurd (omega (arith, is.entered, length-replicate 196609 (Remaps of_first)))

journal_committed : IsJournalWithin (journal 1 192 526 196608 196609) → ⊥
journal_committed is = absurd (omega (arith, is.committed, length-replicate 196609 (Remaps of_first)))

-- a device that made so many calls, as the zone that made nine steps, with so many items in its inbox and its two outboxes
abbrev device : ℕ → DeviceZone
device calls = record { stopped = false; calls = calls; superblock = AsOpened; damage = None }

abbrev lane : ℕ → List Item
lane items = replicate items StopNotice

abbrev zone : (inbox one other calls : ℕ) → Zone
zone inbox one other calls = record { number = 5; steps = 9; keeps = at.Device (device calls); ports = record { inbox = lane inbox; outboxes = lane one ∷ lane other ∷ [] } }

zone_full : IsWithin (zone 526 526 526 9)
zone_full = record {
  inbox = omega (arith, length-replicate 526 StopNotice);
  outboxes = (omega (arith, length-replicate 526 StopNotice), (omega (arith, length-replicate 526 StopNotice), tt));
  own = omega arith;
}

zone_inbox : IsWithin (zone 527 526 526 9) → ⊥
zone_inbox is = absurd (omega (arith, is.inbox, length-replicate 527 StopNotice))

zone_outbox : IsWithin (zone 526 526 527 9) → ⊥
zone_outbox is = absurd (omega (arith, is.outboxes.1.0, length-replicate 527 StopNotice))

zone_calls : IsWithin (zone 526 526 526 10) → ⊥
zone_calls is = absurd (omega (arith, is.own))

-- a physical zone with so many decrements that found 0, so many tickets out and so many issued, in this step
abbrev physical : (strays out issued step : ℕ) → PhysicalZone
physical strays out issued step = record { notified = false; strays = replicate strays of_first; counts = stepped (zone_with (slab_with [] [])) step issued (replicate out (waiting first 0 None)) }

-- as many decrements that found 0 as requests, room for one more ticket, and as many steps with tickets as steps
physical_full : IsPhysicalWithin 9 (physical 65536 63 9 8)
physical_full = record { strays = omega (arith, length-replicate 65536 of_first); tickets = omega (arith, length-replicate 63 (waiting first 0 None)); issued = omega arith; begun = omega arith }

physical_strays : IsPhysicalWithin 9 (physical 65537 63 9 8) → ⊥
physical_strays is = absurd (omega (arith, is.strays, length-replicate 65537 of_first))

physical_tickets : IsPhysicalWithin 9 (physical 65536 64 9 8) → ⊥
physical_tickets is = absurd (omega (arith, is.tickets, length-replicate 64 (waiting first 0 None)))

physical_issued : IsPhysicalWithin 9 (physical 65536 63 10 8) → ⊥
physical_issued is = absurd (omega (arith, is.issued))

physical_begun : IsPhysicalWithin 9 (physical 65536 63 9 9) → ⊥
physical_begun is = absurd (omega (arith, is.begun))

-- next_step: the first one is 0
steps_on : (next_step None ≡ 0) × (next_step (Some 8) ≡ 9)
steps_on = (refl, refl)
