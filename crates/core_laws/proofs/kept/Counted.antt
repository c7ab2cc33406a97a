-- A logical zone draws one place a step at most, and the device's zone makes one call.
use Rattle.std.proofs.Common.{ℕ, ◌+◌, ◌≡◌, ◌≤◌, Option, None, Some, List, refl, ap, arith}
use Rattle.core_laws.proofs.Common.{DeviceZone, Item, LogicalZone, PhysicalZone, Post, SealedBlock, Sizes, Trace, Vio, ZoneData, made_by, Writer, Remapping}
use Rattle.core_model.specs.DeviceRules as device
use Rattle.core_model.specs.DeviceRules.{Announces, DeviceServes, DeviceWorks}
use Rattle.data_vio.specs.declared.items.Item.TheVariants as item
use Rattle.core_model.specs.LogicalRules as logical
use Rattle.core_model.specs.LogicalRules.{LogicalHears, LogicalServes, first_for, passed_to}
use Rattle.core_model.specs.PhysicalRules.{PhysicalServes, PhysicalTakes, next_step}
use Rattle.core_laws.proofs.physical.TicketDesks.{back_keeps, changed_after, changed_keeps, claimed_keeps, counted_keeps, ticket_keeps}
use Rattle.core_model.specs.Steps as steps
use Rattle.core_model.specs.Steps.{Act}

module _ (sizes : Sizes) where
  passed_next : (a : ℕ) (l : LogicalZone) (o : Option Vio) → (passed_to a l o).next ≡ l.next
  passed_next a l None = refl
  passed_next a l (Some v) = refl

  logical_once : (old : LogicalZone) (v : Vio) (new : LogicalZone) (made : Trace) (posts : List Post) → LogicalServes sizes old v new made posts → new.next ≤ old.next + 1
  logical_once old v new made posts (logical.arrives_retired p among n m q) = rw n (omega arith)
  logical_once old v new made posts (logical.arrives_free p among held n m q) = rw n (omega arith)
  logical_once old v new made posts (logical.arrives_held p among held n m q) = rw n (omega arith)
  logical_once old v new made posts (logical.looks mapping post p path stays leaf known goes n m q) = rw n (omega arith)
  logical_once old v new made posts (logical.needs_leaf x p path stays leaf unknown stands n m q) = rw n (omega arith)
  logical_once old v new made posts (logical.leafed post p goes n m q) = rw n (omega arith)
  logical_once old v new made posts (logical.passes p path past n m q) = rw n (omega (arith, passed_next v.at.0 old (first_for v.at.0 old.waiting)))
  logical_once old v new made posts (logical.is_dropped page p path lack dropped n m q) = rw n (omega (arith, passed_next v.at.0 old (first_for v.at.0 old.waiting)))
  logical_once old v new made posts (logical.waits page p path lack linkable made_yet n m q) = rw n (omega arith)
  logical_once old v new made posts (logical.makes_page page p path lack linkable unmade n m q) = rw n (omega arith)
  logical_once old v new made posts (logical.links page x between p some to may linked n m q) = let same = ap (λ (l : LogicalZone). l.next) linked.rest in rw n (omega (arith, same))
  logical_once old v new made posts (logical.unmakes page p some n m q) = rw n (omega (arith, passed_next v.at.0 old (first_for v.at.0 old.waiting)))
  logical_once old v new made posts (logical.drops page p some n m q) = rw n (omega (arith, passed_next v.at.0 old (first_for v.at.0 old.waiting)))
  logical_once old v new made posts (logical.settles p bare none n m q) = rw n (omega (arith, passed_next v.at.0 (logical.with_slot (record old { reported = logical.reports_left v old.reported }) v) (first_for v.at.0 old.waiting)))
  logical_once old v new made posts (logical.awaits p bare some n m q) = rw n (omega arith)
  logical_once old v new made posts (logical.gives p n m q) = rw n (omega (arith, passed_next v.at.0 old (first_for v.at.0 old.waiting)))
  logical_once old v new made posts (logical.aborts p bare n m q) = rw n (omega (arith, passed_next v.at.0 old (first_for v.at.0 old.waiting)))
  logical_once old v new made posts (logical.aborts_entered p bare n m q) = rw n (omega arith)

  heard_once : (old : LogicalZone) (e : Remapping) (new : LogicalZone) (made : Trace) (posts : List Post) → LogicalHears sizes old e new made posts → new.next ≤ old.next + 1
  heard_once old e new made posts (logical.LogicalHears.settles v is n m q) =
      rw n (omega (arith, passed_next v.at.0 (logical.with_slot (record old { settling = logical.without_settling e.request old.settling }) v) (first_for v.at.0 old.waiting)))
  heard_once old e new made posts (logical.LogicalHears.keeps none n m q) = rw n (omega arith)

  announced_once : (old : DeviceZone) (front : Item) (w : Writer) (new : DeviceZone) (made : Trace) (posts : List Post) → Announces sizes old front w new made posts → new.calls ≤ old.calls + 1
  announced_once old front w new made posts (Announces.succeeds call is going n m q) = rw n (omega arith)
  announced_once old front w new made posts (Announces.fails call kept is going n m q) = rw n (omega arith)

  device_once : (old : DeviceZone) (v : Vio) (new : DeviceZone) (made : Trace) (posts : List Post) → DeviceServes sizes old v new made posts → new.calls ≤ old.calls + 1
  device_once old v new made posts (device.announces there act) = announced_once old (item.Request v) v.request new made posts act
  device_once old v new made posts (device.stores x p to going durable inside n m q) = rw n (omega arith)
  device_once old v new made posts (device.store_fails x kept p to going durable inside n m q) = rw n (omega arith)
  device_once old v new made posts (device.store_unmade p stopped n m q) = rw n (omega arith)
  device_once old v new made posts (device.loads x bytes p from ready inside n m q) = rw n (omega arith)
  device_once old v new made posts (device.load_fails x bytes kept p from ready inside n m q) = rw n (omega arith)
  device_once old v new made posts (device.loads_leaf x bytes mappings p stands ready inside page n m q) = rw n (omega arith)
  device_once old v new made posts (device.leaf_fails x bytes kept p stands ready inside n m q) = rw n (omega arith)
  device_once old v new made posts (device.harms x bytes fault p stands ready inside damaged n m q) = rw n (omega arith)
  device_once old v new made posts (device.flushes p going durable n m q) = rw n (omega arith)
  device_once old v new made posts (device.flush_fails kept p going durable n m q) = rw n (omega arith)
  device_once old v new made posts (device.flush_unmade p stopped n m q) = rw n (omega arith)

  work_once : (old : DeviceZone) (b : SealedBlock) (new : DeviceZone) (made : Trace) (posts : List Post) → DeviceWorks sizes old b new made posts → new.calls ≤ old.calls + 1
  work_once old b new made posts (device.announces v vs first there act) = announced_once old (item.Block b) v.request new made posts act
  work_once old b new made posts (device.makes call slot v vs first place needs going durable n m q) = rw n (omega arith)
  work_once old b new made posts (device.fails call slot kept v vs vios place needs going durable n m q) = rw n (omega arith)
  work_once old b new made posts (device.unmade call slot v vs first needs stopped n m q) = rw n (omega arith)

  physical_once : (old : PhysicalZone) (v : Vio) (new : PhysicalZone) (made : Trace) (posts : List Post) → PhysicalServes sizes old v new made posts → next_step new.counts.desk.step ≤ next_step old.counts.desk.step + 1
  physical_once old v new made posts (PhysicalServes.claims x z p gives n m q) = rw n (claimed_keeps old.counts z x gives).once
  physical_once old v new made posts (PhysicalServes.asks k b z p fewer begins gives n m q) = rw n (ticket_keeps old.counts b begins z v.request k gives).once
  physical_once old v new made posts (PhysicalServes.takes_block k others x b z p has none begins from n m q) = rw n (back_keeps old.counts b begins z k _ from).once
  physical_once old v new made posts (PhysicalServes.drops_block k others x y b between z p has some begins from claim change n m q) = rw n (changed_after old.counts between z x _ (back_keeps old.counts b begins between k _ from) change).once
  physical_once old v new made posts (PhysicalServes.has_none k others r b z p has begins from n m q) = rw n (back_keeps old.counts b begins z k _ from).once
  physical_once old v new made posts (PhysicalServes.counts x slab z p some claim takes change n m q) = rw n (counted_keeps v.page old.counts z x slab change).once
  physical_once old v new made posts (PhysicalServes.drops x z p some claim change n m q) = rw n (changed_keeps old.counts z x _ change).once
  physical_once old v new made posts (PhysicalServes.drops_none p none n m q) = rw n (omega arith)
  physical_once old v new made posts (PhysicalServes.spends p n m q) = rw n (omega arith)

  update_once : (old : PhysicalZone) (e : Remapping) (new : PhysicalZone) (made : Trace) (posts : List Post) → PhysicalTakes sizes old e new made posts → next_step new.counts.desk.step ≤ next_step old.counts.desk.step + 1
  update_once old e new made posts (PhysicalTakes.removes x slab z from own takes change n m q) = rw n (changed_keeps old.counts z x slab change).once
  update_once old e new made posts (PhysicalTakes.is_stray x from own stray n m q) = rw n (omega arith)

  pub made_once : {old new : ZoneData} {front : List Item} {made : Trace} {posts : List Post} → Act sizes old front new made posts → made_by new ≤ made_by old + 1
  made_once (steps.serves act) = logical_once _ _ _ _ _ act
  made_once (steps.settles act) = heard_once _ _ _ _ _ act
  made_once (steps.takes act) = physical_once _ _ _ _ _ act
  made_once (steps.updates act) = update_once _ _ _ _ _ act
  made_once (steps.calls act) = device_once _ _ _ _ _ act
  made_once (steps.works act) = work_once _ _ _ _ _ act
  made_once (steps.halts act) = let same = ap (λ (d : DeviceZone). d.calls) act.new_is in omega (arith, same)
  made_once other = omega arith
