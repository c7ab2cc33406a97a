-- No call of a session writes a block behind the image.
use Rattle.std.proofs.Common.{ℕ, ◌≡◌, ◌%◌, ◌<◌, ◌≤◌, ◌++◌, Bool, true, false, Ok, Some, List, [], ◌∷◌, length, sym, subst, arith}
use Rattle.std.specs.List.{AllByRecursion}
use Rattle.std.proofs.Math.Nat.{mod-lt}
use Rattle.blk_base.proofs.RegionLaws.{inside}
use Rattle.blk_base.specs.Regions.{JournalSlot, Superblock, needed_blocks}
use Rattle.blk_base.specs.declared.geometry.Geometry.{Geometry}
use Rattle.blk_base.specs.declared.geometry.Super.{Super}
use Rattle.disk_model.specs.declared.call.Call.TheVariants.{Read, Write, Flush}
use Rattle.disk_model.specs.Images.{IsImage}
use Rattle.disk_model.specs.Log.{Blocks, Misses, block_at, contents}
use Rattle.disk_model.specs.OneImages.{HasOneImageIn}
use Rattle.disk_model.proofs.ImageLaws.{block_of_mix, kept}
use Rattle.image_layout.specs.Opened.{super_of_image}
use Rattle.image_model.proofs.LookedLaws.{looked_high, one_by_sizes}
use Rattle.image_model.specs.Looked.{HasOneImageButIndex, is_looked_at}
use Rattle.recovery_laws.specs.Kept.{AreInside, WritesBelow}
use Rattle.core_laws.proofs.Common.{Call, Desk, DeviceZone, Fails, Item, JournalZone, LogicalZone, Pbn, PhysicalZone, Post, Remapping, SealedBlock, Sizes, Stage, SuperblockStage, Trace, Vio, Writer, ZoneData, calls, same_Some}
use Rattle.core_laws.proofs.trace.Cuts.{calls_append}
use Rattle.core_model.specs.DeskRules.{DeskBegins, DeskServes}
use Rattle.core_model.specs.DeviceRules as device
use Rattle.core_model.specs.DeviceRules.{Announces, DeviceServes, DeviceWorks, IsItsSlot, call_of, superblock_call}
use Rattle.core_model.specs.JournalRules as journal
use Rattle.core_model.specs.JournalRules.{JournalEnds, JournalServes}
use Rattle.core_model.specs.LogicalRules as logical
use Rattle.core_model.specs.LogicalRules.{LogicalHears, LogicalServes}
use Rattle.core_model.specs.PhysicalRules.{PhysicalServes, PhysicalTakes}
use Rattle.core_model.specs.Steps as steps
use Rattle.core_model.specs.Steps.{Act, Core, Leads}
use Rattle.core_model.specs.declared.zones.SuperblockStage.TheVariants.{AsOpened, Written, Durable}
use Rattle.data_vio.specs.declared.items.Item.TheVariants as item
use Rattle.data_vio.specs.declared.items.Stage.TheVariants as stage

-- Calls that write inside, one behind the other.
pub inside_both : (g : Geometry) (newer older : List Call) → AreInside g newer → AreInside g older → AreInside g (newer ++ older)
inside_both g [] older new old = old
inside_both g (call ∷ newer) older new old = (new.0, inside_both g newer older new.1 old)

-- So whatever a stop leaves, each block behind the image has the bytes that it had.
module _ (opening blocks : Blocks) (first calls : List Call) (head : Super) (accepted : super_of_image blocks ≡ Ok head) (one : HasOneImageButIndex opening first blocks) (are : AreInside head.geometry calls)
    (b : ℕ) (behind : needed_blocks head.geometry ≤ b) (below : b < length blocks) where
  missed : (call : Call) → WritesBelow (needed_blocks head.geometry) call → Misses call b
  missed (Read at bytes ok) is = tt
  missed (Write at bytes ok) is = λ same. omega (arith, is, same, behind)
  missed (Flush ok) is = tt

  still : (P : List ℕ → Type 0) (made : List Call) → AreInside head.geometry made → AllByRecursion P (contents opening first b) → AllByRecursion P (contents opening (made ++ first) b)
  still P [] are all = all
  still P (call ∷ older) are all = kept P opening (older ++ first) call b (missed call are.0) (still P older are.1 all)

  pub unchanged : (now : Blocks) → IsImage opening (calls ++ first) now → block_at now b ≡ block_at blocks b
  unchanged now is =
      let size = one.size in
      let inside_opening : b < length opening = omega (arith, size, below) in
      let by_sizes : HasOneImageIn (is_looked_at head.geometry) opening first blocks = one_by_sizes blocks head accepted opening first blocks one in
      let looked = looked_high head.geometry b (omega (arith, behind)) in
      block_of_mix (contents opening (calls ++ first) b) (block_at blocks b) (block_at now b) (one.whole b inside_opening) (is.whole b inside_opening) (is.sectors b inside_opening)
      (still (λ content. content ≡ block_at blocks b) calls are (by_sizes.only b inside_opening looked))

-- What each act calls.
module _ (sizes : Sizes) (some : 1 ≤ sizes.geometry.journal) where
  abbrev g : Geometry
  g = sizes.geometry

  abbrev IsBelow : Call → Type 0
  IsBelow = WritesBelow (needed_blocks g)

  abbrev Within : Trace → Type 0
  Within made = AreInside g (calls made)

  failing : (w : Writer) (call : Call) (keeps : Bool) → IsBelow call → Within (Fails w call keeps ∷ [])
  failing w call true below = (below, tt)
  failing w call false below = tt

  super_below : (ok : Bool) (now : SuperblockStage) (call : Call) → superblock_call sizes ok now ≡ Some call → IsBelow call
  super_below ok AsOpened call is = subst IsBelow (same_Some _ _ is) (inside g Superblock tt)
  super_below ok Written call is = subst IsBelow (same_Some _ _ is) tt
  super_below ok Durable call is = absurd cc

  slot_below : (b : SealedBlock) (slot : Pbn) → IsItsSlot sizes b slot → slot.0 < needed_blocks g
  slot_below b slot is = let low = inside g (JournalSlot (b.sequence % g.journal)) (mod-lt b.sequence (omega (arith, some))) in omega (arith, is, low)

  block_below : (b : SealedBlock) (slot : Pbn) (ok : Bool) (now : Stage) (call : Call) → IsItsSlot sizes b slot → call_of sizes b slot ok now ≡ Some call → IsBelow call
  block_below b slot ok stage.Cover call place is = subst IsBelow (same_Some _ _ is) tt
  block_below b slot ok stage.Write call place is = subst IsBelow (same_Some _ _ is) (slot_below b slot place)
  block_below b slot ok stage.Harden call place is = subst IsBelow (same_Some _ _ is) tt
  block_below b slot ok other call place is = absurd cc

  announced : (old : DeviceZone) (front : Item) (w : Writer) (new : DeviceZone) (made : Trace) (posts : List Post) → Announces sizes old front w new made posts → Within made
  announced old front w new made posts (Announces.succeeds call is goes n m q) = rw m (super_below true old.superblock call is, tt)
  announced old front w new made posts (Announces.fails call keeps is goes n m q) = rw m (failing w call keeps (super_below false old.superblock call is))

  serves_inside : (old : DeviceZone) (v : Vio) (new : DeviceZone) (made : Trace) (posts : List Post) → DeviceServes sizes old v new made posts → Within made
  serves_inside old v new made posts (device.announces there act) = announced old (item.Request v) v.request new made posts act
  serves_inside old v new made posts (device.stores x p to goes durable within n m q) = rw m (within, tt)
  serves_inside old v new made posts (device.store_fails x keeps p to goes durable within n m q) = rw m (failing v.request (Write x (device.stored sizes v x) false) keeps within)
  serves_inside old v new made posts (device.store_unmade p stopped n m q) = rw m tt
  serves_inside old v new made posts (device.loads x bytes p from ready within n m q) = rw m (tt, tt)
  serves_inside old v new made posts (device.load_fails x bytes keeps p from ready within n m q) = rw m (failing v.request (Read x bytes false) keeps tt)
  serves_inside old v new made posts (device.loads_leaf x bytes mappings p stands ready within page n m q) = rw m (tt, tt)
  serves_inside old v new made posts (device.leaf_fails x bytes keeps p stands ready within n m q) = rw m (failing v.request (Read x bytes false) keeps tt)
  serves_inside old v new made posts (device.harms x bytes fault p stands ready within damaged n m q) = rw m (tt, tt)
  serves_inside old v new made posts (device.flushes p goes durable n m q) = rw m (tt, tt)
  serves_inside old v new made posts (device.flush_fails keeps p goes durable n m q) = rw m (failing v.request (Flush false) keeps tt)
  serves_inside old v new made posts (device.flush_unmade p stopped n m q) = rw m tt

  works_inside : (old : DeviceZone) (b : SealedBlock) (new : DeviceZone) (made : Trace) (posts : List Post) → DeviceWorks sizes old b new made posts → Within made
  works_inside old b new made posts (device.announces v vs first there act) = announced old (item.Block b) v.request new made posts act
  works_inside old b new made posts (device.makes call slot v vs first place needs goes durable n m q) = rw m (block_below b slot true b.stage call place needs, tt)
  works_inside old b new made posts (device.fails call slot keeps v vs first place needs goes durable n m q) = rw m (failing v.request call keeps (block_below b slot false b.stage call place needs))
  works_inside old b new made posts (device.unmade call slot v vs first needs stopped n m q) = rw m tt

  -- the other zones call nothing

  begins_inside : (old new : Desk) (made : Trace) (posts : List Post) → DeskBegins sizes old new made posts → Within made
  begins_inside old new made posts (DeskBegins.answers w r v a next is asks at n m q) = rw m tt
  begins_inside old new made posts (DeskBegins.sends w r v next is asks at n m q) = rw m tt

  answers_inside : (old : Desk) (v : Vio) (new : Desk) (made : Trace) (posts : List Post) → DeskServes sizes old v new made posts → Within made
  answers_inside old v new made posts (DeskServes.parks a p is stopped notified n m q) = rw m tt
  answers_inside old v new made posts (DeskServes.answers a p is notified unmarked spaced n m q) = rw m tt
  answers_inside old v new made posts (DeskServes.marks p asks is n m q) = rw m tt
  answers_inside old v new made posts (DeskServes.lacks p is n m q) = rw m tt

  logical_inside : (old : LogicalZone) (v : Vio) (new : LogicalZone) (made : Trace) (posts : List Post) → LogicalServes sizes old v new made posts → Within made
  logical_inside old v new made posts (logical.arrives_retired p among n m q) = rw m tt
  logical_inside old v new made posts (logical.arrives_free p among held n m q) = rw m tt
  logical_inside old v new made posts (logical.arrives_held p among held n m q) = rw m tt
  logical_inside old v new made posts (logical.looks mapping post p path stays leaf known goes n m q) = rw m tt
  logical_inside old v new made posts (logical.needs_leaf x p path stays leaf unknown stands n m q) = rw m tt
  logical_inside old v new made posts (logical.leafed post p goes n m q) = rw m tt
  logical_inside old v new made posts (logical.passes p path past n m q) = rw m tt
  logical_inside old v new made posts (logical.is_dropped page p path lack dropped n m q) = rw m tt
  logical_inside old v new made posts (logical.waits page p path lack linkable made_yet n m q) = rw m tt
  logical_inside old v new made posts (logical.makes_page page p path lack linkable unmade n m q) = rw m tt
  logical_inside old v new made posts (logical.links page x between p some to may linked n m q) = rw m tt
  logical_inside old v new made posts (logical.unmakes page p some n m q) = rw m tt
  logical_inside old v new made posts (logical.drops page p some n m q) = rw m tt
  logical_inside old v new made posts (logical.settles p bare none n m q) = rw m tt
  logical_inside old v new made posts (logical.awaits p bare some n m q) = rw m tt
  logical_inside old v new made posts (logical.gives p n m q) = rw m tt
  logical_inside old v new made posts (logical.aborts p bare n m q) = rw m tt
  logical_inside old v new made posts (logical.aborts_entered p bare n m q) = rw m tt

  heard_inside : (old : LogicalZone) (e : Remapping) (new : LogicalZone) (made : Trace) (posts : List Post) → LogicalHears sizes old e new made posts → Within made
  heard_inside old e new made posts (logical.LogicalHears.settles v is n m q) = rw m tt
  heard_inside old e new made posts (logical.LogicalHears.keeps none n m q) = rw m tt

  physical_inside : (old : PhysicalZone) (v : Vio) (new : PhysicalZone) (made : Trace) (posts : List Post) → PhysicalServes sizes old v new made posts → Within made
  physical_inside old v new made posts (PhysicalServes.claims x z p gives n m q) = rw m tt
  physical_inside old v new made posts (PhysicalServes.asks k b z p fewer begins gives n m q) = rw m tt
  physical_inside old v new made posts (PhysicalServes.takes_block k others x b z p has none begins from n m q) = rw m tt
  physical_inside old v new made posts (PhysicalServes.drops_block k others x y b between z p has some begins from claim change n m q) = rw m tt
  physical_inside old v new made posts (PhysicalServes.has_none k others r b z p has begins from n m q) = rw m tt
  physical_inside old v new made posts (PhysicalServes.counts x slab z p some claim takes change n m q) = rw m tt
  physical_inside old v new made posts (PhysicalServes.drops x z p some claim change n m q) = rw m tt
  physical_inside old v new made posts (PhysicalServes.drops_none p none n m q) = rw m tt
  physical_inside old v new made posts (PhysicalServes.spends p n m q) = rw m tt

  update_inside : (old : PhysicalZone) (e : Remapping) (new : PhysicalZone) (made : Trace) (posts : List Post) → PhysicalTakes sizes old e new made posts → Within made
  update_inside old e new made posts (PhysicalTakes.removes x slab z from own takes change n m q) = rw m tt
  update_inside old e new made posts (PhysicalTakes.is_stray x from own stray n m q) = rw m tt

  enters_inside : (old : JournalZone) (v : Vio) (new : JournalZone) (made : Trace) (posts : List Post) → JournalServes sizes old v new made posts → Within made
  enters_inside old v new made posts (journal.is_stopped p closed n m q) = rw m tt
  enters_inside old v new made posts (journal.is_full p closed none n m q) = rw m tt
  enters_inside old v new made posts (journal.waits p closed has full n m q) = rw m tt
  enters_inside old v new made posts (journal.enters p closed has room busy n m q) = rw m tt
  enters_inside old v new made posts (journal.enters_first p closed has room idle n m q) = rw m tt

  ends_inside : (old : JournalZone) (b : SealedBlock) (new : JournalZone) (made : Trace) (posts : List Post) → JournalEnds sizes old b new made posts → Within made
  ends_inside old b new made posts (journal.commits v vs at are next n m q) = rw m tt
  ends_inside old b new made posts (journal.seals v vs at are fills sealable n m q) = rw m tt
  ends_inside old b new made posts (journal.rests at are fills n m q) = rw m tt
  ends_inside old b new made posts (journal.fails at n m q) = rw m tt

  act_inside : {old new : ZoneData} {front : List Item} {made : Trace} {posts : List Post} → Act sizes old front new made posts → Within made
  act_inside (steps.begins act) = begins_inside _ _ _ _ act
  act_inside (steps.answers act) = answers_inside _ _ _ _ _ act
  act_inside (steps.serves act) = logical_inside _ _ _ _ _ act
  act_inside (steps.settles act) = heard_inside _ _ _ _ _ act
  act_inside (steps.takes act) = physical_inside _ _ _ _ _ act
  act_inside (steps.updates act) = update_inside _ _ _ _ _ act
  act_inside (steps.enters act) = enters_inside _ _ _ _ _ act
  act_inside (steps.ends act) = ends_inside _ _ _ _ _ act
  act_inside (steps.calls act) = serves_inside _ _ _ _ _ act
  act_inside (steps.works act) = works_inside _ _ _ _ _ act
  act_inside (steps.halts act) = subst Within (sym act.made_is) tt
  act_inside other = tt

  -- so of a core, by the events that lead to it
  grown : (made t : Trace) → Within made → Within t → Within (made ++ t)
  grown made t new old = subst (AreInside g) (sym (calls_append made t)) (inside_both g (calls made) (calls t) new old)

  pub events_inside : (first core : Core) → Leads sizes first core → Within first.trace → Within core.trace
  events_inside first core steps.rests old = old
  events_inside first core (steps.steps step leads) old =
      subst (λ (c : Core). Within c.trace) (sym step.has) (grown step.made _ (act_inside step.step.act) (events_inside first _ leads old))
  events_inside first core (steps.moves move leads) old = subst (λ (c : Core). Within c.trace) (sym move.has) (events_inside first _ leads old)
