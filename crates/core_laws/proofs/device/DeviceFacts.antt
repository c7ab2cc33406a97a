-- What the acts of the device zone owe: it stores, loads and flushes for requests, and flushes and writes for sealed blocks.
use Rattle.std.proofs.Common.{◌≡◌, ℕ, zero, suc, ◌+◌, ◌<◌, ◌≤◌, Bool, true, false, Some, IsNone, IsSome, slice_index_or, List, [], ◌∷◌, ◌++◌, map, refl, ap, sym, ◌∙◌, subst, inl, inr, arith, ◌⊎◌, Option, None, ◌≢◌}
use Rattle.core_laws.proofs.Common.{all_logged, all_of, AllByRecursion, asked, Asks, AtRest, Call, calls, Calls, DataOk, DeviceZone, each_at, ended, Entry, entry_of, eqb_tells, every-map, Fails, IsToBlock, Phase, FailureMayFollow, fair_before, Happening, has_read_fault, has_stopped, HasAddress, HasCause, is_ok, is_read, IsAsOpened, IsChange, IsEarned, IsFair, IsMadeFor, IsOpen, IsSealed, IsSession, KeptOk, Lba, log, logged, logical_zones, Mapping, MapsTo, moments, NewReads, NewStands, notified, OnBlock, OnItsWay, Pbn, place_of, places, Post, ReadsAs, ReadsBlock, request_of, RightTrace, same_self, same_Some, SealedBlock, Session, Shown, Sizes, some_is, Stage, StandsAt, Trace, value_at, value_from, Vio, VioOk, Writer, zone_count, zone_number, applied, Logged, new_of, remappings, MayReply, turned, Item, ItemOk, SuperblockStage, superblock_stage, mapped_or, opened_at, Harms, is_harmed, IsForBlock, IsPlaced, entered, logged_of}
use Rattle.core_laws.proofs.trace.PassesOfTrace.{value_past}
use Rattle.vdo_model.specs.FlushMarks.{IsMark, successes}
use Rattle.blk_base.specs.Pages.{leaf_of, slot_of_address}
use Rattle.blk_base.specs.declared.place.PageId.{PageId}
use Rattle.image_model.specs.Pages.{IsBelowRoot}
use Rattle.core_model.specs.Facts.{CarriesFor, CarriesOwn}
use Rattle.core_model.specs.RequestFacts.{HasClaim}
use Rattle.core_model.specs.PageLinks.{MayLack, leaf_head}
use Rattle.core_model.specs.RightTraces.{HarmMayFollow, IsLeafFor, IsLinkedAt}
use Rattle.core_model.specs.Trace.{first_of}
use Rattle.core_laws.proofs.device.LeafReads.{leaf_says_it}
use Rattle.page_codec.proofs.ReadLaws.{slots}
use Rattle.page_codec.specs.Grammar.{HoldsMapping, IsPage}
use Rattle.page_codec.specs.declared.fault.PageFault.{PageFault}
use Rattle.std.proofs.Math.Nat.{mod-lt}
use Rattle.vdo_model.specs.declared.report.Damage.TheVariants.{Page}
use Rattle.data_vio.specs.Vios.{has_leaf, logged_for}
use Rattle.data_vio.specs.declared.items.Asks.TheVariants.{Read, Write, Discard, Flush}
use Rattle.core_model.specs.DeskRules.{is_marked, mark_of_vio}
use Rattle.core_model.specs.DeviceRules.{DeviceHears, DeviceServes, counted, harmed, notices_after, page_at, stop_notices, stored, stored_for, DeviceWorks, journal_bytes, IsItsSlot, call_of, next_stage, next_zone, Announces, next_superblock, superblock_call}
use Rattle.core_laws.proofs.kept.ActKept.{Known, Mine, weighed, PostOk, ActKept, act_none, act_one, claim_data, claim_in, claim_unused, own_block, vio_ok, in_bare, in_phase, carries_at, carries_own, unentered_slot, shown_with, plain_clears, shown_plain}
use Rattle.core_model.specs.Trace.{Hears}
use Rattle.vdo_model.specs.declared.report.Damage.{Damage}
use Rattle.core_laws.proofs.kept.Keys.{OfBlock, Clears, OfJournal}
use Rattle.core_model.specs.RightTraces.{IsUnused}
use Rattle.data_vio.specs.Phases.{phase_rule}
use Rattle.core_laws.proofs.device.DeviceCalls.{CanStand, can_data, call_clears, data_misses, quiet_call, quiet_journal, read_value, slot_misses, slot_reads, slot_shown, slot_way, spelled_sealed, store_call, store_reads, call_filled, data_not_first, first_journal, first_spares}
use Rattle.core_laws.proofs.journal.SealedBlocks.{blocks_length, entries_in_order, every_logged, logged_length}
use Rattle.disk_model.specs.Log.{Misses}
use Rattle.core_laws.proofs.kept.Carried.{by_all, looks_kept, pending_over, sealed_kept, turn_kept, vio_kept, item_kept}
use Rattle.core_laws.proofs.journal.JournalFacts.{home_within, may_stop, writes_change}
use Rattle.core_model.specs.Superblocks.{IsInOrder, stage_after}
use Rattle.core_model.specs.Sessions.{SuperblockStands}
use Rattle.core_model.specs.declared.zones.SuperblockStage.TheVariants.{AsOpened, Written, Durable}
use Rattle.core_laws.proofs.kept.StandsOn.{IsCallOf, block_spared, call_sealed, failed, harmed as is_harm, journal_spared, map_kept, map_more, mapped_all, new_kept, on_each, pages_kept, pages_more, rests_kept, rests_unlogged, spares_all, succeeded, unused_spared, way_kept}
use Rattle.blk_base.specs.Regions.{journal_slot_of, IsDataBlock}
use Rattle.journal_codec.specs.BlockBytes.{block_bytes}
use Rattle.vdo_model.specs.Journals.{block_of_slot}
use Rattle.blk_base.specs.declared.geometry.Geometry.{Geometry}
use Rattle.blk_base.specs.declared.place.Mapping.TheVariants.{At, Unmapped, Zero}
use Rattle.blk_base.specs.declared.request.Answer.{Answer as Reply}
use Rattle.blk_base.specs.declared.place.ZoneId.TheVariants as id
use Rattle.blk_base.specs.declared.request.Answer.TheVariants as reply
use Rattle.disk_model.specs.declared.call.Call.TheVariants as call
use Rattle.data_vio.specs.declared.items.Item.TheVariants as item
use Rattle.data_vio.specs.declared.items.Phase.TheVariants as phase
use Rattle.core_model.specs.declared.zones.ZoneData.TheVariants as at
use Rattle.core_model.specs.DeviceRules as device
use Rattle.data_vio.specs.declared.items.Stage.TheVariants as stage
use Rattle.journal_stops.specs.Rings.{IsWhole, ring_slot_of as slot_place}
use Rattle.journal_stops.specs.Sealed.{next_of}
use Rattle.journal_stops.proofs.StepLaws.{spelled_whole, ends}
use Rattle.core_model.specs.Sessions.{blocks_of, sealed_with}
use Rattle.core_laws.proofs.trace.DeskOfTrace.{HasBlock, shown_of}
use Rattle.journal_stops.specs.Sealed.{IsSealed as IsSealedBlock}
use Rattle.core_laws.proofs.lists.CountedIn.{counts_within}
use Rattle.data_vio.specs.Vios.{counts_of}
use Rattle.blk_base.specs.declared.place.ZoneId.{ZoneId}
use Rattle.core_laws.proofs.Common.{every-append, physical_zones}

-- the stop notices
module _ (s : Session) (t : Trace) (stopped : has_stopped t ≡ true) where
  abbrev IsNoticeOk : ZoneId → Type 0
  IsNoticeOk to = PostOk s t (to, item.StopNotice)

  logical_ok : (n : ℕ) → n ≤ s.sizes.zones → AllByRecursion IsNoticeOk (logical_zones n)
  logical_ok zero within = tt
  logical_ok (suc n) within = ((omega (arith, within), (stopped, omega (arith, within))), logical_ok n (omega (arith, within)))

  physical_ok : (n : ℕ) → n ≤ s.sizes.physical → AllByRecursion IsNoticeOk (physical_zones n)
  physical_ok zero within = tt
  physical_ok (suc n) within = ((omega (arith, within), (stopped, omega (arith, within))), physical_ok n (omega (arith, within)))

  each_notice : (ids : List ZoneId) → AllByRecursion IsNoticeOk ids → AllByRecursion (PostOk s t) (stop_notices ids)
  each_notice [] all = tt
  each_notice (to ∷ ids) all = (all.0, each_notice ids all.1)

  pub notices_ok : AllByRecursion (PostOk s t) (stop_notices (notified s.sizes))
  notices_ok =
      let zones = every-append IsNoticeOk (physical_zones s.sizes.physical) (logical_zones s.sizes.zones) (physical_ok s.sizes.physical (omega arith)) (logical_ok s.sizes.zones (omega arith)) in
      each_notice (notified s.sizes) ((omega arith, (stopped, omega arith)), zones)

-- a read is the same with other bytes
asks_same : (q : Asks) (at : Lba) (b c : List ℕ) → q ≡ Read → asked q at b ≡ asked q at c
asks_same q at b c is = rw is refl

-- what a read that failed, and a flush, may be answered
cause_fault : (s : Session) (t : Trace) (w : Writer) (q : Asks) (at : Lba) (bytes : List ℕ) → q ≡ Read → IsSome (place_of (places t) w) → has_read_fault t w ≡ true → HasCause s t w (asked q at bytes) reply.ReadFault
cause_fault s t w q at bytes is some faulty = rw is (some, faulty)

cause_unflushed : (s : Session) (t : Trace) (w : Writer) (q : Asks) (at : Lba) (bytes : List ℕ) → q ≡ Flush → has_stopped t ≡ true → HasCause s t w (asked q at bytes) reply.Stopped
cause_unflushed s t w q at bytes is stopped = rw is stopped

unflushed_post : (s : Session) (t : Trace) (v : Vio) → has_stopped t ≡ true → VioOk s t v → v.asks ≡ Flush → v.page ≡ None → HasClaim s false false v.claim v.new v.tickets → PostOk s t (id.Desk, item.Request (ended phase.Reply reply.Stopped v))
unflushed_post s t v stopped ok is bare claim = (omega arith, (ok, carries_own s t (ended phase.Reply reply.Stopped v) phase.Reply bare (cause_unflushed s t v.request v.asks v.at v.bytes is stopped), refl, claim))

abbrev answered_flush : DeviceZone → Vio → Vio
answered_flush d v = record v { phase = phase.Reply; answer = Some reply.Ok; calls = d.calls + 1 }

-- a call that succeeds counts, and one that fails doesn't
success : (c : Call) (older : List Call) → is_ok c ≡ true → successes (c ∷ older) ≡ successes older + 1
success (call.Read x bytes over) older is = rw is refl
success (call.Write x bytes over) older is = rw is refl
success (call.Flush over) older is = rw is refl

no_success : (c : Call) (older : List Call) → is_ok c ≡ false → successes (c ∷ older) ≡ successes older
no_success (call.Read x bytes over) older fails = rw fails refl
no_success (call.Write x bytes over) older fails = rw fails refl
no_success (call.Flush over) older fails = rw fails refl

-- the zone after a call that succeeded, and after one that failed
module _ {s : Session} {t : Trace} {n : ℕ} {old : DeviceZone} (own : DataOk s t n (at.Device old)) where
  pub after_call_to : (c : Call) (next : SuperblockStage) → is_ok c ≡ true → next ≡ superblock_stage (Calls c ∷ t) → DataOk s (Calls c ∷ t) n (at.Device (record (counted old) { superblock = next }))
  after_call_to c next is to = record {
    number_is = own.number_is;
    lists = record { calls_is = ap (λ m. m + 1) own.lists.calls_is ∙ sym (success c (calls t) is); stopped_is = own.lists.stopped_is; superblock_is = to; damage_is = own.lists.damage_is };
    sound = tt;
    kept = tt;
    answers = tt;
    told = tt;
  }

  -- where it is no call for the superblock
  pub after_call : (c : Call) → is_ok c ≡ true → stage_after c (superblock_stage t) ≡ superblock_stage t → DataOk s (Calls c ∷ t) n (at.Device (counted old))
  after_call c is stays = after_call_to c old.superblock is (own.lists.superblock_is ∙ sym stays)

  pub after_failure : (w : Writer) (c : Call) (kept : Bool) (stopped : Bool) → is_ok c ≡ false → stopped ≡ has_stopped (Fails w c kept ∷ t) → DataOk s (Fails w c kept ∷ t) n (at.Device (record old { stopped = stopped }))
  after_failure w c kept stopped fails is = record { number_is = own.number_is; lists = record { calls_is = not_counted kept; stopped_is = is; superblock_is = own.lists.superblock_is; damage_is = own.lists.damage_is }; sound = tt; kept = tt; answers = tt; told = tt }
    where
      not_counted : (kept : Bool) → old.calls ≡ successes (calls (Fails w c kept ∷ t))
      not_counted true = own.lists.calls_is ∙ sym (no_success c (calls t) fails)
      not_counted false = own.lists.calls_is

  -- and after it read a leaf that doesn't decode
  pub after_harm : (w : Writer) (x : Pbn) (bytes : List ℕ) (fault : PageFault) → DataOk s (Harms w x bytes fault ∷ t) n (at.Device (harmed (Page x fault) (counted old)))
  after_harm w x bytes fault = record {
    number_is = own.number_is;
    lists = record {
      calls_is = ap (λ m. m + 1) own.lists.calls_is ∙ sym (success (call.Read x bytes true) (calls t) refl);
      stopped_is = refl;
      superblock_is = own.lists.superblock_is;
      damage_is = ap (λ d. first_of d (Page x fault)) own.lists.damage_is;
    };
    sound = tt;
    kept = tt;
    answers = tt;
    told = tt;
  }

-- a mapping that a page can hold is to a data block, or to none
held_data : (g : Geometry) (level : ℕ) (m : Mapping) → HoldsMapping g level m → OnBlock (λ x. IsDataBlock g x.0) m
held_data g level Unmapped held = tt
held_data g level Zero held = tt
held_data g level (At x) held = held.0

-- a request whose leaf can't be read, or doesn't decode, may be answered so
leaf_cause : (s : Session) (t : Trace) (w : Writer) (q : Asks) (at : Lba) (bytes : List ℕ) (a : Reply) → ((a ≡ reply.ReadFault) × (has_read_fault t w ≡ true)) ⊎ ((a ≡ reply.Damaged) × (is_harmed t w ≡ true)) → IsForBlock q
    → IsSome (place_of (places t) w) → IsNone (logged_of (entered t) w) → HasCause s t w (asked q at bytes) a
leaf_cause s t w Read at bytes a (inl (is, fault)) block placed none = rw is (placed, fault)
leaf_cause s t w Write at bytes a (inl (is, fault)) block placed none = rw is (placed, none, fault)
leaf_cause s t w Discard at bytes a (inl (is, fault)) block placed none = rw is (placed, none, fault)
leaf_cause s t w Flush at bytes a (inl fault) block placed none = absurd block
leaf_cause s t w Read at bytes a (inr (is, harm)) block placed none = rw is (placed, harm)
leaf_cause s t w Write at bytes a (inr (is, harm)) block placed none = rw is (placed, none, harm)
leaf_cause s t w Discard at bytes a (inr (is, harm)) block placed none = rw is (placed, none, harm)
leaf_cause s t w Flush at bytes a (inr harm) block placed none = absurd block

-- it isn't one of a flush that returned
unmarked : (q : Asks) (a : Reply) → (a ≡ reply.ReadFault) ⊎ (a ≡ reply.Damaged) → is_marked q a ≡ false
unmarked q a (inl is) = rw is refl
unmarked q a (inr is) = rw is refl

leaf_fault : (s : Session) (t : Trace) (v : Vio) (a : Reply) → ((a ≡ reply.ReadFault) × (has_read_fault t v.request ≡ true)) ⊎ ((a ≡ reply.Damaged) × (is_harmed t v.request ≡ true)) → IsPlaced s t v → MayReply s t v (Some a)
leaf_fault s t v a why placed = by a why earned
  where
    earned : IsEarned s t (mark_of_vio v) (request_of v) a (is_marked v.asks a)
    earned =
        subst (IsEarned s t (mark_of_vio v) (request_of v) a) (sym (unmarked v.asks a (elim why [ inl fault ↦ inl fault.0 | inr harm ↦ inr harm.0 ])))
        (leaf_cause s t v.request v.asks v.at v.bytes a why placed.for_block (some_is _ _ placed.placed) placed.not_entered)

    by : (b : Reply) → ((b ≡ reply.ReadFault) × (has_read_fault t v.request ≡ true)) ⊎ ((b ≡ reply.Damaged) × (is_harmed t v.request ≡ true)) → IsEarned s t (mark_of_vio v) (request_of v) b (is_marked v.asks b) → MayReply s t v (Some b)
    by reply.NoSpace (inl is) k = absurd (let no = is.0 in cc)
    by reply.NoSpace (inr is) k = absurd (let no = is.0 in cc)
    by other is k = k

-- the notices after it
notices_after_ok : (s : Session) (t : Trace) (stopped : Bool) → has_stopped t ≡ true → AllByRecursion (PostOk s t) (notices_after stopped s.sizes)
notices_after_ok s t true stops = tt
notices_after_ok s t false stops = notices_ok s t stops

-- what the superblock's call is, and how far it brings it
announcing : (sizes : Sizes) (now : SuperblockStage) (c : Call) (success : Bool) → superblock_call sizes success now ≡ Some c → (is_ok c ≡ success) × (is_read c ≡ false) × IsInOrder sizes now c × ((x : ℕ) → x ≢ 0 → Misses c x)
announcing sizes AsOpened c success is = rw (sym (same_Some _ _ is)) (refl, refl, inl (refl, record { first = refl; says = refl }), λ x other same. other (sym same))
announcing sizes Written c success is = rw (sym (same_Some _ _ is)) (refl, refl, tt, λ x other. tt)
announcing sizes Durable c success is = absurd cc

announced_stage : (sizes : Sizes) (now : SuperblockStage) (c : Call) → superblock_call sizes true now ≡ Some c → next_superblock now ≡ stage_after c now
announced_stage sizes AsOpened c is = rw (sym (same_Some _ _ is)) refl
announced_stage sizes Written c is = rw (sym (same_Some _ _ is)) refl
announced_stage sizes Durable c is = absurd cc

-- it is made for no read
for_none : (s : Session) (t : Trace) (w : Writer) (c : Call) → is_read c ≡ false → IsMadeFor s t w c
for_none s t w (call.Read x bytes success) is = absurd cc
for_none s t w other is = tt

-- what stands of the superblock then
announced_stands : (s : Session) (t : Trace) (now : SuperblockStage) (c : Call) → superblock_call s.sizes true now ≡ Some c → SuperblockStands s t now → SuperblockStands s (Calls c ∷ t) (stage_after c now)
announced_stands s t AsOpened c is k = rw (sym (same_Some _ _ is)) ((inr refl, k), (refl, tt))
announced_stands s t Written c is k = rw (sym (same_Some _ _ is)) k.1
announced_stands s t Durable c is k = absurd cc

unannounced_stands : (s : Session) (t : Trace) (w : Writer) (kept : Bool) (now : SuperblockStage) (c : Call) → superblock_call s.sizes false now ≡ Some c → SuperblockStands s t now → SuperblockStands s (Fails w c kept ∷ t) now
unannounced_stands s t w false now c is k = k
unannounced_stands s t w true AsOpened c is k = rw (sym (same_Some _ _ is)) (inr refl, k)
unannounced_stands s t w true Written c is k = rw (sym (same_Some _ _ is)) k
unannounced_stands s t w true Durable c is k = absurd cc

-- The device zone makes the superblock's next call, for which the item in front waits.
module _ {s : Session} {t : Trace} {n : ℕ} {old : DeviceZone} {front : Item} (known : Known s t n (at.Device old) (front ∷ [])) (w : Writer) (is_open : IsOpen t w) where
  now_is : old.superblock ≡ superblock_stage t
  now_is = known.own.lists.superblock_is

  needs : (c : Call) (success : Bool) → superblock_call s.sizes success old.superblock ≡ Some c → superblock_call s.sizes success (superblock_stage t) ≡ Some c
  needs c success is = subst (λ (now : SuperblockStage). superblock_call s.sizes success now ≡ Some c) now_is is

  -- it goes on as it was, behind the others
  waits_on : {h : Happening} (c : Call) → IsCallOf h c → ((x : ℕ) → x ≢ 0 → Misses c x) → PostOk s (h ∷ t) (id.Device, front)
  waits_on {h} c is misses = (
    omega arith,
    item_kept s h t (zone_number s.sizes id.Device) front (λ k some. first_spares s t is known.session known.right misses k)
        (subst (λ (m : ℕ). ItemOk s t m front) known.own.number_is known.front_ok.0),
  )

  shown_then : {h : Happening} (c : Call) → IsCallOf h c → ((x : ℕ) → x ≢ 0 → Misses c x) → (SuperblockStands s t (superblock_stage t) → SuperblockStands s (h ∷ t) (superblock_stage (h ∷ t))) → IsFair s (h ∷ t) → Shown s (h ∷ t)
  shown_then {h} c is misses stands =
      let spared = first_journal s t is known.session known.right misses in
      shown_with s h t spared.0 (call_filled t is) spared.1 spared.2 stands (shown_of s t known.right)

  clears_all : {h : Happening} (c : Call) → IsCallOf h c → ((x : ℕ) → x ≢ 0 → Misses c x) → Clears s n (Mine s t (at.Device old) (front ∷ [])) h t
  clears_all c is misses =
      let spares = first_spares s t is known.session known.right misses in
      call_clears is known.own.number_is (λ x. inr (spares (OfBlock x))) (inr (spares OfJournal))

  pub device_announces : (new : DeviceZone) (made : Trace) (posts : List Post) → Announces s.sizes old front w new made posts → ActKept s t n (at.Device old) (front ∷ []) (at.Device new) made posts
  device_announces new made posts (device.succeeds c is runs e m p) =
      let says = announcing s.sizes (superblock_stage t) c true (needs c true is) in
      let h = Calls c in
      rw (e, m, p) (act_one known h (clears_all c succeeded says.3) (λ g fair. g (fair_before s h t fair)) (
        record { succeeds = says.0; goes_on = λ writes. sym known.own.lists.stopped_is ∙ runs; in_order = says.2 },
        shown_then c succeeded says.3 (announced_stands s t (superblock_stage t) c (needs c true is)),
        known.right,
      )
      (after_call_to known.own c (next_superblock old.superblock) says.0 (ap next_superblock now_is ∙ announced_stage s.sizes (superblock_stage t) c (needs c true is)))
      (waits_on c succeeded says.3, tt))
  device_announces new made posts (device.fails c kept is runs e m p) =
      let says = announcing s.sizes (superblock_stage t) c false (needs c false is) in
      let h = Fails w c kept in
      let stops : has_stopped (h ∷ t) ≡ true = rw says.1 refl in
      rw (e, m, p) (act_one known h (clears_all c failed says.3) (λ g fair. g (fair_before s h t fair)) (
        record { is_open = is_open; fails = says.0; goes_on = λ writes. sym known.own.lists.stopped_is ∙ runs; made_for = for_none s t w c says.1; in_order = says.2 },
        shown_then c failed says.3 (unannounced_stands s t w kept (superblock_stage t) c (needs c false is)),
        known.right,
      )
      (after_failure known.own w c kept true says.0 (sym stops))
      (waits_on c failed says.3, notices_ok s (h ∷ t) stops))

-- The device zone makes the call of a request.
module _ {s : Session} {t : Trace} {n : ℕ} {old : DeviceZone} {v : Vio} (known : Known s t n (at.Device old) (item.Request v ∷ [])) where
  goes : old.stopped ≡ false → has_stopped t ≡ false
  goes runs = sym known.own.lists.stopped_is ∙ runs

  home : zone_number s.sizes v.home < zone_count s.sizes
  home = home_within s t v known.session (vio_ok known)

  -- a read and a flush make no page
  looks_at : v.phase ≡ phase.Load → (v.page ≡ None) × CarriesOwn s t v phase.Load
  looks_at is = in_bare known phase.Load is (λ page none. none)

  flushes_at : v.phase ≡ phase.Flush → (v.page ≡ None) × (v.asks ≡ Flush)
  flushes_at is = in_bare known phase.Flush is (λ page none. none)

  -- a call that writes nothing is about nothing
  quiet : {h : Happening} (c : Call) → IsCallOf h c → ((x : ℕ) → Misses c x) → Clears s n (Mine s t (at.Device old) (item.Request v ∷ [])) h t
  quiet c is misses = call_clears is known.own.number_is (λ x. inr (λ inside. block_spared is x.0 (misses x.0))) (inr (quiet_journal s t c is misses))

  -- the data of a write
  store_unused : (x : Pbn) → v.phase ≡ phase.Store → v.new ≡ At x → IsFair s t → IsUnused s t x
  store_unused x store to = claim_unused known phase.Store x store refl to refl

  store_clears : {h : Happening} (x : Pbn) (bytes : List ℕ) (success : Bool) → IsCallOf h (call.Write x bytes success) → v.phase ≡ phase.Store → v.new ≡ At x
      → Clears s n (Mine s t (at.Device old) (item.Request v ∷ [])) h t
  store_clears x bytes success is store to =
      let is_data = claim_data known phase.Store x store refl to in
      call_clears is known.own.number_is
      (λ y. elim (eqb_tells x.0 y.0) [
        | inl same ↦ let one : x ≡ y = ap (λ (k : ℕ). record { 0 = k }) same.1 in inl (subst (λ (z : Pbn). Mine s t (at.Device old) (item.Request v ∷ []) (OfBlock z)) one (own_block known phase.Store x store refl to))
        | inr other ↦ inr (λ inside. block_spared is y.0 other.1)
      ])
      (inr (call_sealed s t is, journal_spared s is (data_misses s.sizes.geometry x bytes success is_data), λ fair. unused_spared s t x bytes success is is_data (store_unused x store to fair)))

  -- what it carries then to the journal: that a read gives its data, or the page that it makes
  data_stored : (u : Trace) (x : Pbn) (q : Asks) (m : Mapping) → q ≡ Write → m ≡ At x → ReadsAs s u x.0 v.bytes → MapsTo q v.bytes m × (IsFair s u → OnBlock (λ y. ReadsAs s u y.0 v.bytes) m)
  data_stored u x q m is to reads = rw (is, to) (tt, λ fair. reads)

  stored_carries : (u : Trace) (x : Pbn) (o : Option PageId) → CarriesFor s u v phase.Store o → v.new ≡ At x → ReadsAs s u x.0 (stored_for s.sizes o v.bytes x) → CarriesFor s u (turned phase.Enter v) phase.Enter o
  stored_carries u x None k to reads = let on = data_stored u x v.asks v.new k.1 to reads in (k.0, on.0, on.1, k.3)
  stored_carries u x (Some page) k to reads = (k.0, k.1, k.2, λ fair. subst (OnBlock (λ y. ReadsAs s u y.0 (page_at s.sizes page y))) (sym to) reads)

  -- and to the zone of its claim, where the session is stopped
  refused_carries : (u : Trace) (o : Option PageId) → RightTrace s u → has_stopped u ≡ true → CarriesFor s u v phase.Store o → CarriesFor s u (ended phase.AbortClaim reply.Stopped v) phase.AbortClaim o
  refused_carries u None right stopped k =
      let placed = k.0.turn.is_placed in (k.0.turn, may_stop s u v (writes_change v.asks k.1) stopped placed.placed (unentered_slot s u v.request right placed.not_entered))
  refused_carries u (Some page) right stopped k =
      let placed = k.0.turn.is_placed in (k.0, k.1, may_stop s u v (writes_change v.asks k.0.is_write) stopped placed.placed (unentered_slot s u v.request right placed.not_entered))

  refused_post : (u : Trace) → RightTrace s u → has_stopped u ≡ true → VioOk s u v → HasClaim s true false v.claim v.new v.tickets → CarriesFor s u v phase.Store v.page → PostOk s u (counts_of s.sizes v, item.Request (ended phase.AbortClaim reply.Stopped v))
  refused_post u right stopped ok claim k = (counts_within s.sizes v known.session.zones.1, (ok, refused_carries u v.page right stopped k, refl, claim))

  -- what it carries to the device stays over its call
  store_over : {h : Happening} {c : Call} → IsCallOf h c → CarriesFor s t v phase.Store v.page → CarriesFor s (h ∷ t) v phase.Store v.page
  store_over {h} succeeded k = by_all s h t v phase.Store v.page tt (λ held. tt) (λ page is. tt) (λ enters. absurd cc) k
  store_over {h} failed k = by_all s h t v phase.Store v.page tt (λ held. tt) (λ page is. tt) (λ enters. absurd cc) k
  store_over {h} is_harm k = by_all s h t v phase.Store v.page tt (λ held. tt) (λ page is. tt) (λ enters. absurd cc) k

  -- it comes once the superblock is durable, and writes another block
  in_order : (x : Pbn) (bytes : List ℕ) (success : Bool) → IsDataBlock s.sizes.geometry x.0 → old.superblock ≡ Durable → IsInOrder s.sizes (superblock_stage t) (call.Write x bytes success)
  in_order x bytes success is_data durable = inr (sym known.own.lists.superblock_is ∙ durable, data_not_first s.sizes.geometry x.0 is_data)

  passes : (x : Pbn) (bytes : List ℕ) → IsDataBlock s.sizes.geometry x.0 → stage_after (call.Write x bytes true) (superblock_stage t) ≡ superblock_stage t
  passes x bytes is_data = elim (eqb_tells x.0 0) [ inl same ↦ absurd (data_not_first s.sizes.geometry x.0 is_data same.1) | inr other ↦ rw other.0 refl ]

  flush_passes : old.superblock ≡ Durable → stage_after (call.Flush true) (superblock_stage t) ≡ superblock_stage t
  flush_passes durable = let is : superblock_stage t ≡ Durable = sym known.own.lists.superblock_is ∙ durable in rw is refl

  -- the read of its block is made for it
  made_for : (x : Pbn) (bytes : List ℕ) (success : Bool) → v.phase ≡ phase.Load → v.old ≡ At x → IsMadeFor s t v.request (call.Read x bytes success)
  made_for x bytes success is from =
      let carries = (looks_at is).1 in
      inr (v.at, (vio_ok known).asked ∙ ap (λ q. Some (asked q v.at v.bytes)) carries.0.is_read, λ fair. sym (carries.0.held.old_is fair) ∙ from)

  -- a request that needs its leaf
  needs_at : v.phase ≡ phase.LoadLeaf → (v.page ≡ None) × CarriesOwn s t v phase.LoadLeaf
  needs_at is = in_bare known phase.LoadLeaf is (λ page none. none)

  leaf_stands : (x : Pbn) → v.phase ≡ phase.LoadLeaf → v.leaf ≡ Some x → IsLinkedAt s t (leaf_of v.at.0) x
  leaf_stands x is at =
      let needs = (needs_at is).1.2 in
      subst (IsLinkedAt s t (leaf_of v.at.0)) (same_Some _ _ (sym needs.block_is ∙ at)) needs.stands

  abbrev leaf_for : (x : Pbn) → v.phase ≡ phase.LoadLeaf → v.leaf ≡ Some x → IsLeafFor s t v.request x
  leaf_for x is at = record { asks = v.asks; at = v.at; bytes = v.bytes; asked = (vio_ok known).asked; stands = leaf_stands x is at; unset = (needs_at is).1.2.unset }

  -- it is said what its address is mapped to
  leaf_carried : (x : Pbn) (bytes : List ℕ) (mappings : List Mapping) → v.phase ≡ phase.LoadLeaf → v.leaf ≡ Some x → IsPage (leaf_head s.sizes.geometry v.at.0 x) bytes mappings
      → CarriesOwn s (Calls (call.Read x bytes true) ∷ t) (has_leaf (slice_index_or mappings (slot_of_address v.at.0) Unmapped) v) phase.LoadedLeaf
  leaf_carried x bytes mappings is at page =
      let h = Calls (call.Read x bytes true) in
      let k = (needs_at is).1 in
      let old = slice_index_or mappings (slot_of_address v.at.0) Unmapped in
      let slot = slots (leaf_head s.sizes.geometry v.at.0 x) bytes mappings (slot_of_address v.at.0) page (mod-lt v.at.0 (omega arith)) in (
        record {
          held = record {
            turn = turn_kept s h t v tt tt k.0;
            old_data = held_data s.sizes.geometry 0 old slot.held;
            old_is = λ fair.
                let before = fair_before s h t fair in
                leaf_says_it s t known.session known.right before v.at.0 x bytes mappings (leaf_stands x is at) k.2.unset fair.honest.0 page;
          };
          leaf = k.2.leaf;
          unset = k.2.unset;
          latest = k.2.latest;
        },
        k.1,
      )

  load_value : (x : Pbn) (bytes : List ℕ) → v.phase ≡ phase.Load → v.old ≡ At x → IsFair s (Calls (call.Read x bytes true) ∷ t) → bytes ≡ value_at s t v.at.0
  load_value x bytes is from fair =
      let carries = (looks_at is).1 in
      let before = fair_before s (Calls (call.Read x bytes true)) t fair in
      let maps = ap (λ o. mapped_or o (opened_at s v.at.0)) carries.0.latest ∙ sym (carries.0.held.old_is before) ∙ from in
      read_value s t known.session known.right before v.at.0 v.latest x bytes carries.0.held.turn.quiet carries.0.latest maps fair.honest.0.0 fair.honest.0.1 ∙ ap (value_from s v.at.0) carries.0.latest
      ∙ sym (value_past s t v.at.0 known.right before.opened (remappings (applied t)))

  pub device_serves : (new : DeviceZone) (made : Trace) (posts : List Post) → DeviceServes s.sizes old v new made posts → ActKept s t n (at.Device old) (item.Request v ∷ []) (at.Device new) made posts
  device_serves new made posts (device.announces there act) = device_announces known v.request (vio_ok known).is_open new made posts act
  device_serves new made posts (device.stores x is to runs durable inside e m p) =
      let bytes = stored s.sizes v x in
      let c = call.Write x bytes true in
      let h = Calls c in
      let carries = in_phase known phase.Store is in
      let is_data = claim_data known phase.Store x is refl to in
      rw (e, m, p) (act_one known h (store_clears x bytes true succeeded is to) (λ g fair. g (fair_before s h t fair))
      (store_call s t x bytes true succeeded (record { succeeds = refl; goes_on = λ writes. goes runs; in_order = in_order x bytes true is_data durable }) is_data (store_unused x is to) known.right)
      (after_call known.own c refl (passes x bytes is_data))
      ((omega arith, (vio_kept s h t v tt (vio_ok known), stored_carries (h ∷ t) x v.page (store_over succeeded carries) to (store_reads s t x bytes), refl, claim_in known phase.Store is)), tt))
  device_serves new made posts (device.store_fails x kept is to runs durable inside e m p) =
      let bytes = stored s.sizes v x in
      let c = call.Write x bytes false in
      let h = Fails v.request c kept in
      let carries = in_phase known phase.Store is in
      let is_data = claim_data known phase.Store x is refl to in
      let now = store_call s t x bytes false failed (record { is_open = (vio_ok known).is_open; fails = refl; goes_on = λ writes. goes runs; made_for = tt; in_order = in_order x bytes false is_data durable }) is_data (store_unused x is to) known.right in
      rw (e, m, p) (act_one known h (store_clears x bytes false failed is to) (λ g fair. g (fair_before s h t fair)) now (after_failure known.own v.request c kept true refl refl)
      (refused_post (h ∷ t) now refl (vio_kept s h t v tt (vio_ok known)) (claim_in known phase.Store is) (store_over failed carries), notices_ok s (h ∷ t) refl))
  device_serves new made posts (device.store_unmade is halts e m p) =
      rw (e, m, p) (act_none known known.own (refused_post t known.right (sym known.own.lists.stopped_is ∙ halts) (vio_ok known) (claim_in known phase.Store is) (in_phase known phase.Store is), tt))
  device_serves new made posts (device.loads x bytes is from ready inside e m p) =
      let c = call.Read x bytes true in
      let carries = (looks_at is).1 in
      let here = vio_kept s (Calls c) t v tt (vio_ok known) in
      let looked : CarriesOwn s (Calls c ∷ t) (record v { phase = phase.Loaded; bytes = bytes }) phase.Loaded = (looks_kept s (Calls c) t v tt tt carries.0, λ fair. load_value x bytes is from fair) in
      rw (e, m, p) (act_one known (Calls c) (quiet c succeeded (λ y. tt)) (λ g fair. g (fair_before s (Calls c) t fair))
      (quiet_call s t c succeeded (record { succeeds = refl; goes_on = λ (writes : true ≡ false). absurd cc; in_order = tt }) (λ x. tt) known.right) (after_call known.own c refl refl) (
        (
          home,
          (
            record { asked = here.asked ∙ ap Some (asks_same v.asks v.at v.bytes bytes carries.0.is_read); is_open = here.is_open; address = here.address; home = here.home },
            carries_own s (Calls c ∷ t) (record v { phase = phase.Loaded; bytes = bytes }) phase.Loaded (looks_at is).0 looked,
            refl,
            claim_in known phase.Load is,
          ),
        ),
        tt,
      ))
  device_serves new made posts (device.load_fails x bytes kept is from ready inside e m p) =
      let c = call.Read x bytes false in
      let h = Fails v.request c kept in
      let k = looks_kept s h t v tt tt (looks_at is).1.0 in
      let aborted : CarriesOwn s (h ∷ t) (ended phase.Abort reply.ReadFault v) phase.Abort
      = (k.held.turn, cause_fault s (h ∷ t) v.request v.asks v.at v.bytes k.is_read (some_is _ _ k.held.turn.is_placed.placed) (rw (same_self v.request) refl)) in
      let may : FailureMayFollow s v.request c t = record { is_open = (vio_ok known).is_open; fails = refl; goes_on = λ (writes : true ≡ false). absurd cc; made_for = made_for x bytes false is from; in_order = tt } in
      rw (e, m, p) (act_one known h (quiet c failed (λ x. tt)) (λ g fair. g (fair_before s h t fair)) (quiet_call s t c failed may (λ x. tt) known.right) (after_failure known.own v.request c kept old.stopped refl known.own.lists.stopped_is)
      ((home, (vio_kept s h t v tt (vio_ok known), carries_own s (h ∷ t) (ended phase.Abort reply.ReadFault v) phase.Abort (looks_at is).0 aborted, refl, claim_in known phase.Load is)), tt))
  device_serves new made posts (device.loads_leaf x bytes mappings is at ready inside page e m p) =
      let c = call.Read x bytes true in
      let here = vio_kept s (Calls c) t v tt (vio_ok known) in
      let found = has_leaf (slice_index_or mappings (slot_of_address v.at.0) Unmapped) v in
      rw (e, m, p) (act_one known (Calls c) (quiet c succeeded (λ y. tt)) (λ g fair. g (fair_before s (Calls c) t fair))
      (quiet_call s t c succeeded (record { succeeds = refl; goes_on = λ (writes : true ≡ false). absurd cc; in_order = tt }) (λ x. tt) known.right) (after_call known.own c refl refl)
      ((home, (here, carries_own s (Calls c ∷ t) found phase.LoadedLeaf (needs_at is).0 (leaf_carried x bytes mappings is at page), refl, claim_in known phase.LoadLeaf is)), tt))
  device_serves new made posts (device.leaf_fails x bytes kept is at ready inside e m p) =
      let c = call.Read x bytes false in
      let h = Fails v.request c kept in
      let needs = (needs_at is).1 in
      let may : FailureMayFollow s v.request c t = record { is_open = (vio_ok known).is_open; fails = refl; goes_on = λ (writes : true ≡ false). absurd cc; made_for = inl (leaf_for x is at); in_order = tt } in
      let aborted : CarriesOwn s (h ∷ t) (ended phase.Abort reply.ReadFault v) phase.Abort
      = (turn_kept s h t v tt tt needs.0, leaf_fault s (h ∷ t) v reply.ReadFault (inl (refl, rw (same_self v.request) refl)) (turn_kept s h t v tt tt needs.0).is_placed) in
      rw (e, m, p) (act_one known h (quiet c failed (λ x. tt)) (λ g fair. g (fair_before s h t fair)) (quiet_call s t c failed may (λ x. tt) known.right) (after_failure known.own v.request c kept old.stopped refl known.own.lists.stopped_is)
      ((home, (vio_kept s h t v tt (vio_ok known), carries_own s (h ∷ t) (ended phase.Abort reply.ReadFault v) phase.Abort (needs_at is).0 aborted, refl, claim_in known phase.LoadLeaf is)), tt))
  device_serves new made posts (device.harms x bytes fault is at ready inside damaged e m p) =
      let c = call.Read x bytes true in
      let h = Harms v.request x bytes fault in
      let needs = (needs_at is).1 in
      let may : HarmMayFollow s v.request x bytes fault t = record { is_open = (vio_ok known).is_open; leaf = leaf_for x is at; damaged = damaged } in
      let aborted : CarriesOwn s (h ∷ t) (ended phase.Abort reply.Damaged v) phase.Abort
      = (turn_kept s h t v tt tt needs.0, leaf_fault s (h ∷ t) v reply.Damaged (inr (refl, rw (same_self v.request) refl)) (turn_kept s h t v tt tt needs.0).is_placed) in
      rw (e, m, p) (act_one known h (quiet c is_harm (λ x. tt)) (λ g fair. g (fair_before s h t fair)) (quiet_call s t c is_harm may (λ x. tt) known.right) (after_harm known.own v.request x bytes fault)
      ((home, (vio_kept s h t v tt (vio_ok known), carries_own s (h ∷ t) (ended phase.Abort reply.Damaged v) phase.Abort (needs_at is).0 aborted, refl, claim_in known phase.LoadLeaf is)), notices_after_ok s (h ∷ t) old.stopped refl))
  device_serves new made posts (device.flushes is runs durable e m p) =
      let c = call.Flush true in
      let h = Calls c in
      let mark : IsMark (moments (h ∷ t)) (mark_of_vio (answered_flush old v))
      = record { later = []; older = moments t; at = refl; calls = ap (λ m. m + 1) known.own.lists.calls_is; begun_by_then = (vio_ok known).is_open.is_begun; not_answered = (vio_ok known).is_open.unanswered } in
      let earned : MayReply s (h ∷ t) (answered_flush old v) (Some reply.Ok)
      = subst (λ (q : Asks). IsEarned s (h ∷ t) (mark_of_vio (answered_flush old v)) (request_of v) reply.Ok (is_marked q reply.Ok)) (sym (flushes_at is).1) mark in
      rw (e, m, p) (act_one known h (quiet c succeeded (λ x. tt)) (λ g fair. g (fair_before s h t fair)) (quiet_call s t c succeeded (record { succeeds = refl; goes_on = λ writes. goes runs; in_order = tt }) (λ x. tt) known.right)
      (after_call known.own c refl (flush_passes durable))
      ((omega arith, (vio_kept s h t v tt (vio_ok known), carries_own s (h ∷ t) (answered_flush old v) phase.Reply (flushes_at is).0 earned, refl, claim_in known phase.Flush is)), tt))
  device_serves new made posts (device.flush_fails kept is runs durable e m p) =
      let c = call.Flush false in
      let h = Fails v.request c kept in
      let may : FailureMayFollow s v.request c t = record { is_open = (vio_ok known).is_open; fails = refl; goes_on = λ writes. goes runs; made_for = tt; in_order = tt } in
      rw (e, m, p) (act_one known h (quiet c failed (λ x. tt)) (λ g fair. g (fair_before s h t fair)) (quiet_call s t c failed may (λ x. tt) known.right) (after_failure known.own v.request c kept true refl refl)
      (unflushed_post s (h ∷ t) v refl (vio_kept s h t v tt (vio_ok known)) (flushes_at is).1 (flushes_at is).0 (claim_in known phase.Flush is), notices_ok s (h ∷ t) refl))
  device_serves new made posts (device.flush_unmade is halts e m p) =
      rw (e, m, p) (act_none known known.own (unflushed_post s t v (sym known.own.lists.stopped_is ∙ halts) (vio_ok known) (flushes_at is).1 (flushes_at is).0 (claim_in known phase.Flush is), tt))

-- the requests of a block over a call
vios_over : (s : Session) (t : Trace) {h : Happening} {c : Call} → IsCallOf h c → (vs : List Vio) → AllByRecursion (KeptOk s t phase.Pending) vs → AllByRecursion (KeptOk s (h ∷ t) phase.Pending) vs
vios_over s t {h} is vs all = every-map {P = KeptOk s t phase.Pending} {Q = KeptOk s (h ∷ t) phase.Pending} (λ v k. over is v k) vs all
  where
    over : {h : Happening} {c : Call} → IsCallOf h c → (v : Vio) → KeptOk s t phase.Pending v → KeptOk s (h ∷ t) phase.Pending v
    over {h} succeeded v k = pending_over s h t v tt tt (λ page is. tt) k
    over {h} failed v k = pending_over s h t v tt tt (λ page is. tt) k
    over {h} is_harm v k = pending_over s h t v tt tt (λ page is. tt) k

abbrev sealed_over : (s : Session) (t : Trace) {h : Happening} {c : Call} → IsCallOf h c → (vs : List Vio) (n : ℕ) → IsSealed s t vs n → IsSealed s (h ∷ t) vs n
sealed_over s t {h} is vs n k = sealed_kept s h t vs n (call_sealed s t is) k

-- a flush keeps what stands, whether it fails or not
flush_rest : (s : Session) (t : Trace) {h : Happening} {ok : Bool} (blocks : List (List Logged)) → IsAsOpened s → IsCallOf h (call.Flush ok) → AtRest s t blocks → AtRest s (h ∷ t) blocks
flush_rest s t {h} blocks opened is k = rests_kept s h t blocks (journal_spared s is (λ slot below. tt)) (mapped_all s h (λ x. block_spared is x tt) [] (all_of blocks)) k

flush_way : (s : Session) (t : Trace) {h : Happening} {ok : Bool} (older : List (List Logged)) (es : List Logged) → IsAsOpened s → IsCallOf h (call.Flush ok) → OnItsWay s t older es → OnItsWay s (h ∷ t) older es
flush_way s t {h} older es opened is k = way_kept s h t older es (journal_spared s is (λ slot below. tt)) (mapped_all s h (λ x. block_spared is x tt) es (all_of older)) k

-- one that returns makes what reads give stand
flushed : (s : Session) (t : Trace) (es : List Logged) → NewReads s t es → NewStands s (Calls (call.Flush true) ∷ t) es
flushed s t [] reads = tt
flushed s t (e ∷ es) reads = (on_each (new_of e) (λ x to k. k) reads.0, flushed s t es reads.1)

below_logical : (s : Session) (v : Vio) (q : Asks) → IsChange q → HasAddress s.sizes v.at q → v.at.0 < s.sizes.geometry.logical
below_logical s v Write is k = k
below_logical s v Discard is k = k
below_logical s v Read is k = absurd is
below_logical s v Flush is k = absurd is

-- a page that a write lacks is below a root of its trees
below_root : (s : Session) (q : Asks) (at : Lba) (bytes : List ℕ) (page : PageId) → q ≡ Write → MayLack s.sizes.geometry.height (asked q at bytes) page → at.0 < s.sizes.geometry.logical → IsBelowRoot s.sizes.geometry page
below_root s Write at bytes page is lacked below = record { address = at.0; inside = below; level = lacked.1; there = lacked.0 }
below_root s other at bytes page is lacked below = absurd cc

-- what the form of the journal needs of the entry of a request in a block
spelled : (s : Session) (t : Trace) (v : Vio) → KeptOk s t phase.Pending v → CanStand s (logged v)
spelled s t v k = by v.page v.new refl (carries_at s t v phase.Pending k.2 k.1)
  where
    at_data : OnBlock (λ x. IsDataBlock s.sizes.geometry x.0) v.new
    at_data = k.3.on_data (ap (λ (q : Phase). (phase_rule q).claims) k.2)

    by : (o : Option PageId) (m : Mapping) → v.new ≡ m → CarriesFor s t v phase.Pending o → CanStand s (logged_for v o m)
    by None m to has = record {
      below = below_logical s v v.asks has.is_entered.is_change k.0.address;
      old_data = has.old_data;
      new_data = at_data;
    }
    by (Some page) (At x) to has = record {
      below = below_root s v.asks v.at v.bytes page has.0.is_write has.0.lacked (below_logical s v v.asks (writes_change v.asks has.0.is_write) k.0.address);
      new_data = subst (OnBlock (λ x. IsDataBlock s.sizes.geometry x.0)) to at_data;
    }
    by (Some page) other to has = absurd (subst IsToBlock to has.1)

module _ (s : Session) (t : Trace) (b : SealedBlock) (session : IsSession s) (vios : AllByRecursion (KeptOk s t phase.Pending) b.vios) (right : RightTrace s t) (k : IsSealed s t b.vios b.sequence)
    (head : b.head ≡ s.sizes.start) where
  abbrev es : List Logged
  es = all_logged b.vios

  sequence_is : b.sequence ≡ next_of s.sizes.start (blocks_of s k.older)
  sequence_is = let at = k.sequence in omega (arith, at, blocks_length s k.older)

  all_spelled : AllByRecursion (CanStand s) es
  all_spelled = every_logged (CanStand s) b.vios (every-map {P = KeptOk s t phase.Pending} {Q = λ v. CanStand s (logged v)} (λ v ok. spelled s t v ok) b.vios vios)

  all_data : AllByRecursion (HasBlock s) es
  all_data = every-map {P = CanStand s} {Q = HasBlock s} (can_data s) es all_spelled

  -- its block can be sealed behind those that are committed
  can_seal : IsSealedBlock s.sizes.geometry s.sizes.start (blocks_of s k.older) (sealed_with s es)
  can_seal = let few = k.few in let left = k.left in spelled_sealed s session k.older es all_spelled (omega (arith, few, logged_length b.vios)) left

  says : IsWhole s.sizes.geometry (next_of s.sizes.start (blocks_of s k.older)) (sealed_with s es) (journal_bytes s.sizes b)
  says =
      subst (λ (first : ℕ). IsWhole s.sizes.geometry (next_of s.sizes.start (blocks_of s k.older)) (sealed_with s es) (block_bytes s.sizes.geometry.nonce b.sequence first (map (λ (v : Vio). entry_of (logged v)) b.vios))) (sym head)
      (subst (λ (entries : List Entry). IsWhole s.sizes.geometry (next_of s.sizes.start (blocks_of s k.older)) (sealed_with s es) (block_bytes s.sizes.geometry.nonce b.sequence s.sizes.start entries)) (entries_in_order b.vios)
      (subst (λ (m : ℕ). IsWhole s.sizes.geometry (next_of s.sizes.start (blocks_of s k.older)) (sealed_with s es) (block_bytes s.sizes.geometry.nonce m s.sizes.start (sealed_with s es).entries)) (sym sequence_is)
      (spelled_whole s.sizes.geometry (next_of s.sizes.start (blocks_of s k.older)) (sealed_with s es) can_seal.holds)))

  place_is : (slot : Pbn) → IsItsSlot s.sizes b slot → slot.0 ≡ slot_place s.sizes.geometry (next_of s.sizes.start (blocks_of s k.older))
  place_is slot place = place ∙ ap (λ m. block_of_slot (journal_slot_of s.sizes.geometry m)) sequence_is

module _ (s : Session) (t : Trace) (b : SealedBlock) (session : IsSession s) (vios : AllByRecursion (KeptOk s t phase.Pending) b.vios) (head : b.head ≡ s.sizes.start) where
  -- what a call leaves, at each stage
  pub record Made (h : Happening) (next : Stage) : Type 0 where
    pub right : RightTrace s (h ∷ t)
    pub stands : StandsAt s (h ∷ t) b.vios b.sequence next

  -- the slot is written, where the session is fair
  module _ (right : RightTrace s t) (k : IsSealed s t b.vios b.sequence) (slot : Pbn) (place : IsItsSlot s.sizes b slot) (fair : IsFair s t) (rest : AtRest s t k.older) (new : NewStands s t (all_logged b.vios)) where
    way_on : (ok : Bool) → OnItsWay s (Calls (call.Write slot (journal_bytes s.sizes b) ok) ∷ t) k.older (all_logged b.vios)
    way_on ok = slot_way s t k.older (all_logged b.vios) slot (journal_bytes s.sizes b) session (all_data s t b session vios right k head) (can_seal s t b session vios right k head)
        (place_is s t b session vios right k head slot place) (says s t b session vios right k head) right fair.opened k.sealed_is rest new ok

    reads_on : ReadsBlock s (Calls (call.Write slot (journal_bytes s.sizes b) true) ∷ t) k.older (all_logged b.vios)
    reads_on = slot_reads s t k.older (all_logged b.vios) slot (journal_bytes s.sizes b) session (all_data s t b session vios right k head) (can_seal s t b session vios right k head)
        (place_is s t b session vios right k head slot place) (says s t b session vios right k head) right fair.opened k.sealed_is rest new

    shown_on : (h : Happening) (ok : Bool) → IsCallOf h (call.Write slot (journal_bytes s.sizes b) ok) → AtRest s (h ∷ t) k.older ⊎ OnItsWay s (h ∷ t) k.older (all_logged b.vios) → Shown s (h ∷ t)
    shown_on h ok is stands = slot_shown s t k.older (all_logged b.vios) slot (journal_bytes s.sizes b) session (all_data s t b session vios right k head) (can_seal s t b session vios right k head)
        (place_is s t b session vios right k head slot place) (says s t b session vios right k head) right fair.opened k.sealed_is rest new h ok is stands
        k.committed_is (shown_of s t right fair)

  module _ (goes : has_stopped t ≡ false) (durable : superblock_stage t ≡ Durable) where
    slot_in_order : (success : Bool) (slot : Pbn) → IsItsSlot s.sizes b slot → IsInOrder s.sizes (superblock_stage t) (call.Write slot (journal_bytes s.sizes b) success)
    slot_in_order success slot place = inr (durable, λ same. omega (arith, same, place))

    -- one that succeeds
    makes_by : (q : Stage) (c : Call) (slot : Pbn) → IsItsSlot s.sizes b slot → call_of s.sizes b slot true q ≡ Some c → RightTrace s t → StandsAt s t b.vios b.sequence q → Made (Calls c) (next_stage q)
    makes_by stage.Cover c slot place is right (k, stands) =
        let h = Calls (call.Flush true) in
        rw (sym (same_Some _ _ is)) (record {
          right = quiet_call s t (call.Flush true) succeeded (record { succeeds = refl; goes_on = λ writes. goes; in_order = tt }) (λ x. tt) right;
          stands = (
            sealed_over s t succeeded b.vios b.sequence k,
            λ fair. let before = stands (fair_before s h t fair) in (flush_rest s t k.older fair.opened succeeded before.0, flushed s t (all_logged b.vios) before.1),
          );
        })
    makes_by stage.Write c slot place is right (k, stands) =
        let h = Calls (call.Write slot (journal_bytes s.sizes b) true) in
        rw (sym (same_Some _ _ is)) (record {
          right = (
            record { succeeds = refl; goes_on = λ writes. goes; in_order = slot_in_order true slot place },
            λ fair.
                let was = fair_before s h t fair in
                let before = stands was in
                shown_on right k slot place was before.0 before.1 h true succeeded (inr (way_on right k slot place was before.0 before.1 true)),
            right,
          );
          stands = (
            sealed_over s t succeeded b.vios b.sequence k,
            λ fair.
                let was = fair_before s h t fair in
                let before = stands was in
                (way_on right k slot place was before.0 before.1 true, reads_on right k slot place was before.0 before.1),
          );
        })
    makes_by stage.Harden c slot place is right (k, stands) =
        let h = Calls (call.Flush true) in
        let on : IsFair s (h ∷ t) → AtRest s (h ∷ t) (all_logged b.vios ∷ k.older) = (λ (fair : IsFair s (h ∷ t)).
        let before = stands (fair_before s h t fair) in
        let way = before.0 in
        let new = new_kept s h t (all_logged b.vios) (spares_all h (λ x. tt) (all_logged b.vios)) way.3 in (
          ends s.blocks (log s t) s.sizes.geometry s.sizes.start (blocks_of s k.older) (sealed_with s (all_logged b.vios)) before.1 way.0,
          map_more s (h ∷ t) (all_logged b.vios) (all_of k.older) (map_kept s h t (all_of k.older) (mapped_all s h (λ x. tt) [] (all_of k.older)).2 way.1) new,
          pages_more s (h ∷ t) (all_logged b.vios) (all_of k.older) (pages_kept s h t (all_of k.older) (mapped_all s h (λ x. tt) [] (all_of k.older)).3 way.2) new,
        )) in
        rw (sym (same_Some _ _ is)) (record {
          right = quiet_call s t (call.Flush true) succeeded (record { succeeds = refl; goes_on = λ writes. goes; in_order = tt }) (λ x. tt) right;
          stands = (ap all_of k.sealed_is ∙ ap (λ (es : List Logged). all_logged b.vios ++ es) (sym k.committed_is), λ fair. rw k.sealed_is (on fair));
        })
    makes_by other c slot place is right stands = absurd cc

    -- and one that fails, kept in the log or not
    fails_by : (q : Stage) (c : Call) (slot : Pbn) (kept : Bool) (w : Writer) → IsOpen t w → IsItsSlot s.sizes b slot → call_of s.sizes b slot false q ≡ Some c → RightTrace s t → StandsAt s t b.vios b.sequence q
        → Made (Fails w c kept) stage.Fail
    fails_by stage.Cover c slot kept w is_open place is right (k, stands) =
        let h = Fails w (call.Flush false) kept in
        rw (sym (same_Some _ _ is)) (record {
          right = quiet_call s t {h = h} (call.Flush false) failed (record { is_open = is_open; fails = refl; goes_on = λ writes. goes; made_for = tt; in_order = tt }) (λ x. tt) right;
          stands = (sealed_over s t {h = h} failed b.vios b.sequence k, (λ fair. inl (flush_rest s t {h = h} k.older fair.opened failed (stands (fair_before s h t fair)).0)), refl);
        })
    fails_by stage.Write c slot kept w is_open place is right (k, stands) =
        let h = Fails w (call.Write slot (journal_bytes s.sizes b) false) kept in
        rw (sym (same_Some _ _ is)) (record {
          right = (
            record { is_open = is_open; fails = refl; goes_on = λ writes. goes; made_for = tt; in_order = slot_in_order false slot place },
            λ fair.
                let was = fair_before s h t fair in
                let before = stands was in
                shown_on right k slot place was before.0 before.1 h false failed (left kept was),
            right,
          );
          stands = (sealed_over s t {h = h} failed b.vios b.sequence k, (λ fair. left kept (fair_before s h t fair)), refl);
        })
      where
        left : (kept : Bool) → IsFair s t → AtRest s (Fails w (call.Write slot (journal_bytes s.sizes b) false) kept ∷ t) k.older
            ⊎ OnItsWay s (Fails w (call.Write slot (journal_bytes s.sizes b) false) kept ∷ t) k.older (all_logged b.vios)
        left true was = let before = stands was in inr (way_on right k slot place was before.0 before.1 false)
        left false was = inl (rests_unlogged s w (call.Write slot (journal_bytes s.sizes b) false) t k.older (stands was).0)
    fails_by stage.Harden c slot kept w is_open place is right (k, stands) =
        let h = Fails w (call.Flush false) kept in
        rw (sym (same_Some _ _ is)) (record {
          right = quiet_call s t {h = h} (call.Flush false) failed (record { is_open = is_open; fails = refl; goes_on = λ writes. goes; made_for = tt; in_order = tt }) (λ x. tt) right;
          stands = (sealed_over s t {h = h} failed b.vios b.sequence k, (λ fair. inr (flush_way s t {h = h} k.older (all_logged b.vios) fair.opened failed (stands (fair_before s h t fair)).0)), refl);
        })
    fails_by other c slot kept w is_open place is right stands = absurd cc

-- where it is not made
unmade_by : (s : Session) (t : Trace) (b : SealedBlock) (q : Stage) (c : Call) (slot : Pbn) → has_stopped t ≡ true → call_of s.sizes b slot false q ≡ Some c → StandsAt s t b.vios b.sequence q
    → StandsAt s t b.vios b.sequence stage.Fail
unmade_by s t b stage.Cover c slot stopped is (k, stands) = (k, (λ fair. inl (stands fair).0), stopped)
unmade_by s t b stage.Write c slot stopped is (k, stands) = (k, (λ fair. inl (stands fair).0), stopped)
unmade_by s t b stage.Harden c slot stopped is (k, stands) = (k, (λ fair. inr (stands fair).0), stopped)
unmade_by s t b other c slot stopped is stands = absurd cc

zone_is : (s : Session) (b : SealedBlock) (q : Stage) (c : Call) (slot : Pbn) → call_of s.sizes b slot true q ≡ Some c → zone_number s.sizes (next_zone q) < zone_count s.sizes
zone_is s b stage.Commit c slot is = absurd cc
zone_is s b stage.Fail c slot is = absurd cc
zone_is s b other c slot is = omega arith

-- its call succeeds or fails as it says, and reads nothing
call_is : (sizes : Sizes) (b : SealedBlock) (q : Stage) (c : Call) (slot : Pbn) (success : Bool) → call_of sizes b slot success q ≡ Some c → (is_ok c ≡ success) × (is_read c ≡ false)
call_is sizes b stage.Cover c slot success is = rw (sym (same_Some _ _ is)) (refl, refl)
call_is sizes b stage.Write c slot success is = rw (sym (same_Some _ _ is)) (refl, refl)
call_is sizes b stage.Harden c slot success is = rw (sym (same_Some _ _ is)) (refl, refl)
call_is sizes b other c slot success is = absurd cc

-- its call writes no data block
misses_data : (s : Session) (b : SealedBlock) (q : Stage) (slot : Pbn) (success : Bool) (c : Call) → 0 < s.sizes.geometry.journal → IsItsSlot s.sizes b slot → call_of s.sizes b slot success q ≡ Some c → (x : ℕ) → IsDataBlock s.sizes.geometry x → Misses c x
misses_data s b stage.Write slot success c some place is x inside = rw (sym (same_Some _ _ is)) (slot_misses s.sizes.geometry b.sequence slot.0 x some place inside)
misses_data s b stage.Cover slot success c some place is x inside = rw (sym (same_Some _ _ is)) tt
misses_data s b stage.Harden slot success c some place is x inside = rw (sym (same_Some _ _ is)) tt
misses_data s b other slot success c some place is x inside = absurd cc

-- The device zone makes the next call of a sealed block.
module _ {s : Session} {t : Trace} {n : ℕ} {old : DeviceZone} {b : SealedBlock} (known : Known s t n (at.Device old) (item.Block b ∷ [])) where
  vios_ok : AllByRecursion (KeptOk s t phase.Pending) b.vios
  vios_ok = known.front_ok.0.0.0

  stands : StandsAt s t b.vios b.sequence b.stage
  stands = known.front_ok.0.0.1

  head_is : b.head ≡ s.sizes.start
  head_is = known.front_ok.0.0.2

  clears : {h : Happening} (slot : Pbn) (success : Bool) (c : Call) → IsCallOf h c → IsItsSlot s.sizes b slot → call_of s.sizes b slot success b.stage ≡ Some c → Clears s n (Mine s t (at.Device old) (item.Block b ∷ [])) h t
  clears slot success c is place of_stage = call_clears is known.own.number_is
      (λ x. inr (λ inside. block_spared is x.0 (misses_data s b b.stage slot success c (let some = known.session.sizes.journal.0 in omega (arith, some)) place of_stage x.0 inside))) (inl (weighed (omega arith)))

  durable_now : old.superblock ≡ Durable → superblock_stage t ≡ Durable
  durable_now durable = sym known.own.lists.superblock_is ∙ durable

  -- its call is none for the superblock
  call_passes : (q : Stage) (c : Call) (slot : Pbn) → IsItsSlot s.sizes b slot → call_of s.sizes b slot true q ≡ Some c → superblock_stage t ≡ Durable → stage_after c (superblock_stage t) ≡ superblock_stage t
  call_passes stage.Cover c slot place is durable = rw (sym (same_Some _ _ is), durable) refl
  call_passes stage.Write c slot place is durable = rw (sym (same_Some _ _ is)) (elim (eqb_tells slot.0 0) [ inl same ↦ absurd (omega (arith, same.1, place)) | inr other ↦ rw other.0 refl ])
  call_passes stage.Harden c slot place is durable = rw (sym (same_Some _ _ is), durable) refl
  call_passes other c slot place is durable = absurd cc

  pub device_works : (new : DeviceZone) (made : Trace) (posts : List Post) → DeviceWorks s.sizes old b new made posts → ActKept s t n (at.Device old) (item.Block b ∷ []) (at.Device new) made posts
  device_works new made posts (device.announces v vs first there act) =
      device_announces known v.request (each_at (KeptOk s t phase.Pending) v vs b.vios first vios_ok).0.0.is_open new made posts act
  device_works new made posts (device.makes c slot v vs first place is runs durable e m p) =
      let k = known.own in
      let now = makes_by s t b known.session vios_ok head_is (sym k.lists.stopped_is ∙ runs) (durable_now durable) b.stage c slot place is known.right stands in
      rw (e, m, p) (act_one known (Calls c) (clears slot true c succeeded place is) (λ g fair. g (fair_before s (Calls c) t fair)) now.right
      (after_call k c (call_is s.sizes b b.stage c slot true is).0 (call_passes b.stage c slot place is (durable_now durable)))
      ((zone_is s b b.stage c slot is, ((vios_over s t succeeded b.vios vios_ok, now.stands, head_is), refl)), tt))
  device_works new made posts (device.fails c slot kept v vs first place is runs durable e m p) =
      let k = known.own in
      let h = Fails v.request c kept in
      let is_open = (each_at (KeptOk s t phase.Pending) v vs b.vios first vios_ok).0.0.is_open in
      let now = fails_by s t b known.session vios_ok head_is (sym k.lists.stopped_is ∙ runs) (durable_now durable) b.stage c slot kept v.request is_open place is known.right stands in
      let says_so = call_is s.sizes b b.stage c slot false is in
      let stops : has_stopped (h ∷ t) ≡ true = rw says_so.1 refl in
      rw (e, m, p) (act_one known h (clears slot false c failed place is) (λ g fair. g (fair_before s h t fair)) now.right
      (after_failure k v.request c kept true says_so.0 (sym stops))
      ((omega arith, ((vios_over s t {h = h} failed b.vios vios_ok, now.stands, head_is), refl)), notices_ok s (h ∷ t) stops))
  device_works new made posts (device.unmade c slot v vs first is halts e m p) =
      rw (e, m, p) (act_none known known.own ((omega arith, ((vios_ok, unmade_by s t b b.stage c slot (sym known.own.lists.stopped_is ∙ halts) is stands, head_is), refl)), tt))

-- The device's zone is told what another zone found damaged.
pub device_hears : {s : Session} {t : Trace} {n : ℕ} {old : DeviceZone} {damage : Damage} → Known s t n (at.Device old) (item.Damage damage ∷ []) → (new : DeviceZone) (made : Trace) (posts : List Post)
    → DeviceHears s.sizes old damage new made posts → ActKept s t n (at.Device old) (item.Damage damage ∷ []) (at.Device new) made posts
device_hears {s} {t} {n} {old} {damage} known new made posts act =
    let h = Hears damage in
    let own = known.own in
    rw (act.new_is, act.made_is, act.posts_are) (act_one known h (plain_clears known h t tt own.number_is tt tt tt) (λ g fair. g (fair_before s h t fair))
    (known.front_ok.0.0, shown_plain s t h tt (shown_of s t known.right), known.right)
    (record {
      number_is = own.number_is;
      lists = record { calls_is = own.lists.calls_is; stopped_is = refl; superblock_is = own.lists.superblock_is; damage_is = ap (λ d. first_of d damage) own.lists.damage_is };
      sound = tt;
      kept = tt;
      answers = tt;
      told = tt;
    })
    (notices_after_ok s (h ∷ t) old.stopped refl))
