-- What the device's zone did is an act, with its calls.
use Rattle.std.proofs.Common.{◌≡◌, ◌⊎◌, ◌<◌, Bool, true, false, Some, List, [], ◌∷◌, ◌++◌, length, refl, ap, sym, ◌∙◌, subst, inl, inr, arith}
use Rattle.blk_base.specs.declared.place.ZoneId.TheVariants as id
use Rattle.blk_base.specs.declared.request.Writer.{Writer}
use Rattle.blk_base.specs.declared.place.Pbn.{Pbn}
use Rattle.disk_model.specs.declared.call.Call.{Call}
use Rattle.data_vio.specs.declared.items.Stage.{Stage}
use Rattle.data_vio.specs.declared.items.Stage.TheVariants as stage
use Rattle.disk_model.specs.Seen.{Seen}
use Rattle.disk_model.specs.Trust.{Trust}
use Rattle.data_vio.specs.declared.items.Item.{Item}
use Rattle.data_vio.specs.declared.items.Item.TheVariants as item
use Rattle.data_vio.specs.declared.items.Phase.{Phase}
use Rattle.data_vio.specs.declared.items.Phase.TheVariants as phase
use Rattle.data_vio.specs.Phases.{AtDevice, phase_rule, stage_rule}
use Rattle.data_vio.specs.declared.items.SealedBlock.{SealedBlock}
use Rattle.data_vio.specs.declared.items.Vio.{Vio}
use Rattle.data_vio.specs.declared.sizes.Sizes.{Sizes}
use Rattle.core_model.specs.declared.zones.ZoneData.TheVariants as at
use Rattle.core_model.specs.declared.zones.DeviceZone.{DeviceZone}
use Rattle.core_model.specs.DeviceRules.{Announces, DeviceServes, DeviceWorks, IsReady, call_of, harmed, notices_after, superblock_call}
use Rattle.core_model.specs.declared.zones.SuperblockStage.{SuperblockStage}
use Rattle.core_model.specs.declared.zones.SuperblockStage.TheVariants.{AsOpened, Written, Durable}
use Rattle.core_model.specs.DeviceRules as device
use Rattle.disk_model.specs.declared.call.Call.TheVariants.{Flush}
use Rattle.device_zone.specs.DeviceCalls.{is_awaited, needs_call}
use Rattle.device_zone.specs.Served.{CanServe, IsAtInside, IsLeafInside}
use Rattle.core_model.specs.Steps.{HasAct}
use Rattle.core_model.specs.Steps.Act.{calls, halts, works}
use Rattle.core_model.specs.Trace.{Hears, Trace}
use Rattle.data_vio.specs.Vios.{Post}
use Rattle.step_parts.specs.Acts.{Acts}
use Rattle.step_parts.specs.DeviceLog.{HasCalled}
use Rattle.step_parts.proofs.SilentLaws.{none_called}
use Rattle.vdo_model.specs.declared.report.Damage.{Damage}

pub acts : (trust : Trust) (sizes : Sizes) (old new : DeviceZone) (v : Vio) (posts : List Post) (before after : Seen)
    → ((made : Trace) × DeviceServes sizes old v new made posts × HasCalled trust before after made)
    → Acts trust sizes (at.Device old) (item.Request v ∷ []) (at.Device new) posts before after
acts trust sizes old new v posts before after (made, phase_rule, log) = (made, calls phase_rule, log)

pub works_on : (trust : Trust) (sizes : Sizes) (old new : DeviceZone) (b : SealedBlock) (posts : List Post) (before after : Seen)
    → ((made : Trace) × DeviceWorks sizes old b new made posts × HasCalled trust before after made)
    → Acts trust sizes (at.Device old) (item.Block b ∷ []) (at.Device new) posts before after
works_on trust sizes old new b posts before after (made, phase_rule, log) = (made, works phase_rule, log)

-- it is told of damage, and the device isn't called
pub hears : (trust : Trust) (sizes : Sizes) (old new : DeviceZone) (damage : Damage) (held posts : List Post) (seen : Seen)
    → new ≡ harmed damage old → held ≡ [] → posts ≡ held ++ notices_after old.stopped sizes
    → Acts trust sizes (at.Device old) (item.Damage damage ∷ []) (at.Device new) posts seen seen
hears trust sizes old new damage held posts seen new_is none posts_are = (
  Hears damage ∷ [],
  halts (record { new_is = new_is; made_is = refl; posts_are = posts_are ∙ ap (λ (ps : List Post). ps ++ notices_after old.stopped sizes) none }),
  none_called (Hears damage ∷ []) refl refl refl trust seen,
)

served_there : (sizes : Sizes) (old : DeviceZone) (v : Vio) (q : Phase) → CanServe sizes old v q → (phase_rule q).zone ≡ AtDevice
served_there sizes old v phase.Store can = refl
served_there sizes old v phase.Load can = refl
served_there sizes old v phase.LoadLeaf can = refl
served_there sizes old v phase.Flush can = refl
served_there sizes old v other can = absurd can

needed_there : (q : Stage) → needs_call q ≡ true → (stage_rule q).zone ≡ id.Device
needed_there stage.Cover is = refl
needed_there stage.Write is = refl
needed_there stage.Harden is = refl
needed_there other is = absurd cc

-- behind its write the superblock's call is a flush
pub flush_is : (sizes : Sizes) (now : SuperblockStage) (success : Bool) → is_awaited now ≡ true → (now ≡ Written) ⊎ (now ≡ Durable) → superblock_call sizes success now ≡ Some (Flush success)
flush_is sizes now success awaits (inl written) = rw written refl
flush_is sizes now success awaits (inr durable) = let no : false ≡ true = rw durable at awaits in absurd cc

-- what doesn't wait for the superblock, while the session isn't stopped, comes once that is durable
pub durable_now : (d : DeviceZone) → d.stopped ≡ false → IsReady d → d.superblock ≡ Durable
durable_now d goes (inl stops) = let both : true ≡ false = sym stops ∙ goes in absurd cc
durable_now d goes (inr durable) = durable

-- the superblock's call is an act too
pub announced : (trust : Trust) (sizes : Sizes) (old new : DeviceZone) (v : Vio) (posts : List Post) (before after : Seen) → CanServe sizes old v v.phase
    → ((made : Trace) × Announces sizes old (item.Request v) v.request new made posts × HasCalled trust before after made)
    → (made : Trace) × DeviceServes sizes old v new made posts × HasCalled trust before after made
announced trust sizes old new v posts before after can (made, act, log) = (made, device.announces (served_there sizes old v v.phase can) act, log)

pub announced_block : (trust : Trust) (sizes : Sizes) (old new : DeviceZone) (b : SealedBlock) (v : Vio) (vs : List Vio) (posts : List Post) (before after : Seen) → b.vios ≡ v ∷ vs → needs_call b.stage ≡ true
    → ((made : Trace) × Announces sizes old (item.Block b) v.request new made posts × HasCalled trust before after made)
    → (made : Trace) × DeviceWorks sizes old b new made posts × HasCalled trust before after made
announced_block trust sizes old new b v vs posts before after are needs (made, act, log) = (made, device.announces v vs are (needed_there b.stage needs) act, log)

-- what waits for the superblock can't be served yet
awaited : (sizes : Sizes) (ok : Bool) (call : Call) (now : SuperblockStage) → superblock_call sizes ok now ≡ Some call → now ≡ Durable → ⊥
awaited sizes ok call AsOpened is same = absurd cc
awaited sizes ok call Written is same = absurd cc
awaited sizes ok call Durable is same = absurd cc

unready : (sizes : Sizes) (old : DeviceZone) (ok : Bool) (call : Call) → superblock_call sizes ok old.superblock ≡ Some call → old.stopped ≡ false → IsReady old → ⊥
unready sizes old ok call is goes (inl stops) = let both : true ≡ false = sym stops ∙ goes in absurd cc
unready sizes old ok call is goes (inr durable) = awaited sizes ok call old.superblock is durable

waits_still : (sizes : Sizes) (old : DeviceZone) (front : Item) (w : Writer) (new : DeviceZone) (made : Trace) (posts : List Post) → Announces sizes old front w new made posts → IsReady old → ⊥
waits_still sizes old front w new made posts (device.succeeds call is goes h1 h2 h3) = unready sizes old true call is goes
waits_still sizes old front w new made posts (device.fails call kept is goes h1 h2 h3) = unready sizes old false call is goes

by_phase : (sizes : Sizes) (old : DeviceZone) (v : Vio) (q : Phase) → (phase_rule q).zone ≡ AtDevice → (IsReady old → ⊥) → CanServe sizes old v q
by_phase sizes old v phase.Store there waits = λ goes durable. absurd (waits (inr durable))
by_phase sizes old v phase.Load there waits = λ ready. absurd (waits ready)
by_phase sizes old v phase.LoadLeaf there waits = λ ready. absurd (waits ready)
by_phase sizes old v phase.Flush there waits = tt
by_phase sizes old v other there waits = absurd cc

-- a rule serves what the zone can serve
serves : (sizes : Sizes) (old : DeviceZone) (v : Vio) (new : DeviceZone) (made : Trace) (posts : List Post) → DeviceServes sizes old v new made posts → CanServe sizes old v v.phase
serves sizes old v new made posts (device.announces there act) = by_phase sizes old v v.phase there (waits_still sizes old (item.Request v) v.request new made posts act)
serves sizes old v new made posts (device.stores x p to r durable inside h1 h2 h3) = subst (CanServe sizes old v) (sym p) (λ runs lasts. subst (IsAtInside sizes) (sym to) inside)
serves sizes old v new made posts (device.store_fails x kept p to r durable inside h1 h2 h3) = subst (CanServe sizes old v) (sym p) (λ runs lasts. subst (IsAtInside sizes) (sym to) inside)
serves sizes old v new made posts (device.store_unmade p stops h1 h2 h3) = subst (CanServe sizes old v) (sym p) (λ runs lasts. absurd cc)
serves sizes old v new made posts (device.loads x bytes p from ready inside h1 h2 h3) = subst (CanServe sizes old v) (sym p) (λ now. subst (IsAtInside sizes) (sym from) inside)
serves sizes old v new made posts (device.load_fails x bytes kept p from ready inside h1 h2 h3) = subst (CanServe sizes old v) (sym p) (λ now. subst (IsAtInside sizes) (sym from) inside)
serves sizes old v new made posts (device.loads_leaf x bytes ms p from ready inside is h1 h2 h3) = subst (CanServe sizes old v) (sym p) (λ now. subst (IsLeafInside sizes) (sym from) inside)
serves sizes old v new made posts (device.leaf_fails x bytes kept p from ready inside h1 h2 h3) = subst (CanServe sizes old v) (sym p) (λ now. subst (IsLeafInside sizes) (sym from) inside)
serves sizes old v new made posts (device.harms x bytes fault p from ready inside is h1 h2 h3) = subst (CanServe sizes old v) (sym p) (λ now. subst (IsLeafInside sizes) (sym from) inside)
serves sizes old v new made posts (device.flushes p r durable h1 h2 h3) = subst (CanServe sizes old v) (sym p) tt
serves sizes old v new made posts (device.flush_fails kept p r durable h1 h2 h3) = subst (CanServe sizes old v) (sym p) tt
serves sizes old v new made posts (device.flush_unmade p stops h1 h2 h3) = subst (CanServe sizes old v) (sym p) tt

pub can_serve : (sizes : Sizes) (old : DeviceZone) (v : Vio) → HasAct sizes (at.Device old) (item.Request v ∷ []) → CanServe sizes old v v.phase
can_serve sizes old v (new, made, posts, calls phase_rule) = serves sizes old v _ _ _ phase_rule

-- and works on a block with entries that needs a call
some_of_block : (b : SealedBlock) (v : Vio) (vs : List Vio) → b.vios ≡ v ∷ vs → 0 < length b.vios
some_of_block b v vs are = rw are (omega arith)

needed : (sizes : Sizes) (b : SealedBlock) (slot : Pbn) (ok : Bool) (call : Call) (q : Stage) → call_of sizes b slot ok q ≡ Some call → needs_call q ≡ true
needed sizes b slot ok call stage.Cover is = refl
needed sizes b slot ok call stage.Write is = refl
needed sizes b slot ok call stage.Harden is = refl
needed sizes b slot ok call other is = absurd cc

there_needed : (q : Stage) → (stage_rule q).zone ≡ id.Device → needs_call q ≡ true
there_needed stage.Cover is = refl
there_needed stage.Write is = refl
there_needed stage.Harden is = refl
there_needed other is = absurd cc

pub can_work : (sizes : Sizes) (old : DeviceZone) (b : SealedBlock) → HasAct sizes (at.Device old) (item.Block b ∷ []) → (0 < length b.vios) × (needs_call b.stage ≡ true)
can_work sizes old b (new, made, posts, works (device.announces v vs are there act)) = (some_of_block b v vs are, there_needed b.stage there)
can_work sizes old b (new, made, posts, works (device.makes call slot v vs are place is durable h1 h2 h3 h4)) = (some_of_block b v vs are, needed sizes b slot true call b.stage is)
can_work sizes old b (new, made, posts, works (device.fails call slot kept v vs are place is durable h1 h2 h3 h4)) = (some_of_block b v vs are, needed sizes b slot false call b.stage is)
can_work sizes old b (new, made, posts, works (device.unmade call slot v vs are is h1 h2 h3 h4)) = (some_of_block b v vs are, needed sizes b slot false call b.stage is)
