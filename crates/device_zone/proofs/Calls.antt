-- What a call leaves in the log of the device, as a part of the trace.
use Rattle.std.proofs.Common.{◌≡◌, ◌<◌, ◌≤◌, Bool, true, false, List, [], ◌∷◌, ◌++◌, Result, Ok, Err, OnOk, OnErr, Some, IsTrue, ℕ, length, slice_index_or, refl, ap, sym, ◌∙◌, inl, inr, arith}
use Rattle.blk_base.specs.Pages.{slot_of_address}
use Rattle.blk_base.specs.declared.place.Pbn.{Pbn}
use Rattle.blk_base.specs.declared.place.ZoneId.{ZoneId}
use Rattle.blk_base.specs.declared.request.Writer.{Writer}
use Rattle.page_codec.specs.declared.fault.PageFault.{PageFault}
use Rattle.disk_model.specs.declared.call.Call.{Call}
use Rattle.disk_model.specs.declared.call.Call.TheVariants as call
use Rattle.disk_model.specs.Causes.{Rose, HasCause}
use Rattle.disk_model.specs.Images.{IsMixOf}
use Rattle.disk_model.specs.Log.{Blocks, settled}
use Rattle.disk_model.specs.Seen.{Seen, Stays}
use Rattle.disk_model.specs.Trust.{Trust, trust_of}
use Rattle.disk_model.specs.LogSteps.{FailedInLog}
use Rattle.data_vio.specs.declared.items.Item.TheVariants as item
use Rattle.data_vio.specs.declared.items.SealedBlock.{SealedBlock}
use Rattle.data_vio.specs.declared.items.Stage.{Stage}
use Rattle.data_vio.specs.declared.items.Stage.TheVariants as stage
use Rattle.data_vio.specs.declared.items.Vio.{Vio}
use Rattle.data_vio.specs.declared.sizes.Sizes.{Sizes}
use Rattle.core_model.specs.DeviceRules.{call_of, journal_bytes}
use Rattle.core_model.specs.Trace.{Calls, Harms}
use Rattle.data_vio.specs.Vios.{Post, ended, has_leaf}
use Rattle.data_vio.specs.declared.items.Phase.TheVariants as phase
use Rattle.blk_base.specs.declared.request.Answer.TheVariants as reply
use Rattle.blk_base.specs.declared.place.Mapping.{Mapping}
use Rattle.blk_base.specs.declared.place.Mapping.TheVariants.{Unmapped}
use Rattle.step_parts.specs.DeviceLog.{GivesSettled, HasCalled}
use Rattle.device_zone.specs.DeviceCalls.{HasFailed, needs_call}

-- what a call that succeeded gave: a write and a flush nothing, and a read a block
pub no_read_done : {T E : Type 0} (result : Result T E) → OnOk result (Unit {0})
no_read_done (Ok x) = tt
no_read_done (Err e) = tt

pub read_done : {T E : Type 0} (opening : Blocks) (log : List Call) (at : Pbn) (bytes : List ℕ) (result : Result T E)
    → OnOk result (length bytes ≡ 4096) → OnOk result (IsMixOf (settled opening log at.0) bytes) → OnOk result (GivesSettled opening log (Calls (call.Read at bytes true) ∷ []))
read_done opening log at bytes (Ok x) whole given = (whole, given, tt)
read_done opening log at bytes (Err e) whole given = tt

-- a call that succeeded
pub done_call : {T E : Type 0} (trust : Trust) (before after : Seen) (c : Call) (result : Result T E)
    → Stays before after → (IsTrue trust.tells → IsTrue trust.honest → OnOk result (GivesSettled before.opening before.log (Calls c ∷ [])))
    → (IsTrue trust.tells → OnOk result (after.log ≡ c ∷ before.log)) → before.faults ≤ after.faults → before.unkept ≤ after.unkept
    → OnOk result (HasCalled trust before after (Calls c ∷ []))
done_call trust before after c (Err e) stays given said faults unkept = tt
done_call trust before after c (Ok x) stays given said faults unkept = record { stays = stays; given = given; log = said; faults = omega (arith, faults); unkept = omega (arith, unkept); idle = λ none. absurd cc }

-- a leaf that was read, and doesn't decode
pub harm_called : (trust : Trust) (before after : Seen) (w : Writer) (at : Pbn) (bytes : List ℕ) (fault : PageFault) → HasCalled trust before after (Calls (call.Read at bytes true) ∷ []) → HasCalled trust before after (Harms w at bytes fault ∷ [])
harm_called trust before after w at bytes fault done = record { stays = done.stays; log = done.log; given = done.given; faults = done.faults; unkept = done.unkept; idle = λ none. absurd cc }

-- a call that failed: it stands in the log, or the count of those without a place rose
failed : (tells honest : Bool) (before after : Seen) (c : Call) → Stays before after → (IsTrue tells → FailedInLog before.log after.log c (Rose before.unkept after.unkept))
    → Rose before.faults after.faults → before.unkept ≤ after.unkept → HasFailed (trust_of tells honest) before after c
failed true honest before after c stays said rose unkept = elim (said refl) [
  | inl logged ↦ (true, λ w. record { stays = stays; given = λ told fair. tt; log = λ notified. logged; faults = omega (arith, rose); unkept = omega (arith, unkept); idle = λ none. absurd cc })
  | inr lost ↦ (false, λ w. record { stays = stays; given = λ told fair. tt; log = λ notified. lost.0; faults = omega (arith, rose); unkept = (let more = lost.1 in omega (arith, more)); idle = λ none. absurd cc })
]
failed false honest before after c stays said rose unkept = (true, λ w. record { stays = stays; given = λ told fair. tt; log = λ (notified : false ≡ true). absurd cc; faults = omega (arith, rose); unkept = omega (arith, unkept); idle = λ none. absurd cc })

pub failed_call : {T E : Type 0} (trust : Trust) (before after : Seen) (c : Call) (result : Result T E)
    → Stays before after → (IsTrue trust.tells → OnErr result (FailedInLog before.log after.log c (Rose before.unkept after.unkept))) → HasCause before.faults after.faults result → before.unkept ≤ after.unkept
    → OnErr result (HasFailed trust before after c)
failed_call trust before after c (Ok x) stays said cause unkept = tt
failed_call trust before after c (Err e) stays said cause unkept = failed trust.tells trust.honest before after c stays said cause.failed unkept

-- the call of a sealed block that is written, and of one that is flushed
pub write_called : (sizes : Sizes) (b : SealedBlock) (slot : Pbn) (ok : Bool) (bytes : List ℕ) → b.stage ≡ stage.Write
    → bytes ≡ journal_bytes sizes b → call_of sizes b slot ok b.stage ≡ Some (call.Write slot bytes ok)
write_called sizes b slot ok bytes written bytes_are =
    ap (call_of sizes b slot ok) written ∙ ap (λ (x : List ℕ). Some (call.Write slot x ok)) (sym bytes_are)

pub flush_called : (sizes : Sizes) (b : SealedBlock) (slot : Pbn) (ok : Bool) (at : Stage) → needs_call at ≡ true → (at ≡ stage.Write → ⊥)
    → call_of sizes b slot ok at ≡ Some (call.Flush ok)
flush_called sizes b slot ok stage.Cover needed other = refl
flush_called sizes b slot ok stage.Write needed other = absurd (other refl)
flush_called sizes b slot ok stage.Harden needed other = refl
flush_called sizes b slot ok stage.Commit needed other = cc
flush_called sizes b slot ok stage.Fail needed other = cc

-- a stage that needs a call has one
pub some_call : (sizes : Sizes) (b : SealedBlock) (slot : Pbn) (ok : Bool) (at : Stage) → needs_call at ≡ true
    → (made : Call) × (call_of sizes b slot ok at ≡ Some made)
some_call sizes b slot ok stage.Cover needed = (call.Flush ok, refl)
some_call sizes b slot ok stage.Write needed = (call.Write slot (journal_bytes sizes b) ok, refl)
some_call sizes b slot ok stage.Harden needed = (call.Flush ok, refl)
some_call sizes b slot ok stage.Commit needed = (call.Flush ok, cc)
some_call sizes b slot ok stage.Fail needed = (call.Flush ok, cc)

-- the block that is posted, and where to, by another name
pub block_post : (posts rest : List Post) (to to' : ZoneId) (b b' : SealedBlock) → posts ≡ (to, item.Block b) ∷ rest → to ≡ to' → b ≡ b'
    → posts ≡ (to', item.Block b') ∷ rest
block_post posts rest to to' b b' posted to_is b_is = rw (← to_is, ← b_is) posted

-- the oldest request of a block that has one
pub oldest_of : (vs : List Vio) → 0 < length vs → (v : Vio) × (others : List Vio) × (vs ≡ v ∷ others)
oldest_of [] some = absurd (omega (arith, some))
oldest_of (v ∷ others) some = (v, others, refl)

-- what is posted of a leaf that was read, by another name of its request
pub posts_leaf : (posts : List Post) (v w seen seen_too : Vio) (mapping : Mapping) (ms : List Mapping) → posts ≡ (seen.home, item.Request w) ∷ [] → w ≡ has_leaf mapping v
    → mapping ≡ slice_index_or ms (slot_of_address seen_too.at.0) Unmapped → seen ≡ v → seen_too ≡ v → posts ≡ (v.home, item.Request (has_leaf (slice_index_or ms (slot_of_address v.at.0) Unmapped) v)) ∷ []
posts_leaf posts v w seen seen_too mapping ms posted w_is m_is seen_is seen_too_is = rw (posted, w_is, m_is, seen_is, seen_too_is) refl

pub posts_harm : (held posts rest : List Post) (v w seen : Vio) → held ≡ (seen.home, item.Request w) ∷ [] → posts ≡ held ++ rest → w ≡ ended phase.Abort reply.Damaged v → seen ≡ v
    → posts ≡ (v.home, item.Request (ended phase.Abort reply.Damaged v)) ∷ rest
posts_harm held posts rest v w seen held_is posted w_is seen_is = rw (posted, held_is, w_is, seen_is) refl
