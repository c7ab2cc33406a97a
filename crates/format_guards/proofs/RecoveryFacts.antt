-- What recovery and opening answer of an honest device, and what is left.
use Rattle.std.proofs.Common.{ℕ, ◌≡◌, ◌+◌, Bool, IsTrue, true, false, List, [], ◌∷◌, ◌++◌, Result, Ok, Err, OnOk, refl, sym, ◌∙◌, ap, subst}
use Rattle.std.specs.List.{AllByRecursion}
use Rattle.audit.specs.Reports.{HasNoFault}
use Rattle.blk_base.specs.declared.geometry.Geometry.{Geometry}
use Rattle.blk_base.specs.declared.geometry.Super.{Super as Superblock}
use Rattle.blk_base.specs.declared.journal_entry.CommittedEntry.{CommittedEntry}
use Rattle.blk_base.specs.declared.layout.DataPlace.{DataPlace}
use Rattle.blk_base.specs.declared.opened.Opened.{Opened}
use Rattle.disk_model.specs.declared.call.Call.{Call}
use Rattle.disk_model.specs.declared.call.Call.TheVariants.{Flush}
use Rattle.disk_model.specs.declared.call.Failed.{Failed}
use Rattle.disk_model.specs.Images.{IsImage}
use Rattle.disk_model.specs.Log.{Blocks}
use Rattle.disk_model.specs.Seen.{Seen}
use Rattle.disk_model.specs.Trust.{Trust}
use Rattle.disk_model.proofs.SeenLaws.{stays_yet}
use Rattle.image_layout.specs.Opened.{super_of_image}
use Rattle.image_model.specs.Counts.{Stores}
use Rattle.image_model.specs.Looked.{HasOneImageButIndex}
use Rattle.image_model.specs.Maps.{Image, value_of}
use Rattle.image_model.specs.Sound.{IsDataPlace, IsSound, Opens, image_of}
use Rattle.image_model.specs.declared.fault.ImageFault.{ImageFault}
use Rattle.rebuild.specs.Acts.{Acts, IsPageCall, IsPageStart, page_writing}
use Rattle.rebuild.specs.Openings.{IsOpening, OpensRight}
use Rattle.rebuild.specs.Recoveries.{IsAnswer, IsRecovery, IsTold, IsUnclean, LeavesClosed, LeavesTheSame}
use Rattle.rebuild.specs.declared.forms.Recovered.{Recovered}
use Rattle.rebuild.specs.declared.forms.Recovered.TheVariants.{Clean, Entries}
use Rattle.recovery_laws.specs.Kept.{image_in}
use Rattle.recovery_laws.specs.Recoverable.{IsRecoverable, recoverable_image}

-- an image has one superblock
pub one_head : (blocks : Blocks) (head other : Superblock) → super_of_image blocks ≡ Ok head → super_of_image blocks ≡ Ok other → head ≡ other
one_head blocks head other is is' = let same = sym is ∙ is' in cc same

-- which doesn't say both
not_both : (blocks : Blocks) (head other : Superblock) → super_of_image blocks ≡ Ok head → head.clean ≡ true → super_of_image blocks ≡ Ok other → other.clean ≡ false → ⊥
not_both blocks head other is clean is' unclean =
    let same = ap (λ (h : Superblock). h.clean) (one_head blocks head other is is') in absurd (let wrong = sym clean ∙ same ∙ unclean in cc wrong)

pub unclean_not_opened : (trust : Trust) (before now : Seen) (result : Result Opened ImageFault) → IsOpening trust before now result
    → OnOk result ((blocks : Blocks) → IsTold trust before blocks → IsUnclean blocks → ⊥)
unclean_not_opened trust before now (Ok opened) is = λ blocks told unclean.
    let right : OpensRight blocks opened = is.says blocks told in
    not_both blocks right.0 unclean.0 right.3.accepted right.4 unclean.1 unclean.2
unclean_not_opened trust before now (Err why) is = tt

-- what isn't closed isn't answered by `Clean`
not_clean : (trust : Trust) (before now : Seen) → IsRecovery trust before now (Ok Clean) → (blocks : Blocks) → IsTold trust before blocks
    → (head : Superblock) → super_of_image blocks ≡ Ok head → head.clean ≡ false → ⊥
not_clean trust before now is blocks told head accepted unclean =
    let said : IsAnswer blocks Clean = is.says blocks told in not_both blocks said.0 head said.1 said.2 accepted unclean

pub faulty_not_recovered : (trust : Trust) (before now : Seen) (result : Result Recovered ImageFault) → IsRecovery trust before now result
    → OnOk result ((blocks : Blocks) → IsTold trust before blocks → IsUnclean blocks
    → ((head : Superblock) (last : ℕ) (window : List CommittedEntry) → Opens blocks head last window → HasNoFault (image_of head blocks window) → ⊥) → ⊥)
faulty_not_recovered trust before now (Ok Clean) is = λ blocks told unclean faulty. not_clean trust before now is blocks told unclean.0 unclean.1 unclean.2
faulty_not_recovered trust before now (Ok (Entries count)) is = λ blocks told unclean faulty.
    let said : IsAnswer blocks (Entries count) = is.says blocks told in faulty said.0 said.1 said.2 said.3 said.6
faulty_not_recovered trust before now (Err why) is = tt

abbrev pub ClosedBehind : Seen → Geometry → ℕ → Type 0
ClosedBehind now g last = (image : Blocks) × HasOneImageButIndex now.opening now.log image
    × (super_of_image image ≡ Ok (record { geometry = g; clean = true; start = last + 2 }))

pub two_behind : (trust : Trust) (before now : Seen) (result : Result Recovered ImageFault) → IsRecovery trust before now result
    → OnOk result ((blocks : Blocks) (sound : IsSound blocks) → IsTold trust before blocks → sound.head.clean ≡ false
    → ClosedBehind now sound.head.geometry sound.last)
two_behind trust before now (Ok Clean) is = λ blocks sound told unclean. absurd (not_clean trust before now is blocks told sound.head sound.opens.accepted unclean)
two_behind trust before now (Ok (Entries count)) is = λ blocks sound told unclean.
    let left : LeavesClosed blocks now (Entries count) = is.closed blocks told in
    let one = left sound in
    (one.0, one.1, one.2.kept.sound.opens.accepted ∙ ap Ok one.2.closed)
two_behind trust before now (Err why) is = tt

-- Stops.

abbrev pub LeavesEach : (blocks : Blocks) → IsSound blocks → Blocks → List Call → List Call → Type 0
LeavesEach blocks sound opening first calls = (newer older : List Call) (image : Blocks) → calls ≡ newer ++ older → IsImage opening (older ++ first) image
    → (left : IsSound image) × ((address : ℕ) → value_of (image_in image left) address ≡ value_of (image_in blocks sound) address)

pub stops_keep : (trust : Trust) (before now : Seen) (result : Result Recovered ImageFault) → IsRecovery trust before now result
    → (blocks : Blocks) (sound : IsSound blocks) → IsTold trust before blocks
    → (calls : List Call) × (now.log ≡ calls ++ before.log) × LeavesEach blocks sound before.opening before.log calls
stops_keep trust before now result is blocks sound told =
    let since = is.stops blocks told sound in (
      since.0,
      since.1,
      λ newer older image parts stop. let kept = since.2.kept newer older image parts stop in (kept.sound, kept.same.values),
    )

-- Of an image that needn't be sound.

abbrev pub StoresStill : Seen → DataPlace → ℕ → Type 0
StoresStill now place stored = (image : Blocks) × HasOneImageButIndex now.opening now.log image
    × ((left : IsRecoverable image) × Stores (recoverable_image image left) place (Ok stored))

pub count_stays : (trust : Trust) (before now : Seen) (result : Result Recovered ImageFault) → IsRecovery trust before now result
    → OnOk result ((blocks : Blocks) (able : IsRecoverable blocks) (place : DataPlace) (stored : ℕ) → IsTold trust before blocks → able.head.clean ≡ false
    → IsDataPlace able.head.geometry place → Stores (recoverable_image blocks able) place (Ok stored) → StoresStill now place stored)
count_stays trust before now (Ok Clean) is = λ blocks able place stored told unclean inside stores. absurd (not_clean trust before now is blocks told able.head able.opens.accepted unclean)
count_stays trust before now (Ok (Entries count)) is = λ blocks able place stored told unclean inside stores.
    let left : LeavesTheSame blocks now (Entries count) = is.left blocks told in
    let one = left able in
    (one.0, one.1, (one.2.still.is, (one.2.still.same.counts place stored inside).1 stores))
count_stays trust before now (Err why) is = tt

abbrev pub LeavesValues : (blocks : Blocks) → IsRecoverable blocks → Blocks → List Call → List Call → Type 0
LeavesValues blocks able opening first calls = (newer older : List Call) (image : Blocks) → calls ≡ newer ++ older → IsImage opening (older ++ first) image
    → (left : IsRecoverable image) × ((address : ℕ) → value_of (recoverable_image image left) address ≡ value_of (recoverable_image blocks able) address)

pub stops_still : (trust : Trust) (before now : Seen) (result : Result Recovered ImageFault) → IsRecovery trust before now result
    → (blocks : Blocks) (able : IsRecoverable blocks) → IsTold trust before blocks
    → (calls : List Call) × (now.log ≡ calls ++ before.log) × LeavesValues blocks able before.opening before.log calls
stops_still trust before now result is blocks able told =
    let since = is.stands blocks told able in (
      since.0,
      since.1,
      λ newer older image parts stop. let still = since.2.still newer older image parts stop in (still.is, still.same.values),
    )

-- Pages.

not_flush : (image : Image) (call : Call) (ok : Bool) → IsPageCall image call → call ≡ Flush ok → ⊥
not_flush image call ok is same = subst (λ (c : Call). IsPageCall image c) same is

none_flushes : (image : Image) (calls : List Call) → AllByRecursion (IsPageCall image) calls → AllByRecursion (λ call. (ok : Bool) → call ≡ Flush ok → ⊥) calls
none_flushes image [] each = tt
none_flushes image (call ∷ calls) each = (λ ok same. not_flush image call ok each.0 same, none_flushes image calls each.1)

pub no_flush : (tells honest : Bool) (before now : Seen) (Needs : Image → Type 0) (Done : Image → List Call → Type 0) (result : Result (Unit {0}) Failed)
    → Acts tells (page_writing honest) before now Needs Done result
    → OnOk result (IsTrue tells → (image : Image) → IsPageStart honest before image → Needs image
    → (calls : List Call) × (now.log ≡ calls ++ before.log) × AllByRecursion (λ call. (ok : Bool) → call ≡ Flush ok → ⊥) calls)
no_flush tells honest before now Needs Done (Ok _) acts = λ told image start needed.
    let went = acts.writes told before (image, start) [] (record { stays = stays_yet before; logged = refl; each = tt }) needed in
    (went.0 ++ [], went.1.logged, none_flushes image (went.0 ++ []) went.1.each)
no_flush tells honest before now Needs Done (Err _) acts = tt
