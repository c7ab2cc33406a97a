-- What recovery answers is what the one image of an honest device says; and where it answers that the device failed, the
-- last call failed.
use Rattle.std.proofs.Common.{ℕ, ◌≡◌, ◌≤◌, ◌++◌, Bool, true, false, List, [], ◌∷◌, Ok, length, reverse, refl, inl, inr, arith}
use Rattle.audit.specs.Audits.{AuditWithFails, BothShow}
use Rattle.audit.specs.Reports.{HasNoFault}
use Rattle.blk_base.specs.Regions.{needed_blocks}
use Rattle.blk_base.specs.declared.geometry.Geometry.{Geometry}
use Rattle.blk_base.specs.declared.geometry.Super.{Super as Superblock}
use Rattle.disk_model.specs.declared.call.Call.{Call}
use Rattle.disk_model.specs.Log.{Blocks}
use Rattle.disk_model.specs.Seen.{Seen}
use Rattle.disk_model.specs.Trust.{Trust, trust_of}
use Rattle.disk_model.specs.Since.{IsUntouched}
use Rattle.disk_model.proofs.SinceLaws.{untouched_on, untouched_yet, were_only_read}
use Rattle.image_format.specs.Formats.{LastFailed}
use Rattle.image_layout.specs.Opened.{super_of_image}
use Rattle.image_model.specs.Faults.{IsCountFault, IsOpened, IsShareFault}
use Rattle.image_model.specs.Maps.{Image, ArePagesGood}
use Rattle.image_model.specs.Sound.{AreStored, Opens, image_of}
use Rattle.image_model.specs.declared.fault.ImageFault.{ImageFault}
use Rattle.image_model.specs.declared.fault.ImageFault.TheVariants.{Super, Window, Page, Counter, SharedPage, Counts, Device, Unclean, Memory}
use Rattle.image_model.specs.Looked.{HasOneImageButIndex}
use Rattle.image_model.proofs.LookedLaws.{looked_in_place}
use Rattle.image_opening.proofs.HeadLaws.{head_fault, head_shown}
use Rattle.image_opening.specs.Heads.{HeadFails, IsHeadRead}
use Rattle.journal_window.proofs.ReadWindowLaws.{fault_shown, window_shown}
use Rattle.journal_window.specs.Reads.{Fails, IsWindowRead}
use Rattle.journal_window.specs.States.{WindowState}
use Rattle.replay_map.proofs.HonestLaws.{all_shown}
use Rattle.replay_map.proofs.ReadLaws.{blocks_untouched}
use Rattle.slab_reading.specs.Reads.{SlabsRead}
use Rattle.slab_reading.specs.Slabs.{first_of_slab}
use Rattle.rebuild.proofs.FailLaws.{failed_after, read_is_last, told_failed}
use Rattle.rebuild.proofs.ReadLaws.{both_shown, still}
use Rattle.rebuild.specs.Outcomes.{HasEntries, UncleanFails}
use Rattle.rebuild.specs.Recoveries.{IsAnswer, IsRefusal, IsTold, IsUnclean, RecoverFails}
use Rattle.rebuild.specs.declared.forms.Recovered.TheVariants.{Clean, Entries}

-- The last call failed.

slabs_later : (trust : Trust) (g : Geometry) (before now : Seen) (reads : List Blocks) → SlabsRead trust g before now reads → IsUntouched trust.tells before now
slabs_later trust g before now [] same = rw same (untouched_yet trust.tells before)
slabs_later trust g before now (read ∷ older) (middle, earlier, is) =
    untouched_on trust.tells before middle now (slabs_later trust g before middle older earlier)
    (were_only_read trust (first_of_slab g (length older)) middle now (reverse read) is.reads)

-- pages and slabs that were read leave the device as it was
pub both_read : (trust : Trust) (head : Superblock) (window : WindowState) (before now : Seen) (Says : Image → Type 0) → BothShow trust head window before now Says → IsUntouched trust.tells before now
both_read trust head window before now Says (pages, slabs, read, says) =
    untouched_on trust.tells before read.middle now (blocks_untouched trust head.geometry before read.middle pages read.pages_read)
    (slabs_later trust head.geometry read.middle now slabs read.slabs_read.read)

pub both_logged : (honest : Bool) (head : Superblock) (window : WindowState) (before now : Seen) (Says : Image → Type 0) → BothShow (trust_of true honest) head window before now Says
    → (calls : List Call) × (now.log ≡ calls ++ before.log)
both_logged honest head window before now Says shown = let reads = (both_read (trust_of true honest) head window before now Says shown).reads refl in (reads.0, reads.1)

pub audit_last : (trust : Trust) (head : Superblock) (window : WindowState) (before now : Seen) → AuditWithFails trust head window before now Device → LastFailed trust.tells before now
audit_last trust head window before now (inl (reads, middle, at, read, failed, stands)) =
    failed_after trust.tells before middle now (blocks_untouched trust head.geometry before middle reads read) (read_is_last trust at.0 middle now [] failed)
audit_last trust head window before now (inr (pages, middle, read, (slabs, few, last, slabs_read, (blocks, short, failed)))) =
    failed_after trust.tells before middle now (blocks_untouched trust head.geometry before middle pages read)
    (failed_after trust.tells middle last now (slabs_later trust head.geometry middle last slabs slabs_read)
    (read_is_last trust (first_of_slab head.geometry (length slabs)) last now blocks failed))

pub unclean_last : (trust : Trust) (head : Superblock) (before now : Seen) → UncleanFails trust head before now Device → LastFailed trust.tells before now
unclean_last trust head before now (inl (blocks, few, failed)) = read_is_last trust 1 before now blocks failed
unclean_last trust head before now (inr (inl (middle, window, read, fails))) =
    failed_after trust.tells before middle now (were_only_read trust 1 before middle (reverse read.0) read.1.read) (audit_last trust head window middle now fails)
unclean_last trust head before now (inr (inr (same, failed))) = failed

pub recover_last : (trust : Trust) (before now : Seen) → RecoverFails trust before now Device → LastFailed trust.tells before now
recover_last trust before now (inl failed) = read_is_last trust 0 before now [] failed
recover_last trust before now (inr (head, middle, read, unclean, fails)) =
    failed_after trust.tells before middle now (were_only_read trust 0 before middle (read.block ∷ []) read.read) (unclean_last trust head middle now fails)

-- By the one image.

module _ (trust : Trust) (before : Seen) (blocks : Blocks) (is : IsTold trust before blocks) where
  module _ (middle : Seen) (head : Superblock) (head_read : IsHeadRead trust before middle head) where
    abbrev pub accepted : super_of_image blocks ≡ Ok head
    accepted = head_shown trust before middle blocks is.told is.fair is.one head head_read

    pub head_untouched : IsUntouched trust.tells before middle
    head_untouched = were_only_read trust 0 before middle (head_read.block ∷ []) head_read.read

    pub one_there : HasOneImageButIndex middle.opening middle.log blocks
    one_there = still trust blocks is.told is.fair before middle head_untouched is.one

    pub last_here : (now : Seen) → LastFailed trust.tells middle now → LastFailed true before now
    last_here now failed = told_failed trust.tells before now is.told (failed_after trust.tells before middle now head_untouched failed)

    pub enough : needed_blocks head.geometry ≤ middle.size
    enough = let room = head_read.is.room in let size = head_untouched.stays.size in omega (arith, room, size)

    module _ (second : Seen) (window : WindowState) (read : IsWindowRead trust middle second head window) where
      pub window_opens : Opens blocks head window.last window.entries
      window_opens = window_shown trust middle second blocks is.told is.fair one_there head enough accepted window read

      pub window_untouched : IsUntouched trust.tells middle second
      window_untouched = were_only_read trust 1 middle second (reverse read.0) read.1.read

      pub one_behind : HasOneImageButIndex second.opening second.log blocks
      one_behind = still trust blocks is.told is.fair middle second window_untouched one_there

      pub enough_behind : needed_blocks head.geometry ≤ second.size
      enough_behind = let room = enough in let size = window_untouched.stays.size in omega (arith, room, size)

      pub opened : IsOpened blocks (image_of head blocks window.entries)
      opened = record { head = head; last = window.last; opens = window_opens; is_image = refl }

      audit_fault : (now : Seen) (why : ImageFault) → AuditWithFails trust head window second now why → IsUnclean blocks → IsRefusal blocks before now why
      audit_fault now (Page at fault) (pages, pages_read, says) unclean =
          (unclean, (image_of head blocks window.entries, opened, says blocks (all_shown trust blocks is.told is.fair head.geometry second now pages (looked_in_place blocks head accepted) one_behind pages_read)))
      audit_fault now (Counter at point) fails unclean =
          let said = both_shown trust blocks is.told is.fair head window second now (λ image. ArePagesGood image × IsCountFault image at point.0) accepted one_behind enough_behind fails in
          (unclean, (image_of head blocks window.entries, opened, said.0, said.1))
      audit_fault now (SharedPage at) fails unclean =
          let said = both_shown trust blocks is.told is.fair head window second now (λ image. ArePagesGood image × AreStored image × IsShareFault image at) accepted one_behind enough_behind fails in
          (unclean, (image_of head blocks window.entries, opened, said.0, said.1, said.2))
      audit_fault now Device fails unclean =
          last_here now (unclean_last trust head middle now (inr (inl (second, window, read, fails))))
      audit_fault now Memory fails unclean = unclean
      audit_fault now (Super fault) fails unclean = absurd fails
      audit_fault now (Window sequence) fails unclean = absurd fails
      audit_fault now (Counts at stored mapped) fails unclean = absurd fails
      audit_fault now Unclean fails unclean = absurd fails

    window_fault : (now : Seen) (why : ImageFault) → Fails trust middle now head why → IsUnclean blocks → IsRefusal blocks before now why
    window_fault now (Super fault) fails unclean = fault_shown trust middle now blocks is.told is.fair one_there head enough accepted (Super fault) fails
    window_fault now (Window sequence) fails unclean = (unclean, fault_shown trust middle now blocks is.told is.fair one_there head enough accepted (Window sequence) fails)
    window_fault now Device (read, few, failed) unclean = last_here now (read_is_last trust 1 middle now read failed)
    window_fault now Memory fails unclean = unclean
    window_fault now (Page at fault) fails unclean = absurd fails
    window_fault now (Counter at point) fails unclean = absurd fails
    window_fault now (SharedPage at) fails unclean = absurd fails
    window_fault now (Counts at stored mapped) fails unclean = absurd fails
    window_fault now Unclean fails unclean = absurd fails

    device_refused : (now : Seen) (why : ImageFault) → why ≡ Device → LastFailed true before now → IsRefusal blocks before now why
    device_refused now why same failed = rw same failed

    pub unclean_refused : (now : Seen) (why : ImageFault) → head.clean ≡ false → UncleanFails trust head middle now why → IsRefusal blocks before now why
    unclean_refused now why unclean (inl fails) = window_fault now why fails (head, accepted, unclean)
    unclean_refused now why unclean (inr (inl (second, window, read, fails))) = audit_fault second window read now why fails (head, accepted, unclean)
    unclean_refused now why unclean (inr (inr (same, failed))) = device_refused now why same (last_here now failed)

    pub clean_answer : head.clean ≡ true → IsAnswer blocks Clean
    clean_answer clean = (head, accepted, clean)

    pub entries_answer : (now : Seen) (count : ℕ) → head.clean ≡ false → HasEntries trust head middle now count → IsAnswer blocks (Entries count)
    entries_answer now count unclean has = (
      head,
      has.window.last,
      has.window.entries,
      window_opens has.middle has.window has.read,
      unclean,
      has.number,
      both_shown trust blocks is.told is.fair head has.window has.middle has.behind HasNoFault accepted (one_behind has.middle has.window has.read) (enough_behind has.middle has.window has.read) has.right,
    )

  pub head_refused : (now : Seen) (why : ImageFault) → length before.opening ≡ before.size → HeadFails trust before now why → IsRefusal blocks before now why
  head_refused now (Super fault) told fails = head_fault trust before now blocks is.told is.fair is.one (Super fault) told fails
  head_refused now Device told failed = told_failed trust.tells before now is.told (read_is_last trust 0 before now [] failed)
  head_refused now (Window sequence) told fails = absurd fails
  head_refused now (Page at fault) told fails = absurd fails
  head_refused now (Counter at point) told fails = absurd fails
  head_refused now (SharedPage at) told fails = absurd fails
  head_refused now (Counts at stored mapped) told fails = absurd fails
  head_refused now Unclean told fails = absurd fails
  head_refused now Memory told fails = absurd fails
