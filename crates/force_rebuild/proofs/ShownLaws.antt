-- What a forced rebuild answers is what the one image of an honest device says; and where it answers that the device failed,
-- the last call failed.
use Rattle.std.proofs.Common.{ℕ, ◌≡◌, ◌≤◌, Bool, IsTrue, true, [], ◌∷◌, Ok, length, reverse, take, drop, refl, sym, ◌∙◌, ap, subst, inl, inr, arith}
use Rattle.std.proofs.lemmas.List.{length-reverse, reverse-reverse}
use Rattle.blk_base.specs.Regions.{needed_blocks}
use Rattle.blk_base.specs.declared.geometry.Super.{Super as Superblock}
use Rattle.disk_model.proofs.LookedLaws.{given_blocks}
use Rattle.disk_model.proofs.SinceLaws.{were_only_read}
use Rattle.disk_model.specs.Log.{Blocks}
use Rattle.disk_model.specs.Seen.{Seen}
use Rattle.disk_model.specs.Trust.{Trust}
use Rattle.disk_model.specs.Since.{IsUntouched}
use Rattle.image_format.specs.Formats.{LastFailed}
use Rattle.image_layout.specs.Opened.{super_of_image}
use Rattle.image_layout.specs.Values.{journal_of}
use Rattle.image_layout.specs.declared.fault.SuperFault.{SuperFault}
use Rattle.image_model.specs.Faults.{IsImageFault, IsPageFault, IsShareFault}
use Rattle.image_model.specs.Looked.{HasOneImageButIndex, looked_in}
use Rattle.image_model.proofs.LookedLaws.{looked_in_place, looked_low}
use Rattle.image_model.specs.Maps.{Image, ArePagesGood}
use Rattle.image_model.specs.Sound.{image_of}
use Rattle.image_model.specs.Windows.{IsFaulty, IsLast, IsWindow}
use Rattle.image_model.specs.declared.fault.ImageFault.{ImageFault}
use Rattle.image_model.specs.declared.fault.ImageFault.TheVariants.{Super, Window, Page, Counter, SharedPage, Counts, Device, Unclean, Memory}
use Rattle.image_opening.proofs.HeadLaws.{head_fault, head_shown}
use Rattle.image_opening.specs.Heads.{HeadFails, IsHeadRead}
use Rattle.journal_window.specs.Reads.{IsJournalRead, IsWindowRead, Fails}
use Rattle.journal_window.specs.States.{WindowState}
use Rattle.rebuild.proofs.FailLaws.{failed_after, read_is_last, told_failed}
use Rattle.rebuild.proofs.ReadLaws.{still}
use Rattle.rebuild.specs.Recoveries.{IsTold}
use Rattle.replay_map.proofs.HonestLaws.{all_shown}
use Rattle.replay_map.proofs.ReadLaws.{blocks_untouched}
use Rattle.replay_map.specs.Replayed.{IsFound}
use Rattle.force_rebuild.specs.Counted.{IsCountedTo, IsUncountable}
use Rattle.force_rebuild.specs.ForcedRebuild.{CountingFails, ForceFails, HasCounted, HasWindow, IsRefusal, IsResult, UnclosedFails, unclosed}
use Rattle.force_rebuild.specs.declared.forms.Forced.{Forced}

-- The last call, of any device.

pub counting_last : (trust : Trust) (head : Superblock) (window : WindowState) (before now : Seen) → CountingFails trust head.geometry window.entries before now Device → LastFailed trust.tells before now
counting_last trust head window before now (reads, middle, at, read, failed, stands) =
    failed_after trust.tells before middle now (blocks_untouched trust head.geometry before middle reads read) (read_is_last trust at.0 middle now [] failed)

unclosed_last : (trust : Trust) (head : Superblock) (before now : Seen) → UnclosedFails trust head before now Device → LastFailed trust.tells before now
unclosed_last trust head before now (inl (blocks, few, failed)) = read_is_last trust 1 before now blocks failed
unclosed_last trust head before now (inr (inl (middle, window, read, fails))) =
    failed_after trust.tells before middle now (were_only_read trust 1 before middle (reverse read.0) read.1.read) (counting_last trust head window middle now fails)
unclosed_last trust head before now (inr (inr (same, failed))) = failed

pub force_last : (trust : Trust) (before now : Seen) → ForceFails trust before now Device → LastFailed trust.tells before now
force_last trust before now (inl failed) = read_is_last trust 0 before now [] failed
force_last trust before now (inr (head, middle, read, fails)) =
    failed_after trust.tells before middle now (were_only_read trust 0 before middle (read.block ∷ []) read.read) (unclosed_last trust (unclosed head) middle now fails)

-- By the one image.

module _ (trust : Trust) (blocks : Blocks) (told : IsTrue trust.tells) (fair : IsTrue trust.honest) where
  -- the journal that was read is that of the image
  journal_shown : (head : Superblock) (journal : Blocks) (first now : Seen) → HasOneImageButIndex first.opening first.log blocks → needed_blocks head.geometry ≤ first.size
      → super_of_image blocks ≡ Ok head → IsJournalRead trust first now head.geometry journal → journal ≡ journal_of head.geometry blocks
  journal_shown head journal first now one room accepted read =
      let count = read.count in
      let size = length-reverse journal in
      let opening = read.read.told told in
      sym (reverse-reverse journal)
      ∙ given_blocks (looked_in blocks) trust 1 first blocks told fair one (reverse journal) read.read.given (omega (arith, count, size, opening, room))
      (λ b less. looked_in_place blocks head accepted b (looked_low head.geometry b (omega (arith, less, count, size))))
      ∙ ap (λ (n : ℕ). take n (drop 1 blocks)) (size ∙ count)

  module _ (middle : Seen) (head : Superblock) (accepted : super_of_image blocks ≡ Ok head) (one_there : HasOneImageButIndex middle.opening middle.log blocks)
      (enough : needed_blocks head.geometry ≤ middle.size) (second : Seen) (window : WindowState) (read : IsWindowRead trust middle second (unclosed head) window) where
    abbrev image : Image
    image = image_of head blocks window.entries

    pub window_here : IsWindow head.geometry head.start (journal_of head.geometry blocks) window.last window.entries
    window_here =
        subst (λ (list : Blocks). IsWindow head.geometry head.start list window.last window.entries) (journal_shown head read.0 middle second one_there enough accepted read.1) read.2.is_window

    pub has_window : HasWindow blocks image
    has_window = record { head = head; last = window.last; accepted = accepted; sequences = read.2.sequences refl; is_window = window_here; is_image = refl }

    pub window_untouched : IsUntouched trust.tells middle second
    window_untouched = were_only_read trust 1 middle second (reverse read.0) read.1.read

    one_behind : HasOneImageButIndex second.opening second.log blocks
    one_behind = still trust blocks told fair middle second window_untouched one_there

    pub found_here : (now : Seen) (Says : Image → Type 0) → IsFound trust head.geometry window.entries second now Says → Says image
    found_here now Says (pages, pages_read, says) = says blocks (all_shown trust blocks told fair head.geometry second now pages (looked_in_place blocks head accepted) one_behind pages_read)

module _ (trust : Trust) (before : Seen) (blocks : Blocks) (is : IsTold trust before blocks) where
  module _ (middle : Seen) (head : Superblock) (head_read : IsHeadRead trust before middle head) where
    pub accepted : super_of_image blocks ≡ Ok head
    accepted = head_shown trust before middle blocks is.told is.fair is.one head head_read

    head_untouched : IsUntouched trust.tells before middle
    head_untouched = were_only_read trust 0 before middle (head_read.block ∷ []) head_read.read

    one_there : HasOneImageButIndex middle.opening middle.log blocks
    one_there = still trust blocks is.told is.fair before middle head_untouched is.one

    last_here : (now : Seen) → LastFailed trust.tells middle now → LastFailed true before now
    last_here now failed = told_failed trust.tells before now is.told (failed_after trust.tells before middle now head_untouched failed)

    enough : needed_blocks head.geometry ≤ middle.size
    enough = let room = head_read.is.room in let size = head_untouched.stays.size in omega (arith, room, size)

    module _ (second : Seen) (window : WindowState) (read : IsWindowRead trust middle second (unclosed head) window) where
      abbrev image_here : Image
      image_here = image_of head blocks window.entries

      there : HasWindow blocks image_here
      there = has_window trust blocks is.told is.fair middle head accepted one_there enough second window read

      found : (now : Seen) (Says : Image → Type 0) → IsFound trust head.geometry window.entries second now Says → Says image_here
      found now Says shown = found_here trust blocks is.told is.fair middle head accepted one_there enough second window read now Says shown

      counting_refused : (now : Seen) (why : ImageFault) → CountingFails trust head.geometry window.entries second now why → IsRefusal blocks before now why
      counting_refused now (Page at fault) shown = (image_here, there, found now (λ i. IsPageFault i at fault) shown)
      counting_refused now (SharedPage at) shown = let said = found now (λ i. ArePagesGood i × IsShareFault i at) shown in (image_here, there, said.0, said.1)
      counting_refused now (Counts at stored mapped) shown = (image_here, there, found now (λ i. IsUncountable i at stored mapped) shown)
      counting_refused now Device failed =
          last_here now (failed_after trust.tells middle second now
          (window_untouched trust blocks is.told is.fair middle head accepted one_there enough second window read) (counting_last trust head window second now failed))
      counting_refused now Memory fails = tt
      counting_refused now (Super fault) fails = absurd fails
      counting_refused now (Window sequence) fails = absurd fails
      counting_refused now (Counter at point) fails = absurd fails
      counting_refused now Unclean fails = absurd fails

    window_refused : (now : Seen) (why : ImageFault) → Fails trust middle now (unclosed head) why → IsRefusal blocks before now why
    window_refused now (Super fault) (journal, read, refused) =
        let same = journal_shown trust blocks is.told is.fair head journal middle now one_there enough accepted read in
        inr (
          refused.0,
          record {
            head = head;
            accepted = accepted;
            last = refused.1.last;
            is_last = subst (λ (list : Blocks). IsLast head.geometry head.start list refused.1.last) same refused.1.is_last;
            past = refused.1.past;
          },
        )
    window_refused now (Window sequence) (journal, read, refused) =
        let same = journal_shown trust blocks is.told is.fair head journal middle now one_there enough accepted read in
        record {
          head = head;
          accepted = accepted;
          sequences = λ used.
              let there = used.accepted in
              let here = accepted in
              let one : used.head ≡ head = cc (there, here) in
              refused.0 (record {
                unclean = refl;
                last = used.last;
                is_last = subst (λ (list : Blocks). IsLast head.geometry head.start list used.last) (sym same)
                    (subst (λ (h : Superblock). IsLast h.geometry h.start (journal_of h.geometry blocks) used.last) one used.is_last);
                past = used.past;
              });
          faulty = subst (λ (list : Blocks). IsFaulty head.geometry head.start list sequence) same refused.1;
        }
    window_refused now Device (read, few, failed) = last_here now (read_is_last trust 1 middle now read failed)
    window_refused now Memory fails = tt
    window_refused now (Page at fault) fails = absurd fails
    window_refused now (Counter at point) fails = absurd fails
    window_refused now (SharedPage at) fails = absurd fails
    window_refused now (Counts at stored mapped) fails = absurd fails
    window_refused now Unclean fails = absurd fails

    device_refused : (now : Seen) (why : ImageFault) → why ≡ Device → LastFailed true before now → IsRefusal blocks before now why
    device_refused now why same failed = rw same failed

    pub unclosed_refused : (now : Seen) (why : ImageFault) → UnclosedFails trust (unclosed head) middle now why → IsRefusal blocks before now why
    unclosed_refused now why (inl fails) = window_refused now why fails
    unclosed_refused now why (inr (inl (second, window, read, fails))) = counting_refused second window read now why fails
    unclosed_refused now why (inr (inr (same, failed))) = device_refused now why same (last_here now failed)

    pub forced_answer : (now : Seen) (forced : Forced) → HasCounted trust (unclosed head) middle now forced → IsResult blocks before now (Ok forced)
    forced_answer now forced has =
        (image_here has.middle has.window has.read, there has.middle has.window has.read, found has.middle has.window has.read has.behind (λ i. IsCountedTo i forced) has.counted)

  super_refused : (now : Seen) (fault : SuperFault) → IsImageFault blocks (Super fault) → IsRefusal blocks before now (Super fault)
  super_refused now fault (inl refused) = inl refused
  super_refused now fault (inr (same, ended)) =
      inr (same, record { head = ended.head; accepted = ended.accepted; last = ended.last; is_last = ended.is_last; past = ended.past })

  pub head_refused : (now : Seen) (why : ImageFault) → length before.opening ≡ before.size → HeadFails trust before now why → IsRefusal blocks before now why
  head_refused now (Super fault) told fails = super_refused now fault (head_fault trust before now blocks is.told is.fair is.one (Super fault) told fails)
  head_refused now Device told failed = told_failed trust.tells before now is.told (read_is_last trust 0 before now [] failed)
  head_refused now (Window sequence) told fails = absurd fails
  head_refused now (Page at fault) told fails = absurd fails
  head_refused now (Counter at point) told fails = absurd fails
  head_refused now (SharedPage at) told fails = absurd fails
  head_refused now (Counts at stored mapped) told fails = absurd fails
  head_refused now Unclean told fails = absurd fails
  head_refused now Memory told fails = absurd fails
