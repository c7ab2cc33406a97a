-- What was read of the journal of an honest device on which nothing is pending but in the index is that of its one image.
use Rattle.std.proofs.Common.{ℕ, ◌≡◌, ◌+◌, ◌<◌, ◌≤◌, ◌++◌, Bool, false, IsTrue, List, [], ◌∷◌, length, take, drop, reverse, Result, Ok, refl, sym, ◌∙◌, ap, subst, inr, arith}
use Rattle.std.proofs.lemmas.List.{length-reverse, reverse-reverse}
use Rattle.blk_base.specs.Regions.{first_index_of, needed_blocks}
use Rattle.blk_base.specs.declared.geometry.Geometry.{Geometry}
use Rattle.blk_base.specs.declared.geometry.Super.{Super}
use Rattle.disk_model.specs.Log.{Blocks, block_at, settled}
use Rattle.disk_model.specs.Seen.{Seen}
use Rattle.disk_model.specs.Trust.{Trust}
use Rattle.disk_model.proofs.LookedLaws.{given_blocks}
use Rattle.image_layout.specs.Opened.{super_of_image}
use Rattle.image_layout.specs.Values.{journal_of}
use Rattle.image_layout.specs.declared.fault.SuperFault.{SuperFault}
use Rattle.image_model.proofs.LookedLaws.{looked_in_place, looked_low}
use Rattle.image_model.specs.Faults.{IsAtEnd, IsImageFault}
use Rattle.image_model.specs.Looked.{HasOneImageButIndex, looked_in}
use Rattle.image_model.specs.Sound.{Opens}
use Rattle.image_model.specs.Windows.{IsLast, IsWindow, IsFaulty}
use Rattle.image_model.specs.declared.fault.ImageFault.{ImageFault}
use Rattle.image_model.specs.declared.fault.ImageFault.TheVariants.{Super as Superblock, Window, Page, Counter, SharedPage, Counts, Device, Unclean, Memory}
use Rattle.journal_window.specs.Reads.{IsJournalRead, IsWindowRead, Fails}
use Rattle.journal_window.specs.States.{WindowState}
use Rattle.journal_window.specs.Windows.{IsUsedUp}

one_head : (a b : Super) → ◌≡◌ {A = Result Super SuperFault} (Ok a) (Ok b) → a ≡ b
one_head a b same = cc

module _ (trust : Trust) (before now : Seen) (image : Blocks) (told : IsTrue trust.tells) (fair : IsTrue trust.honest) (one : HasOneImageButIndex before.opening before.log image) where
  -- the blocks of the journal
  pub journal_shown : (head : Super) (journal : Blocks) → needed_blocks head.geometry ≤ before.size → super_of_image image ≡ Ok head → IsJournalRead trust before now head.geometry journal
      → journal ≡ journal_of head.geometry image
  journal_shown head journal room accepted read =
      let count = read.count in
      let size = length-reverse journal in
      let opening = read.read.told told in
      sym (reverse-reverse journal)
      ∙ given_blocks (looked_in image) trust 1 before image told fair one (reverse journal) read.read.given (omega (arith, count, size, opening, room))
      (λ b less. looked_in_place image head accepted b (looked_low head.geometry b (omega (arith, less, count, size))))
      ∙ ap (λ (n : ℕ). take n (drop 1 image)) (size ∙ count)

  module _ (head : Super) (room : needed_blocks head.geometry ≤ before.size) (accepted : super_of_image image ≡ Ok head) where
    pub window_shown : (window : WindowState) → IsWindowRead trust before now head window → Opens image head window.last window.entries
    window_shown window (journal, read, is) = record {
      accepted = accepted;
      sequences = is.sequences;
      is_window = subst (λ (blocks : Blocks). IsWindow head.geometry head.start blocks window.last window.entries) (journal_shown head journal room accepted read) is.is_window;
    }

    -- the sequences of the image are used up where those of the blocks are, and the other way round
    at_end : (journal : Blocks) → journal ≡ journal_of head.geometry image → IsUsedUp head journal → IsAtEnd image
    at_end journal same used = record {
      head = head;
      accepted = accepted;
      unclean = used.unclean;
      last = used.last;
      is_last = subst (λ (blocks : Blocks). IsLast head.geometry head.start blocks used.last) same used.is_last;
      past = used.past;
    }

    used_up : (journal : Blocks) → journal ≡ journal_of head.geometry image → IsAtEnd image → IsUsedUp head journal
    used_up journal same ended =
        let here : ended.head ≡ head = one_head ended.head head (sym ended.accepted ∙ accepted) in
        record {
          unclean = subst (λ (h : Super). h.clean ≡ false) here ended.unclean;
          last = ended.last;
          is_last = subst (λ (blocks : Blocks). IsLast head.geometry head.start blocks ended.last) (sym same)
              (subst (λ (h : Super). IsLast h.geometry h.start (journal_of h.geometry image) ended.last) here ended.is_last);
          past = ended.past;
        }

    pub fault_shown : (why : ImageFault) → Fails trust before now head why → IsImageFault image why
    fault_shown (Superblock fault) (journal, read, refused) = inr (refused.0, at_end journal (journal_shown head journal room accepted read) refused.1)
    fault_shown (Window sequence) (journal, read, refused) =
        let same = journal_shown head journal room accepted read in
        record {
          head = head;
          accepted = accepted;
          sequences = λ ended. refused.0 (used_up journal same ended);
          faulty = subst (λ (blocks : Blocks). IsFaulty head.geometry head.start blocks sequence) same refused.1;
        }
    fault_shown Device fails = tt
    fault_shown Memory fails = tt
    fault_shown (Page at fault) fails = absurd fails
    fault_shown (Counter at point) fails = absurd fails
    fault_shown (SharedPage at) fails = absurd fails
    fault_shown (Counts at stored mapped) fails = absurd fails
    fault_shown Unclean fails = absurd fails
