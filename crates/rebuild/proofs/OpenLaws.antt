-- What opening an image promises, by how it ended.
use Rattle.std.proofs.Common.{ℕ, ◌≡◌, ◌≤◌, IsTrue, true, false, List, All, Result, Ok, Err, IsErrAnd, length, refl, sym, ◌∙◌, ap, subst, inl, inr}
use Rattle.audit.proofs.AuditLaws.{both_follow}
use Rattle.audit.specs.Audits.{AuditWithFails, BothShow, IsOpenedTo}
use Rattle.block_map_tree.specs.OpenedTree.{IsOpened as AreTrees, all_trees}
use Rattle.blk_base.specs.Counters.{limit_of}
use Rattle.blk_base.specs.Limits.{IsGeometry}
use Rattle.blk_base.specs.Regions.{needed_blocks, data_blocks}
use Rattle.blk_base.specs.declared.geometry.Geometry.{Geometry}
use Rattle.blk_base.specs.declared.geometry.Super.{Super as Superblock}
use Rattle.blk_base.specs.declared.opened.Opened.{Opened}
use Rattle.count_updates.specs.Numbers.{all_sectors}
use Rattle.disk_model.specs.Log.{Blocks}
use Rattle.disk_model.specs.Seen.{Seen}
use Rattle.disk_model.specs.Trust.{Trust}
use Rattle.disk_model.specs.Since.{IsUntouched}
use Rattle.disk_model.proofs.SinceLaws.{untouched_on}
use Rattle.image_layout.specs.Opened.{IsHead, super_of_image}
use Rattle.image_model.specs.Faults.{IsCountFault, IsOpened, IsShareFault}
use Rattle.image_model.specs.Maps.{Image, ArePagesGood}
use Rattle.image_model.specs.Sound.{AreStored, AreTrue, image_of}
use Rattle.image_model.specs.declared.fault.ImageFault.{ImageFault}
use Rattle.image_model.specs.declared.fault.ImageFault.TheVariants.{Super, Window, Page, Counter, SharedPage, Counts, Device, Unclean, Memory}
use Rattle.image_model.proofs.LookedLaws.{looked_in_place}
use Rattle.image_opening.specs.Heads.{HeadFails, IsHeadRead}
use Rattle.journal_window.proofs.ReadWindowLaws.{fault_shown}
use Rattle.journal_window.specs.Reads.{Fails, IsWindowRead}
use Rattle.journal_window.specs.States.{WindowState}
use Rattle.replay_counts.specs.Recovered.{HasCounts}
use Rattle.replay_map.proofs.HonestLaws.{all_shown}
use Rattle.replay_map.specs.Replayed.{HasMap}
use Rattle.session_opening.specs.Starts.{IsStart, AreLedTo}
use Rattle.rebuild.proofs.FailLaws.{failed_after, read_is_last}
use Rattle.rebuild.proofs.ReadLaws.{both_shown}
use Rattle.rebuild.proofs.ShownLaws.{accepted, audit_last, enough, enough_behind, head_refused, last_here, one_behind, one_there, opened, window_opens, window_untouched}
use Rattle.rebuild.specs.Openings.{CheckFails, Fits, HasWrongCount, IsCleanImage, IsOpenedWith, IsOpening, IsOpeningRefusal, IsRight, OpenWithFails, OpensRight}
use Rattle.audit.specs.Reads.{AreContents}
use Rattle.rebuild.specs.Recoveries.{IsTold}
use Rattle.audit.specs.declared.forms.Contents.{Contents}

-- From what was read.

module _ (trust : Trust) (head : Superblock) (window : WindowState) (before now : Seen) where
  stored_all : (image : Image) (contents : Contents) → HasCounts image contents.counts.counts.items contents.counts.sectors.items → AreStored image
  stored_all image contents has place inside = (_, has.stored place inside)

  pub opened_right : (contents : Contents) (opened : Opened) → AreContents trust head window before now contents
      → ((image : Image) → image.geometry ≡ head.geometry → HasMap image contents.map → HasCounts image contents.counts.counts.items contents.counts.sectors.items → AreTrue image)
      → ((image : Image) → image.geometry ≡ head.geometry → HasMap image contents.map → HasCounts image contents.counts.counts.items contents.counts.sectors.items
      → IsStart image head opened)
      → IsOpenedWith trust head window before now opened
  opened_right contents opened are true_all starts =
      both_follow trust head window before now (λ image. HasMap image contents.map × HasCounts image contents.counts.counts.items contents.counts.sectors.items) (λ image. IsRight image head opened)
      (λ image same has. record {
        pages = has.0.pages;
        unshared = has.0.unshared;
        counts = true_all image same has.0 has.1;
        start = starts image same has.0 has.1;
      }) are.shown

  pub check_failed : (contents : Contents) (why : ImageFault) → AreContents trust head window before now contents → CheckFails head.geometry contents why
      → OpenWithFails trust head window before now why
  check_failed contents (Counts at stored mapped) are fails =
      both_follow trust head window before now (λ image. HasMap image contents.map × HasCounts image contents.counts.counts.items contents.counts.sectors.items) (λ image. HasWrongCount image at stored mapped)
      (λ image same has. record {
        pages = has.0.pages;
        stored_all = stored_all image contents has.1;
        unshared = has.0.unshared;
        wrong = fails image same has.0 has.1;
      }) are.shown
  check_failed contents Memory are fails = tt
  check_failed contents (Super fault) are fails = absurd fails
  check_failed contents (Window sequence) are fails = absurd fails
  check_failed contents (Page at fault) are fails = absurd fails
  check_failed contents (Counter at point) are fails = absurd fails
  check_failed contents (SharedPage at) are fails = absurd fails
  check_failed contents Device are fails = absurd fails
  check_failed contents Unclean are fails = absurd fails

  pub fits_with : (contents : Contents) (opened : Opened) → IsGeometry head.geometry → AreContents trust head window before now contents → opened.head ≡ head
      → opened.counters.items ≡ contents.counts.counts.items → length opened.commits.items ≡ length contents.counts.sectors.items
      → AreTrees (all_trees head.geometry) opened.pages.items → AreLedTo head.geometry opened.pages.items opened.tree_pages.items → Fits opened
  fits_with contents opened sizes are same counters commits pages tree_pages =
      let geometry : head.geometry ≡ opened.head.geometry = sym (ap (λ (h : Superblock). h.geometry) same) in
      let g = head.geometry in record {
        sizes = subst IsGeometry geometry sizes;
        counters = subst (λ (h : Geometry). length opened.counters.items ≡ data_blocks h) geometry (ap (λ (ns : List ℕ). length ns) counters ∙ are.blocks);
        limit = subst (λ (h : Geometry). All (λ (n : ℕ). n ≤ limit_of h) opened.counters.items) geometry
            (subst (λ (ns : List ℕ). All (λ (n : ℕ). n ≤ limit_of g) ns) (sym counters) are.limit);
        commits = subst (λ (h : Geometry). length opened.commits.items ≡ all_sectors h) geometry (commits ∙ are.sectors);
        pages = subst (λ (h : Geometry). AreTrees (all_trees h) opened.pages.items) geometry pages;
        tree_pages = subst (λ (h : Geometry). AreLedTo h opened.pages.items opened.tree_pages.items) geometry tree_pages;
      }

  -- the faults of an audit come here too
  pub audit_failed : (why : ImageFault) → AuditWithFails trust head window before now why → OpenWithFails trust head window before now why
  audit_failed (Counts at stored mapped) fails = absurd fails
  audit_failed (Super fault) fails = fails
  audit_failed (Window sequence) fails = fails
  audit_failed (Page at fault) fails = fails
  audit_failed (Counter at point) fails = fails
  audit_failed (SharedPage at) fails = fails
  audit_failed Device fails = fails
  audit_failed Unclean fails = fails
  audit_failed Memory fails = fails

-- By the one image.

module _ (trust : Trust) (before : Seen) (blocks : Blocks) (is : IsTold trust before blocks) where
  refused_head : (now : Seen) (why : ImageFault) → length before.opening ≡ before.size → HeadFails trust before now why → IsOpeningRefusal blocks before now why
  refused_head now (Super fault) told fails = head_refused trust before blocks is now (Super fault) told fails
  refused_head now Device told fails = head_refused trust before blocks is now Device told fails
  refused_head now (Window sequence) told fails = absurd fails
  refused_head now (Page at fault) told fails = absurd fails
  refused_head now (Counter at point) told fails = absurd fails
  refused_head now (SharedPage at) told fails = absurd fails
  refused_head now (Counts at stored mapped) told fails = absurd fails
  refused_head now Unclean told fails = absurd fails
  refused_head now Memory told fails = absurd fails

  module _ (middle : Seen) (head : Superblock) (read : IsHeadRead trust before middle head) where
    abbrev is_head : super_of_image blocks ≡ Ok head
    is_head = accepted trust before blocks is middle head read

    refused_unclean : (why : ImageFault) (now : Seen) → why ≡ Unclean → head.clean ≡ false → IsOpeningRefusal blocks before now why
    refused_unclean why now same unclean = subst (λ (f : ImageFault). IsOpeningRefusal blocks before now f) (sym same) (head, is_head, unclean)

    module _ (clean : head.clean ≡ true) where
      abbrev closed : IsCleanImage blocks
      closed = (head, is_head, clean)

      abbrev room : needed_blocks head.geometry ≤ middle.size
      room = enough trust before blocks is middle head read

      refused_window : (now : Seen) (why : ImageFault) → Fails trust middle now head why → IsOpeningRefusal blocks before now why
      refused_window now (Super fault) fails =
          fault_shown trust middle now blocks is.told is.fair (one_there trust before blocks is middle head read) head room is_head (Super fault) fails
      refused_window now (Window sequence) fails =
          (closed, fault_shown trust middle now blocks is.told is.fair (one_there trust before blocks is middle head read) head room is_head (Window sequence) fails)
      refused_window now Device (journal, few, failed) = last_here trust before blocks is middle head read now (read_is_last trust 1 middle now journal failed)
      refused_window now Memory fails = closed
      refused_window now (Page at fault) fails = absurd fails
      refused_window now (Counter at point) fails = absurd fails
      refused_window now (SharedPage at) fails = absurd fails
      refused_window now (Counts at stored mapped) fails = absurd fails
      refused_window now Unclean fails = absurd fails

      module _ (second : Seen) (window : WindowState) (window_read : IsWindowRead trust middle second head window) where
        abbrev here : Image
        here = image_of head blocks window.entries

        abbrev is_opened : IsOpened blocks here
        is_opened = opened trust before blocks is middle head read second window window_read

        shown : (now : Seen) (Says : Image → Type 0) → BothShow trust head window second now Says → Says here
        shown now Says both =
            both_shown trust blocks is.told is.fair head window second now Says (accepted trust before blocks is middle head read) (one_behind trust before blocks is middle head read second window window_read)
            (enough_behind trust before blocks is middle head read second window window_read) both

        later : (now : Seen) → AuditWithFails trust head window second now Device → IsOpeningRefusal blocks before now Device
        later now fails =
            last_here trust before blocks is middle head read now
            (failed_after trust.tells middle second now (window_untouched trust before blocks is middle head read second window window_read)
            (audit_last trust head window second now fails))

        refused_with : (now : Seen) (why : ImageFault) → OpenWithFails trust head window second now why → IsOpeningRefusal blocks before now why
        refused_with now (Page at fault) (pages, pages_read, says) = (
          closed,
          (
            here,
            is_opened,
            says blocks
                (all_shown trust blocks is.told is.fair head.geometry second now pages (looked_in_place blocks head (accepted trust before blocks is middle head read)) (one_behind trust before blocks is middle head read second window window_read) pages_read),
          ),
        )
        refused_with now (Counter at point) fails =
            let said = shown now (λ image. ArePagesGood image × IsCountFault image at point.0) fails in (closed, (here, is_opened, said.0, said.1))
        refused_with now (SharedPage at) fails =
            let said = shown now (λ image. ArePagesGood image × AreStored image × IsShareFault image at) fails in (closed, (here, is_opened, said.0, said.1, said.2))
        refused_with now (Counts at stored mapped) fails =
            let said = shown now (λ image. HasWrongCount image at stored mapped) fails in
            (closed, (here, is_opened, said.pages, said.stored_all, said.unshared, said.wrong))
        refused_with now Device fails = later now fails
        refused_with now Memory fails = closed
        refused_with now (Super fault) fails = absurd fails
        refused_with now (Window sequence) fails = absurd fails
        refused_with now Unclean fails = absurd fails

        opens_right : (now : Seen) (start : Opened) → IsOpenedWith trust head window second now start → OpensRight blocks start
        opens_right now start both = (
          head,
          window.last,
          window.entries,
          window_opens trust before blocks is middle head read second window window_read,
          clean,
          shown now (λ image. IsRight image head start) both,
        )

-- The whole.

module _ (trust : Trust) (before now : Seen) where
  pub not_read : (why : ImageFault) → (IsTrue trust.tells → length before.opening ≡ before.size) → HeadFails trust before now why → IsUntouched trust.tells before now
      → IsOpening trust before now (Err why)
  not_read why told fails untouched = record {
    untouched = untouched;
    opened = tt;
    head = tt;
    fits = tt;
    fails = inl fails;
    says = λ blocks is. refused_head trust before blocks is now why (told is.told) fails;
  }

  pub not_closed : (head : Superblock) → IsHeadRead trust before now head → head.clean ≡ false → IsUntouched trust.tells before now → IsOpening trust before now (Err Unclean)
  not_closed head read unclean untouched = record {
    untouched = untouched;
    opened = tt;
    head = tt;
    fits = tt;
    fails = inr (inl (refl, (head, read, unclean)));
    says = λ blocks is. refused_unclean trust before blocks is now head read Unclean now refl unclean;
  }

  pub no_window : (middle : Seen) (head : Superblock) (why : ImageFault) → IsHeadRead trust before middle head → head.clean ≡ true → Fails trust middle now head why
      → IsUntouched trust.tells before middle → IsUntouched trust.tells middle now → IsOpening trust before now (Err why)
  no_window middle head why read clean fails first second = record {
    untouched = untouched_on trust.tells before middle now first second;
    opened = tt;
    head = tt;
    fits = tt;
    fails = inr (inr (inl (head, middle, read, clean, fails)));
    says = λ blocks is. refused_window trust before blocks is middle head read clean now why fails;
  }

  module _ (middle second : Seen) (head : Superblock) (window : WindowState) (read : IsHeadRead trust before middle head) (clean : head.clean ≡ true)
      (window_read : IsWindowRead trust middle second head window) (first : IsUntouched trust.tells before middle) (next : IsUntouched trust.tells middle second) (last : IsUntouched trust.tells second now) where
    abbrev opened_to : IsOpenedTo trust before second head window
    opened_to = record { middle = middle; head_read = read; window_read = window_read }

    all_untouched : IsUntouched trust.tells before now
    all_untouched = untouched_on trust.tells before second now (untouched_on trust.tells before middle second first next) last

    pub not_right : (why : ImageFault) → OpenWithFails trust head window second now why → IsOpening trust before now (Err why)
    not_right why fails = record {
      untouched = all_untouched;
      opened = tt;
      head = tt;
      fits = tt;
      fails = inr (inr (inr (head, window, second, opened_to, clean, fails)));
      says = λ blocks is. refused_with trust before blocks is middle head read clean second window window_read now why fails;
    }

    pub was_opened : (start : Opened) → IsOpenedWith trust head window second now start → start.head ≡ head → Fits start → IsOpening trust before now (Ok start)
    was_opened start both same fits = record {
      untouched = all_untouched;
      opened = (head, window, second, opened_to, clean, both);
      head = (read.block, subst (λ (h : Superblock). IsHead before.size read.block h) (sym same) read.is);
      fits = fits;
      fails = tt;
      says = λ blocks is. opens_right trust before blocks is middle head read clean second window window_read now start both;
    }

-- what holds of a refusal holds where it is passed on
pub refused_as : (trust : Trust) (before now : Seen) (why : ImageFault) (result : Result Opened ImageFault) → IsErrAnd result (λ e. e ≡ why) → IsOpening trust before now (Err why)
    → IsOpening trust before now result
refused_as trust before now why (Ok x) is opening = absurd is
refused_as trust before now why (Err e) is opening = subst (λ (f : ImageFault). IsOpening trust before now (Err f)) (sym is) opening
