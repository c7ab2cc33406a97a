-- Rows that pin what an image says of itself: for each clause a case that it accepts, and one that breaks it alone.
use Rattle.std.proofs.Common.{ℕ, ◌≡◌, Bool, true, false, List, [], ◌∷◌, length, reverse, Option, Some, refl, ap, subst, arith, length-append}
use Rattle.audit.specs.Audits.{BothShow, IsOpenedTo}
use Rattle.audit.specs.Reports.{AreUsed, HasNoFault}
use Rattle.blk_base.specs.Regions.{first_index_of, data_blocks as all_blocks}
use Rattle.blk_base.specs.declared.geometry.Geometry.{Geometry}
use Rattle.blk_base.specs.declared.geometry.Super.{Super}
use Rattle.disk_model.specs.Log.{Blocks}
use Rattle.disk_model.specs.Seen.{Seen}
use Rattle.disk_model.specs.Trust.{Trust, trust_of}
use Rattle.disk_model.specs.Since.{reads_of}
use Rattle.image_model.specs.Sound.{image_of}
use Rattle.index_advice.specs.Books.{Book}
use Rattle.journal_window.specs.States.{WindowState}
use Rattle.replay_counts.specs.Recovered.{Holds}
use Rattle.replay_map.specs.Reads.{Shows}
use Rattle.uds_index.specs.Loads.{IsLoadedBook, ReadEach}
use Rattle.uds_index.proofs.LookRows.{chapter}
use Rattle.image_status.specs.Statuses.{HasChapters, IsStatusRead, IsStatusWith}
use Rattle.image_status.specs.declared.forms.ImageStatus.{ImageStatus}

-- Of what was read of an image:
module _ (trust : Trust) (head : Super) (window : WindowState) (before middle now : Seen) where
  -- an index whose blocks were read, with this book
  module _ (reads : List (Option (List ℕ))) (count : length reads ≡ head.geometry.index) (each : ReadEach trust (first_index_of head.geometry) middle now reads)
      (book : Book) (loaded : IsLoadedBook head.geometry reads book) where
    -- chapters_are: each chapter of the book counts once
    its_chapters : HasChapters trust head.geometry middle now (length book.kept)
    its_chapters = record { reads = reads; count = count; each = each; book = book; loaded = loaded; chapters_are = refl }

    two_chapters : book.kept ≡ chapter 5 ∷ chapter 4 ∷ [] → HasChapters trust head.geometry middle now 2
    two_chapters kept = record { reads = reads; count = count; each = each; book = book; loaded = loaded; chapters_are = let size = ap length kept in omega (arith, size) }

    -- the space that each such image has
    module _ (used total : ℕ) (space : BothShow trust head window before middle (λ image. HasNoFault image × AreUsed image used × (total ≡ all_blocks image.geometry))) where
      its_status : IsStatusWith trust head window before now
          (record { clean = head.clean; entries = length window.entries; chapters = length book.kept; used = used; total = total; logical = head.geometry.logical })
      its_status = record { middle = middle; space = space; chapters = its_chapters; clean = refl; entries = refl; logical = refl }

  -- space: an image that has what was read has no fault
  of_a_faulty_image : (status : ImageStatus) (blocks : Blocks) → (HasNoFault (image_of head blocks window.entries) → ⊥) → (is : IsStatusWith trust head window before now status)
      → Shows blocks is.space.0 → Holds head.geometry blocks is.space.1 → ⊥
  of_a_faulty_image status blocks faulty is shows holds = faulty (is.space.3 blocks shows holds).0

  -- and so many used blocks
  of_other_used_blocks : (status : ImageStatus) (blocks : Blocks) → (AreUsed (image_of head blocks window.entries) status.used → ⊥) → (is : IsStatusWith trust head window before now status)
      → Shows blocks is.space.0 → Holds head.geometry blocks is.space.1 → ⊥
  of_other_used_blocks status blocks other is shows holds = other (is.space.3 blocks shows holds).1

  -- another number of chapters than the book has
  other_chapters : (has : HasChapters trust head.geometry middle now 1) → has.book.kept ≡ chapter 5 ∷ chapter 4 ∷ [] → ⊥
  other_chapters has kept = let is = has.chapters_are in let size = ap length kept in omega (arith, is, size)

  -- clean, entries, logical: those of superblock and window
  another_mode : (status : ImageStatus) → head.clean ≡ false → status.clean ≡ true → IsStatusWith trust head window before now status → ⊥
  another_mode status unclean clean is = let same = is.clean in absurd cc

  other_entries : (status : ImageStatus) → window.entries ≡ [] → status.entries ≡ 1 → IsStatusWith trust head window before now status → ⊥
  other_entries status none one is = let same = is.entries in let size = ap length none in omega (arith, same, size, one)

  another_size : (status : ImageStatus) → head.geometry.logical ≡ 1000 → status.logical ≡ 64 → IsStatusWith trust head window before now status → ⊥
  another_size status logical other is = let same = is.logical in omega (arith, same, logical, other)

-- count: all index blocks were read
none_read : (trust : Trust) (g : Geometry) (before now : Seen) (chapters : ℕ) → g.index ≡ 4 → (has : HasChapters trust g before now chapters) → has.reads ≡ [] → ⊥
none_read trust g before now chapters four has none = let count = has.count in let size = ap length none in omega (arith, count, size, four)

-- each: and of a device that tells a read that succeeded is in the log
not_read : (honest : Bool) (g : Geometry) (seen : Seen) (chapters : ℕ) (bytes : List ℕ) → (has : HasChapters (trust_of true honest) g seen seen chapters) → has.reads ≡ Some bytes ∷ [] → ⊥
not_read honest g seen chapters bytes has one =
    let each = subst (λ (reads : List (Option (List ℕ))). ReadEach (trust_of true honest) (first_index_of g) seen seen reads) one has.each in
    let logged = ap length (each.1.logged refl) in
    let same = ap (λ (s : Seen). length s.log) each.2 in
    omega (arith, logged, same)

-- middle, opened: of a device that tells superblock and journal were read before
not_opened : (honest : Bool) (head : Super) (window : WindowState) (seen : Seen) → IsOpenedTo (trust_of true honest) seen seen head window → ⊥
not_opened honest head window seen is =
    let first = ap length (is.head_read.read.logged refl) in
    let second = ap length (is.window_read.1.read.logged refl) in
    let more = length-append (reads_of 1 (reverse is.window_read.0)) is.middle.log in
    omega (arith, first, second, more)

not_looked_at : (honest : Bool) (before now : Seen) (status : ImageStatus) → (is : IsStatusRead (trust_of true honest) before now status) → is.middle ≡ before → ⊥
not_looked_at honest before now status is same =
    not_opened honest is.head is.window before (subst (λ (middle : Seen). IsOpenedTo (trust_of true honest) before middle is.head is.window) same is.opened)
