-- A session is closed: each image on the way is sound and says the same, and the last ones are closed.
use Rattle.std.proofs.Common.{ℕ, zero, suc, ◌≡◌, ◌⊎◌, ◌+◌, ◌-◌, ◌/◌, ◌%◌, ◌<◌, ◌≤◌, ◌^◌, Bool, true, false, List, ◌∷◌, length, Ok, Some, refl, sym, ◌∙◌, ap, subst, inl, inr, arith, set}
use Rattle.std.proofs.lemmas.Bool.{cases_lt}
use Rattle.std.proofs.lemmas.List.{length-set, get_or-set_same, get_or-set_other}
use Rattle.blk_base.specs.Regions.{ReferenceBlock, block_of}
use Rattle.blk_base.specs.Sectors.{sector, zero_block}
use Rattle.blk_base.specs.declared.geometry.Super.{Super}
use Rattle.blk_base.specs.declared.place.PageId.{PageId}
use Rattle.blk_base.specs.declared.place.Pbn.{Pbn}
use Rattle.disk_model.specs.declared.call.Call.{Call}
use Rattle.disk_model.specs.declared.call.Call.TheVariants.{Flush}
use Rattle.disk_model.specs.Images.{IsMixOf, IsImage}
use Rattle.disk_model.specs.Log.{Blocks, block_at, contents}
use Rattle.disk_model.proofs.ImageLaws.{all_weaker, contents-write_other, sector_of_mix, settled-write_other}
use Rattle.disk_model.specs.OneImages.{HasOneImageIn}
use Rattle.disk_model.proofs.LookedLaws.{one_in-write_flush}
use Rattle.image_layout.proofs.SpellingLaws.{super_size}
use Rattle.image_layout.specs.Opened.{super_of_image}
use Rattle.image_layout.specs.Superblock.{super_block, super_of}
use Rattle.image_layout.proofs.AgainLaws.{written_again}
use Rattle.image_model.proofs.EmptyLaws.{sizes_of_image}
use Rattle.image_model.specs.Maps.{Image, page_at}
use Rattle.image_model.specs.Sound.{IsSound}
use Rattle.recovery_laws.specs.Kept.{AreKept, IsRecovered, image_in, recovered_super}
use Rattle.recovery_laws.specs.Recoverable.{sound_recoverable}
use Rattle.recovery_laws.specs.Written.{AreFull, IsFullPage, IsFullSector, IsOldSector}
use Rattle.recovery_laws.proofs.SoundLaws.{full_is_recovered, known, room, underway_is_kept}
use Rattle.recovery_laws.proofs.StopLaws.{full_is_underway, no_page_first}
use Rattle.recovery_laws.proofs.SuperLaws.{first_of_image, first_sector_says}
use Rattle.blk_base.specs.declared.journal_entry.CommittedEntry.{CommittedEntry}
use Rattle.image_layout.specs.Values.{journal_of}
use Rattle.image_model.proofs.WindowLaws.{one_window}
use Rattle.image_model.specs.Windows.{IsWindow}
use Rattle.vdo_model.specs.Journals.{Surely}
use Rattle.journal_stops.specs.Sealed.{Sealed, entries_of, next_of, window_of}
use Rattle.journal_stops.proofs.ShownLaws.{window_at_rest}
use Rattle.recovery_laws.proofs.StillLaws.{same_journal}
use Rattle.disk_model.proofs.ContentLaws.{contents_some, one_of_weaker}
use Rattle.session_stops.specs.Beginnings.{IsToServe, head_in, opened_in}
use Rattle.session_stops.specs.Closings.{IsClosedImage, IsClosing, IsWrittenOut, closed_head, closing_calls, closing_write, last_in}
use Rattle.session_stops.specs.Sessions.{ShowsSoundly}
use Rattle.session_stops.proofs.FullLaws.{image_is_full}
use Rattle.session_stops.proofs.SoundImages.{rest_sound}

-- What closing needs: block 0 has the session's superblock, and each image that a stop may leave shows all entries, has this
-- last sequence, and says by its pages and counters what it says with its window.
pub record IsToClose (opening : Blocks) (log : List Call) (base : Blocks) (to : IsToServe base) (blocks : List Sealed) : Type 0 where
  pub some : 0 < length opening
  pub super : Surely opening log 0 (λ content. content ≡ super_block (head_in base to))
  pub full : (image : Blocks) → IsImage opening log image → (shows : ShowsSoundly (opened_in base to) (head_in base to) image (entries_of to.sound.head.start blocks))
      × (shows.sound.last ≡ last_in base to blocks) × AreFull (image_in image shows.sound) image

module _ (opening : Blocks) (log : List Call) (base : Blocks) (to : IsToServe base) (blocks : List Sealed) (close : IsToClose opening log base to blocks) where
  abbrev head : Super
  head = head_in base to

  abbrev last : ℕ
  last = last_in base to blocks

  abbrev new_bytes : List ℕ
  new_bytes = super_block (recovered_super head.geometry last)

  -- An image of which each block but the first is one of an image before.
  module _ (calls : List Call) (others : (b : ℕ) → 1 ≤ b → contents opening calls b ≡ contents opening log b) (now : Blocks) (is : IsImage opening calls now) where
    abbrev old : Blocks
    old = set now 0 (super_block head)

    some_now : 0 < length now
    some_now = let size = is.size in let some = close.some in omega (arith, size, some)

    old_size : length old ≡ length now
    old_size = length-set now 0 (super_block head)

    old_first : block_at old 0 ≡ super_block head
    old_first = get_or-set_same now 0 (super_block head) zero_block some_now

    old_other : (b : ℕ) → 1 ≤ b → block_at old b ≡ block_at now b
    old_other b behind = get_or-set_other now 0 b (super_block head) zero_block (λ same. omega (arith, same, behind))

    old_whole : (b : ℕ) → b < length opening → length (block_at old b) ≡ 4096
    old_whole zero below = ap length old_first ∙ super_size head
    old_whole (suc n) below = ap length (old_other (suc n) (omega arith)) ∙ is.whole (suc n) below

    old_sectors : (b : ℕ) → b < length opening → IsMixOf (contents opening log b) (block_at old b)
    old_sectors zero below = λ i small.
        one_of_weaker (λ content. content ≡ super_block head) (λ content. sector i (block_at old 0) ≡ sector i content) (contents opening log 0)
        (λ content same. ap (sector i) (old_first ∙ sym same)) (contents_some (λ content. content ≡ super_block head) opening log 0 close.super)
    old_sectors (suc n) below =
        subst (λ (block : List ℕ). IsMixOf (contents opening log (suc n)) block) (sym (old_other (suc n) (omega arith)))
        (subst (λ (options : List (List ℕ)). IsMixOf options (block_at now (suc n))) (others (suc n) (omega arith)) (is.sectors (suc n) below))

    old_is : IsImage opening log old
    old_is = record { size = old_size ∙ is.size; whole = old_whole; sectors = old_sectors }

    abbrev shows : ShowsSoundly (opened_in base to) head old (entries_of to.sound.head.start blocks)
    shows = (close.full old old_is).0

    abbrev sound : IsSound old
    sound = shows.sound

    head_is : sound.head ≡ head
    head_is = shows.is_head

    last_is : sound.last ≡ last
    last_is = (close.full old old_is).1

    abbrev image : Image
    image = image_in old sound

    named : sound.head.geometry.nonce < 2 ^ 64
    named = subst (λ (h : Super). h.geometry.nonce < 2 ^ 64) (sym head_is) to.named

    unclean : sound.head.clean ≡ false
    unclean = ap (λ (h : Super). h.clean) head_is

    was_full : AreFull image old
    was_full = (close.full old old_is).2

    page_behind : (page : PageId) (at : Pbn) → page_at image page ≡ Some at → 1 ≤ at.0
    page_behind page at there = elim (cases_lt 0 at.0) [
      | inl behind ↦ omega (arith, behind)
      | inr first ↦ absurd (no_page_first old (sound_recoverable old sound) named (page, at, there, omega (arith, first)))
    ]

    full_now : AreFull image now
    full_now = record {
      size = sym old_size;
      pages = λ page at there. subst (λ (bytes : List ℕ). IsFullPage image page at bytes) (old_other at.0 (page_behind page at there)) (was_full.pages page at there);
      counters = λ slab n is_slab inside. subst (λ (block : List ℕ). IsFullSector image slab n (sector (n % 8) block))
          (old_other (block_of sound.head.geometry (ReferenceBlock slab (n / 8))) (omega arith)) (was_full.counters slab n is_slab inside);
      past = λ slab n is_slab behind below. subst (λ (block : List ℕ). IsOldSector image slab n (sector (n % 8) block))
          (old_other (block_of sound.head.geometry (ReferenceBlock slab (n / 8))) (omega arith)) (was_full.past slab n is_slab behind below);
      others = λ b behind below looked no_page no_counters. sym (old_other b behind);
    }

    -- the closed superblock is there

    sound_bytes : sector 0 (block_at now 0) ≡ sector 0 new_bytes → sector 0 (block_at now 0) ≡ sector 0 (super_block (recovered_super sound.head.geometry sound.last))
    sound_bytes same =
        subst (λ (n : ℕ). sector 0 (block_at now 0) ≡ sector 0 (super_block (recovered_super sound.head.geometry n))) (sym last_is)
        (subst (λ (h : Super). sector 0 (block_at now 0) ≡ sector 0 (super_block (recovered_super h.geometry last))) (sym head_is) same)

    accepted : sector 0 (block_at now 0) ≡ sector 0 new_bytes → super_of_image now ≡ Ok (recovered_super sound.head.geometry sound.last)
    accepted same =
        let enough = room old old sound in
        let size = old_size in
        first_of_image now some_now ∙ first_sector_says (block_at now 0) (super_block (recovered_super sound.head.geometry sound.last)) (length now) (sound_bytes same)
        ∙ written_again (recovered_super sound.head.geometry sound.last) (length now) (sizes_of_image old sound.head sound.opens.accepted) named (omega arith)
        (sound.opens.sequences unclean) (omega (arith, enough, size))

    recovered : sector 0 (block_at now 0) ≡ sector 0 new_bytes → IsRecovered image sound.last now
    recovered same = full_is_recovered old now sound full_now (accepted same)

    pub is_closed : sector 0 (block_at now 0) ≡ sector 0 new_bytes → IsClosedImage opening log base to blocks now
    is_closed same = record {
      old = old;
      is_image = old_is;
      shows = shows;
      recovered = subst (λ (n : ℕ). IsRecovered image n now) last_is (recovered same);
      others = λ b behind. sym (old_other b behind);
    }

    -- it isn't yet

    kept_yet : sector 0 (block_at now 0) ≡ sector 0 (super_block head) → AreKept image now
    kept_yet same = underway_is_kept old now sound unclean (full_is_underway old (sound_recoverable old sound) named now full_now (same ∙ sym (ap (sector 0) old_first)))

    says_yet : sector 0 (block_at now 0) ≡ sector 0 (super_block head) → super_of_image now ≡ Ok sound.head
    says_yet same =
        first_of_image now some_now ∙ first_sector_says (block_at now 0) (block_at old 0) (length now) (same ∙ sym (ap (sector 0) old_first))
        ∙ ap (super_of (block_at old 0)) (sym old_size) ∙ sym (first_of_image old (let size = old_size in let some = some_now in omega (arith, size, some))) ∙ sound.opens.accepted

    same_last : (kept : AreKept image now) → kept.sound.head ≡ sound.head → kept.sound.last ≡ sound.last
    same_last kept heads =
        let journal = same_journal image now sound.pages sound.last (known old old sound) (room old old sound) (sym old_size) kept.others in
        let window : IsWindow sound.head.geometry sound.head.start (journal_of sound.head.geometry now) kept.sound.last kept.sound.window =
        subst (λ (h : Super). IsWindow h.geometry h.start (journal_of h.geometry now) kept.sound.last kept.sound.window) heads kept.sound.opens.is_window in
        let window_too : IsWindow sound.head.geometry sound.head.start (journal_of sound.head.geometry old) kept.sound.last kept.sound.window =
        subst (λ (j : Blocks). IsWindow sound.head.geometry sound.head.start j kept.sound.last kept.sound.window) journal window in
        (one_window sound.head.geometry sound.head.start (journal_of sound.head.geometry old) kept.sound.last sound.last kept.sound.window sound.window window_too sound.opens.is_window).0

    same_heads : (one two : Super) → super_of_image now ≡ Ok one → super_of_image now ≡ Ok two → one ≡ two
    same_heads one two is again = cc (is, again)

    pub is_closing : (sector 0 (block_at now 0) ≡ sector 0 new_bytes) ⊎ (sector 0 (block_at now 0) ≡ sector 0 (super_block head)) → IsClosing opening log base to blocks now
    is_closing (inl new) = record {
      old = old;
      is_image = old_is;
      shows = shows;
      kept = (recovered new).kept;
      others = λ b behind. sym (old_other b behind);
      head = inr ((recovered new).closed ∙ ap (λ (h : Super). recovered_super h.geometry sound.last) head_is ∙ ap (recovered_super head.geometry) last_is);
    }
    is_closing (inr yet) =
        let kept = kept_yet yet in
        let heads = same_heads kept.sound.head sound.head kept.sound.opens.accepted (says_yet yet) in record {
          old = old;
          is_image = old_is;
          shows = shows;
          kept = kept;
          others = λ b behind. sym (old_other b behind);
          head = inl (heads ∙ head_is, same_last kept heads ∙ last_is);
        }

  -- While it is written, failed or not.

  abbrev IsEither : List ℕ → Type 0
  IsEither bytes = (bytes ≡ sector 0 new_bytes) ⊎ (bytes ≡ sector 0 (super_block head))

  pub closing : (ok : Bool) (now : Blocks) → IsImage opening (closing_write base to blocks ok ∷ log) now → IsClosing opening log base to blocks now
  closing ok now is =
      is_closing (closing_write base to blocks ok ∷ log) (λ b behind. contents-write_other opening log (record { 0 = 0 }) new_bytes ok b (λ same. omega (arith, same, behind))) now is
      (sector_of_mix IsEither (contents opening (closing_write base to blocks ok ∷ log) 0) (block_at now 0) 0 (omega arith) (is.sectors 0 close.some)
      (inl refl, all_weaker (λ content. content ≡ super_block head) (λ content. IsEither (sector 0 content)) (contents opening log 0) (λ content same. inr (ap (sector 0) same)) close.super))

  pub closing_unflushed : (ok : Bool) (now : Blocks) → IsImage opening (Flush false ∷ closing_write base to blocks ok ∷ log) now → IsClosing opening log base to blocks now
  closing_unflushed ok now is = closing ok now (record { size = is.size; whole = is.whole; sectors = is.sectors })

-- And once it is flushed.
closed : (opening : Blocks) (log : List Call) (base : Blocks) (to : IsToServe base) (blocks : List Sealed) → IsToClose opening (Flush true ∷ log) base to blocks
    → (now : Blocks) → IsImage opening (closing_calls base to blocks log) now → IsClosedImage opening (Flush true ∷ log) base to blocks now
closed opening log base to blocks close now is =
    is_closed opening (Flush true ∷ log) base to blocks close (closing_calls base to blocks log)
    (λ b behind. settled-write_other opening (Flush true ∷ log) (record { 0 = 0 }) (super_block (closed_head base to blocks)) true b (λ same. omega (arith, same, behind))) now is
    (sector_of_mix (λ (s : List ℕ). s ≡ sector 0 (super_block (closed_head base to blocks))) (contents opening (closing_calls base to blocks log) 0) (block_at now 0) 0 (omega arith)
    (is.sectors 0 close.some) (refl, tt))

-- where nothing is pending before in the blocks that are looked at, nothing is pending again
pub closed_one : (looked : ℕ → Bool) (opening : Blocks) (log : List Call) (base : Blocks) (to : IsToServe base) (blocks : List Sealed) (image : Blocks) → 0 < length opening
    → HasOneImageIn looked opening (Flush true ∷ log) image → HasOneImageIn looked opening (closing_calls base to blocks log) (set image 0 (super_block (closed_head base to blocks)))
closed_one looked opening log base to blocks image some one =
    one_in-write_flush looked opening (Flush true ∷ log) image (record { 0 = 0 }) (super_block (closed_head base to blocks)) some (super_size (closed_head base to blocks)) one

-- A session that is written out has what closing needs.
to_close : (opening : Blocks) (log : List Call) (base : Blocks) (to : IsToServe base) (blocks : List Sealed) → IsWrittenOut opening log base to blocks
    → IsToClose opening log base to blocks
to_close opening log base to blocks all = record {
  some = let enough = room base base to.sound in let size = all.stands.behind.size in omega (arith, enough, size);
  super = all.stands.behind.super;
  full = λ image is.
      let one = rest_sound base to opening log blocks all.stands image is in
      let g = to.sound.head.geometry in
      let start = to.sound.head.start in
      let some = all.stands.journal.some in
      let last_is : (next_of start blocks - 1) + 1 ≡ next_of start blocks = omega (arith, some) in
      let enough = room base base to.sound in
      let size = all.stands.behind.size in
      let window = window_at_rest opening log g start blocks image (next_of start blocks - 1) (omega (arith, enough, size)) all.stands.journal is last_is in
      let here : IsWindow g start (journal_of g image) one.sound.last one.sound.window =
      subst (λ (h : Super). IsWindow h.geometry h.start (journal_of h.geometry image) one.sound.last one.sound.window) one.is_head one.sound.opens.is_window in
      let same = one_window g start (journal_of g image) one.sound.last (next_of start blocks - 1) one.sound.window (window_of start blocks) here window in (
        one,
        same.0,
        subst (λ (w : List CommittedEntry). AreFull (record { geometry = one.sound.head.geometry; blocks = image; window = w }) image) (sym same.1)
            (subst (λ (h : Super). AreFull (record { geometry = h.geometry; blocks = image; window = window_of start blocks }) image) (sym one.is_head) (image_is_full base to opening log blocks all image is)),
      );
}

module _ (opening : Blocks) (log : List Call) (base : Blocks) (to : IsToServe base) (blocks : List Sealed) where
  pub session_closing : IsWrittenOut opening log base to blocks → (ok : Bool) (now : Blocks) → IsImage opening (closing_write base to blocks ok ∷ log) now
      → IsClosing opening log base to blocks now
  session_closing all ok now is = closing opening log base to blocks (to_close opening log base to blocks all) ok now is

  pub session_unflushed : IsWrittenOut opening log base to blocks → (ok : Bool) (now : Blocks) → IsImage opening (Flush false ∷ closing_write base to blocks ok ∷ log) now
      → IsClosing opening log base to blocks now
  session_unflushed all ok now is = closing_unflushed opening log base to blocks (to_close opening log base to blocks all) ok now is

  pub session_closed : IsWrittenOut opening (Flush true ∷ log) base to blocks → (now : Blocks) → IsImage opening (closing_calls base to blocks log) now
      → IsClosedImage opening (Flush true ∷ log) base to blocks now
  session_closed all now is = closed opening log base to blocks (to_close opening (Flush true ∷ log) base to blocks all) now is
