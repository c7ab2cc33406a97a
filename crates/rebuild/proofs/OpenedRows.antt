-- What is promised of opening an image: small cases that are accepted, and for each clause that `OpeningRows` hasn't one that
-- breaks it and is refused.
use Rattle.std.proofs.Common.{ℕ, ◌≡◌, ◌*◌, ◌≤◌, Bool, true, false, List, [], ◌∷◌, All, length, replicate, Ok, Err, refl, sym, ◌∙◌, ap, subst, inl, inr, arith, Contains}
use Rattle.std.proofs.lemmas.List.Elements.{All-replicate}
use Rattle.blk_base.specs.Counters.{limit_of}
use Rattle.blk_base.specs.Limits.{IsGeometry}
use Rattle.blk_base.specs.declared.geometry.Geometry.{Geometry}
use Rattle.blk_base.specs.declared.geometry.Super.{Super as Superblock}
use Rattle.blk_base.specs.declared.layout.DataPlace.{DataPlace}
use Rattle.blk_base.specs.declared.opened.Opened.{Opened}
use Rattle.blk_base.specs.declared.place.Mapping.TheVariants.{At}
use Rattle.blk_base.specs.declared.place.PageId.{PageId}
use Rattle.blk_base.specs.declared.place.Pbn.{Pbn}
use Rattle.count_updates.specs.Numbers.{all_sectors}
use Rattle.disk_model.specs.Log.{Blocks}
use Rattle.disk_model.specs.Seen.{Seen}
use Rattle.disk_model.specs.Trust.{Trust, trust_of}
use Rattle.disk_model.proofs.SinceLaws.{untouched_yet}
use Rattle.image_layout.specs.Opened.{super_of_image}
use Rattle.image_layout.specs.declared.fault.SuperFault.TheVariants.{NotAnImage, Version}
use Rattle.image_model.proofs.CountLaws.{one_stored}
use Rattle.image_model.proofs.Example.{small}
use Rattle.image_model.specs.Counts.{Stores}
use Rattle.image_model.specs.Empty.{IsEmpty, empty_super}
use Rattle.image_model.specs.Maps.{Image, IsTreePage, mapping_of}
use Rattle.image_model.specs.Sound.{IsDataPlace, IsSound}
use Rattle.image_model.specs.declared.fault.ImageFault.TheVariants.{Super, Window, Counts, Device, Unclean, Memory}
use Rattle.image_model.proofs.ReadExample.{next_failed, failed}
use Rattle.journal_window.specs.States.{WindowState}
use Rattle.replay_counts.specs.Recovered.{HasCounts, Holds}
use Rattle.replay_counts.proofs.ReadRows.{no_entries}
use Rattle.replay_map.specs.Reads.{Shows}
use Rattle.replay_map.specs.Replayed.{HasMap}
use Rattle.recovery_laws.specs.Kept.{image_in}
use Rattle.session_opening.specs.Starts.{IsStart, AreLedTo}
use Rattle.audit.proofs.ReadExample.{head_is_read, head_of, window_is_read}
use Rattle.blk_base.proofs.Example.{small_is}
use Rattle.rebuild.proofs.RecoveryRows.{head_there, with_head}
use Rattle.rebuild.proofs.Rows.{seen}
use Rattle.rebuild.proofs.ShownLaws.{audit_last}
use Rattle.blk_base.specs.declared.opened.OpenedPage.{OpenedPage}
use Rattle.blk_base.specs.Regions.{data_blocks}
use Rattle.block_map_tree.specs.OpenedTree.{IsOpened, all_trees}
use Rattle.replay_map.specs.Forms.{HasForm}
use Rattle.replay_map.specs.declared.links.Link.{Link}
use Rattle.session_opening.specs.Pages.{ArePages}
use Rattle.session_opening.proofs.FormedLaws.{opened_all, led_to}
use Rattle.session_opening.proofs.ListedLaws.{of_map}
use Rattle.rebuild.specs.Openings.{CheckFails, Fits, HasWrongCount, IsCleanImage, IsOpenedFrom, IsOpenedWith, IsOpening, IsOpeningRefusal, IsOpeningResult, IsRight, OpenWithFails, OpeningFails, OpensRight}
use Rattle.rebuild.specs.Recoveries.{IsTold}
use Rattle.audit.specs.declared.forms.Contents.{Contents}

-- A sound image that was closed is right, and opens so, with what a session starts with on it.
module _ (blocks : Blocks) (sound : IsSound blocks) (clean : sound.head.clean ≡ true) (opened : Opened) (start : IsStart (image_in blocks sound) sound.head opened) where
  sound_is_right : IsRight (image_in blocks sound) sound.head opened
  sound_is_right = record { pages = sound.pages; unshared = sound.unshared; counts = sound.counts; start = start }

  sound_opens : OpensRight blocks opened
  sound_opens = (sound.head, sound.last, sound.window, sound.opens, clean, sound_is_right)

  sound_is_result : IsOpeningResult blocks seen seen (Ok opened)
  sound_is_result = sound_opens

  sound_is_clean : IsCleanImage blocks
  sound_is_clean = (sound.head, sound.opens.accepted, clean)

-- and so is one that was just made
empty_is_clean : (g : Geometry) (blocks : Blocks) → IsEmpty g blocks → IsCleanImage blocks
empty_is_clean g blocks empty = (empty_super g, empty.accepted, refl)

-- A wrong count is that of an image without the faults before it: each data block has one, and no page is shared.
module _ (image : Image) (at : Pbn) (stored mapped : ℕ) where
  without_count : (place : DataPlace) (point : ℕ) → IsDataPlace image.geometry place → Stores image place (Err point) → HasWrongCount image at stored mapped → ⊥
  without_count place point inside leaves is =
      let has = is.stored_all place inside in
      let same = one_stored image place (Ok has.0) (Err point) has.1 leaves in absurd (cc same)

  with_shared_page : (block : Pbn) (address : ℕ) → IsTreePage image block → mapping_of image address ≡ At block → HasWrongCount image at stored mapped → ⊥
  with_shared_page block address page maps is = is.unshared block address page maps

no_links : HasForm small [] []
no_links = record {
  each = λ link there. absurd (let inside = there.1 in omega (arith, inside));
  parents = λ link there. absurd (let inside = there.1 in omega (arith, inside));
  once = λ i j d less inside. absurd (omega (arith, inside));
  slots_once = λ i j d less inside. absurd (omega (arith, inside));
}

-- It fits its sizes: 64 counters, one commit point, and the roots of all trees.
module _ (opened : Opened) (head : opened.head ≡ head_of true) where
  fits_small : opened.counters.items ≡ replicate 64 0 → opened.commits.items ≡ record { 0 = 0 } ∷ [] → ArePages small [] opened.pages.items → opened.tree_pages.items ≡ [] → Fits opened
  fits_small counters commits pages blocks =
      let within : All (λ (n : ℕ). n ≤ limit_of small) (replicate 64 0) = All-replicate (λ (n : ℕ). n ≤ limit_of small) 64 0 (omega arith) in
      record {
        sizes = subst (λ (h : Superblock). IsGeometry h.geometry) (sym head) small_is;
        counters = ap length counters ∙ sym (ap (λ (h : Superblock). data_blocks h.geometry) head);
        limit = subst (λ (h : Superblock). All (λ (n : ℕ). n ≤ limit_of h.geometry) opened.counters.items) (sym head)
            (subst (λ (ns : List ℕ). All (λ (n : ℕ). n ≤ limit_of small) ns) (sym counters) within);
        commits = ap length commits ∙ sym (ap (λ (h : Superblock). all_sectors h.geometry) head);
        pages = subst (λ (h : Superblock). IsOpened (all_trees h.geometry) opened.pages.items) (sym head) (opened_all small small_is [] [] no_links opened.pages.items pages);
        tree_pages = subst (λ (h : Superblock). AreLedTo h.geometry opened.pages.items opened.tree_pages.items) (sym head)
            (led_to small small_is [] [] no_links opened.pages.items pages opened.tree_pages.items blocks);
      }

  -- tree_pages: no page leads to a block of the journal
  a_block_of_the_journal : opened.tree_pages.items ≡ record { 0 = 1 } ∷ [] → Fits opened → ⊥
  a_block_of_the_journal one fits =
      let sizes = ap (λ (h : Superblock). h.geometry) head in
      let link = of_map (λ (link : Link). link.at) fits.tree_pages.links (record { 0 = 1 })
      (subst (λ (bs : List Pbn). Contains bs (record { 0 = 1 })) (sym one ∙ fits.tree_pages.listed) (0, omega arith, refl)) in
      let block = (fits.tree_pages.each link.0 link.1).0.data_block in
      omega (arith, block.stands, ap (λ (b : Pbn). b.0) link.2)

  -- pages
  no_roots : opened.pages.items ≡ [] → Fits opened → ⊥
  no_roots none fits =
      let high : opened.head.geometry.height ≡ 2 = ap (λ (h : Superblock). h.geometry.height) head in
      let root : PageId = record { tree = 0; level = 1; index = 0 } in
      let listed = fits.pages.roots root (record { tree = record { inside = omega arith; own = refl }; level = sym high; index = refl }) in
      let inside = listed.1.1 in
      omega (arith, inside, ap (λ (ps : List OpenedPage). length ps) none)

  -- commits
  fewer_commits : opened.commits.items ≡ [] → Fits opened → ⊥
  fewer_commits none fits =
      let size = fits.commits in let empty = ap length none in let sectors = ap (λ (h : Superblock). all_sectors h.geometry) head in omega (arith, size, empty, sectors)

-- The check by map and counts: a count that is right isn't its answer.
module _ (contents : Contents) (at : Pbn) where
  no_such_image : contents.counts.counts.items ≡ [] → CheckFails small contents (Counts at 2 1)
  no_such_image none image same map counts =
      let size = counts.blocks in let empty = ap length none in let slabs = ap (λ (g : Geometry). g.slabs * g.slab_blocks) same in absurd (omega (arith, size, empty, slabs))

  right_count : (image : Image) (n : ℕ) → image.geometry ≡ small → HasMap image contents.map → HasCounts image contents.counts.counts.items contents.counts.sectors.items
      → CheckFails small contents (Counts at n n) → ⊥
  right_count image n same map counts fails = (fails image same map counts).differ refl

-- By the reads.

module _ (trust : Trust) (head : Superblock) (window : WindowState) (before now : Seen) where
  -- Counts: of each image that has what was read
  right_count_read : (at : Pbn) (n : ℕ) (fails : OpenWithFails trust head window before now (Counts at n n))
      → (blocks : Blocks) → Shows blocks fails.0 → Holds head.geometry blocks fails.1 → ⊥
  right_count_read at n fails blocks shows holds = (fails.3 blocks shows holds).wrong.differ refl

  -- Memory, Window: as of an audit
  no_memory_read : OpenWithFails trust head window before now Memory
  no_memory_read = tt

  no_window_read : OpenWithFails trust head window before now (Window 7) → ⊥
  no_window_read none = none

-- Device: no count of faults rose
none_failed : (trust : Trust) (head : Superblock) (window : WindowState) → OpenWithFails trust head window seen seen Device → ⊥
none_failed trust head window fails = let rose = (audit_last trust head window seen seen fails).rose in omega (arith, rose)

-- Opened from the superblock on: one that says that the session was closed.
module _ (opened : Opened) where
  read_and_opened : (honest : Bool) → IsOpenedWith (trust_of false honest) (head_of true) no_entries seen seen opened → IsOpenedFrom (trust_of false honest) seen seen opened
  read_and_opened honest with_it =
      (head_of true, no_entries, seen, record { middle = seen; head_read = head_is_read honest true; window_read = window_is_read honest true }, refl, with_it)

  unclean_and_opened : (now : Seen) → IsOpenedFrom (trust_of true true) (with_head false) now opened → ⊥
  unclean_and_opened now (head, window, middle, opened_to, clean, with_it) =
      let same = ap (λ (h : Superblock). h.clean) (head_there false opened_to.middle head opened_to.head_read) in absurd (cc (same, clean))

-- Refusals: block 0 wasn't read; or it says that the session wasn't closed; or there is no window; or as above.
refused_head : (honest : Bool) → OpeningFails (trust_of false honest) seen failed Device
refused_head honest = inl (next_failed honest 0)

pub refused_unclean : (honest : Bool) → OpeningFails (trust_of false honest) seen seen Unclean
refused_unclean honest = inr (inl (refl, (head_of false, head_is_read honest false, refl)))

refused_window : (honest : Bool) → OpeningFails (trust_of false honest) seen failed Device
refused_window honest = inr (inr (inl (head_of true, seen, head_is_read honest true, refl, ([], omega arith, next_failed honest 1))))

refused_memory : (honest : Bool) → OpeningFails (trust_of false honest) seen seen Memory
refused_memory honest =
    inr (inr (inr (head_of true, no_entries, seen, record { middle = seen; head_read = head_is_read honest true; window_read = window_is_read honest true }, refl, tt)))

-- Unclean: a closed one isn't refused so
pub closed_isnt_unclean : (now : Seen) → OpeningFails (trust_of true true) (with_head true) now Unclean → ⊥
closed_isnt_unclean now fails = elim fails [
  | inl none ↦ none
  | inr behind ↦ elim behind [
    | inl unclean ↦ let same = ap (λ (h : Superblock). h.clean) (head_there true now unclean.1.0 unclean.1.1) in let is = unclean.1.2 in absurd (cc (same, is))
    | inr closed ↦ elim closed [ inl window ↦ window.4 | inr rest ↦ rest.5 ]
  ]
]

-- and one that isn't closed is refused for nothing behind that
unclean_isnt_counted : (now : Seen) → OpeningFails (trust_of true true) (with_head false) now Memory → ⊥
unclean_isnt_counted now fails = elim fails [
  | inl none ↦ none
  | inr behind ↦ elim behind [
    | inl unclean ↦ absurd (cc unclean.0)
    | inr closed ↦ elim closed [
      | inl window ↦ let same = ap (λ (h : Superblock). h.clean) (head_there false window.1 window.0 window.2) in let is = window.3 in absurd (cc (same, is))
      | inr rest ↦ let same = ap (λ (h : Superblock). h.clean) (head_there false rest.3.middle rest.0 rest.3.head_read) in let is = rest.4 in absurd (cc (same, is))
    ]
  ]
]

-- By the image. Super: what is wrong with the superblock
refused_nothing : IsOpeningRefusal [] seen seen (Super NotAnImage)
refused_nothing = inl refl

refused_for_version : IsOpeningRefusal [] seen seen (Super (Version 2)) → ⊥
refused_for_version is = elim is [ inl same ↦ absurd (cc same) | inr end ↦ let accepted = end.1.accepted in absurd (cc accepted) ]

-- a result is an answer, or a refusal
nothing_is_result : IsOpeningResult [] seen seen (Err (Super NotAnImage))
nothing_is_result = refused_nothing

nothing_is_opened : (opened : Opened) → IsOpeningResult [] seen seen (Ok opened) → ⊥
nothing_is_opened opened (head, last, window, opens, clean, right) = let accepted = opens.accepted in absurd (cc accepted)

module _ (blocks : Blocks) (head : Superblock) (accepted : super_of_image blocks ≡ Ok head) (unclean : head.clean ≡ false) where
  unclean_image : IsCleanImage blocks → ⊥
  unclean_image (other, is, clean) = let same : other ≡ head = cc (is, accepted) in let here = ap (λ (h : Superblock). h.clean) same in absurd (cc (here, clean, unclean))

  unclean_has_no_window : (sequence : ℕ) → IsOpeningRefusal blocks seen seen (Window sequence) → ⊥
  unclean_has_no_window sequence is = unclean_image is.0

-- The whole, of a device that doesn't tell: one that isn't closed is refused.
unclean_opening : (honest : Bool) → IsOpening (trust_of false honest) seen seen (Err Unclean)
unclean_opening honest = record {
  untouched = untouched_yet false seen;
  opened = tt;
  head = tt;
  fits = tt;
  fails = refused_unclean honest;
  says = λ blocks is. let told = is.told in absurd (cc told);
}

-- opened, fails: of one whose superblock says otherwise
unclean_is_opened : (now : Seen) (opened : Opened) → IsOpening (trust_of true true) (with_head false) now (Ok opened) → ⊥
unclean_is_opened now opened is = unclean_and_opened opened now is.opened

closed_is_refused : (now : Seen) → IsOpening (trust_of true true) (with_head true) now (Err Unclean) → ⊥
closed_is_refused now is = closed_isnt_unclean now is.fails

-- head
opened_at_no_sequence : (honest : Bool) (opened : Opened) → opened.head.start ≡ 0 → IsOpening (trust_of false honest) seen seen (Ok opened) → ⊥
opened_at_no_sequence honest opened none is = let start = is.head.1.start in omega (arith, none, start)

-- fits
opened_without_counters : (honest : Bool) (opened : Opened) → opened.head.geometry ≡ small → opened.counters.items ≡ [] → IsOpening (trust_of false honest) seen seen (Ok opened) → ⊥
opened_without_counters honest opened same none is =
    let size = is.fits.counters in let empty = ap length none in let slabs = ap (λ (g : Geometry). g.slabs * g.slab_blocks) same in omega (arith, size, empty, slabs)

-- says
nothing_is_said : (before now : Seen) (opened : Opened) → IsTold (trust_of true true) before [] → IsOpening (trust_of true true) before now (Ok opened) → ⊥
nothing_is_said before now opened told is = nothing_is_opened opened (is.says [] told)
