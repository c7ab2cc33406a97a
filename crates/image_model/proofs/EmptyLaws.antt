-- An empty image is sound, and has nothing.
use Rattle.std.proofs.Common.{ℕ, zero, suc, ◌≡◌, ◌+◌, ◌-◌, ◌/◌, ◌%◌, ◌<◌, ◌≤◌, ◌==◌, nat_lt, Bool, true, false, if◌then◌else◌, List, [], ◌∷◌, ◌++◌, length, get_or, drop, replicate, Option, Some, None, Result, Ok, Err, slice_index_or, refl, sym, ◌∙◌, ap, ap₂, subst, inl, inr, arith}
use Rattle.std.proofs.Math.Nat.{mod-lt}
use Rattle.std.proofs.lemmas.Bool.{cases_lt, le-leb}
use Rattle.byte_fields.proofs.FieldLaws.{number_at-drop}
use Rattle.std.proofs.lemmas.List.{get_or-take, get_or-drop, get_or-replicate, drop-replicate}
use Rattle.std.proofs.lemmas.Bool.Decides.{eqb_tells}
use Rattle.blk_base.specs.Counters.{limit_of, sector_of_offset}
use Rattle.blk_base.specs.Limits.{IsGeometry}
use Rattle.blk_base.specs.Regions.{JournalSlot, Root, ReferenceBlock, SlabJournalSlot, block_of, journal_slot_of, references_of}
use Rattle.blk_base.specs.Sectors.{sector, zero_block}
use Rattle.blk_base.specs.declared.geometry.Geometry.{Geometry}
use Rattle.blk_base.specs.declared.geometry.Super.{Super}
use Rattle.blk_base.specs.declared.journal_entry.Entry.{Entry}
use Rattle.blk_base.specs.declared.layout.DataPlace.{DataPlace}
use Rattle.blk_base.specs.declared.place.Mapping.{Mapping}
use Rattle.blk_base.specs.declared.place.Mapping.TheVariants.{Unmapped}
use Rattle.blk_base.specs.declared.place.PageId.{PageId}
use Rattle.blk_base.specs.declared.place.Pbn.{Pbn}
use Rattle.blk_base.specs.declared.sizes.TheConstants.{TREES}
use Rattle.blk_base.specs.Pages.{above, slot_of, leaf_of}
use Rattle.byte_fields.specs.Fields.{number_at}
use Rattle.disk_model.specs.Log.{Blocks, block_at}
use Rattle.image_layout.specs.Opened.{super_of_image}
use Rattle.image_layout.specs.Superblock.{super_of, answer_after, run_checks, super_checks, identity_checks, size_checks, state_checks, room_checks, geometry_in, head_in}
use Rattle.image_layout.specs.declared.fault.SuperFault.{SuperFault}
use Rattle.image_layout.specs.Values.{journal_of}
use Rattle.image_layout.proofs.CheckLaws.{sizes_right}
use Rattle.journal_codec.specs.Grammar.{IsSector}
use Rattle.page_codec.specs.Grammar.{IsPage, IsSlot}
use Rattle.page_codec.specs.declared.forms.PageHead.{PageHead}
use Rattle.page_codec.proofs.HeldLaws.{held_unmapped}
use Rattle.page_codec.proofs.ReadLaws.{slots}
use Rattle.plain_laws.specs.Sums.{bit}
use Rattle.slab_codec.specs.Grammar.{IsSlabSector}
use Rattle.slab_codec.specs.declared.forms.SlabEntry.{SlabEntry}
use Rattle.image_model.specs.Counts.{HasMappings, IsKept, IsUpdate, Stores, block_of_data, commit_at, commit_of, count_from, counter_of, leads_to, mapped_below, reference_sector_at}
use Rattle.image_model.specs.Empty.{IsEmpty, IsUnused, HasNothing, empty_root, empty_super, root_head}
use Rattle.image_model.specs.Maps.{Image, ArePagesGood, IsTreePage, head_of, linked_at, mapping_in, mapping_of, page_at, says, target_of}
use Rattle.image_model.specs.Pages.{address_count}
use Rattle.image_model.specs.Sound.{AreUnshared, IsClosed, IsDataPlace, IsOfItsTime, IsSound, Opens, image_of}
use Rattle.image_model.specs.Windows.{IsLast, IsThere, IsWindow}
use Rattle.image_model.proofs.CountLaws.{none_in_nothing}
use Rattle.image_model.proofs.MapLaws.{guarded, page_in_range, slot_says_its_mapping}
use Rattle.image_model.proofs.ZeroLaws.{no_commit, no_journal_sector, no_slab_sector, zero_sector}

-- The sizes of a superblock that is accepted are within their limits.

front_passes : (xs ys : List (Bool × SuperFault)) → run_checks (xs ++ ys) ≡ Ok tt → run_checks xs ≡ Ok tt
front_passes [] ys h = refl
front_passes ((true, fault) ∷ xs) ys h = front_passes xs ys h
front_passes ((false, fault) ∷ xs) ys h = absurd (cc h)

pub back_passes : (xs ys : List (Bool × SuperFault)) → run_checks (xs ++ ys) ≡ Ok tt → run_checks ys ≡ Ok tt
back_passes [] ys h = h
back_passes ((true, fault) ∷ xs) ys h = back_passes xs ys h
back_passes ((false, fault) ∷ xs) ys h = absurd (cc h)

pub answered : (r : Result (Unit {0}) SuperFault) (said head : Super) → answer_after r said ≡ Ok head → (r ≡ Ok tt) × (said ≡ head)
answered (Ok tt) said head is = (refl, cc is)
answered (Err fault) said head is = absurd (cc is)

pub accepted_sizes : (block : List ℕ) (size : ℕ) (head : Super) → super_of block size ≡ Ok head → IsGeometry head.geometry
unfolding super_of
accepted_sizes block size head is =
    let parts = answered (run_checks (super_checks block size)) (head_in block) head is in
    let a = identity_checks block in let b = size_checks (geometry_in block) in let c = state_checks block in let d = room_checks (geometry_in block) size in
    subst IsGeometry (ap (λ (h : Super). h.geometry) parts.1)
    (sizes_right (geometry_in block) (back_passes a b (front_passes (a ++ b) c (front_passes (a ++ b ++ c) d parts.0))))

pub sizes_of_image : (blocks : Blocks) (head : Super) → super_of_image blocks ≡ Ok head → IsGeometry head.geometry
sizes_of_image [] head is = absurd (cc is)
sizes_of_image (block ∷ blocks) head is = accepted_sizes block (length (block ∷ blocks)) head is

-- What zeros say, wherever they stand.

pub zero_first : (n : ℕ) → number_at 1 0 (replicate n 0) ≡ 0
unfolding number_at
zero_first zero = refl
zero_first (suc n) = refl

pub zero_counter : (at : ℕ) → number_at 1 at (replicate 512 0) ≡ 0
zero_counter at =
    let place : at ≡ at + 0 = omega arith in
    ap (λ (k : ℕ). number_at 1 k (replicate 512 0)) place ∙ sym (number_at-drop 1 0 at (replicate 512 0))
    ∙ ap (number_at 1 0) (drop-replicate at 512 0) ∙ zero_first (512 - at)

-- Where links lead.

leads_nowhere : (o : Option Pbn) (mapping : Pbn → Mapping) → ((at : Pbn) → o ≡ Some at → mapping at ≡ Unmapped)
    → ◌≡◌ {A = Option Pbn} (elim o [ Some at ↦ target_of (mapping at) | None ↦ None ]) None
leads_nowhere (Some at) mapping none = ap target_of (none at refl)
leads_nowhere None mapping none = refl

leads_on : (o : Option Pbn) (mapping : Pbn → Mapping) → ((at : Pbn) → o ≡ Some at → ⊥)
    → ◌≡◌ {A = Mapping} (elim o [ Some at ↦ mapping at | None ↦ Unmapped ]) Unmapped
leads_on (Some at) mapping none = absurd (none at refl)
leads_on None mapping none = refl

pub chosen : (b : Bool) (x at : Pbn) → (if b then Some x else None) ≡ Some at → (b ≡ true) × (x ≡ at)
chosen true x at is = (refl, cc is)
chosen false x at is = absurd (cc is)

-- An image of which a part is known.
module _ (g : Geometry) (blocks : Blocks) where
  abbrev pub the_image : Image
  the_image = image_of (empty_super g) blocks []

  -- The recovery journal has zeros.
  module _ (sizes : IsGeometry g) (slots_zero : (slot : ℕ) → slot < g.journal → block_at blocks (block_of g (JournalSlot slot)) ≡ zero_block) where
    slot_zero : (slot : ℕ) → slot < g.journal → get_or (journal_of g blocks) slot zero_block ≡ zero_block
    slot_zero slot inside =
        get_or-take g.journal (drop 1 blocks) slot zero_block inside ∙ get_or-drop 1 blocks slot zero_block ∙ slots_zero slot inside

    pub no_sector : (slot number sequence head : ℕ) (entries : List Entry) → slot < g.journal → number < 8
        → IsSector g.nonce number (sector number (get_or (journal_of g blocks) slot zero_block)) sequence head entries → ⊥
    no_sector slot number sequence head entries inside below is =
        no_journal_sector g.nonce number sequence head entries below
        (subst (λ (block : List ℕ). IsSector g.nonce number (sector number block) sequence head entries) (slot_zero slot inside) is)

    none_there : (sequence head : ℕ) → IsThere g (journal_of g blocks) sequence head → ⊥
    none_there sequence head there =
        let some = sizes.journal.0 in
        no_sector (journal_slot_of g sequence) 0 sequence head there.0 (mod-lt sequence (omega (arith, some))) (omega arith) there.1

    pub last_is : IsLast g 1 (journal_of g blocks) 0
    last_is = record { there = inl refl; none = λ sequence head from later below. none_there sequence head }

    pub window_is : IsWindow g 1 (journal_of g blocks) 0 []
    window_is = record { is_last = last_is; first = 1; is_first = inl (refl, refl); blocks = []; count = refl; replayable = tt; entries = refl }

  -- The roots are pages without mappings.
  module _ (root_is : (tree : ℕ) → tree < TREES → block_at blocks (block_of g (Root tree)) ≡ empty_root g tree) where
    root_page : (tree : ℕ) → tree < TREES → IsPage (root_head g tree) (block_at blocks (block_of g (Root tree))) (replicate 812 Unmapped)
    root_page tree inside = record { spelled = root_is tree inside; held = held_unmapped g (g.height - 1) }

    root_slot : (tree slot : ℕ) → tree < TREES → slot < 812
        → IsSlot (root_head g tree) (block_at blocks (block_of g (Root tree))) slot (slice_index_or (replicate 812 Unmapped) slot Unmapped)
    root_slot tree slot inside below = slots (root_head g tree) (block_at blocks (block_of g (Root tree))) (replicate 812 Unmapped) slot (root_page tree inside) below

    pub blank_slot : (tree slot : ℕ) → tree < TREES → slot < 812 → IsSlot (root_head g tree) (block_at blocks (block_of g (Root tree))) slot Unmapped
    blank_slot tree slot inside below =
        subst (IsSlot (root_head g tree) (block_at blocks (block_of g (Root tree))) slot) (get_or-replicate 812 slot Unmapped Unmapped below) (root_slot tree slot inside below)

    pub root_says : (tree slot : ℕ) → tree < TREES → slot < 812 → mapping_in (block_at blocks (block_of g (Root tree))) slot ≡ Unmapped
    root_says tree slot inside below =
        slot_says_its_mapping (root_head g tree) (block_at blocks (block_of g (Root tree))) slot Unmapped (blank_slot tree slot inside below)

  -- The roots say nothing.
  module _ (sizes : IsGeometry g) (says_none : (tree slot : ℕ) → tree < TREES → slot < 812 → mapping_in (block_at blocks (block_of g (Root tree))) slot ≡ Unmapped) where
    -- a root leads nowhere, so nothing stands below one
    nothing_below : (links : ℕ) (page : PageId) → page.tree < TREES → linked_at the_image (suc links) page ≡ None
    nothing_below zero page inside =
        leads_nowhere (linked_at the_image zero (above page)) (λ at. says the_image (above page) at (slot_of page))
        (λ at there. let root = chosen (page.index / 812 == 0) (record { 0 = block_of g (Root page.tree) }) at there in
        ap (λ (place : Pbn). mapping_in (block_at blocks place.0) (slot_of page)) (sym root.1) ∙ says_none page.tree (slot_of page) inside (mod-lt page.index (omega arith)))
    nothing_below (suc links) page inside =
        leads_nowhere (linked_at the_image (suc links) (above page)) (λ at. says the_image (above page) at (slot_of page))
        (λ at there. let none = nothing_below links (above page) inside in absurd (cc (there, none)))

    pages_are_roots : (page : PageId) (at : Pbn) → page_at the_image page ≡ Some at
        → (page.tree < TREES) × (page.level + 1 ≡ g.height) × (linked_at the_image 0 page ≡ Some at)
    pages_are_roots page at there =
        let range = page_in_range the_image page at there in
        let linked = (guarded (nat_lt page.tree TREES) (nat_lt page.level g.height) (linked_at the_image (g.height - 1 - page.level) page) at there).2 in
        elim (cases_lt (page.level + 1) g.height) [
          | inl below ↦
              let links : g.height - 1 - page.level ≡ suc (g.height - 2 - page.level) = omega (arith, below) in
              let none = nothing_below (g.height - 2 - page.level) page range.0 in
              let some = subst (λ (n : ℕ). linked_at the_image n page ≡ Some at) links linked in
              absurd (cc (none, some))
          | inr not_below ↦
              let level = range.1 in
              let links : g.height - 1 - page.level ≡ 0 = omega (arith, not_below, level) in
              (range.0, omega (arith, not_below, level), subst (λ (n : ℕ). linked_at the_image n page ≡ Some at) links linked)
        ]

    pub no_tree_page : (at : Pbn) → IsTreePage the_image at → ⊥
    no_tree_page at (page, below, there) = let level = (pages_are_roots page at there).1 in omega (arith, below, level)

    no_leaf : (address : ℕ) (at : Pbn) → page_at the_image (leaf_of address) ≡ Some at → ⊥
    no_leaf address at there =
        let level = (pages_are_roots (leaf_of address) at there).1 in let high = sizes.height.0 in omega (arith, level, high)

    pub all_unmapped : (address : ℕ) → mapping_of the_image address ≡ Unmapped
    all_unmapped address = leads_on (page_at the_image (leaf_of address)) (λ at. says the_image (leaf_of address) at (address % 812)) (no_leaf address)

    root_place : (page : PageId) (at : Pbn) → linked_at the_image 0 page ≡ Some at → (page.index ≡ 0) × ((root_head g page.tree).at ≡ at)
    root_place page at linked =
        let root = chosen (page.index == 0) (record { 0 = block_of g (Root page.tree) }) at linked in
        (elim (eqb_tells page.index 0) [ inl same ↦ same.1 | inr other ↦ absurd (let no = other.0 in let so = root.0 in cc (no, so)) ], root.1)

    pub pages_good : ((tree slot : ℕ) → tree < TREES → slot < 812 → IsSlot (root_head g tree) (block_at blocks (block_of g (Root tree))) slot Unmapped) → ArePagesGood the_image
    pages_good blank_slot page at there =
        let root = pages_are_roots page at there in
        let place = root_place page at root.2 in
        let level : g.height - 1 ≡ page.level = let last = root.1 in omega (arith, last) in
        let same : (root_head g page.tree).page ≡ page = ap₂ (λ (l i : ℕ). record { tree = page.tree; level = l; index = i }) level (sym place.0) in
        let head : root_head g page.tree ≡ head_of the_image page at = ap₂ (λ (p : PageId) (b : Pbn). record { geometry = g; page = p; at = b }) same place.1 in
        let slot : (slot : ℕ) → slot < 812 → IsSlot (head_of the_image page at) (block_at blocks at.0) slot Unmapped = λ slot below.
        subst (λ (h : PageHead). IsSlot h (block_at blocks h.at.0) slot Unmapped) head (blank_slot page.tree slot root.0 below) in
        record { headed = (slot 0 (omega arith)).headed; slots = λ slot_number below. inr (Unmapped, slot slot_number below) }

    leads_to_none : (block : Pbn) (mapping : Mapping) → mapping ≡ Unmapped → bit (leads_to block mapping) ≡ 0
    leads_to_none block mapping none = rw (none) refl

    none_mapped : (block : Pbn) (n : ℕ) → mapped_below (mapping_of the_image) block n ≡ 0
    unfolding mapped_below
    none_mapped block zero = refl
    none_mapped block (suc n) = let here = leads_to_none block (mapping_of the_image n) (all_unmapped n) in let before = none_mapped block n in omega (arith, here, before)

    pub all_counted : (block : Pbn) → HasMappings the_image block 0
    all_counted block =
        let none = none_mapped block (address_count g) in
        record { pages = 0; one_page = inr (refl, no_tree_page block); sum = omega (arith, none) }

    pub not_shared : AreUnshared the_image
    not_shared at address page mapped = no_tree_page at page

  -- The journals of the slabs have no update.
  module _ (none_kept : (slab : ℕ) (entry : SlabEntry) → slab < g.slabs → IsKept g blocks slab entry → ⊥) where
    pub no_updates : (place : DataPlace) (point : ℕ) → IsDataPlace g place → IsUpdate the_image place point → ⊥
    no_updates place point inside (inl in_slab) = none_kept place.slab _ inside.0 in_slab
    no_updates place point inside (inr in_window) = none_in_nothing in_window.0 in_window.1

    fits : (commit counter : ℕ) → counter ≤ 254 → count_from (limit_of g) commit counter [] ≡ Ok counter
    fits commit counter within = rw (le-leb counter 254 within) refl

    pub stored_counter : (place : DataPlace) → IsDataPlace g place → counter_of the_image place ≤ 254 → Stores the_image place (Ok (counter_of the_image place))
    stored_counter place inside within = record {
      points = [];
      updates = record { rising = tt; each = λ point. ((λ has. absurd (none_in_nothing point has)), (λ is. absurd (no_updates place point inside is.1))) };
      counted = fits (commit_of the_image place) (counter_of the_image place) within;
    }

  -- The counters of the slabs are zeros.
  module _ (counters_are : (slab i : ℕ) → slab < g.slabs → i < references_of g → block_at blocks (block_of g (ReferenceBlock slab i)) ≡ zero_block) where
    references_zero : (slab n : ℕ) → slab < g.slabs → n / 8 < references_of g → reference_sector_at g blocks slab n ≡ sector (n % 8) zero_block
    references_zero slab n inside below = ap (sector (n % 8)) (counters_are slab (n / 8) inside below)

    pub no_commits : (slab n : ℕ) → slab < g.slabs → n / 8 < references_of g → commit_at g blocks slab n ≡ 0
    no_commits slab n inside below = ap (number_at 8 0) (references_zero slab n inside below) ∙ no_commit (n % 8) (mod-lt n (omega arith))

    counters_zero : (place : DataPlace) → IsDataPlace g place → counter_of the_image place ≡ 0
    counters_zero place inside =
        let offset = inside.1 in
        let n = sector_of_offset g place.offset in
        let below : n / 8 < references_of g = omega (arith, offset) in
        ap (number_at 1 (8 + place.offset % 504)) (references_zero place.slab n inside.0 below ∙ zero_sector (n % 8) (mod-lt n (omega arith)))
        ∙ zero_counter (8 + place.offset % 504)

    pub stored_zero : ((slab : ℕ) (entry : SlabEntry) → slab < g.slabs → IsKept g blocks slab entry → ⊥) → (place : DataPlace) → IsDataPlace g place
        → Stores the_image place (Ok 0)
    stored_zero none_kept place inside =
        let none = counters_zero place inside in
        subst (λ (n : ℕ). Stores the_image place (Ok n)) none (stored_counter none_kept place inside (omega (arith, none)))

  -- So are their journals.
  module _ (journals_are : (slab slot : ℕ) → slab < g.slabs → slot < g.slab_journal → block_at blocks (block_of g (SlabJournalSlot slab slot)) ≡ zero_block) where
    pub none_kept_in_zeros : (slab : ℕ) (entry : SlabEntry) → slab < g.slabs → IsKept g blocks slab entry → ⊥
    none_kept_in_zeros slab entry inside is =
        no_slab_sector g.nonce slab g.slab_blocks is.number is.sequence is.entries is.inside.1
        (subst (λ (block : List ℕ). IsSlabSector g.nonce slab g.slab_blocks is.number (sector is.number block) is.sequence is.entries)
        (journals_are slab is.slot inside is.inside.0) is.valid)

    -- the roots, the counters and the journals of the slabs say all that the image has
    pub nothing_there : IsGeometry g → ((tree slot : ℕ) → tree < TREES → slot < 812 → mapping_in (block_at blocks (block_of g (Root tree))) slot ≡ Unmapped)
        → ((slab i : ℕ) → slab < g.slabs → i < references_of g → block_at blocks (block_of g (ReferenceBlock slab i)) ≡ zero_block) → HasNothing the_image
    nothing_there sizes says_none counters_are = record {
      unmapped = all_unmapped sizes says_none;
      stored = stored_zero counters_are none_kept_in_zeros;
      mapped = all_counted sizes says_none;
    }

-- An empty image.
module _ (g : Geometry) (blocks : Blocks) (empty : IsEmpty g blocks) where
  sizes : IsGeometry g
  sizes = sizes_of_image blocks (empty_super g) empty.accepted

  slots_zero : (slot : ℕ) → slot < g.journal → block_at blocks (block_of g (JournalSlot slot)) ≡ zero_block
  slots_zero slot inside = empty.made (JournalSlot slot) inside tt

  root_is : (tree : ℕ) → tree < TREES → block_at blocks (block_of g (Root tree)) ≡ empty_root g tree
  root_is tree inside = empty.made (Root tree) inside tt

  says_none : (tree slot : ℕ) → tree < TREES → slot < 812 → mapping_in (block_at blocks (block_of g (Root tree))) slot ≡ Unmapped
  says_none tree slot inside below = root_says g blocks root_is tree slot inside below

  counters_are : (slab i : ℕ) → slab < g.slabs → i < references_of g → block_at blocks (block_of g (ReferenceBlock slab i)) ≡ zero_block
  counters_are slab i inside below = empty.made (ReferenceBlock slab i) (inside, below) tt

  none_kept : (slab : ℕ) (entry : SlabEntry) → slab < g.slabs → IsKept g blocks slab entry → ⊥
  none_kept = none_kept_in_zeros g blocks (λ slab slot inside below. empty.made (SlabJournalSlot slab slot) (inside, below) tt)

  stored_none : (place : DataPlace) → IsDataPlace g place → Stores (the_image g blocks) place (Ok 0)
  stored_none = stored_zero g blocks counters_are none_kept

  -- The whole.

  opens : Opens blocks (empty_super g) 0 []
  opens = record { accepted = empty.accepted; sequences = λ unclean. absurd (cc unclean); is_window = window_is g blocks sizes slots_zero }

  timely : IsOfItsTime g blocks 0
  timely = record {
    commits = λ slab n inside below. let none = no_commits g blocks counters_are slab n inside (omega (arith, below)) in omega (arith, none);
    updates = λ slab entry inside is. absurd (none_kept slab entry inside is);
    sectors = λ slot number sequence head entries inside below is. absurd (no_sector g blocks sizes slots_zero slot number sequence head entries inside below is);
  }

  closed : IsClosed (the_image g blocks) 1 0
  closed = record {
    next = refl;
    window = refl;
    updates = λ place point inside is. absurd (no_updates g blocks none_kept place point inside is);
    sectors = λ slot number sequence head entries inside below is. absurd (no_sector g blocks sizes slots_zero slot number sequence head entries inside below is);
  }

  pub is_sound : IsSound blocks
  is_sound = record {
    head = empty_super g;
    last = 0;
    window = [];
    opens = opens;
    pages = pages_good g blocks sizes says_none (blank_slot g blocks root_is);
    stored = λ place inside. (0, stored_none place inside);
    unshared = not_shared g blocks sizes says_none;
    counts = λ place inside. (0, stored_none place inside, all_counted g blocks sizes says_none (block_of_data g place));
    timely = timely;
    closed = λ clean. closed;
  }

  pub has_nothing : HasNothing (the_image g blocks)
  has_nothing = record { unmapped = all_unmapped g blocks sizes says_none; stored = stored_none; mapped = all_counted g blocks sizes says_none }

  pub is_unused : IsUnused blocks
  is_unused = record {
    sound = is_sound;
    image = the_image g blocks;
    opened = record { head = empty_super g; last = 0; opens = opens; is_image = refl };
    nothing = has_nothing;
  }
