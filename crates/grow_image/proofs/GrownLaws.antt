-- An image whose new slabs are empty, and whose old blocks are what they were, is sound with more addresses and slabs, and says as
-- much; also where there are no more of them, so that only blocks behind the image are others.
use Rattle.std.proofs.Common.{ℕ, zero, suc, ◌≡◌, ◌+◌, ◌-◌, ◌*◌, ◌/◌, ◌%◌, ◌<◌, ◌≤◌, Bool, true, false, IsTrue, List, [], length, take, get_or, Contains, All, Some, Ok, refl, sym, ◌∙◌, ap, ap₂, subst, inl, inr, arith}
use Rattle.std.proofs.Math.Nat.{mod-lt}
use Rattle.std.proofs.lemmas.Bool.{cases_lt}
use Rattle.std.proofs.lemmas.Bool.Decides.{eqb_tells}
use Rattle.blk_base.specs.Counters.{counters_per_sector, limit_of, sector_of_offset}
use Rattle.blk_base.specs.Regions.{JournalSlot, Root, DataBlock, ReferenceBlock, SlabJournalSlot, IsDataBlock, block_of, references_of}
use Rattle.blk_base.specs.Sectors.{sector, zero_block}
use Rattle.blk_base.proofs.RegionLaws.{apart, data_block_high, inside}
use Rattle.blk_base.specs.declared.geometry.Geometry.{Geometry}
use Rattle.blk_base.specs.declared.journal_entry.CommittedEntry.{CommittedEntry}
use Rattle.blk_base.specs.declared.journal_entry.Entry.{Entry}
use Rattle.blk_base.specs.declared.layout.DataPlace.{DataPlace}
use Rattle.blk_base.specs.declared.place.Mapping.{Mapping}
use Rattle.blk_base.specs.declared.place.Mapping.TheVariants.{Unmapped, Zero, At}
use Rattle.blk_base.specs.declared.place.PageId.{PageId}
use Rattle.blk_base.specs.declared.place.Pbn.{Pbn}
use Rattle.blk_base.specs.declared.sizes.TheConstants.{PAGE_SLOTS}
use Rattle.byte_fields.specs.Fields.{number_at}
use Rattle.disk_model.specs.Log.{Blocks, block_at}
use Rattle.image_layout.specs.Opened.{super_of_image}
use Rattle.image_layout.specs.Values.{journal_of}
use Rattle.image_model.proofs.CountLaws.{none_in_nothing, one_stored}
use Rattle.image_model.proofs.LookedLaws.{looked_high, looked_place}
use Rattle.image_model.proofs.ZeroLaws.{no_commit, no_slab_sector, zero_sector}
use Rattle.image_model.specs.Counts.{HasMappings, IsKept, IsUpdate, Stores, block_of_data, commit_of, count_from, counter_of, leads_to, mapped_below, reference_sector_at}
use Rattle.image_model.specs.Looked.{is_looked_at}
use Rattle.image_model.specs.Maps.{Image, ArePagesGood, IsReadable, IsTreePage, head_of, mapping_in, mapping_of, page_at, put_last, says, value_of, value_with}
use Rattle.image_model.specs.Pages.{address_count}
use Rattle.image_model.specs.Sound.{IsClosed, IsDataPlace, IsOfItsTime, IsSound}
use Rattle.image_model.specs.Windows.{IsThere, IsWindow}
use Rattle.image_model.proofs.EmptyLaws.{zero_counter}
use Rattle.image_model.proofs.JournalLaws.{journals_alike}
use Rattle.journal_codec.specs.Grammar.{IsSector}
use Rattle.page_codec.specs.Grammar.{HasHead, HoldsMapping, IsSlot}
use Rattle.page_codec.specs.PageBytes.{head_bytes}
use Rattle.plain_laws.proofs.OptionLaws.{option_cases}
use Rattle.plain_laws.specs.Sums.{bit}
use Rattle.recovery_laws.proofs.CountsKept.{sector_inside, sectors_inside, stores_counter}
use Rattle.recovery_laws.proofs.OldLaws.{mapped_is_data, page_stands, says_own, says_put}
use Rattle.recovery_laws.proofs.SameMapLaws.{same_mapping, same_page}
use Rattle.recovery_laws.proofs.SoundLaws.{known}
use Rattle.recovery_laws.proofs.WindowFacts.{IsKnown}
use Rattle.recovery_laws.specs.Kept.{image_in}
use Rattle.recovery_laws.proofs.StillLaws.{value_alike}
use Rattle.slab_codec.specs.Grammar.{IsSlabSector}
use Rattle.slab_codec.specs.declared.forms.SlabEntry.{SlabEntry}
use Rattle.grow_image.proofs.SizeLaws.{count_as, mapping_as, page_as}
use Rattle.grow_image.specs.Kept.{AreNewEmpty, AreOldKept, IsGrown, SayAsMuch}
use Rattle.grow_image.specs.Sizes.{IsMore, grown_sizes, grown_super}

-- Zeros.

-- A block to which no mapping leads has none.

leads_elsewhere : (block : Pbn) (mapping : Mapping) → ((other : Pbn) → mapping ≡ At other → other.0 ≡ block.0 → ⊥) → leads_to block mapping ≡ false
leads_elsewhere block Unmapped none = refl
leads_elsewhere block Zero none = refl
leads_elsewhere block (At other) none = elim (eqb_tells other.0 block.0) [ inl same ↦ absurd (none other refl same.1) | inr apart_from ↦ apart_from.0 ]

none_below : (mappings : ℕ → Mapping) (block : Pbn) (n : ℕ) → ((address : ℕ) → leads_to block (mappings address) ≡ false) → mapped_below mappings block n ≡ 0
unfolding mapped_below
none_below mappings block zero none = refl
none_below mappings block (suc n) none = ap₂ (λ (b : Bool) (k : ℕ). bit b + k) (none n) (none_below mappings block n none)

module _ (base now : Blocks) (sound : IsSound base) (clean : sound.head.clean ≡ true) (logical slabs : ℕ) (more : IsMore sound.head.geometry logical slabs)
    (size : length now ≡ length base) (kept : AreOldKept (image_in base sound) now) (empty : AreNewEmpty (image_in base sound) logical slabs now)
    (accepted : super_of_image now ≡ Ok (grown_super sound.head logical slabs)) where
  abbrev g : Geometry
  g = sound.head.geometry

  abbrev g' : Geometry
  g' = grown_sizes g logical slabs

  abbrev old : Image
  old = image_in base sound

  abbrev new : Image
  new = record { geometry = g'; blocks = now; window = sound.window }

  abbrev between : Image
  between = record { geometry = g; blocks = now; window = sound.window }

  all_known : All (IsKnown g sound.last) sound.window
  all_known = known base now sound

  was_closed : IsClosed old sound.head.start sound.last
  was_closed = sound.closed clean

  -- a data block of the old sizes is one of the new
  abbrev still_data : (b : ℕ) → IsDataBlock g b → IsDataBlock g' b
  still_data b is = record { slab = is.slab; offset = is.offset; inside = (let few = is.inside.0 in let slabs_more = more.slabs_more in omega (arith, few, slabs_more), is.inside.1); stands = is.stands }

  still_held : (level : ℕ) (mapping : Mapping) → HoldsMapping g level mapping → HoldsMapping g' level mapping
  still_held level Unmapped held = tt
  still_held level Zero held = held
  still_held level (At block) held = (still_data block.0 held.0, held.1)

  -- The pages.

  page_same : (page : PageId) (at : Pbn) → page_at old page ≡ Some at → block_at now at.0 ≡ block_at base at.0
  page_same page at there = elim (page_stands old sound.pages sound.last all_known page at there) [
    | inl root ↦
        let below = inside g (Root page.tree) root.1 in
        let is = root.2 in
        kept at.0 (omega (arith, is)) (omega (arith, below, is)) (subst (λ (b : ℕ). IsTrue (is_looked_at g b)) is (looked_place g (Root page.tree) root.1 tt))
    | inr stands ↦
        let below = inside g (DataBlock stands.slab stands.offset) stands.inside in
        let is = stands.stands in
        let high = data_block_high g at.0 stands in
        kept at.0 (omega (arith, high)) (omega (arith, below, is)) (looked_high g at.0 high)
  ]

  says_the_same : (page : PageId) (at : Pbn) (slot : ℕ) → page_at old page ≡ Some at → slot < PAGE_SLOTS → says between page at slot ≡ says old page at slot
  says_the_same page at slot there below = elim (option_cases (put_last sound.window page slot)) [
    | inr (mapping, put) ↦ says_put between page at slot mapping put ∙ sym (says_put old page at slot mapping put)
    | inl none ↦ says_own between page at slot none ∙ ap (λ (block : List ℕ). mapping_in block slot) (page_same page at there) ∙ sym (says_own old page at slot none)
  ]

  page_is : (page : PageId) → page_at new page ≡ page_at old page
  page_is page = page_as g logical slabs now sound.window page ∙ same_page g base now sound.window sound.window says_the_same page

  mapping_is : (address : ℕ) → mapping_of new address ≡ mapping_of old address
  mapping_is address = mapping_as g logical slabs now sound.window address ∙ same_mapping g base now sound.window sound.window says_the_same address

  headed_as : (page : PageId) (at : Pbn) → HasHead (head_of old page at) (block_at now at.0) → HasHead (head_of new page at) (block_at now at.0)
  unfolding head_bytes
  headed_as page at is = is

  pages : ArePagesGood new
  pages page at there =
      let was : page_at old page ≡ Some at = sym (page_is page) ∙ there in
      let good = sound.pages page at was in
      let block = page_same page at was in
      record {
        headed = headed_as page at (ap (take 36) block ∙ good.headed);
        slots = λ slot below. readable slot (good.slots slot below) block;
      }
    where
      slot_held : (slot : ℕ) (mapping : Mapping) → block_at now at.0 ≡ block_at base at.0 → IsSlot (head_of old page at) (block_at base at.0) slot mapping
          → IsSlot (head_of new page at) (block_at now at.0) slot mapping
      slot_held slot mapping block is =
          let same = subst (λ (bytes : List ℕ). IsSlot (head_of old page at) bytes slot mapping) (sym block) is in
          record { headed = headed_as page at same.headed; spelled = same.spelled; held = still_held page.level mapping same.held }

      readable : (slot : ℕ) → IsReadable old page at slot → block_at now at.0 ≡ block_at base at.0 → IsReadable new page at slot
      readable slot (inl put) block = inl put
      readable slot (inr (mapping, is)) block = inr (mapping, slot_held slot mapping block is)

  -- a page stands, and an address is mapped, at old data blocks alone
  tree_page_old : (at : Pbn) → IsTreePage new at → IsTreePage old at
  tree_page_old at (page, below, there) = (page, below, sym (page_is page) ∙ there)

  tree_page_data : (at : Pbn) → IsTreePage old at → IsDataBlock g at.0
  tree_page_data at (page, below, there) = elim (page_stands old sound.pages sound.last all_known page at there) [
    | inl root ↦ let high = root.0 in absurd (omega (arith, high, below))
    | inr stands ↦ stands
  ]

  mapped_data : (address : ℕ) (block : Pbn) → mapping_of old address ≡ At block → IsDataBlock g block.0
  mapped_data address block is = mapped_is_data old sound.pages sound.last all_known address block is

  -- and none of them is a block of a new slab
  not_new : (place : DataPlace) (b : ℕ) → g.slabs ≤ place.slab → IsDataPlace g' place → IsDataBlock g b → b ≡ (block_of_data g' place).0 → ⊥
  not_new place b behind within data_block same =
      let again = still_data b data_block in
      let one = apart g' (DataBlock again.slab again.offset) (DataBlock place.slab place.offset) again.inside within (again.stands ∙ same) in
      let few = data_block.inside.0 in
      absurd (other_slab again.slab again.offset place.slab place.offset one (omega (arith, few, behind)))
    where
      other_slab : (a b c d : ℕ) → DataBlock a b ≡ DataBlock c d → a < c → ⊥
      other_slab a b c d one less = let same_slab : a ≡ c = cc one in omega (arith, same_slab, less)

  -- The counters and the slabs' journals that were there.

  sector_same : (slab n : ℕ) → slab < g.slabs → n < 8 * references_of g → reference_sector_at g' now slab n ≡ reference_sector_at g base slab n
  sector_same slab n is below =
      let within = inside g (ReferenceBlock slab (n / 8)) (is, omega (arith, below)) in
      ap (sector (n % 8)) (kept (block_of g (ReferenceBlock slab (n / 8))) (omega arith) (omega (arith, within)) (looked_place g (ReferenceBlock slab (n / 8)) (is, omega (arith, below)) tt))

  slot_same : (slab slot : ℕ) → slab < g.slabs → slot < g.slab_journal
      → block_at now (block_of g (SlabJournalSlot slab slot)) ≡ block_at base (block_of g (SlabJournalSlot slab slot))
  slot_same slab slot is below =
      let within = inside g (SlabJournalSlot slab slot) (is, below) in
      kept (block_of g (SlabJournalSlot slab slot)) (omega arith) (omega (arith, within)) (looked_place g (SlabJournalSlot slab slot) (is, below) tt)

  listed_before : (slab : ℕ) (entry : SlabEntry) → slab < g.slabs → IsKept g' now slab entry → IsKept g base slab entry
  listed_before slab entry is has = record {
    slot = has.slot;
    number = has.number;
    inside = has.inside;
    sequence = has.sequence;
    entries = has.entries;
    valid = subst (λ (block : List ℕ). IsSlabSector g.nonce slab g.slab_blocks has.number (sector has.number block) has.sequence has.entries)
        (slot_same slab has.slot is has.inside.0) has.valid;
    listed = has.listed;
  }

  listed_again : (slab : ℕ) (entry : SlabEntry) → slab < g.slabs → IsKept g base slab entry → IsKept g' now slab entry
  listed_again slab entry is has = record {
    slot = has.slot;
    number = has.number;
    inside = has.inside;
    sequence = has.sequence;
    entries = has.entries;
    valid = subst (λ (block : List ℕ). IsSlabSector g.nonce slab g.slab_blocks has.number (sector has.number block) has.sequence has.entries)
        (sym (slot_same slab has.slot is has.inside.0)) has.valid;
    listed = has.listed;
  }

  fewer : (place : DataPlace) (point : ℕ) → IsDataPlace g place → IsUpdate new place point → IsUpdate old place point
  fewer place point within (inl has) = inl (listed_before place.slab _ within.0 has)
  fewer place point within (inr listed) = inr listed

  again : (place : DataPlace) (point : ℕ) → IsDataPlace g place → IsUpdate old place point → IsUpdate new place point
  again place point within (inl has) = inl (listed_again place.slab _ within.0 has)
  again place point within (inr listed) = inr listed

  of_place : (place : DataPlace) → IsDataPlace g place
      → reference_sector_at g' now place.slab (sector_of_offset g place.offset) ≡ reference_sector_at g base place.slab (sector_of_offset g place.offset)
  of_place place within = sector_same place.slab (sector_of_offset g place.offset) within.0 (sectors_inside g (sector_of_offset g place.offset) (sector_inside g place within))

  commit_is : (place : DataPlace) → IsDataPlace g place → commit_of new place ≡ commit_of old place
  commit_is place within = ap (number_at 8 0) (of_place place within)

  counter_is : (place : DataPlace) → IsDataPlace g place → counter_of new place ≡ counter_of old place
  counter_is place within = ap (number_at 1 (8 + place.offset % counters_per_sector g)) (of_place place within)

  stores : (place : DataPlace) (count : ℕ) → IsDataPlace g place → Stores old place (Ok count) → Stores new place (Ok count)
  stores place count within was =
      let commit = commit_is place within in
      let counter = counter_is place within in
      record {
        points = was.points;
        updates = record {
          rising = was.updates.rising;
          each = λ point.
              let each = was.updates.each point in (
                (λ has. let is = each.0 has in let above = is.0 in (omega (arith, commit, above), again place point within is.1)),
                (λ is. let above = is.0 in each.1 (omega (arith, commit, above), fewer place point within is.1)),
              );
        };
        counted = ap₂ (λ (c n : ℕ). count_from (limit_of g) c n was.points) commit counter ∙ was.counted;
      }

  stores_back : (place : DataPlace) (count : ℕ) → IsDataPlace g place → Stores new place (Ok count) → Stores old place (Ok count)
  stores_back place count within is =
      let was = sound.stored place within in
      let one = one_stored new place (Ok count) (Ok was.0) is (stores place was.0 within was.1) in
      let count_is : was.0 ≡ count = cc one in
      subst (λ (n : ℕ). Stores old place (Ok n)) count_is was.1

  -- The new ones.

  sector_empty : (slab n : ℕ) → g.slabs ≤ slab → slab < slabs → n < 8 * references_of g → reference_sector_at g' now slab n ≡ sector (n % 8) zero_block
  sector_empty slab n behind is below = ap (sector (n % 8)) (empty (ReferenceBlock slab (n / 8)) (is, omega (arith, below)) behind)

  none_listed : (slab : ℕ) (entry : SlabEntry) → g.slabs ≤ slab → slab < slabs → IsKept g' now slab entry → ⊥
  none_listed slab entry behind is has =
      no_slab_sector g.nonce slab g.slab_blocks has.number has.sequence has.entries has.inside.1
      (subst (λ (block : List ℕ). IsSlabSector g.nonce slab g.slab_blocks has.number (sector has.number block) has.sequence has.entries)
      (empty (SlabJournalSlot slab has.slot) (is, has.inside.0) behind) has.valid)

  none_in_window : (committed : CommittedEntry) → Contains sound.window committed → ⊥
  none_in_window committed has = none_in_nothing committed (subst (λ (w : List CommittedEntry). Contains w committed) was_closed.window has)

  no_update : (place : DataPlace) (point : ℕ) → g.slabs ≤ place.slab → IsDataPlace g' place → IsUpdate new place point → ⊥
  no_update place point behind within (inl has) = none_listed place.slab _ behind within.0 has
  no_update place point behind within (inr (committed, has, updates)) = none_in_window committed has

  new_sector : (place : DataPlace) → g.slabs ≤ place.slab → IsDataPlace g' place
      → reference_sector_at g' now place.slab (sector_of_offset g place.offset) ≡ sector (sector_of_offset g place.offset % 8) zero_block
  new_sector place behind within =
      sector_empty place.slab (sector_of_offset g place.offset) behind within.0
      (sectors_inside g (sector_of_offset g place.offset) (sector_inside g' place within))

  new_counter : (place : DataPlace) → g.slabs ≤ place.slab → IsDataPlace g' place → counter_of new place ≡ 0
  new_counter place behind within =
      ap (number_at 1 (8 + place.offset % counters_per_sector g)) (new_sector place behind within ∙ zero_sector (sector_of_offset g place.offset % 8) (mod-lt (sector_of_offset g place.offset) (omega arith)))
      ∙ zero_counter (8 + place.offset % counters_per_sector g)

  new_stored : (place : DataPlace) → g.slabs ≤ place.slab → IsDataPlace g' place → Stores new place (Ok 0)
  new_stored place behind within =
      let none = new_counter place behind within in
      subst (λ (n : ℕ). Stores new place (Ok n)) none
      (stores_counter new place (λ point above update. no_update place point behind within update) (omega (arith, none)))

  new_mapped : (place : DataPlace) → g.slabs ≤ place.slab → IsDataPlace g' place → HasMappings new (block_of_data g' place) 0
  new_mapped place behind within = record {
    pages = 0;
    one_page = inr (refl, λ is. not_new place (block_of_data g' place).0 behind within (tree_page_data (block_of_data g' place) (tree_page_old (block_of_data g' place) is)) refl);
    sum = sym (ap (λ (n : ℕ). n + 0) (none_below (mapping_of new) (block_of_data g' place) (address_count g')
        (λ address. leads_elsewhere (block_of_data g' place) (mapping_of new address)
        (λ other leads same. not_new place other.0 behind within (mapped_data address other (sym (mapping_is address) ∙ leads)) same))));
  }

  -- Old mappings.

  same_below : (block : Pbn) (n : ℕ) → mapped_below (mapping_of new) block n ≡ mapped_below (mapping_of old) block n
  unfolding mapped_below
  same_below block zero = refl
  same_below block (suc n) = ap₂ (λ (m : Mapping) (k : ℕ). bit (leads_to block m) + k) (mapping_is n) (same_below block n)

  old_mapped : (block : Pbn) (count : ℕ) → HasMappings old block count → HasMappings new block count
  old_mapped block count has = record {
    pages = has.pages;
    one_page = elim has.one_page [
      | inl (one, (page, below, there)) ↦ inl (one, (page, below, page_is page ∙ there))
      | inr none ↦ inr (none.0, λ is. none.1 (tree_page_old block is))
    ];
    sum = has.sum ∙ ap (λ (n : ℕ). n + has.pages) (sym (ap (mapped_below (mapping_of new) block) (count_as g logical slabs) ∙ same_below block (address_count g)));
  }

  -- The journal.

  journal_slot_same : (slot : ℕ) → slot < g.journal → block_at now (1 + slot) ≡ block_at base (1 + slot)
  journal_slot_same slot is =
      let within = inside g (JournalSlot slot) is in
      kept (1 + slot) (omega arith) (omega (arith, within)) (looked_place g (JournalSlot slot) is tt)

  journal_same : journal_of g now ≡ journal_of g base
  journal_same = journals_alike g base now size journal_slot_same

  sectors_before : (slot number sequence head : ℕ) (entries : List Entry) → IsSector g.nonce number (sector number (get_or (journal_of g now) slot zero_block)) sequence head entries
      → IsSector g.nonce number (sector number (get_or (journal_of g base) slot zero_block)) sequence head entries
  sectors_before slot number sequence head entries is =
      subst (λ (journal : Blocks). IsSector g.nonce number (sector number (get_or journal slot zero_block)) sequence head entries) journal_same is

  window_is : IsWindow g' sound.head.start (journal_of g' now) sound.last sound.window
  window_is =
      let next = was_closed.next in
      let last_is = sound.opens.is_window.is_last in
      subst (IsWindow g' sound.head.start (journal_of g' now) sound.last) (sym was_closed.window)
      (record {
        is_last = record {
          there = inl (sym next);
          none = λ sequence head from later below there.
              last_is.none sequence head from later below (subst (λ (journal : Blocks). IsThere g journal sequence head) journal_same there);
        };
        first = sound.head.start;
        is_first = inl (sym next, refl);
        blocks = [];
        count = omega (arith, next);
        replayable = tt;
        entries = refl;
      })

  -- By the slab.

  module _ (P : DataPlace → Type 0) (of_old : (place : DataPlace) → IsDataPlace g place → P place)
      (of_new : (place : DataPlace) → g.slabs ≤ place.slab → IsDataPlace g' place → P place) where
    of_each : (place : DataPlace) → IsDataPlace g' place → P place
    of_each place within = elim (cases_lt place.slab g.slabs) [
      | inl few ↦ of_old place (few, within.1)
      | inr many ↦ of_new place (omega (arith, many)) within
    ]

  stored : (place : DataPlace) → IsDataPlace g' place → (count : ℕ) × Stores new place (Ok count)
  stored =
      of_each (λ place. (count : ℕ) × Stores new place (Ok count))
      (λ place within. let was = sound.stored place within in (was.0, stores place was.0 within was.1))
      (λ place behind within. (0, new_stored place behind within))

  counts : (place : DataPlace) → IsDataPlace g' place → (count : ℕ) × Stores new place (Ok count) × HasMappings new (block_of_data g' place) count
  counts =
      of_each (λ place. (count : ℕ) × Stores new place (Ok count) × HasMappings new (block_of_data g' place) count)
      (λ place within. let was = sound.counts place within in (was.0, stores place was.0 within was.1, old_mapped (block_of_data g place) was.0 was.2))
      (λ place behind within. (0, new_stored place behind within, new_mapped place behind within))

  timely : IsOfItsTime g' now sound.last
  timely = record {
    commits = λ slab n is below. elim (cases_lt slab g.slabs) [
      | inl few ↦ let commit = ap (number_at 8 0) (sector_same slab n few below) in let early = sound.timely.commits slab n few below in omega (arith, commit, early)
      | inr many ↦
          let behind : g.slabs ≤ slab = omega (arith, many) in
          let commit = ap (number_at 8 0) (sector_empty slab n behind is below) ∙ no_commit (n % 8) (mod-lt n (omega arith)) in
          omega (arith, commit)
    ];
    updates = λ slab entry is has. elim (cases_lt slab g.slabs) [
      | inl few ↦ sound.timely.updates slab entry few (listed_before slab entry few has)
      | inr many ↦ absurd (none_listed slab entry (omega (arith, many)) is has)
    ];
    sectors = λ slot number sequence head entries within below is. sound.timely.sectors slot number sequence head entries within below (sectors_before slot number sequence head entries is);
  }

  closed : IsClosed new sound.head.start sound.last
  closed = record {
    next = was_closed.next;
    window = was_closed.window;
    updates = λ place point within is. elim (cases_lt place.slab g.slabs) [
      | inl few ↦
          let commit = commit_is place (few, within.1) in
          let most = was_closed.updates place point (few, within.1) (fewer place point (few, within.1) is) in
          omega (arith, commit, most)
      | inr many ↦ absurd (no_update place point (omega (arith, many)) within is)
    ];
    sectors = λ slot number sequence head entries within below is. was_closed.sectors slot number sequence head entries within below (sectors_before slot number sequence head entries is);
  }

  grown : IsSound now
  grown = record {
    head = grown_super sound.head logical slabs;
    last = sound.last;
    window = sound.window;
    opens = record { accepted = accepted; sequences = λ unclean. absurd (cc unclean); is_window = window_is };
    pages = pages;
    stored = stored;
    unshared = λ at address is mapped. sound.unshared at address (tree_page_old at is) (sym (mapping_is address) ∙ mapped);
    counts = counts;
    timely = timely;
    closed = λ is. closed;
  }

  value_same : (address : ℕ) → value_of new address ≡ value_of old address
  value_same address =
      ap (value_with now) (mapping_is address)
      ∙ value_alike base now (mapping_of old address)
      (λ block is.
      let stands = mapped_data address block is in
      let below = inside g (DataBlock stands.slab stands.offset) stands.inside in
      let at = stands.stands in
      let high = data_block_high g block.0 stands in
      kept block.0 (omega (arith, high)) (omega (arith, below, at)) (looked_high g block.0 high))

  say_as_much : SayAsMuch old new
  say_as_much = record {
    map = record { pages = λ page. sym (page_is page); mappings = λ address. sym (mapping_is address) };
    values = value_same;
    counts = λ place count within. (stores_back place count within, stores place count within);
    empty = new_stored;
  }

  pub is_grown : IsGrown base sound logical slabs now
  unfolding grown
  is_grown = record { grown = grown; head = refl; says = say_as_much; old_kept = kept }
