-- Images that differ in the index alone are sound alike and say the same; so are those that differ in the superblock too, where
-- that says the same sizes.
use Rattle.std.proofs.Common.{ℕ, ◌≡◌, ◌+◌, ◌%◌, ◌*◌, ◌<◌, ◌≤◌, ◌^◌, Bool, false, IsTrue, List, length, get_or, All, Some, Ok, refl, sym, ◌∙◌, ap, subst, inl, inr, arith}
use Rattle.blk_base.specs.Counters.{counters_per_sector, sector_of_offset}
use Rattle.blk_base.specs.Regions.{needed_blocks, references_of}
use Rattle.blk_base.specs.Sectors.{sector, zero_block}
use Rattle.blk_base.specs.declared.geometry.Geometry.{Geometry}
use Rattle.blk_base.specs.declared.journal_entry.Entry.{Entry}
use Rattle.blk_base.specs.declared.layout.DataPlace.{DataPlace}
use Rattle.blk_base.specs.declared.place.PageId.{PageId}
use Rattle.blk_base.specs.declared.place.Pbn.{Pbn}
use Rattle.blk_base.specs.declared.sizes.TheConstants.{PAGE_SLOTS}
use Rattle.byte_fields.specs.Fields.{number_at}
use Rattle.disk_model.specs.Log.{Blocks, block_at}
use Rattle.disk_model.specs.OneImages.{AreAlikeIn}
use Rattle.image_layout.specs.Opened.{super_of_image}
use Rattle.image_layout.specs.Values.{journal_of}
use Rattle.image_model.proofs.CountLaws.{one_stored}
use Rattle.image_model.proofs.LookedLaws.{looked_in_place}
use Rattle.image_model.specs.Counts.{IsUpdate, Stores, block_of_data, commit_of, reference_sector_at}
use Rattle.image_model.specs.Looked.{is_looked_at, looked_in}
use Rattle.image_model.specs.Maps.{Image, ArePagesGood, IsReadable, head_of, mapping_in, mapping_of, page_at, put_last, says, value_with}
use Rattle.image_model.specs.Sound.{IsClosed, IsDataPlace, IsOfItsTime, IsSound}
use Rattle.image_model.specs.Windows.{IsWindow}
use Rattle.journal_codec.specs.Grammar.{IsSector}
use Rattle.page_codec.specs.Grammar.{HasHead, IsSlot}
use Rattle.plain_laws.proofs.OptionLaws.{option_cases}
use Rattle.recovery_laws.specs.Kept.{AreKept, SayTheSame, image_in}
use Rattle.recovery_laws.specs.Recoverable.{sound_recoverable}
use Rattle.recovery_laws.specs.Written.{AreOthersKept, AreRestKept}
use Rattle.recovery_laws.proofs.CountsKept.{sector_inside, sectors_inside, stores_same}
use Rattle.recovery_laws.proofs.OldLaws.{says_own, says_put}
use Rattle.recovery_laws.proofs.SameMapLaws.{same_map, same_mapping, same_mappings, same_page, still_unshared}
use Rattle.recovery_laws.proofs.SoundLaws.{known, room}
use Rattle.recovery_laws.proofs.StillLaws.{kept_again, kept_before, same_data, same_journal}
use Rattle.recovery_laws.proofs.UntouchedLaws.{page_same as same_page_at, same_super, sector_same as same_sector_at}
use Rattle.recovery_laws.proofs.WindowFacts.{IsKnown}

-- Blocks that are those of a sound image where it is looked, but for the superblock.
module _ (base now : Blocks) (sound : IsSound base) (size : length now ≡ length base)
    (same : (b : ℕ) → 1 ≤ b → b < length base → IsTrue (is_looked_at sound.head.geometry b) → block_at now b ≡ block_at base b) where
  abbrev g : Geometry
  g = sound.head.geometry

  abbrev old : Image
  old = image_in base sound

  abbrev new : Image
  new = record { geometry = g; blocks = now; window = sound.window }

  all_known : All (IsKnown g sound.last) sound.window
  all_known = known base now sound

  enough : needed_blocks g ≤ length base
  enough = room base now sound

  others : AreOthersKept old now
  others b behind below looked no_page no_counters = same b behind below looked

  -- the pages

  page_same : (page : PageId) (at : Pbn) → page_at old page ≡ Some at → block_at now at.0 ≡ block_at base at.0
  page_same = same_page_at base now (sound_recoverable base sound) size same

  says_the_same : (page : PageId) (at : Pbn) (slot : ℕ) → page_at old page ≡ Some at → slot < PAGE_SLOTS → says new page at slot ≡ says old page at slot
  says_the_same page at slot there small = elim (option_cases (put_last sound.window page slot)) [
    | inr (mapping, put) ↦ says_put new page at slot mapping put ∙ sym (says_put old page at slot mapping put)
    | inl none ↦ says_own new page at slot none ∙ ap (λ (block : List ℕ). mapping_in block slot) (page_same page at there) ∙ sym (says_own old page at slot none)
  ]

  pages : ArePagesGood new
  pages page at there =
      let was : page_at old page ≡ Some at = sym (same_page g base now sound.window sound.window says_the_same page) ∙ there in
      let good = sound.pages page at was in
      let block = page_same page at was in record {
        headed = subst (HasHead (head_of old page at)) (sym block) good.headed;
        slots = λ slot small. readable slot (good.slots slot small) block;
      }
    where
      readable : (slot : ℕ) → IsReadable old page at slot → block_at now at.0 ≡ block_at base at.0 → IsReadable new page at slot
      readable slot (inl put) block = inl put
      readable slot (inr (mapping, is)) block = inr (mapping, subst (λ (bytes : List ℕ). IsSlot (head_of old page at) bytes slot mapping) (sym block) is)

  -- the counters

  sector_same : (slab n : ℕ) → slab < g.slabs → n < 8 * references_of g → reference_sector_at g now slab n ≡ reference_sector_at g base slab n
  sector_same = same_sector_at base now (sound_recoverable base sound) size same

  fewer : (place : DataPlace) (point : ℕ) → IsDataPlace g place → IsUpdate new place point → IsUpdate old place point
  fewer place point within (inl kept) = inl (kept_before old now sound.pages sound.last all_known enough size others place.slab _ within.0 kept)
  fewer place point within (inr listed) = inr listed

  again : (place : DataPlace) (point : ℕ) → IsDataPlace g place → IsUpdate old place point → IsUpdate new place point
  again place point within (inl kept) = inl (kept_again old now sound.pages sound.last all_known enough size others place.slab _ within.0 kept)
  again place point within (inr listed) = inr listed

  of_place : (place : DataPlace) → IsDataPlace g place
      → reference_sector_at g now place.slab (sector_of_offset g place.offset) ≡ reference_sector_at g base place.slab (sector_of_offset g place.offset)
  of_place place within = sector_same place.slab (sector_of_offset g place.offset) within.0 (sectors_inside g (sector_of_offset g place.offset) (sector_inside g place within))

  stores : (place : DataPlace) (count : ℕ) → IsDataPlace g place → Stores old place (Ok count) → Stores new place (Ok count)
  stores place count within = stores_same g base now sound.window sound.window fewer place count within (λ point is. again place point within is) (of_place place within)

  stores_back : (place : DataPlace) (count : ℕ) → IsDataPlace g place → Stores new place (Ok count) → Stores old place (Ok count)
  stores_back place count within is =
      let was = sound.stored place within in
      let one = one_stored new place (Ok count) (Ok was.0) is (stores place was.0 within was.1) in
      let count_is : was.0 ≡ count = cc one in
      subst (λ (n : ℕ). Stores old place (Ok n)) count_is was.1

  -- the journal

  journal_same : journal_of g now ≡ journal_of g base
  journal_same = same_journal old now sound.pages sound.last all_known enough size others

  sectors : (slot number sequence head : ℕ) (entries : List Entry) → IsSector g.nonce number (sector number (get_or (journal_of g now) slot zero_block)) sequence head entries
      → IsSector g.nonce number (sector number (get_or (journal_of g base) slot zero_block)) sequence head entries
  sectors slot number sequence head entries is =
      subst (λ (journal : Blocks). IsSector g.nonce number (sector number (get_or journal slot zero_block)) sequence head entries) journal_same is

  timely : IsOfItsTime g now sound.last
  timely = record {
    commits = λ slab n is below. let commit = ap (number_at 8 0) (sector_same slab n is below) in let early = sound.timely.commits slab n is below in omega (arith, commit, early);
    updates = λ slab entry is kept. sound.timely.updates slab entry is (kept_before old now sound.pages sound.last all_known enough size others slab entry is kept);
    sectors = λ slot number sequence head entries within below is. sound.timely.sectors slot number sequence head entries within below (sectors slot number sequence head entries is);
  }

  still_closed : IsClosed old sound.head.start sound.last → IsClosed new sound.head.start sound.last
  still_closed closed = record {
    next = closed.next;
    window = closed.window;
    updates = λ place point within is.
        let commit : commit_of new place ≡ commit_of old place = ap (number_at 8 0) (of_place place within) in
        let most = closed.updates place point within (fewer place point within is) in omega (arith, commit, most);
    sectors = λ slot number sequence head entries within below is. closed.sectors slot number sequence head entries within below (sectors slot number sequence head entries is);
  }

  values : (address : ℕ) → value_with now (mapping_of old address) ≡ value_with base (mapping_of old address)
  values address = same_data old now sound.pages sound.last all_known enough size others sound.unshared address

  pub say_the_same : SayTheSame old new
  say_the_same = record {
    geometry = refl;
    map = same_map g base now sound.window sound.window says_the_same;
    values = λ address. ap (value_with now) (same_mapping g base now sound.window sound.window says_the_same address) ∙ values address;
    counts = λ place count within. (stores_back place count within, stores place count within);
  }

  -- it is sound with either superblock: closed or not
  sound_with : (clean : Bool) → super_of_image now ≡ Ok (record { geometry = g; clean = clean; start = sound.head.start }) → (clean ≡ false → sound.last + 2 < 2 ^ 54)
      → (IsTrue clean → IsClosed old sound.head.start sound.last) → IsSound now
  sound_with clean accepted early closed = record {
    head = record { geometry = g; clean = clean; start = sound.head.start };
    last = sound.last;
    window = sound.window;
    opens = record {
      accepted = accepted;
      sequences = early;
      is_window = subst (λ (journal : Blocks). IsWindow g sound.head.start journal sound.last sound.window) (sym journal_same) sound.opens.is_window;
    };
    pages = pages;
    stored = λ place within. let was = sound.stored place within in (was.0, stores place was.0 within was.1);
    unshared = still_unshared g base now sound.window sound.window says_the_same sound.unshared;
    counts = λ place within.
        let was = sound.counts place within in
        (was.0, stores place was.0 within was.1, same_mappings g base now sound.window sound.window says_the_same (block_of_data g place) was.0 was.2);
    timely = timely;
    closed = λ is. still_closed (closed is);
  }

  -- with this superblock, the same last sequence and the same window, and it says the same
  pub sound_as : (clean : Bool) → super_of_image now ≡ Ok (record { geometry = g; clean = clean; start = sound.head.start }) → (clean ≡ false → sound.last + 2 < 2 ^ 54)
      → (IsTrue clean → IsClosed old sound.head.start sound.last)
      → (is : IsSound now) × (is.head ≡ record { geometry = g; clean = clean; start = sound.head.start }) × (is.last ≡ sound.last) × (is.window ≡ sound.window) × SayTheSame old (image_in now is)
  unfolding sound_with
  sound_as clean accepted early closed = (sound_with clean accepted early closed, refl, refl, refl, say_the_same)

  rest : AreRestKept old now
  rest slab n is below offset behind sector_is = inr (ap (number_at 1 (8 + offset % counters_per_sector g)) (sector_same slab n is below))

  -- and kept where the superblock is the same too
  pub kept_alike : super_of_image now ≡ Ok sound.head → AreKept old now
  unfolding sound_with
  kept_alike accepted = record { sound = sound_with sound.head.clean accepted sound.opens.sequences sound.closed; same = say_the_same; others = others; rest = rest }

-- Images that are alike in all but the index have the same superblock, are sound alike, and say the same.

pub alike_super : (base now : Blocks) (sound : IsSound base) → AreAlikeIn (looked_in base) base now → super_of_image now ≡ Ok sound.head
alike_super base now sound = same_super base now (sound_recoverable base sound)

pub alike_is_kept : (base now : Blocks) (sound : IsSound base) → AreAlikeIn (looked_in base) base now → AreKept (image_in base sound) now
alike_is_kept base now sound alike =
    kept_alike base now sound alike.size (λ b behind below here. alike.same b below (looked_in_place base sound.head sound.opens.accepted b here)) (alike_super base now sound alike)
