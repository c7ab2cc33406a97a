-- What the slabs that were read say is what each image says that has their blocks.
use Rattle.std.proofs.Common.{ℕ, ◌≡◌, ◌+◌, ◌*◌, ◌/◌, ◌%◌, ◌<◌, ◌↔◌, Bool, List, length, get_or, reverse, Contains, Result, Ok, Err, refl, sym, ◌∙◌, ap, ap₂, subst, inl, inr, arith}
use Rattle.std.specs.List.Sorted.{IsPermutation}
use Rattle.std.proofs.lemmas.Bool.{cases_lt}
use Rattle.std.proofs.lemmas.List.Sorted.{Contains-permutation, IsPermutation-reverse, IsPermutation-sym}
use Rattle.blk_base.specs.Counters.{counters_per_sector, limit_of, sectors_per_slab, sector_of_offset}
use Rattle.blk_base.specs.Regions.{DataBlock, ReferenceBlock, SlabJournalSlot, block_of, references_of}
use Rattle.blk_base.specs.Sectors.{sector, zero_block}
use Rattle.blk_base.proofs.RegionLaws.{apart}
use Rattle.blk_base.specs.declared.geometry.Geometry.{Geometry}
use Rattle.blk_base.specs.declared.journal_entry.CommittedEntry.{CommittedEntry}
use Rattle.blk_base.specs.declared.journal_entry.Update.{Update}
use Rattle.blk_base.specs.declared.layout.DataPlace.{DataPlace}
use Rattle.blk_base.specs.declared.place.Pbn.{Pbn}
use Rattle.blk_base.specs.declared.point.Point.{Point}
use Rattle.blk_base.specs.Forms.{pbn as block}
use Rattle.byte_fields.specs.Fields.{number_at}
use Rattle.count_updates.specs.Applied.{IsGreatest, IsOfSector}
use Rattle.count_updates.specs.Counted.{commit_in, IsCountedAt, Leaves}
use Rattle.count_updates.specs.Listed.{Lists}
use Rattle.count_updates.specs.Numbers.{block_number}
use Rattle.count_updates.proofs.NumberLaws.{row_ends}
use Rattle.count_updates.specs.FoundLists.{found_lists}
use Rattle.disk_model.specs.Log.{Blocks, block_at}
use Rattle.image_model.specs.Counts.{IsKept, IsUpdate, Stores, Updates, block_of_data, commit_at, count_from, counter_of}
use Rattle.image_model.specs.Faults.{IsCountFault}
use Rattle.image_model.specs.Maps.{Image, image_with}
use Rattle.image_model.specs.Sound.{IsDataPlace}
use Rattle.slab_codec.specs.Grammar.{HoldsEntry, IsSlabSector}
use Rattle.slab_codec.specs.declared.forms.SlabEntry.{SlabEntry}
use Rattle.slab_reading.specs.Found.{IsFound}
use Rattle.image_model.specs.declared.fault.ImageFault.TheVariants.{Counter}
use Rattle.disk_model.specs.Seen.{Seen}
use Rattle.disk_model.specs.Trust.{Trust}
use Rattle.slab_reading.specs.Reads.{read_of, SlabsRead}
use Rattle.slab_reading.specs.Slabs.{first_of_slab, blocks_per_slab, SlabKeeps, IsOf}
use Rattle.replay_counts.specs.Recovered.{AreCountsRead, CountsFail, HasCounts, Holds, IsCountedFrom, IsInSector, no_points}
use Rattle.replay_counts.specs.declared.forms.SectorPoints.{SectorPoints}

-- Places.

same_row : (slab n other m width : ℕ) → n < width → m < width → slab * width + n ≡ other * width + m → slab ≡ other
same_row slab n other m width low low' same = elim (cases_lt slab other) [
  | inl less ↦ absurd (let ends = row_ends slab other width less in omega (arith, ends, low, same))
  | inr most ↦ elim (cases_lt other slab) [
    | inl more ↦ absurd (let ends = row_ends other slab width more in omega (arith, ends, low', same))
    | inr least ↦ omega (arith, most, least)
  ]
]

same_place : (slab n other m width : ℕ) → slab ≡ other → slab * width + n ≡ other * width + m → n ≡ m
same_place slab n other m width rows same = let row = ap (λ (s : ℕ). s * width) rows in omega (arith, row, same)

sector_below : (g : Geometry) (offset : ℕ) → offset < g.slab_blocks → sector_of_offset g offset < sectors_per_slab g
sector_below g offset less = omega (arith, less)

sector_read : (g : Geometry) (n : ℕ) → n < sectors_per_slab g → n / 8 < blocks_per_slab g
sector_read g n below = omega (arith, below)

reference_place : (g : Geometry) (slab i : ℕ) → block_of g (ReferenceBlock slab i) ≡ first_of_slab g slab + i
reference_place g slab i = omega arith

journal_place : (g : Geometry) (slab slot : ℕ) → block_of g (SlabJournalSlot slab slot) ≡ first_of_slab g slab + (references_of g + slot)
journal_place g slab slot = omega arith

slot_read : (g : Geometry) (slot : ℕ) → slot < g.slab_journal → references_of g + slot < blocks_per_slab g
slot_read g slot below = omega (arith, below)

-- The greatest of the same points.

greatest_as : (commit other : ℕ) (Is Too : ℕ → Type 0) (applied same : ℕ) → commit ≡ other → applied ≡ same → ((p : ℕ) → Is p → Too p) → ((p : ℕ) → Too p → Is p)
    → IsGreatest commit Is applied → IsGreatest other Too same
greatest_as commit other Is Too applied same from is to back greatest = record {
  reached = elim greatest.reached [
    | inl none ↦ inl (sym is ∙ none ∙ from)
    | inr (more, has) ↦ inr (omega (arith, more, from, is), subst Too is (to applied has))
  ];
  most = λ point above has. let low = greatest.most point (omega (arith, above, from)) (back point has) in omega (arith, low, is);
}

-- Updates in another order.

pub found_again : (g : Geometry) (reads : List Blocks) (first : List Update) (counters : List ℕ) (commits : List Point) (updates updates' : List Update)
    → IsPermutation updates updates' → IsFound g reads first (found_lists counters commits updates) → IsFound g reads first (found_lists counters commits updates')
found_again g reads first counters commits updates updates' same found = record {
  counters_size = found.counters_size;
  counters_are = found.counters_are;
  commits_size = found.commits_size;
  commits_are = found.commits_are;
  updates_are = λ at point. (
    (λ has. (found.updates_are at point).0 (Contains-permutation updates' updates _ (IsPermutation-sym updates updates' same) has)),
    (λ is. Contains-permutation updates updates' _ same ((found.updates_are at point).1 is)),
  );
}

module _ (g : Geometry) (blocks : Blocks) (window : List CommittedEntry) (reads : List Blocks) (first : List Update) (counters : List ℕ) (commits : List Point) (updates : List Update)
    (all : length reads ≡ g.slabs) (holds : Holds g blocks reads)
    (listed : (at point : ℕ) → Lists first at point ↔ ((committed : CommittedEntry) × Contains window committed × Updates committed (record { 0 = at }) point))
    (found : IsFound g reads first (found_lists counters commits updates)) where
  abbrev image : Image
  image = image_with g blocks (reverse window)

  is_read : (slab : ℕ) → slab < g.slabs → slab < length reads
  is_read slab below = omega (arith, below, all)

  in_slab : (slab i n : ℕ) → slab < g.slabs → i < blocks_per_slab g → n ≡ first_of_slab g slab + i → block_at blocks n ≡ block_at (read_of reads slab) i
  in_slab slab i n below inside is = ap (block_at blocks) is ∙ holds slab i below inside

  commit_same : (slab n : ℕ) → slab < g.slabs → n < sectors_per_slab g → commit_at g blocks slab n ≡ commit_in commits (slab * sectors_per_slab g + n)
  commit_same slab n below inside =
      ap (λ (b : List ℕ). number_at 8 0 (sector (n % 8) b)) (in_slab slab (n / 8) (block_of g (ReferenceBlock slab (n / 8))) below (sector_read g n inside) (reference_place g slab (n / 8)))
      ∙ sym (found.commits_are slab n (is_read slab below) inside)

  counter_same : (place : DataPlace) → IsDataPlace g place → counter_of image place ≡ get_or counters (block_number g place) 0
  counter_same place inside =
      let n = sector_of_offset g place.offset in
      ap (λ (b : List ℕ). number_at 1 (8 + place.offset % counters_per_sector g) (sector (n % 8) b))
      (in_slab place.slab (n / 8) (block_of g (ReferenceBlock place.slab (n / 8))) inside.0 (sector_read g n (sector_below g place.offset inside.1)) (reference_place g place.slab (n / 8)))
      ∙ sym (found.counters_are place (is_read place.slab inside.0) inside.1)

  journal_block : (slab slot : ℕ) → slab < g.slabs → slot < g.slab_journal → block_at blocks (block_of g (SlabJournalSlot slab slot)) ≡ get_or (read_of reads slab) (references_of g + slot) zero_block
  journal_block slab slot below inside = in_slab slab (references_of g + slot) (block_of g (SlabJournalSlot slab slot)) below (slot_read g slot inside) (journal_place g slab slot)

  keeps_to : (slab : ℕ) (entry : SlabEntry) → slab < g.slabs → IsKept g blocks slab entry → SlabKeeps g slab (read_of reads slab) g.slab_journal entry
  keeps_to slab entry below kept = (
    kept.slot,
    kept.inside.0,
    (
      kept.number,
      kept.inside.1,
      record {
        sequence = kept.sequence;
        entries = kept.entries;
        valid = subst (λ (b : List ℕ). IsSlabSector g.nonce slab g.slab_blocks kept.number (sector kept.number b) kept.sequence kept.entries) (journal_block slab kept.slot below kept.inside.0) kept.valid;
        listed = kept.listed;
      },
    ),
  )

  keeps_back : (slab : ℕ) (entry : SlabEntry) → slab < g.slabs → SlabKeeps g slab (read_of reads slab) g.slab_journal entry → IsKept g blocks slab entry
  keeps_back slab entry below (slot, inside, (number, few, keeps)) = record {
    slot = slot;
    number = number;
    inside = (inside, few);
    sequence = keeps.sequence;
    entries = keeps.entries;
    valid = subst (λ (b : List ℕ). IsSlabSector g.nonce slab g.slab_blocks number (sector number b) keeps.sequence keeps.entries) (sym (journal_block slab slot below inside)) keeps.valid;
    listed = keeps.listed;
  }

  -- an entry that is kept is one of a data block
  is_within : (slab : ℕ) (entry : SlabEntry) → IsKept g blocks slab entry → entry.offset < g.slab_blocks
  is_within slab entry kept =
      let listed = kept.listed in
      (subst (λ (e : SlabEntry). HoldsEntry g.slab_blocks e) listed.2 (kept.valid.each listed.0 entry listed.1)).2

  abbrev entry_at : ℕ → ℕ → SlabEntry
  entry_at point offset = record { point = record { 0 = point }; offset = offset }

  update_to : (place : DataPlace) (point : ℕ) → IsDataPlace g place → IsUpdate image place point → Lists updates (block_of_data g place).0 point
  update_to place point inside is = (found.updates_are (block_of_data g place).0 point).1 (elim is [
    | inl kept ↦ inr (place.slab, is_read place.slab inside.0, entry_at point place.offset, (refl, refl), keeps_to place.slab (entry_at point place.offset) inside.0 kept)
    | inr made ↦ inl ((listed (block_of_data g place).0 point).1
        (made.0, Contains-permutation (reverse window) window made.0 (IsPermutation-sym window (reverse window) (IsPermutation-reverse window)) made.1, made.2))
  ])

  kept_here : (place : DataPlace) (point slab : ℕ) (entry : SlabEntry) → IsDataPlace g place → slab < g.slabs → IsOf g slab entry (block_of_data g place).0 point
      → IsKept g blocks slab entry → IsKept g blocks place.slab (entry_at point place.offset)
  kept_here place point slab entry inside below of kept =
      let same : DataBlock slab entry.offset ≡ DataBlock place.slab place.offset =
      apart g (DataBlock slab entry.offset) (DataBlock place.slab place.offset) (below, is_within slab entry kept) inside (sym of.0) in
      let slabs : slab ≡ place.slab = cc same in
      let offsets : entry.offset ≡ place.offset = cc same in
      let entries : entry ≡ entry_at point place.offset = ap₂ (λ (p o : ℕ). entry_at p o) (sym of.1) offsets in
      subst (λ (s : ℕ). IsKept g blocks s (entry_at point place.offset)) slabs (subst (λ (e : SlabEntry). IsKept g blocks slab e) entries kept)

  update_back : (place : DataPlace) (point : ℕ) → IsDataPlace g place → Lists updates (block_of_data g place).0 point → IsUpdate image place point
  update_back place point inside has = elim ((found.updates_are (block_of_data g place).0 point).0 has) [
    | inl one ↦ let made = (listed (block_of_data g place).0 point).0 one in
        inr (made.0, Contains-permutation window (reverse window) made.0 (IsPermutation-reverse window) made.1, made.2)
    | inr (slab, low, entry, of, keeps) ↦
        let below : slab < g.slabs = omega (arith, low, all) in
        inl (kept_here place point slab entry inside below of (keeps_back slab entry below keeps))
  ]

  stores : (place : DataPlace) (result : Result ℕ ℕ) → IsDataPlace g place → IsCountedAt g (found_lists counters commits updates) place result → Stores image place result
  stores place result inside is =
      let commit = commit_same place.slab (sector_of_offset g place.offset) inside.0 (sector_below g place.offset inside.1) in
      record {
        points = is.points;
        updates = record {
          rising = is.are.rising;
          each = λ point. (
            (λ has. let one = (is.are.each point).0 has in (let above = one.0 in omega (arith, above, commit), update_back place point inside one.1)),
            (λ one. (is.are.each point).1 (let above = one.0 in omega (arith, above, commit), update_to place point inside one.1)),
          );
        };
        counted = ap₂ (λ (c n : ℕ). count_from (limit_of g) c n is.points) commit (counter_same place inside) ∙ is.counted;
      }

  to_sector : (slab n point : ℕ) → slab < g.slabs → n < sectors_per_slab g → IsOfSector g updates (slab * sectors_per_slab g + n) point → IsInSector image slab n point
  to_sector slab n point below inside (place, within, number, has) =
      let low = sector_below g place.offset within.1 in
      let slabs : place.slab ≡ slab = same_row place.slab (sector_of_offset g place.offset) slab n (sectors_per_slab g) low inside number in
      let sectors : sector_of_offset g place.offset ≡ n = same_place place.slab (sector_of_offset g place.offset) slab n (sectors_per_slab g) slabs number in
      (place.offset, within.1, sectors, subst (λ (s : ℕ). IsUpdate image (record { slab = s; offset = place.offset }) point) slabs (update_back place point within has))

  from_sector : (slab n point : ℕ) → slab < g.slabs → IsInSector image slab n point → IsOfSector g updates (slab * sectors_per_slab g + n) point
  from_sector slab n point below (offset, within, is_sector, is) = (
    record { slab = slab; offset = offset },
    (below, within),
    ap (λ (m : ℕ). slab * sectors_per_slab g + m) is_sector,
    update_to (record { slab = slab; offset = offset }) point (below, within) is,
  )

  pub has_counts : (counts : List ℕ) (sectors : List SectorPoints) → IsCountedFrom g (found_lists counters commits updates) counts sectors → HasCounts image counts sectors
  has_counts counts sectors from = record {
    blocks = from.counted.size;
    stored = λ place inside. stores place _ inside (from.counted.each place inside);
    sizes = let size = found.commits_size in let paired = from.paired.size in let rows = ap (λ (n : ℕ). n * sectors_per_slab g) all in omega (arith, size, paired, rows);
    points = λ slab n below inside.
        let ends = row_ends slab g.slabs (sectors_per_slab g) below in
        let rows = ap (λ (m : ℕ). m * sectors_per_slab g) all in
        let low : slab * sectors_per_slab g + n < length commits = let size = found.commits_size in omega (arith, size, rows, ends, inside) in
        let pair = from.paired.each (slab * sectors_per_slab g + n) low in
        let commit = commit_same slab n below inside in
        record {
          commit = pair.0 ∙ sym commit;
          applied = greatest_as (commit_in commits (slab * sectors_per_slab g + n)) (commit_at g blocks slab n) (IsOfSector g updates (slab * sectors_per_slab g + n)) (IsInSector image slab n)
              (commit_in from.applied (slab * sectors_per_slab g + n)) (get_or sectors (slab * sectors_per_slab g + n) no_points).applied.0 (sym commit) (sym pair.1)
              (λ point is. to_sector slab n point below inside is) (λ point is. from_sector slab n point below is) (from.are_applied.each (slab * sectors_per_slab g + n) low);
        };
  }

  pub has_fault : (at : Pbn) (point : ℕ) → Leaves g (found_lists counters commits updates) at.0 point → IsCountFault image at point
  has_fault at point leaves = record {
    place = leaves.place;
    inside = leaves.inside;
    stands = ap (λ (n : ℕ). block n) leaves.stands;
    leaves = stores leaves.place (Err point) leaves.inside leaves.leaves;
    first = λ other inside before. let is = leaves.first other inside before in (is.0, stores other (Ok is.0) inside is.1);
  }

-- What was counted once all slabs were read.
module _ (trust : Trust) (g h : Geometry) (same : g ≡ h) (window : List CommittedEntry) (before now : Seen) (first : List Update) (counters : List ℕ) (commits : List Point) (updates updates' : List Update)
    (listed : (at point : ℕ) → Lists first at point ↔ ((committed : CommittedEntry) × Contains window committed × Updates committed (record { 0 = at }) point))
    (reads : List Blocks) (count : length reads ≡ g.slabs) (read : SlabsRead trust g before now reads) (found : IsFound g reads first (found_lists counters commits updates))
    (permuted : IsPermutation updates updates') where
  again : IsFound g reads first (found_lists counters commits updates')
  again = found_again g reads first counters commits updates updates' permuted found

  pub counts_read : (counts : List ℕ) (sectors : List SectorPoints) → IsCountedFrom g (found_lists counters commits updates') counts sectors
      → AreCountsRead trust h (reverse window) before now counts sectors
  counts_read counts sectors from =
      subst (λ (sizes : Geometry). AreCountsRead trust sizes (reverse window) before now counts sectors) same
      (reads, record { count = count; read = read }, λ blocks holds. has_counts g blocks window reads first counters commits updates' count holds listed again counts sectors from)

  pub fault_read : (at : Pbn) (point : Point) → Leaves g (found_lists counters commits updates') at.0 point.0 → CountsFail trust h (reverse window) before now (Counter at point)
  fault_read at point leaves =
      subst (λ (sizes : Geometry). CountsFail trust sizes (reverse window) before now (Counter at point)) same
      (reads, record { count = count; read = read }, λ blocks holds. has_fault g blocks window reads first counters commits updates' count holds listed again at point.0 leaves)
