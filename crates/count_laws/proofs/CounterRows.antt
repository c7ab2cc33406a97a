-- What stands of the counts: for each clause a case that it accepts and one that it refuses. The image and the entries are
-- those of the example; what its counters and its window have of them is accepted there.
use Rattle.std.proofs.Common.{ℕ, zero, suc, ◌≡◌, ◌+◌, ◌/◌, ◌%◌, ◌<◌, ◌≤◌, true, false, List, [], ◌∷◌, Contains, length, Result, Ok, refl, ap, subst, inl, inr, arith}
use Rattle.std.proofs.lemmas.Bool.Decides.{eqb_tells}
use Rattle.std.proofs.lemmas.List.Elements.{All-cons, All-nil}
use Rattle.blk_base.specs.Regions.{DataBlock, ReferenceBlock, SlabJournalSlot, block_of, needed_blocks}
use Rattle.blk_base.specs.Counters.{sector_of_offset}
use Rattle.blk_base.specs.Sectors.{sector, zero_block}
use Rattle.blk_base.specs.declared.layout.DataPlace.{DataPlace}
use Rattle.blk_base.specs.declared.place.Mapping.TheVariants.{At}
use Rattle.blk_base.specs.declared.place.Pbn.{Pbn}
use Rattle.blk_base.proofs.RegionLaws.{apart}
use Rattle.blk_base.specs.Forms.{pbn}
use Rattle.blk_base.proofs.Example.{place}
use Rattle.byte_fields.specs.Fields.{number_at}
use Rattle.disk_model.specs.declared.call.Call.{Call}
use Rattle.disk_model.specs.declared.call.Call.TheVariants.{Flush, Write}
use Rattle.disk_model.specs.Log.{Blocks, block_at}
use Rattle.disk_model.proofs.LookedLaws.{one_in-all}
use Rattle.disk_model.proofs.OneImageLaws.{one_image-opening}
use Rattle.image_model.proofs.CountLaws.{none_in_nothing}
use Rattle.image_model.proofs.Example.{small}
use Rattle.image_model.proofs.ZeroLaws.{no_slab_sector}
use Rattle.image_model.specs.Counts.{HasMappings, IsUpdate, Stores, block_of_data, commit_at, commit_of, count_after, counter_of, reference_sector_at}
use Rattle.image_model.specs.Empty.{IsEmpty}
use Rattle.image_model.specs.Looked.{is_looked_at}
use Rattle.image_model.specs.Maps.{Image, IsTreePage, mapping_of}
use Rattle.image_model.specs.Sound.{IsDataPlace}
use Rattle.slab_codec.proofs.ReadLaws.{written}
use Rattle.slab_codec.specs.Grammar.{HoldsEntry, IsSlabSector}
use Rattle.slab_codec.specs.BlockBytes.{block_bytes}
use Rattle.slab_codec.specs.declared.forms.SlabEntry.{SlabEntry}
use Rattle.vdo_model.specs.Journals.{Surely}
use Rattle.count_laws.specs.Closed.{HasClosedCounts}
use Rattle.count_laws.specs.Counters.{CountsStand, HasUpdate, IsCounted, IsKnown, IsOfSector, MayWrite, SurelyCounters, UpdateStands, counter_in, entry_at, points_at}
use Rattle.count_laws.specs.Points.{up_to}
use Rattle.count_laws.proofs.KeepLaws.{counts_after_write, counts_begin}
use Rattle.count_laws.proofs.Example.{closed, commit_behind, commits_before, counter_none, four, opened}

-- Closed counts.

sizes_out : (image : Image) → image.geometry.slabs ≡ 0 → HasClosedCounts image → ⊥
sizes_out image none counts = let some = counts.sizes.slabs.0 in omega (arith, some, none)

-- a data block with another number of mappings than its stored count
untrue : (image : Image) (x : DataPlace) → IsDataPlace image.geometry x
    → ((count : ℕ) → Stores image x (Ok count) → HasMappings image (block_of_data image.geometry x) count → ⊥) → HasClosedCounts image → ⊥
untrue image x there differs counts = let is = counts.counts x there in differs is.0 is.1 is.2

-- an update above the commit point of its sector
not_applied : (image : Image) (x : DataPlace) (point : ℕ) → IsDataPlace image.geometry x → IsUpdate image x point → commit_of image x < point → HasClosedCounts image → ⊥
not_applied image x point there is above counts = let most = counts.updates x point there is in omega (arith, most, above)

-- an address that is mapped to a page's block
not_apart : (image : Image) (block : Pbn) (address : ℕ) → IsTreePage image block → mapping_of image address ≡ At block → HasClosedCounts image → ⊥
not_apart image block address tree mapped counts = counts.unshared block address tree mapped

-- The sector that a counter stands in.

in_sector : IsOfSector small 0 0 (place 1)
in_sector = ((omega arith, omega arith), refl, refl)

of_other_slab : IsOfSector small 1 0 (place 1) → ⊥
of_other_slab is = let slab = is.1 in omega (arith, slab)

of_other_sector : IsOfSector small 0 1 (place 1) → ⊥
of_other_sector is = let n = is.2 in omega (arith, n)

behind_the_slab : IsOfSector small 0 0 (place 64) → ⊥
behind_the_slab is = let inside = is.0.1 in omega (arith, inside)

-- A sector of a slab's journal with one update.

abbrev kept : SlabEntry
kept = entry_at (place 0) 512

abbrev kept_block : List ℕ
kept_block = block_bytes 1 7 0 (kept ∷ [])

kept_valid : IsSlabSector 1 0 64 0 (sector 0 kept_block) 7 (kept ∷ [])
kept_valid =
    written 1 0 64 7 (kept ∷ []) 0
    (record { named = omega arith; few = omega arith; each = All-cons (HoldsEntry 64) kept [] (omega arith, omega arith, omega arith) (All-nil (HoldsEntry 64)) }) (omega arith)

has_update : HasUpdate small 0 0 kept (sector 0 kept_block)
has_update = record { sequence = 7; entries = kept ∷ []; valid = kept_valid; listed = (0, omega arith, refl) }

-- not what the sector doesn't list, and not where no sector is valid
not_listed : (has : HasUpdate small 0 0 (entry_at (place 1) 514) (sector 0 kept_block)) → has.entries ≡ kept ∷ [] → ⊥
not_listed has is = one_of (subst (λ (list : List SlabEntry). Contains list (entry_at (place 1) 514)) is has.listed)
  where
    one_of : Contains (kept ∷ []) (entry_at (place 1) 514) → ⊥
    one_of (zero, inside, same) = let offset : ◌≡◌ {A = ℕ} 0 1 = ap (λ (e : SlabEntry). e.offset) same in omega (arith, offset)
    one_of (suc n, inside, same) = omega (arith, inside)

not_valid : HasUpdate small 0 0 kept (sector 0 zero_block) → ⊥
not_valid has = no_slab_sector 1 0 64 0 has.sequence has.entries (omega arith) has.valid

module _ (blocks : Blocks) (empty : IsEmpty small blocks) where
  abbrev image : Image
  image = opened blocks empty

  low_commit : commit_at small blocks 0 0 < 512
  low_commit = commits_before blocks empty 0 0 (omega arith) (omega arith)

  -- A sector of counters. One with the updates up to its commit point is accepted in the example.

  -- so is one that stands as it was opened
  as_opened : IsCounted image [] 0 0 (reference_sector_at small blocks 0 0)
  as_opened = record { commit = omega arith; reached = inl refl; counters = λ x there. counted x.slab x.offset there }
    where
      counted : (slab offset : ℕ) → IsOfSector small 0 0 (record { slab = slab; offset = offset })
          → count_after 254 (counter_of image (record { slab = slab; offset = offset })) [] ≡ Ok (counter_in small (reference_sector_at small blocks 0 0) (record { slab = slab; offset = offset }))
      counted (suc slab) offset there = let one = there.0.0 in absurd (omega (arith, one))
      counted zero offset there = ap (λ (n : ℕ). let it : Result ℕ ℕ = Ok (number_at 1 (8 + offset % 504) (reference_sector_at small blocks 0 n)) in it) there.2

  -- a commit point that is lower than the opened one
  lower_than_opened : (other : Image) (slab n : ℕ) (bytes : List ℕ) → number_at 8 0 bytes < commit_at other.geometry other.blocks slab n → IsCounted other four slab n bytes → ⊥
  lower_than_opened other slab n bytes low it = let least = it.commit in omega (arith, least, low)

  -- a commit point of a later session, which no update of these entries has
  pub later_commit : (bytes : List ℕ) → number_at 8 0 bytes ≡ 519 → IsCounted image [] 0 0 bytes → ⊥
  later_commit bytes is it = elim it.reached [
    | inl same ↦ let low = low_commit in omega (arith, same, is, low)
    | inr (x, there, has) ↦ none_in_nothing (number_at 8 0 bytes) has
  ]

  -- a counter with an update that is above the commit point
  counted_above : (bytes : List ℕ) → number_at 8 0 bytes ≡ 512 → number_at 1 9 bytes ≡ 1 → IsCounted image four 0 0 bytes → ⊥
  counted_above bytes commit counter it =
      let none = counter_none blocks empty 1 (omega arith) in
      let counters = it.counters (place 1) in_sector in
      let at : count_after 254 (counter_of image (place 1)) (up_to 512 (points_at small four (place 1))) ≡ Ok 1 =
      subst (λ (n : ℕ). count_after 254 (counter_of image (place 1)) (up_to 512 (points_at small four (place 1))) ≡ Ok n) counter
      (subst (λ (c : ℕ). count_after 254 (counter_of image (place 1)) (up_to c (points_at small four (place 1))) ≡ Ok (number_at 1 9 bytes)) commit counters) in
      let first : ◌≡◌ {A = Result ℕ ℕ} (Ok 0) (Ok 1) = subst (λ (n : ℕ). count_after 254 n (up_to 512 (points_at small four (place 1))) ≡ Ok 1) none at in
      absurd (cc first)

  -- and one that lacks an update below it
  not_counted : (bytes : List ℕ) → number_at 8 0 bytes ≡ 512 → number_at 1 8 bytes ≡ 0 → IsCounted image four 0 0 bytes → ⊥
  not_counted bytes commit counter it =
      let none = counter_none blocks empty 0 (omega arith) in
      let counters = it.counters (place 0) ((omega arith, omega arith), refl, refl) in
      let at : count_after 254 (counter_of image (place 0)) (up_to 512 (points_at small four (place 0))) ≡ Ok 0 =
      subst (λ (n : ℕ). count_after 254 (counter_of image (place 0)) (up_to 512 (points_at small four (place 0))) ≡ Ok n) counter
      (subst (λ (c : ℕ). count_after 254 (counter_of image (place 0)) (up_to c (points_at small four (place 0))) ≡ Ok (number_at 1 8 bytes)) commit counters) in
      let first : ◌≡◌ {A = Result ℕ ℕ} (Ok 1) (Ok 0) = subst (λ (n : ℕ). count_after 254 n (up_to 512 (points_at small four (place 0))) ≡ Ok 0) none at in
      absurd (cc first)

  -- Updates that are known: those of earlier sessions, which the opened counters have, and those of the entries.

  known_before : IsKnown image four 0 (entry_at (place 1) 0)
  known_before = inl (omega arith)

  known_one : IsKnown image four 0 (entry_at (place 1) 516)
  known_one = inr (1, omega arith, refl)

  -- one of another session
  unknown : IsKnown image four 0 (entry_at (place 1) 515) → ⊥
  unknown (inl old) = let low = low_commit in omega (arith, old, low)
  unknown (inr (zero, inside, is)) = omega (arith, is)
  unknown (inr (suc zero, inside, is)) = omega (arith, is)
  unknown (inr (suc (suc zero), inside, is)) = omega (arith, is)
  unknown (inr (suc (suc (suc k)), inside, is)) = omega (arith, inside)

  -- one of these entries, but of another block
  unknown_there : IsKnown image four 0 (entry_at (place 0) 516) → ⊥
  unknown_there (inl old) = let low = low_commit in omega (arith, old, low)
  unknown_there (inr (zero, inside, is)) = omega (arith, is)
  unknown_there (inr (suc k, inside, is)) = omega (arith, inside)

  -- An update stands: by the window, by the counters, or by a slab's journal.

  by_window : UpdateStands blocks [] small four (place 0) 512
  by_window = inl (0, omega arith, refl)

  by_counters : (bytes : List ℕ) → number_at 8 0 (sector 0 bytes) ≡ 512 → UpdateStands blocks (Flush true ∷ Write (pbn 149) bytes true ∷ []) small [] (place 0) 512
  by_counters bytes is = inr (inl (omega (arith, is), tt))

  by_journal : UpdateStands blocks (Flush true ∷ Write (pbn 150) kept_block true ∷ []) small [] (place 0) 512
  by_journal = inr (inr (0, 0, omega arith, omega arith, (has_update, tt)))

  -- not by nothing, and neither by counters nor by a slab's journal that is written and not flushed
  no_updates_at_first : (slot number point : ℕ) (x : DataPlace) → IsDataPlace small x → slot < 4 → number < 8 → 512 ≤ point
      → HasUpdate small x.slab number (entry_at x point) (sector number (block_at blocks (block_of small (SlabJournalSlot x.slab slot)))) → ⊥
  no_updates_at_first slot number point x there in_journal below high it =
      let low = (closed blocks empty).updates x point there
      (inl (record { slot = slot; number = number; inside = (in_journal, below); sequence = it.sequence; entries = it.entries; valid = it.valid; listed = it.listed })) in
      let offset = there.1 in
      let before = commits_before blocks empty x.slab (sector_of_offset small x.offset) there.0 (omega (arith, offset)) in
      omega (arith, low, before, high)

  by_nothing : UpdateStands blocks [] small [] (place 0) 512 → ⊥
  by_nothing (inl in_window) = none_in_nothing 512 in_window
  by_nothing (inr (inl counted)) = let high = counted.0 in let low = low_commit in omega (arith, high, low)
  by_nothing (inr (inr (slot, number, in_journal, below, is_kept))) = no_updates_at_first slot number 512 (place 0) (omega arith, omega arith) in_journal below (omega arith) is_kept.0

  by_counters_unflushed : (bytes : List ℕ) → UpdateStands blocks (Write (pbn 149) bytes true ∷ []) small [] (place 0) 512 → ⊥
  by_counters_unflushed bytes (inl in_window) = none_in_nothing 512 in_window
  by_counters_unflushed bytes (inr (inl counted)) = let high = counted.1.0 in let low = low_commit in omega (arith, high, low)
  by_counters_unflushed bytes (inr (inr (slot, number, in_journal, below, is_kept))) = by_nothing (inr (inr (
    slot,
    number,
    in_journal,
    below,
    misses_back (λ content. HasUpdate small 0 number kept (sector number content)) (block_of small (SlabJournalSlot 0 slot)) bytes (omega arith) is_kept,
  )))
    where
      misses_back : (P : List ℕ → Type 0) (b : ℕ) (bytes : List ℕ) → 149 < b → Surely blocks (Write (pbn 149) bytes true ∷ []) b P → Surely blocks [] b P
      misses_back P b bytes high all = elim (eqb_tells 149 b) [ inl same ↦ (let is = same.1 in absurd (omega (arith, is, high))) | inr other ↦ rw other.0 at all ]

  -- Counts that don't stand.

  not_standing : CountsStand blocks [] image four [] → ⊥
  not_standing stand = by_nothing (stand.updates (place 0) 512 (omega arith, omega arith) (0, omega arith, refl))

  -- a sector of counters from a later session may be there
  later_sector : (bytes : List ℕ) → number_at 8 0 (sector 0 bytes) ≡ 519 → CountsStand blocks (Write (pbn 149) bytes false ∷ []) image [] [] → ⊥
  later_sector bytes is stand = later_commit (sector 0 bytes) is (stand.sectors 0 0 (omega arith) (omega arith)).0

  -- a sector behind the last counter with a later commit point
  behind_the_last : (bytes : List ℕ) → number_at 8 0 (sector 1 bytes) ≡ 512 → CountsStand blocks (Write (pbn 149) bytes false ∷ []) image [] [] → ⊥
  behind_the_last bytes is stand =
      let most = (stand.behind 0 1 (omega arith) (omega arith) (omega arith)).0 in
      let low = commit_behind blocks empty in
      omega (arith, most, is, low)

  -- a slab's journal with an update of another session
  of_another_session : (bytes : List ℕ) → HasUpdate small 0 0 (entry_at (place 1) 515) (sector 0 bytes)
      → CountsStand blocks (Write (pbn 150) bytes false ∷ []) image four four → ⊥
  of_another_session bytes has stand = unknown ((stand.only 0 0 0 (entry_at (place 1) 515) (omega arith) (omega arith) (omega arith)).0 has)

  -- Blocks that may be written: a data block with anything.
  write_data : (bytes : List ℕ) → MayWrite blocks [] image four four (block_of small (DataBlock 0 3)) bytes
  write_data bytes = record {
    sectors = λ slab n in_slab below here. absurd (no_counters slab (n / 8) in_slab (omega (arith, below)) here);
    behind = λ slab n in_slab past_last below here. absurd (no_counters slab (n / 8) in_slab (omega (arith, below)) here);
    no_lower = λ x n point there here has surely. absurd (let inside = there.0 in let number = there.2 in let offset = inside.1 in no_counters x.slab (n / 8) inside.0 (omega (arith, number, offset)) here);
    only = λ slab slot number entry in_slab in_journal below here. absurd (no_journal slab slot in_slab in_journal here);
    overwritten = λ x slot number point there in_journal below here. absurd (no_journal x.slab slot there.0 in_journal here);
  }
    where
      no_counters : (slab i : ℕ) → slab < 1 → i < 1 → block_of small (DataBlock 0 3) ≡ block_of small (ReferenceBlock slab i) → ⊥
      no_counters slab i in_slab inside here =
          let same = apart small (DataBlock 0 3) (ReferenceBlock slab i) (omega arith, omega arith) (in_slab, inside) here in absurd (cc same)

      no_journal : (slab slot : ℕ) → slab < 1 → slot < 4 → block_of small (DataBlock 0 3) ≡ block_of small (SlabJournalSlot slab slot) → ⊥
      no_journal slab slot in_slab inside here =
          let same = apart small (DataBlock 0 3) (SlabJournalSlot slab slot) (omega arith, omega arith) (in_slab, inside) here in absurd (cc same)

  -- no block of counters of another session
  write_later : (bytes : List ℕ) → number_at 8 0 (sector 0 bytes) ≡ 519 → MayWrite blocks [] image [] [] 149 bytes → ⊥
  write_later bytes is may = later_commit (sector 0 bytes) is (may.sectors 0 0 (omega arith) (omega arith) refl)

  write_behind : (bytes : List ℕ) → number_at 8 0 (sector 1 bytes) ≡ 512 → MayWrite blocks [] image [] [] 149 bytes → ⊥
  write_behind bytes is may =
      let most = may.behind 0 1 (omega arith) (omega arith) (omega arith) refl in
      let low = commit_behind blocks empty in
      omega (arith, most, is, low)

  -- none with a lower commit point, where the counts stood by a newer one
  lower_commit : (bytes : List ℕ) (log : List Call) → number_at 8 0 (sector 0 bytes) ≡ 511
      → SurelyCounters blocks log small 0 0 (λ old. 512 ≤ number_at 8 0 old)
      → MayWrite blocks log image four [] (block_of small (ReferenceBlock 0 0)) bytes → ⊥
  lower_commit bytes log low counted may =
      let high = may.no_lower (place 0) 0 512 ((omega arith, omega arith), refl, refl) refl (0, omega arith, refl) counted in omega (arith, low, high)

  -- no block of a slab's journal with an update of another session
  write_unknown : (bytes : List ℕ) → HasUpdate small 0 0 (entry_at (place 1) 515) (sector 0 bytes) → MayWrite blocks [] image four four 150 bytes → ⊥
  write_unknown bytes has may = unknown (may.only 0 0 0 (entry_at (place 1) 515) (omega arith) (omega arith) (omega arith) refl has)

  -- none over a block that alone keeps an update
  write_over : (bytes : List ℕ) → (HasUpdate small 0 0 kept (sector 0 bytes) → ⊥)
      → MayWrite blocks (Flush true ∷ Write (pbn 150) kept_block true ∷ []) image four [] 150 bytes → ⊥
  write_over bytes lost may = elim (may.overwritten (place 0) 0 0 512 (omega arith, omega arith) (omega arith) (omega arith) refl (0, omega arith, refl) (has_update, tt)) [
    | inl again ↦ lost again
    | inr others ↦ elim others [
      | inl in_window ↦ none_in_nothing 512 in_window
      | inr counted ↦ (let high = counted.0 in let low = low_commit in omega (arith, high, low))
    ]
  ]

  -- The block of counters as it was opened: the sectors behind the last counter have their opened commit points.
  write_as_opened : MayWrite blocks [] image [] [] 149 (block_at blocks 149)
  write_as_opened = record {
    sectors = λ slab n in_slab below here. again slab n in_slab below;
    behind = λ slab n in_slab past below here.
        subst (λ (b : ℕ). number_at 8 0 (sector (n % 8) (block_at blocks 149)) ≤ number_at 8 0 (sector (n % 8) (block_at blocks b))) here (omega arith);
    no_lower = λ x n point there here has surely. absurd (none_in_nothing point has);
    only = λ slab slot number entry in_slab in_journal below here. absurd (no_slot slab slot in_slab here);
    overwritten = λ x slot number point there in_journal below here has surely. absurd (none_in_nothing point has);
  }
    where
      again : (slab n : ℕ) → slab < 1 → n < 1 → IsCounted image [] slab n (sector (n % 8) (block_at blocks 149))
      again zero zero in_slab below = as_opened
      again zero (suc n) in_slab below = absurd (omega (arith, below))
      again (suc slab) n in_slab below = absurd (omega (arith, in_slab))

      no_slot : (slab slot : ℕ) → slab < 1 → 149 ≡ block_of small (SlabJournalSlot slab slot) → ⊥
      no_slot zero slot one same = omega (arith, same)
      no_slot (suc slab) slot one same = omega (arith, one)

  stands_as_opened : needed_blocks small ≤ length blocks → ((b : ℕ) → b < length blocks → length (block_at blocks b) ≡ 4096)
      → CountsStand blocks (Write (pbn 149) (block_at blocks 149) true ∷ []) image [] []
  stands_as_opened room whole =
      counts_after_write blocks [] image [] [] (pbn 149) (block_at blocks 149) true write_as_opened
      (counts_begin blocks [] image room (one_in-all (is_looked_at small) blocks [] blocks (one_image-opening blocks whole)) (closed blocks empty).updates)
