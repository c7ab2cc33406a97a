-- Audits of whole small images that differ from the one of `DeviceRows` in the counter of their first data block, or in the root of
-- their first tree: a report with a block that differs, a count that leaves its range, and a page that isn't one.
use Rattle.std.proofs.Common.{ℕ, zero, suc, ◌≡◌, ◌+◌, ◌-◌, ◌*◌, ◌/◌, ◌%◌, ◌<◌, ◌≤◌, Bool, false, true, List, [], ◌∷◌, Contains, length, drop, replicate, reverse, slice_index, Some, Result, Ok, Err, refl, sym, ◌∙◌, ap, ap₂, subst, inl, inr, arith}
use Rattle.std.proofs.lemmas.List.{drop-replicate, get_or-replicate, length-replicate}
use Rattle.blk_base.proofs.SectorLaws.{zero_size}
use Rattle.blk_base.specs.Regions.{Root, SlabJournalSlot, block_of}
use Rattle.blk_base.specs.Sectors.{sector, zero_block}
use Rattle.blk_base.specs.declared.place.PageId.{PageId}
use Rattle.blk_base.specs.declared.place.Pbn.{Pbn}
use Rattle.blk_base.specs.Forms.{pbn}
use Rattle.blk_base.proofs.Example.{place}
use Rattle.byte_fields.proofs.FieldLaws.{number_at-drop}
use Rattle.byte_fields.specs.Fields.{number_at}
use Rattle.count_updates.specs.Numbers.{block_number}
use Rattle.disk_model.specs.Log.{Blocks, block_at}
use Rattle.disk_model.specs.Trust.{trust_of}
use Rattle.image_model.proofs.CountLaws.{none_in_nothing, one_number, one_stored}
use Rattle.image_model.proofs.EmptyLaws.{all_counted, blank_slot, no_updates, none_kept_in_zeros, not_shared, pages_good, root_says, stored_counter, the_image, zero_first}
use Rattle.image_model.proofs.Example.{small, small_is}
use Rattle.image_model.proofs.FaultExample.{zeros_unheaded}
use Rattle.image_model.proofs.MapLaws.{page_in_range}
use Rattle.image_model.specs.Counts.{HasMappings, Stores, block_of_data, counter_of, reference_sector_at}
use Rattle.image_model.specs.Empty.{empty_root}
use Rattle.image_model.specs.Faults.{IsCountFault, IsPageFault}
use Rattle.image_model.specs.Maps.{ArePagesGood, Image, head_of, page_at}
use Rattle.image_model.specs.Pages.{IsAhead}
use Rattle.image_model.specs.Sound.{IsDataPlace}
use Rattle.image_model.specs.declared.fault.ImageFault.TheVariants.{Counter, Page}
use Rattle.page_codec.specs.Grammar.{HasHead}
use Rattle.page_codec.specs.declared.fault.PageFault.TheVariants.{Header}
use Rattle.replay_counts.specs.Recovered.{Holds}
use Rattle.replay_counts.proofs.ReadRows.{no_entries}
use Rattle.replay_map.specs.Reads.{Shows}
use Rattle.slab_reading.specs.Slabs.{first_of_slab}
use Rattle.audit.proofs.DeviceRows.{none_told, opened_to, root_readings, roots_read, roots_shown}
use Rattle.image_model.proofs.ReadExample.{seen, were_read}
use Rattle.audit.proofs.ReadExample as example
use Rattle.audit.specs.Audits.{AreBothRead, AuditFails, IsAudited}
use Rattle.audit.specs.Reports.{AreUsed, Differs, IsReport}
use Rattle.audit.specs.declared.forms.Difference.{Difference}
use Rattle.audit.specs.declared.forms.Report.{Report}

-- A block of counters: the first data block has this one, and the others have 0.

abbrev counters_with : ℕ → List ℕ
counters_with c = 0 ∷ 0 ∷ 0 ∷ 0 ∷ 0 ∷ 0 ∷ 0 ∷ 0 ∷ c ∷ replicate 4087 0

size_with : (c : ℕ) → length (counters_with c) ≡ 4096
size_with c = let rest = length-replicate {A = ℕ} 4087 0 in omega (arith, rest)

first_counter : (number_at 1 8 (sector 0 (counters_with 1)) ≡ 1) × (number_at 1 8 (sector 0 (counters_with 255)) ≡ 255)
unfolding number_at
first_counter = (refl, refl)

no_commit : (number_at 8 0 (sector 0 (counters_with 1)) ≡ 0) × (number_at 8 0 (sector 0 (counters_with 255)) ≡ 0)
unfolding number_at
no_commit = (refl, refl)

zeros_after : (c : ℕ) → drop 9 (sector 0 (counters_with c)) ≡ replicate 503 0
zeros_after c = refl

other_counter : (c k : ℕ) → number_at 1 (9 + k) (sector 0 (counters_with c)) ≡ 0
other_counter c k =
    let place_is : k ≡ k + 0 = omega arith in
    sym (number_at-drop 1 k 9 (sector 0 (counters_with c))) ∙ ap (number_at 1 k) (zeros_after c)
    ∙ ap (λ (j : ℕ). number_at 1 j (replicate 503 0)) place_is ∙ sym (number_at-drop 1 0 k (replicate 503 0))
    ∙ ap (number_at 1 0) (drop-replicate k 503 0) ∙ zero_first (503 - k)

-- the slab: that block, and four of its journal
abbrev slab_with : ℕ → Blocks
slab_with c = counters_with c ∷ replicate 4 zero_block

behind_counters : (c i : ℕ) → 1 ≤ i → i < 5 → block_at (slab_with c) i ≡ zero_block
behind_counters c zero some below = absurd (omega (arith, some))
behind_counters c (suc k) some below = get_or-replicate 4 k zero_block zero_block (omega (arith, below))

both_read : (c : ℕ) (honest : Bool) → AreBothRead (trust_of false honest) (example.head_of true) seen seen (root_readings 60) (slab_with c ∷ [])
both_read c honest = record {
  middle = seen;
  pages_read = roots_read honest 60 (omega arith);
  slabs_read = record {
    count = refl;
    read = (
      seen,
      refl,
      record {
        count = refl;
        reads = were_read honest (first_of_slab small 0) (reverse (slab_with c)) (zero_size, none_told, (zero_size, none_told, (zero_size, none_told, (zero_size, none_told, (size_with c, none_told, tt)))));
      },
    );
  };
}

-- An image with these blocks: nothing is mapped, and its counters are these.
module _ (c : ℕ) (blocks : Blocks) (shown : Shows blocks (root_readings 60)) (holds : Holds small blocks (slab_with c ∷ [])) where
  abbrev image : Image
  image = the_image small blocks

  roots_are : (tree : ℕ) → tree < 60 → block_at blocks (block_of small (Root tree)) ≡ empty_root small tree
  roots_are = roots_shown blocks 60 shown

  counters_are : block_at blocks 149 ≡ counters_with c
  counters_are =
      let here : block_at blocks (first_of_slab small 0 + 0) ≡ block_at (slab_with c) 0 = holds 0 0 (omega arith) (omega arith) in
      let at : 149 ≡ first_of_slab small 0 + 0 = omega arith in
      ap (block_at blocks) at ∙ here

  journals_are : (slab slot : ℕ) → slab < 1 → slot < 4 → block_at blocks (block_of small (SlabJournalSlot slab slot)) ≡ zero_block
  journals_are slab slot one below =
      let here : block_at blocks (first_of_slab small 0 + (1 + slot)) ≡ block_at (slab_with c) (1 + slot) = holds 0 (1 + slot) (omega arith) (omega (arith, below)) in
      let at : block_of small (SlabJournalSlot slab slot) ≡ first_of_slab small 0 + (1 + slot) = omega (arith, one) in
      ap (block_at blocks) at ∙ here ∙ behind_counters c (1 + slot) (omega arith) (omega (arith, below))

  good : ArePagesGood image
  good = pages_good small blocks small_is (root_says small blocks roots_are) (blank_slot small blocks roots_are)

  counter_here : (offset : ℕ) → offset < 64 → counter_of image (place offset) ≡ number_at 1 (8 + offset) (sector 0 (counters_with c))
  counter_here offset below =
      let number : offset / 504 ≡ 0 = omega (arith, below) in
      let same : 8 + offset % 504 ≡ 8 + offset = omega (arith, below) in
      ap (λ (n : ℕ). number_at 1 (8 + offset % 504) (reference_sector_at small blocks 0 n)) number
      ∙ ap (λ (block : List ℕ). number_at 1 (8 + offset % 504) (sector 0 block)) counters_are
      ∙ ap (λ (n : ℕ). number_at 1 n (sector 0 (counters_with c))) same

  counter_behind : (k : ℕ) → suc k < 64 → counter_of image (place (suc k)) ≡ 0
  counter_behind k below = let at : 8 + suc k ≡ 9 + k = omega arith in counter_here (suc k) below ∙ ap (λ (n : ℕ). number_at 1 n (sector 0 (counters_with c))) at ∙ other_counter c k

  stored_as : (offset n : ℕ) → offset < 64 → counter_of image (place offset) ≡ n → n ≤ 254 → Stores image (place offset) (Ok n)
  stored_as offset n below is within =
      subst (λ (count : ℕ). Stores image (place offset) (Ok count)) is
      (stored_counter small blocks (none_kept_in_zeros small blocks journals_are) (place offset) (omega arith, below) (omega (arith, is, within)))

-- IsReport, IsAudited: one block differs, which no address is mapped to

abbrev difference : Difference
difference = record { at = pbn 85; stored = 1; mapped = 0 }

abbrev counts : List ℕ
counts = 1 ∷ replicate 63 0

module _ (blocks : Blocks) (shown : Shows blocks (root_readings 60)) (holds : Holds small blocks (slab_with 1 ∷ [])) where
  abbrev one_counted : Image
  one_counted = the_image small blocks

  first_stored : Stores one_counted (place 0) (Ok 1)
  first_stored = stored_as 1 blocks shown holds 0 1 (omega arith) (counter_here 1 blocks shown holds 0 (omega arith) ∙ first_counter.0) (omega arith)

  others_stored : (k : ℕ) → suc k < 64 → Stores one_counted (place (suc k)) (Ok 0)
  others_stored k below = stored_as 1 blocks shown holds (suc k) 0 below (counter_behind 1 blocks shown holds k below) (omega arith)

  none_mapped : (block : Pbn) → HasMappings one_counted block 0
  none_mapped = all_counted small blocks small_is (root_says small blocks (roots_are 1 blocks shown holds))

  each_stored : (slab offset : ℕ) → IsDataPlace small (record { slab = slab; offset = offset })
      → Stores one_counted (record { slab = slab; offset = offset }) (Ok (slice_index counts (block_number small (record { slab = slab; offset = offset }))))
  each_stored (suc slab) offset inside = let one = inside.0 in absurd (omega (arith, one))
  each_stored zero zero inside = first_stored
  each_stored zero (suc k) inside =
      let below : suc k < 64 = inside.1 in
      let at : 0 * 64 + suc k ≡ suc k = omega arith in
      subst (λ (count : ℕ). Stores one_counted (place (suc k)) (Ok count)) (sym (ap (slice_index counts) at ∙ get_or-replicate 63 k 0 0 (omega (arith, below)))) (others_stored k below)

  used : AreUsed one_counted 1
  used = record { counts = counts; size = let rest = length-replicate {A = ℕ} 63 0 in omega (arith, rest); stored = λ x inside. each_stored x.slab x.offset inside; sum = refl }

  differs : Differs one_counted difference
  differs = record { place = place 0; inside = (omega arith, omega arith); stands = refl; stores = first_stored; maps = none_mapped (pbn 85); apart = λ same. omega (arith, same) }

  only_one : (slab offset : ℕ) (other : Difference) → IsDataPlace small (record { slab = slab; offset = offset }) → block_of_data small (record { slab = slab; offset = offset }) ≡ other.at
      → Stores one_counted (record { slab = slab; offset = offset }) (Ok other.stored) → HasMappings one_counted other.at other.mapped → (other.stored ≡ other.mapped → ⊥) → difference ≡ other
  only_one (suc slab) offset other inside at stores maps apart = let one = inside.0 in absurd (omega (arith, one))
  only_one zero zero other inside at stores maps apart =
      let stored : ◌≡◌ {A = Result ℕ ℕ} (Ok 1) (Ok other.stored) = one_stored one_counted (place 0) (Ok 1) (Ok other.stored) first_stored stores in
      let count : 1 ≡ other.stored = cc stored in
      let mapped = one_number one_counted other.at 0 other.mapped (none_mapped other.at) maps in
      ap (λ (x : Pbn). record { at = x; stored = 1; mapped = 0 }) at
      ∙ ap₂ (λ (s m : ℕ). record { at = other.at; stored = s; mapped = m }) count mapped
  only_one zero (suc k) other inside at stores maps apart =
      let stored : ◌≡◌ {A = Result ℕ ℕ} (Ok 0) (Ok other.stored) = one_stored one_counted (place (suc k)) (Ok 0) (Ok other.stored) (others_stored k inside.1) stores in
      let count : 0 ≡ other.stored = cc stored in
      let mapped = one_number one_counted other.at 0 other.mapped (none_mapped other.at) maps in
      absurd (apart (sym count ∙ mapped))

  its_report : (report : Report) → report.differs.items ≡ difference ∷ [] → report.used ≡ 1 → report.total ≡ 64 → IsReport one_counted report
  its_report report one count total = record {
    right = record {
      pages = good 1 blocks shown holds;
      stored = λ x inside. (slice_index counts (block_number small x), each_stored x.slab x.offset inside);
      unshared = not_shared small blocks small_is (root_says small blocks (roots_are 1 blocks shown holds));
    };
    each = λ other. (
      λ has. differs_too other (subst (λ (ds : List Difference). Contains ds other) one has),
      λ is. subst (λ (ds : List Difference). Contains ds other) (sym one) (0, omega arith, only_one is.place.slab is.place.offset other is.inside is.stands is.stores is.maps is.apart),
    );
    rising = rw one (tt, tt);
    used = rw count used;
    all = total;
  }
    where
      differs_too : (other : Difference) → Contains (difference ∷ []) other → Differs one_counted other
      differs_too other (zero, inside, same) = subst (Differs one_counted) same differs
      differs_too other (suc k, inside, same) = absurd (omega (arith, inside))

  -- not without it
  none_reported : (report : Report) → report.differs.items ≡ [] → IsReport one_counted report → ⊥
  none_reported report none is = none_in_nothing difference (subst (λ (ds : List Difference). Contains ds difference) none ((is.each difference).1 differs))

audited : (honest : Bool) (report : Report) → report.differs.items ≡ difference ∷ [] → report.used ≡ 1 → report.total ≡ 64 → IsAudited (trust_of false honest) seen seen report
audited honest report one used total = (
  example.head_of true,
  no_entries,
  seen,
  opened_to honest,
  (root_readings 60, slab_with 1 ∷ [], both_read 1 honest, λ blocks shown holds. its_report blocks shown holds report one used total),
)

-- AuditFails: the count of the first data block leaves its range, at its commit point

count_fails : (honest : Bool) → AuditFails (trust_of false honest) seen seen (Counter (pbn 85) (record { 0 = 0 }))
count_fails honest =
    inr (inr (example.head_of true, no_entries, seen, opened_to honest, (root_readings 60, slab_with 255 ∷ [], both_read 255 honest, λ blocks shown holds. (good 255 blocks shown holds, fault blocks shown holds))))
  where
    fault : (blocks : Blocks) → Shows blocks (root_readings 60) → Holds small blocks (slab_with 255 ∷ []) → IsCountFault (the_image small blocks) (pbn 85) 0
    fault blocks shown holds = record {
      place = place 0;
      inside = (omega arith, omega arith);
      stands = refl;
      leaves = leaves;
      first = λ other inside below. absurd (let slab = inside.0 in omega (arith, slab, below));
    }
      where
        commit : number_at 8 0 (reference_sector_at small blocks 0 0) ≡ 0
        commit = ap (λ (block : List ℕ). number_at 8 0 (sector 0 block)) (counters_are 255 blocks shown holds) ∙ no_commit.1

        leaves : Stores (the_image small blocks) (place 0) (Err 0)
        leaves = record {
          points = [];
          updates = record {
            rising = tt;
            each = λ point. (λ has. absurd (none_in_nothing point has), λ is. absurd (no_updates small blocks (none_kept_in_zeros small blocks (journals_are 255 blocks shown holds)) (place 0) point (omega arith, omega arith) is.1));
          };
          counted = rw (counter_here 255 blocks shown holds 0 (omega arith) ∙ first_counter.1, commit) refl;
        }

-- AuditFails: the first root is no page

page_fails : (honest : Bool) → AuditFails (trust_of false honest) seen seen (Page (pbn 9) Header)
page_fails honest =
    inr (inr (
      example.head_of true,
      no_entries,
      seen,
      opened_to honest,
      (
        record { at = pbn 9; bytes = zero_block } ∷ [],
        (seen, refl, were_read honest 9 (zero_block ∷ []) (zero_size, none_told, tt), omega arith, inr (0, omega arith, refl)),
        λ blocks shown. fault blocks shown.0,
      ),
    ))
  where
    fault : (blocks : Blocks) → block_at blocks 9 ≡ zero_block → IsPageFault (the_image small blocks) (pbn 9) Header
    fault blocks zeros = record {
      page = record { tree = 0; level = 1; index = 0 };
      there = refl;
      has = record {
        slot = 0;
        inside = omega arith;
        before = λ i below. absurd (omega (arith, below));
        own = inl refl;
        of_slot = λ headed. zeros_unheaded (subst (HasHead (head_of (the_image small blocks) (record { tree = 0; level = 1; index = 0 }) (pbn 9))) zeros headed);
      };
      first = λ other at ahead there. absurd (none_ahead other at ahead there);
    }
      where
        none_ahead : (other : PageId) (at : Pbn) → IsAhead other (record { tree = 0; level = 1; index = 0 }) → page_at (the_image small blocks) other ≡ Some at → ⊥
        none_ahead other at (inl tree) there = omega (arith, tree)
        none_ahead other at (inr (inl up)) there = let level = up.1 in let below = (page_in_range (the_image small blocks) other at there).1 in omega (arith, level, below)
        none_ahead other at (inr (inr left)) there = let index = left.2 in omega (arith, index)
