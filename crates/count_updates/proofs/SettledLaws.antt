-- A slab without updates, whose counters fit, takes them over.
use Rattle.std.proofs.Common.{ℕ, zero, suc, ◌≡◌, ◌+◌, ◌-◌, ◌*◌, ◌<◌, ◌≤◌, List, [], ◌∷◌, ◌++◌, length, get_or, take, drop, slice_index, Ok, refl, sym, ◌∙◌, ap, subst, arith, append-nil, append_assoc}
use Rattle.std.proofs.Math.Seq.{take-suc}
use Rattle.std.proofs.lemmas.List.{get_or-drop, get_or-take, length-drop, length-take}
use Rattle.blk_base.specs.Counters.{limit_of}
use Rattle.blk_base.specs.declared.geometry.Geometry.{Geometry}
use Rattle.blk_base.specs.declared.journal_entry.Update.{Update}
use Rattle.blk_base.specs.declared.point.Point.{Point}
use Rattle.blk_base.specs.Forms.{place_in}
use Rattle.blk_base.specs.Regions.{data_blocks}
use Rattle.image_model.specs.Counts.{block_of_data}
use Rattle.count_updates.proofs.NumberLaws.{one_counted, row_ends}
use Rattle.count_updates.proofs.PartLaws.{part_counted, passed_later}
use Rattle.count_updates.proofs.PointLaws.{without_updates}
use Rattle.count_updates.specs.Counted.{AreCountedUpTo, IsCountedAt, commit_in}
use Rattle.count_updates.specs.Listed.{AreInOrder, IsPassed}
use Rattle.count_updates.specs.Numbers.{block_number, sector_number}
use Rattle.count_updates.specs.FoundLists.{found_lists}

-- A part of a list.

pub row_is : (items : List ℕ) (first count : ℕ) → take (first + count - first) (drop first items) ≡ take count (drop first items)
row_is items first count = let size : first + count - first ≡ count = omega arith in ap (λ (n : ℕ). take n (drop first items)) size

pub in_row : (items : List ℕ) (first count k : ℕ) → k < count → first + count ≤ length items
    → (slice_index (take (first + count - first) (drop first items)) k ≡ slice_index items (first + k)) × (k < length (take (first + count - first) (drop first items)))
in_row items first count k below room =
    let left = length-drop first items in
    let cut = length-take (first + count - first) (drop first items) in
    (get_or-take (first + count - first) (drop first items) k 0 (omega (arith, below)) ∙ get_or-drop first items k 0, omega (arith, left, cut, below, room))

module _ (g : Geometry) (counters : List ℕ) (commits : List Point) (all updates : List Update) (same : all ≡ updates) (slab from last : ℕ) (inside : slab < g.slabs)
    (size : length counters ≡ data_blocks g) (order : AreInOrder updates) (passed : IsPassed updates from (block_of_data g (place_in slab 0)).0)
    (within : from ≤ length all) (ended : (d : Update) → from < length all → last < (get_or all from d).at.0)
    (most : (k : ℕ) → k < g.slab_blocks → (block_of_data g (place_in slab k)).0 ≤ last)
    (fit : (k : ℕ) → k < g.slab_blocks → slice_index counters (block_number g (place_in slab k)) ≤ limit_of g) where
  one_settled : (k : ℕ) → k < g.slab_blocks → IsCountedAt g (found_lists counters commits updates) (place_in slab k) (Ok (slice_index counters (block_number g (place_in slab k))))
  one_settled k below =
      let place = place_in slab k in
      let at = (block_of_data g place).0 in
      let counter = slice_index counters (block_number g place) in
      let commit = commit_in commits (sector_number g place) in
      let upto = most k below in
      let none : from - from ≡ 0 = omega arith in
      part_counted all updates same from from at at refl order (passed_later updates from (block_of_data g (place_in slab 0)).0 at (omega arith) passed) (omega arith, within)
      (λ d low. let more = ended d low in omega (arith, more, upto)) (limit_of g) commit counter (Ok counter)
      (without_updates (limit_of g) at commit counter (take (from - from) (drop from all)) (ap (λ (n : ℕ). take n (drop from all)) none) (fit k below))

  settled : (k : ℕ) → k ≤ g.slab_blocks → (counts : List ℕ) → AreCountedUpTo g (found_lists counters commits updates) slab 0 counts
      → AreCountedUpTo g (found_lists counters commits updates) slab k (counts ++ take k (drop (slab * g.slab_blocks) counters))
  settled zero upto counts were = subst (λ (cs : List ℕ). AreCountedUpTo g (found_lists counters commits updates) slab 0 cs) (sym (append-nil counts)) were
  settled (suc k) upto counts were =
      let row = drop (slab * g.slab_blocks) counters in
      let below : k < g.slab_blocks = omega (arith, upto) in
      let ends = row_ends slab g.slabs g.slab_blocks inside in
      let long = length-drop (slab * g.slab_blocks) counters in
      let counter = slice_index counters (block_number g (place_in slab k)) in
      let next : k + 1 ≡ suc k = omega arith in
      let here : get_or row k 0 ≡ counter = get_or-drop (slab * g.slab_blocks) counters k 0 in
      let more : take (suc k) row ≡ take k row ++ (counter ∷ []) =
      take-suc row k 0 (omega (arith, long, ends, size, below)) ∙ ap (λ (n : ℕ). take k row ++ (n ∷ [])) here in
      subst (λ (n : ℕ). AreCountedUpTo g (found_lists counters commits updates) slab n (counts ++ take (suc k) row)) next
      (subst (λ (cs : List ℕ). AreCountedUpTo g (found_lists counters commits updates) slab (k + 1) cs)
      (append_assoc counts (take k row) (counter ∷ []) ∙ ap (λ (xs : List ℕ). counts ++ xs) (sym more))
      (one_counted g (found_lists counters commits updates) slab k counter (counts ++ take k row) (settled k (omega (arith, upto)) counts were) (one_settled k below)))

  pub slab_settled : (counts : List ℕ) → AreCountedUpTo g (found_lists counters commits updates) slab 0 counts
      → AreCountedUpTo g (found_lists counters commits updates) slab g.slab_blocks (counts ++ take g.slab_blocks (drop (slab * g.slab_blocks) counters))
  slab_settled counts were = settled g.slab_blocks (omega arith) counts were
