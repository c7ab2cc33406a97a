-- For each clause of the definitions of what replaying finds a small case that it accepts, and one that breaks it alone and is
-- refused. The images are those of the model's rows.
use Rattle.std.proofs.Common.{ℕ, ◌≡◌, ◌<◌, ◌≤◌, false, List, [], ◌∷◌, Option, Some, None, Contains, length, refl, sym, ap, subst, inl, inr, arith}
use Rattle.blk_base.specs.Limits.{IsGeometry}
use Rattle.blk_base.specs.Regions.{Root, block_of}
use Rattle.blk_base.specs.Sectors.{zero_block}
use Rattle.blk_base.specs.declared.geometry.Geometry.{Geometry}
use Rattle.blk_base.specs.declared.geometry.Super.{Super as Superblock}
use Rattle.blk_base.specs.declared.journal_entry.CommittedEntry.{CommittedEntry}
use Rattle.blk_base.specs.declared.place.Mapping.TheVariants.{Zero, At}
use Rattle.blk_base.specs.declared.place.PageId.{PageId}
use Rattle.blk_base.specs.declared.place.Pbn.{Pbn}
use Rattle.blk_base.specs.declared.sizes.TheConstants.{TREES}
use Rattle.blk_base.specs.Forms.{page, pbn}
use Rattle.blk_base.proofs.Example.{root}
use Rattle.byte_fields.specs.Fields.{number_at}
use Rattle.disk_model.specs.Log.{Blocks, block_at}
use Rattle.disk_model.specs.Trust.{trust_of}
use Rattle.image_model.proofs.EmptyLaws.{all_counted, blank_slot, no_tree_page, not_shared, pages_good, root_says, the_image}
use Rattle.image_model.proofs.Example.{small}
use Rattle.image_model.proofs.MapExample.{bad_head, image, remap, with_root}
use Rattle.image_model.specs.Counts.{leads_to}
use Rattle.image_model.specs.Empty.{empty_root}
use Rattle.image_model.specs.Faults.{IsPageFault, IsShareFault}
use Rattle.image_model.specs.Maps.{ArePagesGood, Image, mapping_of, image_with}
use Rattle.image_model.specs.Pages.{address_count}
use Rattle.image_model.specs.Sound.{Opens, image_of}
use Rattle.image_model.specs.declared.fault.ImageFault.TheVariants.{Page, Counter, SharedPage, Device, Memory}
use Rattle.journal_window.proofs.Rows.{seen_with}
use Rattle.journal_window.proofs.ReadRows.{no_entries}
use Rattle.page_codec.specs.declared.fault.PageFault.TheVariants.{Header}
use Rattle.plain_laws.specs.Sums.{bit}
use Rattle.replay_map.proofs.ReadLaws.{blocks_untouched}
use Rattle.replay_map.proofs.SumLaws.{mapped_sum, sum_has}
use Rattle.replay_map.proofs.WalkRows.{read_fails, read_fails_rose, shown_since}
use Rattle.replay_map.proofs.WholeSumLaws.{count_is}
use Rattle.replay_map.specs.FoundPages.{FindFails, IsMapFound, map_with}
use Rattle.replay_map.specs.Replayed.{AreAllChanges, AreAllLinks, AreAllMapped, HasMap, HasMapOf, IsFound, IsMapFault, IsMapRead, IsReplayed, MapFails, ReplayFails, times}
use Rattle.replay_map.specs.declared.found.Found.{Found}
use Rattle.replay_map.specs.declared.found.SlotChange.{SlotChange}
use Rattle.replay_map.specs.declared.links.Link.{Link}
use Rattle.replay_map.specs.declared.recovered.RecoveredMap.{RecoveredMap}

-- The map.

abbrev leaf_at : ℕ → Link
leaf_at n = record { page = page 0 0 0; at = pbn n }

abbrev change_of : PageId → ℕ → SlotChange
change_of leaf slot = record { page = leaf; slot = slot; mapping = Zero }

nowhere : {T : Type 0} (x : T) → Contains [] x → ⊥
nowhere x has = let inside = has.1 in omega (arith, inside)

-- a block that stands twice among others
times_is : times (pbn 86) (pbn 86 ∷ pbn 85 ∷ pbn 86 ∷ []) ≡ 2
times_is = refl

times_none : times (pbn 87) (pbn 86 ∷ pbn 85 ∷ []) ≡ 0
times_none = refl

-- an image whose roots have no mappings
module _ (g : Geometry) (blocks : Blocks) (sizes : IsGeometry g) (root_is : (tree : ℕ) → tree < TREES → block_at blocks (block_of g (Root tree)) ≡ empty_root g tree) where
  no_links : AreAllLinks (the_image g blocks) []
  no_links link = (
    λ has. absurd (nowhere link has),
    λ is. absurd (no_tree_page g blocks sizes (root_says g blocks root_is) link.at (link.page, is.0, is.1)),
  )

  no_changes : AreAllChanges (the_image g blocks) []
  no_changes change = (λ has. absurd (nowhere change has), λ is. absurd (let none = is.2 in cc none))

  none_mapped : AreAllMapped (the_image g blocks) []
  none_mapped block = let sum = (all_counted g blocks sizes (root_says g blocks root_is) block).sum in omega (arith, sum)

  pub map_of_nothing : (map : RecoveredMap) → map.links.items ≡ [] → map.slots.items ≡ [] → map.mapped.items ≡ [] → HasMap (the_image g blocks) map
  map_of_nothing map links slots mapped = record {
    pages = pages_good g blocks sizes (root_says g blocks root_is) (blank_slot g blocks root_is);
    unshared = not_shared g blocks sizes (root_says g blocks root_is);
    links = subst (λ (list : List Link). AreAllLinks (the_image g blocks) list) (sym links) no_links;
    slots = subst (λ (list : List SlotChange). AreAllChanges (the_image g blocks) list) (sym slots) no_changes;
    mapped = subst (λ (list : List Pbn). AreAllMapped (the_image g blocks) list) (sym mapped) none_mapped;
  }

map_pages : (map : RecoveredMap) → HasMap (with_root zero_block []) map → ⊥
map_pages map is = bad_head (is.pages root (pbn 9) refl)

-- address 5 is mapped to the block of its leaf
map_unshared : (map : RecoveredMap) → HasMap (image (remap 5 (At (pbn 85)) ∷ [])) map → ⊥
unfolding number_at
map_unshared map is = is.unshared (pbn 85) 5 (page 0 0 0, omega arith, refl) refl

map_links : (map : RecoveredMap) → map.links.items ≡ [] → HasMap (image []) map → ⊥
unfolding number_at
map_links map none is =
    nowhere (leaf_at 85) (subst (λ (list : List Link). Contains list (leaf_at 85)) none ((is.links (leaf_at 85)).1 (omega arith, refl)))

map_those_links : AreAllLinks (image []) (leaf_at 86 ∷ []) → ⊥
unfolding number_at
map_those_links are =
    let linked = (are (leaf_at 86)).0 (0, omega arith, refl) in
    let same : 85 ≡ 86 = ap place linked.1 in
    omega (arith, same)
  where
    place : Option Pbn → ℕ
    place None = 0
    place (Some at) = at.0

-- a root is no link
map_no_roots : AreAllLinks (image []) (record { page = root; at = pbn 9 } ∷ []) → ⊥
map_no_roots are =
    let linked = (are (record { page = root; at = pbn 9 })).0 (0, omega arith, refl) in
    let level = linked.0 in
    omega (arith, level)

map_slots : (map : RecoveredMap) → map.slots.items ≡ [] → HasMap (image (remap 5 Zero ∷ [])) map → ⊥
unfolding number_at
map_slots map none is =
    nowhere (change_of (page 0 0 0) 5)
    (subst (λ (list : List SlotChange). Contains list (change_of (page 0 0 0) 5)) none ((is.slots (change_of (page 0 0 0) 5)).1 (refl, omega arith, refl)))

-- the leaf of address 97440 isn't linked
map_slots_of_pages : AreAllChanges (image (remap 97440 Zero ∷ [])) (change_of (page 0 0 2) 0 ∷ []) → ⊥
unfolding number_at
map_slots_of_pages are = let change = (are (change_of (page 0 0 2) 0)).0 (0, omega arith, refl) in absurd (cc change.0)

map_slots_replaced : AreAllChanges (image []) (change_of (page 0 0 0) 5 ∷ []) → ⊥
map_slots_replaced are = let change = (are (change_of (page 0 0 0) 5)).0 (0, omega arith, refl) in absurd (cc change.2)

map_slots_of_page : AreAllChanges (image []) (change_of (page 0 0 0) 812 ∷ []) → ⊥
map_slots_of_page are = let change = (are (change_of (page 0 0 0) 812)).0 (0, omega arith, refl) in let inside = change.1 in omega (arith, inside)

one : 1 ≤ bit (leads_to (pbn 86) (mapping_of (image []) 5))
unfolding number_at
one = omega arith

map_mapped : (map : RecoveredMap) → map.mapped.items ≡ [] → HasMap (image []) map → ⊥
map_mapped map none is =
    let count = count_is small in
    let some = sum_has (λ address. bit (leads_to (pbn 86) (mapping_of (image []) address))) (address_count small) 5 (omega (arith, count)) one in
    let sum = mapped_sum (mapping_of (image [])) (pbn 86) (address_count small) in
    let same = is.mapped (pbn 86) in
    let nothing = ap (times (pbn 86)) none in
    omega (arith, some, sum, same, nothing)

-- By what was read.

image_is : (image_with small [] []).geometry ≡ small
image_is = refl

found_is : IsFound (trust_of false false) small [] (seen_with 0) (seen_with 0) (λ image. image.geometry ≡ small)
found_is = ([], refl, λ blocks shows. refl)

-- of the window's own image
found_window : IsFound (trust_of false false) small (remap 5 Zero ∷ []) (seen_with 0) (seen_with 0) (λ image. image.window ≡ remap 5 Zero ∷ [])
found_window = ([], refl, λ blocks shows. refl)

found_since : (Says : Image → Type 0) → IsFound (trust_of false false) small [] (seen_with 1) (seen_with 0) Says → ⊥
found_since Says found = let later = (blocks_untouched (trust_of false false) small (seen_with 1) (seen_with 0) found.0 found.1).later.faults in omega (arith, later)

map_read : (map : RecoveredMap) → map.last ≡ 5 → map.entries ≡ 0 → IsFound (trust_of false false) small [] (seen_with 0) (seen_with 0) (λ image. HasMap image map)
    → IsMapRead (trust_of false false) small (no_entries 5) (seen_with 0) (seen_with 0) map
map_read map last entries found = record { last = last; entries = entries; found = found }

map_read_last : (map : RecoveredMap) → map.last ≡ 6 → IsMapRead (trust_of false false) small (no_entries 5) (seen_with 0) (seen_with 0) map → ⊥
map_read_last map last read = let same = read.last in omega (arith, last, same)

map_read_entries : (map : RecoveredMap) → map.entries ≡ 1 → IsMapRead (trust_of false false) small (no_entries 5) (seen_with 0) (seen_with 0) map → ⊥
map_read_entries map entries read = let same = read.entries in omega (arith, entries, same)

map_read_found : (map : RecoveredMap) → IsMapRead (trust_of false false) small (no_entries 5) (seen_with 1) (seen_with 0) map → ⊥
map_read_found map read = found_since (λ image. HasMap image map) read.found

map_fails_by_device : MapFails (trust_of false false) small [] (seen_with 0) (seen_with 1) Device
map_fails_by_device = read_fails

map_fails_by_device_alone : MapFails (trust_of false false) small [] (seen_with 0) (seen_with 0) Device → ⊥
map_fails_by_device_alone failed = read_fails_rose failed

map_fails_by_memory : MapFails (trust_of false false) small [] (seen_with 0) (seen_with 0) Memory
map_fails_by_memory = tt

map_fails_by_page : MapFails (trust_of false false) small [] (seen_with 1) (seen_with 0) (Page (pbn 9) Header) → ⊥
map_fails_by_page failed = found_since (λ image. IsPageFault image (pbn 9) Header) failed

map_fails_by_share : MapFails (trust_of false false) small [] (seen_with 1) (seen_with 0) (SharedPage (pbn 85)) → ⊥
map_fails_by_share failed = found_since (λ image. ArePagesGood image × IsShareFault image (pbn 85)) failed

map_fails_by_counter : MapFails (trust_of false false) small [] (seen_with 0) (seen_with 0) (Counter (pbn 85) (record { 0 = 0 })) → ⊥
map_fails_by_counter failed = failed

-- With the window.

abbrev head : Superblock
head = record { geometry = small; clean = false; start = 1 }

-- what was replayed was read since
replayed_since : (map : RecoveredMap) → IsReplayed (trust_of false false) head (seen_with 1) (seen_with 0) map → ⊥
replayed_since map (middle, window, read, found) =
    let journal = read.1.read.later.faults in
    let pages = (blocks_untouched (trust_of false false) small middle (seen_with 0) found.found.0 found.found.1).later.faults in
    omega (arith, journal, pages)

-- a read of the journal failed
replay_fails_by_device : ReplayFails (trust_of false false) head (seen_with 0) (seen_with 1) Device
replay_fails_by_device = inl (
  [],
  omega arith,
  record {
    stays = record { opening = refl; size = refl };
    later = record { faults = omega arith; unkept = omega arith };
    given = tt;
    rose = omega arith;
    logged = λ told. absurd (cc told);
  },
)

replay_fails_by_counter : ReplayFails (trust_of false false) head (seen_with 0) (seen_with 1) (Counter (pbn 85) (record { 0 = 0 })) → ⊥
replay_fails_by_counter (inl failed) = failed
replay_fails_by_counter (inr failed) = failed.3

-- The map of an image: the blocks have a superblock, and a window with this last sequence and length, and the map.
map_of : (blocks : Blocks) (sizes : Superblock) (map : RecoveredMap) → Opens blocks sizes map.last [] → map.entries ≡ 0 → HasMap (image_of sizes blocks []) map → HasMapOf blocks sizes map
map_of blocks sizes map opens entries has = record { window = []; opens = opens; entries = entries; has = has }

-- opens: zeros are no superblock
map_of_nothing_opened : (sizes : Superblock) (map : RecoveredMap) → HasMapOf [] sizes map → ⊥
map_of_nothing_opened sizes map is = absurd (cc is.opens.accepted)

-- entries, has: of an image with these blocks there is one window
map_of_entries : (blocks : Blocks) (sizes : Superblock) (map : RecoveredMap) → ((window : List CommittedEntry) → Opens blocks sizes map.last window → window ≡ []) → map.entries ≡ 1
    → HasMapOf blocks sizes map → ⊥
map_of_entries blocks sizes map none entries is = let same = ap (λ (window : List CommittedEntry). length window) (none is.window is.opens) in let count = is.entries in omega (arith, same, count, entries)

map_of_has : (blocks : Blocks) (sizes : Superblock) (map : RecoveredMap) → ((window : List CommittedEntry) → Opens blocks sizes map.last window → HasMap (image_of sizes blocks window) map → ⊥)
    → HasMapOf blocks sizes map → ⊥
map_of_has blocks sizes map none is = none is.window is.opens is.has

-- its faults
map_fault_memory : IsMapFault [] Memory
map_fault_memory = tt

map_fault_page : IsMapFault [] (Page (pbn 9) Header) → ⊥
map_fault_page (of, opened, fault) = absurd (cc opened.opens.accepted)

map_fault_shared : IsMapFault [] (SharedPage (pbn 85)) → ⊥
map_fault_shared (of, opened, good, fault) = absurd (cc opened.opens.accepted)

-- By the changes.

found_as : (found : Found) → ((map_with found 5 4).last ≡ 5) × ((map_with found 5 4).entries ≡ 4) × ((map_with found 5 4).links.items ≡ found.links.items)
found_as found = (refl, refl, refl)

map_found_pages : (found : Found) → IsMapFound (with_root zero_block []) found → ⊥
map_found_pages found is = map_pages (map_with found 5 4) (is 5 4)

find_fails_by_device : FindFails (trust_of false false) small [] (seen_with 0) (seen_with 1) Device
find_fails_by_device = read_fails

find_fails_by_device_alone : FindFails (trust_of false false) small [] (seen_with 0) (seen_with 0) Device → ⊥
find_fails_by_device_alone failed = read_fails_rose failed

find_fails_by_memory : FindFails (trust_of false false) small [] (seen_with 0) (seen_with 0) Memory
find_fails_by_memory = tt

find_fails_by_page : FindFails (trust_of false false) small [] (seen_with 1) (seen_with 0) (Page (pbn 9) Header) → ⊥
find_fails_by_page failed = shown_since (λ image. IsPageFault image (pbn 9) Header) failed

find_fails_by_share : FindFails (trust_of false false) small [] (seen_with 1) (seen_with 0) (SharedPage (pbn 85)) → ⊥
find_fails_by_share failed = shown_since (λ image. ArePagesGood image × IsShareFault image (pbn 85)) failed

find_fails_by_counter : FindFails (trust_of false false) small [] (seen_with 0) (seen_with 0) (Counter (pbn 85) (record { 0 = 0 })) → ⊥
find_fails_by_counter failed = failed
