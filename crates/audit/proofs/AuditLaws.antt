-- What was read of the map and of the counts, one after the other.
use Rattle.std.proofs.Common.{ℕ, ◌≡◌, ◌+◌, ◌-◌, ◌*◌, ◌/◌, ◌%◌, ◌<◌, ◌≤◌, ◌↔◌, Bool, List, All, length, Contains, Some, Result, Ok, Err, IfOk, slice_index, refl, sym, ◌∙◌, ap, ap₂, subst, inr, arith}
use Rattle.std.proofs.lemmas.Nat.{div-add-mod', mod_below, mul-add-lt, same_from_place}
use Rattle.blk_base.specs.Counters.{limit_of}
use Rattle.blk_base.specs.Regions.{first_slab_of, needed_blocks, slab_stride_of, data_blocks as all_blocks}
use Rattle.blk_base.specs.declared.geometry.Geometry.{Geometry}
use Rattle.blk_base.specs.declared.geometry.Super.{Super as Superblock}
use Rattle.blk_base.specs.declared.layout.DataPlace.{DataPlace}
use Rattle.blk_base.specs.declared.journal_entry.CommittedEntry.{CommittedEntry}
use Rattle.count_updates.specs.Numbers.{all_sectors, block_number}
use Rattle.disk_model.specs.Log.{Blocks, block_at}
use Rattle.disk_model.specs.Seen.{Seen}
use Rattle.disk_model.specs.Trust.{Trust}
use Rattle.blk_base.specs.Limits.{IsGeometry}
use Rattle.image_model.specs.Counts.{Stores, mapped_below}
use Rattle.image_model.specs.Maps.{Image, ArePagesGood, mapping_of, page_at}
use Rattle.image_model.specs.Pages.{address_count}
use Rattle.image_model.specs.Sound.{AreUnshared, IsDataPlace, image_of}
use Rattle.image_model.specs.declared.fault.ImageFault.{ImageFault}
use Rattle.image_model.specs.declared.fault.ImageFault.TheVariants.{Super, Window, Page, Counter, SharedPage, Counts, Device, Unclean, Memory}
use Rattle.image_model.proofs.WholeExample.{listed, at_listed}
use Rattle.blk_base.specs.declared.place.Pbn.{Pbn}
use Rattle.journal_window.specs.States.{WindowState}
use Rattle.replay_counts.specs.Recovered.{AreCountsRead, CountsFail, HasCounts, Holds}
use Rattle.replay_counts.specs.declared.forms.RecoveredCounts.{RecoveredCounts}
use Rattle.replay_counts.specs.declared.forms.SectorPoints.{SectorPoints}
use Rattle.replay_map.specs.Reads.{Reading, BlocksRead, Shows}
use Rattle.replay_map.specs.Replayed.{HasMap, IsMapRead, MapFails, times}
use Rattle.replay_map.specs.declared.links.Link.{Link}
use Rattle.replay_map.specs.declared.recovered.RecoveredMap.{RecoveredMap}
use Rattle.slab_reading.specs.Reads.{read_of}
use Rattle.slab_reading.specs.Slabs.{first_of_slab}
use Rattle.audit.proofs.ReportLaws.{is_report}
use Rattle.audit.specs.Tallies.{AreNumbers, differences_below, used_in}
use Rattle.audit.specs.Audits.{AuditWithFails, BothShow, IsAuditedWith}
use Rattle.audit.specs.Reads.{AreContents}
use Rattle.audit.specs.Reports.{IsReport}
use Rattle.audit.specs.declared.forms.Contents.{Contents}
use Rattle.audit.specs.declared.forms.Report.{Report}

-- There is an image that has what was read of the slabs.

read_at : Geometry → List Blocks → ℕ → List ℕ
read_at g reads b =
    let n = b - first_slab_of g in
    block_at (read_of reads (n / slab_stride_of g)) (n % slab_stride_of g - g.slab_blocks)

slab_shown : (g : Geometry) (reads : List Blocks) → Holds g (listed (read_at g reads) 0 (needed_blocks g)) reads
unfolding read_at
slab_shown g reads slab i is below =
    let width = slab_stride_of g in
    let b = first_of_slab g slab + i in
    let n = b - first_slab_of g in
    let some : 0 < width = omega (arith, below) in
    let within : g.slab_blocks + i < width = omega (arith, below) in
    let row : n ≡ slab * width + (g.slab_blocks + i) = omega arith in
    let ends = mul-add-lt slab width (g.slab_blocks + i) g.slabs is within in
    let parts = same_from_place (n / width) (n % width) slab (g.slab_blocks + i) width (mod_below n width some) within (div-add-mod' n width ∙ row) in
    let place : 0 + b ≡ b = omega arith in
    let number = parts.1 in
    let left : n % width - g.slab_blocks ≡ i = omega (arith, number) in
    at_listed (read_at g reads) 0 (needed_blocks g) b (omega (arith, ends))
    ∙ ap (read_at g reads) place
    ∙ ap₂ (λ (s w : ℕ). block_at (read_of reads s) w) parts.0 left

counts_size : (trust : Trust) (g : Geometry) (window : List CommittedEntry) (before now : Seen) (counts : List ℕ) (sectors : List SectorPoints)
    → AreCountsRead trust g window before now counts sectors → length counts ≡ all_blocks g
counts_size trust g window before now counts sectors (reads, read, has) =
    (has (listed (read_at g reads) 0 (needed_blocks g)) (slab_shown g reads)).blocks

sectors_size : (trust : Trust) (g : Geometry) (window : List CommittedEntry) (before now : Seen) (counts : List ℕ) (sectors : List SectorPoints)
    → AreCountsRead trust g window before now counts sectors → length sectors ≡ all_sectors g
sectors_size trust g window before now counts sectors (reads, read, has) =
    (has (listed (read_at g reads) 0 (needed_blocks g)) (slab_shown g reads)).sizes

pub contents_read : (trust : Trust) (head : Superblock) (window : WindowState) (before middle now : Seen) (map : RecoveredMap) (counts : RecoveredCounts)
    → IsMapRead trust head.geometry window before middle map
    → AreCountsRead trust head.geometry window.entries middle now counts.counts.items counts.sectors.items
    → All (λ count. count ≤ limit_of head.geometry) counts.counts.items
    → AreContents trust head window before now (record { map = map; counts = counts })
contents_read trust head window before middle now map counts read slabs_read limit =
    let found = read.found in record {
      entries = read.entries;
      blocks = counts_size trust head.geometry window.entries middle now counts.counts.items counts.sectors.items slabs_read;
      sectors = sectors_size trust head.geometry window.entries middle now counts.counts.items counts.sectors.items slabs_read;
      limit = limit;
      shown = (
        found.0,
        slabs_read.0,
        record { middle = middle; pages_read = found.1; slabs_read = slabs_read.1 },
        λ blocks shows holds. (found.2 blocks shows, slabs_read.2 blocks holds),
      );
    }

module _ (trust : Trust) (head : Superblock) (window : WindowState) (before now : Seen) where
  -- what follows for each image of these sizes
  pub both_follow : (Says Says' : Image → Type 0) → ((image : Image) → image.geometry ≡ head.geometry → Says image → Says' image)
      → BothShow trust head window before now Says → BothShow trust head window before now Says'
  both_follow Says Says' follows (pages, slabs, read, says) =
      (pages, slabs, read, λ blocks shows holds. follows (image_of head blocks window.entries) refl (says blocks shows holds))

  pub audited : (contents : Contents) (report : Report) → AreContents trust head window before now contents
      → ((image : Image) → image.geometry ≡ head.geometry → HasMap image contents.map → HasCounts image contents.counts.counts.items contents.counts.sectors.items
      → IsReport image report)
      → IsAuditedWith trust head window before now report
  audited contents report are says =
      both_follow (λ image. HasMap image contents.map × HasCounts image contents.counts.counts.items contents.counts.sectors.items) (λ image. IsReport image report)
      (λ image same has. says image same has.0 has.1) are.shown

module _ (trust : Trust) (head : Superblock) (window : WindowState) (before middle now : Seen) where
  counts_fail_after : (pages : List Reading) → BlocksRead trust head.geometry before middle pages → ((blocks : Blocks) → Shows blocks pages → ArePagesGood (image_of head blocks window.entries))
      → (why : ImageFault) → CountsFail trust head.geometry window.entries middle now why → AuditWithFails trust head window before now why
  counts_fail_after pages read good (Counter at point) (slabs, slabs_read, fault) =
      (pages, slabs, record { middle = middle; pages_read = read; slabs_read = slabs_read }, λ blocks shows holds. (good blocks shows, fault blocks holds))
  counts_fail_after pages read good Device fails = inr (pages, middle, read, fails)
  counts_fail_after pages read good Memory fails = tt
  counts_fail_after pages read good (Super fault) fails = absurd fails
  counts_fail_after pages read good (Window sequence) fails = absurd fails
  counts_fail_after pages read good (Page at fault) fails = absurd fails
  counts_fail_after pages read good (SharedPage at) fails = absurd fails
  counts_fail_after pages read good (Counts at stored mapped) fails = absurd fails
  counts_fail_after pages read good Unclean fails = absurd fails

  pub counts_fail : (map : RecoveredMap) (why : ImageFault) → IsMapRead trust head.geometry window before middle map
      → CountsFail trust head.geometry window.entries middle now why → AuditWithFails trust head window before now why
  counts_fail map why read fails =
      let found = read.found in counts_fail_after found.0 found.1 (λ blocks shows. (found.2 blocks shows).pages) why fails

  -- after a page that is shared
  pub shared_counts_fail : (at : Pbn) (why : ImageFault) → MapFails trust head.geometry window.entries before middle (SharedPage at)
      → CountsFail trust head.geometry window.entries middle now why → AuditWithFails trust head window before now why
  shared_counts_fail at why (pages, read, says) fails = counts_fail_after pages read (λ blocks shows. (says blocks shows).0) why fails

  pub still_shared : (at : Pbn) (counts : List ℕ) (sectors : List SectorPoints) → MapFails trust head.geometry window.entries before middle (SharedPage at)
      → AreCountsRead trust head.geometry window.entries middle now counts sectors → AuditWithFails trust head window before now (SharedPage at)
  still_shared at counts sectors (pages, read, says) (slabs, slabs_read, has) = (
    pages,
    slabs,
    record { middle = middle; pages_read = read; slabs_read = slabs_read },
    λ blocks shows holds. ((says blocks shows).0, (λ place inside. (slice_index counts (block_number head.geometry place), (has blocks holds).stored place inside)), (says blocks shows).1),
  )

-- What is said of a report that was made.
pub report_ok : {E : Type 0} (result : Result Report E) (A B C P : Report → Type 0) → IfOk result A → IfOk result B → IfOk result C → ((report : Report) → A report → B report → C report → P report) → IfOk result P
report_ok (Ok report) A B C P a b c follows = follows report a b c
report_ok (Err e) A B C P a b c follows = tt

pub report_with : (image : Image) (g : Geometry) (links : List Link) (mapped : List Pbn) (stored : List ℕ) (tallies : ℕ → ℕ) (report : Report) → image.geometry ≡ g → IsGeometry g
    → ArePagesGood image → AreUnshared image
    → ((link : Link) → Contains links link ↔ ((link.page.level + 1 < image.geometry.height) × (page_at image link.page ≡ Some link.at)))
    → ((block : Pbn) → times block mapped ≡ mapped_below (mapping_of image) block (address_count image.geometry))
    → length stored ≡ all_blocks image.geometry
    → ((place : DataPlace) → IsDataPlace image.geometry place → Stores image place (Ok (slice_index stored (block_number image.geometry place))))
    → AreNumbers g links mapped tallies → report.differs.items ≡ differences_below g stored tallies (all_blocks g) → report.used ≡ used_in stored → report.total ≡ all_blocks g
    → IsReport image report
report_with image g links mapped stored tallies report same sizes pages unshared all_links all_mapped size counts tallied list used all =
    is_report image (subst IsGeometry (sym same) sizes) links mapped stored tallies all_links all_mapped size counts (subst (λ (h : Geometry). AreNumbers h links mapped tallies) (sym same) tallied)
    report pages unshared (list ∙ ap (λ (h : Geometry). differences_below h stored tallies (all_blocks h)) (sym same)) used (all ∙ ap all_blocks (sym same))
