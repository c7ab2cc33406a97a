-- At each moment of a forced rebuild, whatever a stop then leaves, the image can be rebuilt and maps the same.
use Rattle.std.proofs.Common.{ℕ, ◌≡◌, ◌⊎◌, ◌+◌, ◌<◌, ◌≤◌, ◌^◌, Bool, true, false, List, [], ◌∷◌, ◌++◌, length, Ok, refl, sym, ◌∙◌, ap, subst, inl, inr, arith, append_assoc}
use Rattle.std.specs.List.{AllByRecursion}
use Rattle.blk_base.specs.Regions.{Place, IndexBlock, IsPlace, block_of, needed_blocks}
use Rattle.blk_base.specs.Sectors.{sector}
use Rattle.blk_base.proofs.RegionLaws.{apart, inside}
use Rattle.blk_base.specs.declared.geometry.Geometry.{Geometry}
use Rattle.blk_base.specs.declared.geometry.Super.{Super}
use Rattle.disk_model.specs.declared.call.Call.{Call}
use Rattle.disk_model.specs.declared.call.Call.TheVariants.{Read, Write, Flush}
use Rattle.disk_model.specs.Images.{IsImage}
use Rattle.disk_model.specs.Log.{Blocks, Misses, block_at, contents, settled}
use Rattle.disk_model.specs.OneImages.{HasOneImageIn, IsImageIn}
use Rattle.disk_model.proofs.ImageLaws.{all_weaker, contents-write_other, sector_of_mix, settled-write_other}
use Rattle.disk_model.proofs.LookedLaws.{image_in-all, one_in-is_image, one_in-later}
use Rattle.image_format.specs.Runs.{as_failed}
use Rattle.image_format.proofs.AfterLaws.{IsDone, after, after_flush_in}
use Rattle.image_format.proofs.StopLaws.{AtEach, all_append, all_behind, at_failure, at_moment, misses_failed, super_size}
use Rattle.image_layout.specs.Opened.{super_of_image}
use Rattle.image_layout.specs.Superblock.{super_block}
use Rattle.image_layout.proofs.AgainLaws.{written_again}
use Rattle.image_model.proofs.LookedLaws.{looked_low, one_by_sizes, one_by_super}
use Rattle.image_model.specs.Looked.{HasOneImageButIndex, is_looked_at}
use Rattle.image_model.specs.Maps.{Image}
use Rattle.recovery_laws.proofs.ContentLaws.{Puts, contents_are}
use Rattle.recovery_laws.proofs.OldLaws.{no_page_there}
use Rattle.recovery_laws.proofs.SuperLaws.{first_of_image, first_sector_says}
use Rattle.recovery_laws.specs.Kept.{AreIndexMissed, recovered_super}
use Rattle.rebuild.specs.Acts.{IsPageCall}
use Rattle.force_rebuild.proofs.PutLaws.{IsFullBlock, IsPartBlock, full_block_is_part, old_is_part, pages_part, settled_full, writes, writes_full}
use Rattle.force_rebuild.proofs.SlabLaws.{IsSlabCall, length-slab_block, slabs_right}
use Rattle.force_rebuild.proofs.SoundLaws.{here, known, rewritten_is_rebuilt, room, sizes, underway_is_kept}
use Rattle.force_rebuild.proofs.StopLaws.{full_image, full_is_underway, no_page_first, no_slab_first, page_inside, part_image}
use Rattle.force_rebuild.specs.Calls.{ArePagePuts, forced_calls, slabs_below}
use Rattle.force_rebuild.specs.Kept.{AreStopsKept, IsKept, IsRebuilt, IsSlabPlace}
use Rattle.force_rebuild.specs.Rebuildable.{IsRebuildable}
use Rattle.force_rebuild.specs.Written.{AreMappings, commit_behind}

-- No call writes the index.
module _ (blocks : Blocks) (is : IsRebuildable blocks) (i : ℕ) (below : i < is.head.geometry.index) where
  abbrev index_block : ℕ
  index_block = block_of is.head.geometry (IndexBlock i)

  pub page_misses : (call : Call) → IsPageCall (here blocks blocks is) call → Misses call index_block
  page_misses (Read _ _ _) page = tt
  page_misses (Flush _) page = absurd page
  page_misses (Write at bytes false) page = absurd page
  page_misses (Write at bytes true) page = λ same.
      no_page_there (here blocks blocks is) is.pages is.last (known blocks blocks is) (IndexBlock i) below tt (page.1.0, at, page.1.1, same)

  pub pages_miss : (calls : List Call) → AllByRecursion (IsPageCall (here blocks blocks is)) calls → AllByRecursion (λ call. Misses call index_block) calls
  pages_miss [] each = tt
  pages_miss (call ∷ calls) each = (page_misses call each.0, pages_miss calls each.1)

  index_is_no_slab : (place : Place) → IsPlace is.head.geometry place → IsSlabPlace place → block_of is.head.geometry place ≡ index_block → ⊥
  index_is_no_slab place there slab same = subst IsSlabPlace (apart is.head.geometry place (IndexBlock i) there below same) slab

  slabs_miss : (commit : ℕ) (counters : List ℕ) (calls : List Call) → AllByRecursion (IsSlabCall is.head.geometry commit counters) calls
      → AllByRecursion (λ call. Misses call index_block) calls
  slabs_miss commit counters [] each = tt
  slabs_miss commit counters (Write at bytes true ∷ calls) each =
      ((λ same. index_is_no_slab each.0.place each.0.there each.0.slab (each.0.stands ∙ same)), slabs_miss commit counters calls each.1)
  slabs_miss commit counters (Write at bytes false ∷ calls) each = absurd each.0
  slabs_miss commit counters (Read _ _ _ ∷ calls) each = absurd each.0
  slabs_miss commit counters (Flush _ ∷ calls) each = absurd each.0

  pub all_miss : (counters : List ℕ) (puts : List Call) → AllByRecursion (IsPageCall (here blocks blocks is)) puts
      → AllByRecursion (λ call. Misses call index_block) (forced_calls is.head.geometry is.last counters puts)
  all_miss counters puts each =
      let slabs = slabs_below is.head.geometry (commit_behind is.last) counters is.head.geometry.slabs in (
        tt,
        (
          λ same. omega (arith, same),
          (
            tt,
            all_append (λ call. Misses call index_block) slabs puts
                (slabs_miss (commit_behind is.last) counters slabs (slabs_right is.head.geometry (commit_behind is.last) counters)) (pages_miss puts each),
          ),
        ),
      )

module _ (blocks : Blocks) (is : IsRebuildable blocks) (named : is.head.geometry.nonce < 2 ^ 64)
    (whole : (b : ℕ) → b < length blocks → length (block_at blocks b) ≡ 4096) where
  abbrev image : Image
  image = here blocks blocks is

  abbrev g : Geometry
  g = is.head.geometry

  enough : needed_blocks g ≤ length blocks
  enough = room blocks blocks is

  some : 0 < length blocks
  some = let wide = enough in omega (arith, wide)

  abbrev Stands : List Call → Type 0
  Stands calls = (now : Blocks) → IsImageIn (is_looked_at g) blocks calls now → IsKept image now

  -- While the pages and the slabs are written.

  abbrev Parts : List Call → Type 0
  Parts calls = AllByRecursion (Puts (IsPartBlock blocks is named)) calls

  stands_part : (calls : List Call) → Parts calls → Stands calls
  stands_part calls parts now left =
      underway_is_kept blocks now is
      (part_image blocks is named whole calls now left (λ b. contents_are (IsPartBlock blocks is named) blocks calls b (old_is_part blocks is named b) parts))

  failed_part : (call : Call) → Puts (IsPartBlock blocks is named) call → Puts (IsPartBlock blocks is named) (as_failed call)
  failed_part (Read _ _ _) part = tt
  failed_part (Write at bytes ok) part = part
  failed_part (Flush _) part = tt

  each_stands : (calls : List Call) → Parts calls → AtEach Stands calls
  each_stands [] parts = stands_part [] tt
  each_stands (call ∷ older) parts =
      (stands_part (call ∷ older) parts, stands_part (as_failed call ∷ older) (failed_part call parts.0, parts.1), each_stands older parts.1)

  puts_part : (counters : List ℕ) (calls : List Call) → AllByRecursion (Puts (IsFullBlock blocks is named counters)) calls → Parts calls
  puts_part counters [] full = tt
  puts_part counters (Read at bytes ok ∷ calls) full = (tt, puts_part counters calls full.1)
  puts_part counters (Flush ok ∷ calls) full = (tt, puts_part counters calls full.1)
  puts_part counters (Write at bytes ok ∷ calls) full = (full_block_is_part blocks is named counters at.0 bytes full.0, puts_part counters calls full.1)

  -- pages alone, and one more call that failed
  pages_kept : (calls : List Call) → AllByRecursion (IsPageCall image) calls → AtEach Stands calls
  pages_kept calls each = each_stands calls (pages_part blocks is named calls each)

  cut_kept : (calls : List Call) (call : Call) → AllByRecursion (IsPageCall image) calls → IsPageCall image call → AtEach Stands (as_failed call ∷ calls)
  cut_kept calls call each kind =
      let parts = pages_part blocks is named (call ∷ calls) (kind, each) in
      each_stands (as_failed call ∷ calls) (failed_part call parts.0, parts.1)

  -- On a device on which nothing was pending but in the index.
  later_here : (opening : Blocks) (first older : List Call) (now : Blocks) → HasOneImageButIndex opening first blocks → IsImage opening (older ++ first) now
      → IsImageIn (is_looked_at g) blocks older now
  later_here opening first older now one left =
      one_in-later (is_looked_at g) opening first older blocks now (one_by_sizes blocks is.head is.accepted opening first blocks one)
      (image_in-all (is_looked_at g) opening (older ++ first) now left)

  each_kept : (opening : Blocks) (first calls newer older : List Call) (now : Blocks) → HasOneImageButIndex opening first blocks → AtEach Stands calls → calls ≡ newer ++ older
      → IsImage opening (older ++ first) now → IsKept image now
  each_kept opening first calls newer older now one each parts left =
      at_moment Stands calls newer older each parts now (later_here opening first older now one left)

  -- pages alone
  pub pages_stops : (opening : Blocks) (first calls : List Call) → HasOneImageButIndex opening first blocks → AllByRecursion (IsPageCall image) calls
      → AreStopsKept image opening first calls
  pages_stops opening first calls one each = record {
    kept = λ newer older now parts left. each_kept opening first calls newer older now one (pages_kept calls each) parts left;
    index = λ i below. pages_miss blocks is i below calls each;
  }

  -- and one more call that failed
  pub cut_stops : (opening : Blocks) (first calls : List Call) (call : Call) → HasOneImageButIndex opening first blocks → AllByRecursion (IsPageCall image) calls → IsPageCall image call
      → AreStopsKept image opening first (as_failed call ∷ calls)
  cut_stops opening first calls call one each kind = record {
    kept = λ newer older now parts left. each_kept opening first (as_failed call ∷ calls) newer older now one (cut_kept calls call each kind) parts left;
    index = λ i below. (misses_failed call (index_block blocks is i below) (page_misses blocks is i below call kind), pages_miss blocks is i below calls each);
  }

  -- While the superblock is written.

  module _ (counters : List ℕ) (are : AreMappings image counters) (more : is.last + 3 < 2 ^ 54) (puts : List Call) (paged : ArePagePuts image puts) where
    abbrev head_bytes : List ℕ
    head_bytes = super_block (recovered_super g is.last)

    abbrev all_writes : List Call
    all_writes = writes blocks is named counters puts paged

    abbrev flushed : List Call
    flushed = Flush true ∷ all_writes

    abbrev writing : Bool → List Call
    writing ok = Write (record { 0 = 0 }) head_bytes ok ∷ flushed

    all_parts : Parts all_writes
    all_parts = puts_part counters all_writes (writes_full blocks is named counters puts paged)

    accepted_now : (now : Blocks) → length now ≡ length blocks → sector 0 (block_at now 0) ≡ sector 0 head_bytes → super_of_image now ≡ Ok (recovered_super g is.last)
    accepted_now now size same =
        let wide = enough in
        let few = is.sequences in
        first_of_image now (omega (arith, size, wide)) ∙ first_sector_says (block_at now 0) head_bytes (length now) same
        ∙ written_again (recovered_super g is.last) (length now) (sizes blocks blocks is) named (omega arith) few (omega (arith, size, wide))

    abbrev IsEither : List ℕ → Type 0
    IsEither bytes = (bytes ≡ sector 0 head_bytes) ⊎ (bytes ≡ sector 0 (block_at blocks 0))

    first_contents : (ok : Bool) → AllByRecursion (λ content. IsEither (sector 0 content)) (contents blocks (writing ok) 0)
    first_contents ok = (
      inl refl,
      all_weaker (IsFullBlock blocks is named counters 0) (λ content. IsEither (sector 0 content)) (settled blocks all_writes 0)
          (λ content full. inr (ap (sector 0) (full.other (no_page_first blocks is) (no_slab_first blocks is)))) (settled_full blocks is named counters puts paged 0),
    )

    other_contents : (ok : Bool) (b : ℕ) → 1 ≤ b → AllByRecursion (IsFullBlock blocks is named counters b) (contents blocks (writing ok) b)
    other_contents ok b behind =
        subst (AllByRecursion (IsFullBlock blocks is named counters b)) (sym (contents-write_other blocks flushed (record { 0 = 0 }) head_bytes ok b (λ same. omega (arith, same, behind))))
        (settled_full blocks is named counters puts paged b)

    super_stands : (ok : Bool) → Stands (writing ok)
    super_stands ok now left =
        let full = full_image blocks is named whole (writing ok) now left counters (other_contents ok) in
        elim (sector_of_mix IsEither (contents blocks (writing ok) 0) (block_at now 0) 0 (omega arith) (left.sectors 0 some (looked_low g 0 (omega arith))) (first_contents ok)) [
          | inl new ↦ (rewritten_is_rebuilt blocks now is counters are full (accepted_now now left.size new) more).kept
          | inr was ↦ underway_is_kept blocks now is (full_is_underway blocks is counters now full was)
        ]

    -- and once it is flushed
    pub at_last : (now : Blocks) → IsImageIn (is_looked_at g) blocks (forced_calls g is.last counters puts) now → IsRebuilt image is.last now
    at_last now left =
        rewritten_is_rebuilt blocks now is counters are
        (full_image blocks is named whole (forced_calls g is.last counters puts) now left counters
        (λ b behind. subst (AllByRecursion (IsFullBlock blocks is named counters b))
        (sym (settled-write_other blocks flushed (record { 0 = 0 }) head_bytes true b (λ same. omega (arith, same, behind)))) (settled_full blocks is named counters puts paged b)))
        (accepted_now now left.size
        (sector_of_mix (λ (s : List ℕ). s ≡ sector 0 head_bytes) (contents blocks (forced_calls g is.last counters puts) 0) (block_at now 0) 0 (omega arith) (left.sectors 0 some (looked_low g 0 (omega arith))) (refl, tt)))
        more

    stands_unflushed : (calls : List Call) → Stands calls → Stands (Flush false ∷ calls)
    stands_unflushed calls stands now left = stands now (record { size = left.size; whole = left.whole; sectors = left.sectors })

    forced_stands : AtEach Stands (forced_calls g is.last counters puts)
    forced_stands = (
      (λ now left. (at_last now left).kept),
      stands_unflushed (writing true) (super_stands true),
      (
        super_stands true,
        super_stands false,
        (stands_part flushed (tt, all_parts), stands_unflushed all_writes (stands_part all_writes all_parts), each_stands all_writes all_parts),
      ),
    )

    -- On a device on which nothing was pending but in the index.

    module _ (opening : Blocks) (first : List Call) (one : HasOneImageButIndex opening first blocks) where
      moment_kept : (newer older : List Call) (now : Blocks) → forced_calls g is.last counters puts ≡ newer ++ older → IsImage opening (older ++ first) now → IsKept image now
      moment_kept newer older now parts left =
          at_moment Stands (forced_calls g is.last counters puts) newer older forced_stands parts now (later_here opening first older now one left)

      failure_kept : (newer done : List Call) (call : Call) (now : Blocks) → forced_calls g is.last counters puts ≡ newer ++ (call ∷ done)
          → IsImage opening ((as_failed call ∷ done) ++ first) now → IsKept image now
      failure_kept newer done call now parts left =
          at_failure Stands (forced_calls g is.last counters puts) newer done call forced_stands parts now
          (later_here opening first (as_failed call ∷ done) now one left)

      stop_kept : (front calls newer older : List Call) (now : Blocks) → forced_calls g is.last counters puts ≡ front ++ calls → calls ≡ newer ++ older → IsImage opening (older ++ first) now
          → IsKept image now
      stop_kept front calls newer older now parts same left =
          moment_kept (front ++ newer) older now (parts ∙ ap (λ (list : List Call). front ++ list) same ∙ sym (append_assoc front newer older)) left

      cut_off_kept : (front done newer older : List Call) (call : Call) (now : Blocks) → forced_calls g is.last counters puts ≡ front ++ (call ∷ done) → as_failed call ∷ done ≡ newer ++ older
          → IsImage opening (older ++ first) now → IsKept image now
      cut_off_kept front done [] older call now parts same left =
          failure_kept front done call now parts (subst (λ (calls : List Call). IsImage opening (calls ++ first) now) (sym same) left)
      cut_off_kept front done (other ∷ newer) older call now parts same left =
          stop_kept (front ++ (call ∷ [])) done newer older now (parts ∙ sym (append_assoc front (call ∷ []) done)) (cc same) left

      behind : (front calls : List Call) → forced_calls g is.last counters puts ≡ front ++ calls → AreIndexMissed g calls
      behind front calls parts i below =
          let P : Call → Type 0 = λ call. Misses call (block_of g (IndexBlock i)) in
          all_behind P front calls (subst (AllByRecursion P) parts (all_miss blocks is i below counters puts paged.each))

      -- all calls, or a first part of them
      pub stops : (front calls : List Call) → forced_calls g is.last counters puts ≡ front ++ calls → AreStopsKept image opening first calls
      stops front calls parts = record {
        kept = λ newer older now same left. stop_kept front calls newer older now parts same left;
        index = behind front calls parts;
      }

      -- and one more that failed
      pub failures : (front done : List Call) (call : Call) → forced_calls g is.last counters puts ≡ front ++ (call ∷ done) → AreStopsKept image opening first (as_failed call ∷ done)
      failures front done call parts = record {
        kept = λ newer older now same left. cut_off_kept front done newer older call now parts same left;
        index = λ i below.
            let all = behind front (call ∷ done) parts i below in
            (misses_failed call (block_of g (IndexBlock i)) all.0, all.1);
      }

      done_pages : (calls : List Call) → AllByRecursion (IsPageCall image) calls → AllByRecursion (IsDone (length blocks)) calls
      done_pages [] each = tt
      done_pages (Write at bytes true ∷ calls) each = ((page_inside blocks is each.0.1.0 at each.0.1.1, each.0.0), done_pages calls each.1)
      done_pages (Write at bytes false ∷ calls) each = absurd each.0
      done_pages (Read _ _ _ ∷ calls) each = (tt, done_pages calls each.1)
      done_pages (Flush _ ∷ calls) each = absurd each.0

      done_slabs : (calls : List Call) → AllByRecursion (IsSlabCall g (commit_behind is.last) counters) calls → AllByRecursion (IsDone (length blocks)) calls
      done_slabs [] each = tt
      done_slabs (Write at bytes true ∷ calls) each = (
        (
          let wide = enough in
              let within = inside g each.0.place each.0.there in
              let stands = each.0.stands in
              omega (arith, within, stands, wide),
          ap length each.0.made ∙ length-slab_block g (commit_behind is.last) counters each.0.place,
        ),
        done_slabs calls each.1,
      )
      done_slabs (Write at bytes false ∷ calls) each = absurd each.0
      done_slabs (Read _ _ _ ∷ calls) each = absurd each.0
      done_slabs (Flush _ ∷ calls) each = absurd each.0

      pub at_last_one : (now : Blocks) × HasOneImageButIndex opening (forced_calls g is.last counters puts ++ first) now × IsRebuilt image is.last now
      at_last_one =
          let calls = Write (record { 0 = 0 }) head_bytes true ∷ flushed in
          let slabs = slabs_below g (commit_behind is.last) counters g.slabs in
          let done : AllByRecursion (IsDone (length blocks)) calls = (
            (some, super_size (recovered_super g is.last)),
            (tt, all_append (IsDone (length blocks)) slabs puts (done_slabs slabs (slabs_right g (commit_behind is.last) counters)) (done_pages puts paged.each)),
          ) in
          let now = after blocks calls in
          let by_sizes : HasOneImageIn (is_looked_at g) opening first blocks = one_by_sizes blocks is.head is.accepted opening first blocks one in
          let only : HasOneImageIn (is_looked_at g) opening (forced_calls g is.last counters puts ++ first) now =
          after_flush_in blocks whole opening first (is_looked_at g) calls done by_sizes in
          let rebuilt : IsRebuilt image is.last now =
          at_last now
          (one_in-later (is_looked_at g) opening first (forced_calls g is.last counters puts) blocks now by_sizes
          (one_in-is_image (is_looked_at g) opening (forced_calls g is.last counters puts ++ first) now only)) in
          let accepted : super_of_image now ≡ Ok (recovered_super g is.last) = rebuilt.sound.opens.accepted ∙ ap (λ (h : Super). Ok h) rebuilt.closed in
          (now, one_by_super now (recovered_super g is.last) accepted opening (forced_calls g is.last counters puts ++ first) now only, rebuilt)
