-- At each moment of recovery, whatever a stop then leaves, the image is what it is shown to be while it is recovered.
use Rattle.std.proofs.Common.{ℕ, ◌≡◌, ◌⊎◌, ◌<◌, ◌≤◌, ◌^◌, Bool, true, false, List, [], ◌∷◌, ◌++◌, length, Ok, refl, sym, ◌∙◌, ap, subst, inl, inr, arith}
use Rattle.std.specs.List.{AllByRecursion}
use Rattle.blk_base.specs.Regions.{IndexBlock, ReferenceBlock, block_of, needed_blocks}
use Rattle.blk_base.specs.Sectors.{sector}
use Rattle.blk_base.proofs.RegionLaws.{apart, inside}
use Rattle.blk_base.specs.declared.geometry.Geometry.{Geometry}
use Rattle.disk_model.specs.declared.call.Call.{Call}
use Rattle.disk_model.specs.declared.call.Call.TheVariants.{Read, Write, Flush}
use Rattle.disk_model.specs.Images.{IsImage}
use Rattle.disk_model.specs.Log.{Blocks, Misses, block_at, contents, settled}
use Rattle.disk_model.specs.OneImages.{HasOneImageIn, IsImageIn}
use Rattle.disk_model.proofs.ImageLaws.{all_weaker, contents-write_other, sector_of_mix, settled-write_other}
use Rattle.disk_model.proofs.LookedLaws.{image_in-all, one_in-is_image, one_in-later}
use Rattle.image_format.specs.Runs.{as_failed}
use Rattle.image_format.proofs.AfterLaws.{IsDone, after, after_flush_in}
use Rattle.image_format.proofs.StopLaws.{AtEach, at_failure, at_moment, super_size}
use Rattle.image_layout.specs.Opened.{super_of_image}
use Rattle.image_layout.specs.Superblock.{super_block}
use Rattle.image_layout.proofs.AgainLaws.{written_again}
use Rattle.image_model.proofs.EmptyLaws.{sizes_of_image}
use Rattle.image_model.proofs.LookedLaws.{looked_low, one_by_sizes, one_by_super}
use Rattle.image_model.specs.Looked.{HasOneImageButIndex, is_looked_at}
use Rattle.image_model.specs.Maps.{Image}
use Rattle.recovery_laws.specs.Calls.{ArePuts, IsPut, recovery_calls}
use Rattle.recovery_laws.specs.Kept.{recovered_super}
use Rattle.recovery_laws.specs.Recoverable.{IsRecoverable, recoverable_image}
use Rattle.recovery_laws.specs.Written.{AreFull, AreUnderway}
use Rattle.recovery_laws.proofs.ContentLaws.{Puts, contents_are}
use Rattle.recovery_laws.proofs.PutLaws.{IsFullBlock, IsPartBlock, old_is_part, puts_full, puts_part, settled_full}
use Rattle.recovery_laws.proofs.OldLaws.{no_page_there}
use Rattle.recovery_laws.proofs.RecoverableLaws.{here, known, room}
use Rattle.recovery_laws.proofs.StopLaws.{full_image, full_is_underway, no_counters_first, no_page_first, page_inside, part_image}
use Rattle.recovery_laws.proofs.SuperLaws.{first_of_image, first_sector_says}

-- What is shown of each image on the way, and of one behind it.
pub record Shows (blocks : Blocks) (able : IsRecoverable blocks) : Type 1 where
  pub Kept : Blocks → Type 0
  pub Closed : Blocks → Type 0
  pub part : (now : Blocks) → AreUnderway (recoverable_image blocks able) now → Kept now
  pub full : (now : Blocks) → AreFull (recoverable_image blocks able) now → super_of_image now ≡ Ok (recovered_super able.head.geometry able.last) → Closed now
  pub kept : (now : Blocks) → Closed now → Kept now

-- No write of it is one to the index.
module _ (blocks : Blocks) (able : IsRecoverable blocks) (i : ℕ) (below : i < able.head.geometry.index) where
  pub put_misses : (call : Call) → IsPut (here blocks blocks able) call → Misses call (block_of able.head.geometry (IndexBlock i))
  put_misses (Read _ _ _) is = tt
  put_misses (Flush _) is = absurd is
  put_misses (Write at bytes false) is = absurd is
  put_misses (Write at bytes true) is = λ same. elim is.1 [
    | inl page ↦ no_page_there (here blocks blocks able) able.pages able.last (known blocks blocks able) (IndexBlock i) below tt (page.0, at, page.1, same)
    | inr counters ↦
        let one = apart able.head.geometry (ReferenceBlock counters.slab counters.i) (IndexBlock i) counters.inside below (counters.stands ∙ same) in absurd (cc one)
  ]

  pub puts_miss : (calls : List Call) → AllByRecursion (IsPut (here blocks blocks able)) calls → AllByRecursion (λ call. Misses call (block_of able.head.geometry (IndexBlock i))) calls
  puts_miss [] each = tt
  puts_miss (call ∷ calls) each = (put_misses call each.0, puts_miss calls each.1)

module _ (blocks : Blocks) (able : IsRecoverable blocks) (named : able.head.geometry.nonce < 2 ^ 64) (unclean : able.head.clean ≡ false)
    (whole : (b : ℕ) → b < length blocks → length (block_at blocks b) ≡ 4096) (shows : Shows blocks able) where
  abbrev image : Image
  image = here blocks blocks able

  abbrev g : Geometry
  g = able.head.geometry

  enough : needed_blocks g ≤ length blocks
  enough = room blocks blocks able

  some : 0 < length blocks
  some = let wide = enough in omega (arith, wide)

  abbrev Stands : List Call → Type 0
  Stands calls = (now : Blocks) → IsImageIn (is_looked_at g) blocks calls now → shows.Kept now

  -- While the pages and the counters are written.

  abbrev Parts : List Call → Type 0
  Parts calls = AllByRecursion (Puts (IsPartBlock blocks able named)) calls

  stands_part : (calls : List Call) → Parts calls → Stands calls
  stands_part calls parts now is =
      shows.part now
      (part_image blocks able named whole calls now is (λ b. contents_are (IsPartBlock blocks able named) blocks calls b (old_is_part blocks able named b) parts))

  failed_part : (call : Call) → Puts (IsPartBlock blocks able named) call → Puts (IsPartBlock blocks able named) (as_failed call)
  failed_part (Read _ _ _) part = tt
  failed_part (Write at bytes ok) part = part
  failed_part (Flush _) part = tt

  each_stands : (calls : List Call) → Parts calls → AtEach Stands calls
  each_stands [] parts = stands_part [] tt
  each_stands (call ∷ older) parts =
      (stands_part (call ∷ older) parts, stands_part (as_failed call ∷ older) (failed_part call parts.0, parts.1), each_stands older parts.1)

  -- a first part of the writes, and one more call that failed
  pub part_kept : (calls : List Call) → AllByRecursion (IsPut image) calls → AtEach Stands calls
  part_kept calls each = each_stands calls (puts_part blocks able named calls (puts_full blocks able named calls each))

  pub cut_kept : (calls : List Call) (call : Call) → AllByRecursion (IsPut image) calls → IsPut image call ⊎ (call ≡ Flush true) → AtEach Stands (as_failed call ∷ calls)
  cut_kept calls call each (inl is) =
      let full = puts_full blocks able named (call ∷ calls) (is, each) in
      each_stands (as_failed call ∷ calls) (failed_part call (puts_part blocks able named (call ∷ calls) full).0, puts_part blocks able named calls full.1)
  cut_kept calls call each (inr is) =
      subst (λ (other : Call). AtEach Stands (as_failed other ∷ calls)) (sym is) (each_stands (Flush false ∷ calls) (tt, puts_part blocks able named calls (puts_full blocks able named calls each)))

  -- On a device on which nothing was pending but in the index.
  later_here : (opening : Blocks) (first older : List Call) (now : Blocks) → HasOneImageButIndex opening first blocks → IsImage opening (older ++ first) now
      → IsImageIn (is_looked_at g) blocks older now
  later_here opening first older now one is =
      one_in-later (is_looked_at g) opening first older blocks now (one_by_sizes blocks able.head able.opens.accepted opening first blocks one)
      (image_in-all (is_looked_at g) opening (older ++ first) now is)

  pub each_kept : (opening : Blocks) (first calls newer older : List Call) (now : Blocks) → HasOneImageButIndex opening first blocks → AtEach Stands calls → calls ≡ newer ++ older
      → IsImage opening (older ++ first) now → shows.Kept now
  each_kept opening first calls newer older now one each parts is =
      at_moment Stands calls newer older each parts now (later_here opening first older now one is)

  -- While the superblock is written.

  module _ (puts : List Call) (are : ArePuts image puts) where
    abbrev head_bytes : List ℕ
    head_bytes = super_block (recovered_super g able.last)

    abbrev flushed : List Call
    flushed = Flush true ∷ puts

    abbrev writing : Bool → List Call
    writing ok = Write (record { 0 = 0 }) head_bytes ok ∷ flushed

    all_parts : Parts puts
    all_parts = puts_part blocks able named puts (puts_full blocks able named puts are.each)

    accepted_now : (now : Blocks) → length now ≡ length blocks → sector 0 (block_at now 0) ≡ sector 0 head_bytes → super_of_image now ≡ Ok (recovered_super g able.last)
    accepted_now now size same =
        let wide = enough in
        let few = able.opens.sequences unclean in
        first_of_image now (omega (arith, size, wide)) ∙ first_sector_says (block_at now 0) head_bytes (length now) same
        ∙ written_again (recovered_super g able.last) (length now) (sizes_of_image blocks able.head able.opens.accepted) named (omega arith) few (omega (arith, size, wide))

    abbrev IsEither : List ℕ → Type 0
    IsEither bytes = (bytes ≡ sector 0 head_bytes) ⊎ (bytes ≡ sector 0 (block_at blocks 0))

    first_contents : (ok : Bool) → AllByRecursion (λ content. IsEither (sector 0 content)) (contents blocks (writing ok) 0)
    first_contents ok = (
      inl refl,
      all_weaker (IsFullBlock blocks able named 0) (λ content. IsEither (sector 0 content)) (settled blocks puts 0)
          (λ content full. inr (ap (sector 0) (full.other (no_page_first blocks able named) (no_counters_first blocks able named)))) (settled_full blocks able named puts are 0),
    )

    other_contents : (ok : Bool) (b : ℕ) → 1 ≤ b → AllByRecursion (IsFullBlock blocks able named b) (contents blocks (writing ok) b)
    other_contents ok b behind =
        subst (AllByRecursion (IsFullBlock blocks able named b)) (sym (contents-write_other blocks flushed (record { 0 = 0 }) head_bytes ok b (λ same. omega (arith, same, behind))))
        (settled_full blocks able named puts are b)

    super_stands : (ok : Bool) → Stands (writing ok)
    super_stands ok now is =
        let full = full_image blocks able named whole (writing ok) now is (other_contents ok) in
        elim (sector_of_mix IsEither (contents blocks (writing ok) 0) (block_at now 0) 0 (omega arith) (is.sectors 0 some (looked_low g 0 (omega arith))) (first_contents ok)) [
          | inl new ↦ shows.kept now (shows.full now full (accepted_now now is.size new))
          | inr was ↦ shows.part now (full_is_underway blocks able named now full was)
        ]

    -- and once it is flushed
    last_full : (now : Blocks) → IsImageIn (is_looked_at g) blocks (recovery_calls image able.last puts) now → AreFull image now
    last_full now is =
        full_image blocks able named whole (recovery_calls image able.last puts) now is
        (λ b behind. subst (AllByRecursion (IsFullBlock blocks able named b))
        (sym (settled-write_other blocks flushed (record { 0 = 0 }) head_bytes true b (λ same. omega (arith, same, behind)))) (settled_full blocks able named puts are b))

    last_accepted : (now : Blocks) → IsImageIn (is_looked_at g) blocks (recovery_calls image able.last puts) now → super_of_image now ≡ Ok (recovered_super g able.last)
    last_accepted now is =
        accepted_now now is.size
        (sector_of_mix (λ (s : List ℕ). s ≡ sector 0 head_bytes) (contents blocks (recovery_calls image able.last puts) 0) (block_at now 0) 0 (omega arith) (is.sectors 0 some (looked_low g 0 (omega arith))) (refl, tt))

    at_last : (now : Blocks) → IsImageIn (is_looked_at g) blocks (recovery_calls image able.last puts) now → shows.Closed now
    at_last now is = shows.full now (last_full now is) (last_accepted now is)

    stands_unflushed : (calls : List Call) → Stands calls → Stands (Flush false ∷ calls)
    stands_unflushed calls stands now is = stands now (record { size = is.size; whole = is.whole; sectors = is.sectors })

    pub recovery_stands : AtEach Stands (recovery_calls image able.last puts)
    recovery_stands = (
      (λ now is. shows.kept now (at_last now is)),
      stands_unflushed (writing true) (super_stands true),
      (
        super_stands true,
        super_stands false,
        (stands_part flushed (tt, all_parts), stands_unflushed puts (stands_part puts all_parts), each_stands puts all_parts),
      ),
    )

    -- On a device on which nothing was pending but in the index.

    module _ (opening : Blocks) (first : List Call) (one : HasOneImageButIndex opening first blocks) where
      pub moment_kept : (newer older : List Call) (now : Blocks) → recovery_calls image able.last puts ≡ newer ++ older → IsImage opening (older ++ first) now → shows.Kept now
      moment_kept newer older now parts is =
          at_moment Stands (recovery_calls image able.last puts) newer older recovery_stands parts now (later_here opening first older now one is)

      pub failure_kept : (newer done : List Call) (call : Call) (now : Blocks) → recovery_calls image able.last puts ≡ newer ++ (call ∷ done)
          → IsImage opening ((as_failed call ∷ done) ++ first) now → shows.Kept now
      failure_kept newer done call now parts is =
          at_failure Stands (recovery_calls image able.last puts) newer done call recovery_stands parts now
          (later_here opening first (as_failed call ∷ done) now one is)

      done_puts : (calls : List Call) → AllByRecursion (IsPut image) calls → AllByRecursion (IsDone (length blocks)) calls
      done_puts [] each = tt
      done_puts (Write at bytes true ∷ calls) each = (
        (
          elim each.0.1 [
            | inl page ↦ page_inside blocks able named page.0 at page.1
            | inr counters ↦
                let wide = enough in
                let within = inside g (ReferenceBlock counters.slab counters.i) counters.inside in
                let stands = counters.stands in
                omega (arith, within, stands, wide)
          ],
          each.0.0,
        ),
        done_puts calls each.1,
      )
      done_puts (Write at bytes false ∷ calls) each = absurd each.0
      done_puts (Read _ _ _ ∷ calls) each = (tt, done_puts calls each.1)
      done_puts (Flush _ ∷ calls) each = absurd each.0

      pub at_last_one : (now : Blocks) × HasOneImageButIndex opening (recovery_calls image able.last puts ++ first) now × shows.Closed now
      at_last_one =
          let calls = Write (record { 0 = 0 }) head_bytes true ∷ flushed in
          let done : AllByRecursion (IsDone (length blocks)) calls = ((some, super_size (recovered_super g able.last)), (tt, done_puts puts are.each)) in
          let now = after blocks calls in
          let here : HasOneImageIn (is_looked_at g) opening first blocks = one_by_sizes blocks able.head able.opens.accepted opening first blocks one in
          let only : HasOneImageIn (is_looked_at g) opening (recovery_calls image able.last puts ++ first) now =
          after_flush_in blocks whole opening first (is_looked_at g) calls done here in
          let is : IsImageIn (is_looked_at g) blocks (recovery_calls image able.last puts) now =
          one_in-later (is_looked_at g) opening first (recovery_calls image able.last puts) blocks now here
          (one_in-is_image (is_looked_at g) opening (recovery_calls image able.last puts ++ first) now only) in
          (now, one_by_super now (recovered_super g able.last) (last_accepted now is) opening (recovery_calls image able.last puts ++ first) now only, at_last now is)
