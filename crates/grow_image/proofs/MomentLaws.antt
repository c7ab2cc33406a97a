-- At each moment while an image grows, whatever a stop then leaves, it is as it was or has grown.
use Rattle.std.proofs.Common.{ℕ, ◌≡◌, ◌⊎◌, ◌<◌, ◌≤◌, Bool, true, false, List, [], ◌∷◌, ◌++◌, length, Ok, refl, sym, ◌∙◌, ap, subst, inl, inr, arith, append_assoc}
use Rattle.std.specs.List.{AllByRecursion}
use Rattle.blk_base.specs.Regions.{IndexBlock, block_of, needed_blocks}
use Rattle.blk_base.specs.Sectors.{sector, zero_block}
use Rattle.blk_base.proofs.RegionLaws.{inside}
use Rattle.blk_base.specs.declared.geometry.Geometry.{Geometry}
use Rattle.blk_base.specs.declared.geometry.Super.{Super}
use Rattle.disk_model.specs.declared.call.Call.{Call}
use Rattle.disk_model.specs.declared.call.Call.TheVariants.{Read, Write, Flush}
use Rattle.disk_model.specs.Images.{IsImage}
use Rattle.disk_model.specs.Log.{Blocks, Misses, block_at, contents, settled}
use Rattle.disk_model.specs.OneImages.{HasOneImageIn, IsImageIn}
use Rattle.disk_model.proofs.ImageLaws.{all_weaker, block_of_mix, contents-write_other, sector_of_mix, settled-write_other}
use Rattle.disk_model.proofs.LookedLaws.{image_in-all, one_in-is_image, one_in-later}
use Rattle.image_format.specs.Runs.{as_failed}
use Rattle.image_format.proofs.AfterLaws.{IsDone, after, after_flush_in}
use Rattle.image_format.proofs.StopLaws.{AtEach, all_behind, at_failure, at_moment, misses_failed, super_size, zero_size}
use Rattle.image_layout.specs.Opened.{super_of_image}
use Rattle.image_layout.specs.Superblock.{super_block, super_of}
use Rattle.image_layout.proofs.AgainLaws.{written_again}
use Rattle.image_model.proofs.LookedLaws.{looked_high, looked_low, one_by_sizes, one_by_super}
use Rattle.image_model.specs.Looked.{HasOneImageButIndex, is_looked_at}
use Rattle.image_model.specs.Sound.{IsSound}
use Rattle.recovery_laws.proofs.ContentLaws.{Puts, contents_are}
use Rattle.recovery_laws.proofs.SoundLaws.{room}
use Rattle.recovery_laws.proofs.SuperLaws.{first_of_image, first_sector_says}
use Rattle.recovery_laws.specs.Kept.{AreIndexMissed, image_in}
use Rattle.grow_image.proofs.GrownLaws.{is_grown}
use Rattle.grow_image.proofs.StillLaws.{none_new, same_super}
use Rattle.grow_image.proofs.PutLaws.{IsFullBlock, IsNewCall, IsPartBlock, new_behind, settled_full, writes_full, writes_right}
use Rattle.grow_image.specs.Calls.{grow_calls, more_slabs}
use Rattle.grow_image.specs.Kept.{AreNewEmpty, AreOldKept, AreStopsRight, IsGrown, IsToGrow, MayStand}
use Rattle.grow_image.specs.Sizes.{grown_sizes, grown_super}

module _ (base : Blocks) (sound : IsSound base) (logical slabs : ℕ) (to : IsToGrow base sound logical slabs)
    (whole : (b : ℕ) → b < length base → length (block_at base b) ≡ 4096) where
  abbrev g : Geometry
  g = sound.head.geometry

  abbrev g' : Geometry
  g' = grown_sizes g logical slabs

  enough : needed_blocks g ≤ length base
  enough = room base base sound

  some : 0 < length base
  some = let wide = enough in omega (arith, wide)

  abbrev WasKept : Blocks → Type 0
  WasKept now = IsGrown base sound g.logical g.slabs now

  abbrev Stands : List Call → Type 0
  Stands calls = (now : Blocks) → IsImageIn (is_looked_at g) base calls now → MayStand base sound logical slabs now

  -- Before the superblock is written.

  old_from : (calls : List Call) (now : Blocks) → IsImageIn (is_looked_at g) base calls now
      → ((b : ℕ) → 1 ≤ b → b < needed_blocks g → AllByRecursion (λ content. content ≡ block_at base b) (contents base calls b)) → AreOldKept (image_in base sound) now
  old_from calls now left all b behind below looked =
      let inside_too : b < length base = (let wide = enough in omega (arith, wide, below)) in
      block_of_mix (contents base calls b) (block_at base b) (block_at now b) (whole b inside_too) (left.whole b inside_too) (left.sectors b inside_too looked) (all b behind below)

  old_super : (now : Blocks) → length now ≡ length base → sector 0 (block_at now 0) ≡ sector 0 (block_at base 0) → super_of_image now ≡ Ok (grown_super sound.head g.logical g.slabs)
  old_super now size same =
      let wide = some in
      first_of_image now (omega (arith, size, wide)) ∙ first_sector_says (block_at now 0) (block_at base 0) (length now) same
      ∙ ap (super_of (block_at base 0)) size ∙ sym (first_of_image base some) ∙ sound.opens.accepted ∙ ap (λ (h : Super). Ok h) (same_super sound.head to.clean)

  as_it_was : (calls : List Call) (now : Blocks) → IsImageIn (is_looked_at g) base calls now
      → ((b : ℕ) → 1 ≤ b → b < needed_blocks g → AllByRecursion (λ content. content ≡ block_at base b) (contents base calls b))
      → sector 0 (block_at now 0) ≡ sector 0 (block_at base 0) → WasKept now
  as_it_was calls now left all first =
      is_grown base now sound to.clean g.logical g.slabs (record { logical_more = omega arith; slabs_more = omega arith }) left.size (old_from calls now left all) (none_new base sound now)
      (old_super now left.size first)

  abbrev Parts : List Call → Type 0
  Parts calls = AllByRecursion (Puts (IsPartBlock g logical slabs base)) calls

  part_all : (calls : List Call) → Parts calls → (b : ℕ) → b < needed_blocks g → AllByRecursion (λ content. content ≡ block_at base b) (contents base calls b)
  part_all calls parts b below =
      all_weaker (IsPartBlock g logical slabs base b) (λ content. content ≡ block_at base b) (contents base calls b) (λ content part. part below)
      (contents_are (IsPartBlock g logical slabs base) base calls b (λ inside_it. refl) parts)

  stands_part : (calls : List Call) → Parts calls → Stands calls
  stands_part calls parts now left =
      inl (as_it_was calls now left (λ b behind below. part_all calls parts b below)
      (sector_of_mix (λ (s : List ℕ). s ≡ sector 0 (block_at base 0)) (contents base calls 0) (block_at now 0) 0 (omega arith) (left.sectors 0 some (looked_low g 0 (omega arith)))
      (all_weaker (λ content. content ≡ block_at base 0) (λ content. sector 0 content ≡ sector 0 (block_at base 0)) (contents base calls 0) (λ content same. ap (sector 0) same)
      (part_all calls parts 0 (omega arith)))))

  failed_part : (call : Call) → Puts (IsPartBlock g logical slabs base) call → Puts (IsPartBlock g logical slabs base) (as_failed call)
  failed_part (Read _ _ _) part = tt
  failed_part (Write at bytes ok) part = part
  failed_part (Flush _) part = tt

  each_stands : (calls : List Call) → Parts calls → AtEach Stands calls
  each_stands [] parts = stands_part [] tt
  each_stands (call ∷ older) parts =
      (stands_part (call ∷ older) parts, stands_part (as_failed call ∷ older) (failed_part call parts.0, parts.1), each_stands older parts.1)

  puts_part : (calls : List Call) → AllByRecursion (Puts (IsFullBlock g logical slabs base)) calls → Parts calls
  puts_part [] full = tt
  puts_part (Read at bytes ok ∷ calls) full = (tt, puts_part calls full.1)
  puts_part (Flush ok ∷ calls) full = (tt, puts_part calls full.1)
  puts_part (Write at bytes ok ∷ calls) full = (full.0.old, puts_part calls full.1)

  -- While the superblock is written.

  abbrev slabs_written : List Call
  slabs_written = more_slabs sound.head logical slabs

  abbrev head_bytes : List ℕ
  head_bytes = super_block (grown_super sound.head logical slabs)

  abbrev flushed : List Call
  flushed = Flush true ∷ slabs_written

  abbrev writing : Bool → List Call
  writing ok = Write (record { 0 = 0 }) head_bytes ok ∷ flushed

  abbrev all_calls : List Call
  all_calls = grow_calls sound.head logical slabs

  full_puts : AllByRecursion (Puts (IsFullBlock g logical slabs base)) slabs_written
  full_puts = writes_full g logical slabs base to.more.slabs_more

  all_parts : Parts slabs_written
  all_parts = puts_part slabs_written full_puts

  full_settled : (b : ℕ) → AllByRecursion (IsFullBlock g logical slabs base b) (settled base slabs_written b)
  full_settled = settled_full g logical slabs base to.more.slabs_more

  new_super : (now : Blocks) → length now ≡ length base → sector 0 (block_at now 0) ≡ sector 0 head_bytes → super_of_image now ≡ Ok (grown_super sound.head logical slabs)
  new_super now size same =
      let wide = some in
      let fits = to.fits in
      first_of_image now (omega (arith, size, wide)) ∙ first_sector_says (block_at now 0) head_bytes (length now) same
      ∙ written_again (grown_super sound.head logical slabs) (length now) to.sizes to.named to.early.0 to.early.1 (omega (arith, size, fits))

  abbrev IsEither : List ℕ → Type 0
  IsEither bytes = (bytes ≡ sector 0 head_bytes) ⊎ (bytes ≡ sector 0 (block_at base 0))

  first_contents : (ok : Bool) → AllByRecursion (λ content. IsEither (sector 0 content)) (contents base (writing ok) 0)
  first_contents ok = (
    inl refl,
    all_weaker (IsFullBlock g logical slabs base 0) (λ content. IsEither (sector 0 content)) (settled base slabs_written 0)
        (λ content full. inr (ap (sector 0) (full.old (omega arith)))) (full_settled 0),
  )

  other_contents : (ok : Bool) (b : ℕ) → 1 ≤ b → AllByRecursion (IsFullBlock g logical slabs base b) (contents base (writing ok) b)
  other_contents ok b behind =
      subst (AllByRecursion (IsFullBlock g logical slabs base b)) (sym (contents-write_other base flushed (record { 0 = 0 }) head_bytes ok b (λ same. omega (arith, same, behind)))) (full_settled b)

  last_contents : (b : ℕ) → 1 ≤ b → AllByRecursion (IsFullBlock g logical slabs base b) (contents base all_calls b)
  last_contents b behind =
      subst (AllByRecursion (IsFullBlock g logical slabs base b)) (sym (settled-write_other base flushed (record { 0 = 0 }) head_bytes true b (λ same. omega (arith, same, behind)))) (full_settled b)

  -- with the new superblock it has grown, with the old one it is as it was
  module _ (calls : List Call) (now : Blocks) (left : IsImageIn (is_looked_at g) base calls now)
      (full : (b : ℕ) → 1 ≤ b → AllByRecursion (IsFullBlock g logical slabs base b) (contents base calls b)) where
    old_all : (b : ℕ) → 1 ≤ b → b < needed_blocks g → AllByRecursion (λ content. content ≡ block_at base b) (contents base calls b)
    old_all b behind below =
        all_weaker (IsFullBlock g logical slabs base b) (λ content. content ≡ block_at base b) (contents base calls b) (λ content is. is.old below) (full b behind)

    new_empty : AreNewEmpty (image_in base sound) logical slabs now
    new_empty place is new =
        let b = block_of g' place in
        let high = new_behind g logical slabs place new in
        let within = inside g' place is in
        let fits = to.fits in
        let below : b < length base = omega (arith, within, fits) in
        block_of_mix (contents base calls b) zero_block (block_at now b) zero_size (left.whole b below) (left.sectors b below (looked_high g b (omega (arith, high))))
        (all_weaker (IsFullBlock g logical slabs base b) (λ content. content ≡ zero_block) (contents base calls b) (λ content is_full. is_full.new place is new refl) (full b (omega (arith, high))))

    has_grown : sector 0 (block_at now 0) ≡ sector 0 head_bytes → IsGrown base sound logical slabs now
    has_grown first = is_grown base now sound to.clean logical slabs to.more left.size (old_from calls now left old_all) new_empty (new_super now left.size first)

    still_was : sector 0 (block_at now 0) ≡ sector 0 (block_at base 0) → WasKept now
    still_was first = as_it_was calls now left old_all first

  super_stands : (ok : Bool) → Stands (writing ok)
  super_stands ok now left =
      elim (sector_of_mix IsEither (contents base (writing ok) 0) (block_at now 0) 0 (omega arith) (left.sectors 0 some (looked_low g 0 (omega arith))) (first_contents ok)) [
        | inl new ↦ inr (has_grown (writing ok) now left (other_contents ok) new)
        | inr was ↦ inl (still_was (writing ok) now left (other_contents ok) was)
      ]

  -- and once it is flushed
  pub at_last : (now : Blocks) → IsImageIn (is_looked_at g) base all_calls now → IsGrown base sound logical slabs now
  at_last now left =
      has_grown all_calls now left last_contents
      (sector_of_mix (λ (s : List ℕ). s ≡ sector 0 head_bytes) (contents base all_calls 0) (block_at now 0) 0 (omega arith) (left.sectors 0 some (looked_low g 0 (omega arith))) (refl, tt))

  stands_unflushed : (calls : List Call) → Stands calls → Stands (Flush false ∷ calls)
  stands_unflushed calls stands now left = stands now (record { size = left.size; whole = left.whole; sectors = left.sectors })

  all_stand : AtEach Stands all_calls
  all_stand = (
    (λ now left. inr (at_last now left)),
    stands_unflushed (writing true) (super_stands true),
    (
      super_stands true,
      super_stands false,
      (stands_part flushed (tt, all_parts), stands_unflushed slabs_written (stands_part slabs_written all_parts), each_stands slabs_written all_parts),
    ),
  )

  -- The index isn't written.

  new_misses : (i : ℕ) → i < g.index → (calls : List Call) → AllByRecursion (IsNewCall g logical slabs) calls → AllByRecursion (λ call. Misses call (block_of g (IndexBlock i))) calls
  new_misses i below [] each = tt
  new_misses i below (Write at bytes true ∷ calls) each =
      ((λ same. let high = new_behind g logical slabs each.0.place each.0.new in let stands = each.0.stands in omega (arith, same, high, stands, below)), new_misses i below calls each.1)
  new_misses i below (Write at bytes false ∷ calls) each = absurd each.0
  new_misses i below (Read _ _ _ ∷ calls) each = absurd each.0
  new_misses i below (Flush _ ∷ calls) each = absurd each.0

  all_miss : (i : ℕ) → i < g.index → AllByRecursion (λ call. Misses call (block_of g (IndexBlock i))) all_calls
  all_miss i below = (tt, (λ same. omega (arith, same), (tt, new_misses i below slabs_written (writes_right g logical slabs base to.more.slabs_more))))

  -- On a device on which nothing was pending but in the index.

  module _ (opening : Blocks) (first : List Call) (one : HasOneImageButIndex opening first base) where
    by_sizes : HasOneImageIn (is_looked_at g) opening first base
    by_sizes = one_by_sizes base sound.head sound.opens.accepted opening first base one

    later_here : (older : List Call) (now : Blocks) → IsImage opening (older ++ first) now → IsImageIn (is_looked_at g) base older now
    later_here older now left = one_in-later (is_looked_at g) opening first older base now by_sizes (image_in-all (is_looked_at g) opening (older ++ first) now left)

    moment : (front calls newer older : List Call) (now : Blocks) → all_calls ≡ front ++ calls → calls ≡ newer ++ older → IsImage opening (older ++ first) now
        → MayStand base sound logical slabs now
    moment front calls newer older now parts same left =
        at_moment Stands all_calls (front ++ newer) older all_stand (parts ∙ ap (λ (list : List Call). front ++ list) same ∙ sym (append_assoc front newer older)) now (later_here older now left)

    behind : (front calls : List Call) → all_calls ≡ front ++ calls → AreIndexMissed g calls
    behind front calls parts i below =
        let P : Call → Type 0 = λ call. Misses call (block_of g (IndexBlock i)) in
        all_behind P front calls (subst (AllByRecursion P) parts (all_miss i below))

    -- all calls, or a first part of them
    pub stops : (front calls : List Call) → all_calls ≡ front ++ calls → AreStopsRight base sound logical slabs opening first calls
    stops front calls parts = record { stands = λ newer older now same left. moment front calls newer older now parts same left; index = behind front calls parts }

    -- and one more that failed
    failure : (front done newer older : List Call) (call : Call) (now : Blocks) → all_calls ≡ front ++ (call ∷ done) → as_failed call ∷ done ≡ newer ++ older
        → IsImage opening (older ++ first) now → MayStand base sound logical slabs now
    failure front done [] older call now parts same left =
        at_failure Stands all_calls front done call all_stand parts now
        (later_here (as_failed call ∷ done) now (subst (λ (calls : List Call). IsImage opening (calls ++ first) now) (sym same) left))
    failure front done (other ∷ newer) older call now parts same left =
        moment (front ++ (call ∷ [])) done newer older now (parts ∙ sym (append_assoc front (call ∷ []) done)) (cc same) left

    pub failures : (front done : List Call) (call : Call) → all_calls ≡ front ++ (call ∷ done) → AreStopsRight base sound logical slabs opening first (as_failed call ∷ done)
    failures front done call parts = record {
      stands = λ newer older now same left. failure front done newer older call now parts same left;
      index = λ i below.
          let all = behind front (call ∷ done) parts i below in
          (misses_failed call (block_of g (IndexBlock i)) all.0, all.1);
    }

    done_new : (calls : List Call) → AllByRecursion (IsNewCall g logical slabs) calls → AllByRecursion (IsDone (length base)) calls
    done_new [] each = tt
    done_new (Write at bytes true ∷ calls) each = (
      (
        let within = inside g' each.0.place each.0.there in
            let stands = each.0.stands in
            let fits = to.fits in
            omega (arith, within, stands, fits),
        ap length each.0.zeros ∙ zero_size,
      ),
      done_new calls each.1,
    )
    done_new (Write at bytes false ∷ calls) each = absurd each.0
    done_new (Read _ _ _ ∷ calls) each = absurd each.0
    done_new (Flush _ ∷ calls) each = absurd each.0

    -- afterwards nothing is pending but in the index
    pub at_last_one : (now : Blocks) × HasOneImageButIndex opening (all_calls ++ first) now × IsGrown base sound logical slabs now
    at_last_one =
        let calls = writing true in
        let done : AllByRecursion (IsDone (length base)) calls =
        ((some, super_size (grown_super sound.head logical slabs)), (tt, done_new slabs_written (writes_right g logical slabs base to.more.slabs_more))) in
        let now = after base calls in
        let only : HasOneImageIn (is_looked_at g) opening (all_calls ++ first) now = after_flush_in base whole opening first (is_looked_at g) calls done by_sizes in
        let grown : IsGrown base sound logical slabs now =
        at_last now (one_in-later (is_looked_at g) opening first all_calls base now by_sizes (one_in-is_image (is_looked_at g) opening (all_calls ++ first) now only)) in
        let accepted : super_of_image now ≡ Ok (grown_super sound.head logical slabs) = grown.grown.opens.accepted ∙ ap (λ (h : Super). Ok h) grown.head in
        (now, one_by_super now (grown_super sound.head logical slabs) accepted opening (all_calls ++ first) now (looked_alike now only), grown)
      where
        looked_alike : (now : Blocks) → HasOneImageIn (is_looked_at g) opening (all_calls ++ first) now → HasOneImageIn (is_looked_at g') opening (all_calls ++ first) now
        looked_alike now only = record { size = only.size; whole = only.whole; only = only.only }
