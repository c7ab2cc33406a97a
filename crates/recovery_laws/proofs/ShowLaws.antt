-- What is shown of each image on the way holds at each moment of a recovery.
use Rattle.std.proofs.Common.{ℕ, ◌≡◌, ◌⊎◌, ◌<◌, true, List, [], ◌∷◌, ◌++◌, length, refl, sym, ◌∙◌, ap, subst, inl, inr, arith, append_assoc}
use Rattle.std.specs.List.{AllByRecursion}
use Rattle.blk_base.specs.Regions.{IndexBlock, block_of}
use Rattle.disk_model.specs.declared.call.Call.{Call}
use Rattle.disk_model.specs.declared.call.Call.TheVariants.{Flush}
use Rattle.disk_model.specs.Images.{IsImage}
use Rattle.disk_model.specs.Log.{Blocks, Misses, block_at}
use Rattle.image_format.specs.Runs.{as_failed}
use Rattle.image_format.proofs.StopLaws.{all_behind, misses_failed}
use Rattle.image_model.specs.Looked.{HasOneImageButIndex}
use Rattle.image_model.specs.Maps.{Image}
use Rattle.recovery_laws.specs.Calls.{ArePuts, IsBegun, IsPut, call_failed, first_calls, put_failed, some_puts, recovery_calls}
use Rattle.recovery_laws.specs.Kept.{AreIndexMissed}
use Rattle.recovery_laws.specs.Recoverable.{AreStopsStill, HasRecoverable, IsClosedStill, IsRecoverable, StillSays, recoverable_image}
use Rattle.recovery_laws.proofs.CallLaws.{Shows, at_last_one, cut_kept, each_kept, failure_kept, moment_kept, part_kept, put_misses, puts_miss}
use Rattle.recovery_laws.proofs.RecoverableLaws.{full_closed, underway_still}

-- so at each moment since the log was the first one, and the index is missed
pub record StopsShow (blocks : Blocks) (able : IsRecoverable blocks) (shows : Shows blocks able) (opening : Blocks) (first calls : List Call) : Type 0 where
  pub kept : (newer older : List Call) (now : Blocks) → calls ≡ newer ++ older → IsImage opening (older ++ first) now → shows.Kept now
  pub index : AreIndexMissed able.head.geometry calls

-- While not all writes are made.
module _ (opening blocks : Blocks) (first calls : List Call) (to : HasRecoverable opening first blocks) (shows : Shows blocks to.is) (each : AllByRecursion (IsPut (recoverable_image blocks to.is)) calls) where
  whole_blocks : (b : ℕ) → b < length blocks → length (block_at blocks b) ≡ 4096
  whole_blocks b below = to.one.whole b (let size = to.one.size in omega (arith, size, below))

  pub parts : StopsShow blocks to.is shows opening first calls
  parts = record {
    kept = λ newer older now same is.
        each_kept blocks to.is to.named to.unclean whole_blocks shows opening first calls newer older now to.one
        (part_kept blocks to.is to.named to.unclean whole_blocks shows calls each) same is;
    index = λ i below. puts_miss blocks to.is i below calls each;
  }

  cut_misses : (i : ℕ) → i < to.is.head.geometry.index → (call : Call) → IsPut (recoverable_image blocks to.is) call ⊎ (call ≡ Flush true)
      → Misses (as_failed call) (block_of to.is.head.geometry (IndexBlock i))
  cut_misses i below call (inl is) = misses_failed call (block_of to.is.head.geometry (IndexBlock i)) (put_misses blocks to.is i below call is)
  cut_misses i below call (inr is) = subst (λ (other : Call). Misses (as_failed other) (block_of to.is.head.geometry (IndexBlock i))) (sym is) tt

  pub cut : (call : Call) → IsPut (recoverable_image blocks to.is) call ⊎ (call ≡ Flush true) → StopsShow blocks to.is shows opening first (as_failed call ∷ calls)
  cut call kind = record {
    kept = λ newer older now same is.
        each_kept blocks to.is to.named to.unclean whole_blocks shows opening first (as_failed call ∷ calls) newer older now to.one
        (cut_kept blocks to.is to.named to.unclean whole_blocks shows calls call each kind) same is;
    index = λ i below. (cut_misses i below call kind, puts_miss blocks to.is i below calls each);
  }

module _ (opening blocks : Blocks) (first puts : List Call) (to : HasRecoverable opening first blocks) (shows : Shows blocks to.is) (are : ArePuts (recoverable_image blocks to.is) puts) where
  abbrev image : Image
  image = recoverable_image blocks to.is

  abbrev all_calls : List Call
  all_calls = recovery_calls image to.is.last puts

  whole : (b : ℕ) → b < length blocks → length (block_at blocks b) ≡ 4096
  whole b below = to.one.whole b (let size = to.one.size in omega (arith, size, below))

  -- none of the calls writes the index
  misses : (i : ℕ) → i < image.geometry.index → AllByRecursion (λ call. Misses call (block_of image.geometry (IndexBlock i))) all_calls
  misses i below = (tt, (λ same. omega (arith, same), (tt, puts_miss blocks to.is i below puts are.each)))

  behind : (front calls : List Call) → all_calls ≡ front ++ calls → AreIndexMissed image.geometry calls
  behind front calls parts i below =
      let P : Call → Type 0 = λ call. Misses call (block_of image.geometry (IndexBlock i)) in
      all_behind P front calls (subst (AllByRecursion P) parts (misses i below))

  moment : (front calls : List Call) → all_calls ≡ front ++ calls → (newer older : List Call) (now : Blocks) → calls ≡ newer ++ older → IsImage opening (older ++ first) now → shows.Kept now
  moment front calls parts newer older now same is =
      moment_kept blocks to.is to.named to.unclean whole shows puts are opening first to.one (front ++ newer) older now
      (parts ∙ ap (λ (list : List Call). front ++ list) same ∙ sym (append_assoc front newer older)) is

  -- of the calls that were made so far, and of all
  pub stops_behind : (front calls : List Call) → all_calls ≡ front ++ calls → StopsShow blocks to.is shows opening first calls
  stops_behind front calls parts = record { kept = moment front calls parts; index = behind front calls parts }

  pub stops : StopsShow blocks to.is shows opening first all_calls
  stops = stops_behind [] all_calls refl

  failure : (front done : List Call) (call : Call) → all_calls ≡ front ++ (call ∷ done) → (newer older : List Call) (now : Blocks) → as_failed call ∷ done ≡ newer ++ older
      → IsImage opening (older ++ first) now → shows.Kept now
  failure front done call parts [] older now same is =
      failure_kept blocks to.is to.named to.unclean whole shows puts are opening first to.one front done call now parts
      (subst (λ (calls : List Call). IsImage opening (calls ++ first) now) (sym same) is)
  failure front done call parts (other ∷ newer) older now same is =
      moment (front ++ (call ∷ [])) done (parts ∙ sym (append_assoc front (call ∷ []) done)) newer older now (cc same) is

  pub failures : (front done : List Call) (call : Call) → all_calls ≡ front ++ (call ∷ done) → StopsShow blocks to.is shows opening first (as_failed call ∷ done)
  failures front done call parts = record {
    kept = failure front done call parts;
    index = λ i below.
        let b = block_of image.geometry (IndexBlock i) in
        let all = behind front (call ∷ done) parts i below in
        (misses_failed call b all.0, all.1);
  }

  pub recovered : (now : Blocks) × HasOneImageButIndex opening (all_calls ++ first) now × shows.Closed now
  recovered = at_last_one blocks to.is to.named to.unclean whole shows puts are opening first to.one

-- wherever it ended
pub begun_shows : (opening blocks : Blocks) (first calls : List Call) (to : HasRecoverable opening first blocks) (shows : Shows blocks to.is)
    → IsBegun (recoverable_image blocks to.is) to.is.last calls → StopsShow blocks to.is shows opening first calls
begun_shows opening blocks first calls to shows (some_puts each) = parts opening blocks first calls to shows each
begun_shows opening blocks first calls to shows (put_failed done call same each kind) =
    subst (StopsShow blocks to.is shows opening first) (sym same) (cut opening blocks first done to shows each call kind)
begun_shows opening blocks first calls to shows (first_calls puts newer are whole_is) = stops_behind opening blocks first puts to shows are newer calls whole_is
begun_shows opening blocks first calls to shows (call_failed puts newer done call same are whole_is) =
    subst (StopsShow blocks to.is shows opening first) (sym same) (failures opening blocks first puts to shows are newer done call whole_is)

-- Of an image that can be recovered: that it says the same.

abbrev pub still_shows : (blocks : Blocks) (able : IsRecoverable blocks) → Shows blocks able
still_shows blocks able = record {
  Kept = StillSays (recoverable_image blocks able);
  Closed = IsClosedStill (recoverable_image blocks able) able.last;
  part = λ now underway. underway_still blocks now able underway;
  full = λ now full accepted. full_closed blocks now able full accepted;
  kept = λ now closed. closed.still;
}

module _ (opening blocks : Blocks) (first : List Call) (to : HasRecoverable opening first blocks) where
  still_there : (calls : List Call) → StopsShow blocks to.is (still_shows blocks to.is) opening first calls → AreStopsStill blocks to.is opening first calls
  still_there calls stops_are = record { still = stops_are.kept; index = stops_are.index }

  pub begun_still : (calls : List Call) → IsBegun (recoverable_image blocks to.is) to.is.last calls → AreStopsStill blocks to.is opening first calls
  begun_still calls begun = still_there calls (begun_shows opening blocks first calls to (still_shows blocks to.is) begun)

  pub all_still : (puts : List Call) → ArePuts (recoverable_image blocks to.is) puts
      → AreStopsStill blocks to.is opening first (recovery_calls (recoverable_image blocks to.is) to.is.last puts)
  all_still puts are = begun_still (recovery_calls (recoverable_image blocks to.is) to.is.last puts) (first_calls puts [] are refl)

  pub closed_still : (puts : List Call) → ArePuts (recoverable_image blocks to.is) puts
      → (now : Blocks) × HasOneImageButIndex opening (recovery_calls (recoverable_image blocks to.is) to.is.last puts ++ first) now
      × IsClosedStill (recoverable_image blocks to.is) to.is.last now
  closed_still puts are = recovered opening blocks first puts to (still_shows blocks to.is) are
