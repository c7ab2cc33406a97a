-- The laws of recovery as they are promised.
use Rattle.std.proofs.Common.{◌≡◌, ◌⊎◌, IsTrue, false, true, List, [], ◌∷◌, ◌++◌, length, refl, sym, ◌∙◌, subst, inl, inr, arith}
use Rattle.std.specs.List.{AllByRecursion}
use Rattle.blk_base.specs.Regions.{needed_blocks}
use Rattle.blk_base.specs.declared.geometry.Geometry.{Geometry}
use Rattle.disk_model.specs.declared.call.Call.{Call}
use Rattle.disk_model.specs.declared.call.Call.TheVariants.{Flush}
use Rattle.disk_model.specs.Log.{Blocks}
use Rattle.image_format.specs.Runs.{as_failed}
use Rattle.image_format.proofs.StopLaws.{all_behind}
use Rattle.image_model.specs.Looked.{HasOneImageButIndex, is_looked_at}
use Rattle.image_model.specs.Maps.{Image}
use Rattle.image_model.specs.Sound.{IsDataPlace, IsSound}
use Rattle.recovery_laws.specs.Calls.{ArePuts, IsBegun, IsPut, call_failed, first_calls, put_failed, some_puts, recovery_calls}
use Rattle.recovery_laws.specs.Kept.{AreInside, AreKept, AreStopsKept, IsHeadKept, IsRecovered, IsToRecover, PutsOnly, SayTheSame, WritesBelow, image_in}
use Rattle.recovery_laws.specs.Recoverable.{HasRecoverable, as_recoverable, sound_recoverable}
use Rattle.recovery_laws.specs.Written.{AreRestKept, IsCountersBlock}
use Rattle.recovery_laws.proofs.CallLaws.{Shows}
use Rattle.recovery_laws.proofs.HeadLaws.{all_keep, cut_keeps, failed_keeps, puts_keep}
use Rattle.recovery_laws.proofs.InsideLaws.{all_below, cut_below, failed_below, puts_below}
use Rattle.recovery_laws.proofs.ShowLaws.{begun_shows, recovered as recovered_so}
use Rattle.recovery_laws.proofs.SoundLaws.{full_is_recovered, underway_is_kept}

pub same_again : (old middle new : Image) → SayTheSame old middle → SayTheSame middle new → SayTheSame old new
same_again old middle new first second = record {
  geometry = second.geometry ∙ first.geometry;
  map = record { pages = λ page. first.map.pages page ∙ second.map.pages page; mappings = λ address. first.map.mappings address ∙ second.map.mappings address };
  values = λ address. second.values address ∙ first.values address;
  counts = λ place count inside.
      let inside_too : IsDataPlace middle.geometry place = subst (λ (g : Geometry). IsDataPlace g place) (sym first.geometry) inside in
      let one = first.counts place count inside in
      let two = second.counts place count inside_too in
      ((λ is. one.0 (two.0 is)), (λ is. two.1 (one.1 is)));
}

-- What keeps what was kept: the pages and the counters of both stand at the same blocks, so the others do too.
pub kept_by_both : (old : Image) (middle new : Blocks) (first : AreKept old middle) → length middle ≡ length old.blocks → AreKept (image_in middle first.sound) new → AreKept old new
kept_by_both old middle new first size second = record {
  sound = second.sound;
  same = same_again old (image_in middle first.sound) (image_in new second.sound) first.same second.same;
  others = λ b behind below looked no_page no_counters.
      second.others b behind (omega (arith, below, size)) (subst (λ (g : Geometry). IsTrue (is_looked_at g b)) (sym first.same.geometry) looked) (λ (page, at, there, same). no_page (page, at, first.same.map.pages page ∙ there, same))
      (λ counters. no_counters (subst (λ (g : Geometry). IsCountersBlock (record old { geometry = g }) b) first.same.geometry counters))
      ∙ first.others b behind below looked no_page no_counters;
  rest =
      let again : AreRestKept (record old { blocks = middle }) new = subst (λ (g : Geometry). AreRestKept (record old { geometry = g; blocks = middle }) new) first.same.geometry second.rest in
      λ slab n is below offset behind sector_is. elim (again slab n is below offset behind sector_is) [
        | inl none ↦ inl none
        | inr same ↦ elim (first.rest slab n is below offset behind sector_is) [ inl none ↦ inl (same ∙ none) | inr was ↦ inr (same ∙ was) ]
      ];
}

-- Of a sound image: that it is sound and says the same.

abbrev pub sound_shows : (blocks : Blocks) (sound : IsSound blocks) → sound.head.clean ≡ false → Shows blocks (sound_recoverable blocks sound)
sound_shows blocks sound unclean = record {
  Kept = AreKept (image_in blocks sound);
  Closed = IsRecovered (image_in blocks sound) sound.last;
  part = λ now underway. underway_is_kept blocks now sound unclean underway;
  full = λ now full accepted. full_is_recovered blocks now sound full accepted;
  kept = λ now recovered_is. recovered_is.kept;
}

module _ (opening blocks : Blocks) (first : List Call) (to : IsToRecover opening first blocks) where
  abbrev image : Image
  image = image_in blocks to.sound

  abbrev HeadsKept : List Call → Type 0
  HeadsKept calls = AllByRecursion (PutsOnly 0 (IsHeadKept blocks to.sound)) calls

  abbrev has : HasRecoverable opening first blocks
  has = as_recoverable opening first blocks to

  heads_behind : (puts newer calls : List Call) → ArePuts image puts → recovery_calls image to.sound.last puts ≡ newer ++ calls → HeadsKept calls
  heads_behind puts newer calls are whole = all_behind (PutsOnly 0 (IsHeadKept blocks to.sound)) newer calls (subst HeadsKept whole (all_keep opening blocks first to puts are))

  heads : (calls : List Call) → IsBegun image to.sound.last calls → HeadsKept calls
  heads calls (some_puts each) = puts_keep opening blocks first to calls each
  heads calls (put_failed done call same each kind) =
      subst HeadsKept (sym same) (cut_keeps opening blocks first to call kind, puts_keep opening blocks first to done each)
  heads calls (first_calls puts newer are whole) = heads_behind puts newer calls are whole
  heads calls (call_failed puts newer done call same are whole) =
      let all = heads_behind puts newer (call ∷ done) are whole in
      subst HeadsKept (sym same) (failed_keeps opening blocks first to call all.0, all.1)

  abbrev Inside : List Call → Type 0
  Inside calls = AreInside image.geometry calls

  inside_behind : (puts newer calls : List Call) → ArePuts image puts → recovery_calls image to.sound.last puts ≡ newer ++ calls → Inside calls
  inside_behind puts newer calls are whole = all_behind (WritesBelow (needed_blocks image.geometry)) newer calls (subst Inside whole (all_below blocks to.sound to.named puts are))

  insides : (calls : List Call) → IsBegun image to.sound.last calls → Inside calls
  insides calls (some_puts each) = puts_below blocks to.sound to.named calls each
  insides calls (put_failed done call same each kind) = subst Inside (sym same) (cut_below blocks to.sound to.named call kind, puts_below blocks to.sound to.named done each)
  insides calls (first_calls puts newer are whole) = inside_behind puts newer calls are whole
  insides calls (call_failed puts newer done call same are whole) =
      let all = inside_behind puts newer (call ∷ done) are whole in
      subst Inside (sym same) (failed_below (needed_blocks image.geometry) call all.0, all.1)

  -- wherever it ended
  pub begun_kept : (calls : List Call) → IsBegun image to.sound.last calls → AreStopsKept blocks to.sound opening first calls
  begun_kept calls begun =
      let stops_are = begun_shows opening blocks first calls has (sound_shows blocks to.sound to.unclean) begun in
      record { kept = stops_are.kept; heads = heads calls begun; index = stops_are.index; inside = insides calls begun }

-- as they are promised

pub parts : (opening blocks : Blocks) (first calls : List Call) (to : IsToRecover opening first blocks) → AllByRecursion (IsPut (image_in blocks to.sound)) calls
    → AreStopsKept blocks to.sound opening first calls
parts opening blocks first calls to each = begun_kept opening blocks first to calls (some_puts each)

pub cut : (opening blocks : Blocks) (first calls : List Call) (call : Call) (to : IsToRecover opening first blocks) → AllByRecursion (IsPut (image_in blocks to.sound)) calls
    → IsPut (image_in blocks to.sound) call ⊎ (call ≡ Flush true) → AreStopsKept blocks to.sound opening first (as_failed call ∷ calls)
cut opening blocks first calls call to each kind = begun_kept opening blocks first to (as_failed call ∷ calls) (put_failed calls call refl each kind)

pub stops : (opening blocks : Blocks) (first puts : List Call) (to : IsToRecover opening first blocks) → ArePuts (image_in blocks to.sound) puts
    → AreStopsKept blocks to.sound opening first (recovery_calls (image_in blocks to.sound) to.sound.last puts)
stops opening blocks first puts to are = begun_kept opening blocks first to (recovery_calls (image_in blocks to.sound) to.sound.last puts) (first_calls puts [] are refl)

pub failures : (opening blocks : Blocks) (first puts newer done : List Call) (call : Call) (to : IsToRecover opening first blocks) → ArePuts (image_in blocks to.sound) puts
    → recovery_calls (image_in blocks to.sound) to.sound.last puts ≡ newer ++ (call ∷ done) → AreStopsKept blocks to.sound opening first (as_failed call ∷ done)
failures opening blocks first puts newer done call to are whole = begun_kept opening blocks first to (as_failed call ∷ done) (call_failed puts newer done call refl are whole)

pub recovered : (opening blocks : Blocks) (first puts : List Call) (to : IsToRecover opening first blocks) → ArePuts (image_in blocks to.sound) puts
    → (now : Blocks) × HasOneImageButIndex opening (recovery_calls (image_in blocks to.sound) to.sound.last puts ++ first) now × IsRecovered (image_in blocks to.sound) to.sound.last now
recovered opening blocks first puts to are = recovered_so opening blocks first puts (as_recoverable opening first blocks to) (sound_shows blocks to.sound to.unclean) are
