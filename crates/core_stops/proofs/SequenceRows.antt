-- An empty image of the default sizes: a run may begin on it with 2 ^ 20 sequences left, and not with all; what a read of it
-- leaves. And what a recovery keeps of the next sequence.
use Rattle.std.proofs.Common.{ℕ, ◌≡◌, ◌-◌, ◌<◌, ◌≤◌, ◌^◌, true, false, List, [], ◌∷◌, length, Ok, refl, sym, ◌∙◌, ap, arith}
use Rattle.blk_base.specs.declared.geometry.Geometry.{Geometry}
use Rattle.blk_base.specs.declared.geometry.Super.{Super}
use Rattle.disk_model.specs.declared.call.Call.{Call}
use Rattle.disk_model.specs.declared.call.Call.TheVariants.{Read}
use Rattle.disk_model.specs.Images.{IsImage}
use Rattle.disk_model.specs.Log.{Blocks, block_at}
use Rattle.disk_model.proofs.OneImageLaws.{one_image-opening}
use Rattle.disk_model.proofs.LookedLaws.{one_in-all}
use Rattle.image_model.specs.Empty.{IsEmpty, empty_super}
use Rattle.image_model.specs.Maps.{value_of}
use Rattle.image_model.specs.Sound.{IsSound}
use Rattle.image_model.proofs.EmptyLaws.{is_sound}
use Rattle.image_model.proofs.Example.{small}
use Rattle.image_model.specs.Looked.{looked_in}
use Rattle.recovery_laws.specs.Kept.{AreKept, IsToRecover, image_in}
use Rattle.recovery_laws.proofs.WholeLaws.{parts}
use Rattle.session_stops.specs.Beginnings.{IsToServe}
use Rattle.core_stops.specs.Logs.{StopsShow}
use Rattle.core_stops.specs.Sequences.{AreStopsServed, CanBegin, ShowsValues, next_by, next_start}
use Rattle.core_stops.proofs.EarlyLaws.{reads_show}
use Rattle.core_stops.proofs.SequenceLaws.{can_less, can_serve, served}

module _ (blocks : Blocks) (empty : IsEmpty small blocks) (whole : (b : ℕ) → b < length blocks → length (block_at blocks b) ≡ 4096) where
  head_of : (sound : IsSound blocks) → sound.head ≡ empty_super small
  head_of sound = let both : Ok sound.head ≡ Ok (empty_super small) = sym sound.opens.accepted ∙ empty.accepted in cc both

  first : (sound : IsSound blocks) → next_start blocks sound ≡ 1
  first sound = ap (λ (h : Super). next_by h sound.last) (head_of sound)

  abbrev sound : IsSound blocks
  sound = is_sound small blocks empty

  can : CanBegin (2 ^ 20) blocks
  can = record {
    whole = whole;
    sound = sound;
    late = let one = first sound in omega (arith, one);
    named = named_so (sound.head) (head_of sound);
  }
    where
      named_so : (h : Super) → h ≡ empty_super small → h.geometry.nonce < 2 ^ 64
      named_so h is = rw is (omega arith)

  serves : IsToServe blocks
  serves = let few = can_less blocks (2 ^ 20) (2 ^ 19) (omega arith) can in can_serve blocks few (ap (λ (h : Super). h.clean) (head_of few.sound))

  -- all that there are, and refused: one more
  all_left : CanBegin (2 ^ 54 - 1) blocks
  all_left = record { whole = whole; sound = sound; late = let one = first sound in omega (arith, one); named = let nonce = ap (λ (h : Super). h.geometry.nonce) (head_of sound) in omega (arith, nonce) }

  none_left : CanBegin (2 ^ 54) blocks → ⊥
  none_left many = let late = many.late in let one = first many.sound in omega (arith, late, one)

  shows : ShowsValues small 1 blocks (value_of (image_in blocks sound))
  shows = record { sound = sound; sizes = ap (λ (h : Super). h.geometry) (head_of sound); next = let one = first sound in omega (arith, one); values_are = λ a. refl }

  -- refused: other sizes
  other_sizes : ShowsValues (record small { journal = 9 }) 1 blocks (value_of (image_in blocks sound)) → ⊥
  other_sizes other =
      let same : small ≡ record small { journal = 9 } = sym (ap (λ (h : Super). h.geometry) (head_of other.sound)) ∙ other.sizes in
      let slots = ap (λ g. g.journal) same in omega (arith, slots)

  read_first : StopsShow (ShowsValues sound.head.geometry 1) blocks [] 5 (value_of (image_in blocks sound)) (Read (record { 0 = 0 }) (block_at blocks 0) true ∷ [])
  read_first = reads_show blocks blocks [] sound 1 5 (let one = first sound in omega (arith, one)) (Read (record { 0 = 0 }) (block_at blocks 0) true ∷ []) tt
      (one_in-all (looked_in blocks) blocks [] blocks (one_image-opening blocks whole))

  -- with a value that isn't the image's, or a next sequence that is past the bound
  other_value : (values : ℕ → List ℕ) (is : ShowsValues small 1 blocks values) (address : ℕ) → (values address ≡ value_of (image_in blocks is.sound) address → ⊥) → ⊥
  other_value values is address differs = differs (is.values_are address)

  past_the_bound : (values : ℕ → List ℕ) → ShowsValues small 0 blocks values → ⊥
  past_the_bound values is = let next = is.next in let one = first is.sound in omega (arith, next, one)

  too_short : (b : ℕ) → b < length blocks → length (block_at blocks b) ≡ 512 → CanBegin 0 blocks → ⊥
  too_short b below short begins = let long = begins.whole b below in omega (arith, long, short)

-- A nonce that is no number of 64 bits.
not_named : (blocks : Blocks) (begins : CanBegin 0 blocks) → 2 ^ 64 ≤ begins.sound.head.geometry.nonce → ⊥
not_named blocks begins high = let low = begins.named in omega (arith, low, high)

-- The next sequence: the superblock's where it is closed, and two behind the last one where it isn't.

closed_next : (sizes : Geometry) → next_by (record { geometry = sizes; clean = true; start = 9 }) 20 ≡ 9
closed_next sizes = refl

open_next : (sizes : Geometry) → next_by (record { geometry = sizes; clean = false; start = 9 }) 20 ≡ 22
open_next sizes = refl

-- A recovery: its reads leave what there was, and none leaves another next sequence.

module _ (opening blocks : Blocks) (first : List Call) (to : IsToRecover opening first blocks) where
  read_served : AreStopsServed opening first blocks to.sound (Read (record { 0 = 0 }) [] true ∷ [])
  read_served = served opening blocks first to.sound to.one (Read (record { 0 = 0 }) [] true ∷ []) (parts opening blocks first (Read (record { 0 = 0 }) [] true ∷ []) to (tt, tt))

  other_next : AreStopsServed opening first blocks to.sound [] → (now : Blocks) → IsImage opening first now
      → ((sound : IsSound now) → next_start now sound ≡ next_start blocks to.sound → ⊥) → ⊥
  other_next stops now is differs = let kept = stops [] [] now refl is in differs kept.0.sound kept.1

  -- nor one that doesn't say the same
  not_kept : AreStopsServed opening first blocks to.sound [] → (now : Blocks) → IsImage opening first now → (AreKept (image_in blocks to.sound) now → ⊥) → ⊥
  not_kept stops now is never = never (stops [] [] now refl is).0
