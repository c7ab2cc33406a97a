-- For each clause of what is promised of making an empty image a case that it accepts, and one that breaks it alone.
use Rattle.std.specs.Prelude.{ℕ, ◌≡◌, ◌≢◌, ◌≤◌, ◌<◌, true, false, List, [], ◌∷◌, ◌++◌, length, Result, Ok, Err, refl}
use Rattle.std.proofs.Common.{sym, ◌∙◌, ap, arith, inl, inr}
use Rattle.blk_base.specs.Regions.{IsDataBlock, needed_blocks}
use Rattle.blk_base.specs.Sectors.{sector}
use Rattle.blk_base.specs.declared.geometry.Super.{Super}
use Rattle.blk_base.specs.declared.place.Pbn.{Pbn}
use Rattle.disk_model.specs.declared.call.Call.{Call}
use Rattle.disk_model.specs.declared.call.Call.TheVariants.{Read, Write, Flush}
use Rattle.disk_model.specs.Log.{Blocks, block_at}
use Rattle.disk_model.specs.Seen.{Seen}
use Rattle.image_layout.specs.Opened.{super_of_image}
use Rattle.image_layout.specs.PossibleSizes.{plan_of}
use Rattle.image_layout.specs.Superblock.{is_within}
use Rattle.image_layout.specs.declared.fault.Field.TheVariants.{Height}
use Rattle.image_layout.specs.declared.fault.LayoutFault.{LayoutFault}
use Rattle.image_layout.specs.declared.fault.LayoutFault.TheVariants.{Size, TooSmall}
use Rattle.image_layout.specs.declared.fault.SuperFault.TheVariants.{NotAnImage}
use Rattle.image_model.proofs.Example.{small}
use Rattle.image_model.specs.Empty.{IsUnused}
use Rattle.image_format.specs.Formats.{FormatFails, IsDataKept, IsFailed, IsOld, LastFailed, MayStand}
use Rattle.image_format.specs.declared.fault.FormatFault.TheVariants.{Layout, Device}

-- IsOld: on a device of two blocks; of block 0 the sectors behind the first may be others
module _ (first second changed : List ℕ) (same_head : sector 0 changed ≡ sector 0 first) (head other : List ℕ) (other_head : sector 0 head ≢ sector 0 first) (differs : other ≢ second) where
  abbrev old : Blocks
  old = first ∷ second ∷ []

  as_it_was : IsOld old old
  as_it_was = record { size = refl; head = refl; others = λ b some below. refl }

  behind_the_fields : IsOld old (changed ∷ second ∷ [])
  behind_the_fields = record {
    size = refl;
    head = same_head;
    others = λ b some below. let one : b ≡ 1 = omega (arith, some, below) in rw one refl;
  }

  a_block_more : ¬ IsOld old (first ∷ second ∷ second ∷ [])
  a_block_more is = omega (arith, is.size)

  another_head : ¬ IsOld old (head ∷ second ∷ [])
  another_head is = other_head is.head

  another_block : ¬ IsOld old (first ∷ other ∷ [])
  another_block is = differs (is.others 1 (omega arith) (omega arith))

-- IsDataKept: data blocks 85 to 148 of 154, and what stands behind the image
abbrev pub first_data : IsDataBlock small 85
first_data = record { slab = 0; offset = 0; inside = (omega arith, omega arith); stands = refl }

module _ (old image : Blocks) where
  all_kept : ((b : ℕ) → 1 ≤ b → b < length old → block_at image b ≡ block_at old b) → IsDataKept small old image
  all_kept same b below (inl is) = same b (omega (arith, is.stands)) below
  all_kept same b below (inr past) = same b (omega (arith, past)) below

  data_lost : 85 < length old → block_at image 85 ≢ block_at old 85 → ¬ IsDataKept small old image
  data_lost inside differs kept = differs (kept 85 inside (inl first_data))

  lost_behind_it : (b : ℕ) → needed_blocks small ≤ b → b < length old → block_at image b ≢ block_at old b → ¬ IsDataKept small old image
  lost_behind_it b past inside differs kept = differs (kept b inside (inr past))

  -- MayStand: as before, no image, or an empty one, each with the data kept
  old_stands : IsDataKept small old image → IsOld old image → MayStand small old image
  old_stands kept is = record { data_kept = kept; stands = inl is }

  none_stands : IsDataKept small old image → super_of_image image ≡ Err NotAnImage → MayStand small old image
  none_stands kept is = record { data_kept = kept; stands = inr (inl is) }

  empty_stands : IsDataKept small old image → IsUnused image → MayStand small old image
  empty_stands kept is = record { data_kept = kept; stands = inr (inr is) }

  without_its_data : ¬ IsDataKept small old image → ¬ MayStand small old image
  without_its_data lost stands = lost stands.data_kept

  another_image : (head : Super) → super_of_image image ≡ Ok head → ¬ IsOld old image → ¬ IsUnused image → ¬ MayStand small old image
  another_image head is changed used stands = elim stands.stands [
    | inl own ↦ changed own
    | inr newer ↦ elim newer [ inl none ↦ let no' : ◌≡◌ (Ok head) (Err NotAnImage) = sym is ∙ none in cc | inr empty ↦ used empty ]
  ]

-- IsFailed
abbrev at : Pbn
at = record { 0 = 0 }

failed_write : IsFailed (Write at [] false)
failed_write = refl

failed_flush : IsFailed (Flush false)
failed_flush = refl

a_write_that_was_done : ¬ IsFailed (Write at [] true)
a_write_that_was_done = λ is. cc

a_read_that_was_done : ¬ IsFailed (Read at [] true)
a_read_that_was_done = λ is. cc

-- LastFailed: the count of faults rose, and of a device that tells a failed call is the last one in its log
abbrev before : Seen
before = record { opening = []; size = 200; log = []; faults = 3; unkept = 0 }

abbrev failed : Seen
failed = record before { log = Flush false ∷ Write at [] true ∷ []; faults = 4 }

last_failed : LastFailed true before failed
last_failed = record { rose = omega arith; logged = λ tells. (Flush false, Write at [] true ∷ [], refl, inl refl) }

unkept_too : LastFailed true before (record before { faults = 4; unkept = 1 })
unkept_too = record { rose = omega arith; logged = λ tells. (Flush false, [], refl, inr (refl, omega arith)) }

of_a_device_that_tells_nothing : LastFailed false before (record before { faults = 4 })
of_a_device_that_tells_nothing = record { rose = omega arith; logged = λ tells. absurd cc }

no_count_rose : ¬ LastFailed true before (record failed { faults = 3 })
no_count_rose = λ is. omega (arith, is.rose)

nothing_in_the_log : ¬ LastFailed true before (record before { faults = 4 })
nothing_in_the_log = λ is.
    let told = is.logged refl in
    elim told.3 [
      | inl kept ↦ let no' : 0 ≡ length (told.0 ∷ (told.1 ++ [])) = ap (λ (calls : List Call). length calls) kept in omega (arith, no')
      | inr unkept ↦ omega (arith, unkept.1)
    ]

-- FormatFails: the sizes can't be had, and no call was made; or they can, and a call failed
too_small_is : plan_of small 20 ≡ Err (TooSmall 154 20)
unfolding is_within
too_small_is = refl

planned : plan_of small 200 ≡ Ok tt
unfolding is_within
planned = refl

too_small : FormatFails true small (record before { size = 20 }) (record before { size = 20 }) (Layout (TooSmall 154 20))
too_small = (too_small_is, refl)

large_enough : ¬ FormatFails true small before before (Layout (TooSmall 154 200))
large_enough = λ is. let no' : ◌≡◌ {A = Result (Unit {0}) LayoutFault} (Ok tt) (Err (TooSmall 154 200)) = sym planned ∙ is.0 in cc

of_another_cause : ¬ FormatFails true small (record before { size = 20 }) (record before { size = 20 }) (Layout (Size Height))
of_another_cause = λ is. let no' : ◌≡◌ {A = Result (Unit {0}) LayoutFault} (Err (TooSmall 154 20)) (Err (Size Height)) = sym too_small_is ∙ is.0 in cc

after_a_call : ¬ FormatFails true small (record before { size = 20 }) (record before { size = 20; log = Flush true ∷ [] }) (Layout (TooSmall 154 20))
after_a_call = λ is. let no' : 1 ≡ 0 = ap (λ (s : Seen). length s.log) is.1 in omega (arith, no')

a_call_failed : FormatFails true small before failed Device
a_call_failed = (planned, last_failed)

no_call_failed : ¬ FormatFails true small before before Device
no_call_failed = λ is. omega (arith, is.1.rose)

sizes_first : ¬ FormatFails true small (record before { size = 20 }) (record failed { size = 20 }) Device
sizes_first = λ is. let no' : ◌≡◌ {A = Result (Unit {0}) LayoutFault} (Err (TooSmall 154 20)) (Ok tt) = sym too_small_is ∙ is.0 in cc
