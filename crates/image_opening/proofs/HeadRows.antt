-- Reading a superblock: for each clause a case that it accepts, and one that it refuses.
use Rattle.std.proofs.Common.{ℕ, ◌≡◌, ◌≤◌, true, false, List, [], ◌∷◌, length, Ok, Err, refl, ◌∙◌, ap, inl, inr, arith}
use Rattle.blk_base.proofs.SectorLaws.{zero_size}
use Rattle.blk_base.specs.Sectors.{zero_block}
use Rattle.blk_base.specs.declared.geometry.Super.{Super}
use Rattle.disk_model.specs.declared.call.Call.TheVariants.{Flush}
use Rattle.disk_model.specs.Seen.{Seen}
use Rattle.disk_model.specs.Trust.{trust_of}
use Rattle.disk_model.specs.Since.{WereRead}
use Rattle.image_layout.proofs.AgainLaws.{written_again}
use Rattle.image_layout.proofs.SpellingLaws.{super_size}
use Rattle.image_layout.specs.Superblock.{super_block, super_of}
use Rattle.image_layout.specs.declared.fault.SuperFault.TheVariants.{NotAnImage, Version}
use Rattle.image_model.proofs.Example.{small, small_is}
use Rattle.image_model.specs.declared.fault.ImageFault.TheVariants.{Super as SuperFaulty, Window, Memory}
use Rattle.image_opening.specs.Heads.{HasNoBlock, HeadFails, IsHeadRead, IsHeadRefused}

-- A device that doesn't tell, of so many blocks; one that tells, with this log.
abbrev of_size : ℕ → Seen
of_size n = record { opening = []; size = n; log = []; faults = 0; unkept = 0 }

abbrev head : Super
head = record { geometry = small; clean = false; start = 7 }

says : (n : ℕ) → 154 ≤ n → super_of (super_block head) n ≡ Ok head
says n room = written_again head n small_is (omega arith) (omega arith) (omega arith) (omega (arith, room))

one_read : (n : ℕ) (bytes : List ℕ) → length bytes ≡ 4096 → WereRead (trust_of false false) 0 (of_size n) (of_size n) (bytes ∷ [])
one_read n bytes size = record {
  told = λ told. absurd (cc told);
  stays = record { opening = refl; size = refl };
  later = record { faults = omega arith; unkept = omega arith };
  given = (size, (λ told. absurd (cc told)), tt);
  logged = λ told. absurd (cc told);
}

-- A superblock is read.
head_read : IsHeadRead (trust_of false false) (of_size 154) (of_size 154) head
head_read = record {
  block = super_block head;
  read = one_read 154 (super_block head) (super_size head);
  is = record { says = says 154 (omega arith); sizes = small_is; start = (omega arith, omega arith); room = omega arith };
}

-- read: a device that tells has the read in its log
no_read : (seen : Seen) → IsHeadRead (trust_of true false) seen seen head → ⊥
no_read seen is = let more = ap length (is.read.logged refl) in omega (arith, more)

-- is: a device of fewer blocks than the sizes need
no_room : (now : Seen) → IsHeadRead (trust_of false false) (of_size 153) now head → ⊥
no_room now is = let room = is.is.room in omega (arith, room)

-- Zeros are refused, and for this.
zeros_are_none : super_of zero_block 154 ≡ Err NotAnImage
unfolding super_of zero_block
zeros_are_none = refl

zeros_refused : IsHeadRefused (trust_of false false) (of_size 154) (of_size 154) NotAnImage
zeros_refused = record { some = omega arith; block = zero_block; read = one_read 154 zero_block zero_size; refused = zeros_are_none }

-- some: of a device without blocks nothing is refused by a read
refused_nowhere : (now : Seen) → IsHeadRefused (trust_of false false) (of_size 0) now NotAnImage → ⊥
refused_nowhere now is = let some = is.some in omega (arith, some)

-- read: nothing was read
refused_unread : (seen : Seen) → IsHeadRefused (trust_of true false) seen seen NotAnImage → ⊥
refused_unread seen is = let more = ap length (is.read.logged refl) in omega (arith, more)

-- refused: the block that was read is a superblock
refused_for_nothing : (is : IsHeadRefused (trust_of false false) (of_size 154) (of_size 154) NotAnImage) → is.block ≡ super_block head → ⊥
refused_for_nothing is same = let ok = ap (λ (b : List ℕ). super_of b 154) same ∙ says 154 (omega arith) in let err = is.refused in absurd (cc (ok, err))

-- A device without blocks has no image, and isn't read.
no_block : HasNoBlock (of_size 0) (of_size 0) NotAnImage
no_block = record { none = refl; fault_is = refl; same = refl }

no_block_of_one : (now : Seen) → HasNoBlock (of_size 1) now NotAnImage → ⊥
no_block_of_one now is = let none = is.none in omega (arith, none)

no_block_of_version : (now : Seen) → HasNoBlock (of_size 0) now (Version 2) → ⊥
no_block_of_version now is = let fault = is.fault_is in absurd (cc fault)

no_block_read : HasNoBlock (of_size 0) (record (of_size 0) { log = Flush true ∷ [] }) NotAnImage → ⊥
no_block_read is = let log = ap (λ (seen : Seen). seen.log) is.same in absurd (cc log)

-- No other fault is given, and no want of memory.
no_window : (before now : Seen) → HeadFails (trust_of true true) before now (Window 7) → ⊥
no_window before now fails = fails

no_memory : (before now : Seen) → HeadFails (trust_of true true) before now Memory → ⊥
no_memory before now fails = fails

both_ways : HeadFails (trust_of false false) (of_size 0) (of_size 0) (SuperFaulty NotAnImage) × HeadFails (trust_of false false) (of_size 154) (of_size 154) (SuperFaulty NotAnImage)
both_ways = (inl no_block, inr zeros_refused)
