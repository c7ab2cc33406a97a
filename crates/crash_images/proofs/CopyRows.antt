-- For each clause on a copy a case that it accepts, and one that breaks it alone: of a device of one block.
use Rattle.std.proofs.Common.{ℕ, ◌≡◌, ◌≢◌, ◌<◌, true, List, [], ◌∷◌, length, refl, sym, ap, subst, inl, inr, arith}
use Rattle.blk_base.specs.Sectors.{sector}
use Rattle.disk_model.proofs.LookedLaws.{one_in-all}
use Rattle.disk_model.proofs.OneImageLaws.{one_image-opening}
use Rattle.disk_model.proofs.SinceLaws.{one_read}
use Rattle.disk_model.specs.declared.call.Call.TheVariants.{Read, Flush}
use Rattle.disk_model.specs.Log.{Blocks, block_at}
use Rattle.disk_model.specs.Memory.{Memory, fresh, seen_of}
use Rattle.disk_model.specs.Seen.{Seen}
use Rattle.disk_model.specs.Trust.{trust_of}
use Rattle.disk_model.specs.Since.{AreGiven}
use Rattle.image_model.proofs.LookedLaws.{looked_first}
use Rattle.image_model.specs.Looked.{looked_in}
use Rattle.rebuild.specs.Recoveries.{IsTold}
use Rattle.crash_images.specs.Copies.{IsCopy, KeepsImage}

module _ (block other : List ℕ) (size : length block ≡ 4096) (differs : sector 0 other ≢ sector 0 block) where
  abbrev blocks : Blocks
  blocks = block ∷ []

  abbrev before : Seen
  before = record { opening = blocks; size = 1; log = []; faults = 0; unkept = 0 }

  abbrev now : Seen
  now = record before { log = Read (record { 0 = 0 }) block true ∷ [] }

  -- IsCopy: its block was read
  copied : IsCopy (trust_of true true) before now (fresh blocks)
  copied = (
    blocks,
    refl,
    refl,
    one_read (trust_of true true) 0 before now (record { 0 = 0 }) block refl (λ told. refl) (record { opening = refl; size = refl })
        (record { faults = omega arith; unkept = omega arith }) size (λ told honest i within. inl refl) (λ told. refl),
  )

  copied-not_fewer_blocks : IsCopy (trust_of true true) before now (fresh []) → ⊥
  copied-not_fewer_blocks (copies, is, count, read) =
      let none : length copies ≡ 0 = ap (λ (m : Memory). length m.opening) (sym is) in omega (arith, count, none)

  copied-not_called : IsCopy (trust_of true true) before now (record (fresh blocks) { log = Flush true ∷ [] }) → ⊥
  copied-not_called (copies, is, count, read) = let log = ap (λ (m : Memory). length m.log) is in omega (arith, log)

  copied-not_other_bytes : (later : Seen) → IsCopy (trust_of true true) before later (fresh (other ∷ [])) → ⊥
  copied-not_other_bytes later (copies, is, count, read) =
      let these : copies ≡ other ∷ [] = ap (λ (m : Memory). m.opening) (sym is) in
      let given : AreGiven (trust_of true true) 0 before (other ∷ []) = rw these at read.given in
      elim (given.1 refl refl 0 (omega arith)) [ inl same ↦ differs same | inr none ↦ none ]

  copied-not_unread : IsCopy (trust_of true true) before before (fresh blocks) → ⊥
  copied-not_unread (copies, is, count, read) =
      let these : copies ≡ blocks = ap (λ (m : Memory). m.opening) (sym is) in
      let logged : [] ≡ Read (record { 0 = 0 }) block true ∷ [] = rw these at (read.logged refl) in
      absurd (cc logged)

  -- KeepsImage: its image is these blocks
  first_alone : (b : ℕ) → b < 1 → length (block_at blocks b) ≡ 4096
  first_alone b below = let is : b ≡ 0 = omega (arith, below) in subst (λ (n : ℕ). length (block_at blocks n) ≡ 4096) (sym is) size

  told : IsTold (trust_of true true) before blocks
  told = record { told = refl; fair = refl; one = one_in-all (looked_in blocks) blocks [] blocks (one_image-opening blocks first_alone) }

  kept : KeepsImage (trust_of true true) before (seen_of (fresh blocks))
  kept image is = record { told = refl; fair = refl; one = is.one }

  kept-not_of_no_block : KeepsImage (trust_of true true) before (seen_of (fresh [])) → ⊥
  kept-not_of_no_block keeps = let size = (keeps blocks told).one.size in omega (arith, size)

  kept-not_of_another_block : KeepsImage (trust_of true true) before (seen_of (fresh (other ∷ []))) → ⊥
  kept-not_of_another_block keeps = let same = ((keeps blocks told).one.only 0 (omega arith) (looked_first blocks)).0 in differs (ap (sector 0) same)
