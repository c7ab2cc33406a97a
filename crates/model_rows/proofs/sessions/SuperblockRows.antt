-- How far the superblock of a session has come, which writes are its own, and what an image says that nothing else was written
-- to: cases that are accepted, and for each clause one that it alone refuses.
use Rattle.std.proofs.Common.{◌≡◌, true, false, [], ◌∷◌, refl, arith}
use Rattle.blk_base.specs.Forms.{pbn as block}
use Rattle.disk_model.specs.declared.call.Call.TheVariants.{Read, Write, Flush}
use Rattle.core_model.specs.Reports.{IsStillOpened}
use Rattle.core_model.specs.Sessions.{Session}
use Rattle.core_model.specs.Superblocks.{WritesNoOther, WritesSuperblock, superblock_bytes, superblock_stage}
use Rattle.core_model.specs.Trace.{Calls, Fails}
use Rattle.core_model.specs.declared.zones.SuperblockStage.TheVariants.{AsOpened, Written, Durable}
use Rattle.model_rows.proofs.sessions.FollowRows.{announced, no_superblock, roomy, superblock}
use Rattle.core_model.proofs.WorkedTraces.{first, x, y}

-- The write of block 0 and a flush behind it; not a flush before it, one that fails, or the write of another block.
written : superblock_stage (superblock ∷ []) ≡ Written
written = refl

durable : superblock_stage (announced []) ≡ Durable
durable = refl

flushed_before : superblock_stage (superblock ∷ Calls (Flush true) ∷ []) ≡ Written
flushed_before = refl

flushed_in_vain : superblock_stage (Fails first (Flush false) true ∷ superblock ∷ []) ≡ Written
flushed_in_vain = refl

written_in_vain : superblock_stage (Fails first (Write (block 0) (superblock_bytes roomy.sizes) false) true ∷ []) ≡ AsOpened
written_in_vain = refl

written_elsewhere : superblock_stage (Calls (Write (block 85) x true) ∷ []) ≡ AsOpened
written_elsewhere = refl

-- WritesSuperblock: to block 0, and what the session's superblock says
writes_it : WritesSuperblock roomy.sizes 0 (superblock_bytes roomy.sizes)
writes_it = record { first = refl; says = refl }

writes_it-not_elsewhere : WritesSuperblock roomy.sizes 1 (superblock_bytes roomy.sizes) → ⊥
writes_it-not_elsewhere is = let first = is.first in absurd (omega (arith, first))

writes_it-not_other_bytes : WritesSuperblock roomy.sizes 0 [] → ⊥
writes_it-not_other_bytes is = no_superblock is.says

-- WritesNoOther: its write, whether that fails or not, a read and a flush, and no write of another block
writes_none : WritesNoOther roomy.sizes (Flush false) × WritesNoOther roomy.sizes (Read (block 85) x true)
writes_none = (tt, tt)

writes_its_own : WritesNoOther roomy.sizes (Write (block 0) (superblock_bytes roomy.sizes) false)
writes_its_own = writes_it

writes_another : WritesNoOther roomy.sizes (Write (block 85) x true) → ⊥
writes_another is = let first = is.first in absurd (omega (arith, first))

-- IsStillOpened: the first sector, and each other block
abbrev opened : Session
opened = record roomy { blocks = x ∷ y ∷ []; image = x ∷ y ∷ [] }

still : IsStillOpened opened (x ∷ y ∷ [])
still = record { says = refl; others = λ at below other looked. refl }

still-not_another_superblock : IsStillOpened opened (y ∷ y ∷ []) → ⊥
still-not_another_superblock is = let says = is.says in absurd cc

still-not_another_block : IsStillOpened opened (x ∷ x ∷ []) → ⊥
still-not_another_block is = let same : x ≡ y = is.others 1 (omega arith) (λ at. omega (arith, at)) refl in absurd cc
