-- Whether a block that was read has the bytes that are wanted, and what becomes of the claims then.
use Rattle.std.specs.Prelude.{ℕ, ◌≡◌, ◌≢◌, List, Option, Some}
use Rattle.blk_base.specs.declared.place.Pbn.{Pbn}
use Rattle.verify_share.specs.declared.verdict.Verdict.{Verdict}
use Rattle.verify_share.specs.declared.verdict.Verdict.TheVariants.{Same, Different}
use Rattle.verify_share.specs.declared.judged.Judged.{Judged}
use Rattle.verify_share.specs.declared.judged.Judged.TheVariants.{Shared, Stored}

-- two blocks are the same where all their bytes are
abbrev pub IsVerdict : List ℕ → List ℕ → Verdict → Type 0
IsVerdict read wanted Same = read ≡ wanted
IsVerdict read wanted Different = read ≢ wanted

-- A block is shared where it was read and has the bytes that are wanted: the claim on it is used, and the own one, if
-- there is one, is to be dropped. Else the bytes are stored in the own block, and the claim on the other is to be dropped.
abbrev pub Decides : Option (List ℕ) → List ℕ → Option Pbn → Pbn → Judged → Type 0
Decides read wanted own share (Shared used spare) = (read ≡ Some wanted) × (used ≡ share) × (spare ≡ own)
Decides read wanted own share (Stored used spare) = (read ≢ Some wanted) × (used ≡ own) × (spare ≡ share)
