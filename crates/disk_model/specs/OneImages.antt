-- Images of which only some blocks are looked at: of the others nothing is said.
use Rattle.std.specs.Prelude.{ℕ, ◌≡◌, ◌<◌, Bool, IsTrue, List, length}
use Rattle.std.specs.List.{AllByRecursion}
use Rattle.disk_model.specs.declared.call.Call.{Call}
use Rattle.disk_model.specs.Images.{IsMixOf}
use Rattle.disk_model.specs.Log.{Blocks, block_at, contents}

-- as many whole blocks, and where it is looked those that a stop after these calls may leave
pub record IsImageIn (looked : ℕ → Bool) (opening : Blocks) (log : List Call) (image : Blocks) : Type 0 where
  pub size : length image ≡ length opening
  pub whole : (b : ℕ) → b < length opening → length (block_at image b) ≡ 4096
  pub sectors : (b : ℕ) → b < length opening → IsTrue (looked b) → IsMixOf (contents opening log b) (block_at image b)

-- Where it is looked nothing is pending: whatever of these calls a stop loses, there it leaves these blocks.
pub record HasOneImageIn (looked : ℕ → Bool) (opening : Blocks) (log : List Call) (image : Blocks) : Type 0 where
  pub size : length image ≡ length opening
  pub whole : (b : ℕ) → b < length opening → length (block_at image b) ≡ 4096
  pub only : (b : ℕ) → b < length opening → IsTrue (looked b) → AllByRecursion (λ content. content ≡ block_at image b) (contents opening log b)

-- two images have as many blocks, and the same ones where it is looked
pub record AreAlikeIn (looked : ℕ → Bool) (image other : Blocks) : Type 0 where
  pub size : length other ≡ length image
  pub same : (b : ℕ) → b < length image → IsTrue (looked b) → block_at other b ≡ block_at image b
