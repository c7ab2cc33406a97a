-- Images: what a stop leaves on a device, sector by sector.
use Rattle.std.specs.Prelude.{ℕ, ◌≡◌, ◌<◌, ◌⊎◌, List, [], ◌∷◌, length}
use Rattle.std.specs.List.{AllByRecursion}
use Rattle.blk_base.specs.Sectors.{sector}
use Rattle.disk_model.specs.declared.call.Call.{Call}
use Rattle.disk_model.specs.Log.{Blocks, block_at, contents}

-- one of these contents has P
abbrev pub OneOf : (List ℕ → Type 0) → List (List ℕ) → Type 0
OneOf P [] = ⊥
OneOf P (content ∷ others) = P content ⊎ OneOf P others

-- each sector of this block, by itself, is that of one of these contents
abbrev pub IsMixOf : List (List ℕ) → List ℕ → Type 0
IsMixOf options block = (i : ℕ) → i < 8 → OneOf (λ content. sector i block ≡ sector i content) options

-- a device that a stop after these calls may leave
pub record IsImage (opening : Blocks) (log : List Call) (image : Blocks) : Type 0 where
  pub size : length image ≡ length opening
  pub whole : (b : ℕ) → b < length opening → length (block_at image b) ≡ 4096
  pub sectors : (b : ℕ) → b < length opening → IsMixOf (contents opening log b) (block_at image b)

-- nothing is pending: whatever of these calls a stop loses, it leaves this image
pub record HasOneImage (opening : Blocks) (log : List Call) (image : Blocks) : Type 0 where
  pub size : length image ≡ length opening
  pub whole : (b : ℕ) → b < length opening → length (block_at image b) ≡ 4096
  pub only : (b : ℕ) → b < length opening → AllByRecursion (λ content. content ≡ block_at image b) (contents opening log b)
