-- Which sequences are left on an image, and what a run leaves to the next one.
use Rattle.std.specs.Prelude.{ℕ, ◌≡◌, ◌+◌, ◌<◌, ◌≤◌, ◌^◌, ◌++◌, List, length, if◌then◌else◌}
use Rattle.blk_base.specs.declared.geometry.Geometry.{Geometry}
use Rattle.blk_base.specs.declared.geometry.Super.{Super}
use Rattle.disk_model.specs.declared.call.Call.{Call}
use Rattle.disk_model.specs.Images.{IsImage}
use Rattle.disk_model.specs.Log.{Blocks, block_at}
use Rattle.image_model.specs.Maps.{value_of}
use Rattle.image_model.specs.Sound.{IsSound}
use Rattle.recovery_laws.specs.Kept.{AreKept, image_in}

-- the first sequence of the next session on an image with this superblock and last sequence: the one that it says, where the
-- last session was closed, and else that which recovery gives it
abbrev pub next_by : Super → ℕ → ℕ
next_by head last = if head.clean then head.start else last + 2

-- that of an image
abbrev pub next_start : (blocks : Blocks) → IsSound blocks → ℕ
next_start blocks sound = next_by sound.head sound.last

-- A run may begin on this image: it is sound, the next session's first sequence has so many behind it, and its nonce can be written.
pub record CanBegin (left : ℕ) (blocks : Blocks) : Type 0 where
  pub whole : (b : ℕ) → b < length blocks → length (block_at blocks b) ≡ 4096
  pub sound : IsSound blocks
  pub late : next_start blocks sound + left ≤ 2 ^ 54
  pub named : sound.head.geometry.nonce < 2 ^ 64

-- An image of a run has these values: it is sound, of the sizes that the run found, and the next session's first sequence is
-- at most this.
pub record ShowsValues (g : Geometry) (most : ℕ) (image : Blocks) (values : ℕ → List ℕ) : Type 0 where
  pub sound : IsSound image
  pub sizes : sound.head.geometry ≡ g
  pub next : next_start image sound ≤ most
  pub values_are : (a : ℕ) → values a ≡ value_of (image_in image sound) a

-- Whatever a stop leaves at each moment of a recovery says the same, and the next session begins where it would have begun.
abbrev pub AreStopsServed : Blocks → List Call → (blocks : Blocks) → IsSound blocks → List Call → Type 0
AreStopsServed opening first blocks sound calls =
    (newer older : List Call) (now : Blocks) → calls ≡ newer ++ older → IsImage opening (older ++ first) now
    → (kept : AreKept (image_in blocks sound) now) × (next_start now kept.sound ≡ next_start blocks sound)
