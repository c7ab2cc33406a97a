-- The beginning of a session: an image that was closed, whose superblock says so no more.
use Rattle.std.specs.Prelude.{ℕ, ◌≡◌, ◌⊎◌, ◌+◌, ◌<◌, ◌≤◌, ◌^◌, false, IsTrue, List, length, Ok}
use Rattle.blk_base.specs.declared.geometry.Super.{Super}
use Rattle.disk_model.specs.declared.call.Call.{Call}
use Rattle.disk_model.specs.Log.{Blocks, block_at}
use Rattle.image_layout.specs.Superblock.{super_block, super_of}
use Rattle.image_model.specs.Maps.{Image}
use Rattle.image_model.specs.Sound.{IsSound}
use Rattle.image_model.specs.Looked.{is_looked_at}
use Rattle.recovery_laws.specs.Kept.{SayTheSame, image_in}
use Rattle.vdo_model.specs.Journals.{Surely}

-- An image on which a session may begin: it is sound and closed, has sequences left for the session, and its nonce can be
-- written.
pub record IsToServe (base : Blocks) : Type 0 where
  pub sound : IsSound base
  pub clean : IsTrue sound.head.clean
  pub late : sound.head.start + 2 ^ 19 ≤ 2 ^ 54
  pub named : sound.head.geometry.nonce < 2 ^ 64

-- it, as it is opened
abbrev pub opened_in : (base : Blocks) → IsToServe base → Image
opened_in base to = image_in base to.sound

-- its superblock while the session goes on: not closed
abbrev pub head_in : (base : Blocks) → IsToServe base → Super
head_in base to = record { geometry = to.sound.head.geometry; clean = false; start = to.sound.head.start }

-- bytes of its superblock, as it was opened or while the session goes on
abbrev pub IsHeadOf : (base : Blocks) → IsToServe base → List ℕ → Type 0
IsHeadOf base to content = (super_of content (length base) ≡ Ok to.sound.head) ⊎ (super_of content (length base) ≡ Ok (head_in base to))

-- Nothing was done yet but to the superblock: whatever a stop leaves, it is the one of the opened image or that of the
-- session, and each other block is what it was, the index aside.
pub record IsBeginning (opening : Blocks) (log : List Call) (base : Blocks) (to : IsToServe base) : Type 0 where
  pub size : length opening ≡ length base
  pub whole : (b : ℕ) → b < length base → length (block_at base b) ≡ 4096
  pub super : Surely opening log 0 (IsHeadOf base to)
  pub others : (b : ℕ) → 1 ≤ b → b < length base → IsTrue (is_looked_at to.sound.head.geometry b) → Surely opening log b (λ content. content ≡ block_at base b)

-- the session's superblock stands, whatever a stop leaves
abbrev pub HeadStands : Blocks → List Call → (base : Blocks) → IsToServe base → Type 0
HeadStands opening log base to = Surely opening log 0 (λ content. content ≡ super_block (head_in base to))

-- These blocks are a sound image that says the same as the opened one; its superblock is one of the two.
pub record IsAsOpened (base : Blocks) (to : IsToServe base) (image : Blocks) : Type 0 where
  pub sound : IsSound image
  pub head : (sound.head ≡ to.sound.head) ⊎ (sound.head ≡ head_in base to)
  pub last : sound.last ≡ to.sound.last
  pub window : sound.window ≡ to.sound.window
  pub same : SayTheSame (opened_in base to) (image_in image sound)
