-- The end of a session: all of it is on the device, and then the superblock says that it is closed.
use Rattle.std.specs.Prelude.{ℕ, ◌≡◌, ◌⊎◌, ◌-◌, ◌≤◌, Bool, true, List, [], ◌∷◌, Contains}
use Rattle.blk_base.specs.Counters.{sector_of_offset}
use Rattle.blk_base.specs.declared.geometry.Super.{Super}
use Rattle.blk_base.specs.declared.journal_entry.CommittedEntry.{CommittedEntry}
use Rattle.blk_base.specs.declared.layout.DataPlace.{DataPlace}
use Rattle.byte_fields.specs.Fields.{number_at}
use Rattle.disk_model.specs.declared.call.Call.{Call}
use Rattle.disk_model.specs.declared.call.Call.TheVariants.{Write, Flush}
use Rattle.disk_model.specs.Images.{IsImage}
use Rattle.disk_model.specs.Log.{Blocks, block_at}
use Rattle.image_layout.specs.Superblock.{super_block}
use Rattle.image_model.specs.Maps.{Image}
use Rattle.image_model.specs.Sound.{IsDataPlace}
use Rattle.journal_stops.specs.Sealed.{Sealed, entries_of, next_of}
use Rattle.recovery_laws.specs.Kept.{AreKept, IsRecovered, image_in, recovered_super}
use Rattle.count_laws.specs.Counters.{SurelyCounters, points_at}
use Rattle.session_stops.specs.Beginnings.{IsToServe, head_in, opened_in}
use Rattle.session_stops.specs.Pages.{PagesStand}
use Rattle.session_stops.specs.Sessions.{ShowsSoundly, StandsAtRest}

-- each update of these entries is counted: whatever a stop leaves in its sector has it
abbrev pub AreCounted : Blocks → List Call → Image → List CommittedEntry → Type 0
AreCounted opening log opened entries =
    (place : DataPlace) (point : ℕ) → IsDataPlace opened.geometry place → Contains (points_at opened.geometry entries place) point
    → SurelyCounters opening log opened.geometry place.slab (sector_of_offset opened.geometry place.offset) (λ bytes. point ≤ number_at 8 0 bytes)

-- All of a session is on its device: it stands at rest, each page says by itself what the entries give, and each update of
-- them is counted.
pub record IsWrittenOut (opening : Blocks) (log : List Call) (base : Blocks) (to : IsToServe base) (blocks : List Sealed) : Type 0 where
  pub stands : StandsAtRest opening log base to blocks
  pub pages : PagesStand opening log (opened_in base to) (entries_of to.sound.head.start blocks) []
  pub counts : AreCounted opening log (opened_in base to) (entries_of to.sound.head.start blocks)

-- the sequence of the newest block; without one it is the one before the session
abbrev pub last_in : (base : Blocks) → IsToServe base → List Sealed → ℕ
last_in base to blocks = next_of to.sound.head.start blocks - 1

-- the superblock of the closed session
abbrev pub closed_head : (base : Blocks) → IsToServe base → List Sealed → Super
closed_head base to blocks = recovered_super to.sound.head.geometry (last_in base to blocks)

-- the write that closes
abbrev pub closing_write : (base : Blocks) → IsToServe base → List Sealed → Bool → Call
closing_write base to blocks ok = Write (record { 0 = 0 }) (super_block (closed_head base to blocks)) ok

-- all calls that close: a flush, the superblock, and a flush
abbrev pub closing_calls : (base : Blocks) → IsToServe base → List Sealed → List Call → List Call
closing_calls base to blocks log = Flush true ∷ closing_write base to blocks true ∷ Flush true ∷ log

-- While it is closed: these blocks are sound and say the same as an image that could have been left before, which shows all
-- entries and has each other block; their superblock is the session's, with the same last sequence, or the closed one.
pub record IsClosing (opening : Blocks) (log : List Call) (base : Blocks) (to : IsToServe base) (blocks : List Sealed) (now : Blocks) : Type 0 where
  pub old : Blocks
  pub is_image : IsImage opening log old
  pub shows : ShowsSoundly (opened_in base to) (head_in base to) old (entries_of to.sound.head.start blocks)
  pub kept : AreKept (image_in old shows.sound) now
  pub others : (b : ℕ) → 1 ≤ b → block_at now b ≡ block_at old b
  pub head : ((kept.sound.head ≡ head_in base to) × (kept.sound.last ≡ last_in base to blocks)) ⊎ (kept.sound.head ≡ closed_head base to blocks)

-- Once it is closed: they say the same, with each other block, and are closed.
pub record IsClosedImage (opening : Blocks) (log : List Call) (base : Blocks) (to : IsToServe base) (blocks : List Sealed) (now : Blocks) : Type 0 where
  pub old : Blocks
  pub is_image : IsImage opening log old
  pub shows : ShowsSoundly (opened_in base to) (head_in base to) old (entries_of to.sound.head.start blocks)
  pub recovered : IsRecovered (image_in old shows.sound) (last_in base to blocks) now
  pub others : (b : ℕ) → 1 ≤ b → block_at now b ≡ block_at old b
