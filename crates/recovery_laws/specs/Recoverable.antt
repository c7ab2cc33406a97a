-- Images that recovery takes, sound or not, and what it keeps of them.
use Rattle.std.specs.Prelude.{ℕ, ◌≡◌, ◌+◌, ◌^◌, ◌<◌, ◌≤◌, ◌++◌, false, List, get_or}
use Rattle.blk_base.specs.Sectors.{sector, zero_block}
use Rattle.blk_base.specs.declared.geometry.Geometry.{Geometry}
use Rattle.blk_base.specs.declared.geometry.Super.{Super}
use Rattle.blk_base.specs.declared.journal_entry.CommittedEntry.{CommittedEntry}
use Rattle.blk_base.specs.declared.journal_entry.Entry.{Entry}
use Rattle.disk_model.specs.declared.call.Call.{Call}
use Rattle.disk_model.specs.Images.{IsImage}
use Rattle.disk_model.specs.Log.{Blocks}
use Rattle.image_layout.specs.Values.{journal_of}
use Rattle.image_model.specs.Looked.{HasOneImageButIndex}
use Rattle.image_model.specs.Maps.{Image, ArePagesGood}
use Rattle.image_model.specs.Sound.{AreStored, AreUnshared, IsSound, Opens, image_of}
use Rattle.journal_codec.specs.Grammar.{IsSector}
use Rattle.recovery_laws.specs.Kept.{AreIndexMissed, IsToRecover, SayTheSame, recovered_super}
use Rattle.recovery_laws.specs.Written.{AreOthersKept, AreRestKept}

-- no sector of the recovery journal is from a later time
abbrev pub IsJournalOfItsTime : Geometry → Blocks → ℕ → Type 0
IsJournalOfItsTime g blocks last = (slot number sequence head : ℕ) (entries : List Entry) → slot < g.journal → number < 8
    → IsSector g.nonce number (sector number (get_or (journal_of g blocks) slot zero_block)) sequence head entries → sequence ≤ last + 1

-- These blocks can be opened and have no fault, and nothing in their recovery journal is from a later time. So they are those
-- of a sound image but for the counts: a stored count needn't be the number of mappings.
pub record IsRecoverable (blocks : Blocks) : Type 0 where
  pub head : Super
  pub last : ℕ
  pub window : List CommittedEntry
  pub opens : Opens blocks head last window
  pub pages : ArePagesGood (image_of head blocks window)
  pub stored : AreStored (image_of head blocks window)
  pub unshared : AreUnshared (image_of head blocks window)
  pub timely : IsJournalOfItsTime head.geometry blocks last

-- they, as they are opened
abbrev pub recoverable_image : (blocks : Blocks) → IsRecoverable blocks → Image
recoverable_image blocks is = image_of is.head blocks is.window

-- a sound image is one
abbrev pub sound_recoverable : (blocks : Blocks) → IsSound blocks → IsRecoverable blocks
sound_recoverable blocks sound = record {
  head = sound.head;
  last = sound.last;
  window = sound.window;
  opens = sound.opens;
  pages = sound.pages;
  stored = sound.stored;
  unshared = sound.unshared;
  timely = sound.timely.sectors;
}

-- These blocks can be recovered, and say the same: a stored count that was wrong is as wrong as it was. Each block but the
-- superblock's, the pages', the counters' and the index's has the bytes that it had, and the counters behind the slabs' ends are
-- 0, or what they were.
pub record StillSays (old : Image) (blocks : Blocks) : Type 0 where
  pub is : IsRecoverable blocks
  pub same : SayTheSame old (recoverable_image blocks is)
  pub others : AreOthersKept old blocks
  pub rest : AreRestKept old blocks

-- Whatever a stop leaves at each moment since the log was the first one, once all these calls were made and before: it says
-- the same. Of the index nothing is written.
pub record AreStopsStill (blocks : Blocks) (is : IsRecoverable blocks) (opening : Blocks) (first calls : List Call) : Type 0 where
  pub still : (newer older : List Call) (now : Blocks) → calls ≡ newer ++ older → IsImage opening (older ++ first) now → StillSays (recoverable_image blocks is) now
  pub index : AreIndexMissed is.head.geometry calls

-- the image was recovered: it says the same, it is closed, and the next session begins two behind the last sequence
pub record IsClosedStill (old : Image) (last : ℕ) (blocks : Blocks) : Type 0 where
  pub still : StillSays old blocks
  pub closed : still.is.head ≡ recovered_super old.geometry last

-- An image to recover, sound or not: nothing is pending on its device but in the index, it can be recovered, and its last
-- session wasn't closed.
pub record HasRecoverable (opening : Blocks) (first : List Call) (blocks : Blocks) : Type 0 where
  pub one : HasOneImageButIndex opening first blocks
  pub is : IsRecoverable blocks
  pub unclean : is.head.clean ≡ false
  pub named : is.head.geometry.nonce < 2 ^ 64

-- a sound image to recover is one
abbrev pub as_recoverable : (opening : Blocks) (first : List Call) (blocks : Blocks) → IsToRecover opening first blocks → HasRecoverable opening first blocks
as_recoverable opening first blocks to = record { one = to.one; is = sound_recoverable blocks to.sound; unclean = to.unclean; named = to.named }
