-- Quiet writes: one that finds no space with nothing else under way, right behind a flush, or as the first request of all. Of its
-- image all data blocks but a few are used.
use Rattle.std.specs.Prelude.{ℕ, ◌-◌, ◌≡◌, ◌⊎◌, ◌<◌, ◌≤◌, IsSome, List, [], ◌∷◌, ◌++◌, length, Contains}
use Rattle.blk_base.specs.Regions.{IsDataBlock}
use Rattle.blk_base.specs.declared.geometry.Geometry.{Geometry}
use Rattle.blk_base.specs.declared.place.Pbn.{Pbn}
use Rattle.blk_base.specs.declared.request.Answer.TheVariants as reply
use Rattle.blk_base.specs.declared.request.Writer.{Writer}
use Rattle.disk_model.specs.Images.{IsImage}
use Rattle.disk_model.specs.Log.{Blocks}
use Rattle.disk_model.specs.declared.call.Call.{Call}
use Rattle.vdo_model.specs.DeskLog.{answer_of, begun}
use Rattle.vdo_model.specs.Stops.{length_at}
use Rattle.vdo_model.specs.declared.report.DeskLine.{DeskLine}
use Rattle.vdo_model.specs.declared.report.DeskLine.TheVariants.{Begin, Answer}
use Rattle.vdo_model.specs.declared.report.FlushMark.{FlushMark}
use Rattle.vdo_model.specs.declared.report.RunReport.{RunReport}

-- each request that was begun was answered
abbrev pub AllBegunAreAnswered : List DeskLine → Type 0
AllBegunAreAnswered desk = (w : Writer) → w.number < begun w.stream desk → IsSome (answer_of desk w)

-- all data blocks are used but so many at most
pub record AreUsedBut (few : ℕ) (g : Geometry) (IsUsed : Pbn → Type 0) : Type 0 where
  pub others : List Pbn
  pub at_most : length others ≤ few
  pub used : (x : Pbn) → IsDataBlock g x.0 → IsUsed x ⊎ Contains others x

-- with the pages that a write may have taken, so many data blocks may be unused: one for each page of its path that is no root
abbrev pub IsFull : Geometry → (Pbn → Type 0) → Type 0
IsFull g IsUsed = AreUsedBut (g.height - 1) g IsUsed

-- the lines from a flush that was answered with this mark to the answer of the write that found no space
abbrev pub flush_and_write : FlushMark → Writer → List DeskLine → List DeskLine
flush_and_write f w older = Answer w reply.NoSpace ∷ Begin w ∷ Answer f.request reply.Ok ∷ Begin f.request ∷ older

-- A write found no space right behind a flush, with nothing else under way: in each image that a stop behind the flush of the device
-- could leave, the data blocks are used.
abbrev pub IsFullAtFlush : (Blocks → Pbn → Type 0) → Geometry → Blocks → List Call → RunReport → List Call → Type 0
IsFullAtFlush IsUsed g blocks before report calls =
    (newer older : List DeskLine) (f : FlushMark) (w : Writer) → report.desk ≡ newer ++ flush_and_write f w older → AllBegunAreAnswered older → Contains report.marks f
    → (later prefix : List Call) → calls ≡ later ++ prefix → length prefix ≡ length_at calls f.calls
    → (image : Blocks) → IsImage blocks (prefix ++ before) image → IsFull g (IsUsed image)

-- The first request of all found no space, with nothing else under way: so are those of the image that was opened.
abbrev pub IsFullAtFirst : (Blocks → Pbn → Type 0) → Geometry → Blocks → List Call → RunReport → Type 0
IsFullAtFirst IsUsed g blocks before report =
    (newer : List DeskLine) (w : Writer) → report.desk ≡ newer ++ Answer w reply.NoSpace ∷ Begin w ∷ []
    → (image : Blocks) → IsImage blocks before image → IsFull g (IsUsed image)

pub record QuietRight (IsUsed : Blocks → Pbn → Type 0) (g : Geometry) (blocks : Blocks) (before : List Call) (report : RunReport) (calls : List Call) : Type 0 where
  pub at_flush : IsFullAtFlush IsUsed g blocks before report calls
  pub at_first : IsFullAtFirst IsUsed g blocks before report
