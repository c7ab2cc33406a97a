-- How the writing of a forced rebuild ends.
use Rattle.std.specs.Prelude.{ℕ, ◌≡◌, List, ◌++◌, Result, Ok, Err, OnErr}
use Rattle.blk_base.specs.declared.geometry.Geometry.{Geometry}
use Rattle.blk_base.specs.declared.place.Mapping.{Mapping}
use Rattle.disk_model.specs.declared.call.Call.{Call}
use Rattle.disk_model.specs.declared.call.Failed.{Failed}
use Rattle.disk_model.specs.Log.{Blocks}
use Rattle.disk_model.specs.Seen.{Later, Seen, Stays}
use Rattle.disk_model.specs.Trust.{Trust}
use Rattle.disk_model.specs.Since.{SinceThen}
use Rattle.image_format.specs.Formats.{LastFailed}
use Rattle.image_model.specs.Maps.{Image}
use Rattle.rebuild.specs.Acts.{AreMade, Grows, IsPageCall}
use Rattle.replay_map.specs.Changes.{AreNewest}
use Rattle.replay_map.specs.Replayed.{AreAllLinks}
use Rattle.replay_map.specs.declared.changes.SlotId.{SlotId}
use Rattle.replay_map.specs.declared.links.Link.{Link}
use Rattle.force_rebuild.specs.Calls.{ArePagePuts, forced_calls}
use Rattle.force_rebuild.specs.Kept.{AreStopsKept}
use Rattle.force_rebuild.specs.Starts.{IsStart, image_at}
use Rattle.force_rebuild.specs.Written.{AreMappings}

-- What is needed of an image: it has these sizes, changes and links, and these are its numbers of mappings.
pub record HasContents (g : Geometry) (changes : List (SlotId × Mapping)) (pages : List Link) (counters : List ℕ) (image : Image) : Type 0 where
  pub sizes : image.geometry ≡ g
  pub newest : AreNewest image.window changes
  pub links : AreAllLinks image pages
  pub mappings : AreMappings image counters

-- Of an honest device, at a start.

-- all pages and slabs were written since, with the counts that the map gives, and the superblock behind them
pub record IsAllMade (image : Image) (last : ℕ) (first now : Seen) : Type 0 where
  pub puts : List Call
  pub pages : ArePagePuts image puts
  pub counters : List ℕ
  pub mappings : AreMappings image counters
  pub logged : now.log ≡ forced_calls image.geometry last counters puts ++ first.log

-- whatever a stop leaves maps the same, at each moment since, and the index wasn't written
abbrev pub IsKeptSince : Image → Seen → Seen → Type 0
IsKeptSince image first now = SinceThen (AreStopsKept image first.opening first.log) first.log now.log

abbrev pub Ends : {T E : Type 0} → Image → ℕ → Seen → Seen → Result T E → Type 0
Ends image last first now (Ok _) = IsAllMade image last first now
Ends image last first now (Err _) = IsKeptSince image first now

-- What writing all of an image answers: where it fails, its last call failed. From each start on, after reads and where the
-- image has what is needed, these sizes, these counts and this last sequence, it ends so.
pub record WritesAll (trust : Trust) (before now : Seen) (Needs : Image → Type 0) (last : ℕ) (result : Result (Unit {0}) Failed) : Type 0 where
  pub stays : Stays before now
  pub later : Later before now
  pub grows : Grows trust.tells before now
  pub failed : OnErr result (LastFailed trust.tells before now)
  pub ends : (first : Seen) (blocks : Blocks) (start : IsStart trust first blocks) (calls : List Call) → AreMade (IsPageCall (image_at blocks start)) first before calls
      → Needs (image_at blocks start) → start.is.last ≡ last → Ends (image_at blocks start) last first now result
