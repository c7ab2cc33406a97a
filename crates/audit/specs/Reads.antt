-- What was read of an image: its map and its counts.
use Rattle.std.specs.Prelude.{◌≡◌, ◌≤◌, All, length}
use Rattle.blk_base.specs.Counters.{limit_of}
use Rattle.blk_base.specs.declared.geometry.Super.{Super as Superblock}
use Rattle.blk_base.specs.Regions.{data_blocks}
use Rattle.count_updates.specs.Numbers.{all_sectors}
use Rattle.disk_model.specs.Seen.{Seen}
use Rattle.disk_model.specs.Trust.{Trust}
use Rattle.journal_window.specs.States.{WindowState}
use Rattle.replay_counts.specs.Recovered.{HasCounts}
use Rattle.replay_map.specs.Replayed.{HasMap}
use Rattle.audit.specs.Audits.{BothShow}
use Rattle.audit.specs.declared.forms.Contents.{Contents}

-- each image with this window that has what was read has this map and these counts; and the lists are as long as its sizes say, and
-- no count is above the limit
pub record AreContents (trust : Trust) (head : Superblock) (window : WindowState) (before now : Seen) (contents : Contents) : Type 0 where
  pub entries : contents.map.entries ≡ length window.entries
  pub blocks : length contents.counts.counts.items ≡ data_blocks head.geometry
  pub sectors : length contents.counts.sectors.items ≡ all_sectors head.geometry
  pub limit : All (λ count. count ≤ limit_of head.geometry) contents.counts.counts.items
  pub shown : BothShow trust head window before now
      (λ image. HasMap image contents.map × HasCounts image contents.counts.counts.items contents.counts.sectors.items)
