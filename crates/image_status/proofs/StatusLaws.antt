-- How much of the space of an image is used stands in its counts.
use Rattle.std.proofs.Common.{ℕ, ◌≡◌, Bool, sym, ◌∙◌, ap, slice_index}
use Rattle.audit.proofs.AuditLaws.{both_follow}
use Rattle.audit.specs.Reads.{AreContents}
use Rattle.audit.specs.Reports.{AreUsed, HasNoFault}
use Rattle.audit.specs.Tallies.{used_in}
use Rattle.audit.specs.declared.forms.Contents.{Contents}
use Rattle.blk_base.specs.declared.geometry.Super.{Super}
use Rattle.blk_base.specs.Regions.{data_blocks as all_blocks}
use Rattle.count_updates.specs.Numbers.{block_number}
use Rattle.disk_model.specs.Seen.{Seen}
use Rattle.disk_model.specs.Trust.{Trust}
use Rattle.image_status.specs.Statuses.{HasSpace}
use Rattle.journal_window.specs.States.{WindowState}
use Rattle.replay_counts.specs.Recovered.{HasCounts}
use Rattle.replay_map.specs.Replayed.{HasMap}

pub space_shown : (trust : Trust) (head : Super) (window : WindowState) (before now : Seen) (contents : Contents) (used all : ℕ)
    → AreContents trust head window before now contents → used ≡ used_in contents.counts.counts.items → all ≡ all_blocks head.geometry
    → HasSpace trust head window before now used all
space_shown trust head window before now contents used all are used_is all_is =
    let counts = contents.counts.counts.items in
    both_follow trust head window before now (λ image. HasMap image contents.map × HasCounts image counts contents.counts.sectors.items)
    (λ image. HasNoFault image × AreUsed image used × (all ≡ all_blocks image.geometry))
    (λ image same has. (
      record {
        pages = has.0.pages;
        stored = λ place inside. (slice_index counts (block_number image.geometry place), has.1.stored place inside);
        unshared = has.0.unshared;
      },
      record { counts = counts; size = has.1.blocks; stored = has.1.stored; sum = used_is },
      all_is ∙ ap all_blocks (sym same),
    ))
    are.shown
