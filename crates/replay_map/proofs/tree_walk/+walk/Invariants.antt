use Rattle.disk_model.specs.Since.{IsUntouched}
use Rattle.replay_map.proofs.LeftLaws.{IsWalked}
use Rattle.replay_map.proofs.tree_walk.+walk.Given as goal

abbrev pub decreases-walk : goal.decreases-walk
decreases-walk g l = l.top.page.level

abbrev pub invariant-loop-place : goal.invariant-loop-place
invariant-loop-place g l =
    let disk = g.D.Disk in
    record {
      walked : IsWalked disk.trust l.layout.geometry l.changes l.fn.top (disk.seen l.fn.device) (disk.seen l.device) l.fn.found l.found l.place l.place-end;
      untouched : IsUntouched disk.trust.tells (disk.seen l.fn.device) (disk.seen l.device);
    }
