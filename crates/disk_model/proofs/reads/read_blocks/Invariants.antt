use Rattle.std.proofs.Common.{◌≡◌, reverse, vec_len}
use Rattle.disk_model.specs.Since.{WereRead}
use Rattle.disk_model.proofs.reads.read_blocks.Given as goal

abbrev pub invariant-loop-i : goal.invariant-loop-i
invariant-loop-i g l =
    let disk = g.D.Disk in
    record {
      count : vec_len l.blocks ≡ l.i;
      read : WereRead disk.trust l.fn.first.0 (disk.seen l.fn.device) (disk.seen l.device) (reverse l.blocks.items);
    }
