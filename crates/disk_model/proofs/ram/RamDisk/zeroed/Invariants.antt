use Rattle.std.proofs.Common.{◌≡◌, replicate}
use Rattle.std.specs.Vec.{vec_capacity}
use Rattle.blk_base.specs.Sectors.{zero_block}
use Rattle.disk_model.proofs.ram.RamDisk.zeroed.Given as goal

abbrev pub invariant-loop-made : goal.invariant-loop-made
invariant-loop-made l = record {
  blocks : l.zeros.items ≡ replicate l.made zero_block;
  room : vec_capacity l.zeros ≡ vec_capacity l.initial.zeros;
}
