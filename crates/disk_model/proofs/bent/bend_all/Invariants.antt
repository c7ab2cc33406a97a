use Rattle.std.proofs.Common.{◌≡◌, length}
use Rattle.disk_model.proofs.bent.bend_all.Given as goal

abbrev pub invariant-loop-one : goal.invariant-loop-one
invariant-loop-one l = length l.into ≡ 4096
