use Rattle.image_format.specs.Calls.{zeros_from}
use Rattle.image_format.specs.Runs.{WereMade}
use Rattle.image_format.proofs.calls.put_zeros.Given as goal

abbrev pub invariant-loop-i : goal.invariant-loop-i
invariant-loop-i g l =
    let disk = g.D.Disk in
    WereMade disk.trust.tells (disk.seen l.fn.device) (disk.seen l.device) (zeros_from l.first.0 l.i)
