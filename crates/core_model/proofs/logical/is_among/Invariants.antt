use Rattle.std.proofs.Common.{◌≡◌, take, reverse}
use Rattle.core_model.specs.LogicalRules.{is_among}
use Rattle.core_model.proofs.logical.is_among.Given as goal

abbrev pub invariant-loop-other : goal.invariant-loop-other
invariant-loop-other l = l.found ≡ is_among l.at.0 (reverse (take l.other-index l.retired))
