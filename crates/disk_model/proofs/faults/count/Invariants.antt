use Rattle.std.proofs.Common.{◌≡◌, ◌≤◌, ◌++◌, length, take, drop}
use Rattle.disk_model.specs.Plans.{counted}
use Rattle.disk_model.proofs.faults.count.Given as goal

abbrev pub invariant-loop-rest : goal.invariant-loop-rest
invariant-loop-rest l = record {
  within : l.rest ≤ length l.initial.plan.items;
  so_far : l.plan.items ≡ take l.rest l.initial.plan.items ++ counted (drop l.rest l.initial.plan.items) l.kind l.at.0;
}

abbrev pub decreases-loop-rest : goal.decreases-loop-rest
decreases-loop-rest l = l.rest
