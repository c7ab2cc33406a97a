use Rattle.std.proofs.Common.{◌≡◌, ◌≤◌}
use Rattle.slab_writes.specs.Writes.{Raises}
use Rattle.slab_writes.proofs.commit_points.raise_commits.Given as goal

abbrev pub invariant-loop-sector : goal.invariant-loop-sector
invariant-loop-sector l = record {
  raises : Raises l.blocks.handed l.initial.journal.commits l.first l.sector l.journal.commits;
  below : l.sector ≤ l.end;
  same : l.journal ≡ record l.initial.journal { commits = l.journal.commits };
}
