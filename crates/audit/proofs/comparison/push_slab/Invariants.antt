use Rattle.std.proofs.Common.{◌≡◌, ◌+◌, ◌*◌}
use Rattle.audit.specs.Tallies.{differences_below, number_in}
use Rattle.audit.proofs.comparison.push_slab.Given as goal

abbrev pub invariant-loop-offset : goal.invariant-loop-offset
invariant-loop-offset l = l.differs.items ≡ differences_below l.layout.geometry l.stored (number_in l.mapped) (l.slab * l.layout.geometry.slab_blocks + l.offset)
