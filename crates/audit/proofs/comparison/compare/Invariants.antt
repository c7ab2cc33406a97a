use Rattle.std.proofs.Common.{◌≡◌, ◌*◌}
use Rattle.audit.specs.Tallies.{differences_below, number_in}
use Rattle.audit.proofs.comparison.compare.Given as goal

abbrev pub invariant-loop-slab : goal.invariant-loop-slab
invariant-loop-slab l = l.differs.items ≡ differences_below l.layout.geometry l.stored (number_in l.mapped) (l.slab * l.layout.geometry.slab_blocks)
