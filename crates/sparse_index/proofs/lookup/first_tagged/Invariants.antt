use Rattle.std.proofs.Common.{◌≡◌, drop, map}
use Rattle.sparse_index.specs.Finds.{first_by}
use Rattle.sparse_index.proofs.lookup.first_tagged.Given as goal

abbrev pub invariant-loop-one : goal.invariant-loop-one
invariant-loop-one l = first_by l.name l.chapters (map (λ one. one.number) l.tagged) ≡ first_by l.name l.chapters (map (λ one. one.number) (drop l.one-index l.tagged))
