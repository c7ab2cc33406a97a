use Rattle.std.proofs.Common.{◌≡◌, map, take}
use Rattle.session_opening.proofs.counts.commits_of.Given as goal

abbrev pub invariant-loop-sector : goal.invariant-loop-sector
invariant-loop-sector l = l.commits.items ≡ map (λ sector. sector.commit) (take l.sector-index l.sectors)
