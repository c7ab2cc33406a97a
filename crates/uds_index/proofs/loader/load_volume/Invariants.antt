use Rattle.uds_index.specs.Held.{IsLoading}
use Rattle.uds_index.proofs.loader.load_volume.Given as goal

abbrev pub invariant-loop-number : goal.invariant-loop-number
invariant-loop-number g l = IsLoading l.layout.geometry g.D.Disk.trust (g.D.Disk.seen l.fn.device) (g.D.Disk.seen l.device) l.number l.volume
