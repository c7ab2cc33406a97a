use Rattle.std.proofs.Common.{arith}
use Rattle.format_guards.proofs.SlabFacts.{nothing_added}
use Rattle.format_guards.proofs.slab_updates.sectors_with_another_nonce_add_nothing.Goals as goal

pub returns : goal.returns
returns g c =
    nothing_added g.D.Disk.trust c.args.layout.now.geometry (g.D.Disk.seen c.args.device.now) (g.D.Disk.seen c.read_slabs.new.device) _ _ c.read_slabs.result (omega arith) c.read_slabs.ensures.found
