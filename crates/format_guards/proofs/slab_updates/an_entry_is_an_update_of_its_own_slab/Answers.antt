use Rattle.format_guards.proofs.SlabFacts.{all_there}
use Rattle.format_guards.proofs.slab_updates.an_entry_is_an_update_of_its_own_slab.Goals as goal

pub returns : goal.returns
returns g c =
    all_there g.D.Disk.trust c.args.layout.now.geometry (g.D.Disk.seen c.args.device.now) (g.D.Disk.seen c.read_slabs.new.device) _ _ c.read_slabs.result c.read_slabs.ensures.found
