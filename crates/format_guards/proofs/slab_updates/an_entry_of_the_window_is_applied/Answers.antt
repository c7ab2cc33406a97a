use Rattle.format_guards.proofs.SlabFacts.{all_applied}
use Rattle.format_guards.proofs.slab_updates.an_entry_of_the_window_is_applied.Goals as goal

pub returns : goal.returns
returns g c =
    all_applied g.D.Disk.trust c.args.head.now.geometry c.args.window.now (g.D.Disk.seen c.args.device.now) (g.D.Disk.seen c.counts_with.new.device)
    c.counts_with.result c.counts_with.ensures.counts
