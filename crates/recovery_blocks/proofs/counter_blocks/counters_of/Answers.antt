use Rattle.recovery_blocks.proofs.CountLaws.{none_counted}
use Rattle.recovery_blocks.proofs.counter_blocks.counters_of.Goals as goal

pub loop-offset-init : goal.loop-offset-init
loop-offset-init c = none_counted c.args.layout.now.geometry c.args.slab c.args.n c.args.counts.now c.counters_per_sector-width.result c.counters_per_sector-width.ensures
