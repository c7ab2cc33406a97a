use Rattle.recovery_blocks.proofs.CountLaws.{counts_put}
use Rattle.recovery_blocks.proofs.counter_blocks.put_counts.Goals as goal

pub returns-clause-put : goal.returns-clause-put
returns-clause-put c =
    counts_put c.args.layout.now.geometry c.args.slab c.args.i c.args.counts.now.counts.items c.args.counts.now.sectors.items c.args.block.now c.encode_reference.new.into
    c.sectors_of-sectors.result c.sectors_of-sectors.ensures c.encode_reference.ensures.bytes
