use Rattle.step_parts.proofs.SlabLaws.{numbers}
use Rattle.step_parts.proofs.homes.slab_number.Goals as goal

pub returns : goal.returns
returns c = numbers c.args.layout.now.geometry c.args.layout.now.sizes c.args.at _ _ _ c.data_block-first.ensures.block c.needed.ensures c.saturating_sub.ensures
