use Rattle.crash_images.proofs.values.value_at.Goals as goal

pub read_value-requires-clause-leaf : goal.read_value-requires-clause-leaf
read_value-requires-clause-leaf g c = rw (c.deref.ensures.value, c.leaf.ensures) at c.find_block-leaf.ensures
