use Rattle.slab_journal.specs.contracts.journal.SlabJournal.{the_view}
use Rattle.slab_journal.proofs.SlabLaws.{may_overwrite_as}
use Rattle.slab_journal.proofs.journal.SlabJournal.may_overwrite.Goals as goal

pub returns : goal.returns
returns c =
    may_overwrite_as (the_view c.self.inside) c.args.self.now c.index-block.result.now c.as_slice.result.now c.deref.result.now c.from.result c.are_covered.result c.self.invariant c.self.view_is
    c.deref.ensures.value c.as_slice.ensures.value c.from.ensures c.index-block.ensures c.are_covered.ensures
