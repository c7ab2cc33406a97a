use Rattle.grow_image.proofs.SearchLaws.{unreadable_at}
use Rattle.grow_image.specs.NewAddresses.{IsUnreadable}
use Rattle.journal_window.proofs.AnswerLaws.{passed_on}
use Rattle.grow_image.proofs.search.mapped_at.Goals as goal

pub returns-in_err-slot-clause-fault : goal.returns-in_err-slot-clause-fault
returns-in_err-slot-clause-fault c =
    passed_on c.from_residual.result (IsUnreadable c.args.head.now c.args.range c.args.block.now) c.in_err-slot.field-0.0 c.from_residual.ensures.1
    (unreadable_at c.args.head.now c.args.range c.args.block.now c.args.number c.in-Some.address c.in_err-slot.field-0.0 c.requires.level c.requires.tree c.requires.inside
    c.in-Some.ensures.some.0 c.in-Some.ensures.some.1 c.in_err-slot.ensures.fault)
