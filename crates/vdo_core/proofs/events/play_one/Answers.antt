use Rattle.vdo_core.proofs.PlayLaws.{comes_less, step_plays, move_plays, one_leads}
use Rattle.vdo_core.proofs.events.play_one.Goals as goal

pub move_items-requires-clause-within : goal.move_items-requires-clause-within
move_items-requires-clause-within g c = λ n z had. (c.requires.can n z had).within

pub returns-in-Step-clause-plays : goal.returns-in-Step-clause-plays
returns-in-Step-clause-plays g c =
    rw c.in-Step.is (step_plays g.D.Disk.trust c.args.sizes.now _ c.args.zones.now c.step.new.zones _ _ c.step.result c.step.ensures.steps)

pub returns-in-Step-clause-leads : goal.returns-in-Step-clause-leads
returns-in-Step-clause-leads g c =
    one_leads g.D.Disk.trust c.args.sizes.now c.args.event c.args.zones.now c.step.new.zones _ _ (returns-in-Step-clause-plays g c)

pub returns-in-Step-clause-work : goal.returns-in-Step-clause-work
returns-in-Step-clause-work g c = rw c.in-Step.is (comes_less _ _ _ _ _ c.step.result (λ done. tt) (λ still. still.0) c.step.ensures.steps)

pub returns-in-Move-clause-plays : goal.returns-in-Move-clause-plays
returns-in-Move-clause-plays g c =
    rw c.in-Move.is (move_plays g.D.Disk.trust c.args.sizes.now _ _ c.args.zones.now c.move_items.new.zones _ c.move_items.result c.move_items.ensures)

pub returns-in-Move-clause-leads : goal.returns-in-Move-clause-leads
returns-in-Move-clause-leads g c =
    one_leads g.D.Disk.trust c.args.sizes.now c.args.event c.args.zones.now c.move_items.new.zones _ _ (returns-in-Move-clause-plays g c)

pub returns-in-Move-clause-work : goal.returns-in-Move-clause-work
returns-in-Move-clause-work g c = rw c.in-Move.is (comes_less _ _ _ _ _ c.move_items.result (λ all. tt) (λ same. same) c.move_items.ensures)
