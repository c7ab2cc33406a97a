use Rattle.core_guards.proofs.Moves.{takes_it}
use Rattle.core_guards.proofs.cores.each_number_chooses_one_event.Goals as goal

pub returns : goal.returns
returns g c = λ e not_yet turn.
    let drives = c.drive.ensures.drives in
    let took = takes_it g.D.Disk.trust c.args.core.now.sizes drives.0 _ _ drives.1 e
    (λ zones state a b. c.a_turn_takes_one_event.ensures c.args.core.now.sizes zones state a b) drives.2 c.drive.ensures.done not_yet turn in
    took
