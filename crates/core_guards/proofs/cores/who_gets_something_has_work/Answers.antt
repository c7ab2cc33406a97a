use Rattle.std.proofs.Common.{◌∷◌}
use Rattle.core_guards.proofs.Moves.{arrives, has_work, stands}
use Rattle.core_guards.proofs.cores.who_gets_something_has_work.Goals as goal

pub returns : goal.returns
returns g c = λ source target first rest had_source had_target outbox left.
    let plays = c.step.ensures.plays in
    let arrived = arrives g.D.Disk.trust c.args.core.now.sizes _ _ _ _ plays.0 source target first rest plays.1 c.requires.apart had_source had_target outbox in
    has_work _ _ _ _ target first rest c.workers.ensures (stands _ _ _ _ target (first ∷ rest) c.requires.apart had_target arrived) left
