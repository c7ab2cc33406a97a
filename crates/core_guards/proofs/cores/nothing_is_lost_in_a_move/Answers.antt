use Rattle.std.proofs.Common.{◌++◌, ◌∷◌, refl}
use Rattle.core_model.specs.Steps.{with_inbox}
use Rattle.core_guards.proofs.Moves.{arrives, stands}
use Rattle.core_guards.proofs.cores.nothing_is_lost_in_a_move.Goals as goal

pub returns : goal.returns
returns g c = λ source target first rest had_source had_target outbox.
    let plays = c.step.ensures.plays in
    let arrived = arrives g.D.Disk.trust c.args.core.now.sizes _ _ _ _ plays.0 source target first rest plays.1 c.requires.apart had_source had_target outbox in
    (with_inbox target (target.ports.inbox ++ (first ∷ rest)), stands _ _ _ _ target (first ∷ rest) c.requires.apart had_target arrived, refl)
