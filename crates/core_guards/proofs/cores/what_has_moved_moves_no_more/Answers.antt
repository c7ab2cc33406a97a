use Rattle.std.proofs.Common.{subst, sym, ◌<◌, ℕ}
use Rattle.core_guards.proofs.Moves.{as_many, no_move, nothing_left}
use Rattle.core_guards.proofs.cores.what_has_moved_moves_no_more.Goals as goal

pub receivers-requires : goal.receivers-requires
receivers-requires g c =
    let plays = c.step.ensures.plays in
    subst (λ (n : ℕ). c.args.from < n) (sym (as_many g.D.Disk.trust c.args.core.now.sizes _ _ _ _ plays.0 plays.1)) c.requires.there

pub returns : goal.returns
returns g c =
    let plays = c.step.ensures.plays in
    let none = nothing_left g.D.Disk.trust c.args.core.now.sizes _ _ _ _ plays.0 plays.1 in
    no_move _ _ _ _ _ c.receivers.ensures none
