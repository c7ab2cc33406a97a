use Rattle.core_guards.proofs.Moves.{found_behind}
use Rattle.core_guards.proofs.cores.a_write_is_found_behind_another.Goals as goal

pub returns : goal.returns
returns c = rw (c.latest.ensures, c.push-2.ensures, c.push.ensures) (found_behind c.args.write c.args.other _ c.requires.apart)
