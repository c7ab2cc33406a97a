use Rattle.std.proofs.Common.{refl, inl}
use Rattle.vdo_cli.proofs.ready.get_ready.Goals as goal

pub returns-in-Err-clause-unready : goal.returns-in-Err-clause-unready
returns-in-Err-clause-unready g c = inl (record { none = refl; recovery = c.in-Err.ensures })
