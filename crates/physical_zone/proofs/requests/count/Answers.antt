use Rattle.std.proofs.Common.{rules, [], ◌∷◌, refl}
use Rattle.core_model.specs.PhysicalRules.PhysicalServes.{counts}
use Rattle.core_model.specs.Trace.{Adds}
use Rattle.data_vio.specs.Vios.{logged}
use Rattle.physical_zone.proofs.requests.count.Goals as goal

pub returns : goal.returns
returns c =
    let taken = c.in-Ok.ensures.taken in (
      Adds (logged c.args.vio) ∷ [],
      counts c.in-Some.claim taken.0 c.apply.new.self c.requires.phase (search rules) (search rules) (search rules) (search rules) refl refl (search rules),
    )
