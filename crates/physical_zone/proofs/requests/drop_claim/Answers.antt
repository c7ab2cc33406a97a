use Rattle.std.proofs.Common.{rules, [], ◌∷◌, refl}
use Rattle.core_model.specs.PhysicalRules.PhysicalServes.{drops, drops_none}
use Rattle.core_model.specs.Trace.{Drops}
use Rattle.zone_counts.specs.ByBlock.{served_ticket}
use Rattle.physical_zone.proofs.requests.drop_claim.Goals as goal
use Rattle.physical_zone.proofs.requests.drop_claim.Goals.{in-Some, in_default}

pub returns : goal.returns
returns c =
    elim c.match-take_claim.branch [
      | in-Some w ↦ (
        Drops c.args.vio.request w.in-Some.claim (served_ticket w.drop_claim.ensures.serves) ∷ [],
        drops w.in-Some.claim w.drop_claim.new.self c.requires.phase (search rules) (search rules) w.drop_claim.ensures (search rules) refl (search rules),
      )
      | in_default w ↦ ([], drops_none c.requires.phase (search rules) (search rules) refl (search rules))
    ]
