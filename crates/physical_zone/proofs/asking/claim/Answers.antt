use Rattle.std.proofs.Common.{rules, [], ◌∷◌, refl, subst, sym}
use Rattle.core_model.specs.PhysicalRules.{PhysicalServes}
use Rattle.core_model.specs.PhysicalRules.PhysicalServes.{claims}
use Rattle.core_model.specs.Trace.{Trace, Takes}
use Rattle.step_parts.specs.Rules.{Applies}
use Rattle.zone_counts.specs.Zone.{Zone}
use Rattle.physical_zone.proofs.asking.claim.Goals as goal

pub ask-requires-clause-rule : goal.ask-requires-clause-rule
ask-requires-clause-rule c = subst (λ (z : Zone). Applies (PhysicalServes c.args.sizes.now (record c.args.zone.now { counts = z }) c.args.vio)) (sym c.in-None.ensures.same) c.requires.rule

pub returns-in-Some : goal.returns-in-Some
returns-in-Some c = (
  Takes c.args.vio.request c.args.vio.page c.in-Some.claim ∷ [],
  claims c.in-Some.claim c.claim_free.new.self c.requires.phase c.in-Some.ensures.some refl refl (search rules),
)

pub returns-in-None : goal.returns-in-None
returns-in-None c =
    subst (λ (z : Zone). (made : Trace) × PhysicalServes c.args.sizes.now (record c.args.zone.now { counts = z }) c.args.vio c.ask.new.zone made c.ask.new.posts) c.in-None.ensures.same c.ask.ensures
