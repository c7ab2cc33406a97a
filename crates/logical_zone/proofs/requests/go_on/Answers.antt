use Rattle.std.proofs.Common.{◌∙◌, refl}
use Rattle.core_model.specs.LogicalRules.LogicalServes.{looks}
use Rattle.logical_zone.proofs.ServedLaws.{looked_goes}
use Rattle.logical_zone.proofs.requests.go_on.Goals as goal

pub unreachable-requires : goal.unreachable-requires
unreachable-requires c =
    let some = c.requires.goes.1 in
    let none = looked_goes c.args.sizes.now c.args.zone.now c.args.vio _ _ c.args.mapping _ _ c.get.ensures c.latest-latest.ensures c.look.ensures c.goes_on.ensures in
    let is = c.in_default.is in
    cc

pub returns : goal.returns
returns c =
    looks c.args.mapping _ c.requires.phase c.requires.path c.requires.stays c.requires.leaf c.requires.knows
    (looked_goes c.args.sizes.now c.args.zone.now c.args.vio _ _ c.args.mapping _ _ c.get.ensures c.latest-latest.ensures c.look.ensures c.goes_on.ensures ∙ c.in-Some.is) refl refl c.first.ensures
