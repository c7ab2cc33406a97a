use Rattle.std.proofs.Common.{rules, true, false, [], ◌∷◌, refl, subst}
use Rattle.disk_model.specs.declared.call.Call.TheVariants as call
use Rattle.core_model.specs.DeviceRules.DeviceServes.{loads_leaf, leaf_fails, harms}
use Rattle.core_model.specs.Trace.{Calls, Fails, Harms}
use Rattle.data_vio.specs.declared.items.Vio.{Vio}
use Rattle.page_codec.specs.Grammar.{IsPage, IsPageFault}
use Rattle.core_model.specs.PageLinks.{leaf_head}
use Rattle.device_zone.proofs.Calls.{harm_called, posts_harm, posts_leaf}
use Rattle.device_zone.proofs.leaves.load_leaf.Goals as goal

pub returns-in_default-clause-serves : goal.returns-in_default-clause-serves
returns-in_default-clause-serves g c =
    let failed = c.in_default.ensures.err in (
      Fails c.args.vio.request (call.Read c.args.leaf c.read_block.new.into false) failed.0 ∷ [],
      leaf_fails c.args.leaf c.read_block.new.into failed.0 c.requires.phase c.requires.leaf c.requires.ready c.requires.inside refl refl (search rules),
      failed.1 c.args.vio.request,
    )

pub returns-in-Ok-mapping_in-clause-serves : goal.returns-in-Ok-mapping_in-clause-serves
returns-in-Ok-mapping_in-clause-serves g c =
    let says = c.in-Ok-mapping_in.ensures.ok in (
      Calls (call.Read c.args.leaf c.read_block.new.into true) ∷ [],
      loads_leaf c.args.leaf c.read_block.new.into says.0 c.requires.phase c.requires.leaf c.requires.ready c.requires.inside
          (subst (λ (v : Vio). IsPage (leaf_head c.args.sizes.now.geometry v.at.0 c.args.leaf) c.read_block.new.into says.0) c.get-2.ensures says.1) refl refl
          (posts_leaf _ c.args.vio _ _ _ _ says.0 c.first-in-Ok-mapping_in.ensures c.has_leaf.ensures says.2 c.get.ensures c.get-2.ensures),
      c.in-Ok.ensures.ok,
    )

pub returns-in-Err-clause-serves : goal.returns-in-Err-clause-serves
returns-in-Err-clause-serves g c = (
  Harms c.args.vio.request c.args.leaf c.read_block.new.into c.in-Err.fault ∷ [],
  harms c.args.leaf c.read_block.new.into c.in-Err.fault c.requires.phase c.requires.leaf c.requires.ready c.requires.inside
      (subst (λ (v : Vio). IsPageFault (leaf_head c.args.sizes.now.geometry v.at.0 c.args.leaf) c.read_block.new.into c.in-Err.fault) c.get-2.ensures c.in-Err.ensures.fault) c.harm.ensures.zone refl
      (posts_harm _ _ _ c.args.vio _ _ c.first-in-Err.ensures c.harm.ensures.posts c.end-harmed.ensures c.get.ensures),
  harm_called _ _ _ c.args.vio.request c.args.leaf c.read_block.new.into c.in-Err.fault c.in-Ok.ensures.ok,
)
