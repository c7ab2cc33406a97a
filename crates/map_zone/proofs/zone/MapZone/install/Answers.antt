use Rattle.map_zone.specs.contracts.zone.MapZone.{the_view}
use Rattle.page_codec.specs.declared.forms.PageHead.{PageHead}
use Rattle.std.proofs.Common.{ap, ◌∙◌}
use Rattle.block_map_tree.specs.declared.forms.Forest.{Forest}
use Rattle.map_zone.proofs.StepLaws.{installed_form}
use Rattle.map_zone.proofs.zone.MapZone.install.Goals as goal

pub invariant_of-self-2 : goal.invariant_of-self-2
invariant_of-self-2 c = record {
  forest = c.self.invariant.forest;
  form = installed_form c.args.self.now (the_view c.self.inside) c.install.new.self c.args.page c.block_of.result c.decode.new.into c.install.result c.self.view_is c.self.invariant.form
      c.requires c.block_of.ensures
      (c.decode.ensures.head ∙ ap (λ (f : Forest). let h : PageHead = record { geometry = f.geometry; page = c.args.page; at = c.block_of.result } in h) c.self.invariant.forest)
      c.install.ensures.ok c.install.ensures.same;
}
