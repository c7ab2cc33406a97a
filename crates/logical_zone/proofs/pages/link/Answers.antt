use Rattle.std.proofs.Common.{ap, sym, ◌∙◌, [], ◌∷◌, ◌++◌, List, refl}
use Rattle.data_vio.specs.declared.items.Item.TheVariants as item
use Rattle.data_vio.specs.declared.items.Vio.{Vio}
use Rattle.data_vio.specs.Vios as vios
use Rattle.data_vio.specs.Vios.{Post}
use Rattle.core_model.specs.LogicalData.{LogicalZone}
use Rattle.core_model.specs.LogicalRules.{all_again}
use Rattle.core_model.specs.LogicalRules.LogicalServes.{links}
use Rattle.logical_zone.proofs.PageLaws.{may_link_at}
use Rattle.logical_zone.proofs.pages.link.Goals as goal

pub link-requires : goal.link-requires
link-requires c = may_link_at c.args.zone.now c.args.page c.args.vio.new c.new_block-at.result c.requires.can (ap (λ (v : Vio). v.new) (sym c.get.ensures) ∙ c.new_block-at.ensures)

pub returns : goal.returns
returns c =
    let v = c.args.vio in
    let to = ap (λ (u : Vio). u.new) (sym c.get.ensures) ∙ c.new_block-at.ensures in
    let may = may_link_at c.args.zone.now c.args.page v.new c.new_block-at.result c.requires.can to in
    let first = c.first.ensures ∙ ap (λ (u : Vio). (u.home, item.Request c.made.result) ∷ []) c.get-2.ensures ∙ ap (λ (u : Vio). (v.home, item.Request u) ∷ []) c.made.ensures in
    let lacking = ap (λ (l : LogicalZone). l.lacking) c.link.ensures.rest in
    links c.args.page c.new_block-at.result c.link.new.self c.requires.phase c.requires.page to may c.link.ensures c.wake.ensures.zone refl
    (c.wake.ensures.posts ∙ ap (λ (ps : List Post). ps ++ all_again c.link.new.self.lacking) first ∙ ap (λ (vs : List Vio). (v.home, item.Request (vios.made v)) ∷ all_again vs) lacking)
