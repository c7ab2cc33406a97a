use Rattle.std.proofs.Common.{ap, ◌∙◌, [], ◌∷◌, ◌++◌, List, refl}
use Rattle.blk_base.specs.declared.place.ZoneId.TheVariants as id
use Rattle.data_vio.specs.declared.items.Item.TheVariants as item
use Rattle.data_vio.specs.declared.items.Vio.{Vio}
use Rattle.data_vio.specs.Vios as vios
use Rattle.data_vio.specs.Vios.{Post}
use Rattle.core_model.specs.LogicalData.{LogicalZone}
use Rattle.core_model.specs.LogicalRules as logical
use Rattle.core_model.specs.LogicalRules.{all_again, granted, released, woken}
use Rattle.core_model.specs.LogicalRules.LogicalServes.{unmakes}
use Rattle.logical_zone.proofs.PageLaws.{released_lacking}
use Rattle.logical_zone.proofs.pages.unmake.Goals as goal

pub returns : goal.returns
returns c =
    let v = c.args.vio in
    let old = c.args.zone.now in
    let page = c.args.page in
    let let_go = c.release.ensures.zone ∙ ap (λ (u : Vio). released u.at.0 old) c.get.ensures in
    let changed = c.give_up-2.ensures ∙ ap (logical.unmade page) let_go in
    let lacking = ap (λ (l : LogicalZone). l.lacking) changed ∙ released_lacking v.at.0 old in
    let first = c.first.ensures ∙ ap (λ (u : Vio). (id.Desk, item.Request u) ∷ []) c.give_up.ensures in
    let posts = c.release.ensures.posts ∙ ap (λ (ps : List Post). ps ++ granted c.get.result.now.at.0 old) first ∙ ap (λ (u : Vio). (id.Desk, item.Request (vios.gives_up v)) ∷ granted u.at.0 old) c.get.ensures in
    unmakes page c.requires.phase c.requires.page (c.wake.ensures.zone ∙ ap woken changed) refl
    (c.wake.ensures.posts ∙ ap (λ (vs : List Vio). c.release.new.posts ++ all_again vs) lacking ∙ ap (λ (ps : List Post). ps ++ all_again old.lacking) posts)
