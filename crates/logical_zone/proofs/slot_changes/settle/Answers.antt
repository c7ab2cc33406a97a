use Rattle.std.proofs.Common.{ap, sym, ◌∙◌, [], ◌∷◌, ◌++◌, refl, List}
use Rattle.data_vio.specs.declared.items.Vio.{Vio}
use Rattle.data_vio.specs.declared.logged.Remapping.{Remapping}
use Rattle.data_vio.specs.Vios.{logged}
use Rattle.core_model.specs.LogicalData.{LogicalZone}
use Rattle.core_model.specs.LogicalRules.{settled, settled_posts}
use Rattle.core_model.specs.LogicalRules.LogicalServes.{awaits, settles}
use Rattle.core_model.specs.Trace.{Sets}
use Rattle.logical_zone.proofs.SettlingLaws.{reports_kept}
use Rattle.logical_zone.proofs.slot_changes.settle.Goals as goal

pub returns-then-awaits_report : goal.returns-then-awaits_report
returns-then-awaits_report c =
    let v = c.args.vio in
    let old = c.args.zone.now in
    let bare = ap (λ (u : Vio). u.page) (sym c.get.ensures) ∙ c.in_default.is in
    let waits = sym c.awaits_report.ensures.waits ∙ c.if-awaits_report.true in
    let stays = c.awaits_report.ensures.zone ∙ ap (λ (es : List Remapping). record old { reported = es }) (reports_kept old v waits) in
    ([], awaits c.requires.phase bare waits (c.await_report.ensures ∙ ap (λ (l : LogicalZone). record l { settling = l.settling ++ v ∷ [] }) stays) refl c.requires.none)

pub returns-else-awaits_report : goal.returns-else-awaits_report
returns-else-awaits_report c =
    let v = c.args.vio in
    let bare = ap (λ (u : Vio). u.page) (sym c.get.ensures) ∙ c.in_default.is in
    let came = sym c.awaits_report.ensures.waits ∙ c.if-awaits_report.false in (
      Sets (logged v) ∷ [],
      settles c.requires.phase bare came (c.set_slot.ensures.zone ∙ ap (λ (l : LogicalZone). settled l v) c.awaits_report.ensures.zone) refl
          (c.set_slot.ensures.posts ∙ ap (λ (l : LogicalZone). settled_posts l v) c.awaits_report.ensures.zone),
    )
