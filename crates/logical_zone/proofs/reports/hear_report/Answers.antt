use Rattle.std.proofs.Common.{ap, sym, ◌∙◌, [], ◌∷◌, ◌++◌, List, refl}
use Rattle.data_vio.specs.declared.items.Vio.{Vio}
use Rattle.data_vio.specs.Vios.{logged}
use Rattle.core_model.specs.LogicalData.{LogicalZone}
use Rattle.core_model.specs.LogicalRules.{settled, settled_posts}
use Rattle.core_model.specs.LogicalRules.LogicalHears.{settles, keeps}
use Rattle.core_model.specs.Trace.{Sets}
use Rattle.logical_zone.proofs.SettlingLaws.{settling_kept}
use Rattle.logical_zone.proofs.reports.hear_report.Goals as goal

pub returns-in-Some : goal.returns-in-Some
returns-in-Some c =
    let v = c.in-Some.vio in
    let out = c.take_settling.ensures.zone in (
      Sets (logged v) ∷ [],
      settles v (sym c.take_settling.ensures.vio ∙ c.in-Some.is) (c.set_slot.ensures.zone ∙ ap (λ (l : LogicalZone). settled l v) out) refl
          (c.set_slot.ensures.posts ∙ ap (λ (l : LogicalZone). settled_posts l v) out),
    )

pub returns-in-None : goal.returns-in-None
returns-in-None c =
    let e = c.args.entry in
    let old = c.args.zone.now in
    let none = sym c.take_settling.ensures.vio ∙ c.in-None.is in
    let stays = c.take_settling.ensures.zone ∙ ap (λ (vs : List Vio). record old { settling = vs }) (settling_kept e.request old.settling none) in
    ([], keeps none (c.keep_report.ensures ∙ ap (λ (l : LogicalZone). record l { reported = l.reported ++ e ∷ [] }) stays) refl c.requires.none)
