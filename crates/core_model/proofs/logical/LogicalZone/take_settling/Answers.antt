use Rattle.std.proofs.Common.{◌∙◌, sym}
use Rattle.core_model.proofs.ReportLaws.{settling_left, settling_none, settling_out, settling_still}
use Rattle.core_model.proofs.logical.LogicalZone.take_settling.Goals as goal

pub returns-in_err-place-clause-vio : goal.returns-in_err-place-clause-vio
returns-in_err-place-clause-vio c = c.from_residual.ensures ∙ sym (settling_none _ c.args.self.now c.args.request c.self.view_is _ c.deref.ensures.value c.in_err-place.ensures)

pub returns-in_err-place-clause-zone : goal.returns-in_err-place-clause-zone
returns-in_err-place-clause-zone c = settling_still _ c.args.self.now c.args.request c.self.view_is _ c.deref.ensures.value c.in_err-place.ensures

pub returns-clause-vio : goal.returns-clause-vio
returns-clause-vio c = settling_out _ c.args.self.now c.args.request c.self.view_is _ c.deref.ensures.value c.in_ok-place.place c.remove.result c.in_ok-place.ensures c.remove.ensures.value

pub returns-clause-zone : goal.returns-clause-zone
returns-clause-zone c =
    settling_left _ c.args.self.now c.args.request c.self.view_is _ c.deref.ensures.value c.in_ok-place.place c.remove.result c.in_ok-place.ensures c.remove.new.self.items c.remove.ensures.items
