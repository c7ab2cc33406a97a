use Rattle.core_model.proofs.ReportLaws.{reported_left, reported_none, reported_out, reported_still}
use Rattle.core_model.proofs.logical.LogicalZone.take_report.Goals as goal

pub returns-in-Some-clause-told : goal.returns-in-Some-clause-told
returns-in-Some-clause-told c = reported_out _ c.args.self.now c.args.request c.self.view_is _ c.deref.ensures.value c.in-Some.place c.remove.result c.in-Some.ensures c.remove.ensures.value

pub returns-in-Some-clause-zone : goal.returns-in-Some-clause-zone
returns-in-Some-clause-zone c =
    reported_left _ c.args.self.now c.args.request c.self.view_is _ c.deref.ensures.value c.in-Some.place c.remove.result c.in-Some.ensures c.remove.new.self.items c.remove.ensures.items

pub returns-in-None-clause-told : goal.returns-in-None-clause-told
returns-in-None-clause-told c = reported_none _ c.args.self.now c.args.request c.self.view_is _ c.deref.ensures.value c.in-None.ensures

pub returns-in-None-clause-zone : goal.returns-in-None-clause-zone
returns-in-None-clause-zone c = reported_still _ c.args.self.now c.args.request c.self.view_is _ c.deref.ensures.value c.in-None.ensures
