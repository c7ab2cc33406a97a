use Rattle.std.proofs.Common.{rules}
use Rattle.vdo_model.proofs.report_list.ReportList.as_slice.Goals as goal

pub returns : goal.returns
returns g c = search rules
