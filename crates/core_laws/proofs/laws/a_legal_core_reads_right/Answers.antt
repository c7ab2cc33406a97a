use Rattle.core_laws.proofs.trace.ReportOfTrace.{report_reads_right}
use Rattle.core_laws.proofs.laws.a_legal_core_reads_right.Goals as goal

pub returns : goal.returns
returns c = λ s core session legal fair. report_reads_right s core.trace session legal.right (legal.gives_right fair)
