use Rattle.vdo_cli.proofs.CrashComplete.{crash_complete}
use Rattle.vdo_cli.proofs.crash_laws.a_crash_without_faults_is_complete.Goals as goal

pub returns : goal.returns
returns c = crash_complete
