use Rattle.std.proofs.Common.{subst}
use Rattle.core_laws.proofs.Common.{DataOk}
use Rattle.core_laws.proofs.journal.LogLaws.{log_handed}
use Rattle.core_model.specs.declared.zones.ZoneData.{ZoneData}
use Rattle.core_laws.proofs.laws.the_log_hands_out_what_is_committed.Goals as goal

pub returns-clause-handed : goal.returns-clause-handed
returns-clause-handed c = λ s core n z j legal had keeps.
    let own = subst (λ (d : ZoneData). DataOk s core.trace n d) keeps (legal.each n z had).own in
    log_handed s core.trace j.log legal.right own.lists.log_is

pub returns-clause-head : goal.returns-clause-head
returns-clause-head c = λ s core n z j legal had keeps.
    let own = subst (λ (d : ZoneData). DataOk s core.trace n d) keeps (legal.each n z had).own in
    own.lists.log_is.head_is
