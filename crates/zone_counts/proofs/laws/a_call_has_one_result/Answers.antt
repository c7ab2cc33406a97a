use Rattle.zone_counts.proofs.OneAnswer.{one_begun, one_asked, one_worth, one_shared, shared_not_refused, one_cause, one_changed, one_applied, one_passed}
use Rattle.zone_counts.proofs.laws.a_call_has_one_result.Goals as goal

pub returns-clause-begun : goal.returns-clause-begun
returns-clause-begun c = one_begun

pub returns-clause-asked : goal.returns-clause-asked
returns-clause-asked c = one_asked

pub returns-clause-withdrawn : goal.returns-clause-withdrawn
returns-clause-withdrawn c = one_worth

pub returns-clause-shared : goal.returns-clause-shared
returns-clause-shared c = one_shared

pub returns-clause-refused : goal.returns-clause-refused
returns-clause-refused c = shared_not_refused

pub returns-clause-refusal : goal.returns-clause-refusal
returns-clause-refusal c = one_cause

pub returns-clause-changed : goal.returns-clause-changed
returns-clause-changed c = one_changed

pub returns-clause-applied : goal.returns-clause-applied
returns-clause-applied c = one_applied

pub returns-clause-passed : goal.returns-clause-passed
returns-clause-passed c = one_passed
