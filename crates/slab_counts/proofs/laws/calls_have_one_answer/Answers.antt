use Rattle.slab_counts.proofs.AnswerLaws.{one_free, one_or_none, shared_or_refused, one_refusal, taken_or_stray}
use Rattle.slab_counts.proofs.laws.calls_have_one_answer.Goals as goal

pub returns-clause-free : goal.returns-clause-free
returns-clause-free c = one_free

pub returns-clause-none : goal.returns-clause-none
returns-clause-none c = one_or_none

pub returns-clause-share : goal.returns-clause-share
returns-clause-share c = shared_or_refused

pub returns-clause-refusal : goal.returns-clause-refusal
returns-clause-refusal c = one_refusal

pub returns-clause-update : goal.returns-clause-update
returns-clause-update c = taken_or_stray
