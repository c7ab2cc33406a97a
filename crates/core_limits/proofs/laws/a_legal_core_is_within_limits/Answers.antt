use Rattle.core_limits.proofs.ZoneLimits.{desk_within, inbox_within, lanes_within, places_within, waiting_within}
use Rattle.core_limits.proofs.laws.a_legal_core_is_within_limits.Goals as goal

pub returns-clause-desk : goal.returns-clause-desk
returns-clause-desk c = λ s core n z desk session legal had. desk_within s core session legal n z had desk

pub returns-clause-places : goal.returns-clause-places
returns-clause-places c = λ s core n z l session legal had. places_within s core session legal n z had l

pub returns-clause-inbox : goal.returns-clause-inbox
returns-clause-inbox c = λ s core n z session legal had. inbox_within s core session legal n z had

pub returns-clause-lanes : goal.returns-clause-lanes
returns-clause-lanes c = λ s core n z session legal had. lanes_within s core session legal n z had

pub returns-clause-waiting : goal.returns-clause-waiting
returns-clause-waiting c = λ s core n z session legal had. waiting_within s core session legal n z had
