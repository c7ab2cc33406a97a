use Rattle.zone_counts.proofs.BlockLaws.{moved}
use Rattle.zone_counts.proofs.laws.calls_move_claims_and_counters.Goals as goal

pub returns-clause-counters : goal.returns-clause-counters
returns-clause-counters c = λ call old new at is did. (moved call old new is did).counters at

pub returns-clause-claims : goal.returns-clause-claims
returns-clause-claims c = λ call old new at is did. (moved call old new is did).claims at

pub returns-clause-tickets : goal.returns-clause-tickets
returns-clause-tickets c = λ call old new at is did. (moved call old new is did).tickets at
