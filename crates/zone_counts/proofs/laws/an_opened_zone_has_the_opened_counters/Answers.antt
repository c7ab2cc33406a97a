use Rattle.std.proofs.Common.{ap}
use Rattle.slab_tickets.specs.Tickets.{Desk}
use Rattle.zone_counts.proofs.FitLaws.{opened_claims}
use Rattle.zone_counts.proofs.OpenedCounts.{opened_here, opened_none}
use Rattle.zone_counts.proofs.laws.an_opened_zone_has_the_opened_counters.Goals as goal

pub returns-clause-counters : goal.returns-clause-counters
returns-clause-counters c = λ o zone zones room z at opens is own. (opened_here o zone zones room z opens is at own).0

pub returns-clause-no_data : goal.returns-clause-no_data
returns-clause-no_data c = opened_none

pub returns-clause-claims : goal.returns-clause-claims
returns-clause-claims c = λ o zone zones room z at opens is. opened_claims o zone zones room z opens is at

pub returns-clause-tickets : goal.returns-clause-tickets
returns-clause-tickets c = λ o zone zones room z opens. ap (λ (d : Desk). d.out) opens.desk
