use Rattle.zone_counts.proofs.ClaimLaws.{given_is, shared_is, extended_is}
use Rattle.zone_counts.proofs.laws.a_claim_is_of_its_zone.Goals as goal

pub returns-clause-given : goal.returns-clause-given
returns-clause-given c = given_is

pub returns-clause-shared : goal.returns-clause-shared
returns-clause-shared c = shared_is

pub returns-clause-extended : goal.returns-clause-extended
returns-clause-extended c = extended_is
