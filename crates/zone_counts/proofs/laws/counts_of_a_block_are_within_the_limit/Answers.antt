use Rattle.zone_counts.proofs.FitLaws.{add_fits, claimed_is, none_is_stray, remove_fits, within_limit}
use Rattle.zone_counts.proofs.laws.counts_of_a_block_are_within_the_limit.Goals as goal

pub returns-clause-limit : goal.returns-clause-limit
returns-clause-limit c = within_limit

pub returns-clause-claimed : goal.returns-clause-claimed
returns-clause-claimed c = claimed_is

pub returns-clause-added : goal.returns-clause-added
returns-clause-added c = add_fits

pub returns-clause-removed : goal.returns-clause-removed
returns-clause-removed c = remove_fits

pub returns-clause-stray : goal.returns-clause-stray
returns-clause-stray c = none_is_stray
