use Rattle.zone_counts.proofs.FitLaws.{free_is, none_is_free, was_free}
use Rattle.zone_counts.proofs.laws.what_a_zone_gives_was_free.Goals as goal

pub returns-clause-given : goal.returns-clause-given
returns-clause-given c = was_free

pub returns-clause-free : goal.returns-clause-free
returns-clause-free c = free_is

pub returns-clause-none : goal.returns-clause-none
returns-clause-none c = none_is_free
