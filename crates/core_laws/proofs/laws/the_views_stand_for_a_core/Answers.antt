use Rattle.core_laws.proofs.kept.Views.{first_views, posts_batch, receives_batch, takes_batch}
use Rattle.core_laws.proofs.laws.the_views_stand_for_a_core.Goals as goal

pub returns-clause-posts : goal.returns-clause-posts
returns-clause-posts c = posts_batch

pub returns-clause-receives : goal.returns-clause-receives
returns-clause-receives c = receives_batch

pub returns-clause-takes : goal.returns-clause-takes
returns-clause-takes c = takes_batch

pub returns-clause-first : goal.returns-clause-first
returns-clause-first c = first_views
