use Rattle.core_guards.proofs.ZoneActs.{harmed_so}
use Rattle.core_guards.proofs.acts.a_leaf_of_another_page_is_damage.Goals as goal

pub returns : goal.returns
returns g c = λ x bytes read no_page. harmed_so _ _ _ _ _ _ _ _ x bytes c.act.ensures.acts c.requires.loads c.requires.stopped c.requires.tells read no_page
