use Rattle.map_page_cache.proofs.RunLaws.{one_content, content_after}
use Rattle.map_page_cache.proofs.laws.a_page_is_as_it_was_set.Goals as goal

pub returns-clause-one : goal.returns-clause-one
returns-clause-one c = one_content

pub returns-clause-content : goal.returns-clause-content
returns-clause-content c = content_after
