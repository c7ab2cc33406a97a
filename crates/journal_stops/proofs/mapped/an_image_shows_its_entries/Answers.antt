use Rattle.journal_stops.proofs.MapLaws.{pages_show}
use Rattle.journal_stops.proofs.NewestLaws.{folded_new, folded_none, newest_append, newest_page_append}
use Rattle.journal_stops.proofs.OpenedLaws.{shows_new, shows_old, shows_new_page, shows_old_page, rooted_old, rooted_old_page, pages_keep, pages_go_on}
use Rattle.journal_stops.proofs.mapped.an_image_shows_its_entries.Goals as goal

pub returns-clause-pages : goal.returns-clause-pages
returns-clause-pages c = pages_show

pub returns-clause-less : goal.returns-clause-less
returns-clause-less c = pages_keep

pub returns-clause-goes_on : goal.returns-clause-goes_on
returns-clause-goes_on c = pages_go_on

pub returns-clause-newest : goal.returns-clause-newest
returns-clause-newest c = shows_new

pub returns-clause-others : goal.returns-clause-others
returns-clause-others c = shows_old

pub returns-clause-newest_page : goal.returns-clause-newest_page
returns-clause-newest_page c = shows_new_page

pub returns-clause-other_pages : goal.returns-clause-other_pages
returns-clause-other_pages c = shows_old_page

pub returns-clause-folded : goal.returns-clause-folded
returns-clause-folded c = folded_new

pub returns-clause-folded_none : goal.returns-clause-folded_none
returns-clause-folded_none c = folded_none

pub returns-clause-left : goal.returns-clause-left
returns-clause-left c = rooted_old

pub returns-clause-left_page : goal.returns-clause-left_page
returns-clause-left_page c = rooted_old_page

pub returns-clause-newer : goal.returns-clause-newer
returns-clause-newer c = newest_append

pub returns-clause-newer_page : goal.returns-clause-newer_page
returns-clause-newer_page c = newest_page_append
