use Rattle.dirty_pages.proofs.DirtyPointLaws.{low_or_clean, one_first_due, one_is_handed_out, one_low_point, out_or_none}
use Rattle.dirty_pages.proofs.laws.the_next_page_to_write_is_one.Goals as goal

pub returns-clause-out : goal.returns-clause-out
returns-clause-out c = one_is_handed_out

pub returns-clause-none : goal.returns-clause-none
returns-clause-none c = out_or_none

pub returns-clause-due : goal.returns-clause-due
returns-clause-due c = one_first_due

pub returns-clause-never : goal.returns-clause-never
returns-clause-never c = λ pages first is none. none is.number first is.due

pub returns-clause-low : goal.returns-clause-low
returns-clause-low c = one_low_point

pub returns-clause-clean : goal.returns-clause-clean
returns-clause-clean c = low_or_clean
