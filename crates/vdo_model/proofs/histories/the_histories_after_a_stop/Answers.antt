use Rattle.vdo_model.proofs.HistoryLaws.{part_lasts, part_of, covered_lasts, length_at_within, length_at_later, length_at_after, length_at_next}
use Rattle.vdo_model.proofs.histories.the_histories_after_a_stop.Goals as goal

pub returns-clause-lasts : goal.returns-clause-lasts
returns-clause-lasts c = part_lasts

pub returns-clause-part : goal.returns-clause-part
returns-clause-part c = part_of

pub returns-clause-covered : goal.returns-clause-covered
returns-clause-covered c = covered_lasts

pub returns-clause-within : goal.returns-clause-within
returns-clause-within c = length_at_within

pub returns-clause-later : goal.returns-clause-later
returns-clause-later c = length_at_later

pub returns-clause-next : goal.returns-clause-next
returns-clause-next c = length_at_next

pub returns-clause-after : goal.returns-clause-after
returns-clause-after c = length_at_after
