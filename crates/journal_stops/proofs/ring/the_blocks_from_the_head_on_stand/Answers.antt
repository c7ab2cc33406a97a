use Rattle.journal_stops.proofs.ShownLaws.{stands_at_rest, stands_under_way}
use Rattle.journal_stops.proofs.StepLaws.{spelled_whole, slot_is_free, ring_grows, front_grows, rest_kept, begins, under_way_kept, is_written, written_kept, ends}
use Rattle.journal_stops.proofs.ring.the_blocks_from_the_head_on_stand.Goals as goal

pub returns-clause-spelled : goal.returns-clause-spelled
returns-clause-spelled c = spelled_whole

pub returns-clause-free : goal.returns-clause-free
returns-clause-free c = slot_is_free

pub returns-clause-grows : goal.returns-clause-grows
returns-clause-grows c = ring_grows

pub returns-clause-rests : goal.returns-clause-rests
returns-clause-rests c = rest_kept

pub returns-clause-begins : goal.returns-clause-begins
returns-clause-begins c = begins

pub returns-clause-goes_on : goal.returns-clause-goes_on
returns-clause-goes_on c = under_way_kept

pub returns-clause-written : goal.returns-clause-written
returns-clause-written c = is_written

pub returns-clause-stays_written : goal.returns-clause-stays_written
returns-clause-stays_written c = written_kept

pub returns-clause-ends : goal.returns-clause-ends
returns-clause-ends c = ends

pub returns-clause-whole : goal.returns-clause-whole
returns-clause-whole c = stands_at_rest

pub returns-clause-whole_still : goal.returns-clause-whole_still
returns-clause-whole_still c = stands_under_way

pub returns-clause-grows_by_a_front : goal.returns-clause-grows_by_a_front
returns-clause-grows_by_a_front c = front_grows
