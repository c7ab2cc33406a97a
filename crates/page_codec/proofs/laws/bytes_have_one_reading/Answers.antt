use Rattle.page_codec.proofs.HeadLaws.{one_head}
use Rattle.page_codec.proofs.ReadLaws.{one_mapping, one_page, no_slot_fault, no_page_fault, one_fault}
use Rattle.page_codec.proofs.laws.bytes_have_one_reading.Goals as goal

pub returns-clause-heads : goal.returns-clause-heads
returns-clause-heads c = one_head

pub returns-clause-slots : goal.returns-clause-slots
returns-clause-slots c = one_mapping

pub returns-clause-pages : goal.returns-clause-pages
returns-clause-pages c = one_page

pub returns-clause-slot_faults : goal.returns-clause-slot_faults
returns-clause-slot_faults c = no_slot_fault

pub returns-clause-page_faults : goal.returns-clause-page_faults
returns-clause-page_faults c = no_page_fault

pub returns-clause-one_fault : goal.returns-clause-one_fault
returns-clause-one_fault c = one_fault
