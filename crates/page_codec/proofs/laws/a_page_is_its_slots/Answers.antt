use Rattle.page_codec.proofs.ReadLaws.{slots, page}
use Rattle.page_codec.proofs.laws.a_page_is_its_slots.Goals as goal

pub returns-clause-slots : goal.returns-clause-slots
returns-clause-slots c = slots

pub returns-clause-page : goal.returns-clause-page
returns-clause-page c = page
