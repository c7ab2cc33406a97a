use Rattle.page_codec.proofs.TornLaws.{torn_slot}
use Rattle.page_codec.proofs.laws.a_torn_page_keeps_whole_slots.Goals as goal

pub returns : goal.returns
returns c = torn_slot
