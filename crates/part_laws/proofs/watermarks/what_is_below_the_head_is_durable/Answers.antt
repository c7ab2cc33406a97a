use Rattle.part_laws.proofs.WatermarkLaws.{marked_stands, risen_stands}
use Rattle.part_laws.proofs.watermarks.what_is_below_the_head_is_durable.Goals as goal

pub returns-clause-watermark : goal.returns-clause-watermark
returns-clause-watermark c = marked_stands

pub returns-clause-head : goal.returns-clause-head
returns-clause-head c = risen_stands
