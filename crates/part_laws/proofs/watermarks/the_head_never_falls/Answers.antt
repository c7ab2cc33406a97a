use Rattle.part_laws.proofs.WatermarkLaws.{risen_stays}
use Rattle.part_laws.proofs.FallLaws.{watermark_stays, head_stays}
use Rattle.part_laws.proofs.watermarks.the_head_never_falls.Goals as goal

pub returns-clause-risen : goal.returns-clause-risen
returns-clause-risen c = λ s h t right. risen_stays s h t right.0

pub returns-clause-watermark : goal.returns-clause-watermark
returns-clause-watermark c = watermark_stays

pub returns-clause-head : goal.returns-clause-head
returns-clause-head c = head_stays
