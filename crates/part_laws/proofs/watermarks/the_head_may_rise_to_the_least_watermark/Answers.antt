use Rattle.part_laws.proofs.WatermarkLaws.{watermarks_allow}
use Rattle.part_laws.proofs.watermarks.the_head_may_rise_to_the_least_watermark.Goals as goal

pub returns : goal.returns
returns c = watermarks_allow
