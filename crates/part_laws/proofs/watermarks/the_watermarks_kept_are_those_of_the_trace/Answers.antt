use Rattle.part_laws.proofs.KeepLaws.{opening_kept, keeps_on, watermark_kept}
use Rattle.part_laws.proofs.watermarks.the_watermarks_kept_are_those_of_the_trace.Goals as goal

pub returns-clause-opening : goal.returns-clause-opening
returns-clause-opening c = opening_kept

pub returns-clause-keeps : goal.returns-clause-keeps
returns-clause-keeps c = keeps_on

pub returns-clause-watermark : goal.returns-clause-watermark
returns-clause-watermark c = watermark_kept
