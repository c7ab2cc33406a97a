use Rattle.format_guards.proofs.AuditFacts.{called_clean}
use Rattle.std.proofs.lemmas.Result.{IfOk-weaker}
use Rattle.format_guards.proofs.audits.an_image_is_called_clean_by_its_superblock.Goals as goal

pub returns : goal.returns
returns g c = IfOk-weaker _ _ _ (λ status read. called_clean _ _ _ status read) c.read_status.ensures.status
