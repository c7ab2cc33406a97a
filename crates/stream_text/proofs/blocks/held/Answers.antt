use Rattle.stream_text.proofs.RunWordLaws.{first_said}
use Rattle.stream_text.proofs.blocks.held.Goals as goal

pub returns-in-Ok-clause-bytes : goal.returns-in-Ok-clause-bytes
returns-in-Ok-clause-bytes c = λ block made. first_said c.args.run c.in-Ok.plain c.min.result block c.in-Ok.is c.min.ensures made
