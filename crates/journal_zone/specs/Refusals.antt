-- Why an entry isn't handed in.
use Rattle.blk_base.specs.declared.request.Answer.{Answer}
use Rattle.blk_base.specs.declared.request.Answer.TheVariants as reply
use Rattle.journal_zone.specs.declared.refusals.Refusal.{Refusal}
use Rattle.journal_zone.specs.declared.refusals.Refusal.TheVariants as refusal

-- what its request is answered with
abbrev pub answer_for : Refusal → Answer
answer_for refusal.Full = reply.Full
answer_for refusal.Stopped = reply.Stopped
