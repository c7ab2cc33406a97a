use Rattle.stream_text.proofs.StreamLaws.{next_discard}
use Rattle.stream_text.proofs.streams.Streams.push_discards.Goals as goal

pub loop-number-preserved : goal.loop-number-preserved
loop-number-preserved c = next_discard c.args.self.now c.loop-number.self c.push.new.self c.args.stream c.args.at c.loop-number.number c.requires c.loop-number.invariant c.in_ok-push.ensures.ok
