use Rattle.std.proofs.Common.{◌∙◌}
use Rattle.stream_text.proofs.StreamLaws.{asked-discards}
use Rattle.stream_text.proofs.added_lines.requests_asked.Goals as goal

pub returns-in-Discards-clause-count : goal.returns-in-Discards-clause-count
returns-in-Discards-clause-count c =
    asked-discards c.args.asked.now c.in-Discards.stream c.in-Discards.at c.in-Discards.last c.from.result c.in-Discards.is (c.from.ensures ∙ c.saturating_sub.ensures)
