use Rattle.std.proofs.Common.{arith}
use Rattle.stream_text.specs.StreamRequests.{requests_of}
use Rattle.stream_text.specs.LineGrammar.{stream_asked}
use Rattle.stream_text.proofs.StreamLaws.{counted-many, added}
use Rattle.stream_text.proofs.added_lines.add_asked.Goals as goal

pub returns-then-count-gt-MOST_REQUESTS-clause-stopped : goal.returns-then-count-gt-MOST_REQUESTS-clause-stopped
returns-then-count-gt-MOST_REQUESTS-clause-stopped c =
    counted-many c.args.streams.now (stream_asked c.args.asked) (requests_of c.args.asked) (omega (arith, c.requires.stream, c.requires.rows))
    (omega (arith, c.requires.counted, c.requests_asked.ensures.count, c.if-count-gt-MOST_REQUESTS.true))

pub returns-in-Ok-clause-ok : goal.returns-in-Ok-clause-ok
returns-in-Ok-clause-ok c =
    added c.args.streams.now c.push_asked.new.self c.args.count c.requests_asked.result c.args.asked (omega (arith, c.requires.stream, c.requires.rows))
    c.requires.counted c.requests_asked.ensures.count (omega (arith, c.if-count-gt-MOST_REQUESTS.false)) c.in-Ok.ensures.ok
