use Rattle.std.proofs.Common.{length, arith}
use Rattle.std.proofs.lemmas.Bool.{OnTrue_at}
use Rattle.stream_text.proofs.RunLaws.{first_run}
use Rattle.stream_text.proofs.runs.first_run.Goals as goal

pub returns-then-byte-first-clause-run : goal.returns-then-byte-first-clause-run
returns-then-byte-first-clause-run c =
    first_run c.args.bytes.now c.loop-at.at c.requires (omega arith) c.loop-at.invariant (λ more. c.if-byte-first.true)

pub returns-then-is_one_run-clause-run : goal.returns-then-is_one_run-clause-run
returns-then-is_one_run-clause-run c =
    first_run c.args.bytes.now (length c.args.bytes.now) c.requires (omega arith) (OnTrue_at c.if-is_one_run.true c.is_one_run.ensures) (λ more. absurd (omega arith))

pub returns-clause-run : goal.returns-clause-run
returns-clause-run c =
    first_run c.args.bytes.now (length c.args.bytes.now) c.requires (omega arith)
    (λ k below. c.loop-at.invariant k (omega arith)) (λ more. absurd (omega arith))
