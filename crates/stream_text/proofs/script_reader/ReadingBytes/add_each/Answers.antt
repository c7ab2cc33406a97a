use Rattle.std.proofs.Common.{ℕ, List, ◌++◌, ◌+◌, ◌∙◌, drop, ap, arith}
use Rattle.std.proofs.lemmas.Result.{err_from_is_err_and}
use Rattle.stream_text.specs.ReadingBytes.{goes_on_from}
use Rattle.stream_text.proofs.LineLaws.{next_before}
use Rattle.stream_text.proofs.script_reader.ReadingBytes.add_each.Goals as goal

pub loop-byte-preserved : goal.loop-byte-preserved
loop-byte-preserved c =
    let was = c.loop-byte.invariant in
    let self = c.loop-byte.self in
    record {
      sound = c.in_ok-add.ensures.sound;
      same = λ rest. was.same rest
          ∙ ap (λ (t : List ℕ). goes_on_from self.number self.before self.streams self.line.items t) (next_before c.args.bytes.now rest c.loop-byte.byte-index c.loop-byte-test.true)
          ∙ c.in_ok-add.ensures.ok (drop (c.loop-byte.byte-index + 1) c.args.bytes.now ++ rest);
      taken = omega (arith, was.taken, c.in_ok-add.ensures.taken);
    }

pub returns-in_err-add-clause-refused : goal.returns-in_err-add-clause-refused
returns-in_err-add-clause-refused c =
    let was = c.loop-byte.invariant in
    let self = c.loop-byte.self in
    let p = err_from_is_err_and c.from_residual.result c.from_residual.ensures.1 in
    rw (p.1, p.2) (λ rest. rw (was.same rest
    ∙ ap (λ (t : List ℕ). goes_on_from self.number self.before self.streams self.line.items t) (next_before c.args.bytes.now rest c.loop-byte.byte-index c.loop-byte-test.true))
    (c.in_err-add.ensures.refused (drop (c.loop-byte.byte-index + 1) c.args.bytes.now ++ rest)))
