use Rattle.std.proofs.Common.{◌∙◌, ◌+◌, ◌++◌, ap, sym, arith, drop, get_or, List, ℕ}
use Rattle.std.specs.Prelude.{codes}
use Rattle.std.proofs.lemmas.List.{append_assoc, append-nil, drop_all}
use Rattle.stream_text.specs.Runs.{run_text, runs_of, later_text}
use Rattle.std.proofs.lemmas.Result.{err_from_is_err_and}
use Rattle.stream_text.proofs.PutLaws.{but-all, but-front, but-last, front-failed}
use Rattle.stream_text.proofs.RunLaws.{later_runs}
use Rattle.stream_text.proofs.runs.put_later_runs.Goals as goal

pub loop-at-init : goal.loop-at-init
loop-at-init g c = record {
  within = omega arith;
  but = rw c.new-text.ensures but-all;
}

pub returns-in_err-make_room : goal.returns-in_err-make_room
returns-in_err-make_room g c =
    front-failed (later_text (runs_of (drop c.loop-at.at c.args.bytes.now))) (err_from_is_err_and c.from_residual.result c.from_residual.ensures.1).1
    c.loop-at.invariant.but c.in_err-make_room.ensures.front

pub loop-at-preserved : goal.loop-at-preserved
loop-at-preserved g c =
    let at = c.loop-at.at in
    let count = c.first_run-count.result in
    let bytes = c.args.bytes.now in
    let run = codes "+" ++ run_text (record { count = count; byte = get_or bytes at 0 }) in
    let more = later_text (runs_of (drop (at + count) bytes)) in
    record {
      within = omega (arith, c.first_run-count.ensures.within, c.loop-at.invariant.within);
      but = rw (c.push_run.ensures, append_assoc c.make_room.new.text.items run more, ← later_runs bytes at count c.first_run-count.ensures.run)
          (but-front (later_text (runs_of (drop at bytes))) c.loop-at.invariant.but c.in_ok-make_room.ensures.front);
    }

pub loop-at-smaller : goal.loop-at-smaller
loop-at-smaller g c = omega (arith, c.first_run-count.ensures.some, c.loop-at-test.true)

pub returns : goal.returns
returns g c =
    but-last (
    ap (λ (t : List ℕ). c.loop-at.text.items ++ later_text (runs_of t)) (drop_all c.loop-at.at c.args.bytes.now c.loop-at-test.false)
    ∙ append-nil c.loop-at.text.items ∙ sym c.deref.ensures.0
    ) c.loop-at.invariant.but c.put.ensures
