use Rattle.std.proofs.Common.{ℕ, ◌%◌, [], ◌∷◌, ◌∙◌, ap, length}
use Rattle.stream_text.proofs.StreamLaws.{rows-kept}
use Rattle.stream_text.proofs.WorkloadLaws.{next_state_before, next_workload}
use Rattle.stream_text.proofs.random_requests.workload.Goals as goal

pub loop-i-preserved : goal.loop-i-preserved
loop-i-preserved c =
    let was = c.loop-i.invariant in
    record {
      state = next_state_before c.args.seed c.args.logical c.loop-i.i c.loop-i.state c.in_ok-drawn.drawn was.state c.in_ok-drawn.ensures;
      rows = next_workload c.args.seed c.args.streams c.args.logical c.loop-i.i c.loop-i.state (c.loop-i.i % c.from.result) c.loop-i.rows c.push.new.self
          c.in_ok-drawn.drawn was.state c.in_ok-drawn.ensures was.rows (ap (λ (n : ℕ). c.loop-i.i % n) c.from.ensures) c.in_ok-push.ensures.ok;
      sixteen = ap (λ t. length t) c.in_ok-push.ensures.ok ∙ rows-kept c.loop-i.rows (c.loop-i.i % c.from.result) (c.in_ok-drawn.drawn.request ∷ []) ∙ was.sixteen;
    }
