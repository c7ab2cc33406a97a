use Rattle.std.proofs.Common.{ℕ, ◌∷◌, [], ◌∙◌, ap, arith}
use Rattle.stream_text.specs.StreamRequests.{with_requests}
use Rattle.stream_text.proofs.StreamLaws.{on_err, pushed, unchanged}
use Rattle.stream_text.proofs.streams.Streams.push.Goals as goal

pub returns-clause-ok : goal.returns-clause-ok
returns-clause-ok c =
    pushed (λ row. row.items) c.self.inside.rows.items c.args.self.now c.from.result c.index_mut.result.now c.push.new.self c.args.request
    c.self.view_is (omega (arith, c.requires, c.from.ensures)) c.index_mut.ensures.value c.in_ok-push.ensures.items
    ∙ ap (λ (stream : ℕ). with_requests c.args.self.now stream (c.args.request ∷ [])) c.from.ensures

pub returns-in_err-push-clause-err : goal.returns-in_err-push-clause-err
returns-in_err-push-clause-err c =
    on_err c.from_residual.result _
    (unchanged (λ row. row.items) c.self.inside.rows.items c.args.self.now c.from.result c.index_mut.result.now c.push.new.self
    c.self.view_is c.index_mut.ensures.value c.in_err-push.ensures.items)
