use Rattle.std.proofs.Common.{ℕ, ◌≡◌, ◌++◌, ◌∷◌, [], List, OnOk, subst}
use Rattle.stream_text.specs.Runs.{later_text, run_text}
use Rattle.core_guards.proofs.texts.two_runs_are_put.Goals as goal

pub returns : goal.returns
returns g c = λ tells.
    let put = c.put_runs.ensures.ok tells in
    subst (λ (held : List ℕ). OnOk c.put_runs.result ((g.K.Sink.seen c.put_runs.new.out).held
    ≡ held ++ (run_text (record { count = 2; byte = 97 }) ++ later_text (record { count = 1; byte = 98 } ∷ [])))) c.requires put
