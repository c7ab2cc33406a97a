-- One request more of a workload.
use Rattle.std.specs.Prelude.{ℕ, ◌≡◌, ◌+◌, ◌%◌, suc, [], ◌∷◌}
use Rattle.std.proofs.Common.{sym, ◌∙◌, ap, arith}
use Rattle.vdo_model.specs.Scripts.{Script}
use Rattle.stream_text.specs.StreamRequests.{with_requests}
use Rattle.stream_text.specs.Workloads.{drawn_request, state_before, workload_of}
use Rattle.stream_text.specs.declared.random_requests.Drawn.{Drawn}

pub next_state_before : (seed logical i state : ℕ) (drawn : Drawn) → state ≡ state_before logical seed i → drawn ≡ drawn_request logical i state
    → drawn.state ≡ state_before logical seed (i + 1)
next_state_before seed logical i state drawn before is =
    let next : i + 1 ≡ suc i = omega arith in
    ap (λ (d : Drawn). d.state) (is ∙ ap (drawn_request logical i) before) ∙ sym (ap (state_before logical seed) next)

pub next_workload : (seed streams logical i state stream : ℕ) (rows new : Script) (drawn : Drawn) → state ≡ state_before logical seed i
    → drawn ≡ drawn_request logical i state → rows ≡ workload_of seed streams logical i → stream ≡ i % streams
    → new ≡ with_requests rows stream (drawn.request ∷ []) → new ≡ workload_of seed streams logical (i + 1)
next_workload seed streams logical i state stream rows new drawn before is so dealt more =
    let next : i + 1 ≡ suc i = omega arith in
    more
    ∙ ap (λ (s : Script). with_requests s stream (drawn.request ∷ [])) so
    ∙ ap (λ (n : ℕ). with_requests (workload_of seed streams logical i) n (drawn.request ∷ [])) dealt
    ∙ ap (λ (d : Drawn). with_requests (workload_of seed streams logical i) (i % streams) (d.request ∷ [])) (is ∙ ap (drawn_request logical i) before)
    ∙ sym (ap (workload_of seed streams logical) next)
