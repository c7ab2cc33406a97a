-- Where a stream may begin a request, one request is begun next: that of the lowest such stream.
use Rattle.std.proofs.Common.{ℕ, zero, suc, ◌≡◌, ◌<◌, ◌+◌, ◌⊎◌, IsSome, inl, inr, refl, subst, ap, ◌∙◌, sym, arith}
use Rattle.core_laws.proofs.Common.{Desk, IsNextLine, Writer, answered, begun, cases_lt, option_cases, request_at, some_is}
use Rattle.vdo_model.specs.declared.report.DeskLine.TheVariants as line
use Rattle.core_model.specs.DeskRules.{BeginsNext}

same_name : (i n j m : ℕ) → i ≡ j → n ≡ m → ◌≡◌ {A = Writer} (record { stream = i; number = n }) (record { stream = j; number = m })
same_name i n j m streams numbers = rw (streams, numbers) refl

module _ (depth : ℕ) (desk : Desk) where
  abbrev May : Writer → Type 0
  May w = IsNextLine depth desk.requests (line.Begin w) desk.log

  -- the next request of a stream
  abbrev next_of : ℕ → Writer
  next_of k = record { stream = k; number = begun k desk.log }

  -- a stream may begin it, or none
  may_or_none : (k : ℕ) → May (next_of k) ⊎ ((n : ℕ) → May (record { stream = k; number = n }) → ⊥)
  may_or_none k = elim (option_cases (request_at desk.requests (next_of k))) [
    | inl none ↦ inr (λ n may.
        let there : IsSome (request_at desk.requests (next_of k)) = subst (λ (m : ℕ). IsSome (request_at desk.requests (record { stream = k; number = m }))) may.0 may.1 in
        absurd (let gone = rw none at there in cc))
    | inr some ↦ elim (cases_lt (begun k desk.log) (answered k desk.log + depth)) [
      | inl fewer ↦ inl (refl, some_is (request_at desk.requests (next_of k)) some.0 some.1, fewer)
      | inr most ↦ inr (λ n may. let fewer = may.2 in absurd (omega (arith, fewer, most)))
    ]
  ]

  -- one below this stream is begun next, or none of them may be
  next_below : (k : ℕ) → ((w : Writer) × BeginsNext depth desk w) ⊎ ((w : Writer) → w.stream < k → May w → ⊥)
  next_below zero = inr (λ w below may. absurd (omega (arith, below)))
  next_below (suc k) = elim (next_below k) [
    | inl found ↦ inl found
    | inr none ↦ elim (may_or_none k) [
      | inl may ↦ inl (
        next_of k,
        record {
          may = may;
          lowest = λ w next. elim (cases_lt w.stream k) [
            | inl below ↦ absurd (none w below next)
            | inr rest ↦ rest
          ];
        },
      )
      | inr not_here ↦ inr (λ w below may. elim (cases_lt w.stream k) [
        | inl lower ↦ none w lower may
        | inr rest ↦
            let here : w.stream ≡ k = omega (arith, below, rest) in
            not_here w.number (subst (λ (i : ℕ). May (record { stream = i; number = w.number })) here may)
      ])
    ]
  ]

  -- where one may be begun, one is begun next
  pub begins_some : (w : Writer) → May w → (v : Writer) × BeginsNext depth desk v
  begins_some w may = elim (next_below (suc w.stream)) [
    | inl found ↦ found
    | inr none ↦ absurd (none w (omega arith) may)
  ]

  -- and no other
  pub begins_one : (v w : Writer) → BeginsNext depth desk v → BeginsNext depth desk w → v ≡ w
  begins_one v w one two =
      let up = one.lowest w two.may in
      let down = two.lowest v one.may in
      let streams : v.stream ≡ w.stream = omega (arith, up, down) in
      same_name v.stream v.number w.stream w.number streams (one.may.0 ∙ ap (λ (i : ℕ). begun i desk.log) streams ∙ sym two.may.0)
