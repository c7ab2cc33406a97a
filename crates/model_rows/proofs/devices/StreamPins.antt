-- Rows that pin what a put leaves: for each clause one that it accepts, and one that breaks it alone.
use Rattle.std.proofs.Common.{ℕ, ◌≡◌, suc, true, false, [], ◌∷◌, length, take, Result, Ok, Err, refl, ap, arith}
use Rattle.disk_model.specs.Streams.{Puts}
use Rattle.disk_model.proofs.StreamExample.{sink}

-- a put that worked, and one that failed
abbrev worked : Result (Unit {0}) ℕ
worked = Ok tt

abbrev failed : Result (Unit {0}) ℕ
failed = Err 0

-- ok: all of the text stands behind what was there
ok-all : Puts true (5 ∷ 6 ∷ []) (sink (4 ∷ []) 0) (sink (4 ∷ 5 ∷ 6 ∷ []) 0) worked
ok-all = record { ok = λ told. refl; err = λ told. tt; cause = record { later = omega arith; failed = tt } }

ok-not_a_part : Puts true (5 ∷ 6 ∷ []) (sink (4 ∷ []) 0) (sink (4 ∷ 5 ∷ []) 0) worked → ⊥
ok-not_a_part puts =
    let short : ◌≡◌ {A = ℕ} 2 3 = ap length (puts.ok refl) in
    omega (arith, short)

-- of a sink that tells nothing no bytes are claimed
ok-silent : Puts false (5 ∷ 6 ∷ []) (sink [] 0) (sink [] 0) worked
ok-silent = record { ok = λ told. cc; err = λ told. tt; cause = record { later = omega arith; failed = tt } }

-- err: a first part does
err-a_part : Puts true (5 ∷ 6 ∷ []) (sink (4 ∷ []) 0) (sink (4 ∷ 5 ∷ []) 1) failed
err-a_part = record { ok = λ told. tt; err = λ told. (1, refl); cause = record { later = omega arith; failed = omega arith } }

err-not_another : Puts true (5 ∷ 6 ∷ []) (sink (4 ∷ []) 0) (sink [] 1) failed → ⊥
err-not_another puts =
    let none : 0 ≡ suc (length (take (puts.err refl).0 (5 ∷ 6 ∷ []))) = ap length (puts.err refl).1 in
    omega (arith, none)

-- cause: the count of faults rose
cause-not_for_nothing : Puts true (5 ∷ 6 ∷ []) (sink (4 ∷ []) 1) (sink (4 ∷ 5 ∷ []) 1) failed → ⊥
cause-not_for_nothing puts = omega (arith, puts.cause.failed)
