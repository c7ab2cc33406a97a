-- Which blocks of a ring share a slot.
use Rattle.std.specs.Prelude.{ℕ, ◌≡◌, ◌+◌, ◌*◌, ◌/◌, ◌%◌, ◌<◌, ◌≤◌}
use Rattle.std.proofs.Common.{arith, inl, inr, ◌≢◌}
use Rattle.std.proofs.Math.Nat.{mul-le-mul_left}
use Rattle.std.proofs.lemmas.Bool.{cases_lt}
use Rattle.std.proofs.lemmas.Nat.{div-add-mod'}

-- two sequences of one slot are a whole ring apart
pub apart_by_ring : (size s t : ℕ) → s < t → s % size ≡ t % size → s + size ≤ t
apart_by_ring size s t below same =
    let first : s / size * size + s % size ≡ s = div-add-mod' s size in
    let second : t / size * size + t % size ≡ t = div-add-mod' t size in
    elim (cases_lt (s / size) (t / size)) [
      | inl less ↦
          let rounds : s / size + 1 ≤ t / size = omega (arith, less) in
          let more : size * (s / size + 1) ≤ size * (t / size) = mul-le-mul_left size rounds in
          omega (arith, first, second, more, same)
      | inr no_less ↦
          let more : size * (t / size) ≤ size * (s / size) = mul-le-mul_left size no_less in
          absurd (omega (arith, first, second, more, same))
    ]

pub needed_apart : (size before head needed : ℕ) → before + 2 ≤ head + size → head ≤ needed → needed ≤ before → needed % size ≢ (before + 1) % size
needed_apart size before head needed ring from to = λ same. omega (arith, apart_by_ring size needed (before + 1) (omega arith) same)
