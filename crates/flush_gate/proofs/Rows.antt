-- For each clause of what a gate of flushes knows a case that it accepts, and one that breaks it alone.
use Rattle.std.proofs.Common.{ℕ, zero, suc, ◌≡◌, ◌+◌, ◌^◌, List, [], ◌∷◌, slice_index, length, refl, ap, arith}
use Rattle.flush_gate.specs.Flushes.{AreFrom, AreOlderDone, Flushes, HasRoom, Leaves, OldestWaits, opening}
use Rattle.flush_gate.specs.declared.waiters.Waiting.{Waiting}

abbrev of : ℕ → ℕ → Waiting
of number generation = record { request = record { stream = 0; number = number }; generation = generation }

abbrev generation_of : List Waiting → ℕ
generation_of [] = 0
generation_of (flush ∷ flushes) = flush.generation

-- room for two flushes; one began when no write was under way, and two writes were answered since
abbrev one_waits : Flushes
one_waits = record { room = 2; under_way = 0 ∷ 2 ∷ []; waiting = of 7 1 ∷ [] }

-- and another flush began behind them
abbrev two_wait : Flushes
two_wait = record { room = 2; under_way = 0 ∷ 2 ∷ 0 ∷ []; waiting = of 7 1 ∷ of 8 2 ∷ [] }

-- the first has left, and the second waits for the two writes
abbrev second_waits : Flushes
second_waits = record two_wait { waiting = of 8 2 ∷ [] }

-- opening: one generation, and no flush
opens : opening 2 ≡ record { room = 2; under_way = 0 ∷ []; waiting = [] }
opens = refl

opens_with_more_room : opening 2 ≡ record (opening 2) { room = 3 } → ⊥
opens_with_more_room same = omega (arith, ap (λ (g : Flushes). g.room) same)

opens_with_a_write : opening 2 ≡ record (opening 2) { under_way = 1 ∷ [] } → ⊥
opens_with_a_write same = omega (arith, ap (λ (g : Flushes). slice_index g.under_way 0) same)

opens_with_a_flush : opening 2 ≡ record (opening 2) { waiting = of 7 0 ∷ [] } → ⊥
opens_with_a_flush same = let no : 0 ≡ 1 = ap (λ (g : Flushes). length g.waiting) same in omega (arith, no)

-- HasRoom
has_room : HasRoom one_waits
has_room = record { fewer = omega arith; number = omega arith }

-- fewer
full : HasRoom two_wait → ⊥
full is = omega (arith, is.fewer)

-- number: of the generations 0 to 2 ^ 64 - 1 each is there
no_number : (counts : List ℕ) → length counts ≡ 2 ^ 64 → HasRoom (record one_waits { under_way = counts }) → ⊥
no_number counts all is = omega (arith, all, is.number)

last_number : (counts : List ℕ) → length counts + 1 ≡ 2 ^ 64 → HasRoom (record one_waits { under_way = counts })
last_number counts all_but_one = record { fewer = omega arith; number = omega (arith, all_but_one) }

-- AreOlderDone: writes of the generation itself don't count
older_done : AreOlderDone one_waits 1
older_done zero before = refl
older_done (suc older) before = omega (arith, before)

older_under_way : AreOlderDone two_wait 2 → ⊥
older_under_way done = omega (arith, done 1 (omega arith))

-- OldestWaits
oldest_waits : OldestWaits second_waits
oldest_waits oldest rest is done =
    let last : ◌≡◌ {A = ℕ} 2 oldest.generation = ap (λ (flushes : List Waiting). generation_of flushes) is in
    omega (arith, done 1 (omega (arith, last)))

-- where there is none, none leaves
none_waits : OldestWaits (opening 2)
none_waits oldest rest is = let no : 0 ≡ suc (length rest) = ap (λ (flushes : List Waiting). length flushes) is in absurd (omega (arith, no))

first_done : AreOlderDone two_wait 1
first_done zero before = refl
first_done (suc older) before = omega (arith, before)

-- the second alone has an older write
oldest_is_done : OldestWaits two_wait → ⊥
oldest_is_done waits = waits (of 7 1) (of 8 2 ∷ []) refl first_done

-- Leaves
leaves : Leaves two_wait second_waits (of 7 1)
leaves = record { oldest = refl; older_done = first_done; kept = refl }

-- oldest
leaves_before_its_turn : Leaves two_wait (record two_wait { waiting = of 7 1 ∷ [] }) (of 8 0) → ⊥
leaves_before_its_turn is = let no : 1 ≡ 0 = ap (λ (flushes : List Waiting). generation_of flushes) is.oldest in omega (arith, no)

stays_there : Leaves two_wait two_wait (of 7 1) → ⊥
stays_there is = let no : 2 ≡ 3 = ap (λ (flushes : List Waiting). length flushes) is.oldest in omega (arith, no)

-- older_done
leaves_too_early : Leaves second_waits (record second_waits { waiting = [] }) (of 8 2) → ⊥
leaves_too_early is = omega (arith, is.older_done 1 (omega arith))

-- kept
takes_a_write_along : Leaves two_wait (record second_waits { under_way = 0 ∷ 1 ∷ 0 ∷ [] }) (of 7 1) → ⊥
takes_a_write_along is = let no : 1 ≡ 2 = ap (λ (g : Flushes). slice_index g.under_way 1) is.kept in omega (arith, no)

takes_room_along : Leaves two_wait (record second_waits { room = 1 }) (of 7 1) → ⊥
takes_room_along is = let no : 1 ≡ 2 = ap (λ (g : Flushes). g.room) is.kept in omega (arith, no)

-- AreFrom
are_from : AreFrom 1 two_wait.waiting
are_from = (refl, (refl, tt))

are_from_another : AreFrom 2 two_wait.waiting → ⊥
are_from_another is = omega (arith, is.0)

have_a_gap : AreFrom 1 (of 7 1 ∷ of 8 3 ∷ []) → ⊥
have_a_gap is = omega (arith, is.1.0)
