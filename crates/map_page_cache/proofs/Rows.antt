-- Of the order in which clean pages are given up: small cases that are accepted and refused.
use Rattle.std.proofs.Common.{ℕ, zero, suc, ◌≡◌, ◌≢◌, ◌<◌, ◌≤◌, true, false, None, Some, [], ◌∷◌, refl, ap, sym, arith}
use Rattle.std.proofs.lemmas.Option.{none-some}
use Rattle.dirty_pages.specs.Minima.{key_at}
use Rattle.dirty_pages.proofs.Rows.{number}
use Rattle.map_page_cache.specs.Turns.{IsLongestClean, NoneClean, Turns, flags_of, next_turn, no_turns, with_turn}

-- next_turn: behind the last of 64 bits comes 0

after_seven : next_turn 7 ≡ 8
after_seven = refl

begins_again : next_turn (18446744073709551615) ≡ 0
begins_again = refl

-- no_turns, with_turn, flags_of: two frames, of which the second has a clean page first

abbrev pub none : Turns
none = no_turns 2

nobody : flags_of none ≡ false ∷ false ∷ []
nobody = refl

abbrev second : Turns
second = with_turn 1 true none

second_is : second ≡ record { last = 1; frames = None ∷ Some 1 ∷ [] }
second_is = refl

abbrev both : Turns
both = with_turn 0 true second

both_are : both ≡ record { last = 2; frames = Some 2 ∷ Some 1 ∷ [] }
both_are = refl

-- a turn goes by also where a page isn't clean any longer
one_goes : with_turn 1 false both ≡ record { last = 3; frames = Some 2 ∷ None ∷ [] }
one_goes = refl

-- NoneClean

none_is : NoneClean none
none_is zero = refl
none_is (suc zero) = refl
none_is (suc (suc k)) = refl

one_is : NoneClean second → ⊥
one_is is = none-some 1 (sym (is 1))

-- IsLongestClean

at_least : (k other : ℕ) → key_at both.frames k ≡ Some other → 1 ≤ other
at_least zero other at = omega (arith, ap number at)
at_least (suc zero) other at = omega (arith, ap number at)
at_least (suc (suc k)) other at = absurd (none-some other at)

not_before : (k : ℕ) → k < 1 → key_at both.frames k ≢ Some 1
not_before zero below at = omega (arith, ap number at)
not_before (suc k) below at = omega arith

longest : IsLongestClean both 1
longest = record { turn = 1; first = record { inside = omega arith; here = refl; least = at_least; first = not_before } }

-- the other has been clean for a shorter time
not_the_longest : IsLongestClean both 0 → ⊥
not_the_longest is = omega (arith, is.first.least 1 1 refl, ap number is.first.here)

not_clean : IsLongestClean second 0 → ⊥
not_clean is = none-some is.turn is.first.here
