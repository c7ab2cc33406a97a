-- For each clause on the numbers of tickets a case that it accepts, and one that breaks it alone.
use Rattle.std.specs.Prelude.{ℕ, ◌≡◌, [], ◌∷◌, Option, None, Some}
use Rattle.std.proofs.Common.{arith, refl}
use Rattle.std.proofs.lemmas.List.Elements.{All-nil}
use Rattle.blk_base.specs.declared.place.Pbn.{Pbn}
use Rattle.slab_tickets.specs.declared.forms.Waiting.{Waiting}
use Rattle.slab_tickets.specs.Tickets.{Desk}
use Rattle.slab_tickets.specs.Numbers.{AreNumbered, AskedBehind, IsBehind, ticket_of}

-- a ticket of this number, that asked in this step
abbrev one : ℕ → ℕ → Option Pbn → Waiting
one number asked block = record { number = number; asked = asked; writer = record { stream = 1; number = 7 }; block = block }

-- in step 9 tickets 2, which has block 85, and 5 are out; the zone had a free block at the end of step 4
abbrev two : Desk
two = record { zone = 1; room = 3; issued = 6; step = Some 9; last_free = Some 4; out = one 2 5 (Some (record { 0 = 85 })) ∷ one 5 8 None ∷ [] }

-- ticket_of
served : ticket_of two.out 2 ≡ Some (Some (record { 0 = 85 }))
served = refl

waits : ticket_of two.out 5 ≡ Some None
waits = refl

not_out : ticket_of two.out 3 ≡ None
not_out = refl

-- AreNumbered: each above those before it, and all below the next
numbered : AreNumbered two
numbered = (omega arith, (omega arith, omega arith))

a_number_twice : ¬ AreNumbered (record two { out = one 5 5 None ∷ one 5 8 None ∷ [] })
a_number_twice = λ is. omega (arith, is.1.0)

the_number_of_the_next : ¬ AreNumbered (record two { issued = 5 })
the_number_of_the_next = λ is. omega (arith, is.1.1)

-- AskedBehind
asked_later : AskedBehind (Some 4) (one 5 8 None)
asked_later = λ unserved. omega arith

asked_in_it : ¬ AskedBehind (Some 8) (one 5 8 None)
asked_in_it = λ asked. omega (arith, asked refl)

served_is_asked_any_time : AskedBehind (Some 8) (one 2 5 (Some (record { 0 = 85 })))
served_is_asked_any_time = λ unserved. cc

-- IsBehind
behind : IsBehind (record two { out = [] })
behind = record {
  strict = λ step now. let same : ◌≡◌ {A = Option ℕ} (Some 9) (Some step) = now in let is : 9 ≡ step = cc in omega (arith, is);
  never = λ none. let no : ◌≡◌ {A = Option ℕ} (Some 9) None = none in cc;
  waiting = All-nil (AskedBehind (Some 4));
}

free_in_this_step : ¬ IsBehind (record two { last_free = Some 9; out = [] })
free_in_this_step = λ is. omega (arith, is.strict 9 refl)

free_before_any_step : ¬ IsBehind (record two { step = None; out = [] })
free_before_any_step = λ is. let no : ◌≡◌ {A = Option ℕ} (Some 4) None = is.never refl in cc

one_asked_before : ¬ IsBehind (record two { out = one 5 3 None ∷ [] })
one_asked_before = λ is. omega (arith, is.waiting 0 (one 5 3 None) (omega arith) refl)
