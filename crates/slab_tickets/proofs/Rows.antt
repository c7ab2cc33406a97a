-- For each clause on the tickets of a zone a case that it accepts, and one that breaks it alone.
use Rattle.std.specs.Prelude.{ℕ, ◌≡◌, true, false, List, [], ◌∷◌, length, Option, None, Some}
use Rattle.std.specs.List.{remove}
use Rattle.std.proofs.Common.{◌≢◌, sym, ◌∙◌, ap, arith, refl, get_or, set, get_or-set_other}
use Rattle.std.proofs.lemmas.Bool.{false≢true}
use Rattle.blk_base.specs.declared.place.Pbn.{Pbn}
use Rattle.blk_base.specs.Forms.{pbn as at}
use Rattle.blk_base.proofs.Example.{asker}
use Rattle.slab_counts.specs.declared.tickets.Ticket.{Ticket}
use Rattle.slab_counts.specs.declared.tickets.Receipt.{Receipt}
use Rattle.slab_tickets.specs.declared.forms.Waiting.{Waiting}
use Rattle.slab_tickets.specs.declared.forms.Withdrawn.{Withdrawn}
use Rattle.slab_tickets.specs.declared.forms.Withdrawn.TheVariants.{Block, Nothing}
use Rattle.slab_tickets.specs.Tickets.{Desk, IsNow, IsBelow, IsNext, NoneWaits, HasRoom, Issues, Gives, Withdraws, IsOutAt, is_served, begun, worth}
use Rattle.slab_tickets.specs.Operations.{Operation, Begins, Issued, IsRight, last_free_of, step_of}

-- a ticket of this number, that asked in this step
abbrev one : ℕ → ℕ → Option Pbn → Waiting
one number asked block = record { number = number; asked = asked; writer = asker; block = block }

-- in step 9 two tickets are out, of which the older one has block 85; the zone had a free block at the end of step 4
abbrev two : Desk
two = record { zone = 1; room = 3; issued = 6; step = Some 9; last_free = Some 4; out = one 2 5 (Some (at 85)) ∷ one 5 8 None ∷ [] }

-- IsBelow
none_is_below : IsBelow None 0
none_is_below = tt

four_is_below : IsBelow (Some 4) 5
four_is_below = omega arith

five_is_not : ¬ IsBelow (Some 5) 5
five_is_not = λ below. omega (arith, below)

-- begun: the step before had a free block at its end, or not
free_before : (begun true 12 two).last_free ≡ Some 9
free_before = refl

full_before : (begun false 12 two).last_free ≡ Some 4
full_before = refl

now_twelve : IsNow (begun false 12 two) 12
now_twelve = refl

-- IsNext, NoneWaits
second_is_next : IsNext two 1
second_is_next = refl

first_is_not : ¬ IsNext two 0
first_is_not = λ next. let same : ◌≡◌ {A = Option ℕ} (Some 1) (Some 0) = next in cc

one_waits : ¬ NoneWaits two
one_waits = λ none. let same : ◌≡◌ {A = Option ℕ} (Some 1) None = none in cc

all_served : NoneWaits (record two { out = one 2 5 (Some (at 85)) ∷ [] })
all_served = refl

-- HasRoom
room_for_one : HasRoom two
room_for_one = record { fewer = omega arith; number = omega arith }

no_room : ¬ HasRoom (record two { room = 2 })
no_room = λ room. omega (arith, room.fewer)

no_number : ¬ HasRoom (record two { issued = 18446744073709551615 })
no_number = λ room. omega (arith, room.number)

-- Issues: of this step, this zone, the next number, behind all others
abbrev ticket : Ticket
ticket = record { zone = 1; number = 6; asked = 9 }

abbrev three : Desk
three = record two { issued = 7; out = one 2 5 (Some (at 85)) ∷ one 5 8 None ∷ one 6 9 None ∷ [] }

issues : Issues two three asker ticket
issues = record { now = refl; zone = refl; number = refl; after = refl }

of_another_step : ¬ Issues two (record two { issued = 7; out = one 2 5 (Some (at 85)) ∷ one 5 8 None ∷ one 6 3 None ∷ [] }) asker (record ticket { asked = 3 })
of_another_step = λ is. let step : ◌≡◌ {A = ℕ} 9 3 = let same : ◌≡◌ {A = Option ℕ} (Some 9) (Some 3) = is.now in cc in absurd (omega (arith, step))

of_another_zone : ¬ Issues two three asker (record ticket { zone = 2 })
of_another_zone = λ is. let zone : 2 ≡ 1 = is.zone in absurd (omega (arith, zone))

with_a_number_again : ¬ Issues two (record three { out = one 2 5 (Some (at 85)) ∷ one 5 8 None ∷ one 5 9 None ∷ [] }) asker (record ticket { number = 5 })
with_a_number_again = λ is. let number : 5 ≡ 6 = is.number in absurd (omega (arith, number))

not_kept : ¬ Issues two (record two { issued = 7 }) asker ticket
not_kept = λ is. let long : 2 ≡ 3 = ap (λ (d : Desk). length d.out) is.after in absurd (omega (arith, long))

-- Gives: to the oldest without a block
gives : Gives two (record two { out = one 2 5 (Some (at 85)) ∷ one 5 8 (Some (at 90)) ∷ [] }) (at 90)
gives = record { place = 1; oldest = refl; waiting = one 5 8 None; is = refl; after = refl }

to_the_youngest : ¬ Gives three (record three { out = one 2 5 (Some (at 85)) ∷ one 5 8 None ∷ one 6 9 (Some (at 90)) ∷ [] }) (at 90)
to_the_youngest = λ is.
    let second : is.place ≡ 1 = let same : ◌≡◌ {A = Option ℕ} (Some 1) (Some is.place) = is.oldest in cc in
    let stays : true ≡ is_served (get_or (set three.out is.place (record is.waiting { block = Some (at 90) })) 2 (one 0 0 None))
    = ap (λ (d : Desk). is_served (get_or d.out 2 (one 0 0 None))) is.after in
    let other : 2 ≢ is.place = λ same. omega (arith, same, second) in
    absurd (false≢true (sym (stays ∙ ap (λ (w : Waiting). is_served w) (get_or-set_other three.out is.place 2 (record is.waiting { block = Some (at 90) }) (one 0 0 None) other))))

-- IsOutAt
five_is_second : IsOutAt two (record { zone = 1; number = 5; asked = 8 }) 1
five_is_second = refl

six_is_not_out : ¬ IsOutAt two ticket 1
six_is_not_out = λ is. let same : ◌≡◌ {A = Option ℕ} None (Some 1) = is in cc

-- Withdraws: the block that went to it, or a receipt with both steps; and it is out no longer
abbrev second : Ticket
second = record { zone = 1; number = 5; asked = 8 }

abbrev of_second : Receipt
of_second = record { zone = 1; asked = 8; withdrawn = 9 }

abbrev first_left : Desk
first_left = record two { out = one 2 5 (Some (at 85)) ∷ [] }

withdraws_nothing : Withdraws two first_left second (Nothing of_second)
withdraws_nothing = record { place = 1; here = refl; waiting = one 5 8 None; is = refl; step = 9; now = refl; worth_is = refl; after = refl }

withdraws_a_block : Withdraws two (record two { out = one 5 8 None ∷ [] }) (record { zone = 1; number = 2; asked = 5 }) (Block (at 85))
withdraws_a_block = record { place = 0; here = refl; waiting = one 2 5 (Some (at 85)); is = refl; step = 9; now = refl; worth_is = refl; after = refl }

-- each result of the second ticket's withdrawal is this receipt
worth_of_second : (new : Desk) (result : Withdrawn) → Withdraws two new second result → result ≡ Nothing of_second
worth_of_second new result did =
    let here : did.place ≡ 1 = let same : ◌≡◌ {A = Option ℕ} (Some 1) (Some did.place) = did.here in cc in
    let which : one 5 8 None ≡ did.waiting = sym (ap (λ (k : ℕ). get_or two.out k did.waiting) here) ∙ did.is in
    let step : ◌≡◌ {A = ℕ} 9 did.step = let same : ◌≡◌ {A = Option ℕ} (Some 9) (Some did.step) = did.now in cc in
    did.worth_is ∙ ap (λ (w : Waiting). worth two did.step w) (sym which) ∙ ap (λ (s : ℕ). worth two s (one 5 8 None)) (sym step)

a_block_for_nothing : ¬ Withdraws two first_left second (Block (at 85))
a_block_for_nothing = λ did. let is = worth_of_second first_left (Block (at 85)) did in cc

another_step : ¬ Withdraws two first_left second (Nothing (record of_second { withdrawn = 8 }))
another_step = λ did.
    let is = worth_of_second first_left (Nothing (record of_second { withdrawn = 8 })) did in
    let same : record of_second { withdrawn = 8 } ≡ of_second = cc in
    let eight : 8 ≡ 9 = ap (λ (r : Receipt). r.withdrawn) same in absurd (omega (arith, eight))

still_out : ¬ Withdraws two two second (Nothing of_second)
still_out = λ did.
    let long : 2 ≡ length (remove two.out did.place) = ap (λ (d : Desk). length d.out) did.after in
    let here : did.place ≡ 1 = let same : ◌≡◌ {A = Option ℕ} (Some 1) (Some did.place) = did.here in cc in
    let short : length (remove two.out did.place) ≡ 1 = ap (λ (k : ℕ). length (remove two.out k)) here in
    absurd (omega (arith, long, short))

-- last_free_of, step_of: the newest call comes first; step 9 began behind a step 4 with a free block
abbrev story : List Operation
story = Issued asker ticket ∷ Begins false 9 ∷ Begins false 6 ∷ Begins true 5 ∷ Begins false 4 ∷ []

free_at_four : last_free_of story ≡ Some 4
free_at_four = refl

in_step_nine : step_of story ≡ Some 9
in_step_nine = refl

never_free : last_free_of (Begins false 9 ∷ Begins false 6 ∷ []) ≡ None
never_free = refl

-- IsRight
asked_behind : IsRight story of_second
asked_behind = omega arith

asked_in_it : ¬ IsRight story (record of_second { asked = 4 })
asked_in_it = λ right. omega (arith, right)
