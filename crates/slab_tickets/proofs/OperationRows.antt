-- For each call on the tickets of a zone what it does, and what it doesn't do: a case that each clause accepts, and one that
-- breaks it alone.
use Rattle.std.specs.Prelude.{ℕ, ◌≡◌, true, false, [], ◌∷◌, length, Option, None, Some}
use Rattle.std.proofs.Common.{sym, ap, subst, arith, refl}
use Rattle.std.proofs.lemmas.Option.{none-some}
use Rattle.blk_base.specs.declared.place.Pbn.{Pbn}
use Rattle.blk_base.specs.Forms.{pbn as at}
use Rattle.blk_base.proofs.Example.{asker}
use Rattle.slab_counts.specs.declared.tickets.Ticket.{Ticket}
use Rattle.slab_counts.specs.declared.tickets.Receipt.{Receipt}
use Rattle.slab_tickets.specs.declared.forms.Waiting.{Waiting}
use Rattle.slab_tickets.specs.declared.forms.Withdrawn.{Withdrawn}
use Rattle.slab_tickets.specs.declared.forms.Withdrawn.TheVariants.{Block, Nothing}
use Rattle.slab_tickets.specs.Operations.{Begins, Does, Given, Issued, LeadTo, Withdrawn'}
use Rattle.slab_tickets.specs.Numbers.{AreRising}
use Rattle.slab_tickets.specs.Tickets.{Desk, begun, empty_desk, worth_of}

-- a ticket of this number, that asked in step 9
abbrev one : ℕ → Option Pbn → Waiting
one number block = record { number = number; asked = 9; writer = asker; block = block }

abbrev ticket : ℕ → Ticket
ticket number = record { zone = 1; number = number; asked = 9 }

abbrev receipt : Receipt
receipt = record { zone = 1; asked = 9; withdrawn = 9 }

-- in step 9 no ticket is out; one is; and it has block 85
abbrev quiet : Desk
quiet = record { zone = 1; room = 1; issued = 5; step = Some 9; last_free = Some 4; out = [] }

abbrev waiting : Desk
waiting = record quiet { issued = 6; out = one 5 None ∷ [] }

abbrev served : Desk
served = record waiting { out = one 5 (Some (at 85)) ∷ [] }

-- empty_desk
empty : empty_desk 1 3 ≡ record { zone = 1; room = 3; issued = 0; step = None; last_free = None; out = [] }
empty = refl

-- worth_of
worth_its_block : worth_of (Some (at 85)) receipt ≡ Block (at 85)
worth_its_block = refl

worth_a_receipt : worth_of None receipt ≡ Nothing receipt
worth_a_receipt = refl

-- AreRising: from the first number on, and below the next one
rising : AreRising 2 (one 2 None ∷ one 5 None ∷ []) 6
rising = (omega arith, (omega arith, omega arith))

below_the_first : AreRising 3 (one 2 None ∷ []) 6 → ⊥
below_the_first is = omega (arith, is.0)

a_number_twice : AreRising 2 (one 5 None ∷ one 5 None ∷ []) 6 → ⊥
a_number_twice is = omega (arith, is.1.0)

not_below_the_next : AreRising 2 (one 5 None ∷ []) 5 → ⊥
not_below_the_next is = omega (arith, is.1)

-- Does: a step begins behind one that ended with a free block, and none waits
begins_free : Does (Begins true 12) served (begun true 12 served)
begins_free = (refl, omega arith, refl)

begins_free_though_one_waits : (new : Desk) → Does (Begins true 12) waiting new → ⊥
begins_free_though_one_waits new is = none-some 0 (sym is.0)

begins_free_again : (new : Desk) → Does (Begins true 9) served new → ⊥
begins_free_again new is = omega (arith, is.1)

begins_free_and_forgets : Does (Begins true 12) served (record served { step = Some 12 }) → ⊥
begins_free_and_forgets is = omega (arith, ap (λ (d : Desk). step_in d.last_free) is.2)
  where
    step_in : Option ℕ → ℕ
    step_in None = 0
    step_in (Some step) = step

-- a step begins behind one that ended without a free block
begins_full : Does (Begins false 12) waiting (record waiting { step = Some 12 })
begins_full = (omega arith, refl)

begins_full_again : (new : Desk) → Does (Begins false 9) waiting new → ⊥
begins_full_again new is = omega (arith, is.0)

begins_full_and_forgets : Does (Begins false 12) waiting (record waiting { step = None }) → ⊥
begins_full_and_forgets is = none-some 12 (ap (λ (d : Desk). d.step) is.1)

-- a ticket is issued
issues : Does (Issued asker (ticket 5)) quiet waiting
issues = (record { fewer = omega arith; number = omega arith }, record { now = refl; zone = refl; number = refl; after = refl })

issues_without_room : (new : Desk) → Does (Issued asker (ticket 6)) waiting new → ⊥
issues_without_room new is = omega (arith, is.0.fewer)

issues_and_forgets : Does (Issued asker (ticket 5)) quiet quiet → ⊥
issues_and_forgets is = let no : 5 ≡ 6 = ap (λ (d : Desk). d.issued) is.1.after in omega (arith, no)

-- it gets a block
gives : Does (Given (at 85)) waiting served
gives = record { place = 0; oldest = refl; waiting = one 5 None; is = refl; after = refl }

gives_to_none : (new : Desk) → Does (Given (at 85)) quiet new → ⊥
gives_to_none new is = none-some is.place is.oldest

-- it is withdrawn, with its block or without one
withdraws_block : Does (Withdrawn' (ticket 5) (Block (at 85))) served (record quiet { issued = 6 })
withdraws_block = record { place = 0; here = refl; waiting = one 5 (Some (at 85)); is = refl; step = 9; now = refl; worth_is = refl; after = refl }

withdraws_nothing : Does (Withdrawn' (ticket 5) (Nothing receipt)) waiting (record quiet { issued = 6 })
withdraws_nothing = record { place = 0; here = refl; waiting = one 5 None; is = refl; step = 9; now = refl; worth_is = refl; after = refl }

withdraws_what_is_not_out : (new : Desk) (result : Withdrawn) → Does (Withdrawn' (ticket 6) result) served new → ⊥
withdraws_what_is_not_out new result is = none-some is.place is.here

-- LeadTo: the newest call comes first
in_turn : LeadTo quiet (Withdrawn' (ticket 5) (Block (at 85)) ∷ Given (at 85) ∷ Issued asker (ticket 5) ∷ []) (record quiet { issued = 6 })
in_turn = (served, (waiting, (quiet, refl, issues), gives), withdraws_block)

in_another_order : (new : Desk) → LeadTo quiet (Issued asker (ticket 5) ∷ Given (at 85) ∷ []) new → ⊥
in_another_order new (before, (first, same, given), issued) = gives_to_none before (subst (λ (d : Desk). Does (Given (at 85)) d before) same given)

by_no_call : LeadTo quiet [] waiting → ⊥
by_no_call same = let no : 1 ≡ 0 = ap (λ (d : Desk). length d.out) same in omega (arith, no)
