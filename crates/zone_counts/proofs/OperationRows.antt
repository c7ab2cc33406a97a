-- For each call of a zone what it does, and what it doesn't do; and which block stands where: a case that each clause accepts,
-- and one that breaks it alone.
use Rattle.std.specs.Prelude.{ℕ, zero, suc, ◌≡◌, ◌+◌, ◌*◌, ◌<◌, ◌≤◌, Bool, true, false, List, [], ◌∷◌, replicate, slice_index, slice_index_or, slice_set, Option, None, Some}
use Rattle.std.proofs.Common.{ap, sym, subst, ◌∙◌, arith, inl, inr, refl}
use Rattle.std.proofs.lemmas.Bool.{false≢true}
use Rattle.std.proofs.lemmas.Option.{none-some}
use Rattle.plain_laws.proofs.ListLaws.{zero_at}
use Rattle.blk_base.specs.declared.geometry.Geometry.{Geometry}
use Rattle.blk_base.specs.declared.place.Pbn.{Pbn}
use Rattle.blk_base.specs.declared.point.Half.TheVariants.{Decrement}
use Rattle.blk_base.proofs.Example.{asker}
use Rattle.blk_base.specs.Forms.{pbn as at}
use Rattle.slab_counts.specs.Counts.{Counts, HasNoFree, IsFree, IsOfSlab}
use Rattle.slab_counts.specs.Kept.{IsWithin}
use Rattle.slab_counts.specs.declared.tickets.Receipt.{Receipt}
use Rattle.slab_counts.specs.declared.tickets.Ticket.{Ticket}
use Rattle.slab_counts.proofs.OpeningRows.{sizes, unused, limits}
use Rattle.slab_tickets.specs.Operations as tickets
use Rattle.slab_tickets.specs.Tickets.{Desk}
use Rattle.slab_tickets.specs.declared.forms.Waiting.{Waiting}
use Rattle.slab_tickets.specs.declared.forms.Withdrawn.{Withdrawn}
use Rattle.slab_tickets.specs.declared.forms.Withdrawn.TheVariants.{Nothing}
use Rattle.zone_counts.specs.ZoneAnswers.{SharesIn, WithdrawsFrom}
use Rattle.zone_counts.specs.ByBlock.{claims_at, counter_at, is_at, served_in, waits_with}
use Rattle.zone_counts.specs.Operations.{Applies, Asks', Begins, Operation, Does, Drops, Extends, IsRight, LeadTo, Refused, Shares', SpendsPage, Withdraws', begins_of}
use Rattle.zone_counts.specs.Zone.{AreSlabs, BeginsBehind, BeginsStep, Changes, ClaimsLowest, IsClaimedIn, IsOfZone, IsZone, NoneBefore, NoneFree, Serves, ServesOldest, Zone, nowhere, place_in, index_of, slab_at, slab_number, slab_of, used_in, with_slab}
use Rattle.zone_counts.specs.declared.forms.Asked.TheVariants as asked

-- two slabs of one block each: 85, and 91 behind a reference block and four of a journal
abbrev ones : Geometry
ones = record { logical = 1000; slabs = 2; slab_blocks = 1; journal = 8; index = 16; slab_journal = 4; height = 2; nonce = 1 }

abbrev slab : ℕ → ℕ → ℕ → Counts
slab number count claims = record { geometry = ones; slab = number; counters = count ∷ []; claims = claims ∷ []; pages = false ∷ [] }

abbrev one : Option Pbn → Waiting
one block = record { number = 5; asked = 9; writer = asker; block = block }

abbrev ticket : Ticket
ticket = record { zone = 0; number = 5; asked = 9 }

abbrev receipt : Receipt
receipt = record { zone = 0; asked = 9; withdrawn = 9 }

-- in step 9 no ticket is out; or one is
abbrev quiet : Desk
quiet = record { zone = 0; room = 1; issued = 5; step = Some 9; last_free = None; out = [] }

abbrev waiting : Desk
waiting = record quiet { issued = 6; out = one None ∷ [] }

-- the first block is mapped, and the second has these numbers
abbrev with_second : ℕ → ℕ → Desk → Zone
with_second count claims desk = record { geometry = ones; zone = 0; zones = 1; slabs = slab 0 1 0 ∷ slab 1 count claims ∷ []; desk = desk }

-- it is free, or claimed, or mapped
abbrev some : Zone
some = with_second 0 0 quiet

abbrev one_claimed : Zone
one_claimed = with_second 0 1 quiet

abbrev full : Zone
full = with_second 1 0 quiet

abbrev asked_for : Zone
asked_for = with_second 1 0 waiting

abbrev count_of : ℕ → Zone → ℕ
count_of k z = slice_index (slab_at z.slabs k).counters 0

abbrev claims_of : ℕ → Zone → ℕ
claims_of k z = slice_index (slab_at z.slabs k).claims 0

-- nowhere: it has no block
nothing_is_there : (block : Pbn) → IsOfSlab nowhere block → ⊥
nothing_is_there block here = let above = here.0 in let below = here.1 in omega (arith, above, below)

there_behind_the_last : slab_at some.slabs 2 ≡ nowhere
there_behind_the_last = refl

-- slab_number, place_in: of eight slabs, the last of which is the third of the second of three zones
number_of_first : slab_number ones (at 85) ≡ 0
number_of_first = refl

number_of_eighth : slab_number ones (at 127) ≡ 7
number_of_eighth = refl

place_of_eighth : place_in ones 3 (at 127) ≡ 2
place_of_eighth = refl

-- IsOfZone
second_block : IsOfZone some (at 91)
second_block = record { data_block = record { slab = 1; offset = 0; inside = (omega arith, omega arith); stands = refl }; own = refl }

first_block : IsOfZone some (at 85)
first_block = record { data_block = record { slab = 0; offset = 0; inside = (omega arith, omega arith); stands = refl }; own = refl }

of_another_zone : IsOfZone (record some { zones = 2 }) (at 91) → ⊥
of_another_zone is = let no : 1 ≡ 0 = is.own in omega (arith, no)

-- index_of, slab_of, with_slab
second_place : index_of some (at 91) ≡ 1
second_place = refl

second_slab : slab_of some (at 91) ≡ slab 1 0 0
second_slab = refl

with_second_claimed : with_slab some (at 91) (slab 1 0 1) ≡ one_claimed
with_second_claimed = refl

-- used_in
one_is_used : used_in some.slabs ≡ 1
one_is_used = refl

both_are_used : used_in full.slabs ≡ 2
both_are_used = refl

-- counter_at, claims_at
counter_of_its_block : counter_at (at 91) (slab 1 5 2) ≡ 5
counter_of_its_block = refl

counter_of_another : counter_at (at 85) (slab 1 5 2) ≡ 0
counter_of_another = refl

claims_of_its_block : claims_at (at 91) (slab 1 5 2) ≡ 2
claims_of_its_block = refl

claims_of_another : claims_at (at 85) (slab 1 5 2) ≡ 0
claims_of_another = refl

-- is_at, waits_with
it_is_at : is_at (at 91) (Some (at 91)) ≡ 1
it_is_at = refl

at_another : is_at (at 85) (Some (at 91)) ≡ 0
at_another = refl

at_none : is_at (at 91) None ≡ 0
at_none = refl

waits_with_it : waits_with (at 91) (one (Some (at 91))) ≡ 1
waits_with_it = refl

waits_without : waits_with (at 91) (one None) ≡ 0
waits_without = refl

-- NoneBefore
first_used : HasNoFree (slab 0 1 0)
first_used block here free =
    let place : block.0 ≡ 85 = omega (arith, here.0, here.1) in let no : 1 ≡ 0 = (subst (λ (n : ℕ). IsFree (slab 0 1 0) (at n)) place free).0 in omega (arith, no)

second_used : HasNoFree (slab 1 1 0)
second_used block here free =
    let place : block.0 ≡ 91 = omega (arith, here.0, here.1) in let no : 1 ≡ 0 = (subst (λ (n : ℕ). IsFree (slab 1 1 0) (at n)) place free).0 in omega (arith, no)

before_second : NoneBefore some.slabs 1
before_second zero below = first_used
before_second (suc k) below = absurd (omega (arith, below))

second_is_free : NoneBefore some.slabs 2 → ⊥
second_is_free none = none 1 (omega arith) (at 91) (omega arith, omega arith) (refl, refl)

none_free : NoneFree full.slabs
none_free zero below = first_used
none_free (suc zero) below = second_used
none_free (suc (suc k)) below = absurd (omega (arith, below))

one_free : NoneFree some.slabs → ⊥
one_free none = none 1 (omega arith) (at 91) (omega arith, omega arith) (refl, refl)

-- the second block is the lowest that is free
lowest : ClaimsLowest some.slabs one_claimed.slabs (at 91)
lowest = record {
  place = 1;
  inside = omega arith;
  before = before_second;
  slab = slab 1 0 1;
  claims = record { of_slab = (omega arith, omega arith); free = (refl, refl); lowest = λ other here below. absurd (let above = here.0 in omega (arith, above, below)); now_claimed = refl };
  after = refl;
}

none_claimed : (new : List Counts) (block : Pbn) → ClaimsLowest full.slabs new block → ⊥
none_claimed new block is = none_free is.place is.inside block is.claims.of_slab is.claims.free

-- ServesOldest
abbrev served : Desk
served = record waiting { out = one (Some (at 91)) ∷ [] }

abbrev serves : ServesOldest some.slabs waiting one_claimed.slabs served
serves = record { block = at 91; claims = lowest; gives = record { place = 0; oldest = refl; waiting = one None; is = refl; after = refl } }

serves_with_none_free : (new : List Counts) (desk : Desk) → ServesOldest full.slabs waiting new desk → ⊥
serves_with_none_free new desk is = none_claimed new is.block is.claims

serves_nobody : (new : List Counts) (desk : Desk) → ServesOldest some.slabs quiet new desk → ⊥
serves_nobody new desk is = none-some is.gives.place is.gives.oldest

-- Changes: a mapping is taken off the second block, which goes to the ticket that waits
abbrev free_again : Counts
free_again = slab 1 0 0

abbrev given_on : Zone
given_on = with_second 0 1 served

abbrev changes : Changes asked_for given_on (at 91) free_again
changes = record { serves = inr serves; same = refl }

-- serves
abbrev given_to_first : List Waiting → Option Pbn
given_to_first [] = None
given_to_first (first ∷ others) = first.block

not_served : Serves some.slabs waiting some.slabs waiting → ⊥
not_served (inl still) = elim still.0 [ inl none ↦ none-some 0 (sym none) | inr none ↦ one_free none ]
not_served (inr given) =
    let oldest : ◌≡◌ {A = Option ℕ} (Some 0) (Some given.gives.place) = given.gives.oldest in
    let place : given.gives.place ≡ 0 = cc oldest in
    none-some given.block
    (ap (λ (d : Desk). given_to_first d.out) given.gives.after ∙ ap (λ (k : ℕ). given_to_first (slice_set waiting.out k (record given.gives.waiting { block = Some given.block }))) place)

keeps_it_from_the_ticket : Changes asked_for (with_second 0 0 waiting) (at 91) free_again → ⊥
keeps_it_from_the_ticket is = not_served is.serves

-- same
changes_the_number_of_zones : Changes asked_for (record given_on { zones = 2 }) (at 91) free_again → ⊥
changes_the_number_of_zones is = let no : 2 ≡ 1 = ap (λ (z : Zone). z.zones) is.same in omega (arith, no)

-- AreSlabs: one slab of 16 blocks, none of which is used
within : IsWithin unused
within = record { geometry = limits; slab = omega arith; counters = refl; claims = refl; pages = refl; limit = λ k. (let none = zero_at 16 k in omega (arith, none)) }

are_slabs : AreSlabs sizes 0 1 (unused ∷ [])
are_slabs = record { sizes = limits; number = omega arith; all = λ n below own. omega (arith, below); each = each }
  where
    each : (k : ℕ) → k < 1 → ((slab_at (unused ∷ []) k).slab ≡ k * 1 + 0) × ((slab_at (unused ∷ []) k).geometry ≡ sizes) × IsWithin (slab_at (unused ∷ []) k)
    each zero inside = (refl, refl, within)
    each (suc k) inside = absurd (omega (arith, inside))

-- sizes
of_no_slab : AreSlabs (record sizes { slabs = 0 }) 0 1 [] → ⊥
of_no_slab are = omega (arith, are.sizes.slabs.0)

-- number
of_no_zone : AreSlabs sizes 1 1 [] → ⊥
of_no_zone are = omega (arith, are.number)

-- all
without_a_slab : AreSlabs sizes 0 1 [] → ⊥
without_a_slab are = let inside = are.all 0 (omega arith) refl in omega (arith, inside)

-- each: its number, its image, and what is true of its numbers
abbrev two_sizes : Geometry
two_sizes = record sizes { slabs = 2 }

in_another_order : AreSlabs two_sizes 0 1 (record unused { geometry = two_sizes; slab = 1 } ∷ record unused { geometry = two_sizes } ∷ []) → ⊥
in_another_order are = let no : 1 ≡ 0 = (are.each 0 (omega arith)).0 in omega (arith, no)

of_another_image : AreSlabs sizes 0 1 (record unused { geometry = record sizes { nonce = 2 } } ∷ []) → ⊥
of_another_image are = let no : 2 ≡ 1 = ap (λ (g : Geometry). g.nonce) (are.each 0 (omega arith)).1 in omega (arith, no)

past_the_limit : AreSlabs sizes 0 1 (record unused { counters = 255 ∷ replicate 15 0 } ∷ []) → ⊥
past_the_limit are = let most : 255 + 0 ≤ 254 = (are.each 0 (omega arith)).2.limit 0 in omega (arith, most)

-- IsZone
abbrev unused_zone : Zone
unused_zone = record { geometry = sizes; zone = 0; zones = 1; slabs = unused ∷ []; desk = quiet }

is_zone : IsZone unused_zone
is_zone = record { slabs = are_slabs; desk = refl; settled = inl refl }

-- slabs
zone_without_a_slab : IsZone (record unused_zone { slabs = [] }) → ⊥
zone_without_a_slab is = without_a_slab is.slabs

-- desk
desk_of_another_zone : IsZone (record unused_zone { desk = record quiet { zone = 1 } }) → ⊥
desk_of_another_zone is = let no : 1 ≡ 0 = is.desk in omega (arith, no)

-- settled
waits_for_a_free_block : IsZone (record unused_zone { desk = waiting }) → ⊥
waits_for_a_free_block is = elim is.settled [
  | inl none ↦ none-some 0 (sym none)
  | inr none ↦ none 0 (omega arith) (at 85) (omega arith, omega arith) (refl, refl)
]

-- BeginsStep
abbrev step_ten : Zone
step_ten = record some { desk = record quiet { step = Some 10; last_free = Some 9 } }

begins : BeginsBehind true some step_ten 10
begins = record { some = λ is. one_free; none = λ is. absurd (false≢true (sym is)); after = refl }

begins_step : BeginsStep some step_ten 10
begins_step = (true, begins)

forgets_the_free_block : BeginsStep some (record some { desk = record quiet { step = Some 10 } }) 10 → ⊥
forgets_the_free_block (true, is) = none-some 9 (ap (λ (z : Zone). z.desk.last_free) is.after)
forgets_the_free_block (false, is) = one_free (is.none refl)

-- Does: a step begins
does_begin : Does (Begins true 10) some step_ten
does_begin = (omega arith, begins)

begins_again : (free : Bool) (new : Zone) → Does (Begins free 9) some new → ⊥
begins_again free new is = omega (arith, is.0)

begins_as_if_full : (new : Zone) → Does (Begins false 10) some new → ⊥
begins_as_if_full new is = one_free (is.1.none refl)

-- a block is asked for
gives_block : Does (Asks' asker (asked.Block (at 91))) some one_claimed
gives_block = (record { fewer = omega arith; number = omega arith }, record { claims = lowest; same = refl })

gives_without_room : (new : Zone) → Does (Asks' asker (asked.Block (at 91))) (record some { desk = waiting }) new → ⊥
gives_without_room new is = omega (arith, is.0.fewer)

gives_none_that_is_free : (new : Zone) (block : Pbn) → Does (Asks' asker (asked.Block block)) full new → ⊥
gives_none_that_is_free new block is = none_claimed new.slabs block is.1.claims

gives_ticket : Does (Asks' asker (asked.Ticket ticket)) full asked_for
gives_ticket = (record { fewer = omega arith; number = omega arith }, record { none_free = none_free; issues = record { now = refl; zone = refl; number = refl; after = refl }; same = refl })

gives_a_ticket_for_a_free_one : (new : Zone) → Does (Asks' asker (asked.Ticket ticket)) some new → ⊥
gives_a_ticket_for_a_free_one new is = one_free is.1.none_free

gives_another_number : (new : Zone) → Does (Asks' asker (asked.Ticket (record ticket { number = 6 }))) full new → ⊥
gives_another_number new is = let no : 6 ≡ 5 = is.1.issues.number in omega (arith, no)

gives_a_ticket_and_frees : Does (Asks' asker (asked.Ticket ticket)) full (record asked_for { slabs = some.slabs }) → ⊥
gives_a_ticket_and_frees is = let no : 0 ≡ 1 = ap (count_of 1) is.1.same in omega (arith, no)

-- WithdrawsFrom: a ticket is withdrawn
abbrev withdrawn : Zone
withdrawn = record full { desk = record quiet { issued = 6 } }

withdraws_from : WithdrawsFrom asked_for withdrawn ticket (Nothing receipt)
withdraws_from = record { withdraws = record { place = 0; here = refl; waiting = one None; is = refl; step = 9; now = refl; worth_is = refl; after = refl }; same = refl }

does_withdraw : Does (Withdraws' ticket (Nothing receipt)) asked_for withdrawn
does_withdraw = withdraws_from

-- withdraws
withdraws_what_is_not_out : (new : Zone) (result : Withdrawn) → WithdrawsFrom full new ticket result → ⊥
withdraws_what_is_not_out new result is = none-some is.withdraws.place is.withdraws.here

-- same
withdraws_and_frees : WithdrawsFrom asked_for (record withdrawn { slabs = some.slabs }) ticket (Nothing receipt) → ⊥
withdraws_and_frees is = let no : 0 ≡ 1 = ap (count_of 1) is.same in omega (arith, no)

-- SharesIn: a mapped block is shared
abbrev shared : Zone
shared = record some { slabs = slab 0 1 1 ∷ slab 1 0 0 ∷ [] }

shares_in : SharesIn some shared (at 85)
shares_in = record {
  own = first_block;
  slab = slab 0 1 1;
  shares = record { of_slab = (omega arith, omega arith); data_block = λ page. false≢true page; live = omega arith; room = omega arith; now_claimed = refl };
  after = refl;
}

does_share : Does (Shares' (at 85)) some shared
does_share = shares_in

-- own: of a slab that isn't the zone's
shares_of_another_zone : (new : Zone) → SharesIn (record some { zones = 2; slabs = slab 1 1 0 ∷ [] }) new (at 91) → ⊥
shares_of_another_zone new is = let no : 1 ≡ 0 = is.own.own in omega (arith, no)

-- shares
shares_a_free_one : (new : Zone) → SharesIn some new (at 91) → ⊥
shares_a_free_one new is = omega (arith, is.shares.live)

-- after
shares_without_a_trace : SharesIn some some (at 85) → ⊥
shares_without_a_trace is =
    let stands : 0 ≡ slice_index is.slab.claims 0 = ap (claims_of 0) is.after in
    let claims : slice_index is.slab.claims 0 ≡ 1 = ap (λ (c : Counts). slice_index c.claims 0) is.shares.now_claimed in
    omega (arith, stands, claims)

-- a claim is extended
second_is_claimed : IsClaimedIn one_claimed (at 91)
second_is_claimed = record { own = second_block; some = omega arith }

extends : Does (Extends (at 91)) one_claimed (with_second 0 2 quiet)
extends = (second_is_claimed, omega arith, refl)

extends_no_claim : (new : Zone) → Does (Extends (at 91)) some new → ⊥
extends_no_claim new is = omega (arith, is.0.some)

extends_past_the_limit : (new : Zone) → Does (Extends (at 91)) (with_second 253 1 quiet) new → ⊥
extends_past_the_limit new is = omega (arith, is.1)

extends_without_a_trace : Does (Extends (at 91)) one_claimed one_claimed → ⊥
extends_without_a_trace is = let no : 1 ≡ 2 = ap (claims_of 1) is.2 in omega (arith, no)

-- a claim is dropped
abbrev drops : Does (Drops (at 91)) one_claimed some
drops = (second_is_claimed, record { serves = inl (inl refl, refl, refl); same = refl })

drops_no_claim : (new : Zone) → Does (Drops (at 91)) some new → ⊥
drops_no_claim new is = omega (arith, is.0.some)

drops_for_a_ticket : Does (Drops (at 91)) (record one_claimed { desk = waiting }) (record some { desk = waiting }) → ⊥
drops_for_a_ticket is = not_served is.1.serves

-- it is spent for a page
abbrev with_its_page : Zone
with_its_page = record one_claimed { slabs = slab 0 1 0 ∷ record (slab 1 0 1) { pages = true ∷ [] } ∷ [] }

spends_for_a_page : Does (SpendsPage (at 91)) one_claimed with_its_page
spends_for_a_page = (second_is_claimed, refl)

spends_no_claim : (new : Zone) → Does (SpendsPage (at 91)) some new → ⊥
spends_no_claim new is = omega (arith, is.0.some)

spends_for_no_page : Does (SpendsPage (at 91)) one_claimed one_claimed → ⊥
spends_for_no_page is = false≢true (ap (λ (z : Zone). slice_index_or (slab_at z.slabs 1).pages 0 false) is.1)

-- an update is applied, and the block that it frees goes to the ticket that waits
abbrev applies : Does (Applies Decrement (at 91) free_again) asked_for given_on
applies = (second_block, (omega arith, refl), changes)

applies_to_another_zone : (new : Zone) (counts : Counts) → Does (Applies Decrement (at 91) counts) (record asked_for { zones = 2 }) new → ⊥
applies_to_another_zone new counts is = let no : 1 ≡ 0 = is.0.own in omega (arith, no)

applies_what_does_not_fit : (new : Zone) (counts : Counts) → Does (Applies Decrement (at 91) counts) some new → ⊥
applies_what_does_not_fit new counts is = omega (arith, is.1.0)

applies_and_keeps : Does (Applies Decrement (at 91) free_again) asked_for (with_second 0 0 waiting) → ⊥
applies_and_keeps is = not_served is.2.serves

-- what is refused changes nothing
refused : Does Refused some some
refused = refl

refused_and_claimed : Does Refused some one_claimed → ⊥
refused_and_claimed is = let no : 1 ≡ 0 = ap (claims_of 1) is in omega (arith, no)

-- served_in
served_by_an_update : served_in (Applies Decrement (at 91) free_again) asked_for given_on applies ≡ Some (at 91)
served_by_an_update = refl

nobody_served : served_in (Drops (at 91)) one_claimed some drops ≡ None
nobody_served = refl

served_by_no_other : served_in Refused some some refl ≡ None
served_by_no_other = refl

-- LeadTo: the newest call comes first
in_turn : LeadTo full (Applies Decrement (at 91) free_again ∷ Asks' asker (asked.Ticket ticket) ∷ []) given_on
in_turn = (asked_for, (full, refl, gives_ticket), applies)

withdrawn_before_it_was_given : (new : Zone) (result : Withdrawn) → LeadTo full (Asks' asker (asked.Ticket ticket) ∷ Withdraws' ticket result ∷ []) new → ⊥
withdrawn_before_it_was_given new result (before, (first, same, did), asks) = withdraws_what_is_not_out before result (subst (λ (z : Zone). WithdrawsFrom z before ticket result) same did)

by_no_call : LeadTo some [] one_claimed → ⊥
by_no_call is = let no : 1 ≡ 0 = ap (claims_of 1) is in omega (arith, no)

-- begins_of, IsRight: step 9 began behind a step 4 that ended with a free block
abbrev story : List Operation
story = Asks' asker (asked.Ticket ticket) ∷ Begins false 9 ∷ Begins true 5 ∷ Drops (at 91) ∷ Begins false 4 ∷ []

three_begin : begins_of story ≡ tickets.Begins false 9 ∷ tickets.Begins true 5 ∷ tickets.Begins false 4 ∷ []
three_begin = refl

none_begins : begins_of (Drops (at 91) ∷ []) ≡ []
none_begins = refl

asked_behind : IsRight story (record receipt { asked = 5 })
asked_behind = omega arith

asked_in_it : IsRight story (record receipt { asked = 4 }) → ⊥
asked_in_it is = omega (arith, is)
