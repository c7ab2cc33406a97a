-- For each clause of what a zone answers a case that it accepts, and one that breaks it alone.
use Rattle.std.specs.Prelude.{ℕ, ◌≡◌, true, false, ◌<◌, List, [], ◌∷◌, slice_index, Option, None, Some}
use Rattle.std.proofs.Common.{sym, ◌∙◌, ap, subst, arith, inl, inr, refl, set}
use Rattle.std.proofs.lemmas.Bool.{cases_eq, false≢true}
use Rattle.blk_base.specs.declared.geometry.Geometry.{Geometry}
use Rattle.blk_base.specs.declared.place.Pbn.{Pbn}
use Rattle.slab_counts.specs.Counts.{Counts, IsOfSlab, IsFree, HasNoFree, ClaimsFree, claimed}
use Rattle.slab_counts.specs.declared.refusals.Refusal.TheVariants.{NotData, NotLive}
use Rattle.slab_counts.specs.declared.tickets.Ticket.{Ticket}
use Rattle.slab_tickets.specs.Tickets.{Desk, empty_desk}
use Rattle.zone_counts.specs.Zone.{Zone, BeginsBehind, IsOf, IsClaimedIn, NoneFree, ClaimsLowest, Serves, IsSettled, slab_at, slabs_of_zone, AreOpened, IsOpeningZone}
use Rattle.blk_base.specs.declared.point.Half.TheVariants.{Increment, Decrement}
use Rattle.blk_base.specs.declared.opened.Opened.{Opened}
use Rattle.blk_base.proofs.Example.{asker}
use Rattle.blk_base.specs.Forms.{pbn as at}
use Rattle.slab_tickets.specs.declared.forms.Withdrawn.TheVariants.{Block, Nothing}
use Rattle.zone_counts.specs.ByBlock.{has_block, counter_in, claims_in, out_with, makes, drops, maps, unmaps, withdraws, served_block, served_ticket}
use Rattle.zone_counts.specs.Openings.{opened_count}
use Rattle.zone_counts.specs.Operations.{Operation, Asks', Withdraws', Shares', Extends, Drops, SpendsPage, Applies}
use Rattle.zone_counts.specs.declared.forms.Asked.TheVariants as asked
use Rattle.zone_counts.specs.ZoneAnswers.{GivesBlock, GivesTicket, IsRefusedIn}

-- two slabs of one block each: 85 and, behind a reference block and four of a journal, 91
abbrev ones : Geometry
ones = record { logical = 1000; slabs = 2; slab_blocks = 1; journal = 8; index = 16; slab_journal = 4; height = 2; nonce = 1 }

abbrev slab : ℕ → ℕ → ℕ → Counts
slab number count claims = record { geometry = ones; slab = number; counters = count ∷ []; claims = claims ∷ []; pages = false ∷ [] }

-- a ticket waits, or none does
abbrev waiting : Desk
waiting = record { zone = 0; room = 3; issued = 6; step = Some 9; last_free = None; out = record { number = 5; asked = 8; writer = asker; block = None } ∷ [] }

abbrev quiet : Desk
quiet = record waiting { out = [] }

-- the first block is mapped, and the second is free
abbrev some : Zone
some = record { geometry = ones; zone = 0; zones = 1; slabs = slab 0 1 0 ∷ slab 1 0 0 ∷ []; desk = quiet }

-- and both are mapped
abbrev full : Zone
full = record some { slabs = slab 0 1 0 ∷ slab 1 1 0 ∷ [] }

-- IsOf: a data block, of a slab of this zone
second_block : IsOf ones 0 1 (at 91)
second_block = record { data_block = record { slab = 1; offset = 0; inside = (omega arith, omega arith); stands = refl }; own = refl }

no_data_block : ¬ IsOf ones 0 1 (at 86)
no_data_block = λ is. absurd (omega (arith, is.data_block.inside, is.data_block.stands))

of_the_other_zone : ¬ IsOf ones 0 2 (at 91)
of_the_other_zone = λ is. let one : 1 ≡ 0 = is.own in absurd (omega (arith, one))

-- IsClaimedIn: of the zone, with a claim
abbrev one_claimed : Zone
one_claimed = record some { slabs = slab 0 1 0 ∷ slab 1 0 1 ∷ [] }

claimed_there : IsClaimedIn one_claimed (at 91)
claimed_there = record { own = second_block; some = omega arith }

claimed_outside : ¬ IsClaimedIn (record one_claimed { zones = 2 }) (at 91)
claimed_outside = λ is. of_the_other_zone is.own

not_claimed : ¬ IsClaimedIn some (at 91)
not_claimed = λ is. omega (arith, is.some)

-- NoneFree
block_of_first : (count claims : ℕ) (b : Pbn) → IsOfSlab (slab 0 count claims) b → b.0 ≡ 85
block_of_first count claims b here = omega (arith, here.0, here.1)

first_used : HasNoFree (slab 0 1 0)
first_used b here free = let one : 1 ≡ 0 = (subst (λ (n : ℕ). IsFree (slab 0 1 0) (at n)) (block_of_first 1 0 b here) free).0 in omega (arith, one)

block_of_second : (count claims : ℕ) (b : Pbn) → IsOfSlab (slab 1 count claims) b → b.0 ≡ 91
block_of_second count claims b here = omega (arith, here.0, here.1)

second_used : HasNoFree (slab 1 1 0)
second_used b here free = let one : 1 ≡ 0 = (subst (λ (n : ℕ). IsFree (slab 1 1 0) (at n)) (block_of_second 1 0 b here) free).0 in omega (arith, one)

second_here : (count claims : ℕ) → IsOfSlab (slab 1 count claims) (at 91)
second_here count claims = (omega arith, omega arith)

none_free : NoneFree full.slabs
none_free k below = elim (cases_eq k 0) [
  | inl first ↦ subst (λ (n : ℕ). HasNoFree (slab_at full.slabs n)) (sym first) first_used
  | inr later ↦ let second : k ≡ 1 = omega (arith, below, later) in subst (λ (n : ℕ). HasNoFree (slab_at full.slabs n)) (sym second) second_used
]

one_free : ¬ NoneFree some.slabs
one_free = λ none. none 1 (omega arith) (at 91) (second_here 0 0) (refl, refl)

-- ClaimsLowest: free, the lowest of all slabs, and claimed now
before_second : (k : ℕ) → k < 1 → HasNoFree (slab_at some.slabs k)
before_second k below = let first : k ≡ 0 = omega (arith, below) in subst (λ (n : ℕ). HasNoFree (slab_at some.slabs n)) (sym first) first_used

claims_second : ClaimsFree (slab 1 0 0) (slab 1 0 1) (at 91)
claims_second = record { of_slab = second_here 0 0; free = (refl, refl); lowest = λ b here below. omega (arith, block_of_second 0 0 b here, below); now_claimed = refl }

lowest : ClaimsLowest some.slabs one_claimed.slabs (at 91)
lowest = record { place = 1; inside = omega arith; before = before_second; slab = slab 1 0 1; claims = claims_second; after = refl }

-- a slab before the claimed one has a free block
abbrev both_free : List Counts
both_free = slab 0 0 0 ∷ slab 1 0 0 ∷ []

not_the_lowest : ¬ ClaimsLowest both_free (slab 0 0 0 ∷ slab 1 0 1 ∷ []) (at 91)
not_the_lowest = λ is. elim (cases_eq is.place 0) [
  | inl first ↦
      let here : IsOfSlab (slab 0 0 0) (at 91) = subst (λ (n : ℕ). IsOfSlab (slab_at both_free n) (at 91)) first is.claims.of_slab in
      let no : 91 ≡ 85 = block_of_first 0 0 (at 91) here in absurd (omega (arith, no))
  | inr later ↦ is.before 0 (omega (arith, later)) (at 85) (omega arith, omega arith) (refl, refl)
]

claimed_without_a_trace : (b : Pbn) → ¬ ClaimsLowest some.slabs some.slabs b
claimed_without_a_trace b = λ is. elim (cases_eq is.place 0) [
  | inl first ↦ subst (λ (n : ℕ). HasNoFree (slab_at some.slabs n)) (sym first) first_used b is.claims.of_slab is.claims.free
  | inr later ↦
      let second : is.place ≡ 1 = omega (arith, later, is.inside) in
      let here : IsOfSlab (slab 1 0 0) b = subst (λ (n : ℕ). IsOfSlab (slab_at some.slabs n) b) second is.claims.of_slab in
      let made : is.slab ≡ slab 1 0 1
      = is.claims.now_claimed ∙ ap (λ (n : ℕ). claimed (slab_at some.slabs n) b) second ∙ ap (λ (n : ℕ). claimed (slab 1 0 0) (at n)) (block_of_second 0 0 b here) in
      let after : slab 1 0 0 ≡ slab 1 0 1
      = ap (λ (xs : List Counts). slab_at xs 1) is.after ∙ ap (λ (n : ℕ). slab_at (set some.slabs n is.slab) 1) second ∙ made in
      let none : 0 ≡ 1 = ap (λ (c : Counts). slice_index c.claims 0) after in absurd (omega (arith, none))
]

-- Serves: a ticket that waits gets a free block, and nothing changes where none waits or none is free
abbrev serves_the_ticket : Serves some.slabs waiting one_claimed.slabs (record waiting { out = record { number = 5; asked = 8; writer = asker; block = Some (at 91) } ∷ [] })
serves_the_ticket = inr (record { block = at 91; claims = lowest; gives = record { place = 0; oldest = refl; waiting = record { number = 5; asked = 8; writer = asker; block = None }; is = refl; after = refl } })

nobody_waits : Serves some.slabs quiet some.slabs quiet
nobody_waits = inl (inl refl, refl, refl)

abbrev nothing_is_free : Serves full.slabs waiting full.slabs waiting
nothing_is_free = inl (inr none_free, refl, refl)

kept_from_the_ticket : ¬ Serves some.slabs waiting some.slabs waiting
kept_from_the_ticket = λ serves. elim serves [
  | inl still ↦ elim still.0 [ inl none ↦ let no : ◌≡◌ {A = Option ℕ} (Some 0) None = none in cc | inr none ↦ one_free none ]
  | inr given ↦ claimed_without_a_trace given.block given.claims
]

-- IsSettled
settled_quiet : IsSettled some.slabs quiet
settled_quiet = inl refl

settled_full : IsSettled full.slabs waiting
settled_full = inr none_free

not_settled : ¬ IsSettled some.slabs waiting
not_settled = λ is. elim is [ inl none ↦ let no : ◌≡◌ {A = Option ℕ} (Some 0) None = none in cc | inr none ↦ one_free none ]

-- GivesBlock, GivesTicket
gives_block : GivesBlock some one_claimed (at 91)
gives_block = record { claims = lowest; same = refl }

gives_and_forgets_the_step : ¬ GivesBlock some (record one_claimed { desk = record quiet { step = None } }) (at 91)
gives_and_forgets_the_step = λ is. let no : ◌≡◌ {A = Option ℕ} None (Some 9) = ap (λ (z : Zone). z.desk.step) is.same in cc

ticket_though_one_is_free : (new : Zone) (ticket : Ticket) → ¬ GivesTicket some new asker ticket
ticket_though_one_is_free new ticket = λ is. one_free is.none_free

-- IsRefusedIn
outside_is_no_data : IsRefusedIn NotData some (at 86)
outside_is_no_data = inl (refl, no_data_block)

free_is_not_live : IsRefusedIn NotLive some (at 91)
free_is_not_live = inr (second_block, (second_here 0 0, (λ page. absurd (false≢true page)), refl))

outside_is_not_not_live : ¬ IsRefusedIn NotLive some (at 86)
outside_is_not_not_live = λ is. elim is [ inl none ↦ cc | inr here ↦ no_data_block here.0 ]

-- slabs_of_zone: of eight slabs each of three zones has three, but the last
three_of_eight : slabs_of_zone (record ones { slabs = 8 }) 0 3 ≡ 3
three_of_eight = refl

two_of_eight : slabs_of_zone (record ones { slabs = 8 }) 2 3 ≡ 2
two_of_eight = refl

-- BeginsBehind: as some block is free, or none is
abbrev next_step : Zone → Zone
next_step z = record z { desk = record z.desk { step = Some 10 } }

begins_behind_a_full_step : BeginsBehind false full (next_step full) 10
begins_behind_a_full_step = record { some = λ is. cc; none = λ is. none_free; after = refl }

begins_behind_a_free_block : BeginsBehind true some (record some { desk = record quiet { step = Some 10; last_free = Some 9 } }) 10
begins_behind_a_free_block = record { some = λ is. one_free; none = λ is. cc; after = refl }

said_to_be_full : (new : Zone) → ¬ BeginsBehind false some new 10
said_to_be_full new = λ is. one_free (is.none refl)

said_to_be_free : (new : Zone) → ¬ BeginsBehind true full new 10
said_to_be_free new = λ is. is.some refl none_free

without_the_number : ¬ BeginsBehind false full full 10
without_the_number = λ is. let same : ◌≡◌ {A = Option ℕ} (Some 9) (Some 10) = ap (λ (z : Zone). z.desk.step) is.after in let no : ◌≡◌ {A = ℕ} 9 10 = cc in omega (arith, no)

-- has_block: from its first data block up to its last
has_its_block : has_block (at 91) (slab 1 5 2) ≡ true
has_its_block = refl

not_the_one_before : has_block (at 90) (slab 1 5 2) ≡ false
not_the_one_before = refl

not_the_one_behind : has_block (at 92) (slab 1 5 2) ≡ false
not_the_one_behind = refl

-- counter_in, claims_in: of the one slab that has the block
abbrev counted : List Counts
counted = slab 0 3 1 ∷ slab 1 5 2 ∷ []

counter_of_second : counter_in (at 91) counted ≡ 5
counter_of_second = refl

claims_of_second : claims_in (at 91) counted ≡ 2
claims_of_second = refl

counter_outside : counter_in (at 86) counted ≡ 0
counter_outside = refl

claims_outside : claims_in (at 86) counted ≡ 0
claims_outside = refl

-- opened_count: of each data block its own counter; what lies before, between and behind them has none
opened_counters : opened_count ones (3 ∷ 5 ∷ []) (at 85) ∷ opened_count ones (3 ∷ 5 ∷ []) (at 91) ∷ [] ≡ 3 ∷ 5 ∷ []
opened_counters = refl

no_data_blocks : opened_count ones (3 ∷ 5 ∷ []) (at 84) ∷ opened_count ones (3 ∷ 5 ∷ []) (at 86) ∷ opened_count ones (3 ∷ 5 ∷ []) (at 97) ∷ [] ≡ 0 ∷ 0 ∷ 0 ∷ []
no_data_blocks = refl

-- out_with: the tickets that have the block
abbrev with_block : Desk
with_block = record waiting { out = record { number = 4; asked = 8; writer = asker; block = Some (at 91) } ∷ record { number = 5; asked = 8; writer = asker; block = None } ∷ [] }

one_has_it : out_with (at 91) with_block ≡ 1
one_has_it = refl

none_has_the_other : out_with (at 85) with_block ≡ 0
none_has_the_other = refl

-- makes, drops, maps, unmaps, withdraws
abbrev given : Operation
given = Asks' asker (asked.Block (at 91))

abbrev waits : Operation
waits = Asks' asker (asked.Ticket (record { zone = 0; number = 5; asked = 8 }))

made_by_calls : makes given (at 91) ∷ makes (Shares' (at 91)) (at 91) ∷ makes (Extends (at 91)) (at 91) ∷ [] ≡ 1 ∷ 1 ∷ 1 ∷ []
made_by_calls = refl

not_made : makes given (at 85) ∷ makes waits (at 91) ∷ makes (Drops (at 91)) (at 91) ∷ makes (SpendsPage (at 91)) (at 91) ∷ [] ≡ 0 ∷ 0 ∷ 0 ∷ 0 ∷ []
not_made = refl

dropped_by_calls : drops (Drops (at 91)) (at 91) ∷ drops (Drops (at 91)) (at 85) ∷ drops (SpendsPage (at 91)) (at 91) ∷ [] ≡ 1 ∷ 0 ∷ 0 ∷ []
dropped_by_calls = refl

mapped_by_calls : maps (Applies Increment (at 91) (slab 1 1 0)) (at 91) ∷ maps (Applies Decrement (at 91) (slab 1 1 0)) (at 91) ∷ maps given (at 91) ∷ [] ≡ 1 ∷ 0 ∷ 0 ∷ []
mapped_by_calls = refl

unmapped_by_calls : unmaps (Applies Decrement (at 91) (slab 1 1 0)) (at 91) ∷ unmaps (Applies Increment (at 91) (slab 1 1 0)) (at 91) ∷ unmaps (Drops (at 91)) (at 91) ∷ [] ≡ 1 ∷ 0 ∷ 0 ∷ []
unmapped_by_calls = refl

abbrev second_ticket : Ticket
second_ticket = record { zone = 0; number = 5; asked = 8 }

withdrawn_by_calls : withdraws (Withdraws' second_ticket (Block (at 91))) (at 91) ∷ withdraws (Withdraws' second_ticket (Block (at 91))) (at 85)
    ∷ withdraws (Withdraws' second_ticket (Nothing (record { zone = 0; asked = 8; withdrawn = 9 }))) (at 91) ∷ [] ≡ 1 ∷ 0 ∷ 0 ∷ []
withdrawn_by_calls = refl

-- served_block
served_to_the_ticket : served_block serves_the_ticket ≡ Some (at 91)
served_to_the_ticket = refl

served_to_nobody : served_block nothing_is_free ≡ None
served_to_nobody = refl

-- served_ticket
served_the_fifth : served_ticket serves_the_ticket ≡ Some 5
served_the_fifth = refl

served_none : served_ticket nothing_is_free ≡ None
served_none = refl

-- AreOpenedWith, AreOpened, IsOpeningZone: of an image with these sizes
abbrev just_opened : Zone
just_opened = record some { desk = empty_desk 0 3 }

module _ (image : Opened) (sizes_are : image.head.geometry ≡ ones) where
  both_slabs : slabs_of_zone image.head.geometry 0 1 ≡ 2
  both_slabs = ap (λ (g : Geometry). slabs_of_zone g 0 1) sizes_are

  one_is_left_out : ¬ AreOpened image 0 1 2 (slab 0 1 0 ∷ [])
  one_is_left_out are = omega (arith, are.length_is)

  in_another_order : ¬ AreOpened image 0 1 2 (slab 1 0 0 ∷ slab 0 1 0 ∷ [])
  in_another_order are = let no : 1 ≡ 0 = (are.each 0 (omega arith)).0.slab in omega (arith, no)

  is_opened : AreOpened image 0 1 2 just_opened.slabs → IsOpeningZone image 0 1 3 just_opened
  is_opened are = record {
    geometry = sym sizes_are;
    zone = refl;
    zones = refl;
    slabs = subst (λ (n : ℕ). AreOpened image 0 1 n just_opened.slabs) (sym both_slabs) are;
    desk = refl;
  }

  of_another_image : ¬ IsOpeningZone image 0 1 3 (record just_opened { geometry = record ones { nonce = 2 } })
  of_another_image is = let no : 2 ≡ 1 = ap (λ (g : Geometry). g.nonce) (is.geometry ∙ sizes_are) in omega (arith, no)

  of_another_zone : ¬ IsOpeningZone image 1 1 3 just_opened
  of_another_zone is = let no : 0 ≡ 1 = is.zone in omega (arith, no)

  of_more_zones : ¬ IsOpeningZone image 0 2 3 just_opened
  of_more_zones is = let no : 1 ≡ 2 = is.zones in omega (arith, no)

  without_a_slab : ¬ IsOpeningZone image 0 1 3 (record just_opened { slabs = slab 0 1 0 ∷ [] })
  without_a_slab is = omega (arith, is.slabs.length_is, both_slabs)

  behind_a_step : ¬ IsOpeningZone image 0 1 3 (record just_opened { desk = quiet })
  behind_a_step is = let no : 6 ≡ 0 = ap (λ (d : Desk). d.issued) is.desk in omega (arith, no)
