-- The counter of a block and the claims on it stand in the one slab that has it, and what a zone's calls make of them.
use Rattle.std.specs.Prelude.{ℕ, zero, suc, ◌≡◌, ◌≢◌, ◌+◌, ◌<◌, ◌≤◌, Bool, true, false, not, List, [], ◌∷◌, length, Option, None, Some, slice_get, slice_set, ◌==◌}
use Rattle.std.specs.List.{remove}
use Rattle.std.proofs.Common.{refl, ap, sym, ◌∙◌, subst, arith, inl, inr}
use Rattle.std.proofs.lemmas.Bool.{cases_eq}
use Rattle.std.proofs.lemmas.List.{get_or_default}
use Rattle.std.proofs.lemmas.List.Quantifiers.{position-Some}
use Rattle.std.proofs.lemmas.Option.{slice_get_read, same_Some}
use Rattle.blk_base.specs.declared.geometry.Geometry.{Geometry}
use Rattle.blk_base.specs.declared.place.Pbn.{Pbn}
use Rattle.blk_base.specs.declared.point.Half.{Half}
use Rattle.blk_base.specs.declared.point.Half.TheVariants.{Increment, Decrement}
use Rattle.blk_base.specs.declared.request.Writer.{Writer}
use Rattle.plain_laws.specs.Sums.{total}
use Rattle.plain_laws.proofs.ListLaws.{total-set, total-append, total_alone, total_zero}
use Rattle.slab_counts.specs.Counts.{Counts, IsOfSlab, IsFree, Takes, counter_of, claims_of, unclaimed, with_page, claimed as more_claimed}
use Rattle.slab_counts.specs.Kept.{IsWithin}
use Rattle.slab_counts.specs.Operations.{Operation, Does, FreeClaimed, Shared, Extended, Dropped, Applied, one_of, makes, drops, maps, unmaps}
use Rattle.slab_counts.specs.declared.tickets.Ticket.{Ticket}
use Rattle.slab_counts.proofs.OperationLaws.{one_same, one_other}
use Rattle.slab_counts.specs.declared.tickets.Receipt.{Receipt}
use Rattle.slab_tickets.proofs.NumberLaws.{none_waits, out_read, unserved}
use Rattle.slab_tickets.specs.declared.forms.Withdrawn.{Withdrawn}
use Rattle.slab_tickets.specs.Numbers.{ticket_of}
use Rattle.slab_tickets.specs.Tickets.{Desk, Gives, Withdraws, Issues, begun, is_served, worth_of}
use Rattle.slab_tickets.specs.declared.forms.Waiting.{Waiting}
use Rattle.slab_tickets.specs.declared.forms.Withdrawn.TheVariants.{Block, Nothing}
use Rattle.zone_counts.specs.Zone.{Zone, IsZone, IsOf, IsOfZone, AreSlabs, ClaimsLowest, Serves, ServesOldest, NoneFree, slab_at, slab_of, index_of, place_in, nowhere, Changes, IsClaimedIn, with_slab}
use Rattle.zone_counts.specs.Operations as zone
use Rattle.zone_counts.specs.declared.forms.Asked.TheVariants as asked
use Rattle.zone_counts.proofs.ZoneLaws.{slabs_set}
use Rattle.zone_counts.proofs.SlabLaws.{still}
use Rattle.zone_counts.proofs.OperationLaws.{inside, of_slab}
use Rattle.zone_counts.proofs.ClaimLaws.{is_of, place_is}
use Rattle.zone_counts.specs.ByBlock.{has_block, counter_at, claims_at, counter_in, claims_in, is_at, waits_with, out_with, served_block, served_in}
use Rattle.zone_counts.specs.ByBlock.{makes as zone_makes, drops as zone_drops, maps as zone_maps, unmaps as zone_unmaps, withdraws as zone_withdraws}
use Rattle.zone_counts.proofs.SlabSums.{has, lacks, tells, counter_here, claims_here, counter_out, claims_out, counter_set, claims_set}

-- what stands at a number is the slab there
pub at_number : (slabs : List Counts) (k : ℕ) (c : Counts) → slice_get slabs k ≡ Some c → (k < length slabs) × (slab_at slabs k ≡ c)
at_number [] k c is = absurd cc
at_number (d ∷ slabs) zero c is = (omega arith, same_Some _ _ is)
at_number (d ∷ slabs) (suc k) c is = let r = at_number slabs k c is in (omega (arith, r.0), r.1)

module _ (g : Geometry) (zone zones : ℕ) (slabs : List Counts) (are : AreSlabs g zone zones slabs) (x : Pbn) where
  -- a slab that has the block is its slab
  apart : (own : IsOf g zone zones x) (j : ℕ) (c : Counts) → slice_get slabs j ≡ Some c → (j ≡ place_in g zones x → ⊥) → has_block x c ≡ false
  apart own j c is other = elim (tells x c) [
    | lacks out none ↦ out
    | has in' here ↦
        let r = at_number slabs j c is in
        absurd (other (sym (place_is g zone zones slabs j x are r.0 (subst (λ (d : Counts). IsOfSlab d x) (sym r.1) here))))
  ]

  module _ (own : IsOf g zone zones x) where
    abbrev pub k : ℕ
    k = place_in g zones x

    read : slice_get slabs k ≡ Some (slab_at slabs k)
    read = slice_get_read slabs (length slabs) k (slab_at slabs k) refl (inside g zone zones slabs x are own) (get_or_default slabs k nowhere (slab_at slabs k) (inside g zone zones slabs x are own))

    there : has_block x (slab_at slabs k) ≡ true
    there = elim (tells x (slab_at slabs k)) [ has is here ↦ is | lacks is out ↦ absurd (out (of_slab g zone zones slabs x are own)) ]

    pub counter_home : counter_in x slabs ≡ counter_of (slab_at slabs k) x
    counter_home = total_alone (counter_at x) slabs k (slab_at slabs k) read (λ j c is other. counter_out x c (apart own j c is other)) ∙ counter_here x (slab_at slabs k) there

    pub claims_home : claims_in x slabs ≡ claims_of (slab_at slabs k) x
    claims_home = total_alone (claims_at x) slabs k (slab_at slabs k) read (λ j c is other. claims_out x c (apart own j c is other)) ∙ claims_here x (slab_at slabs k) there

  -- the slabs of a zone that hasn't the block
  module _ (foreign : IsOf g zone zones x → ⊥) where
    nowhere_here : (j : ℕ) (c : Counts) → slice_get slabs j ≡ Some c → has_block x c ≡ false
    nowhere_here j c is = elim (tells x c) [
      | lacks out none ↦ out
      | has in' here ↦
          let r = at_number slabs j c is in
          absurd (foreign (is_of g zone zones slabs j x are r.0 (subst (λ (d : Counts). IsOfSlab d x) (sym r.1) here)))
    ]

    pub counter_foreign : counter_in x slabs ≡ 0
    counter_foreign = total_zero (counter_at x) slabs (λ j c is. counter_out x c (nowhere_here j c is))

    pub claims_foreign : claims_in x slabs ≡ 0
    claims_foreign = total_zero (claims_at x) slabs (λ j c is. claims_out x c (nowhere_here j c is))

-- the lowest free block is claimed: where that is one of them, it was free
pub record Claimed (slabs slabs' : List Counts) (at : Pbn) : Type 0 where
  pub counters : (x : Pbn) → counter_in x slabs' ≡ counter_in x slabs
  pub claims : (x : Pbn) → claims_in x slabs' ≡ claims_in x slabs + one_of at x
  pub was_free : (x : Pbn) → at.0 ≡ x.0 → (counter_in x slabs ≡ 0) × (claims_in x slabs ≡ 0)

pub claimed : (g : Geometry) (zone zones : ℕ) (slabs slabs' : List Counts) (at : Pbn) → AreSlabs g zone zones slabs → ClaimsLowest slabs slabs' at → Claimed slabs slabs' at
claimed g zone zones slabs slabs' at are did =
    let within = (are.each did.place did.inside).2 in
    let about : (b : Pbn) → at.0 ≢ b.0 → one_of at b + 0 + 0 + 0 ≡ 0 = λ b other. omega (arith, one_other at b other) in
    let own = is_of g zone zones slabs did.place at are did.inside did.claims.of_slab in
    let place = place_is g zone zones slabs did.place at are did.inside did.claims.of_slab in
    let free : IsFree (slab_at slabs (place_in g zones at)) at = subst (λ (n : ℕ). IsFree (slab_at slabs n) at) (sym place) did.claims.free in
    record {
      counters = λ x. ap (counter_in x) did.after ∙ (let e = counter_set (FreeClaimed at) (slab_at slabs did.place) did.slab at within did.claims did.claims.of_slab about slabs did.place did.inside refl x in omega (arith, e));
      claims = λ x. ap (claims_in x) did.after ∙ (let e = claims_set (FreeClaimed at) (slab_at slabs did.place) did.slab at within did.claims did.claims.of_slab about slabs did.place did.inside refl x in omega (arith, e));
      was_free = λ x same. subst (λ (y : Pbn). (counter_in y slabs ≡ 0) × (claims_in y slabs ≡ 0)) (let same_block : at ≡ x = ap (λ (n : ℕ). record { 0 = n }) same in same_block)
          (counter_home g zone zones slabs are at own ∙ free.0, claims_home g zone zones slabs are at own ∙ free.1);
    }

-- the oldest ticket that waits gets a block
pub gives_out : (old new : Desk) (block x : Pbn) → Gives old new block → out_with x new ≡ out_with x old + one_of block x
gives_out old new block x did =
    let p = position-Some (λ (w : Waiting). not (is_served w)) old.out did.place did.waiting did.oldest in
    let read = out_read old.out did.place did.waiting p.0 did.is in
    let none = unserved did.waiting (subst (λ (w : Waiting). not (is_served w) ≡ true) did.is p.1) in
    let e = total-set (waits_with x) old.out did.place did.waiting (record did.waiting { block = Some block }) read in
    ap (out_with x) did.after ∙ omega (arith, e, ap (is_at x) none)

-- one more ticket is out, with no block
pub issues_out : (old new : Desk) (writer : Writer) (ticket : Ticket) (x : Pbn) → Issues old new writer ticket → out_with x new ≡ out_with x old
issues_out old new writer ticket x did =
    let one : Waiting = record { number = ticket.number; asked = ticket.asked; writer = writer; block = None } in
    ap (out_with x) did.after ∙ omega (arith, total-append (waits_with x) old.out (one ∷ []))

-- a list without one of its elements
pub total-remove : {X : Type 0} (f : X → ℕ) (xs : List X) (i : ℕ) (x : X) → slice_get xs i ≡ Some x → total f (remove xs i) + f x ≡ total f xs
total-remove f [] i x h = cc
total-remove f (y ∷ xs) zero x h = let e = ap f (same_Some _ _ h) in omega (arith, e)
total-remove f (y ∷ xs) (suc i) x h = omega (arith, total-remove f xs i x h)

-- a ticket is withdrawn with what it is worth
pub withdraws_out : (old new : Desk) (ticket : Ticket) (result : Withdrawn) (x : Pbn) (did : Withdraws old new ticket result) → out_with x new + is_at x did.waiting.block ≡ out_with x old
withdraws_out old new ticket result x did =
    let p = position-Some (λ (w : Waiting). w.number == ticket.number) old.out did.place did.waiting did.here in
    let read = out_read old.out did.place did.waiting p.0 did.is in
    let e = total-remove (waits_with x) old.out did.place did.waiting read in
    omega (arith, e, ap (out_with x) did.after)

-- what it is worth is the block that went to it
pub worth_block : (old new : Desk) (ticket : Ticket) (b : Pbn) (did : Withdraws old new ticket (Block b)) → did.waiting.block ≡ Some b
worth_block old new ticket b did = by_block did.waiting.block _ did.worth_is
  where
    by_block : (o : Option Pbn) (r : Receipt) → Block b ≡ worth_of o r → o ≡ Some b
    by_block None r is = absurd cc
    by_block (Some c) r is = let same : b ≡ c = cc in ap (λ (y : Pbn). Some y) (sym same)

pub worth_none : (old new : Desk) (ticket : Ticket) (r : Receipt) (did : Withdraws old new ticket (Nothing r)) → did.waiting.block ≡ None
worth_none old new ticket r did = by_block did.waiting.block _ did.worth_is
  where
    by_block : (o : Option Pbn) (q : Receipt) → Nothing r ≡ worth_of o q → o ≡ None
    by_block None q is = refl
    by_block (Some c) q is = absurd cc

-- where a block is free and a ticket waits, the one goes to the other
pub record ServedTo (slabs : List Counts) (desk : Desk) (slabs' : List Counts) (desk' : Desk) (to : Option Pbn) : Type 0 where
  pub counters : (x : Pbn) → counter_in x slabs' ≡ counter_in x slabs
  pub claims : (x : Pbn) → claims_in x slabs' ≡ claims_in x slabs + is_at x to
  pub out : (x : Pbn) → out_with x desk' ≡ out_with x desk + is_at x to

pub served : (g : Geometry) (zone zones : ℕ) (slabs : List Counts) (desk : Desk) (slabs' : List Counts) (desk' : Desk) → AreSlabs g zone zones slabs → (serves : Serves slabs desk slabs' desk')
    → ServedTo slabs desk slabs' desk' (served_block serves)
served g zone zones slabs desk slabs' desk' are (inl (quiet, same, same')) = record {
  counters = λ x. ap (counter_in x) same;
  claims = λ x. omega (arith, ap (claims_in x) same);
  out = λ x. omega (arith, ap (out_with x) same');
}
served g zone zones slabs desk slabs' desk' are (inr serves) =
    let c = claimed g zone zones slabs slabs' serves.block are serves.claims in
    record {
      counters = c.counters;
      claims = c.claims;
      out = λ x. gives_out desk desk' serves.block x serves.gives;
    }

-- what a call moves of each block
pub record AreMoved (call : zone.Operation) (old new : Zone) (to : Option Pbn) : Type 0 where
  pub counters : (x : Pbn) → counter_in x new.slabs + zone_unmaps call x ≡ counter_in x old.slabs + zone_maps call x
  pub claims : (x : Pbn) → claims_in x new.slabs + (zone_drops call x + zone_maps call x) ≡ claims_in x old.slabs + zone_makes call x + is_at x to
  pub tickets : (x : Pbn) → out_with x new.desk + zone_withdraws call x ≡ out_with x old.desk + is_at x to

-- a call that changes the slab of its block
module _ (old : Zone) (at : Pbn) (is : IsZone old) (own : IsOfZone old at) where
  abbrev here : Counts
  here = slab_of old at

  pub in_it : IsWithin here
  in_it = (is.slabs.each (index_of old at) (inside old.geometry old.zone old.zones old.slabs at is.slabs own)).2

  pub of_it : IsOfSlab here at
  of_it = of_slab old.geometry old.zone old.zones old.slabs at is.slabs own

  pub stands : index_of old at < length old.slabs
  stands = inside old.geometry old.zone old.zones old.slabs at is.slabs own

  abbrev IsAbout : Operation → Type 0
  IsAbout call = (b : Pbn) → at.0 ≢ b.0 → makes call b + drops call b + maps call b + unmaps call b ≡ 0

  pub shared_about : IsAbout (Shared at)
  shared_about b other = omega (arith, one_other at b other)

  pub extended_about : IsAbout (Extended at)
  extended_about b other = omega (arith, one_other at b other)

  pub dropped_about : IsAbout (Dropped at)
  dropped_about b other = omega (arith, one_other at b other)

  pub applied_about : (half : Half) → IsAbout (Applied half at)
  applied_about Increment b other = omega (arith, one_other at b other)
  applied_about Decrement b other = omega (arith, one_other at b other)

  module _ (call : Operation) (c : Counts) (did : Does call here c) (about : IsAbout call) where
    abbrev pub between : List Counts
    between = slice_set old.slabs (index_of old at) c

    pub between_are : AreSlabs old.geometry old.zone old.zones between
    between_are = slabs_set old.slabs (index_of old at) c stands old.geometry old.zone old.zones is.slabs (still call here c in_it did)

    pub between_counters : (x : Pbn) → counter_in x between + unmaps call x ≡ counter_in x old.slabs + maps call x
    between_counters = counter_set call here c at in_it did of_it about old.slabs (index_of old at) stands refl

    pub between_claims : (x : Pbn) → claims_in x between + (drops call x + maps call x) ≡ claims_in x old.slabs + makes call x
    between_claims = claims_set call here c at in_it did of_it about old.slabs (index_of old at) stands refl

    -- and then serves the oldest ticket, if the block became free
    module _ (new : Zone) (change : Changes old new at c) where
      served_then : ServedTo between old.desk new.slabs new.desk (served_block change.serves)
      served_then = served old.geometry old.zone old.zones between old.desk new.slabs new.desk between_are change.serves

      pub changed_counters : (x : Pbn) → counter_in x new.slabs + unmaps call x ≡ counter_in x old.slabs + maps call x
      changed_counters x = omega (arith, served_then.counters x, between_counters x)

      pub changed_claims : (x : Pbn) → claims_in x new.slabs + (drops call x + maps call x) ≡ claims_in x old.slabs + makes call x + is_at x (served_block change.serves)
      changed_claims x = omega (arith, served_then.claims x, between_claims x)

      pub changed_tickets : (x : Pbn) → out_with x new.desk ≡ out_with x old.desk + is_at x (served_block change.serves)
      changed_tickets = served_then.out

      -- what went to a ticket was free between, and not before: it is this block
      pub served_is : (serves : ServesOldest between old.desk new.slabs new.desk) → serves.block ≡ at
      served_is serves =
          let b = serves.block in
          let free = (claimed old.geometry old.zone old.zones between new.slabs b between_are serves.claims).was_free b refl in
          let own' = is_of old.geometry old.zone old.zones between serves.claims.place b between_are serves.claims.inside serves.claims.claims.of_slab in
          elim (cases_eq at.0 b.0) [
            | inl same ↦ ap (λ (n : ℕ). record { 0 = n }) (sym same)
            | inr other ↦
                let none : IsFree (slab_of old b) b = (
                  omega (arith, counter_home old.geometry old.zone old.zones old.slabs is.slabs b own', between_counters b, about b other, free.0),
                  omega (arith, claims_home old.geometry old.zone old.zones old.slabs is.slabs b own', between_claims b, about b other, free.1),
                ) in
                elim is.settled [
                  | inl quiet ↦ let oldest = serves.gives.oldest in absurd cc
                  | inr full ↦
                      absurd (full (index_of old b) (inside old.geometry old.zone old.zones old.slabs b is.slabs own') b (of_slab old.geometry old.zone old.zones old.slabs b is.slabs own') none)
                ]
          ]

      -- a block that has a use behind the call isn't served
      pub serves_none : 1 ≤ counter_in at between + claims_in at between → (serves : ServesOldest between old.desk new.slabs new.desk) → ⊥
      serves_none some serves =
          let free = (claimed old.geometry old.zone old.zones between new.slabs serves.block between_are serves.claims).was_free at (ap (λ (b : Pbn). b.0) (served_is serves)) in
          omega (arith, some, free.0, free.1)

      -- what is served has one claim, and no mapping
      pub served_fresh : (serves : ServesOldest between old.desk new.slabs new.desk) → (counter_in at new.slabs ≡ 0) × (claims_in at new.slabs ≡ 1)
      served_fresh serves =
          let c' = claimed old.geometry old.zone old.zones between new.slabs serves.block between_are serves.claims in
          let same : serves.block.0 ≡ at.0 = ap (λ (b : Pbn). b.0) (served_is serves) in
          let free = c'.was_free at same in
          (c'.counters at ∙ free.0, omega (arith, c'.claims at, free.1, one_same serves.block at same))

-- a slab that becomes another one with the same counters and claims
same_counters : (old : Zone) (at x : Pbn) (is : IsZone old) (own : IsOfZone old at)
    → (counter_in x (slice_set old.slabs (index_of old at) (with_page (slab_of old at) at)) ≡ counter_in x old.slabs) × (claims_in x (slice_set old.slabs (index_of old at) (with_page (slab_of old at) at)) ≡ claims_in x old.slabs)
same_counters old at x is own =
    let there = stands old at is own in
    let read = slice_get_read old.slabs (length old.slabs) (index_of old at) (slab_of old at) refl there (get_or_default old.slabs (index_of old at) nowhere (slab_of old at) there) in (
      omega (arith, total-set (counter_at x) old.slabs (index_of old at) (slab_of old at) (with_page (slab_of old at) at) read),
      omega (arith, total-set (claims_at x) old.slabs (index_of old at) (slab_of old at) (with_page (slab_of old at) at) read),
    )

-- what is worth the block has it
withdrawn_block : (old new : Desk) (ticket : Ticket) (result : Withdrawn) (x : Pbn) (did : Withdraws old new ticket result) → is_at x did.waiting.block ≡ zone_withdraws (zone.Withdraws' ticket result) x
withdrawn_block old new ticket (Block b) x did = ap (is_at x) (worth_block old new ticket b did)
withdrawn_block old new ticket (Nothing r) x did = ap (is_at x) (worth_none old new ticket r did)

pub moved : (call : zone.Operation) (old new : Zone) → IsZone old → (did : zone.Does call old new) → AreMoved call old new (served_in call old new did)
moved (zone.Begins free step) old new is did =
    let slabs : new.slabs ≡ old.slabs = ap (λ (z : Zone). z.slabs) did.1.after in
    let out : (b : Bool) → new ≡ record old { desk = begun b step old.desk } → (x : Pbn) → out_with x new.desk ≡ out_with x old.desk = step_out in
    record { counters = λ x. omega (arith, ap (counter_in x) slabs); claims = λ x. omega (arith, ap (claims_in x) slabs); tickets = λ x. omega (arith, out free did.1.after x) }
  where
    step_out : (b : Bool) → new ≡ record old { desk = begun b step old.desk } → (x : Pbn) → out_with x new.desk ≡ out_with x old.desk
    step_out true after x = ap (λ (z : Zone). out_with x z.desk) after
    step_out false after x = ap (λ (z : Zone). out_with x z.desk) after
moved (zone.Asks' writer (asked.Block at)) old new is did =
    let c = claimed old.geometry old.zone old.zones old.slabs new.slabs at is.slabs did.1.claims in
    record { counters = λ x. omega (arith, c.counters x); claims = λ x. omega (arith, c.claims x); tickets = λ x. omega (arith, ap (λ (z : Zone). out_with x z.desk) did.1.same) }
moved (zone.Asks' writer (asked.Ticket ticket)) old new is did =
    let slabs : new.slabs ≡ old.slabs = ap (λ (z : Zone). z.slabs) did.1.same in
    record {
      counters = λ x. omega (arith, ap (counter_in x) slabs);
      claims = λ x. omega (arith, ap (claims_in x) slabs);
      tickets = λ x. omega (arith, issues_out old.desk new.desk writer ticket x did.1.issues);
    }
moved (zone.Withdraws' ticket result) old new is did =
    let slabs : new.slabs ≡ old.slabs = ap (λ (z : Zone). z.slabs) did.same in
    record {
      counters = λ x. omega (arith, ap (counter_in x) slabs);
      claims = λ x. omega (arith, ap (claims_in x) slabs);
      tickets = λ x. omega (arith, withdraws_out old.desk new.desk ticket result x did.withdraws, withdrawn_block old.desk new.desk ticket result x did.withdraws);
    }
moved (zone.Shares' at) old new is did = record {
  counters = λ x. omega (arith, ap (λ (z : Zone). counter_in x z.slabs) did.after, between_counters old at is did.own (Shared at) did.slab did.shares (shared_about old at is did.own) x);
  claims = λ x. omega (arith, ap (λ (z : Zone). claims_in x z.slabs) did.after, between_claims old at is did.own (Shared at) did.slab did.shares (shared_about old at is did.own) x);
  tickets = λ x. omega (arith, ap (λ (z : Zone). out_with x z.desk) did.after);
}
moved (zone.Extends at) old new is did =
    let c = more_claimed (slab_of old at) at in
    let call : Does (Extended at) (slab_of old at) c = (record { of_slab = of_it old at is did.0.own; some = did.0.some }, did.1, refl) in
    record {
      counters = λ x. omega (arith, ap (λ (z : Zone). counter_in x z.slabs) did.2, between_counters old at is did.0.own (Extended at) c call (extended_about old at is did.0.own) x);
      claims = λ x. omega (arith, ap (λ (z : Zone). claims_in x z.slabs) did.2, between_claims old at is did.0.own (Extended at) c call (extended_about old at is did.0.own) x);
      tickets = λ x. omega (arith, ap (λ (z : Zone). out_with x z.desk) did.2);
    }
moved (zone.Drops at) old new is did =
    let c = unclaimed (slab_of old at) at in
    let call : Does (Dropped at) (slab_of old at) c = (record { of_slab = of_it old at is did.0.own; some = did.0.some }, refl) in
    let about = dropped_about old at is did.0.own in
    record {
      counters = λ x. omega (arith, changed_counters old at is did.0.own (Dropped at) c call about new did.1 x);
      claims = λ x. omega (arith, changed_claims old at is did.0.own (Dropped at) c call about new did.1 x);
      tickets = λ x. omega (arith, changed_tickets old at is did.0.own (Dropped at) c call about new did.1 x);
    }
moved (zone.SpendsPage at) old new is did = record {
  counters = λ x. omega (arith, ap (λ (z : Zone). counter_in x z.slabs) did.1, (same_counters old at x is did.0.own).0);
  claims = λ x. omega (arith, ap (λ (z : Zone). claims_in x z.slabs) did.1, (same_counters old at x is did.0.own).1);
  tickets = λ x. omega (arith, ap (λ (z : Zone). out_with x z.desk) did.1);
}
moved (zone.Applies Increment at c) old new is did =
    let call : Does (Applied Increment at) (slab_of old at) c = (of_it old at is did.0, did.1) in
    let about = applied_about old at is did.0 Increment in
    record {
      counters = λ x. omega (arith, changed_counters old at is did.0 (Applied Increment at) c call about new did.2 x);
      claims = λ x. omega (arith, changed_claims old at is did.0 (Applied Increment at) c call about new did.2 x);
      tickets = λ x. omega (arith, changed_tickets old at is did.0 (Applied Increment at) c call about new did.2 x);
    }
moved (zone.Applies Decrement at c) old new is did =
    let call : Does (Applied Decrement at) (slab_of old at) c = (of_it old at is did.0, did.1) in
    let about = applied_about old at is did.0 Decrement in
    record {
      counters = λ x. omega (arith, changed_counters old at is did.0 (Applied Decrement at) c call about new did.2 x);
      claims = λ x. omega (arith, changed_claims old at is did.0 (Applied Decrement at) c call about new did.2 x);
      tickets = λ x. omega (arith, changed_tickets old at is did.0 (Applied Decrement at) c call about new did.2 x);
    }
moved zone.Refused old new is did = record {
  counters = λ x. omega (arith, ap (λ (z : Zone). counter_in x z.slabs) did);
  claims = λ x. omega (arith, ap (λ (z : Zone). claims_in x z.slabs) did);
  tickets = λ x. omega (arith, ap (λ (z : Zone). out_with x z.desk) did);
}

-- what went to a ticket became free by the call
abbrev less_one : Zone → Pbn → Counts
less_one old at = unclaimed (slab_of old at) at

pub dropped_is : (old new : Zone) (at block : Pbn) → IsZone old → IsClaimedIn old at → (change : Changes old new at (unclaimed (slab_of old at) at)) → served_block change.serves ≡ Some block
    → (block ≡ at) × (counter_in at new.slabs ≡ 0) × (claims_in at new.slabs ≡ 1)
dropped_is old new at block is claim change said = by_serves change.serves said
  where
    call : Does (Dropped at) (slab_of old at) (less_one old at)
    call = (record { of_slab = of_it old at is claim.own; some = claim.some }, refl)

    by_serves : (serves : Serves (slice_set old.slabs (index_of old at) (less_one old at)) old.desk new.slabs new.desk) → served_block serves ≡ Some block → (block ≡ at) × (counter_in at new.slabs ≡ 0) × (claims_in at new.slabs ≡ 1)
    by_serves (inl same) said = absurd cc
    by_serves (inr serves) said =
        let about = dropped_about old at is claim.own in
        let fresh = served_fresh old at is claim.own (Dropped at) (less_one old at) call about new change serves in
        (sym (same_Some _ _ said) ∙ served_is old at is claim.own (Dropped at) (less_one old at) call about new change serves, fresh.0, fresh.1)

pub removed_is : (old new : Zone) (at block : Pbn) (c : Counts) → IsZone old → IsOfZone old at → Takes Decrement (slab_of old at) c at → (change : Changes old new at c) → served_block change.serves ≡ Some block
    → (block ≡ at) × (counter_in at new.slabs ≡ 0) × (claims_in at new.slabs ≡ 1)
removed_is old new at block c is own takes change said = by_serves change.serves said
  where
    call : Does (Applied Decrement at) (slab_of old at) c
    call = (of_it old at is own, takes)

    by_serves : (serves : Serves (slice_set old.slabs (index_of old at) c) old.desk new.slabs new.desk) → served_block serves ≡ Some block → (block ≡ at) × (counter_in at new.slabs ≡ 0) × (claims_in at new.slabs ≡ 1)
    by_serves (inl same) said = absurd cc
    by_serves (inr serves) said =
        let about = applied_about old at is own Decrement in
        let fresh = served_fresh old at is own (Applied Decrement at) c call about new change serves in
        (sym (same_Some _ _ said) ∙ served_is old at is own (Applied Decrement at) c call about new change serves, fresh.0, fresh.1)

pub added_none : (old new : Zone) (at : Pbn) (c : Counts) → IsZone old → IsOfZone old at → Takes Increment (slab_of old at) c at → (change : Changes old new at c)
    → (served_block change.serves ≡ None) × (new ≡ with_slab old at c)
added_none old new at c is own takes change = by_serves change.serves
  where
    call : Does (Applied Increment at) (slab_of old at) c
    call = (of_it old at is own, takes)

    by_serves : (serves : Serves (slice_set old.slabs (index_of old at) c) old.desk new.slabs new.desk) → (served_block serves ≡ None) × (new ≡ with_slab old at c)
    by_serves (inl same) =
        (refl, change.same ∙ ap (λ (xs : List Counts). record old { slabs = xs; desk = new.desk }) same.1 ∙ ap (λ (d : Desk). record old { slabs = slice_set old.slabs (index_of old at) c; desk = d }) same.2)
    by_serves (inr serves) =
        let about = applied_about old at is own Increment in
        let some = between_counters old at is own (Applied Increment at) c call about at in
        absurd (serves_none old at is own (Applied Increment at) c call about new change (omega (arith, some, one_same at at refl)) serves)

-- where a ticket waits no block of the zone is free
pub none_free : (z : Zone) (k : ℕ) → IsZone z → ticket_of z.desk.out k ≡ Some None → NoneFree z.slabs
none_free z k is waits = elim is.settled [ inl quiet ↦ absurd (none_waits z.desk k quiet waits) | inr none ↦ none ]

pub none_free_there : (z : Zone) (k : ℕ) (x : Pbn) → IsZone z → ticket_of z.desk.out k ≡ Some None → IsOfZone z x → IsFree (slab_of z x) x → ⊥
none_free_there z k x is waits own = none_free z k is waits (index_of z x) (stands z x is own) x (of_it z x is own)

-- and each of these blocks is of one of the slabs
pub home_is : (z : Zone) (x : Pbn) → IsZone z → IsOfZone z x → (counter_in x z.slabs ≡ counter_of (slab_of z x) x) × (claims_in x z.slabs ≡ claims_of (slab_of z x) x)
home_is z x is own = (counter_home z.geometry z.zone z.zones z.slabs is.slabs x own, claims_home z.geometry z.zone z.zones z.slabs is.slabs x own)

pub foreign_is : (z : Zone) (x : Pbn) → IsZone z → ¬ IsOfZone z x → (counter_in x z.slabs ≡ 0) × (claims_in x z.slabs ≡ 0)
foreign_is z x is foreign = (counter_foreign z.geometry z.zone z.zones z.slabs is.slabs x foreign, claims_foreign z.geometry z.zone z.zones z.slabs is.slabs x foreign)
