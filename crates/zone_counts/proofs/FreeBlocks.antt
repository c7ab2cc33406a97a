-- The lowest free block of a slab, and of a zone, or that none is free: so each call that a zone allows has a result.
use Rattle.std.specs.Prelude.{ℕ, zero, suc, ◌≡◌, ◌⊎◌, ◌+◌, ◌<◌, ◌==◌, ◌++◌, [], ◌∷◌, Bool, true, false, not, List, length, position, slice_index, slice_index_or, slice_set, Option, None, Some}
use Rattle.std.specs.List.{remove}
use Rattle.std.proofs.Common.{refl, ap, ◌∙◌, subst, arith, inl, inr}
use Rattle.std.proofs.lemmas.Bool.{cases_eq, false≢true}
use Rattle.std.proofs.lemmas.List.{get_or_default}
use Rattle.std.proofs.lemmas.List.Quantifiers.{position-Some}
use Rattle.lane_kernels.specs.Kernels.{IsFreeAt}
use Rattle.blk_base.specs.Regions.{slab_start_of}
use Rattle.blk_base.specs.declared.place.Pbn.{Pbn}
use Rattle.blk_base.specs.declared.request.Writer.{Writer}
use Rattle.slab_counts.specs.Counts.{Counts, HasNoFree, ClaimsFree, claimed, offset_of}
use Rattle.slab_counts.specs.declared.tickets.Ticket.{Ticket}
use Rattle.slab_tickets.specs.Tickets.{Desk, IsNow, IsOutAt, begun, is_served, worth}
use Rattle.slab_tickets.specs.declared.forms.Waiting.{Waiting}
use Rattle.slab_tickets.specs.declared.forms.Withdrawn.{Withdrawn}
use Rattle.zone_counts.specs.Zone.{Zone, BeginsStep, Changes, ClaimsLowest, NoneBefore, NoneFree, Serves, index_of, slab_at}
use Rattle.zone_counts.specs.ZoneAnswers.{Asks, WithdrawsFrom}
use Rattle.zone_counts.specs.declared.forms.Asked.{Asked}
use Rattle.zone_counts.specs.declared.forms.Asked.TheVariants as asked

-- of so many places one is free, and none before it; or none is
free_below : (counters claims : List ℕ) (n : ℕ)
    → ((k : ℕ) → k < n → ¬ IsFreeAt counters claims k) ⊎ ((k : ℕ) × (k < n) × IsFreeAt counters claims k × ((j : ℕ) → j < k → ¬ IsFreeAt counters claims j))
free_below counters claims zero = inl (λ k below free. omega (arith, below))
free_below counters claims (suc n) = elim (free_below counters claims n) [
  | inr found ↦ inr (found.0, omega (arith, found.1), found.2, found.3)
  | inl none ↦ elim (cases_eq (slice_index counters n) 0) [
    | inr is_mapped ↦
        inl (λ k below free. elim (cases_eq k n) [ inl last ↦ is_mapped (subst (λ (i : ℕ). slice_index counters i ≡ 0) last free.0) | inr early ↦ none k (omega (arith, below, early)) free ])
    | inl is_unmapped ↦ elim (cases_eq (slice_index claims n) 0) [
      | inr is_claimed ↦
          inl (λ k below free. elim (cases_eq k n) [ inl last ↦ is_claimed (subst (λ (i : ℕ). slice_index claims i ≡ 0) last free.1) | inr early ↦ none k (omega (arith, below, early)) free ])
      | inl is_unclaimed ↦ inr (n, omega arith, (is_unmapped, is_unclaimed), none)
    ]
  ]
]

-- the lowest free block of a slab
abbrev FirstOf : Counts → Type 0
FirstOf c = (at : Pbn) × ClaimsFree c (claimed c at) at

slab_free : (c : Counts) → HasNoFree c ⊎ FirstOf c
slab_free c = elim (free_below c.counters c.claims c.geometry.slab_blocks) [
  | inl none ↦ inl (λ at here free. none (offset_of c at) (omega (arith, here.0, here.1)) free)
  | inr found ↦
      let block : Pbn = record { 0 = slab_start_of c.geometry c.slab + found.0 } in
      let place : offset_of c block ≡ found.0 = omega arith in
      inr (
        block,
        record {
          of_slab = (omega arith, omega (arith, found.1));
          free = (ap (λ (k : ℕ). slice_index c.counters k) place ∙ found.2.0, ap (λ (k : ℕ). slice_index c.claims k) place ∙ found.2.1);
          lowest = λ other here below free. found.3 (offset_of c other) (omega (arith, here.0, below)) free;
          now_claimed = refl;
        },
      )
]

-- and of the first so many slabs
free_before : (slabs : List Counts) (n : ℕ) → NoneBefore slabs n ⊎ ((k : ℕ) × (k < n) × NoneBefore slabs k × FirstOf (slab_at slabs k))
free_before slabs zero = inl (λ k below. absurd (omega (arith, below)))
free_before slabs (suc n) = elim (free_before slabs n) [
  | inr found ↦ inr (found.0, omega (arith, found.1), found.2, found.3)
  | inl none ↦ elim (slab_free (slab_at slabs n)) [
    | inr first ↦ inr (n, omega arith, none, first)
    | inl full ↦
        inl (λ k below. elim (cases_eq k n) [ inl last ↦ subst (λ (i : ℕ). HasNoFree (slab_at slabs i)) (let is : n ≡ k = omega (arith, last) in is) full | inr early ↦ none k (omega (arith, below, early)) ])
  ]
]

-- no block of a zone is free, or its lowest one can be claimed
pub zone_free : (slabs : List Counts) → NoneFree slabs ⊎ ((at : Pbn) × (after : List Counts) × ClaimsLowest slabs after at)
zone_free slabs = elim (free_before slabs (length slabs)) [
  | inl none ↦ inl none
  | inr found ↦
      inr (
        found.3.0,
        slice_set slabs found.0 (claimed (slab_at slabs found.0) found.3.0),
        record {
          place = found.0;
          inside = found.1;
          before = found.2;
          slab = claimed (slab_at slabs found.0) found.3.0;
          claims = found.3.1;
          after = refl;
        },
      )
]

-- a step begins
pub can_begin : (old : Zone) (step : ℕ) → (new : Zone) × BeginsStep old new step
can_begin old step = elim (zone_free old.slabs) [
  | inl none ↦ (record old { desk = begun false step old.desk }, (false, record { some = λ is. absurd (false≢true is); none = λ is. none; after = refl }))
  | inr found ↦
      let claims = found.2 in
      let some : ¬ NoneFree old.slabs = λ none. none claims.place claims.inside found.0 claims.claims.of_slab claims.claims.free in
      (record old { desk = begun true step old.desk }, (true, record { some = λ is. some; none = λ is. absurd (false≢true (let e : false ≡ true = cc in e)); after = refl }))
]

-- whoever asks is answered
pub can_ask : (old : Zone) (writer : Writer) (step : ℕ) → IsNow old.desk step → (answer : Asked) × (new : Zone) × Asks old new writer answer
can_ask old writer step now = elim (zone_free old.slabs) [
  | inr found ↦ (asked.Block found.0, record old { slabs = found.1 }, record { claims = found.2; same = refl })
  | inl none ↦
      let ticket : Ticket = record { zone = old.desk.zone; number = old.desk.issued; asked = step } in
      let one : Waiting = record { number = ticket.number; asked = ticket.asked; writer = writer; block = None } in
      let desk : Desk = record old.desk { issued = old.desk.issued + 1; out = old.desk.out ++ one ∷ [] } in
      (asked.Ticket ticket, record old { desk = desk }, record { none_free = none; issues = record { now = now; zone = refl; number = refl; after = refl }; same = refl })
]

-- what stands at a place of a list
here : {X : Type 0} (xs : List X) (k : ℕ) (x : X) → k < length xs → (y : X) × (slice_index_or xs k y ≡ y)
here xs k x inside = (slice_index_or xs k x, get_or_default xs k (slice_index_or xs k x) x inside)

waiting_at : (test : Waiting → Bool) (out : List Waiting) (k : ℕ) → position test out ≡ Some k → (w : Waiting) × (slice_index_or out k w ≡ w)
waiting_at test out k found =
    let nobody : Waiting = record { number = 0; asked = 0; writer = record { stream = 0; number = 0 }; block = None } in
    here out k nobody (position-Some test out k nobody found).0

-- a ticket that is out is withdrawn
pub can_withdraw : (old : Zone) (ticket : Ticket) (place step : ℕ) → IsNow old.desk step → IsOutAt old.desk ticket place → (result : Withdrawn) × (new : Zone) × WithdrawsFrom old new ticket result
can_withdraw old ticket place step now out =
    let w = waiting_at (λ (waiting : Waiting). waiting.number == ticket.number) old.desk.out place out in
    let desk : Desk = record old.desk { out = remove old.desk.out place } in (
      worth old.desk step w.0,
      record old { desk = desk },
      record {
        withdraws = record { place = place; here = out; waiting = w.0; is = w.1; step = step; now = now; worth_is = refl; after = refl };
        same = refl;
      },
    )

-- a ticket that waits is served, or nothing changes
serves_any : (slabs : List Counts) (desk : Desk) → (slabs' : List Counts) × (desk' : Desk) × Serves slabs desk slabs' desk'
serves_any slabs desk = by_place (position (λ (waiting : Waiting). not (is_served waiting)) desk.out) refl
  where
    by_place : (o : Option ℕ) → position (λ (waiting : Waiting). not (is_served waiting)) desk.out ≡ o → (slabs' : List Counts) × (desk' : Desk) × Serves slabs desk slabs' desk'
    by_place None is = (slabs, desk, inl (inl is, refl, refl))
    by_place (Some k) is = elim (zone_free slabs) [
      | inl none ↦ (slabs, desk, inl (inr none, refl, refl))
      | inr found ↦
          let w = waiting_at (λ (waiting : Waiting). not (is_served waiting)) desk.out k is in
          let after : Desk = record desk { out = slice_set desk.out k (record w.0 { block = Some found.0 }) } in
          (found.1, after, inr (record { block = found.0; claims = found.2; gives = record { place = k; oldest = is; waiting = w.0; is = w.1; after = refl } }))
    ]

-- the counts of a block change
pub can_change : (old : Zone) (at : Pbn) (counts : Counts) → (new : Zone) × Changes old new at counts
can_change old at counts =
    let r = serves_any (slice_set old.slabs (index_of old at) counts) old.desk in
    (record old { slabs = r.0; desk = r.1 }, record { serves = r.2; same = refl })
