-- What a physical zone has after a call of its counts: its facts, by what the call moves.
use Rattle.std.proofs.Common.{◌≡◌, ℕ, ◌+◌, ◌<◌, ◌==◌, if◌then◌else◌, ◌&&◌, nat_eq, true, Bool, Option, None, Some, List, [], ◌∷◌, ◌++◌, refl, ap, sym, ◌∙◌, subst, inl, inr, arith, All}
use Rattle.core_laws.proofs.Common.{DataOk, Drops, Happening, Mapping, Pbn, PhysicalZone, Session, Trace, eq-eqb, eqb_tells, is_block, physical_number, total, zone_number, Writer}
use Rattle.blk_base.specs.Regions.{IsDataBlock}
use Rattle.blk_base.specs.declared.place.Mapping.TheVariants.{At}
use Rattle.core_model.specs.CountUpdates.{replaced_in}
use Rattle.core_model.specs.PhysicalFacts.{AreFirstClaims, WasIssued}
use Rattle.core_model.specs.PhysicalRules.{spent_for, with_counts}
use Rattle.blk_base.specs.declared.place.PageId.{PageId}
use Rattle.slab_tickets.specs.Tickets.{Desk}
use Rattle.zone_counts.proofs.BlockLaws.{added_none}
use Rattle.zone_counts.proofs.OperationLaws.{calls_keep}
use Rattle.zone_counts.proofs.FitLaws.{claimed_is}
use Rattle.zone_counts.specs.Operations.{SpendsPage}
use Rattle.core_model.specs.Trace.{claimed as claimed_in, passed_on, strayed}
use Rattle.core_model.specs.Uses.{counted, gained, given_at, issued, lost, ticket_at, uncounted}
use Rattle.core_model.specs.declared.zones.ZoneData.TheVariants as at
use Rattle.data_vio.specs.Zones.{counts_in, physical_zone_of}
use Rattle.core_laws.proofs.lists.CountedIn.{counting_number, zone_is}
use Rattle.core_laws.proofs.physical.TicketDesks.{IsKeptBy, changed_keeps}
use Rattle.core_laws.proofs.tokens.Moves.{Moves, dropped_moves, dropped_passes, passes}
use Rattle.core_model.specs.RightTraces.{LossMayFollow, PassesOn}
use Rattle.blk_base.specs.declared.point.Half.TheVariants as half
use Rattle.slab_counts.specs.Operations.{one_of}
use Rattle.slab_counts.specs.Counts.{Counts, Takes, unclaimed}
use Rattle.slab_tickets.specs.Numbers.{AreNumbered, ticket_of}
use Rattle.zone_counts.specs.ByBlock.{claims_in, counter_in, is_at, out_with, served_block, served_ticket}
use Rattle.zone_counts.specs.Zone.{Zone, Changes, IsClaimedIn, IsOfZone, IsZone, slab_of}
use Rattle.zone_counts.proofs.TicketLaws.{changed_next, dropped_is_zone, dropped_none_waits, dropped_served, removed_served, served_neither, served_tickets, unserved_tickets}
use Rattle.core_laws.proofs.physical.OutTickets.{changed_all}
use Rattle.core_laws.proofs.kept.Spared.{issued_kept}

-- 1 for the block itself, 0 for others
pub one_same : (x y : Pbn) → x.0 ≡ y.0 → one_of x y ≡ 1
one_same x y same = elim (eqb_tells x.0 y.0) [ inl is ↦ rw is.0 refl | inr other ↦ absurd (other.1 same) ]

pub one_other : (x y : Pbn) → (x.0 ≡ y.0 → ⊥) → one_of x y ≡ 0
one_other x y apart = elim (eqb_tells x.0 y.0) [ inl is ↦ absurd (apart is.1) | inr other ↦ rw other.0 refl ]

-- a block of its number is it
pub same_number : (P : Pbn → Type 0) (x y : Pbn) → x.0 ≡ y.0 → P x → P y
same_number P x y same is = subst P (ap (λ (n : ℕ). record { 0 = n }) same) is

-- a block is of the zone over each call
pub of_zone_kept : (old z : Zone) (x : Pbn) → IsKeptBy old z → IsOfZone old x → IsOfZone z x
of_zone_kept old z x kept mine = record { data_block = rw kept.geometry mine.data_block; own = rw (kept.geometry, kept.zones, kept.zone) mine.own }

pub of_zone_back : (old z : Zone) (x : Pbn) → IsKeptBy old z → IsOfZone z x → IsOfZone old x
of_zone_back old z x kept mine = record { data_block = rw (← kept.geometry) mine.data_block; own = rw (← kept.geometry, ← kept.zones, ← kept.zone) mine.own }

-- What it knows of its tickets after a call, by what happened.
pub record KnowsTickets (s : Session) (t : Trace) (zone : ℕ) (z : Zone) : Type 0 where
  pub tickets_are : (number : ℕ) → ticket_of z.desk.out number ≡ ticket_at s.sizes t zone number
  pub issued_is : z.desk.issued ≡ issued t zone
  pub passed : (x : Pbn) → 0 < out_with x z.desk → IsOfZone z x
  pub out_are : All (WasIssued t zone) z.desk.out

module _ {s : Session} {t : Trace} {n : ℕ} {old : PhysicalZone} (own : DataOk s t n (at.Physical old)) where
  -- where a block of the zone is counted
  pub number_of : (x : Pbn) → IsOfZone old.counts x → n ≡ zone_number s.sizes (counts_in s.sizes x)
  number_of x mine = own.number_is ∙ ap (physical_number s.sizes) (sym (zone_is s old own.sound x mine))

  pub number_led : (x : Pbn) (m : Mapping) → IsOfZone old.counts x → m ≡ At x → n ≡ counting_number s.sizes m
  number_led x m mine leads = number_of x mine ∙ ap (counting_number s.sizes) (sym leads)

  pub data_of : (x : Pbn) → IsOfZone old.counts x → IsDataBlock s.sizes.geometry x.0
  data_of x is = subst (λ g. IsDataBlock g x.0) own.sound.geometry is.data_block

  -- each use that came is one of the trace, and each that went; and so with the counters
  pub after_ok : (t' : Trace) (z : Zone) (more less spent : Pbn → ℕ) → IsZone z → IsKeptBy old.counts z → Moves old.counts z more less spent → AreFirstClaims z
      → ((y : Pbn) → gained s t y + more y + lost t' y ≡ gained s t' y + lost t y + less y)
      → ((y : Pbn) → counted s t y + spent y + uncounted t' y ≡ counted s t' y + uncounted t y + less y)
      → strayed t' ≡ strayed t → KnowsTickets s t' old.counts.zone z
      → DataOk s t' n (at.Physical (with_counts z old))
  after_ok t' z more less spent is kept moves first uses counters strays knows = record {
    number_is = own.number_is ∙ ap (physical_number s.sizes) (sym kept.zone);
    lists = record {
      counters = λ y mine. let before = own.lists.counters y (of_zone_back old.counts z y kept mine) in omega (arith, before, moves.uses y, moves.claims y, counters y);
      uses = λ y mine. let before = own.lists.uses y (of_zone_back old.counts z y kept mine) in omega (arith, before, moves.uses y, uses y);
      strays_are = own.lists.strays_are ∙ sym (ap (replaced_in s.sizes old.counts.zone) strays) ∙ ap (λ (zone : ℕ). replaced_in s.sizes zone (strayed t')) (sym kept.zone);
      tickets_are = λ number. knows.tickets_are number ∙ ap (λ (zone : ℕ). ticket_at s.sizes t' zone number) (sym kept.zone);
      issued_is = knows.issued_is ∙ ap (issued t') (sym kept.zone);
      out_are = subst (λ (zone : ℕ). All (WasIssued t' zone) z.desk.out) (sym kept.zone) knows.out_are;
    };
    sound = record {
      is_zone = is;
      geometry = kept.geometry ∙ own.sound.geometry;
      zones = kept.zones ∙ own.sound.zones;
      numbered = kept.numbered own.sound.numbered;
      few = let before = own.sound.few in let later = kept.few in omega (arith, before, later);
      room = rw kept.room own.sound.room;
      passed = knows.passed;
      first_claims = first;
    };
    kept = tt;
    answers = tt;
    told = tt;
  }

  -- What passes to a ticket is what the trace says: so it is where a block of the zone is passed on.
  module _ (x : Pbn) (mine : IsOfZone old.counts x) where
    here : nat_eq (physical_zone_of s.sizes x) old.counts.zone ≡ true
    here = eq-eqb _ _ (zone_is s old own.sound x mine)

    pub passed_tickets : (m z : Zone) (slab : Counts) (earlier : ℕ → Option (Option Pbn)) → AreNumbered m.desk → ((number : ℕ) → ticket_of m.desk.out number ≡ earlier number) → (change : Changes m z x slab)
        → ((k : ℕ) → served_ticket change.serves ≡ Some k → served_block change.serves ≡ Some x)
        → (number : ℕ) → ticket_of z.desk.out number ≡ given_at s.sizes (Some x) (served_ticket change.serves) old.counts.zone number (earlier number)
    passed_tickets m z slab earlier numbered before change served number = by (served_ticket change.serves) refl
      where
        by : (to : Option ℕ) → served_ticket change.serves ≡ to → ticket_of z.desk.out number ≡ given_at s.sizes (Some x) to old.counts.zone number (earlier number)
        by None none = unserved_tickets m z x slab number change none ∙ before number
        by (Some k) some =
            (served_tickets m z x slab k x numbered change some (served k some)).0 number
            ∙ ap (λ (o : Option (Option Pbn)). if k == number then Some (Some x) else o) (before number)
            ∙ sym (ap (λ (b : Bool). if b && nat_eq k number then Some (Some x) else earlier number) here)

-- A use of a block goes, and the block may go to a ticket.
module _ (s : Session) (t : Trace) (zone : ℕ) (m z : Zone) (x : Pbn) (slab : Counts) (change : Changes m z x slab) (numbered : AreNumbered m.desk) where
  -- what is served is the block that became free
  abbrev ServesIt : Type 0
  ServesIt = (k : ℕ) → served_ticket change.serves ≡ Some k → (served_block change.serves ≡ Some x) × (counter_in x z.slabs ≡ 0) × (claims_in x z.slabs ≡ 1) × (counter_in x m.slabs + claims_in x m.slabs ≡ 1)

  module _ (served : ServesIt) where
    passes_none : (y : Pbn) → served_ticket change.serves ≡ None → passes change.serves y ≡ 0
    passes_none y none = ap (is_at y) (served_neither change.serves none)

    passes_some : (y : Pbn) (k : ℕ) → served_ticket change.serves ≡ Some k → passes change.serves y ≡ one_of x y
    passes_some y k some = ap (is_at y) (served k some).0

    -- the trace has it claimed
    pub claimed_more : (y : Pbn) (claimed : List Pbn) → total (is_block y) (passed_on (Some x) (served_ticket change.serves) ++ claimed) ≡ passes change.serves y + total (is_block y) claimed
    claimed_more y claimed = by (served_ticket change.serves) refl
      where
        by : (to : Option ℕ) → served_ticket change.serves ≡ to → total (is_block y) (passed_on (Some x) to ++ claimed) ≡ passes change.serves y + total (is_block y) claimed
        by None none = omega (arith, passes_none y none)
        by (Some k) some = omega (arith, passes_some y k some)

    -- it has a claim, and no mapping
    pub first_after : (spent : Pbn → ℕ) → AreFirstClaims m → Moves m z (passes change.serves) (one_of x) spent → AreFirstClaims z
    first_after spent first moves y some = by (served_ticket change.serves) refl
      where
        still : passes change.serves y ≡ 0 → (counter_in y z.slabs ≡ 0) × (claims_in y z.slabs ≡ 1)
        still none =
            let before = first y (omega (arith, some, moves.claims y, none)) in
            (omega (arith, moves.uses y, moves.claims y, none, before.0, before.1, some), omega (arith, moves.uses y, moves.claims y, none, before.0, before.1, some))

        by : (to : Option ℕ) → served_ticket change.serves ≡ to → (counter_in y z.slabs ≡ 0) × (claims_in y z.slabs ≡ 1)
        by None none = still (passes_none y none)
        by (Some k) is = elim (eqb_tells x.0 y.0) [
          | inl same ↦ same_number (λ w. (counter_in w z.slabs ≡ 0) × (claims_in w z.slabs ≡ 1)) x y same.1 ((served k is).1, (served k is).2)
          | inr other ↦ still (passes_some y k is ∙ one_other x y other.1)
        ]

    -- what went to a ticket is of the zone
    pub passed_after : ((y : Pbn) → out_with y z.desk ≡ out_with y m.desk + passes change.serves y) → ((y : Pbn) → 0 < out_with y m.desk → IsOfZone m y) → IsOfZone m x → (y : Pbn) → 0 < out_with y z.desk → IsOfZone m y
    passed_after out before mine y some = by (served_ticket change.serves) refl
      where
        by : (to : Option ℕ) → served_ticket change.serves ≡ to → IsOfZone m y
        by None none = before y (omega (arith, out y, passes_none y none, some))
        by (Some k) is = elim (eqb_tells x.0 y.0) [
          | inl same ↦ same_number (IsOfZone m) x y same.1 mine
          | inr other ↦ before y (omega (arith, out y, passes_some y k is, one_other x y other.1, some))
        ]

    module _ (home : physical_zone_of s.sizes x ≡ zone) (tickets : (number : ℕ) → ticket_of m.desk.out number ≡ ticket_at s.sizes t zone number) (uses : counter_in x m.slabs + claims_in x m.slabs + lost t x ≡ gained s t x)
        (none_waits : served_ticket change.serves ≡ None → counter_in x z.slabs + claims_in x z.slabs ≡ 0 → (k : ℕ) → ticket_of z.desk.out k ≡ Some None → ⊥)
        (freed : served_ticket change.serves ≡ None → counter_in x m.slabs + claims_in x m.slabs ≡ 1 → counter_in x z.slabs + claims_in x z.slabs ≡ 0) where
      there : (number : ℕ) → ticket_at s.sizes t (physical_zone_of s.sizes x) number ≡ ticket_of m.desk.out number
      there number = ap (λ (k : ℕ). ticket_at s.sizes t k number) home ∙ sym (tickets number)

      pub passes_on : PassesOn s x (served_ticket change.serves) t
      passes_on = by (served_ticket change.serves) refl
        where
          by : (to : Option ℕ) → served_ticket change.serves ≡ to → PassesOn s x to t
          by None is = λ one number waits. none_waits is (freed is (omega (arith, uses, one))) number (unserved_tickets m z x slab number change is ∙ sym (there number) ∙ waits)
          by (Some k) is =
              let to = served_tickets m z x slab k x numbered change is (served k is).0 in
              (omega (arith, uses, (served k is).3), there k ∙ to.1, λ number less waits. to.2 number less (sym (there number) ∙ waits))

-- a claim that is dropped, and a mapping that goes, do so
pub dropped_serves : (m z : Zone) (x : Pbn) → IsZone m → IsClaimedIn m x → (change : Changes m z x (unclaimed (slab_of m x) x)) → (k : ℕ) → served_ticket change.serves ≡ Some k
    → (served_block change.serves ≡ Some x) × (counter_in x z.slabs ≡ 0) × (claims_in x z.slabs ≡ 1) × (counter_in x m.slabs + claims_in x m.slabs ≡ 1)
dropped_serves m z x is claim change k some = dropped_served m z x k is claim change some

pub removed_serves : (m z : Zone) (x : Pbn) (slab : Counts) → IsZone m → IsOfZone m x → Takes half.Decrement (slab_of m x) slab x → (change : Changes m z x slab) → (k : ℕ) → served_ticket change.serves ≡ Some k
    → (served_block change.serves ≡ Some x) × (counter_in x z.slabs ≡ 0) × (claims_in x z.slabs ≡ 1) × (counter_in x m.slabs + claims_in x m.slabs ≡ 1)
removed_serves m z x slab is mine takes change k some = removed_served m z x slab k is mine takes change some

-- where nothing is served, one use less is there
pub freed_by : (m z : Zone) (x : Pbn) (slab : Counts) (spent : Pbn → ℕ) → (change : Changes m z x slab) → Moves m z (passes change.serves) (one_of x) spent → served_ticket change.serves ≡ None
    → counter_in x m.slabs + claims_in x m.slabs ≡ 1 → counter_in x z.slabs + claims_in x z.slabs ≡ 0
freed_by m z x slab spent change moves none one = let no = ap (is_at x) (served_neither change.serves none) in let mine = one_same x x refl in omega (arith, moves.uses x, no, mine, one)

-- What it knows of its tickets where nothing happened to them, and where a block may have gone to one.
module _ {s : Session} {t : Trace} {n : ℕ} {old : PhysicalZone} (own : DataOk s t n (at.Physical old)) where
  pub knows_still : (h : Happening) (z : Zone) → IsKeptBy old.counts z → z.desk ≡ old.counts.desk → ((number : ℕ) → ticket_at s.sizes (h ∷ t) old.counts.zone number ≡ ticket_at s.sizes t old.counts.zone number)
      → issued (h ∷ t) old.counts.zone ≡ issued t old.counts.zone → KnowsTickets s (h ∷ t) old.counts.zone z
  knows_still h z kept desk tickets numbers = record {
    tickets_are = λ number. ap (λ (d : Desk). ticket_of d.out number) desk ∙ own.lists.tickets_are number ∙ sym (tickets number);
    issued_is = ap (λ (d : Desk). d.issued) desk ∙ own.lists.issued_is ∙ sym numbers;
    passed = λ x some. of_zone_kept old.counts z x kept (own.sound.passed x (subst (λ (d : Desk). 0 < out_with x d) desk some));
    out_are = subst (λ (d : Desk). All (WasIssued (h ∷ t) old.counts.zone) d.out) (sym desk) (issued_kept h t old.counts.zone old.counts.desk.out own.lists.out_are);
  }

  pub knows_passed : (h : Happening) (x : Pbn) (slab : Counts) (z : Zone) → IsOfZone old.counts x → (change : Changes old.counts z x slab) → IsKeptBy old.counts z
      → ((y : Pbn) → out_with y z.desk ≡ out_with y old.counts.desk + passes change.serves y)
      → ((k : ℕ) → served_ticket change.serves ≡ Some k → (served_block change.serves ≡ Some x) × (counter_in x z.slabs ≡ 0) × (claims_in x z.slabs ≡ 1) × (counter_in x old.counts.slabs + claims_in x old.counts.slabs ≡ 1))
      → ((number : ℕ) → ticket_at s.sizes (h ∷ t) old.counts.zone number ≡ given_at s.sizes (Some x) (served_ticket change.serves) old.counts.zone number (ticket_at s.sizes t old.counts.zone number))
      → issued (h ∷ t) old.counts.zone ≡ issued t old.counts.zone → KnowsTickets s (h ∷ t) old.counts.zone z
  knows_passed h x slab z mine change kept out served tickets numbers = record {
    tickets_are = λ number.
        passed_tickets own x mine old.counts z slab (λ k. ticket_at s.sizes t old.counts.zone k) own.sound.numbered own.lists.tickets_are change (λ k some. (served k some).0) number
        ∙ sym (tickets number);
    issued_is = changed_next old.counts z x slab change ∙ own.lists.issued_is ∙ sym numbers;
    passed = λ y some. of_zone_kept old.counts z y kept (passed_after s t old.counts.zone old.counts z x slab change own.sound.numbered served out own.sound.passed mine y some);
    out_are = changed_all (WasIssued (h ∷ t) old.counts.zone) (λ waiting b was. was) old.counts z x slab change (issued_kept h t old.counts.zone old.counts.desk.out own.lists.out_are);
  }

-- an increment frees no block
pub counted_desk : (page : Option PageId) (old z : Zone) (x : Pbn) (slab : Counts) → IsZone old → IsClaimedIn old x → Takes half.Increment (slab_of (spent_for page old x) x) slab x → Changes (spent_for page old x) z x slab → z.desk ≡ old.desk
counted_desk None old z x slab is claim takes change = ap (λ (w : Zone). w.desk) (added_none old z x slab is claim.own takes change).1
counted_desk (Some page) old z x slab is claim takes change =
    let between = spent_for (Some page) old x in
    let own : IsOfZone between x = record { data_block = claim.own.data_block; own = claim.own.own } in
    ap (λ (w : Zone). w.desk) (added_none between z x slab (calls_keep old between (SpendsPage x ∷ []) is (old, refl, (claim, refl))) own takes change).1

-- A claim on a block of the zone is dropped: the block may go to a ticket.
module _ {s : Session} {t : Trace} {n : ℕ} {old : PhysicalZone} (own : DataOk s t n (at.Physical old)) (w : Writer) (x : Pbn) (z : Zone) (claimed : IsClaimedIn old.counts x) (change : Changes old.counts z x (unclaimed (slab_of old.counts x) x)) where
  abbrev slab : Counts
  slab = unclaimed (slab_of old.counts x) x

  abbrev drops : Happening
  drops = Drops w x (served_ticket change.serves)

  moves : Moves old.counts z (passes change.serves) (one_of x) (one_of x)
  moves = dropped_moves old.counts z x own.sound.is_zone claimed change

  served : (k : ℕ) → served_ticket change.serves ≡ Some k → (served_block change.serves ≡ Some x) × (counter_in x z.slabs ≡ 0) × (claims_in x z.slabs ≡ 1) × (counter_in x old.counts.slabs + claims_in x old.counts.slabs ≡ 1)
  served = dropped_serves old.counts z x own.sound.is_zone claimed change

  kept : IsKeptBy old.counts z
  kept = changed_keeps old.counts z x slab change

  pub drop_follows : LossMayFollow s x (served_ticket change.serves) t
  drop_follows =
      let some = (claimed_is old.counts x own.sound.is_zone claimed.own).0 claimed in
      let uses = own.lists.uses x claimed.own in
      record {
        is_data = data_of own x claimed.own;
        some = omega (arith, some, uses);
        passes = passes_on s t old.counts.zone old.counts z x slab change own.sound.numbered served (zone_is s old own.sound x claimed.own) own.lists.tickets_are uses
            (dropped_none_waits old.counts z x own.sound.is_zone claimed change) (freed_by old.counts z x slab (one_of x) change moves);
      }

  pub dropped_ok : DataOk s (drops ∷ t) n (at.Physical (with_counts z old))
  dropped_ok =
      let passed = dropped_passes old.counts z x own.sound.is_zone claimed change in
      after_ok own (drops ∷ t) z (passes change.serves) (one_of x) (one_of x) (dropped_is_zone old.counts z x own.sound.is_zone claimed change) kept moves
      (first_after s t old.counts.zone old.counts z x slab change own.sound.numbered served (one_of x) own.sound.first_claims moves)
      (λ y. let more = claimed_more s t old.counts.zone old.counts z x slab change own.sound.numbered served y (claimed_in t) in omega (arith, more)) (λ y. omega arith) refl
      (knows_passed own drops x slab z claimed.own change kept (λ y. let more = passed.out y in omega (arith, more)) served (λ number. refl) refl)
