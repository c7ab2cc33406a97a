-- While a ticket waits, no data block of its zone is free: so one that was withdrawn without a block tells that none was, from when it was
-- given until then.
use Rattle.std.proofs.Common.{◌≡◌, ◌⊎◌, ℕ, ◌+◌, ◌<◌, ◌≤◌, ◌&&◌, if◌then◌else◌, nat_eq, Bool, true, false, Option, None, Some, List, [], ◌∷◌, ◌++◌, Contains, refl, ap, sym, ◌∙◌, subst, inl, inr, arith}
use Rattle.core_laws.proofs.Common.{Happening, Pbn, Removes, RightTrace, Session, Sizes, Takes, Trace, Writer, bit, cases_Bool, eqb-true, eqb_tells, is_block, is_old, leads_to, total}
use Rattle.blk_base.specs.Regions.{IsDataBlock}
use Rattle.core_model.specs.PageLinks.{block_in}
use Rattle.core_model.specs.RightTraces.{AskMayFollow, LossMayFollow, MayFollow, WasRefused}
use Rattle.core_model.specs.Trace.{Asks, Drops, Withdraws, claimed, passed_on}
use Rattle.core_model.specs.Uses.{NoneFree, NoneFreeIn, Waits, gained, given_at, issued, lost, ticket_at}
use Rattle.data_vio.specs.Zones.{physical_zone_of}
use Rattle.slab_counts.specs.Operations.{one_of}
use Rattle.slab_counts.specs.declared.tickets.Ticket.{Ticket}
use Rattle.core_laws.proofs.kept.Spared.{contains_cut}
use Rattle.core_laws.proofs.lists.CountedIn.{zone_inside}

-- both of two tests
both_true : (b c : Bool) → (b && c) ≡ true → (b ≡ true) × (c ≡ true)
both_true true true is = (refl, refl)
both_true true false is = absurd cc
both_true false c is = absurd cc

module _ (sizes : Sizes) where
  -- of a ticket that waits, the last that was said is that it was given, or nothing was said of it
  asks_said : (k : Ticket) (t : Trace) (zone number : ℕ) → (if nat_eq k.zone zone && nat_eq k.number number then Some None else ticket_at sizes t zone number) ≡ Some None
      → ((k.zone ≡ zone) × (k.number ≡ number)) ⊎ Waits sizes t zone number
  asks_said k t zone number waits = elim (cases_Bool (nat_eq k.zone zone && nat_eq k.number number)) [
    | inl same ↦ let both = both_true _ _ same in inl (eqb-true k.zone zone both.0, eqb-true k.number number both.1)
    | inr other ↦ inr (rw other at waits)
  ]

  withdraws_said : (k : Ticket) (t : Trace) (zone number : ℕ) → (if nat_eq k.zone zone && nat_eq k.number number then None else ticket_at sizes t zone number) ≡ Some None → Waits sizes t zone number
  withdraws_said k t zone number waits = elim (cases_Bool (nat_eq k.zone zone && nat_eq k.number number)) [
    | inl same ↦ absurd (let none : None ≡ Some None = rw same at waits in cc)
    | inr other ↦ rw other at waits
  ]

  given_said : (o : Option Pbn) (to : Option ℕ) (zone number : ℕ) (earlier : Option (Option Pbn)) → given_at sizes o to zone number earlier ≡ Some None → earlier ≡ Some None
  given_said (Some x) (Some k) zone number earlier waits = elim (cases_Bool (nat_eq (physical_zone_of sizes x) zone && nat_eq k number)) [
    | inl same ↦ absurd (let some : Some (Some x) ≡ Some None = rw same at waits in cc)
    | inr other ↦ rw other at waits
  ]
  given_said (Some x) None zone number earlier waits = waits
  given_said None to zone number earlier waits = waits

-- uses of a block, where another one passes to a ticket
pub others_pass : (x y : Pbn) (to : Option ℕ) (xs : List Pbn) → one_of x y ≡ 0 → total (is_block y) (passed_on (Some x) to ++ xs) ≡ total (is_block y) xs
others_pass x y None xs none = refl
others_pass x y (Some k) xs none = omega (arith, none)

own_passes : (x : Pbn) (k : ℕ) (xs : List Pbn) → one_of x x ≡ 1 → total (is_block x) (passed_on (Some x) (Some k) ++ xs) ≡ total (is_block x) xs + 1
own_passes x k xs one = omega (arith, one)

same_block : (x y : Pbn) → x.0 ≡ y.0 → x ≡ y
same_block x y same = ap (λ (n : ℕ). record { 0 = n }) same

pub one_or : (x y : Pbn) → ((x ≡ y) × (one_of x y ≡ 1)) ⊎ (one_of x y ≡ 0)
one_or x y = elim (eqb_tells x.0 y.0) [ inl same ↦ inl (same_block x y same.1, rw same.0 refl) | inr other ↦ inr (rw other.0 refl) ]

module _ (s : Session) where
  -- A loss frees no block of a zone in which a ticket waits.
  still_used : (t : Trace) (x : Pbn) (to : Option ℕ) (zone number : ℕ) → LossMayFollow s x to t → Waits s.sizes t zone number → NoneFreeIn s t zone → (y : Pbn) → IsDataBlock s.sizes.geometry y.0 → physical_zone_of s.sizes y ≡ zone
      → gained s t y + (total (is_block y) (passed_on (Some x) to ++ claimed t)) ≡ lost t y + one_of x y + total (is_block y) (claimed t) → ⊥
  still_used t x to zone number loss waits none y is_data home free = elim (one_or x y) [
    | inr other ↦ none y is_data home (omega (arith, free, other, others_pass x y to (claimed t) other))
    | inl (same, one) ↦ by to loss (subst (λ (w : Pbn). one_of x w ≡ 1) (sym same) one) (subst (λ (w : Pbn). physical_zone_of s.sizes w ≡ zone) (sym same) home)
        (subst (λ (w : Pbn). gained s t w + (total (is_block w) (passed_on (Some x) to ++ claimed t)) ≡ lost t w + one_of x w + total (is_block w) (claimed t)) (sym same) free)
  ]
    where
      by : (o : Option ℕ) → LossMayFollow s x o t → one_of x x ≡ 1 → physical_zone_of s.sizes x ≡ zone
          → gained s t x + (total (is_block x) (passed_on (Some x) o ++ claimed t)) ≡ lost t x + one_of x x + total (is_block x) (claimed t) → ⊥
      by None l one here is = l.passes (omega (arith, is, one)) number (ap (λ (z : ℕ). ticket_at s.sizes t z number) here ∙ waits)
      by (Some k) l one here is = let some = l.some in omega (arith, some, is, one, own_passes x k (claimed t) one)

  -- while a ticket waits, no block of its zone is free
  pub tickets_hold : (t : Trace) (zone number : ℕ) → RightTrace s t → Waits s.sizes t zone number → NoneFreeIn s t zone
  tickets_hold [] zone number right waits = absurd cc
  tickets_hold (Asks w k ∷ t) zone number right waits = elim (asks_said s.sizes k t zone number waits) [
    | inl (here, same) ↦ subst (NoneFreeIn s t) here right.0.none_free
    | inr earlier ↦ tickets_hold t zone number right.2 earlier
  ]
  tickets_hold (Withdraws w k got ∷ t) zone number right waits = tickets_hold t zone number right.2 (withdraws_said s.sizes k t zone number waits)
  tickets_hold (Drops w x to ∷ t) zone number right waits =
      let earlier = given_said s.sizes (Some x) to zone number (ticket_at s.sizes t zone number) waits in
      λ y is_data home free. still_used t x to zone number right.0.1 earlier (tickets_hold t zone number right.2 earlier) y is_data home (omega (arith, free))
  tickets_hold (Removes e to ∷ t) zone number right waits =
      let earlier = given_said s.sizes (block_in e.old) to zone number (ticket_at s.sizes t zone number) waits in
      let x = right.0.block in
      let block : block_in e.old ≡ Some x = ap block_in right.0.old_is in
      λ y is_data home free.
      let one : is_old y e ≡ one_of x y = ap (leads_to y) right.0.old_is in
      let its : total (is_block y) (passed_on (block_in e.old) to ++ claimed t) ≡ total (is_block y) (passed_on (Some x) to ++ claimed t) = ap (λ (o : Option Pbn). total (is_block y) (passed_on o to ++ claimed t)) block in
      still_used t x to zone number right.0.loss earlier (tickets_hold t zone number right.2 earlier) y is_data home (omega (arith, free, one, its))
  tickets_hold (Takes w page x ∷ t) zone number right waits = λ y is_data home free. elim (one_or x y) [
    | inl (same, one) ↦ let was : gained s t y ≡ lost t y = subst (λ (w : Pbn). gained s t w ≡ lost t w) same right.0.is_free in omega (arith, free, one, was)
    | inr other ↦ tickets_hold t zone number right.2 waits y is_data home (omega (arith, free, other))
  ]
  tickets_hold (other ∷ t) zone number right waits = tickets_hold t zone number right.2 waits

  -- the part of a right trace is right
  pub right_older : (newer older : Trace) → RightTrace s (newer ++ older) → RightTrace s older
  right_older [] older right = right
  right_older (h ∷ newer) older right = right_older newer older right.2

  -- tickets are given in their order
  issued_more : (h : Happening) (t : Trace) (zone : ℕ) → issued t zone ≤ issued (h ∷ t) zone
  issued_more (Asks w k) t zone = omega arith
  issued_more other t zone = omega arith

  issued_grows : (newer older : Trace) (zone : ℕ) → issued older zone ≤ issued (newer ++ older) zone
  issued_grows [] older zone = omega arith
  issued_grows (h ∷ newer) older zone = let more = issued_more h (newer ++ older) zone in let rest = issued_grows newer older zone in omega (arith, more, rest)

  issued_one : (k : Ticket) → bit (nat_eq k.zone k.zone) ≡ 1
  issued_one k = elim (eqb_tells k.zone k.zone) [ inl same ↦ ap bit same.0 | inr other ↦ absurd (other.1 refl) ]

  pub issued_below : (t : Trace) (w : Writer) (k : Ticket) → RightTrace s t → Contains t (Asks w k) → k.number < issued t k.zone
  issued_below [] w k right (i, low, is) = absurd (omega (arith, low))
  issued_below (Asks v j ∷ t) w k right has = elim (contains_cut (Asks v j) t (Asks w k) has) [
    | inl here ↦
        let same : j ≡ k = cc in
        subst (λ (q : Ticket). q.number < issued (Asks v j ∷ t) q.zone) same (let number = right.0.number in let one = issued_one j in omega (arith, number, one))
    | inr earlier ↦ let below = issued_below t w k right.2 earlier in omega (arith, below)
  ]
  issued_below (h ∷ t) w k right has = elim (contains_cut h t (Asks w k) has) [ inl here ↦ absurd cc | inr earlier ↦ issued_below t w k right.2 earlier ]

  -- two tickets of a zone that have one number are the same
  first_is_new : (h : Happening) (t : Trace) (w v : Writer) (k j : Ticket) → MayFollow s h t → RightTrace s t → h ≡ Asks w k → Contains t (Asks v j) → k.zone ≡ j.zone → k.number ≡ j.number → ⊥
  first_is_new h t w v k j may right is earlier zones numbers =
      let next : AskMayFollow s w k t = subst (λ (g : Happening). MayFollow s g t) is may in
      let number = next.number in
      let below = issued_below t v j right earlier in
      let there = ap (issued t) zones in
      omega (arith, number, below, there, numbers)

  pub same_ticket : (t : Trace) (w v : Writer) (k j : Ticket) → RightTrace s t → Contains t (Asks w k) → Contains t (Asks v j) → k.zone ≡ j.zone → k.number ≡ j.number → k ≡ j
  same_ticket [] w v k j right one two zones numbers = absurd (omega (arith, one.1))
  same_ticket (h ∷ t) w v k j right one two zones numbers = elim (contains_cut h t (Asks w k) one) [
    | inl here ↦ elim (contains_cut h t (Asks v j) two) [
      | inl there ↦ let same : Asks w k ≡ Asks v j = sym here ∙ there in cc
      | inr earlier ↦ absurd (first_is_new h t w v k j right.0 right.2 here earlier zones numbers)
    ]
    | inr before ↦ elim (contains_cut h t (Asks v j) two) [
      | inl there ↦ absurd (first_is_new h t v w j k right.0 right.2 there before (sym zones) (sym numbers))
      | inr earlier ↦ same_ticket t w v k j right.2 before earlier zones numbers
    ]
  ]

  -- a ticket that waits at the end waited since it was given
  still_waits : (newer older : Trace) (zone number : ℕ) → RightTrace s (newer ++ older) → number < issued older zone → Waits s.sizes (newer ++ older) zone number → Waits s.sizes older zone number
  still_waits [] older zone number right below waits = waits
  still_waits (Asks w k ∷ newer) older zone number right below waits = elim (asks_said s.sizes k (newer ++ older) zone number waits) [
    | inl (here, same) ↦ absurd (let next = right.0.number in let there = ap (issued (newer ++ older)) here in let grown = issued_grows newer older zone in omega (arith, next, there, grown, same, below))
    | inr earlier ↦ still_waits newer older zone number right.2 below earlier
  ]
  still_waits (Withdraws w k got ∷ newer) older zone number right below waits = still_waits newer older zone number right.2 below (withdraws_said s.sizes k (newer ++ older) zone number waits)
  still_waits (Drops w x to ∷ newer) older zone number right below waits = still_waits newer older zone number right.2 below (given_said s.sizes (Some x) to zone number (ticket_at s.sizes (newer ++ older) zone number) waits)
  still_waits (Removes e to ∷ newer) older zone number right below waits = still_waits newer older zone number right.2 below (given_said s.sizes (block_in e.old) to zone number (ticket_at s.sizes (newer ++ older) zone number) waits)
  still_waits (h ∷ newer) older zone number right below waits = still_waits newer older zone number right.2 below waits

  withdrawn_waits : (newer older : Trace) (w : Writer) (k : Ticket) → RightTrace s (newer ++ older) → Contains older (Asks w k) → Contains newer (Withdraws w k None) → Waits s.sizes older k.zone k.number
  withdrawn_waits [] older w k right asked (i, low, is) = absurd (omega (arith, low))
  withdrawn_waits (Withdraws v j got ∷ newer) older w k right asked has = elim (contains_cut (Withdraws v j got) newer (Withdraws w k None) has) [
    | inl here ↦
        let same : j ≡ k = cc in
        let none : got ≡ None = cc in
        let waits : Waits s.sizes (newer ++ older) k.zone k.number = subst (λ (q : Ticket). Waits s.sizes (newer ++ older) q.zone q.number) same (right.0.out ∙ ap (λ (o : Option Pbn). Some o) none) in
        still_waits newer older k.zone k.number right.2 (issued_below older w k (right_older newer older right.2) asked) waits
    | inr earlier ↦ withdrawn_waits newer older w k right.2 asked earlier
  ]
  withdrawn_waits (h ∷ newer) older w k right asked has = elim (contains_cut h newer (Withdraws w k None) has) [ inl here ↦ absurd cc | inr earlier ↦ withdrawn_waits newer older w k right.2 asked earlier ]

  -- So where a request was refused by a zone, none was free there at that moment.
  pub refused_none : (newer older : Trace) (w : Writer) (zone : ℕ) → RightTrace s (newer ++ older) → WasRefused newer older w zone → NoneFreeIn s older zone
  refused_none newer older w zone right was =
      subst (NoneFreeIn s older) was.zone_is (tickets_hold older was.ticket.zone was.ticket.number (right_older newer older right) (withdrawn_waits newer older w was.ticket right was.asked was.withdrawn))

  -- and none at all, where each zone refused it
  pub all_refused_none : (newer older : Trace) (w : Writer) → 1 ≤ s.sizes.physical → RightTrace s (newer ++ older) → ((zone : ℕ) → zone < s.sizes.physical → WasRefused newer older w zone) → NoneFree s older
  all_refused_none newer older w some right each x is_data free =
      let inside = zone_inside s.sizes x some in
      refused_none newer older w (physical_zone_of s.sizes x) right (each (physical_zone_of s.sizes x) inside) x is_data refl free
