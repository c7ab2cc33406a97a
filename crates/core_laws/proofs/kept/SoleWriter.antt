-- Who has the claim on a block, and hands in its entry yet, is the only one who may write it: nobody maps it. This follows from the
-- balances of its block and its claims, and from the count law.
use Rattle.std.proofs.Common.{◌≡◌, ◌≢◌, Contains, inl, inr, ℕ, zero, suc, ◌+◌, ◌<◌, ◌≤◌, List, [], ◌∷◌, Some, slice_get, refl, ap, sym, ◌∙◌, subst, arith, if◌then◌else◌, true, false, Bool}
use Rattle.core_laws.proofs.Common.{DataOk, Item, Logged, Makes, Mapping, NewPage, OnBlock, Pbn, PhysicalZone, RightTrace, Session, Token, Trace, Vio, Zone, ZoneData, durable, eqb_tells, given, journal_number, journaled, kept_by, mapping_by, new_of, of_vio, physical_number, remappings, total, total-append, total-get, total_alone, weight}
use Rattle.blk_base.specs.declared.place.Mapping.TheVariants.{Unmapped, Zero, At}
use Rattle.blk_base.specs.declared.place.PageId.{PageId}
use Rattle.data_vio.specs.declared.items.Item.TheVariants as item
use Rattle.core_model.specs.Legal.{Legal}
use Rattle.core_model.specs.RightTraces.{AreElsewhere, IsUnused}
use Rattle.core_model.specs.Sessions.{opened_uses}
use Rattle.core_model.specs.Steps.{Core}
use Rattle.core_model.specs.Tokens.{as_items, block_item, block_token, claim_token, claim_weight, is_entry, is_old, leads_to, none, owes, uses_at, entries_at, unowed_weight}
use Rattle.core_model.specs.declared.zones.ZoneData.TheVariants as at
use Rattle.core_laws.proofs.trace.DeskOfTrace.{durable_part}
use Rattle.core_laws.proofs.kept.ZoneKinds.{Sits, journal_sits, physical_sits, total_once}
use Rattle.core_laws.proofs.lists.CountedIn.{zone_inside, zone_is}
use Rattle.data_vio.specs.Zones.{physical_zone_of}
use Rattle.zone_counts.proofs.BlockLaws.{foreign_is}
use Rattle.zone_counts.specs.ByBlock.{claims_in, counter_in}

-- sums of what is more, or the same, for each
total_more : {X : Type 0} (f g : X → ℕ) (xs : List X) → ((x : X) → f x ≤ g x) → total f xs ≤ total g xs
total_more f g [] more = omega arith
total_more f g (x ∷ xs) more = omega (arith, more x, total_more f g xs more)

total_both : {X : Type 0} (f g h : X → ℕ) (xs : List X) → ((x : X) → f x + g x ≤ h x) → total f xs + total g xs ≤ total h xs
total_both f g h [] more = omega arith
total_both f g h (x ∷ xs) more = omega (arith, more x, total_both f g h xs more)

-- Claims whose entries aren't handed in.
abbrev pub unowed_token : Pbn → Token
unowed_token x = record { item = of_vio (unowed_weight x); own = none; gave = none }

unowed_less : (x : Pbn) (it : Item) → of_vio (unowed_weight x) it ≤ block_item x it
unowed_less x (item.Request v) = omega arith
unowed_less x (item.Decrement e) = omega arith
unowed_less x other = omega arith

vio_less : (x : Pbn) (v : Vio) → unowed_weight x v ≤ claim_weight x v
vio_less x v = by (owes v.phase)
  where
    by : (b : Bool) → (if b then 0 else claim_weight x v) ≤ claim_weight x v
    by true = omega arith
    by false = omega arith

claim_less : (x : Pbn) (it : Item) → of_vio (unowed_weight x) it ≤ of_vio (claim_weight x) it
claim_less x (item.Request v) = vio_less x v
claim_less x (item.Block b) = total_more (unowed_weight x) (claim_weight x) b.vios (vio_less x)
claim_less x other = omega arith

-- what the journal weighs for a block, and what it gave
abbrev entries_of : (Pbn → ℕ) → Pbn → ZoneData → ℕ
entries_of opened x (at.Journal j) = opened x + total (is_entry x) j.entered
entries_of opened x other = 0

abbrev olds_of : Pbn → ZoneData → ℕ
olds_of x (at.Journal j) = total (is_old x) (remappings j.committed)
olds_of x other = 0

abbrev counts_of : Pbn → ZoneData → ℕ
counts_of x (at.Physical p) = counter_in x p.counts.slabs + claims_in x p.counts.slabs
counts_of x other = 0

module _ (s : Session) (core : Core) (legal : Legal s core) (x : Pbn) where
  abbrev opened : Pbn → ℕ
  opened = opened_uses s

  zone_less : (z : Zone) → weight (unowed_token x) z + entries_of opened x z.keeps ≤ weight (block_token opened x) z
  zone_less z =
      let items = total_more (of_vio (unowed_weight x)) (block_item x) in
      let inbox = items z.ports.inbox (unowed_less x) in
      let outboxes = total_more (total (of_vio (unowed_weight x))) (total (block_item x)) z.ports.outboxes (λ lane. items lane (unowed_less x)) in
      let queued = items (as_items (kept_by z.keeps)) (unowed_less x) in
      omega (arith, inbox, outboxes, queued, own z.keeps)
    where
      own : (d : ZoneData) → entries_of opened x d ≤ entries_at opened x d
      own (at.Journal j) = omega arith
      own (at.Physical p) = omega arith
      own other = omega arith

  zone_claims : (z : Zone) → weight (unowed_token x) z ≤ weight (claim_token x) z
  zone_claims z =
      let items = total_more (of_vio (unowed_weight x)) (of_vio (claim_weight x)) in
      let inbox = items z.ports.inbox (claim_less x) in
      let outboxes = total_more (total (of_vio (unowed_weight x))) (total (of_vio (claim_weight x))) z.ports.outboxes (λ lane. items lane (claim_less x)) in
      let queued = items (as_items (kept_by z.keeps)) (claim_less x) in
      omega (arith, inbox, outboxes, queued)

  -- the number of the zone that counts the block; any other has no counter of it and no claim on it
  abbrev home : ℕ
  home = physical_number s.sizes (physical_zone_of s.sizes x)

  foreign : (n : ℕ) (p : PhysicalZone) → DataOk s core.trace n (at.Physical p) → (n ≡ home → ⊥) → (counter_in x p.counts.slabs ≡ 0) × (claims_in x p.counts.slabs ≡ 0)
  foreign n p ok ne = foreign_is p.counts x ok.sound.is_zone (λ own. ne (ok.number_is ∙ ap (physical_number s.sizes) (sym (zone_is s p ok.sound x own))))

  -- so claims are given at home alone
  claims_elsewhere : (n : ℕ) (d : ZoneData) → DataOk s core.trace n d → (n ≡ home → ⊥) → (claim_token x).gave d ≡ 0
  claims_elsewhere n (at.Physical p) ok ne = (foreign n p ok ne).1
  claims_elsewhere n other ok ne = refl

  -- a claim that somebody holds is counted by the zone of its block
  pub held_counted_there : (n : ℕ) (z : Zone) (p : PhysicalZone) → slice_get core.zones n ≡ Some z → z.keeps ≡ at.Physical p → physical_zone_of s.sizes x ≡ p.counts.zone → 1 ≤ total (weight (claim_token x)) core.zones
      → 0 < claims_in x p.counts.slabs
  held_counted_there n z p had keeps here some =
      let number : n ≡ home = (subst (λ (d : ZoneData). DataOk s core.trace n d) keeps (legal.each n z had).own).number_is ∙ ap (physical_number s.sizes) (sym here) in
      let alone : total (given (claim_token x)) core.zones ≡ claims_in x p.counts.slabs =
      total_alone (given (claim_token x)) core.zones n z had (λ j y there ne. claims_elsewhere j y.keeps (legal.each j y there).own (λ is. ne (is ∙ sym number))) ∙ ap (claim_token x).gave keeps
      in
      omega (arith, some, alone, legal.claims x)

  -- one claim on a block is held at most
  pub claim_once : total (weight (claim_token x)) core.zones ≤ 1
  claim_once =
      let once = total_once (given (claim_token x)) core.zones home (λ n z had. (one_at n z.keeps (legal.each n z had).own, claims_elsewhere n z.keeps (legal.each n z had).own)) in
      omega (arith, once, legal.claims x)
    where
      at_most : (n : ℕ) → (0 < n → n ≡ 1) → n ≤ 1
      at_most zero one = omega arith
      at_most (suc n) one = omega (arith, one (omega arith))

      one_at : (n : ℕ) (d : ZoneData) → DataOk s core.trace n d → (claim_token x).gave d ≤ 1
      one_at n (at.Physical p) ok = at_most (claims_in x p.counts.slabs) (λ some. (ok.sound.first_claims x some).1)
      one_at n other ok = omega arith

  -- The zone that counts it, and the journal.
  journal : Sits s core.trace core.zones legal.each at.Journal (journal_number s.sizes)
  journal = journal_sits s core.trace core.zones legal.each legal.count

  journal_ok : DataOk s core.trace (journal_number s.sizes) (at.Journal journal.it)
  journal_ok = subst (λ d. DataOk s core.trace (journal_number s.sizes) d) journal.keeps (legal.each (journal_number s.sizes) journal.zone journal.had).own

  olds_alone : total (λ z. olds_of x z.keeps) core.zones ≡ total (is_old x) (remappings (durable core.trace))
  olds_alone =
      total_alone (λ z. olds_of x z.keeps) core.zones (journal_number s.sizes) journal.zone journal.had (λ n z had ne. elsewhere n z.keeps (legal.each n z had).own ne)
      ∙ ap (olds_of x) journal.keeps ∙ ap (λ es. total (is_old x) (remappings es)) journal_ok.lists.committed_is
    where
      elsewhere : (n : ℕ) (d : ZoneData) → DataOk s core.trace n d → (n ≡ journal_number s.sizes → ⊥) → olds_of x d ≡ 0
      elsewhere n (at.Journal j) ok ne = absurd (ne ok.number_is)
      elsewhere n other ok ne = refl

  entries_some : opened x + total (is_entry x) (journaled core.trace) ≤ total (λ z. entries_of opened x z.keeps) core.zones
  entries_some =
      let here = total-get (λ z. entries_of opened x z.keeps) core.zones (journal_number s.sizes) journal.zone journal.had in
      let is = ap (entries_of opened x) journal.keeps in
      let entered = ap (λ es. opened x + total (is_entry x) es) journal_ok.lists.entered_is in
      omega (arith, here, is, entered)

  module _ (some_zone : 1 ≤ s.sizes.physical) where
    pub physical : Sits s core.trace core.zones legal.each at.Physical home
    physical = physical_sits s core.trace core.zones legal.each legal.count (physical_zone_of s.sizes x) (zone_inside s.sizes x some_zone)

    pub physical_ok : DataOk s core.trace home (at.Physical physical.it)
    physical_ok = subst (λ d. DataOk s core.trace home d) physical.keeps (legal.each home physical.zone physical.had).own

    pub physical_here : physical_zone_of s.sizes x ≡ physical.it.counts.zone
    physical_here = let number = physical_ok.number_is in omega (arith, number)

    abbrev counter : ℕ
    counter = counter_in x physical.it.counts.slabs

    abbrev claims : ℕ
    claims = claims_in x physical.it.counts.slabs

    -- what one zone alone has
    counts_alone : total (λ z. counts_of x z.keeps) core.zones ≡ counter + claims
    counts_alone =
        total_alone (λ z. counts_of x z.keeps) core.zones home physical.zone physical.had (λ n z had ne. elsewhere n z.keeps (legal.each n z had).own ne)
        ∙ ap (counts_of x) physical.keeps
      where
        elsewhere : (n : ℕ) (d : ZoneData) → DataOk s core.trace n d → (n ≡ home → ⊥) → counts_of x d ≡ 0
        elsewhere n (at.Physical p) ok ne = let none = foreign n p ok ne in omega (arith, none.0, none.1)
        elsewhere n other ok ne = refl

    -- what is given of claims the zone gave
    given_claims : total (given (claim_token x)) core.zones ≡ claims
    given_claims =
        total_alone (given (claim_token x)) core.zones home physical.zone physical.had (λ n z had ne. claims_elsewhere n z.keeps (legal.each n z had).own ne)
        ∙ ap (claim_token x).gave physical.keeps

    given_is : total (given (block_token opened x)) core.zones ≤ counter + claims + total (is_old x) (remappings (durable core.trace))
    given_is =
        let split = parts core.zones in
        omega (arith, split, counts_alone, olds_alone)
      where
        at_zone : (d : ZoneData) → uses_at x d ≡ counts_of x d + olds_of x d
        at_zone (at.Physical p) = omega arith
        at_zone (at.Journal j) = omega arith
        at_zone other = refl

        parts : (zones : List Zone) → total (given (block_token opened x)) zones ≡ total (λ z. counts_of x z.keeps) zones + total (λ z. olds_of x z.keeps) zones
        parts [] = refl
        parts (z ∷ zones) = omega (arith, at_zone z.keeps, parts zones)

    -- So claims whose entries aren't handed in, and what the entries map over the opened image, are no more than the counter, the
    -- claims and what the committed entries map away.
    pub left_over : total (weight (unowed_token x)) core.zones + (opened x + total (is_entry x) (journaled core.trace)) ≤ counter + claims + total (is_old x) (remappings (durable core.trace))
    left_over =
        let sum = total_both (weight (unowed_token x)) (λ z. entries_of opened x z.keeps) (weight (block_token opened x)) core.zones zone_less in
        omega (arith, sum, entries_some, given_is, legal.blocks x)

    -- no more claims are held than the zone has
    claims_held : total (weight (unowed_token x)) core.zones ≤ claims
    claims_held =
        let less = total_more (weight (unowed_token x)) (weight (claim_token x)) core.zones zone_claims in
        omega (arith, less, given_claims, legal.claims x)

    -- Where some is held, all entries and the opened image map no more to the block than the committed entries map away.
    sole_writer : 1 ≤ total (weight (unowed_token x)) core.zones → opened x + total (is_entry x) (journaled core.trace) ≤ total (is_old x) (remappings (durable core.trace))
    sole_writer some =
        let held = claims_held in
        let first = physical_ok.sound.first_claims x (omega (arith, some, held)) in
        omega (arith, some, left_over, first.0, first.1)

-- The count law, for a block and entries over the opened image: as many mappings are added as go and as are left, and where none is
-- left nobody maps the block.
pub record AreMapped (s : Session) (x : Pbn) (es : List Logged) : Type 0 where
  pub left : ℕ
  pub sum : opened_uses s x + total (is_entry x) es ≡ total (is_old x) (remappings es) + left
  pub unmapped : left ≡ 0 → (a : ℕ) → OnBlock (λ y. x.0 ≢ y.0) (mapping_by s es a)
  pub no_page : left ≡ 0 → (page : PageId) (y : Pbn) → page.level + 1 < s.sizes.geometry.height → s.links page ≡ Some y → x.0 ≢ y.0
  pub no_new_page : left ≡ 0 → (p : NewPage) → Contains es (Makes p) → x.0 ≢ p.at.0

-- entries of which none weighs for a block name it nowhere
named_none : (x : Pbn) (m : Mapping) → leads_to x m ≡ 0 → OnBlock (λ y. x.0 ≢ y.0) m
named_none x (At y) none = elim (eqb_tells y.0 x.0) [
  | inl same ↦ absurd (let one : leads_to x (At y) ≡ 1 = rw same.0 refl in omega (arith, none, one))
  | inr other ↦ λ is. other.1 (sym is)
]
named_none x Unmapped none = tt
named_none x Zero none = tt

entries_apart : (x : Pbn) (es : List Logged) → total (is_entry x) es ≡ 0 → AreElsewhere x.0 es
entries_apart x [] none = tt
entries_apart x (e ∷ es) none = (named_none x (new_of e) (omega (arith, none)), entries_apart x es (omega (arith, none)))

-- So nobody maps a block to which all entries and the opened image map no more than the committed entries map away.
pub none_left_unused : (s : Session) (t : Trace) (x : Pbn) → RightTrace s t → AreMapped s x (durable t) → opened_uses s x + total (is_entry x) (journaled t) ≤ total (is_old x) (remappings (durable t)) → IsUnused s t x
none_left_unused s t x right law most =
    let (newer, parts) = durable_part s t right in
    let all = ap (total (is_entry x)) parts ∙ total-append (is_entry x) newer (durable t) in
    let none : law.left ≡ 0 = omega (arith, most, all, law.sum) in
    record {
      newer = newer;
      parts = parts;
      unmapped = law.unmapped none;
      unnamed = entries_apart x newer (omega (arith, most, all, law.sum));
      no_page = law.no_page none;
      no_new_page = law.no_new_page none;
    }

-- Such is one on which there is a claim whose entry isn't handed in.
pub holder_unused : (s : Session) (core : Core) (legal : Legal s core) (x : Pbn) → 1 ≤ s.sizes.physical → AreMapped s x (durable core.trace)
    → 1 ≤ total (weight (unowed_token x)) core.zones → IsUnused s core.trace x
holder_unused s core legal x some_zone law some = none_left_unused s core.trace x legal.right law (sole_writer s core legal x some_zone some)
