-- What the acts of the physical zone owe.
use Rattle.std.proofs.Common.{◌≡◌, ℕ, ◌<◌, ◌≤◌, ◌%◌, ◌/◌, true, false, Option, None, Some, List, [], ◌∷◌, ◌++◌, Contains, refl, ap, sym, ◌∙◌, subst, inl, inr, arith}
use Rattle.std.specs.Bool.{IsTrue}
use Rattle.std.proofs.Math.Nat.{mod-lt}
use Rattle.core_laws.proofs.Common.{Adds, AllByRecursion, Drops, Happening, IsInTurn, ItemOk, Mapping, OnBlock, Pbn, PhysicalZone, Post, Remapping, Removes, Session, Strays, Trace, Vio, durable, eqb_tells, fair_before, logged, remapping, total, is_block, turned, zone_count, zone_number, zone_of}
use Rattle.blk_base.specs.Regions.{IsDataBlock}
use Rattle.blk_base.specs.declared.place.Mapping.TheVariants.{Unmapped, Zero, At}
use Rattle.blk_base.specs.declared.place.PageId.{PageId}
use Rattle.blk_base.specs.declared.place.ZoneId.TheVariants as id
use Rattle.blk_base.specs.declared.point.Half.TheVariants as half
use Rattle.data_vio.specs.Vios.{home_of, logged_for, unclaiming}
use Rattle.core_laws.proofs.lists.CountedIn.{counted_here, zone_is}
use Rattle.data_vio.specs.declared.items.Item.TheVariants as item
use Rattle.data_vio.specs.declared.items.Phase.TheVariants as phase
use Rattle.data_vio.specs.declared.items.Phase.{Phase}
use Rattle.data_vio.specs.declared.logged.Logged.{Logged}
use Rattle.data_vio.specs.declared.logged.Logged.TheVariants.{Remaps}
use Rattle.core_model.specs.declared.zones.ZoneData.TheVariants as at
use Rattle.core_model.specs.CountUpdates.{CountUpdate, Increment, IsNextUpdate, is_counted_in, replaced_in, updates_in, updates_of, updates_taken}
use Rattle.core_model.specs.CountUpdates as update
use Rattle.core_model.specs.Facts.{CarriesFor}
use Rattle.core_model.specs.PhysicalFacts.{AreFirstClaims, IsDecrement}
use Rattle.core_model.specs.RequestFacts.{HasClaim, claim_of}
use Rattle.core_model.specs.PhysicalRules.{PhysicalServes, PhysicalTakes, spent_for, tells, with_counts}
use Rattle.core_model.specs.RightTraces.{IsOpen, IsReported}
use Rattle.core_model.specs.Tokens.{is_entry, is_old, leads_to}
use Rattle.core_model.specs.Trace.{added, new_of}
use Rattle.core_model.specs.UpdateStream.{counting}
use Rattle.core_laws.proofs.kept.ActKept.{Known, ActKept, PostOk, act_none, act_one, claim_in, plain_clears, own_request, shown_plain, vio_over, vio_ok, in_phase}
use Rattle.core_laws.proofs.kept.Carried.{SaysSame, by_all, logged_request, reply_said}
use Rattle.core_laws.proofs.kept.Spared.{below_kept, quiet_kept, spent_kept, issued_kept}
use Rattle.core_laws.proofs.trace.DeskOfTrace.{shown_of}
use Rattle.core_laws.proofs.journal.JournalFacts.{home_within}
use Rattle.core_laws.proofs.tokens.Moves.{Moves, counted_moves, no_block, passes, removed_moves, removed_passes}
use Rattle.core_laws.proofs.physical.AskFacts.{asks_ok, claims_ok, lacks_ok, spares_ok, takes_ok}
use Rattle.core_laws.proofs.physical.TicketDesks.{changed_keeps, counted_keeps}
use Rattle.core_laws.proofs.physical.ZoneFacts.{after_ok, claimed_more, counted_desk, data_of, drop_follows, dropped_ok, first_after, freed_by, knows_passed, knows_still, number_led, number_of, one_other, one_same, passes_on, removed_serves}
use Rattle.core_model.specs.PageLinks.{block_in}
use Rattle.core_model.specs.Trace.{claimed as claimed_in, passed_on}
use Rattle.core_model.specs.Uses.{given_at, ticket_at}
use Rattle.slab_counts.specs.declared.tickets.Ticket.{Ticket}
use Rattle.zone_counts.proofs.TicketLaws.{removed_is_zone, removed_none_waits}
use Rattle.zone_counts.specs.ByBlock.{served_ticket}
use Rattle.slab_counts.specs.Operations.{one_of}
use Rattle.slab_counts.specs.Counts.{Counts, Takes as Fits, IsStray, unclaimed}
use Rattle.zone_counts.specs.Operations.{Applies, SpendsPage}
use Rattle.zone_counts.specs.Zone.{Zone, Changes, IsClaimedIn, IsOfZone, IsZone, slab_of}
use Rattle.zone_counts.proofs.BlockLaws.{home_is}
use Rattle.zone_counts.proofs.OperationLaws.{calls_keep}

-- the zone of an address is one of the logical zones
pub zone_below : (zones a : ℕ) → 1 ≤ zones → zone_of zones a < zones
zone_below zones a some = mod-lt (a / 812 % 60) (omega (arith, some))

-- A write whose claim goes holds its lock as before.
pub dropped_turn : (s : Session) (t : Trace) (v : Vio) (x : Pbn) (to : Option ℕ) → IsInTurn s t v → IsInTurn s (Drops v.request x to ∷ t) v
dropped_turn s t v x to k = record {
  is_placed = record { for_block = k.is_placed.for_block; placed = k.is_placed.placed; not_entered = k.is_placed.not_entered };
  quiet = quiet_kept (Drops v.request x to) t v.at.0 tt k.quiet;
  below = below_kept (Drops v.request x to) t v.at.0 v.place tt k.below;
}

-- a zone stays one over each call
zone_counted : (page : Option PageId) (old z : Zone) (x : Pbn) (slab : Counts) → IsZone old → IsClaimedIn old x → Fits half.Increment (slab_of (spent_for page old x) x) slab x → Changes (spent_for page old x) z x slab → IsZone z
zone_counted None old z x slab is claim fits change = calls_keep old z (Applies half.Increment x slab ∷ []) is (old, refl, (claim.own, fits, change))
zone_counted (Some page) old z x slab is claim fits change =
    let between = spent_for (Some page) old x in
    let own : IsOfZone between x = record { data_block = claim.own.data_block; own = claim.own.own } in
    calls_keep between z (Applies half.Increment x slab ∷ []) (calls_keep old between (SpendsPage x ∷ []) is (old, refl, (claim, refl))) (between, refl, (own, fits, change))

-- a request that has no claim
pub no_claim : (s : Session) (o : Option Pbn) (m : Mapping) (tickets : List Ticket) → o ≡ None → tickets ≡ [] → HasClaim s false false o m tickets
no_claim s o m tickets none bare = record { claim_is = none; on_data = λ claims. absurd (never claims); no_ticket = λ asks. bare }
  where
    never : IsTrue false → ⊥
    never claims = absurd (cc claims)

-- What the physical zone does with a request.
module _ {s : Session} {t : Trace} {n : ℕ} {old : PhysicalZone} {v : Vio} (known : Known s t n (at.Physical old) (item.Request v ∷ [])) where
  abbrev After : PhysicalZone → Trace → List Post → Type 0
  After new made posts = ActKept s t n (at.Physical old) (item.Request v ∷ []) (at.Physical new) made posts

  home : zone_number s.sizes v.home < zone_count s.sizes
  home = home_within s t v known.session (vio_ok known)

  -- The increment of its entry is taken.
  module _ (is : v.phase ≡ phase.Count) (x : Pbn) (slab : Counts) (z : Zone) (claim : v.claim ≡ Some x) (claimed : IsClaimedIn old.counts x)
      (fits : Fits half.Increment (slab_of (spent_for v.page old.counts x) x) slab x) (change : Changes (spent_for v.page old.counts x) z x slab) where
    new_is : v.new ≡ At x
    new_is = by v.new (sym (claim_in known phase.Count is).claim_is ∙ claim)
      where
        by : (m : Mapping) → claim_of true m ≡ Some x → m ≡ At x
        by (At y) same = cc
        by Unmapped same = absurd cc
        by Zero same = absurd cc

    leads : new_of (logged v) ≡ At x
    leads = by v.page v.new new_is
      where
        by : (o : Option PageId) (m : Mapping) → m ≡ At x → new_of (logged_for v o m) ≡ At x
        by None m same = new_is
        by (Some page) (At y) same = same
        by (Some page) Unmapped same = absurd cc
        by (Some page) Zero same = absurd cc

    abbrev adds : Happening
    adds = Adds (logged v)

    next : IsNextUpdate s.sizes (durable t) t (Increment (logged v))
    next =
        let (rest, is_next) = known.next_updates old refl in
        let own : is_counted_in s.sizes old.counts.zone (new_of (logged v)) ≡ true = ap (is_counted_in s.sizes old.counts.zone) leads ∙ counted_here s.sizes old.counts.zone x (zone_is s old known.own.sound x claimed.own) in
        let one : updates_in s.sizes old.counts.zone (counting phase.Count (logged v) ++ []) ≡ Increment (logged v) ∷ [] = rw own refl in
        record {
          zone = old.counts.zone;
          own = own;
          rest = rest;
          next = subst (λ (q : Phase). updates_in s.sizes old.counts.zone (updates_of (durable t)) ≡ updates_in s.sizes old.counts.zone (updates_taken t) ++ (updates_in s.sizes old.counts.zone (counting q (logged v) ++ []) ++ rest)) is is_next
              ∙ ap (λ (us : List CountUpdate). updates_in s.sizes old.counts.zone (updates_taken t) ++ (us ++ rest)) one;
        }

    settles_for : (o : Option PageId) → v.page ≡ o → CarriesFor s (adds ∷ t) v phase.Count o → CarriesFor s (adds ∷ t) (unclaiming phase.Settle v) phase.Settle o
    settles_for None bare k =
        let has : Contains (added (adds ∷ t)) (Remaps (remapping v)) = (0, omega arith, ap (λ (o : Option PageId). logged_for v o v.new) bare) in
        (k.0, k.1, k.2, subst (OnBlock (λ y. IsDataBlock s.sizes.geometry y.0 × Contains (added (adds ∷ t)) (Remaps (remapping v)))) (sym new_is) (data_of known.own x claimed.own, has), k.4)
    settles_for (Some page) some k = (k.0, k.1, k.2, k.3, (0, omega arith, refl))

    counts_ok : After (with_counts z old) (adds ∷ []) ((v.home, item.Request (unclaiming phase.Settle v)) ∷ [])
    counts_ok =
        let own = known.own in
        let moves = counted_moves v.page old.counts z x slab own.sound.is_zone claimed fits change in
        let kept = counted_keeps v.page old.counts z x slab change in
        let carries = by_all s adds t v phase.Count v.page tt (λ locks. tt) (λ page some. tt) (λ enters. absurd cc) (in_phase known phase.Count is) in
        act_one known adds (plain_clears known adds t tt (number_led own x (new_of (logged v)) claimed.own leads) tt tt tt) (λ g fair. g (fair_before s adds t fair))
        (record { is_open = subst (IsOpen t) (sym (logged_request v)) (vio_ok known).is_open; next = next }, shown_plain s t adds tt (shown_of s t known.right), known.right)
        (after_ok own (adds ∷ t) z no_block no_block (one_of x) (zone_counted v.page old.counts z x slab own.sound.is_zone claimed fits change) kept moves (first moves)
        (λ y. omega arith) (λ y. let one : is_entry y (logged v) ≡ one_of x y = ap (leads_to y) leads in omega (arith, one)) refl (knows_still own adds z kept (counted_desk v.page old.counts z x slab own.sound.is_zone claimed fits change) (λ number. refl) refl))
        ((home, (vio_over s adds t v refl (vio_ok known), settles_for v.page refl carries, refl, no_claim s None v.new v.tickets refl ((claim_in known phase.Count is).no_ticket refl))), tt)
      where
        first : Moves old.counts z no_block no_block (one_of x) → AreFirstClaims z
        first moves y some = elim (eqb_tells x.0 y.0) [
          | inl same ↦
              let one = one_same x y same.1 in
              let before = known.own.sound.first_claims y (omega (arith, moves.claims y, one)) in
              absurd (omega (arith, some, moves.claims y, one, before.1))
          | inr other ↦
              let no = one_other x y other.1 in
              let before = known.own.sound.first_claims y (omega (arith, some, moves.claims y, no)) in
              (omega (arith, moves.uses y, moves.claims y, no, before.0, before.1), omega (arith, moves.claims y, no, before.1))
        ]

  -- Its claim is dropped.
  module _ (is : v.phase ≡ phase.AbortClaim) (x : Pbn) (z : Zone) (claim : v.claim ≡ Some x) (claimed : IsClaimedIn old.counts x) (change : Changes old.counts z x (unclaimed (slab_of old.counts x) x)) where
    abbrev drops : Happening
    drops = Drops v.request x (served_ticket change.serves)

    said : SaysSame drops t v.request
    said = record { of_place = refl; of_entry = refl; of_slot = refl; of_gift = refl; of_take = refl; of_ask = refl }

    dropped_for : (o : Option PageId) → CarriesFor s t v phase.AbortClaim o → CarriesFor s (drops ∷ t) (unclaiming phase.Abort v) phase.Abort o
    dropped_for None k = (dropped_turn s t v x _ k.0, reply_said s drops t v v.answer said k.1)
    dropped_for (Some page) k = (
      record { turn = dropped_turn s t v x _ k.0.turn; is_write = k.0.is_write; spent = spent_kept s drops t v.request (Some page) (λ p. refl) k.0.spent; lacked = k.0.lacked; up = k.0.up },
      k.1,
      reply_said s drops t v v.answer said k.2,
    )

    drops_ok : After (with_counts z old) (drops ∷ []) ((v.home, item.Request (unclaiming phase.Abort v)) ∷ [])
    drops_ok =
        let own = known.own in
        act_one known drops (plain_clears known drops t tt (number_of own x claimed.own) (own_request known) tt tt) (λ g fair. g (fair_before s drops t fair))
        (((vio_ok known).is_open, drop_follows own v.request x z claimed change), shown_plain s t drops tt (shown_of s t known.right), known.right) (dropped_ok own v.request x z claimed change)
        ((home, (vio_over s drops t v refl (vio_ok known), dropped_for v.page (in_phase known phase.AbortClaim is), refl, no_claim s None v.new v.tickets refl ((claim_in known phase.AbortClaim is).no_ticket refl))), tt)

  -- what it carries of an abort it carries on
  aborts_for : (o : Option PageId) → CarriesFor s t v phase.AbortClaim o → CarriesFor s t (turned phase.Abort v) phase.Abort o
  aborts_for None k = k
  aborts_for (Some page) k = k

  spends_for : (o : Option PageId) → CarriesFor s t v phase.AbortEnteredClaim o → CarriesFor s t (unclaiming phase.AbortEntered v) phase.AbortEntered o
  spends_for None k = k
  spends_for (Some page) k = k

  pub physical_serves : (new : PhysicalZone) (made : Trace) (posts : List Post) → PhysicalServes s.sizes old v new made posts → After new made posts
  physical_serves new made posts (PhysicalServes.claims x z is gives i m q) = rw (i, m, q) (claims_ok known is x z gives)
  physical_serves new made posts (PhysicalServes.asks k b z is fewer begins gives i m q) = rw (i, m, q) (asks_ok known is k b z begins gives)
  physical_serves new made posts (PhysicalServes.takes_block k others x b z is has none begins from i m q) = rw (i, m, q) (takes_ok known is k others has b begins x z none from)
  physical_serves new made posts (PhysicalServes.drops_block k others x y b between z is has some begins from claim change i m q) = rw (i, m, q) (spares_ok known is k others has b begins x y between z some from claim change)
  physical_serves new made posts (PhysicalServes.has_none k others r b z is has begins from i m q) = rw (i, m, q) (lacks_ok known is k others has b begins r z from)
  physical_serves new made posts (PhysicalServes.counts x slab z is claim claimed fits change i m q) = rw (i, m, q) (counts_ok is x slab z claim claimed fits change)
  physical_serves new made posts (PhysicalServes.drops x z is claim claimed change i m q) = rw (i, m, q) (drops_ok is x z claim claimed change)
  physical_serves new made posts (PhysicalServes.drops_none is none i m q) =
      rw (i, m, q) (act_none known known.own ((home, (vio_ok known, aborts_for v.page (in_phase known phase.AbortClaim is), refl, no_claim s v.claim v.new v.tickets none ((claim_in known phase.AbortClaim is).no_ticket refl))), tt))
  physical_serves new made posts (PhysicalServes.spends is i m q) =
      rw (i, m, q) (act_none known known.own ((home, (vio_ok known, spends_for v.page (in_phase known phase.AbortEnteredClaim is), refl, no_claim s None v.new v.tickets refl ((claim_in known phase.AbortEnteredClaim is).no_ticket refl))), tt))

-- What it does with a decrement.
module _ {s : Session} {t : Trace} {n : ℕ} {old : PhysicalZone} {e : Remapping} (known : Known s t n (at.Physical old) (item.Decrement e ∷ [])) where
  abbrev AfterUpdate : PhysicalZone → Trace → List Post → Type 0
  AfterUpdate new made posts = ActKept s t n (at.Physical old) (item.Decrement e ∷ []) (at.Physical new) made posts

  its_zone : zone_number s.sizes (home_of s.sizes e) < zone_count s.sizes
  its_zone = let below = zone_below s.sizes.zones e.at.0 known.session.zones.0 in omega (arith, below)

  decrement : IsDecrement s t e
  decrement = known.front_ok.0.0

  -- it is of the zone, and the next
  turn : (x : Pbn) → e.old ≡ At x → IsOfZone old.counts x → IsNextUpdate s.sizes (durable t) t (update.Decrement e)
  turn x from mine =
      let (rest, is_next) = known.next_updates old refl in
      let own : is_counted_in s.sizes old.counts.zone e.old ≡ true = ap (is_counted_in s.sizes old.counts.zone) from ∙ counted_here s.sizes old.counts.zone x (zone_is s old known.own.sound x mine) in
      let one : updates_in s.sizes old.counts.zone (update.Decrement e ∷ []) ≡ update.Decrement e ∷ [] = rw own refl in
      record {
        zone = old.counts.zone;
        own = own;
        rest = rest;
        next = is_next ∙ ap (λ (us : List CountUpdate). updates_in s.sizes old.counts.zone (updates_taken t) ++ (us ++ rest)) one;
      }

  reports : (h : Happening) → durable (h ∷ t) ≡ durable t → IsReported (h ∷ t) e → ItemOk s (h ∷ t) (zone_number s.sizes (home_of s.sizes e)) (item.Report e)
  reports h same reported = (
    record {
      decrement = record { committed = subst (λ (es : List Logged). Contains es (Remaps e)) (sym same) decrement.committed; block = decrement.block; old_is = decrement.old_is; is_data = decrement.is_data };
      reported = reported;
    },
    refl,
  )

  -- It is taken.
  module _ (x : Pbn) (slab : Counts) (z : Zone) (from : e.old ≡ At x) (mine : IsOfZone old.counts x) (fits : Fits half.Decrement (slab_of old.counts x) slab x) (change : Changes old.counts z x slab) where
    abbrev removes : Happening
    removes = Removes e (served_ticket change.serves)

    removes_ok : AfterUpdate (with_counts z old) (removes ∷ []) ((home_of s.sizes e, item.Report e) ∷ [])
    removes_ok =
        let own = known.own in
        let is_zone = own.sound.is_zone in
        let moves = removed_moves old.counts z x slab is_zone mine fits change in
        let passed = removed_passes old.counts z x slab is_zone mine fits change in
        let kept = changed_keeps old.counts z x slab change in
        let served = removed_serves old.counts z x slab is_zone mine fits change in
        let some = fits.0 in
        let here = home_is old.counts x is_zone mine in
        let uses = own.lists.uses x mine in
        let block : block_in e.old ≡ Some x = ap block_in from in
        let knows = knows_passed own removes x slab z mine change kept (λ y. let more = passed.out y in omega (arith, more)) served (λ number. ap (λ (o : Option Pbn). given_at s.sizes o (served_ticket change.serves) old.counts.zone number (ticket_at s.sizes t old.counts.zone number)) block) refl in
        let passing = passes_on s t old.counts.zone old.counts z x slab change own.sound.numbered served (zone_is s old own.sound x mine) own.lists.tickets_are uses
        (removed_none_waits old.counts z x slab is_zone mine fits change) (freed_by old.counts z x slab no_block change moves) in
        act_one known removes (plain_clears known removes t tt (number_led own x e.old mine from) tt tt tt) (λ g fair. g (fair_before s removes t fair))
        (record { next = turn x from mine; block = x; old_is = from; loss = record { is_data = data_of own x mine; some = omega (arith, some, here.0, uses); passes = passing } }, shown_plain s t removes tt (shown_of s t known.right), known.right)
        (after_ok own (removes ∷ t) z (passes change.serves) (one_of x) no_block (removed_is_zone old.counts z x slab is_zone mine fits change) kept moves
        (first_after s t old.counts.zone old.counts z x slab change own.sound.numbered served no_block own.sound.first_claims moves)
        (λ y.
        let one : is_old y e ≡ one_of x y = ap (leads_to y) from in
        let more = claimed_more s t old.counts.zone old.counts z x slab change own.sound.numbered served y (claimed_in t) in
        let its : total (is_block y) (passed_on (block_in e.old) (served_ticket change.serves) ++ claimed_in t) ≡ total (is_block y) (passed_on (Some x) (served_ticket change.serves) ++ claimed_in t)
        = ap (λ (o : Option Pbn). total (is_block y) (passed_on o (served_ticket change.serves) ++ claimed_in t)) block in
        omega (arith, one, more, its)) (λ y. let one : is_old y e ≡ one_of x y = ap (leads_to y) from in omega (arith, one)) refl knows)
        ((its_zone, reports removes refl (inl (0, omega arith, refl))), tt)

  -- It finds 0.
  module _ (x : Pbn) (from : e.old ≡ At x) (mine : IsOfZone old.counts x) (stray : IsStray half.Decrement (slab_of old.counts x) x) where
    abbrev strays : Happening
    strays = Strays e

    told : (es : List Remapping) → AllByRecursion (PostOk s (strays ∷ t)) (tells es x)
    told [] = ((omega arith, (record { entry = e; strays = (0, omega arith, refl); block = x; old_is = from; damage_is = refl }, refl)), tt)
    told (f ∷ es) = tt

    strays_ok : AfterUpdate (record old { strays = e ∷ old.strays }) (strays ∷ []) ((home_of s.sizes e, item.Report e) ∷ tells old.strays x)
    strays_ok =
        let own = known.own in
        let here = home_is old.counts x own.sound.is_zone mine in
        let counters = own.lists.counters x mine in
        act_one known strays (plain_clears known strays t tt (number_led own x e.old mine from) tt tt tt) (λ g fair. g (fair_before s strays t fair))
        (record { next = turn x from mine; block = x; old_is = from; none_counted = omega (arith, stray, here.0, counters) }, shown_plain s t strays tt (shown_of s t known.right), known.right)
        (record {
          number_is = own.number_is;
          lists = record { counters = own.lists.counters; uses = own.lists.uses; tickets_are = own.lists.tickets_are; issued_is = own.lists.issued_is; out_are = issued_kept strays t old.counts.zone old.counts.desk.out own.lists.out_are; strays_are = ap (λ (es : List Remapping). e ∷ es) own.lists.strays_are ∙ sym (let mine_is : is_counted_in s.sizes old.counts.zone e.old ≡ true = ap (is_counted_in s.sizes old.counts.zone) from ∙ counted_here s.sizes old.counts.zone x (zone_is s old own.sound x mine) in rw mine_is refl) };
          sound = record { is_zone = own.sound.is_zone; geometry = own.sound.geometry; zones = own.sound.zones; numbered = own.sound.numbered; few = own.sound.few; room = own.sound.room; passed = own.sound.passed; first_claims = own.sound.first_claims };
          kept = tt;
          answers = tt;
          told = tt;
        })
        ((its_zone, reports strays refl (inr (0, omega arith, refl))), told old.strays)

  pub physical_updates : (new : PhysicalZone) (made : Trace) (posts : List Post) → PhysicalTakes s.sizes old e new made posts → AfterUpdate new made posts
  physical_updates new made posts (PhysicalTakes.removes x slab z from mine fits change i m q) = rw (i, m, q) (removes_ok x slab z from mine fits change)
  physical_updates new made posts (PhysicalTakes.is_stray x from mine stray i m q) = rw (i, m, q) (strays_ok x from mine stray)

-- What it does with a stop notice.
pub physical_notified : {s : Session} {t : Trace} {n : ℕ} {old : PhysicalZone} → Known s t n (at.Physical old) (item.StopNotice ∷ [])
    → ActKept s t n (at.Physical old) (item.StopNotice ∷ []) (at.Physical (record old { notified = true })) [] ((id.Desk, item.StopNotice) ∷ [])
physical_notified known =
    let own = known.own in
    act_none known (record {
      number_is = own.number_is;
      lists = record { counters = own.lists.counters; uses = own.lists.uses; strays_are = own.lists.strays_are; tickets_are = own.lists.tickets_are; issued_is = own.lists.issued_is; out_are = own.lists.out_are };
      sound = record { is_zone = own.sound.is_zone; geometry = own.sound.geometry; zones = own.sound.zones; numbered = own.sound.numbered; few = own.sound.few; room = own.sound.room; passed = own.sound.passed; first_claims = own.sound.first_claims };
      kept = tt;
      answers = tt;
      told = tt;
    }) ((omega arith, (known.front_ok.0.0, omega arith)), tt)
