-- A lock is passed on to the first that waits for it, or released, or never released.
use Rattle.std.proofs.Common.{◌≡◌, ◌≢◌, ℕ, ◌+◌, ◌<◌, ◌≤◌, ◌==◌, true, false, Option, None, Some, List, [], ◌∷◌, refl, ap, sym, ◌∙◌, subst, inl, inr, arith}
use Rattle.core_laws.proofs.Common.{AllBelow, AllByRecursion, Asks, DataOk, Gift, HasBelow, HasCause, Holds, IsForBlock, IsInTurn, IsPlaced, IsSession, IsFair, IsToInside, KeptOk, Remapping, LogicalZone, Looks, Mapping, MapsTo, Pbn, Post, Quiet, Request, RightTrace, Session, Trace, Vio, VioOk, WaitsOk, aborted, turned, asked, done, each_both, ended, eqb_tells, every-map, gifts, has_stopped, newest, of_address, request_at, some_is, value_at, zone_count, zone_number, zone_of, has_taken, applied, remappings, IsToData, OnBlock}
use Rattle.core_laws.proofs.trace.PassesOfTrace.{mapped_past}
use Rattle.blk_base.specs.Sectors.{zero_block}
use Rattle.blk_base.specs.declared.place.Mapping.TheVariants.{Unmapped, Zero, At}
use Rattle.blk_base.specs.declared.place.ZoneId.TheVariants as id
use Rattle.blk_base.specs.declared.request.Answer.TheVariants as reply
use Rattle.blk_base.specs.declared.request.Request.TheVariants as request
use Rattle.data_vio.specs.declared.items.Asks.TheVariants.{Read, Write, Discard, Flush}
use Rattle.data_vio.specs.declared.items.Item.TheVariants as item
use Rattle.data_vio.specs.declared.items.Phase.TheVariants as phase
use Rattle.core_model.specs.declared.zones.ZoneData.TheVariants as at
use Rattle.blk_base.specs.Regions.{IsDataBlock}
use Rattle.core_model.specs.PageLinks.{block_in}
use Rattle.core_model.specs.Facts.{CarriesOwn}
use Rattle.core_model.specs.LogicalFacts.{HasSpent}
use Rattle.core_model.specs.RequestFacts.{HasClaim, IsChange}
use Rattle.core_model.specs.RightTraces.{IsLeafy}
use Rattle.core_model.specs.LogicalRules.{are_zeros, is_among, is_held, without, first_for, all_for, none_for, looks_up, passes_on, read_next, goes_on, passed_to, released, granted, retire, all_stopped}
use Rattle.core_laws.proofs.kept.Spared.{asks_none, may_ask, none_spent}
use Rattle.core_laws.proofs.kept.ActKept.{PostOk, bare_of, carries_at, claim_at, carries_own, unentered_slot}
use Rattle.core_laws.proofs.logical.LockLaws.{place_drawn, waits_behind, one_back, one_passed, one_retired}
use Rattle.core_laws.proofs.tokens.Known.{Leased}
use Rattle.core_laws.proofs.lists.CoreLists.{or_none, held_without, every_but_first, every_none_for, every_all_for, first_has}
use Rattle.core_laws.proofs.tokens.Posts.{goes_by}
use Rattle.core_laws.proofs.device.DeviceCalls.{write_whole}
use Rattle.core_laws.proofs.trace.ZeroWrites.{zeros_by}
use Rattle.core_laws.proofs.lists.Zeros.{others_are, zeros_of}
use Rattle.core_laws.proofs.trace.DeskOfTrace.{done_writes}
use Rattle.blk_base.proofs.RegionLaws.{data_block_inside}
use Rattle.image_model.specs.Maps.{value_with}
use Rattle.core_laws.proofs.lists.CountedIn.{counts_within}

-- below a greater place
pub below_more : (t : Trace) (a m n : ℕ) → m ≤ n → AllBelow t a m → AllBelow t a n
below_more t a m n less k = record {
  writes = every-map {P = λ (e : Remapping). e.at.0 ≡ a → e.place < m} {Q = λ (e : Remapping). e.at.0 ≡ a → e.place < n} (λ e f same. (let g = f same in omega (arith, g, less))) (done t) k.writes;
  reads = every-map {P = λ (g : Gift). g.at.0 ≡ a → g.place < m} {Q = λ (g : Gift). g.at.0 ≡ a → g.place < n} (λ g f same. (let h = f same in omega (arith, h, less))) (gifts t) k.reads;
}

-- a request is the one that it is, whatever a read has as its bytes
pub asked_read : (asks : Asks) (v : Vio) (bytes : List ℕ) → asks ≡ Read → asked asks v.at v.bytes ≡ asked asks v.at bytes
asked_read asks v bytes is = rw is refl

-- whoever gets a lock may look up what is mapped there
pub looks_ok : (s : Session) (t : Trace) (zone : ℕ) → zone < s.sizes.zones → (u : Vio) → VioOk s t u → u.home ≡ id.Logical zone → u.page ≡ None → IsInTurn s t u → HasSpent s t u.request None → HasClaim s false false u.claim u.new u.tickets → PostOk s t (looks_up u)
looks_ok s t zone among u ok home bare turn spent claim =
    let here = ap (zone_number s.sizes) home in
    (omega (arith, among, here), (record { asked = ok.asked; is_open = ok.is_open; address = ok.address; home = ok.home }, carries_own s t (turned phase.Look u) phase.Look bare (turn, spent), refl, claim))

-- Whoever knows what its address is mapped to goes where that says.
module _ (s : Session) (t : Trace) (session : IsSession s) (right : RightTrace s t) (u : Vio) (ok : VioOk s t u) (bare : u.page ≡ None) (none_taken : has_taken t u.request None ≡ false) (held : Holds s t u)
    (latest_is : u.latest ≡ newest (of_address u.at.0 (remappings (applied t)))) (leafy : IsChange u.asks → IsLeafy s t u.at.0) (within : zone_number s.sizes u.home < zone_count s.sizes) (claim : HasClaim s false false u.claim u.new u.tickets) where
  -- a read of zeros: what was done there last maps the address to no block, or the opened image does
  zeros : (m : Mapping) → ((x : Pbn) → m ≢ At x) → value_with s.image m ≡ zero_block → u.old ≡ m → IsFair s t → zero_block ≡ value_at s t u.at.0
  zeros m off zero is fair =
      let maps = mapped_past s t u.at.0 right fair.opened (remappings (applied t)) ∙ sym (held.old_is fair) ∙ is in
      sym (zeros_by s t (done t) u.at.0 (newest (of_address u.at.0 (done t))) m off zero refl (done_writes s t right) maps)

  module _ (is_read : u.asks ≡ Read) where
    looks : Looks s t u
    looks = record { held = held; is_read = is_read; latest = latest_is }

    zero_ok : (IsFair s t → zero_block ≡ value_at s t u.at.0) → PostOk s t (u.home, item.Request (record u { phase = phase.Loaded; bytes = zero_block }))
    zero_ok is = (
      within,
      (
        record { asked = ok.asked ∙ ap (λ (r : Request). Some r) (asked_read u.asks u zero_block is_read); is_open = ok.is_open; address = ok.address; home = ok.home },
        carries_own s t (record u { phase = phase.Loaded; bytes = zero_block }) phase.Loaded bare (looks, is),
        refl,
        claim,
      ),
    )

    inside_of : (m : Mapping) → IsToData s m → (x : Pbn) → m ≡ At x → IsToInside s m
    inside_of (At y) held_data x is = data_block_inside s.sizes.geometry y.0 held_data
    inside_of Unmapped held_data x is = absurd cc
    inside_of Zero held_data x is = absurd cc

    read_ok : (m : Mapping) → u.old ≡ m → PostOk s t (read_next u m)
    read_ok (At x) is = (omega arith, (ok, carries_own s t (turned phase.Load u) phase.Load bare (looks, inside_of u.old held.old_data x is), refl, claim))
    read_ok Unmapped is = zero_ok (zeros Unmapped (λ x is_at. cc) refl is)
    read_ok Zero is = zero_ok (zeros Zero (λ x is_at. cc) refl is)

  -- a write of zeros maps its address to zeros, and a discard to nothing
  zero_bytes : (q : Asks) → q ≡ Write → request_at s.script u.request ≡ Some (asked q u.at u.bytes) → are_zeros u.bytes ≡ true → u.bytes ≡ zero_block
  zero_bytes q is asks zero =
      let write : request_at s.script u.request ≡ Some (request.Write u.at u.bytes false) = rw is at asks in
      zeros_of u.bytes (write_whole s u.request u.at u.bytes false session write) zero

  zeros_mapped : (q : Asks) → q ≡ Write → u.bytes ≡ zero_block → MapsTo q u.bytes Zero
  zeros_mapped q is zero = rw is zero

  discard_mapped : (q : Asks) → q ≡ Discard → MapsTo q u.bytes Unmapped
  discard_mapped q is = rw is tt

  -- one that maps its address to no block has no claim
  none_claimed : (m : Mapping) → block_in m ≡ None → OnBlock (λ x. IsDataBlock s.sizes.geometry x.0) m → HasClaim s true false u.claim m u.tickets
  none_claimed m none all = record { claim_is = claim.claim_is ∙ sym none; on_data = λ holds. all; no_ticket = claim.no_ticket }

  pub goes_ok : (post : Post) → goes_on s.sizes u ≡ Some post → PostOk s t post
  goes_ok post goes = goes_by (PostOk s t) s.sizes u post goes (λ reads. read_ok reads u.old refl)
      (λ writes zero. (omega arith, (ok, carries_own s t (record u { phase = phase.Enter; new = Zero }) phase.Enter bare (held, zeros_mapped u.asks writes (zero_bytes u.asks writes ok.asked zero), (λ fair. tt), leafy (rw writes tt)), refl, none_claimed Zero refl tt)))
      (λ writes others. (counts_within s.sizes u session.zones.1, (ok, carries_own s t (turned phase.Claim u) phase.Claim bare (held, writes, record { not_zeros = others_are u.bytes others; none_taken = none_taken }, leafy (rw writes tt), asks_none s t u.request u.place u.tickets session.zones.1 (claim.no_ticket refl)), refl, may_ask claim)))
      (λ discards. (omega arith, (ok, carries_own s t (record u { phase = phase.Enter; new = Unmapped }) phase.Enter bare (held, discard_mapped u.asks discards, (λ fair. tt), leafy (rw discards tt)), refl, none_claimed Unmapped refl tt)))

-- A greater place has a lower one still.
pub has_below_more : (a m n : ℕ) (es : List Remapping) → m ≤ n → HasBelow a m es → HasBelow a n es
has_below_more a m n [] less below = below
has_below_more a m n (e ∷ es) less (inl here) = inl (here.0, (let p = here.1 in omega (arith, p, less)))
has_below_more a m n (e ∷ es) less (inr there) = inr (has_below_more a m n es less there)

-- whoever waits for a lock makes no page
kept_wait : (s : Session) (t : Trace) (v : Vio) → KeptOk s t phase.Wait v → (v.page ≡ None) × CarriesOwn s t v phase.Wait
kept_wait s t v k = bare_of s t v phase.Wait (λ page no. no) (carries_at s t v phase.Wait k.2 k.1)

-- A block request at an address whose lock is never released may be answered as stopped.
stopped_cause : (s : Session) (t : Trace) (v : Vio) (asks : Asks) → RightTrace s t → has_stopped t ≡ true → HasBelow v.at.0 v.place (aborted t) → IsForBlock asks → IsPlaced s t v
    → HasCause s t v.request (asked asks v.at v.bytes) reply.Stopped
stopped_cause s t v Read right stopped behind block place = (stopped, record { place = v.place; placed = place.placed; behind = behind })
stopped_cause s t v Write right stopped behind block place = (stopped, some_is _ _ place.placed, unentered_slot s t v.request right place.not_entered)
stopped_cause s t v Discard right stopped behind block place = (stopped, some_is _ _ place.placed, unentered_slot s t v.request right place.not_entered)
stopped_cause s t v Flush right stopped behind block place = absurd block

pub stopped_ok : (s : Session) (t : Trace) (v : Vio) → RightTrace s t → has_stopped t ≡ true → HasBelow v.at.0 v.place (aborted t) → VioOk s t v → v.page ≡ None → IsPlaced s t v → HasClaim s false false v.claim v.new v.tickets → PostOk s t (id.Desk, item.Request (ended phase.Reply reply.Stopped v))
stopped_ok s t v right stopped behind ok bare place claim = (omega arith, (ok, carries_own s t (ended phase.Reply reply.Stopped v) phase.Reply bare (stopped_cause s t v v.asks right stopped behind place.for_block place), refl, claim))

pub all_stopped_ok : (s : Session) (t : Trace) (vs : List Vio) → RightTrace s t → has_stopped t ≡ true → AllByRecursion (λ v. KeptOk s t phase.Wait v × HasBelow v.at.0 v.place (aborted t)) vs
    → AllByRecursion (PostOk s t) (all_stopped vs)
all_stopped_ok s t [] right stopped all = tt
all_stopped_ok s t (v ∷ vs) right stopped all =
    let waits = kept_wait s t v all.0.0 in
    (stopped_ok s t v right stopped all.0.1 all.0.0.0 waits.0 waits.1.0 (claim_at s v phase.Wait all.0.0.2 all.0.0.3), all_stopped_ok s t vs right stopped all.1)

-- What a zone has once a lock of it is given back, by a holder with the lock's place.
module _ (s : Session) (t : Trace) (n : ℕ) (l : LogicalZone) (session : IsSession s) (right : RightTrace s t) (k : DataOk s t n (at.Logical l)) (v : Vio) (leased : Leased l v) (home : zone_of s.sizes.zones v.at.0 ≡ l.zone) where
  pub drawn_before : v.place < l.next
  drawn_before = place_drawn s l.zone l.next l.held l.waiting k.sound.locks v leased

  behind : AllByRecursion (λ (u : Vio). u.at.0 ≡ v.at.0 → v.place < u.place) l.waiting
  behind = waits_behind s l.zone l.next l.held l.waiting k.sound.locks v leased

  -- another address was free before
  other_free : (b : ℕ) → v.at.0 ≢ b → is_held b (without v.at.0 l.held) ≡ false → is_held b l.held ≡ false
  other_free b apart free = sym (held_without v.at.0 b l.held (λ is. apart (sym is))) ∙ free

  -- Its address is free now, or the first that waits for it has it, and goes on with a place above all that is done or given
  -- there.
  module _ (quiet : Quiet t v.at.0) (below : AllBelow t v.at.0 (v.place + 1)) where
    quiet_without : (b : ℕ) → zone_of s.sizes.zones b ≡ l.zone → is_held b (without v.at.0 l.held) ≡ false → is_among b l.retired ≡ false → Quiet t b
    quiet_without b zone free alive = elim (eqb_tells v.at.0 b) [
      | inl same ↦ subst (λ (c : ℕ). Quiet t c) same.1 quiet
      | inr other ↦ k.answers.0 b zone (other_free b other.1 free) alive
    ]

    passes_ok : (w : Vio) → first_for v.at.0 l.waiting ≡ Some w → PostOk s t (looks_up w)
    passes_ok w is =
        let kept = first_has (KeptOk s t phase.Wait) v.at.0 l.waiting w is k.kept.0 in
        let waits = first_has (WaitsOk l.zone l.next l.held) v.at.0 l.waiting w is k.sound.locks.waits in
        let later = first_has (λ u. u.at.0 ≡ v.at.0 → v.place < u.place) v.at.0 l.waiting w is behind in
        let above = later.0 kept.1 in
        let carries = kept_wait s t w kept.0 in
        looks_ok s t l.zone k.sound.among w kept.0.0 waits.0.at_home carries.0
        (record {
          is_placed = carries.1.0;
          quiet = subst (λ (c : ℕ). Quiet t c) (sym kept.1) quiet;
          below = subst (λ (c : ℕ). AllBelow t c w.place) (sym kept.1) (below_more t v.at.0 (v.place + 1) w.place (omega (arith, above)) below);
        }) (none_spent s t w.request carries.1.1) (claim_at s w phase.Wait kept.0.2 kept.0.3)

    pub release_ok : DataOk s t n (at.Logical (released v.at.0 l)) × AllByRecursion (PostOk s t) (granted v.at.0 l)
    release_ok = by (first_for v.at.0 l.waiting) refl
      where
        by : (o : Option Vio) → first_for v.at.0 l.waiting ≡ o → DataOk s t n (at.Logical (passed_to v.at.0 l o)) × AllByRecursion (PostOk s t) (passes_on o)
        by None is = (
          record {
            number_is = k.number_is;
            lists = k.lists;
            sound = record { among = k.sound.among; map = k.sound.map; locks = one_back s l.zone l.next l.held l.waiting k.sound.locks v.at.0 is; pages = k.sound.pages; reports = k.sound.reports };
            kept = k.kept;
            answers = (quiet_without, k.answers.1);
            told = k.told;
          },
          tt,
        )
        by (Some w) is = (
          record {
            number_is = k.number_is;
            lists = k.lists;
            sound = record { among = k.sound.among; map = k.sound.map; locks = one_passed s l.zone l.next l.held l.waiting k.sound.locks v.at.0 w home is; pages = k.sound.pages; reports = k.sound.reports };
            kept = (every_but_first (KeptOk s t phase.Wait) v.at.0 l.waiting k.kept.0, k.kept.1, k.kept.2);
            answers = ((λ b zone free alive. quiet_without b zone (or_none (w.at.0 == b) (is_held b (without v.at.0 l.held)) free).1 alive), k.answers.1);
            told = k.told;
          },
          (passes_ok w is, tt),
        )

  -- The lock is never released, since its holder was aborted.
  pub retire_ok : has_stopped t ≡ true → ((place : ℕ) → v.place < place → HasBelow v.at.0 place (aborted t)) → DataOk s t n (at.Logical (retire v.at.0 l)) × AllByRecursion (PostOk s t) (all_stopped (all_for v.at.0 l.waiting))
  retire_ok stopped aborts = (
    record {
      number_is = k.number_is;
      lists = k.lists;
      sound = record { among = k.sound.among; map = k.sound.map; locks = one_retired s l.zone l.next l.held l.waiting k.sound.locks v.at.0; pages = k.sound.pages; reports = k.sound.reports };
      kept = (every-map {P = λ (u : Vio). KeptOk s t phase.Wait u × (u.at.0 ≢ v.at.0)} {Q = KeptOk s t phase.Wait} (λ u w. w.0) (none_for v.at.0 l.waiting) (every_none_for (KeptOk s t phase.Wait) v.at.0 l.waiting k.kept.0), k.kept.1, k.kept.2);
      answers = (
        λ b zone free alive.
            let both = or_none (v.at.0 == b) (is_among b l.retired) alive in
            elim (eqb_tells v.at.0 b) [ inl same ↦ absurd (let e = same.0 in let f = both.0 in cc) | inr other ↦ k.answers.0 b zone (other_free b other.1 free) both.1 ],
        k.answers.1,
      );
      told = (
        λ a retired. elim (eqb_tells v.at.0 a) [
          | inl same ↦ (stopped, subst (λ (b : ℕ). HasBelow b l.next (aborted t)) same.1 (aborts l.next drawn_before))
          | inr other ↦ k.told.0 a (rw other.0 at retired)
        ],
        k.told.1,
      );
    },
    all_stopped_ok s t (all_for v.at.0 l.waiting) right stopped
        (every-map {P = λ (u : Vio). (KeptOk s t phase.Wait u × (u.at.0 ≡ v.at.0 → v.place < u.place)) × (u.at.0 ≡ v.at.0)} {Q = λ (u : Vio). KeptOk s t phase.Wait u × HasBelow u.at.0 u.place (aborted t)}
        (λ u w. (w.0.0, subst (λ (a : ℕ). HasBelow a u.place (aborted t)) (sym w.1) (aborts u.place (w.0.1 w.1)))) (all_for v.at.0 l.waiting)
        (every_all_for (λ u. KeptOk s t phase.Wait u × (u.at.0 ≡ v.at.0 → v.place < u.place)) v.at.0 l.waiting (each_both (KeptOk s t phase.Wait) (λ u. u.at.0 ≡ v.at.0 → v.place < u.place) l.waiting k.kept.0 behind))),
  )
