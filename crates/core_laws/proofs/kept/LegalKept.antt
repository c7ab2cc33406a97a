-- Each step and each move keeps a core legal, and so does each list of events.
use Rattle.std.proofs.Common.{◌≡◌, ℕ, zero, suc, ◌+◌, ◌<◌, ◌≤◌, Bool, true, false, not, is_some, Option, None, Some, List, [], ◌∷◌, ◌++◌, length, nat_eq, slice_get, slice_set, refl, ap, sym, ◌∙◌, subst, inl, inr, arith}
use Rattle.core_laws.proofs.Common.{AllByRecursion, Balanced, Carries, DataOk, KeptOk, Mapping, Remapping, bit, remapping, remappings, Each, Each-put_other, GivesRight, IsFair, IsSession, Item, ItemOk, Post, RightTrace, Session, Token, Trace, Vio, Writer, Zone, ZoneData, ZoneOk, entry_token, eq-eqb, eqb-true, every-append, every-map, holder_token, idle_at, is_sealed, journal_token, lease_token, length-put, made_by, notice_token, request_token, room_token, same_Some, total, zone_number, Phase}
use Rattle.core_model.specs.Facts.{CarriesFor}
use Rattle.core_model.specs.LogicalFacts.{AwaitsReport, IsReport, ReportOk}
use Rattle.core_model.specs.RequestFacts.{zone_at, IsToBlock, claim_of}
use Rattle.core_model.specs.Tokens.{ticket_token}
use Rattle.data_vio.specs.Vios.{ticket_zone}
use Rattle.slab_counts.specs.declared.tickets.Ticket.{Ticket}
use Rattle.core_model.specs.Sessions.{opened_uses}
use Rattle.core_model.specs.Tokens.{block_token, claim_token, damage_token, report_token, waiter_token}
use Rattle.core_model.specs.Arrivals.{arrivals_at}
use Rattle.core_model.specs.CountUpdates.{CountUpdate}
use Rattle.core_model.specs.PageLinks.{block_in}
use Rattle.core_model.specs.UpdateStream.{updates_at}
use Rattle.core_model.specs.declared.zones.ZoneData.TheVariants as at
use Rattle.blk_base.specs.declared.place.Mapping.TheVariants.{Unmapped, Zero, At}
use Rattle.blk_base.specs.declared.place.PageId.{PageId}
use Rattle.data_vio.specs.Vios.{logged_for}
use Rattle.core_laws.proofs.kept.UpdateCourse as updates
use Rattle.core_laws.proofs.kept.UpdateCourse.{updates_kept}
use Rattle.core_model.specs.Legal.{Legal}
use Rattle.core_model.specs.Steps.{Act, Core, StepOf, sent_to, sent, delivered, posted}
use Rattle.core_laws.proofs.kept.ActKept.{Known, ActKept, PostOk, bare_of, carries_at, claim_at}
use Rattle.core_laws.proofs.kept.Frame.{Sides}
use Rattle.core_laws.proofs.kept.Keys.{OfJournal, idle_none}
use Rattle.core_laws.proofs.kept.StepActs.{by_act, known, sides}
use Rattle.core_laws.proofs.kept.Arrivals.{arrivals_kept, course}
use Rattle.core_laws.proofs.kept.Streams.{flows_step}
use Rattle.core_laws.proofs.kept.Counted.{made_once}
use Rattle.core_laws.proofs.tokens.ActSums.{IsRule, act_rule}
use Rattle.core_model.specs.Tokens.{making_token, page_entry_token}
use Rattle.data_vio.specs.declared.items.Item.TheVariants as item
use Rattle.core_laws.proofs.tokens.Known.{KeptIn, counts, kept_in, phases}
use Rattle.core_laws.proofs.tokens.PageOwners.{made_front}
use Rattle.data_vio.specs.declared.items.Phase.TheVariants as phase
use Rattle.core_laws.proofs.tokens.Known as tokens
use Rattle.core_laws.proofs.tokens.Lift.{Within, Conserves, balance_step, at_most_step}
use Rattle.core_laws.proofs.tokens.TokenLaws.{requests_law, room_law, notices_law, journal_law, blocks_law, leases_law, holders_law, entries_law, making_law, page_entries_law, claims_law, reports_law, tickets_law, waiters_law, damage_law}
use Rattle.core_laws.proofs.lists.CoreLists.{length-posted}

-- What a zone has stays while posts are delivered that carry what they must.
each-posted : (P : ℕ → Item → Type 0) (to : ℕ) (x : Item) (lanes : List (List Item)) → Each (λ n. AllByRecursion (P n)) lanes → P to x → Each (λ n. AllByRecursion (P n)) (posted to x lanes)
each-posted P to x [] each k n l e = absurd cc
each-posted P zero x (y ∷ ys) each k zero l e = rw (← same_Some _ _ e) (every-append (P 0) y (x ∷ []) (each 0 y refl) (k, tt))
each-posted P zero x (y ∷ ys) each k (suc n) l e = each (suc n) l e
each-posted P (suc to) x (y ∷ ys) each k zero l e = each 0 l e
each-posted P (suc to) x (y ∷ ys) each k (suc n) l e = each-posted (λ m. P (suc m)) to x ys (λ m. each (suc m)) k n l e

-- the other lanes stay
get-posted : (to n : ℕ) (x : Item) (lanes : List (List Item)) → (to ≡ n → ⊥) → slice_get (posted to x lanes) n ≡ slice_get lanes n
get-posted to n x [] ne = refl
get-posted zero zero x (y ∷ ys) ne = absurd (ne refl)
get-posted zero (suc n) x (y ∷ ys) ne = refl
get-posted (suc to) zero x (y ∷ ys) ne = refl
get-posted (suc to) (suc n) x (y ∷ ys) ne = get-posted to n x ys (λ same. ne (ap suc same))

sent_ok : (s : Session) (t : Trace) (n : ℕ) (b : Bool) (to : ℕ) (it : Item) (z : Zone) → nat_eq to z.number ≡ b → ItemOk s t to it → ZoneOk s t n z → ZoneOk s t n (sent_to b to it z)
sent_ok s t n true to it z e k ok =
    let home : to ≡ n = eqb-true to z.number e ∙ ok.number_is in
    record {
      number_is = ok.number_is;
      lanes = ok.lanes;
      inbox = every-append (ItemOk s t n) z.ports.inbox (it ∷ []) ok.inbox (subst (λ (m : ℕ). ItemOk s t m it) home k, tt);
      outboxes = ok.outboxes;
      to_itself = ok.to_itself;
      own = ok.own;
      counted = ok.counted;
    }
sent_ok s t n false to it z e k ok = record {
  number_is = ok.number_is;
  lanes = length-posted to it z.ports.outboxes ∙ ok.lanes;
  inbox = ok.inbox;
  outboxes = each-posted (ItemOk s t) to it z.ports.outboxes ok.outboxes k;
  to_itself = λ lane had. ok.to_itself lane (sym (get-posted to n it z.ports.outboxes (λ same. elsewhere same)) ∙ had);
  own = ok.own;
  counted = ok.counted;
}
  where
    elsewhere : to ≡ n → ⊥
    elsewhere same = let here : nat_eq to z.number ≡ true = eq-eqb to z.number (same ∙ sym ok.number_is) in cc

delivered_ok : (s : Session) (t : Trace) (n : ℕ) (ps : List Post) (z : Zone) → AllByRecursion (PostOk s t) ps → ZoneOk s t n z → ZoneOk s t n (delivered s.sizes ps z)
delivered_ok s t n [] z k ok = ok
delivered_ok s t n (p ∷ ps) z k ok =
    let to = zone_number s.sizes p.0 in
    delivered_ok s t n ps (sent s.sizes p z) k.1 (sent_ok s t n (nat_eq to z.number) to p.1 z refl k.0.1 ok)

-- each post of an act has a lane
pub goes : (s : Session) → IsSession s → (old : Core) (legal : Legal s old) (n : ℕ) (z : Zone) → slice_get old.zones n ≡ Some z → (front rest : List Item) (new : ZoneData) (made : Trace) (posts : List Post)
    → z.ports.inbox ≡ front ++ rest → Act s.sizes z.keeps front new made posts → Within s.sizes (length z.ports.outboxes) posts
goes s session old legal n z had front rest new made posts taken act =
    every-map {P = PostOk s (made ++ old.trace)} {Q = λ (p : Post). zone_number s.sizes p.0 < length z.ports.outboxes} (λ p k. subst (λ (m : ℕ). zone_number s.sizes p.0 < m) (sym (legal.each n z had).lanes) k.0)
    posts (by_act act (known s session old legal n z had front rest taken)).posts_ok

-- a mapping to a block leads to one
to_block : (m : Mapping) → IsToBlock m → is_some (block_in m) ≡ true
to_block (At x) is = refl
to_block Unmapped is = absurd is
to_block Zero is = absurd is

replaces_by : {s : Session} {t : Trace} {e : Remapping} → IsReport s t e → tokens.Replaces e
replaces_by report = ap (λ (m : Mapping). is_some (block_in m)) report.decrement.old_is

-- the requests of a block have their claims, and entries of their kind
each_ready : (s : Session) (t : Trace) (vs : List Vio) → AllByRecursion (KeptOk s t phase.Pending) vs → AllByRecursion tokens.IsReady vs
each_ready s t [] all = tt
each_ready s t (v ∷ vs) all = (
  (
    (claim_at s v phase.Pending all.0.2 all.0.3).claim_is ∙ claims v.new,
    counted_by v v.page v.new (λ page made. fresh v.page page made (carries_at s t v phase.Pending all.0.2 all.0.1)),
  ),
  each_ready s t vs all.1,
)
  where
    claims : (m : Mapping) → claim_of true m ≡ block_in m
    claims m = refl

    fresh : (o : Option PageId) (page : PageId) → o ≡ Some page → CarriesFor s t v phase.Pending o → IsToBlock v.new
    fresh None page made has = absurd cc
    fresh (Some p) page made has = has.1

    counted_by : (u : Vio) (o : Option PageId) (m : Mapping) → ((page : PageId) → o ≡ Some page → IsToBlock m) → length (remappings (logged_for u o m ∷ [])) ≡ bit (not (is_some o))
    counted_by u None m fresh = refl
    counted_by u (Some page) (At x) fresh = refl
    counted_by u (Some page) Unmapped fresh = absurd (fresh page refl)
    counted_by u (Some page) Zero fresh = absurd (fresh page refl)

module _ (s : Session) (session : IsSession s) (old new : Core) (legal : Legal s old) (st : StepOf s.sizes old new) where
  abbrev t' : Trace
  t' = st.made ++ old.trace

  here : Known s old.trace st.number st.zone.keeps st.step.front
  here = known s session old legal st.number st.zone st.had st.step.front st.step.rest st.step.taken

  stepped : ActKept s old.trace st.number st.zone.keeps st.step.front st.zone'.keeps st.made st.step.posts
  stepped = by_act st.step.act here

  beside : Sides s t' old.zones st.number (record st.zone { ports = record st.zone.ports { inbox = st.step.rest } })
  beside = sides s session old legal st.number st.zone st.had st.step.front st.step.rest st.step.taken st.made stepped.owns

  lanes_there : Within s.sizes (length st.zone.ports.outboxes) st.step.posts
  lanes_there = goes s session old legal st.number st.zone st.had st.step.front st.step.rest st.zone'.keeps st.made st.step.posts st.step.taken st.step.act

  zone_ok : ZoneOk s old.trace st.number st.zone
  zone_ok = legal.each st.number st.zone st.had

  counted : made_by st.zone'.keeps ≤ st.zone.steps + 1
  counted = let once = made_once s.sizes st.step.act in let before = zone_ok.counted in omega (arith, once, before)

  zone_ok' : ZoneOk s t' st.number st.zone'
  zone_ok' =
      let served : Zone = record st.zone { keeps = st.zone'.keeps; ports = record st.zone.ports { inbox = st.step.rest }; steps = st.zone.steps + 1 } in
      let first : ZoneOk s t' st.number served = record { number_is = zone_ok.number_is; lanes = zone_ok.lanes; inbox = beside.inbox; outboxes = beside.outboxes; to_itself = zone_ok.to_itself; own = stepped.own; counted = counted } in
      subst (λ (z : Zone). ZoneOk s t' st.number z) (sym st.step.lanes) (delivered_ok s t' st.number st.step.posts served stepped.posts_ok first)

  zones_is : new.zones ≡ slice_set old.zones st.number st.zone'
  zones_is = ap (λ (core : Core). core.zones) st.has

  trace_is : new.trace ≡ t'
  trace_is = ap (λ (core : Core). core.trace) st.has

  each_ok : Each (ZoneOk s t') (slice_set old.zones st.number st.zone')
  each_ok = each_other old.zones st.number st.zone st.zone' st.had beside.others zone_ok'
    where
      each_other : (zones : List Zone) (i : ℕ) (z z' : Zone) → slice_get zones i ≡ Some z → Each (λ j y. (j ≡ i → ⊥) → ZoneOk s t' j y) zones → ZoneOk s t' i z' → Each (ZoneOk s t') (slice_set zones i z')
      each_other zones i z z' had others ok' = Each-put_other {P = λ j y. (j ≡ i → ⊥) → ZoneOk s t' j y} {Q = ZoneOk s t'} zones i z z' had others (λ j y ne f. f ne) ok'

  -- what the laws of the tokens ask, and the row that the act is
  kept_here : KeptIn st.zone.keeps
  kept_here = kept_in s old.trace st.zone.keeps zone_ok.own.kept

  front_carries : (v : Vio) → st.step.front ≡ item.Request v ∷ [] → Carries s old.trace v v.phase
  front_carries v is = (subst (λ (items : List Item). AllByRecursion (ItemOk s old.trace st.number) items) is here.front_ok).0.1

  for_tokens : tokens.Known st.zone.keeps st.step.front
  for_tokens = record {
    kept = kept_here;
    sealed = λ b is. phases s old.trace phase.Pending b.vios (subst (λ (items : List Item). AllByRecursion (ItemOk s old.trace st.number) items) is here.front_ok).0.0.0;
    busy = λ b j is keeps. (
        let most = here.most OfJournal in
        let sealed = ap (total is_sealed) is in
        let idle = ap idle_at keeps in
        idle_none j.busy (omega (arith, most, sealed, idle)));
    leased = here.leased;
    made = λ l v page keeps is is_page. made_front s old.trace page old.zones st.number st.zone l v st.step.rest legal.each (legal.making page) st.had (st.step.taken ∙ ap (λ (items : List Item). items ++ st.step.rest) is) keeps is_page;
    makes_none = λ v is at. elim at [
      | inl looks ↦ (bare_of s old.trace v phase.Look (λ page no. no) (carries_at s old.trace v phase.Look looks (front_carries v is))).0
      | inr replies ↦ (bare_of s old.trace v phase.Reply (λ page no. no) (carries_at s old.trace v phase.Reply replies (front_carries v is))).0
    ];
    counted = λ v is at. counts s old.trace v at (front_carries v is);
    claims = λ v is. let k = (subst (λ (items : List Item). AllByRecursion (ItemOk s old.trace st.number) items) is here.front_ok).0.3 in (k.claim_is, k.no_ticket);
    ready = λ b is. each_ready s old.trace b.vios (subst (λ (items : List Item). AllByRecursion (ItemOk s old.trace st.number) items) is here.front_ok).0.0.0;
    replaces = λ e is. replaces_by (subst (λ (items : List Item). AllByRecursion (ItemOk s old.trace st.number) items) is here.front_ok).0.0;
    reports = λ l keeps. let k : DataOk s old.trace st.number (at.Logical l) = subst (λ (d : ZoneData). DataOk s old.trace st.number d) keeps zone_ok.own in (
      every-map {P = ReportOk s old.trace l.zone} {Q = tokens.Replaces} (λ e ok. replaces_by ok.0) l.reported k.lists.reports_are,
      every-map {P = AwaitsReport l.zone l.reported} {Q = λ (v : Vio). (v.page ≡ None) × tokens.Replaces (remapping v)} (λ v waits. (waits.own, to_block v.old waits.replaces)) l.settling k.sound.reports,
    );
    zone = λ p keeps. let k : DataOk s old.trace st.number (at.Physical p) = subst (λ (d : ZoneData). DataOk s old.trace st.number d) keeps zone_ok.own in k.sound.is_zone;
    ticket = λ p v k others keeps is back has. (
        let own : DataOk s old.trace st.number (at.Physical p) = subst (λ (d : ZoneData). DataOk s old.trace st.number d) keeps zone_ok.own in
        let ok = (subst (λ (items : List Item). AllByRecursion (ItemOk s old.trace st.number) items) is here.front_ok).0 in
        let to : st.number ≡ zone_number s.sizes (ticket_zone (k ∷ others)) = ok.2 ∙ ap (λ (q : Phase). zone_at s.sizes v q) back ∙ ap (λ (tickets : List Ticket). zone_number s.sizes (ticket_zone tickets)) has in
        let number = own.number_is in
        omega (arith, to, number));
    settling_leased = here.settling_leased;
  }

  the_rule : IsRule s.sizes st.zone.keeps st.step.front st.zone'.keeps st.step.posts
  the_rule = act_rule s.sizes st.zone.keeps st.step.front st.zone'.keeps st.made st.step.posts st.step.act for_tokens

  balanced : (t : Token) → Conserves t st.zone.keeps st.zone'.keeps the_rule.before the_rule.after → Balanced t old.zones → Balanced t new.zones
  balanced t = balance_step t s.sizes old new st lanes_there the_rule

  pub legal_step : Legal s new
  legal_step = record {
    count = ap length zones_is ∙ length-put old.zones st.number st.zone' ∙ legal.count;
    each = subst (λ (core : Core). Each (ZoneOk s core.trace) core.zones) (sym st.has) each_ok;
    requests = λ w. balanced (request_token w) (requests_law s.sizes w the_rule.rule) (legal.requests w);
    leases = λ a test. balanced (lease_token a test) (leases_law s.sizes a test the_rule.rule) (legal.leases a test);
    holders = balanced holder_token (holders_law s.sizes the_rule.rule) legal.holders;
    entries = balanced entry_token (entries_law s.sizes the_rule.rule) legal.entries;
    making = λ page. balanced (making_token page) (making_law s.sizes page the_rule.rule) (legal.making page);
    dropped = at_most_step page_entry_token s.sizes old new st lanes_there the_rule (page_entries_law s.sizes the_rule.rule) legal.dropped;
    blocks = λ x. balanced (block_token (opened_uses s) x) (blocks_law s.sizes (opened_uses s) x the_rule.rule) (legal.blocks x);
    claims = λ x. at_most_step (claim_token x) s.sizes old new st lanes_there the_rule (claims_law s.sizes x the_rule.rule) (legal.claims x);
    tickets = λ zone test. balanced (ticket_token zone test) (tickets_law s.sizes zone test the_rule.rule) (legal.tickets zone test);
    reports = λ w. balanced (report_token w) (reports_law s.sizes w the_rule.rule) (legal.reports w);
    waiters = λ w. balanced (waiter_token w) (waiters_law s.sizes w the_rule.rule) (legal.waiters w);
    damage = at_most_step damage_token s.sizes old new st lanes_there the_rule (damage_law s.sizes the_rule.rule) legal.damage;
    journal = balanced journal_token (journal_law s.sizes the_rule.rule) legal.journal;
    room = balanced room_token (room_law s.sizes the_rule.rule) legal.room;
    stop_notices = balanced (notice_token s.sizes) (notices_law s.sizes the_rule.rule) legal.stop_notices;
    in_order = λ zone below. flows_step Writer (arrivals_at s zone) s.sizes (λ e. absurd (omega (arith, e))) old new st zone_ok.number_is
        (arrivals_kept s old.trace zone st.number st.zone.keeps st.step.front st.made st.step.posts zone_ok.own
        (course s old.trace legal.right st.number st.zone.keeps st.step.front st.zone'.keeps st.made st.step.posts st.step.act zone_ok.own here.front_ok kept_here))
        (legal.in_order zone below);
    updates = λ zone below. flows_step CountUpdate (updates_at s zone) s.sizes (λ e. absurd (omega (arith, e, below))) old new st zone_ok.number_is
        (updates_kept s zone below old.trace st.number st.zone.keeps st.step.front st.made st.step.posts zone_ok.own here.front_ok
        (updates.course s old.trace st.number st.zone.keeps st.step.front st.zone'.keeps st.made st.step.posts st.step.act here.front_ok kept_here))
        (legal.updates zone below);
    right = subst (RightTrace s) (sym trace_is) stepped.right;
    gives_right = subst (λ (t : Trace). IsFair s t → GivesRight s t) (sym trace_is) (stepped.gives legal.gives_right);
  }
