-- What each act owes of the updates of counters: the journal alone sends them, in the order of its entries, and the physical zone takes them.
use Rattle.std.proofs.Common.{if◌then◌else◌, ◌+◌, nat_lt, length, ◌∙◌, ◌≡◌, ◌<◌, ℕ, ◌⊎◌, Bool, true, false, cond, Option, None, Some, List, [], ◌∷◌, ◌++◌, nat_eq, refl, sym, subst, ap, inl, inr, arith}
use Rattle.core_laws.proofs.Common.{AllByRecursion, Answer, Carries, DataOk, Desk, DeviceZone, Item, ItemOk, JournalZone, LogicalZone, Mapping, Phase, PhysicalZone, Post, Request, SealedBlock, Session, Sizes, Trace, Vio, Writer, ZoneData, ZoneId, append-nil, eqb_tells, every-append, notified, same_Some, zone_number, Pbn, Remapping, remapping}
use Rattle.blk_base.specs.declared.place.Mapping.TheVariants.{Unmapped, Zero, At}
use Rattle.blk_base.specs.declared.place.ZoneId.TheVariants as id
use Rattle.blk_base.specs.declared.request.Request.TheVariants as request
use Rattle.data_vio.specs.declared.items.Item.TheVariants as item
use Rattle.data_vio.specs.declared.items.Phase.TheVariants as phase
use Rattle.core_model.specs.declared.zones.ZoneData.TheVariants as at
use Rattle.core_model.specs.DeskRules as desk
use Rattle.core_model.specs.DeskRules.{DeskBegins, DeskServes, first_zone, is_marked, vio_of, woken, mark_of_vio}
use Rattle.core_model.specs.DeviceRules as device
use Rattle.core_model.specs.DeviceRules.{Announces, DeviceServes, DeviceWorks, notices_after, stop_notices}
use Rattle.data_vio.specs.Phases.{AtDevice, phase_rule}
use Rattle.core_model.specs.JournalRules as journal
use Rattle.core_model.specs.PhysicalRules as physical
use Rattle.core_model.specs.PhysicalRules.{PhysicalServes, PhysicalTakes}
use Rattle.core_model.specs.JournalRules.{JournalServes, JournalEnds, all_again, all_dropped, all_refused}
use Rattle.core_model.specs.LogicalRules as logical
use Rattle.core_model.specs.LogicalRules.{LogicalHears, LogicalServes, goes_on, passes_on, read_next, looked, first_for, all_for, all_stopped, placed, place_of_vio}
use Rattle.core_model.specs.Steps.{Act}
use Rattle.core_model.specs.Steps as steps
use Rattle.core_model.specs.Streams.{counted}
use Rattle.blk_base.specs.declared.place.PageId.{PageId}
use Rattle.core_laws.proofs.kept.Streams.{Keeps, items_to}
use Rattle.core_laws.proofs.tokens.Posts.{goes_by}
use Rattle.core_laws.proofs.tokens.Known.{IsIn, KeptIn}
use Rattle.core_laws.proofs.Common.{KeptOk, Logged, Makes, Remaps, cases_Bool, durable, eq-eqb, journal_number, logged, new_of, physical_number, zone_at}
use Rattle.core_laws.proofs.kept.ActKept.{carries_at, claim_at}
use Rattle.core_laws.proofs.kept.ZoneKinds.{physical_below}
use Rattle.core_laws.proofs.lists.CountedIn.{AreElsewhere, counted_here, counted_part, none_in, number_counted, updates_both}
use Rattle.core_model.specs.PageLinks.{block_in}
use Rattle.data_vio.specs.Vios.{counts_for}
use Rattle.data_vio.specs.Vios as vios
use Rattle.slab_counts.specs.declared.tickets.Ticket.{Ticket}
use Rattle.data_vio.specs.Zones.{counts_in, physical_zone_of}
use Rattle.core_model.specs.CountUpdates.{CountUpdate, Decrement, Increment, decrement_of, increment_of, is_counted_in, mapping_of, updates_by, updates_in, updates_of, updates_taken}
use Rattle.core_model.specs.Facts.{CarriesFor}
use Rattle.core_model.specs.RequestFacts.{IsToBlock, claim_of}
use Rattle.core_model.specs.UpdateStream.{counting, updates_at, updating}
use Rattle.data_vio.specs.Vios.{logged_for}

-- what is posted has its place, or needs none
abbrev pub Still : Post → Type 0
Still p = updating p.1 ≡ []

-- a request in another phase than Arrive
arrives : (v : Vio) (q : Phase) → v.phase ≡ q → counting v.phase (logged v) ≡ counting q (logged v)
arrives v q p = ap (λ (h : Phase). counting h (logged v)) p

past : (v : Vio) {q : Phase} → v.phase ≡ q → counted updating (item.Request v ∷ []) ≡ counting q (logged v) ++ []
past v p = ap (λ (q : Phase). counting q (logged v) ++ []) p

-- the posts of each row that are lists

goes_still : (sizes : Sizes) (v : Vio) (post : Post) → goes_on sizes v ≡ Some post → Still post
goes_still sizes v post goes = goes_by Still sizes v post goes (λ reads. read v.old) (λ writes zeros. refl) (λ writes others. refl) (λ discards. refl)
  where
    read : (m : Mapping) → Still (read_next v m)
    read Unmapped = refl
    read Zero = refl
    read (At x) = refl

passes_still : (o : Option Vio) → AllByRecursion Still (passes_on o)
passes_still None = tt
passes_still (Some v) = (refl, tt)

stopped_still : (vs : List Vio) → AllByRecursion Still (all_stopped vs)
stopped_still [] = tt
stopped_still (v ∷ vs) = (refl, stopped_still vs)

refused_still : (sizes : Sizes) (answer : Answer) (vs : List Vio) → AllByRecursion Still (all_refused sizes answer vs)
refused_still sizes answer [] = tt
refused_still sizes answer (v ∷ vs) = (refl, refused_still sizes answer vs)

notices_still : (ids : List ZoneId) → AllByRecursion Still (stop_notices ids)
notices_still [] = tt
notices_still (to ∷ ids) = (refl, notices_still ids)

after_still : (sizes : Sizes) (stopped : Bool) → AllByRecursion Still (notices_after stopped sizes)
after_still sizes true = tt
after_still sizes false = notices_still (notified sizes)

dropped_still : (sizes : Sizes) (vs : List Vio) → AllByRecursion Still (all_dropped sizes vs)
dropped_still sizes [] = tt
dropped_still sizes (v ∷ vs) = (refl, dropped_still sizes vs)

again_still : (vs : List Vio) → AllByRecursion (IsIn phase.Enter) vs → AllByRecursion Still (all_again vs)
again_still [] h = tt
again_still (v ∷ vs) h = (arrives v phase.Enter h.0, again_still vs h.1)

looks_still : (vs : List Vio) → AllByRecursion (IsIn phase.Look) vs → AllByRecursion Still (logical.all_again vs)
looks_still [] h = tt
looks_still (v ∷ vs) h = (arrives v phase.Look h.0, looks_still vs h.1)

woken_still : (vs : List Vio) → AllByRecursion (IsIn phase.Reply) vs → AllByRecursion Still (woken vs)
woken_still [] h = tt
woken_still (v ∷ vs) h = (arrives v phase.Reply h.0, woken_still vs h.1)

-- What posts count for at the zone of a number, of the updates of a physical zone.
module _ (sizes : Sizes) (zone n : ℕ) where
  abbrev own : List CountUpdate → List CountUpdate
  own us = updates_in sizes zone us

  abbrev come_to : List Post → List CountUpdate
  come_to ps = counted (λ it. updates_in sizes zone (updating it)) (items_to sizes n ps)

  silent : (p : Post) (ps : List Post) → own (updating p.1) ≡ [] → come_to (p ∷ ps) ≡ come_to ps
  silent p ps none = by (nat_eq (zone_number sizes p.0) n)
    where
      by : (b : Bool) → counted (λ it. updates_in sizes zone (updating it)) (cond b (p.1 ∷ items_to sizes n ps) (items_to sizes n ps)) ≡ come_to ps
      by true = ap (λ (us : List CountUpdate). us ++ come_to ps) none
      by false = refl

  -- one that is for the zone of the number, or counts for nothing there
  comes : (p : Post) (ps : List Post) → (zone_number sizes p.0 ≡ n) ⊎ (own (updating p.1) ≡ []) → come_to (p ∷ ps) ≡ own (updating p.1) ++ come_to ps
  comes p ps (inl there) = ap (λ (b : Bool). counted (λ it. updates_in sizes zone (updating it)) (cond b (p.1 ∷ items_to sizes n ps) (items_to sizes n ps))) (eq-eqb (zone_number sizes p.0) n there)
  comes p ps (inr none) = silent p ps none ∙ ap (λ (us : List CountUpdate). us ++ come_to ps) (sym none)

  still_counted : (ps : List Post) → AllByRecursion Still ps → come_to ps ≡ []
  still_counted [] h = refl
  still_counted (p ∷ ps) h = silent p ps (ap (λ (us : List CountUpdate). own us) h.0) ∙ still_counted ps h.1

-- A committed entry sends its updates to the physical zone, its increment first.
abbrev decrement : Option PageId → Remapping → Mapping → List CountUpdate
decrement None e (At x) = Decrement e ∷ []
decrement page e other = []

entry_updates : (v : Vio) (o : Option PageId) (m k : Mapping) → v.page ≡ o → v.new ≡ m → v.old ≡ k → ((page : PageId) → o ≡ Some page → IsToBlock m)
    → updates_by (logged v) ≡ increment_of (logged v) m ++ decrement o (remapping v) k
entry_updates v None m k bare to from fresh = subst (λ (e : Logged). updates_by e ≡ increment_of e m ++ decrement None (remapping v) k) (sym own) (both v.new v.old ∙ ap (λ (n : Mapping). increment_of (Remaps (remapping v)) n ++ decrement None (remapping v) v.old) to ∙ ap (λ (n : Mapping). increment_of (Remaps (remapping v)) m ++ decrement None (remapping v) n) from)
  where
    own : logged v ≡ Remaps (remapping v)
    own = ap (λ (o : Option PageId). logged_for v o v.new) bare

    both : (m k : Mapping) → increment_of (Remaps (remapping v)) m ++ decrement_of (remapping v) k ≡ increment_of (Remaps (remapping v)) m ++ decrement None (remapping v) k
    both (At x) (At y) = refl
    both (At x) Unmapped = refl
    both (At x) Zero = refl
    both Unmapped (At y) = refl
    both Unmapped Unmapped = refl
    both Unmapped Zero = refl
    both Zero (At y) = refl
    both Zero Unmapped = refl
    both Zero Zero = refl
entry_updates v (Some page) (At x) k some to from fresh =
    let own : logged v ≡ Makes (record { request = v.request; page = page; at = x }) = ap (λ (o : Option PageId). logged_for v o v.new) some ∙ ap (λ (m : Mapping). logged_for v (Some page) m) to in
    subst (λ (e : Logged). updates_by e ≡ Increment e ∷ []) (sym own) refl ∙ nothing k
  where
    nothing : (k : Mapping) → Increment (logged v) ∷ [] ≡ Increment (logged v) ∷ decrement (Some page) (remapping v) k
    nothing (At y) = refl
    nothing Unmapped = refl
    nothing Zero = refl
entry_updates v (Some page) Unmapped k some to from fresh = absurd (fresh page refl)
entry_updates v (Some page) Zero k some to from fresh = absurd (fresh page refl)

-- the entry of a request that has a block leads to it
leads_new : (v : Vio) (o : Option PageId) (m : Mapping) → v.page ≡ o → v.new ≡ m → ((page : PageId) → o ≡ Some page → IsToBlock m) → new_of (logged v) ≡ m
leads_new v None m bare to fresh = ap (λ (o : Option PageId). new_of (logged_for v o v.new)) bare ∙ to
leads_new v (Some page) (At x) some to fresh = ap (λ (o : Option PageId). new_of (logged_for v o v.new)) some ∙ ap (λ (m : Mapping). new_of (logged_for v (Some page) m)) to
leads_new v (Some page) Unmapped some to fresh = absurd (fresh page refl)
leads_new v (Some page) Zero some to fresh = absurd (fresh page refl)

-- what is sent for a block goes to the zone that counts it
sent_home : (sizes : Sizes) (zone : ℕ) (x : Pbn) (u : CountUpdate) → mapping_of u ≡ At x → (zone_number sizes (counts_in sizes x) ≡ physical_number sizes zone) ⊎ (updates_in sizes zone (u ∷ []) ≡ [])
sent_home sizes zone x u is = elim (eqb_tells (physical_zone_of sizes x) zone) [
  | inl same ↦ inl (ap (physical_number sizes) same.1)
  | inr other ↦ inr (let out : is_counted_in sizes zone (mapping_of u) ≡ false = ap (is_counted_in sizes zone) is ∙ other.0 in rw out refl)
]

module _ (sizes : Sizes) (zone : ℕ) where
  abbrev to_zone : List Post → List CountUpdate
  to_zone ps = come_to sizes zone (physical_number sizes zone) ps

  hands_counted : (v : Vio) (m : Mapping) (ps : List Post) → v.new ≡ m → v.claim ≡ block_in m → new_of (logged v) ≡ m
      → to_zone (journal.hands_to sizes v m ∷ ps) ≡ updates_in sizes zone (increment_of (logged v) m) ++ to_zone ps
  hands_counted v (At x) ps is claim leads =
      comes sizes zone (physical_number sizes zone) (journal.hands_to sizes v (At x)) ps
      (elim (sent_home sizes zone x (Increment (logged v)) leads) [
        | inl there ↦ inl (ap (λ (o : Option Pbn). zone_number sizes (counts_for sizes (length v.tickets + v.place) o)) claim ∙ there)
        | inr none ↦ inr none
      ])
  hands_counted v Unmapped ps is claim leads = silent sizes zone (physical_number sizes zone) (journal.hands_to sizes v Unmapped) ps refl
  hands_counted v Zero ps is claim leads = silent sizes zone (physical_number sizes zone) (journal.hands_to sizes v Zero) ps refl

  decrement_counted : (o : Option PageId) (e : Remapping) (k : Mapping) (ps : List Post) → e.old ≡ k
      → to_zone (journal.decrement_for sizes o e k ++ ps) ≡ updates_in sizes zone (decrement o e k) ++ to_zone ps
  decrement_counted None e (At x) ps is = comes sizes zone (physical_number sizes zone) (counts_in sizes x, item.Decrement e) ps (sent_home sizes zone x (Decrement e) is)
  decrement_counted None e Unmapped ps is = refl
  decrement_counted None e Zero ps is = refl
  decrement_counted (Some page) e (At x) ps is = refl
  decrement_counted (Some page) e Unmapped ps is = refl
  decrement_counted (Some page) e Zero ps is = refl

-- updates that are all counted in a zone, and so in no other
abbrev AreOf : Session → ℕ → List CountUpdate → Type 0
AreOf s zone us = AllByRecursion (λ (u : CountUpdate). is_counted_in s.sizes zone (mapping_of u) ≡ true) us

none_elsewhere : (s : Session) (zone other : ℕ) (us : List CountUpdate) → AreOf s zone us → (zone ≡ other → ⊥) → AreElsewhere s.sizes other us
none_elsewhere s zone other [] all ne = tt
none_elsewhere s zone other (u ∷ us) all ne = (one (mapping_of u) all.0, none_elsewhere s zone other us all.1 ne)
  where
    one : (m : Mapping) → is_counted_in s.sizes zone m ≡ true → is_counted_in s.sizes other m ≡ false
    one m here = elim (cases_Bool (is_counted_in s.sizes other m)) [
      | inl there ↦
          let mine = number_counted s.sizes zone m here in
          let hers = number_counted s.sizes other m there in
          absurd (ne (omega (arith, mine, hers)))
      | inr out ↦ out
    ]

-- What an act does with the updates: the journal alone sends them, and a physical zone takes its own.
pub data Course (s : Session) (t : Trace) (old : ZoneData) (front : List Item) (made : Trace) (posts : List Post) : Type 0 where
  still : counted updating front ≡ [] → AllByRecursion Still posts → updates_taken (made ++ t) ≡ updates_taken t → updates_of (durable (made ++ t)) ≡ updates_of (durable t)
      → Course s t old front made posts
  takes : (p : PhysicalZone) → old ≡ at.Physical p → AllByRecursion Still posts → updates_taken (made ++ t) ≡ updates_taken t ++ counted updating front → updates_of (durable (made ++ t)) ≡ updates_of (durable t)
      → Course s t old front made posts
  sends : (j : JournalZone) → old ≡ at.Journal j → updates_taken (made ++ t) ≡ updates_taken t
      → ((zone : ℕ) → updates_in s.sizes zone (updates_of (durable (made ++ t))) ≡ updates_in s.sizes zone (updates_of (durable t)) ++ to_zone s.sizes zone posts)
      → Course s t old front made posts

module _ (s : Session) (t : Trace) where
  -- what a committed entry sends to a zone is what of its updates is counted there
  both_sent : (zone : ℕ) (v : Vio) (b : SealedBlock) → v.claim ≡ block_in v.new → new_of (logged v) ≡ v.new
      → updates_in s.sizes zone (increment_of (logged v) v.new ++ decrement v.page (remapping v) v.old) ≡ to_zone s.sizes zone (journal.hands_out s.sizes v ++ (id.Journal, item.Block b) ∷ [])
  both_sent zone v b claim leads =
      let behind : List Post = (id.Journal, item.Block b) ∷ [] in
      let first = hands_counted s.sizes zone v v.new (journal.decrement_for s.sizes v.page (remapping v) v.old ++ behind) refl claim leads in
      let second = decrement_counted s.sizes zone v.page (remapping v) v.old behind refl in
      let none : to_zone s.sizes zone behind ≡ [] = silent s.sizes zone (physical_number s.sizes zone) (id.Journal, item.Block b) [] refl in
      let added = updates_in s.sizes zone (increment_of (logged v) v.new) in
      let taken = updates_in s.sizes zone (decrement v.page (remapping v) v.old) in
      updates_both s.sizes zone (increment_of (logged v) v.new) (decrement v.page (remapping v) v.old)
      ∙ sym (first ∙ ap (λ (us : List CountUpdate). added ++ us) (second ∙ ap (λ (us : List CountUpdate). taken ++ us) none ∙ append-nil taken))

  logical_course : (old : LogicalZone) (v : Vio) (new : LogicalZone) (made : Trace) (posts : List Post) → KeptIn (at.Logical old) → LogicalServes s.sizes old v new made posts → Course s t (at.Logical old) (item.Request v ∷ []) made posts
  logical_course old v new made posts kept (logical.arrives_retired p d n m q) = still (past v p) (rw q (refl, tt)) (rw m refl) (rw m refl)
  logical_course old v new made posts kept (logical.arrives_free p d f n m q) = still (past v p) (rw q (refl, tt)) (rw m refl) (rw m refl)
  logical_course old v new made posts kept (logical.arrives_held p d f n m q) = still (past v p) (rw q tt) (rw m refl) (rw m refl)
  logical_course old v new made posts kept (logical.looks mapping post p path stays leaf knows goes n m q) = still (past v p) (rw q (goes_still s.sizes (looked old mapping v) post goes, tt)) (rw m refl) (rw m refl)
  logical_course old v new made posts kept (logical.needs_leaf x p path stays leaf unknown there n m q) = still (past v p) (rw q (refl, tt)) (rw m refl) (rw m refl)
  logical_course old v new made posts kept (logical.leafed post p goes n m q) = still (past v p) (rw q (goes_still s.sizes v post goes, tt)) (rw m refl) (rw m refl)
  logical_course old v new made posts kept (logical.passes p path passes n m q) = still (past v p) (rw q (refl, passes_still (first_for v.at.0 old.waiting))) (rw m refl) (rw m refl)
  logical_course old v new made posts kept (logical.settles p bare none n m q) = still (past v p) (rw q (refl, passes_still (first_for v.at.0 old.waiting))) (rw m refl) (rw m refl)
  logical_course old v new made posts kept (logical.awaits p bare some n m q) = still (past v p) (rw q tt) (rw m refl) (rw m refl)
  logical_course old v new made posts kept (logical.gives p n m q) = still (past v p) (rw q (refl, passes_still (first_for v.at.0 old.waiting))) (rw m refl) (rw m refl)
  logical_course old v new made posts kept (logical.aborts p bare n m q) = still (past v p) (rw q (refl, passes_still (first_for v.at.0 old.waiting))) (rw m refl) (rw m refl)
  logical_course old v new made posts kept (logical.aborts_entered p bare n m q) = still (past v p) (rw q (refl, stopped_still (all_for v.at.0 old.waiting))) (rw m refl) (rw m refl)
  logical_course old v new made posts kept (logical.is_dropped page p path lack dropped n m q) = still (past v p) (rw q (refl, passes_still (first_for v.at.0 old.waiting))) (rw m refl) (rw m refl)
  logical_course old v new made posts kept (logical.waits page p path lack linkable made_yet n m q) = still (past v p) (rw q tt) (rw m refl) (rw m refl)
  logical_course old v new made posts kept (logical.makes_page page p path lack linkable unmade n m q) = still (past v p) (rw q (refl, tt)) (rw m refl) (rw m refl)
  logical_course old v new made posts kept (logical.links page x between p some to may linked n m q) = still (past v p) (rw q (refl, looks_still old.lacking kept.1)) (rw m refl) (rw m refl)
  logical_course old v new made posts kept (logical.unmakes page p some n m q) =
      still (past v p) (rw q (refl, every-append Still (logical.granted v.at.0 old) (logical.all_again old.lacking) (passes_still (first_for v.at.0 old.waiting)) (looks_still old.lacking kept.1))) (rw m refl) (rw m refl)
  logical_course old v new made posts kept (logical.drops page p some n m q) =
      still (past v p) (rw q (refl, every-append Still (logical.granted v.at.0 old) (logical.all_again old.lacking) (passes_still (first_for v.at.0 old.waiting)) (looks_still old.lacking kept.1))) (rw m refl) (rw m refl)

  -- one that asks for a block has no entry yet
  served_still : (u : Vio) (tickets : List Ticket) (claim : Option Pbn) → Still (physical.goes_on u tickets claim)
  served_still u (k ∷ others) claim = refl
  served_still u [] (Some x) = refl
  served_still u [] None = refl

  asks_still : (k : Ticket) (v : Vio) → v.phase ≡ phase.Claim → Still (physical.asks_on s.sizes (vios.holding k v))
  asks_still k v is = by (nat_lt (length (v.tickets ++ k ∷ [])) s.sizes.physical)
    where
      by : (b : Bool)
          → Still (if b then (vios.counts_of s.sizes (vios.holding k v), item.Request (vios.holding k v)) else (vios.ticket_zone (v.tickets ++ k ∷ []), item.Request (vios.withdrawing (vios.holding k v))))
      by true = ap (λ (q : Phase). counting q (logged v)) is
      by false = refl

  physical_course : (old : PhysicalZone) (v : Vio) (new : PhysicalZone) (made : Trace) (posts : List Post) → PhysicalServes s.sizes old v new made posts → Course s t (at.Physical old) (item.Request v ∷ []) made posts
  physical_course old v new made posts (physical.claims x z p f n m q) = still (past v p) (rw q (served_still (vios.claiming x v) v.tickets (Some x), tt)) (rw m refl) (rw m refl)
  physical_course old v new made posts (physical.asks k b z p fewer begins gives n m q) = still (past v p) (rw q (asks_still k v p, tt)) (rw m refl) (rw m refl)
  physical_course old v new made posts (physical.takes_block k others x b z p has none begins from n m q) = still (past v p) (rw q (served_still (vios.claiming x (vios.with_tickets others v)) others (Some x), tt)) (rw m refl) (rw m refl)
  physical_course old v new made posts (physical.drops_block k others x y b between z p has some begins from claim change n m q) = still (past v p) (rw q (served_still (vios.with_tickets others v) others v.claim, tt)) (rw m refl) (rw m refl)
  physical_course old v new made posts (physical.has_none k others r b z p has begins from n m q) = still (past v p) (rw q (served_still (vios.refused r (vios.with_tickets others v)) others v.claim, tt)) (rw m refl) (rw m refl)
  physical_course old v new made posts (PhysicalServes.counts x slab z p claim own fits change n m q) =
      takes old refl (rw q (refl, tt)) (rw m (ap (λ (us : List CountUpdate). updates_taken t ++ us) (sym (past v p)))) (rw m refl)
  physical_course old v new made posts (PhysicalServes.drops x z p claim own change n m q) = still (past v p) (rw q (refl, tt)) (rw m refl) (rw m refl)
  physical_course old v new made posts (PhysicalServes.drops_none p none n m q) = still (past v p) (rw q (refl, tt)) (rw m refl) (rw m refl)
  physical_course old v new made posts (PhysicalServes.spends p n m q) = still (past v p) (rw q (refl, tt)) (rw m refl) (rw m refl)

  -- a decrement, its report, and what is told of damage are no requests
  update_course : (old : PhysicalZone) (e : Remapping) (new : PhysicalZone) (made : Trace) (posts : List Post) → PhysicalTakes s.sizes old e new made posts → Course s t (at.Physical old) (item.Decrement e ∷ []) made posts
  update_course old e new made posts (PhysicalTakes.removes x slab z from own fits change n m q) = takes old refl (rw q (refl, tt)) (rw m refl) (rw m refl)
  update_course old e new made posts (PhysicalTakes.is_stray x from own stray n m q) = takes old refl (rw q (refl, told old.strays x)) (rw m refl) (rw m refl)
    where
      told : (strays : List Remapping) (x : Pbn) → AllByRecursion Still (physical.tells strays x)
      told [] x = (refl, tt)
      told (f ∷ strays) x = tt

  heard_course : (old : LogicalZone) (e : Remapping) (new : LogicalZone) (made : Trace) (posts : List Post) → LogicalHears s.sizes old e new made posts → Course s t (at.Logical old) (item.Report e ∷ []) made posts
  heard_course old e new made posts (LogicalHears.settles v is n m q) = still refl (rw q (refl, passes_still (first_for v.at.0 old.waiting))) (rw m refl) (rw m refl)
  heard_course old e new made posts (LogicalHears.keeps none n m q) = still refl (rw q tt) (rw m refl) (rw m refl)

  journal_course : (old : JournalZone) (v : Vio) (new : JournalZone) (made : Trace) (posts : List Post) → JournalServes s.sizes old v new made posts → Course s t (at.Journal old) (item.Request v ∷ []) made posts
  journal_course old v new made posts (journal.is_stopped p c n m q) = still (past v p) (rw q (refl, tt)) (rw m refl) (rw m refl)
  journal_course old v new made posts (journal.is_full p c h n m q) = still (past v p) (rw q (refl, tt)) (rw m refl) (rw m refl)
  journal_course old v new made posts (journal.waits p c h r n m q) = still (past v p) (rw q tt) (rw m refl) (rw m refl)
  journal_course old v new made posts (journal.enters p c h r b n m q) = still (past v p) (rw q tt) (rw m refl) (rw m refl)
  journal_course old v new made posts (journal.enters_first p c h r b n m q) = still (past v p) (rw q (refl, tt)) (rw m refl) (rw m refl)

  end_course : (old : JournalZone) (b : SealedBlock) (new : JournalZone) (made : Trace) (posts : List Post) → KeptIn (at.Journal old) → AllByRecursion (KeptOk s t phase.Pending) b.vios → JournalEnds s.sizes old b new made posts
      → Course s t (at.Journal old) (item.Block b ∷ []) made posts
  end_course old b new made posts kept vios (journal.commits v vs c f d n m q) =
      let here : KeptOk s t phase.Pending v = (subst (λ (us : List Vio). AllByRecursion (KeptOk s t phase.Pending) us) f vios).0 in
      let fresh : (page : PageId) → v.page ≡ Some page → IsToBlock v.new = λ page some. (subst (CarriesFor s t v phase.Pending) some (subst (λ (p : Phase). Carries s t v p) here.2 here.1)).1 in
      let entry = entry_updates v v.page v.new v.old refl refl refl fresh in
      let claim : v.claim ≡ block_in v.new = (claim_at s v phase.Pending here.2 here.3).claim_is in
      sends old refl (rw m refl) (λ zone. rw (m, q) (
      ap (λ (us : List CountUpdate). updates_in s.sizes zone (updates_of (durable t) ++ us)) entry
      ∙ updates_both s.sizes zone (updates_of (durable t)) (increment_of (logged v) v.new ++ decrement v.page (remapping v) v.old)
      ∙ ap (λ (us : List CountUpdate). updates_in s.sizes zone (updates_of (durable t)) ++ us) (both_sent zone v (record b { vios = vs }) claim (leads_new v v.page v.new refl refl fresh))
      ))
  end_course old b new made posts kept vios (journal.seals v vs c f g d n m q) = still refl (rw q (refl, again_still old.waiting kept.1)) (rw m refl) (rw m refl)
  end_course old b new made posts kept vios (journal.rests c f g n m q) = still refl (rw q (again_still old.waiting kept.1)) (rw m refl) (rw m refl)
  end_course old b new made posts kept vios (journal.fails c n m q) =
      still refl (rw q (every-append Still (all_dropped s.sizes b.vios) (all_dropped s.sizes old.filling ++ all_refused s.sizes _ old.waiting) (dropped_still s.sizes b.vios)
      (every-append Still (all_dropped s.sizes old.filling) (all_refused s.sizes _ old.waiting) (dropped_still s.sizes old.filling) (refused_still s.sizes _ old.waiting)))) (rw m refl) (rw m refl)

  -- what waits for the superblock is none that has yet to draw its place
  at_device : (v : Vio) (q : Phase) → (phase_rule q).zone ≡ AtDevice → counting q (logged v) ≡ []
  at_device v phase.Count is = absurd cc
  at_device v other is = refl

  announce_course : (old : DeviceZone) (front : Item) (w : Writer) (new : DeviceZone) (made : Trace) (posts : List Post) → updating front ≡ [] → Announces s.sizes old front w new made posts
      → Course s t (at.Device old) (front ∷ []) made posts
  announce_course old front w new made posts none (Announces.succeeds call is goes n m q) = still (ap (λ (us : List CountUpdate). us ++ []) none) (rw q (none, tt)) (rw m refl) (rw m refl)
  announce_course old front w new made posts none (Announces.fails call kept is goes n m q) = still (ap (λ (us : List CountUpdate). us ++ []) none) (rw q (none, notices_still (notified s.sizes))) (rw m refl) (rw m refl)

  device_course : (old : DeviceZone) (v : Vio) (new : DeviceZone) (made : Trace) (posts : List Post) → DeviceServes s.sizes old v new made posts → Course s t (at.Device old) (item.Request v ∷ []) made posts
  device_course old v new made posts (device.announces there act) = announce_course old (item.Request v) v.request new made posts (at_device v v.phase there) act
  device_course old v new made posts (device.stores x p to s durable inside n m q) = still (past v p) (rw q (refl, tt)) (rw m refl) (rw m refl)
  device_course old v new made posts (device.store_fails x kept p to up durable inside n m q) = still (past v p) (rw q (refl, notices_still (notified s.sizes))) (rw m refl) (rw m refl)
  device_course old v new made posts (device.store_unmade p s n m q) = still (past v p) (rw q (refl, tt)) (rw m refl) (rw m refl)
  device_course old v new made posts (device.loads x bytes p from ready inside n m q) = still (past v p) (rw q (refl, tt)) (rw m refl) (rw m refl)
  device_course old v new made posts (device.load_fails x bytes kept p from ready inside n m q) = still (past v p) (rw q (refl, tt)) (rw m refl) (rw m refl)
  device_course old v new made posts (device.loads_leaf x bytes mappings p there ready inside page n m q) = still (past v p) (rw q (refl, tt)) (rw m refl) (rw m refl)
  device_course old v new made posts (device.leaf_fails x bytes kept p there ready inside n m q) = still (past v p) (rw q (refl, tt)) (rw m refl) (rw m refl)
  device_course old v new made posts (device.harms x bytes fault p there ready inside damaged n m q) = still (past v p) (rw q (refl, after_still s.sizes old.stopped)) (rw m refl) (rw m refl)
  device_course old v new made posts (device.flushes p s durable n m q) = still (past v p) (rw q (refl, tt)) (rw m refl) (rw m refl)
  device_course old v new made posts (device.flush_fails kept p up durable n m q) = still (past v p) (rw q (refl, notices_still (notified s.sizes))) (rw m refl) (rw m refl)
  device_course old v new made posts (device.flush_unmade p s n m q) = still (past v p) (rw q (refl, tt)) (rw m refl) (rw m refl)

  work_course : (old : DeviceZone) (b : SealedBlock) (new : DeviceZone) (made : Trace) (posts : List Post) → DeviceWorks s.sizes old b new made posts → Course s t (at.Device old) (item.Block b ∷ []) made posts
  work_course old b new made posts (device.announces v vs first there act) = announce_course old (item.Block b) v.request new made posts refl act
  work_course old b new made posts (device.makes call slot v vs first i c s durable n m q) = still refl (rw q (refl, tt)) (rw m refl) (rw m refl)
  work_course old b new made posts (device.fails call slot kept v vs w i c up durable n m q) = still refl (rw q (refl, notices_still (notified s.sizes))) (rw m refl) (rw m refl)
  work_course old b new made posts (device.unmade call slot v vs first c s n m q) = still refl (rw q (refl, tt)) (rw m refl) (rw m refl)

-- a request that is begun brings no update
begun_still : (sizes : Sizes) (w : Writer) (r : Request) (v : Vio) → vio_of sizes w r ≡ Some v → updating (item.Request v) ≡ []
begun_still sizes w (request.Read at) v is = subst (λ (v : Vio). updating (item.Request v) ≡ []) (same_Some _ _ is) refl
begun_still sizes w (request.Write at bytes false) v is = subst (λ (v : Vio). updating (item.Request v) ≡ []) (same_Some _ _ is) refl
begun_still sizes w (request.Write at bytes true) v is = absurd cc
begun_still sizes w (request.Discard at) v is = subst (λ (v : Vio). updating (item.Request v) ≡ []) (same_Some _ _ is) refl
begun_still sizes w request.Flush v is = subst (λ (v : Vio). updating (item.Request v) ≡ []) (same_Some _ _ is) refl

module _ (s : Session) (t : Trace) where
  begin_course : (old new : Desk) (made : Trace) (posts : List Post) → DeskBegins s.sizes old new made posts → Course s t (at.Desk old) [] made posts
  begin_course old new made posts (desk.answers w r v reply i h served o n m q) = still refl (rw q tt) (rw m refl) (rw m refl)
  begin_course old new made posts (desk.sends w r v i h served o n m q) = still refl (rw q (begun_still s.sizes w r v served, tt)) (rw m refl) (rw m refl)

  desk_course : (old : Desk) (v : Vio) (new : Desk) (made : Trace) (posts : List Post) → DeskServes s.sizes old v new made posts → Course s t (at.Desk old) (item.Request v ∷ []) made posts
  desk_course old v new made posts (desk.parks reply p h stopped told n m q) = still (past v p) (rw q tt) (rw m refl) (rw m refl)
  desk_course old v new made posts (desk.answers reply p h stopped k spaced n m q) = still (past v p) (rw q tt) (rw m refl) (rw m refl)
  desk_course old v new made posts (desk.marks p k h n m q) = still (past v p) (rw q tt) (rw m refl) (rw m refl)
  desk_course old v new made posts (desk.lacks p h n m q) = still (past v p) (rw q tt) (rw m refl) (rw m refl)

  -- each act is one of the three
  pub course : (n : ℕ) (old : ZoneData) (front : List Item) (new : ZoneData) (made : Trace) (posts : List Post) → Act s.sizes old front new made posts → AllByRecursion (ItemOk s t n) front → KeptIn old
      → Course s t old front made posts
  course n old front new made posts (steps.begins act) fronts kept = begin_course _ _ _ _ act
  course n old front new made posts (steps.answers act) fronts kept = desk_course _ _ _ _ _ act
  course n old front new made posts (steps.hears {old = d}) fronts kept = still refl (woken_still d.parked kept) refl refl
  course n old front new made posts (steps.serves act) fronts kept = logical_course s t _ _ _ _ _ kept act
  course n old front new made posts (steps.settles act) fronts kept = heard_course s t _ _ _ _ _ act
  course n old front new made posts (steps.updates act) fronts kept = update_course s t _ _ _ _ _ act
  course n old front new made posts (steps.halts {old = d} act) fronts kept =
      still refl (subst (AllByRecursion Still) (sym act.posts_are) (after_still s.sizes d.stopped)) (ap (λ (made : Trace). updates_taken (made ++ t)) act.made_is) (ap (λ (made : Trace). updates_of (durable (made ++ t))) act.made_is)
  course n old front new made posts steps.serves_notice fronts kept = still refl (refl, tt) refl refl
  course n old front new made posts (steps.takes act) fronts kept = physical_course s t _ _ _ _ _ act
  course n old front new made posts steps.takes_notice fronts kept = still refl (refl, tt) refl refl
  course n old front new made posts (steps.enters act) fronts kept = journal_course s t _ _ _ _ _ act
  course n old front new made posts (steps.ends act) fronts kept = end_course s t _ _ _ _ _ kept fronts.0.0.0 act
  course n old front new made posts (steps.enters_notice {old = j}) fronts kept = still refl (refl, refused_still s.sizes _ j.waiting) refl refl
  course n old front new made posts (steps.calls act) fronts kept = device_course s t _ _ _ _ _ act
  course n old front new made posts (steps.works act) fronts kept = work_course s t _ _ _ _ _ act

-- what is in front of a physical zone counts for updates of its own alone
module _ (s : Session) (t : Trace) (n zone : ℕ) (number : n ≡ physical_number s.sizes zone) where
  of_block : (x : Pbn) → n ≡ zone_number s.sizes (counts_in s.sizes x) → (m : Mapping) → m ≡ At x → is_counted_in s.sizes zone m ≡ true
  of_block x to m is = ap (is_counted_in s.sizes zone) is ∙ counted_here s.sizes zone x (omega (arith, number, to))

  own_item : (it : Item) → ItemOk s t n it → AreOf s zone (updating it)
  own_item (item.Request v) ok = by v.phase refl
    where
      to_block : (o : Option PageId) (m : Mapping) → v.new ≡ m → CarriesFor s t v phase.Count o → IsToBlock m
      to_block None m to has = subst IsToBlock to has.3
      to_block (Some page) m to has = subst IsToBlock to has.1

      counts : (m : Mapping) → v.new ≡ m → IsToBlock m → v.phase ≡ phase.Count → is_counted_in s.sizes zone (new_of (logged v)) ≡ true
      counts (At x) to block is =
          let claim : v.claim ≡ Some x = (claim_at s v phase.Count is ok.3).claim_is ∙ ap (claim_of true) to in
          let there : n ≡ zone_number s.sizes (counts_in s.sizes x) = ok.2 ∙ ap (λ (q : Phase). zone_at s.sizes v q) is ∙ ap (λ (o : Option Pbn). zone_number s.sizes (counts_for s.sizes (length v.tickets + v.place) o)) claim in
          of_block x there (new_of (logged v)) (leads_new v v.page (At x) refl to (λ page some. tt))
      counts Unmapped to block is = absurd block
      counts Zero to block is = absurd block

      by : (q : Phase) → v.phase ≡ q → AreOf s zone (counting q (logged v))
      by phase.Count is = (counts v.new refl (to_block v.page v.new refl (carries_at s t v phase.Count is ok.1)) is, tt)
      by other is = tt
  own_item (item.Decrement e) ok = (of_block ok.0.block ok.1 e.old ok.0.old_is, tt)
  own_item other ok = tt

  own_items : (items : List Item) → AllByRecursion (ItemOk s t n) items → AreOf s zone (counted updating items)
  own_items [] all = tt
  own_items (it ∷ items) all = every-append (λ (u : CountUpdate). is_counted_in s.sizes zone (mapping_of u) ≡ true) (updating it) (counted updating items) (own_item it all.0) (own_items items all.1)

-- of updates those of a zone
abbrev in_zone : Session → ℕ → List CountUpdate → List CountUpdate
in_zone s zone us = updates_in s.sizes zone us

-- What each act owes of the updates of a physical zone.
pub updates_kept : (s : Session) (zone : ℕ) → zone < s.sizes.physical → (t : Trace) (n : ℕ) (old : ZoneData) (front : List Item) (made : Trace) (posts : List Post) → DataOk s t n old → AllByRecursion (ItemOk s t n) front → Course s t old front made posts
    → Keeps (updates_at s zone) s.sizes n t front made posts
updates_kept s zone below t n old front made posts ok fronts (still f q p sent) = record {
  sends = λ is. ap (in_zone s zone) sent ∙ sym (ap (λ (us : List CountUpdate). in_zone s zone (updates_of (durable t)) ++ us) (still_counted s.sizes zone (physical_number s.sizes zone) posts q) ∙ append-nil (in_zone s zone (updates_of (durable t))));
  sent_same = λ ne. ap (in_zone s zone) sent;
  nothing = λ ne. still_counted s.sizes zone (physical_number s.sizes zone) posts q;
  takes = λ is. ap (in_zone s zone) p ∙ sym (ap (λ (us : List CountUpdate). in_zone s zone (updates_taken t) ++ us) (counted_part s.sizes zone front ∙ ap (in_zone s zone) f) ∙ append-nil (in_zone s zone (updates_taken t)));
  taken_same = λ ne. ap (in_zone s zone) p;
}
updates_kept s zone below t n old front made posts ok fronts (takes d is q p sent) =
    let number : n ≡ physical_number s.sizes d.counts.zone = (subst (λ (d : ZoneData). DataOk s t n d) is ok).number_is in
    record {
      sends = λ from. absurd (let inside = physical_below s t n d (subst (λ (d : ZoneData). DataOk s t n d) is ok) in omega (arith, from, number, inside));
      sent_same = λ ne. ap (in_zone s zone) sent;
      nothing = λ ne. still_counted s.sizes zone (physical_number s.sizes zone) posts q;
      takes = λ to. ap (in_zone s zone) p ∙ updates_both s.sizes zone (updates_taken t) (counted updating front) ∙ ap (λ (us : List CountUpdate). in_zone s zone (updates_taken t) ++ us) (sym (counted_part s.sizes zone front));
      taken_same = λ ne.
          let out = none_in s.sizes zone (counted updating front) (none_elsewhere s d.counts.zone zone (counted updating front) (own_items s t n d.counts.zone number front fronts) (λ same. ne (number ∙ ap (physical_number s.sizes) same))) in
          ap (in_zone s zone) p ∙ updates_both s.sizes zone (updates_taken t) (counted updating front) ∙ ap (λ (us : List CountUpdate). in_zone s zone (updates_taken t) ++ us) out ∙ append-nil (in_zone s zone (updates_taken t));
    }
updates_kept s zone below t n old front made posts ok fronts (sends j is p sent) =
    let number : n ≡ journal_number s.sizes = (subst (λ (d : ZoneData). DataOk s t n d) is ok).number_is in
    record {
      sends = λ from. sent zone;
      sent_same = λ ne. absurd (ne number);
      nothing = λ ne. absurd (ne number);
      takes = λ to. absurd (omega (arith, to, number, below));
      taken_same = λ ne. ap (λ (us : List CountUpdate). updates_in s.sizes zone us) p;
    }
