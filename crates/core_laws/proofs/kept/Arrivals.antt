-- What each act owes of the arrivals: the desk alone sends requests that have yet to draw a place, and their logical zone takes them.
use Rattle.std.proofs.Common.{if◌then◌else◌, nat_lt, length, ◌∙◌, ◌≡◌, ◌<◌, ◌≤◌, ℕ, ◌⊎◌, Bool, true, false, cond, Option, None, Some, IsSome, List, [], ◌∷◌, ◌++◌, nat_eq, refl, sym, subst, ap, inl, inr, arith}
use Rattle.core_laws.proofs.Common.{AllByRecursion, Answer, Asks, Carries, DataOk, Desk, DeviceZone, Happening, HasAddress, HasCause, IsEarned, Item, ItemOk, JournalZone, LogicalZone, Mapping, MayFollow, MayReply, Phase, PhysicalZone, Placed, Post, Request, RightTrace, Says, SealedBlock, Session, Sizes, Trace, Vio, VioOk, Writer, ZoneData, ZoneId, append-nil, arrival, arriving, asked, begun, desk_number, device_number, eqb_tells, every-append, every-front, every-map, lines, logical_number, none_of, notified, place_of, places, request_at, request_of, same_Some, same_tells, some_of, zone_number, zone_of, Pbn, Remapping, remapping}
use Rattle.blk_base.specs.declared.place.Mapping.TheVariants.{Unmapped, Zero, At}
use Rattle.blk_base.specs.declared.place.ZoneId.TheVariants as id
use Rattle.blk_base.specs.declared.request.Request.TheVariants as request
use Rattle.vdo_model.specs.declared.report.DeskLine.TheVariants as line
use Rattle.data_vio.specs.declared.items.Asks.TheVariants.{Read, Write, Discard, Flush}
use Rattle.data_vio.specs.declared.items.Item.TheVariants as item
use Rattle.data_vio.specs.declared.items.Phase.TheVariants as phase
use Rattle.core_model.specs.declared.zones.ZoneData.TheVariants as at
use Rattle.core_model.specs.Arrivals.{arrivals_at, drew_in, only_of, sent_to_zone, zone_asked}
use Rattle.core_model.specs.DeskRules as desk
use Rattle.core_model.specs.DeskRules.{DeskBegins, DeskServes, first_zone, is_marked, vio_of, woken, mark_of_vio}
use Rattle.core_model.specs.DeviceRules as device
use Rattle.core_model.specs.DeviceRules.{Announces, DeviceServes, DeviceWorks, notices_after, stop_notices}
use Rattle.data_vio.specs.Phases.{AtDevice, phase_rule}
use Rattle.core_model.specs.JournalRules as journal
use Rattle.core_model.specs.PhysicalRules as physical
use Rattle.data_vio.specs.Vios as vios
use Rattle.slab_counts.specs.declared.tickets.Ticket.{Ticket}
use Rattle.core_model.specs.PhysicalRules.{PhysicalServes, PhysicalTakes}
use Rattle.core_model.specs.JournalRules.{JournalServes, JournalEnds, all_again, all_dropped, all_refused}
use Rattle.core_model.specs.LogicalRules as logical
use Rattle.core_model.specs.LogicalRules.{LogicalHears, LogicalServes, goes_on, passes_on, read_next, looked, first_for, all_for, all_stopped, placed, place_of_vio}
use Rattle.core_model.specs.Legal.{ComesAfter}
use Rattle.core_model.specs.Steps.{Act}
use Rattle.core_model.specs.Steps as steps
use Rattle.core_model.specs.Streams.{counted}
use Rattle.blk_base.specs.declared.place.PageId.{PageId}
use Rattle.core_laws.proofs.desk.DeskFacts.{begun_now}
use Rattle.core_laws.proofs.kept.ActKept.{bare_of, unborn_place}
use Rattle.core_laws.proofs.kept.Streams.{Keeps, items_to}
use Rattle.core_laws.proofs.tokens.Posts.{goes_by}
use Rattle.core_laws.proofs.tokens.Known.{IsIn, KeptIn}
use Rattle.core_laws.proofs.trace.Growth.{begun_stays}
use Rattle.core_laws.proofs.trace.PlacesOfTrace.{cause_placed}
use Rattle.core_laws.proofs.kept.Carried.{earned_by}
use Rattle.blk_base.specs.declared.request.Answer.TheVariants.{NoSpace}

-- what is posted has its place, or needs none
abbrev pub Still : Post → Type 0
Still p = arrival p.1 ≡ []

-- a request in another phase than Arrive
arrives : (v : Vio) (q : Phase) → v.phase ≡ q → arriving v.phase v.request ≡ arriving q v.request
arrives v q p = ap (λ (h : Phase). arriving h v.request) p

past : (v : Vio) {q : Phase} → v.phase ≡ q → counted arrival (item.Request v ∷ []) ≡ arriving q v.request ++ []
past v p = ap (λ (q : Phase). arriving q v.request ++ []) p

-- the posts of each row that are lists

goes_still : (sizes : Sizes) (v : Vio) (post : Post) → goes_on sizes v ≡ Some post → Still post
goes_still sizes v post goes = goes_by Still sizes v post goes (λ reads. read v.old) (λ writes zeros. refl) (λ writes others. refl) (λ discards. refl)
  where
    read : (m : Mapping) → Still (read_next v m)
    read Unmapped = refl
    read Zero = refl
    read (At x) = refl

passes_still : (o : Option Vio) → AllByRecursion Still (passes_on o)
passes_still None = tt
passes_still (Some v) = (refl, tt)

stopped_still : (vs : List Vio) → AllByRecursion Still (all_stopped vs)
stopped_still [] = tt
stopped_still (v ∷ vs) = (refl, stopped_still vs)

refused_still : (sizes : Sizes) (answer : Answer) (vs : List Vio) → AllByRecursion Still (all_refused sizes answer vs)
refused_still sizes answer [] = tt
refused_still sizes answer (v ∷ vs) = (refl, refused_still sizes answer vs)

notices_still : (ids : List ZoneId) → AllByRecursion Still (stop_notices ids)
notices_still [] = tt
notices_still (to ∷ ids) = (refl, notices_still ids)

after_still : (sizes : Sizes) (stopped : Bool) → AllByRecursion Still (notices_after stopped sizes)
after_still sizes true = tt
after_still sizes false = notices_still (notified sizes)

dropped_still : (sizes : Sizes) (vs : List Vio) → AllByRecursion Still (all_dropped sizes vs)
dropped_still sizes [] = tt
dropped_still sizes (v ∷ vs) = (refl, dropped_still sizes vs)

hands_still : (sizes : Sizes) (v : Vio) (m : Mapping) → Still (journal.hands_to sizes v m)
hands_still sizes v (At x) = refl
hands_still sizes v Unmapped = refl
hands_still sizes v Zero = refl

decrement_still : (sizes : Sizes) (page : Option PageId) (e : Remapping) (m : Mapping) → AllByRecursion Still (journal.decrement_for sizes page e m)
decrement_still sizes None e (At x) = (refl, tt)
decrement_still sizes None e Unmapped = tt
decrement_still sizes None e Zero = tt
decrement_still sizes (Some page) e m = tt

again_still : (vs : List Vio) → AllByRecursion (IsIn phase.Enter) vs → AllByRecursion Still (all_again vs)
again_still [] h = tt
again_still (v ∷ vs) h = (arrives v phase.Enter h.0, again_still vs h.1)

looks_still : (vs : List Vio) → AllByRecursion (IsIn phase.Look) vs → AllByRecursion Still (logical.all_again vs)
looks_still [] h = tt
looks_still (v ∷ vs) h = (arrives v phase.Look h.0, looks_still vs h.1)

woken_still : (vs : List Vio) → AllByRecursion (IsIn phase.Reply) vs → AllByRecursion Still (woken vs)
woken_still [] h = tt
woken_still (v ∷ vs) h = (arrives v phase.Reply h.0, woken_still vs h.1)

-- An answer to a request that has its place, or to a flush, changes nothing of what was sent.
answer_sends : (s : Session) (t : Trace) (w : Writer) (a : Answer) (zone : ℕ) → RightTrace s t → IsSome (place_of (places t) w) ⊎ (zone_asked s.sizes.zones (request_at s.script w) ≡ None)
    → sent_to_zone s zone (Says (line.Answer w a) ∷ t) ≡ sent_to_zone s zone t
answer_sends s [] w a zone right why = refl
answer_sends s (Says (line.Begin v) ∷ t) w a zone right why = elim (same_tells w v) [
  | inl same ↦ rw same.0 (elim why [
    | inl some ↦
        let p = some_of _ some in
        let number = right.0.0 in
        let late : begun w.stream (lines t) ≤ w.number = subst (λ (x : Writer). begun x.stream (lines t) ≤ x.number) (sym same.1) (omega (arith, number)) in
        let none = none_of _ (unborn_place s t w right.2 late) in
        let both : Some p.0 ≡ None = sym p.1 ∙ none in
        absurd cc
    | inr flush ↦
        let here : zone_asked s.sizes.zones (request_at s.script v) ≡ None = subst (λ (x : Writer). zone_asked s.sizes.zones (request_at s.script x) ≡ None) same.1 flush in
        sym (ap (λ (o : Option ℕ). sent_to_zone s zone t ++ only_of zone o v) here ∙ append-nil (sent_to_zone s zone t))
  ])
  | inr other ↦ rw other.0 refl
]
answer_sends s (other ∷ t) w a zone right why = refl

-- What an act does with the requests that have yet to draw a place.
pub data Course (s : Session) (t : Trace) (old : ZoneData) (front : List Item) (made : Trace) (posts : List Post) : Type 0 where
  still : counted arrival front ≡ [] → AllByRecursion Still posts → places (made ++ t) ≡ places t → ((zone : ℕ) → sent_to_zone s zone (made ++ t) ≡ sent_to_zone s zone t)
      → Course s t old front made posts
  draws : (l : LogicalZone) (v : Vio) → old ≡ at.Logical l → front ≡ item.Request v ∷ [] → v.phase ≡ phase.Arrive → AllByRecursion Still posts
      → places (made ++ t) ≡ place_of_vio l v ∷ places t → ((zone : ℕ) → sent_to_zone s zone (made ++ t) ≡ sent_to_zone s zone t)
      → Course s t old front made posts
  sends : (d : Desk) → old ≡ at.Desk d → places (made ++ t) ≡ places t
      → ((zone : ℕ) → sent_to_zone s zone (made ++ t) ≡ sent_to_zone s zone t ++ counted arrival (items_to s.sizes (logical_number zone) posts))
      → Course s t old front made posts

module _ (s : Session) (t : Trace) where
  logical_course : (old : LogicalZone) (v : Vio) (new : LogicalZone) (made : Trace) (posts : List Post) → KeptIn (at.Logical old) → LogicalServes s.sizes old v new made posts → Course s t (at.Logical old) (item.Request v ∷ []) made posts
  logical_course old v new made posts kept (logical.arrives_retired p d n m q) = draws old v refl refl p (rw q (refl, tt)) (rw m refl) (λ zone. rw m refl)
  logical_course old v new made posts kept (logical.arrives_free p d f n m q) = draws old v refl refl p (rw q (refl, tt)) (rw m refl) (λ zone. rw m refl)
  logical_course old v new made posts kept (logical.arrives_held p d f n m q) = draws old v refl refl p (rw q tt) (rw m refl) (λ zone. rw m refl)
  logical_course old v new made posts kept (logical.looks mapping post p path stays leaf knows goes n m q) = still (past v p) (rw q (goes_still s.sizes (looked old mapping v) post goes, tt)) (rw m refl) (λ zone. rw m refl)
  logical_course old v new made posts kept (logical.needs_leaf x p path stays leaf unknown there n m q) = still (past v p) (rw q (refl, tt)) (rw m refl) (λ zone. rw m refl)
  logical_course old v new made posts kept (logical.leafed post p goes n m q) = still (past v p) (rw q (goes_still s.sizes v post goes, tt)) (rw m refl) (λ zone. rw m refl)
  logical_course old v new made posts kept (logical.passes p path passes n m q) = still (past v p) (rw q (refl, passes_still (first_for v.at.0 old.waiting))) (rw m refl) (λ zone. rw m refl)
  logical_course old v new made posts kept (logical.settles p bare none n m q) = still (past v p) (rw q (refl, passes_still (first_for v.at.0 old.waiting))) (rw m refl) (λ zone. rw m refl)
  logical_course old v new made posts kept (logical.awaits p bare some n m q) = still (past v p) (rw q tt) (rw m refl) (λ zone. rw m refl)
  logical_course old v new made posts kept (logical.gives p n m q) = still (past v p) (rw q (refl, passes_still (first_for v.at.0 old.waiting))) (rw m refl) (λ zone. rw m refl)
  logical_course old v new made posts kept (logical.aborts p bare n m q) = still (past v p) (rw q (refl, passes_still (first_for v.at.0 old.waiting))) (rw m refl) (λ zone. rw m refl)
  logical_course old v new made posts kept (logical.aborts_entered p bare n m q) = still (past v p) (rw q (refl, stopped_still (all_for v.at.0 old.waiting))) (rw m refl) (λ zone. rw m refl)
  logical_course old v new made posts kept (logical.is_dropped page p path lack dropped n m q) = still (past v p) (rw q (refl, passes_still (first_for v.at.0 old.waiting))) (rw m refl) (λ zone. rw m refl)
  logical_course old v new made posts kept (logical.waits page p path lack linkable made_yet n m q) = still (past v p) (rw q tt) (rw m refl) (λ zone. rw m refl)
  logical_course old v new made posts kept (logical.makes_page page p path lack linkable unmade n m q) = still (past v p) (rw q (refl, tt)) (rw m refl) (λ zone. rw m refl)
  logical_course old v new made posts kept (logical.links page x between p some to may linked n m q) = still (past v p) (rw q (refl, looks_still old.lacking kept.1)) (rw m refl) (λ zone. rw m refl)
  logical_course old v new made posts kept (logical.unmakes page p some n m q) =
      still (past v p) (rw q (refl, every-append Still (logical.granted v.at.0 old) (logical.all_again old.lacking) (passes_still (first_for v.at.0 old.waiting)) (looks_still old.lacking kept.1))) (rw m refl) (λ zone. rw m refl)
  logical_course old v new made posts kept (logical.drops page p some n m q) =
      still (past v p) (rw q (refl, every-append Still (logical.granted v.at.0 old) (logical.all_again old.lacking) (passes_still (first_for v.at.0 old.waiting)) (looks_still old.lacking kept.1))) (rw m refl) (λ zone. rw m refl)

  -- one that asks for a block has its place
  served_still : (u : Vio) (tickets : List Ticket) (claim : Option Pbn) → Still (physical.goes_on u tickets claim)
  served_still u (k ∷ others) claim = refl
  served_still u [] (Some x) = refl
  served_still u [] None = refl

  asks_still : (k : Ticket) (v : Vio) → v.phase ≡ phase.Claim → Still (physical.asks_on s.sizes (vios.holding k v))
  asks_still k v is = by (nat_lt (length (v.tickets ++ k ∷ [])) s.sizes.physical)
    where
      by : (b : Bool)
          → Still (if b then (vios.counts_of s.sizes (vios.holding k v), item.Request (vios.holding k v)) else (vios.ticket_zone (v.tickets ++ k ∷ []), item.Request (vios.withdrawing (vios.holding k v))))
      by true = ap (λ (q : Phase). arriving q v.request) is
      by false = refl

  physical_course : (old : PhysicalZone) (v : Vio) (new : PhysicalZone) (made : Trace) (posts : List Post) → PhysicalServes s.sizes old v new made posts → Course s t (at.Physical old) (item.Request v ∷ []) made posts
  physical_course old v new made posts (physical.claims x z p f n m q) = still (past v p) (rw q (served_still (vios.claiming x v) v.tickets (Some x), tt)) (rw m refl) (λ zone. rw m refl)
  physical_course old v new made posts (physical.asks k b z p fewer begins gives n m q) = still (past v p) (rw q (asks_still k v p, tt)) (rw m refl) (λ zone. rw m refl)
  physical_course old v new made posts (physical.takes_block k others x b z p has none begins from n m q) = still (past v p) (rw q (served_still (vios.claiming x (vios.with_tickets others v)) others (Some x), tt)) (rw m refl) (λ zone. rw m refl)
  physical_course old v new made posts (physical.drops_block k others x y b between z p has some begins from claim change n m q) = still (past v p) (rw q (served_still (vios.with_tickets others v) others v.claim, tt)) (rw m refl) (λ zone. rw m refl)
  physical_course old v new made posts (physical.has_none k others r b z p has begins from n m q) = still (past v p) (rw q (served_still (vios.refused r (vios.with_tickets others v)) others v.claim, tt)) (rw m refl) (λ zone. rw m refl)
  physical_course old v new made posts (PhysicalServes.counts x slab z p claim own fits change n m q) = still (past v p) (rw q (refl, tt)) (rw m refl) (λ zone. rw m refl)
  physical_course old v new made posts (PhysicalServes.drops x z p claim own change n m q) = still (past v p) (rw q (refl, tt)) (rw m refl) (λ zone. rw m refl)
  physical_course old v new made posts (PhysicalServes.drops_none p none n m q) = still (past v p) (rw q (refl, tt)) (rw m refl) (λ zone. rw m refl)
  physical_course old v new made posts (PhysicalServes.spends p n m q) = still (past v p) (rw q (refl, tt)) (rw m refl) (λ zone. rw m refl)

  -- a decrement, its report, and what is told of damage are no requests
  update_course : (old : PhysicalZone) (e : Remapping) (new : PhysicalZone) (made : Trace) (posts : List Post) → PhysicalTakes s.sizes old e new made posts → Course s t (at.Physical old) (item.Decrement e ∷ []) made posts
  update_course old e new made posts (PhysicalTakes.removes x slab z from own fits change n m q) = still refl (rw q (refl, tt)) (rw m refl) (λ zone. rw m refl)
  update_course old e new made posts (PhysicalTakes.is_stray x from own stray n m q) = still refl (rw q (refl, told old.strays x)) (rw m refl) (λ zone. rw m refl)
    where
      told : (strays : List Remapping) (x : Pbn) → AllByRecursion Still (physical.tells strays x)
      told [] x = (refl, tt)
      told (f ∷ strays) x = tt

  heard_course : (old : LogicalZone) (e : Remapping) (new : LogicalZone) (made : Trace) (posts : List Post) → LogicalHears s.sizes old e new made posts → Course s t (at.Logical old) (item.Report e ∷ []) made posts
  heard_course old e new made posts (LogicalHears.settles v is n m q) = still refl (rw q (refl, passes_still (first_for v.at.0 old.waiting))) (rw m refl) (λ zone. rw m refl)
  heard_course old e new made posts (LogicalHears.keeps none n m q) = still refl (rw q tt) (rw m refl) (λ zone. rw m refl)

  journal_course : (old : JournalZone) (v : Vio) (new : JournalZone) (made : Trace) (posts : List Post) → JournalServes s.sizes old v new made posts → Course s t (at.Journal old) (item.Request v ∷ []) made posts
  journal_course old v new made posts (journal.is_stopped p c n m q) = still (past v p) (rw q (refl, tt)) (rw m refl) (λ zone. rw m refl)
  journal_course old v new made posts (journal.is_full p c h n m q) = still (past v p) (rw q (refl, tt)) (rw m refl) (λ zone. rw m refl)
  journal_course old v new made posts (journal.waits p c h r n m q) = still (past v p) (rw q tt) (rw m refl) (λ zone. rw m refl)
  journal_course old v new made posts (journal.enters p c h r b n m q) = still (past v p) (rw q tt) (rw m refl) (λ zone. rw m refl)
  journal_course old v new made posts (journal.enters_first p c h r b n m q) = still (past v p) (rw q (refl, tt)) (rw m refl) (λ zone. rw m refl)

  end_course : (old : JournalZone) (b : SealedBlock) (new : JournalZone) (made : Trace) (posts : List Post) → KeptIn (at.Journal old) → JournalEnds s.sizes old b new made posts
      → Course s t (at.Journal old) (item.Block b ∷ []) made posts
  end_course old b new made posts kept (journal.commits v vs c f d n m q) =
      still refl (rw q (every-append Still (journal.hands_out s.sizes v) ((id.Journal, item.Block (record b { vios = vs })) ∷ []) (hands_still s.sizes v v.new, decrement_still s.sizes v.page (remapping v) v.old) (refl, tt))) (rw m refl) (λ zone. rw m refl)
  end_course old b new made posts kept (journal.seals v vs c f g d n m q) = still refl (rw q (refl, again_still old.waiting kept.1)) (rw m refl) (λ zone. rw m refl)
  end_course old b new made posts kept (journal.rests c f g n m q) = still refl (rw q (again_still old.waiting kept.1)) (rw m refl) (λ zone. rw m refl)
  end_course old b new made posts kept (journal.fails c n m q) =
      still refl (rw q (every-append Still (all_dropped s.sizes b.vios) (all_dropped s.sizes old.filling ++ all_refused s.sizes _ old.waiting) (dropped_still s.sizes b.vios)
      (every-append Still (all_dropped s.sizes old.filling) (all_refused s.sizes _ old.waiting) (dropped_still s.sizes old.filling) (refused_still s.sizes _ old.waiting)))) (rw m refl) (λ zone. rw m refl)

  -- what waits for the superblock is none that has yet to draw its place
  at_device : (v : Vio) (q : Phase) → (phase_rule q).zone ≡ AtDevice → arriving q v.request ≡ []
  at_device v phase.Arrive is = absurd cc
  at_device v other is = refl

  announce_course : (old : DeviceZone) (front : Item) (w : Writer) (new : DeviceZone) (made : Trace) (posts : List Post) → arrival front ≡ [] → Announces s.sizes old front w new made posts
      → Course s t (at.Device old) (front ∷ []) made posts
  announce_course old front w new made posts none (Announces.succeeds call is goes n m q) = still (ap (λ (us : List Writer). us ++ []) none) (rw q (none, tt)) (rw m refl) (λ zone. rw m refl)
  announce_course old front w new made posts none (Announces.fails call kept is goes n m q) = still (ap (λ (us : List Writer). us ++ []) none) (rw q (none, notices_still (notified s.sizes))) (rw m refl) (λ zone. rw m refl)

  device_course : (old : DeviceZone) (v : Vio) (new : DeviceZone) (made : Trace) (posts : List Post) → DeviceServes s.sizes old v new made posts → Course s t (at.Device old) (item.Request v ∷ []) made posts
  device_course old v new made posts (device.announces there act) = announce_course old (item.Request v) v.request new made posts (at_device v v.phase there) act
  device_course old v new made posts (device.stores x p to s durable inside n m q) = still (past v p) (rw q (refl, tt)) (rw m refl) (λ zone. rw m refl)
  device_course old v new made posts (device.store_fails x kept p to up durable inside n m q) = still (past v p) (rw q (refl, notices_still (notified s.sizes))) (rw m refl) (λ zone. rw m refl)
  device_course old v new made posts (device.store_unmade p s n m q) = still (past v p) (rw q (refl, tt)) (rw m refl) (λ zone. rw m refl)
  device_course old v new made posts (device.loads x bytes p from ready inside n m q) = still (past v p) (rw q (refl, tt)) (rw m refl) (λ zone. rw m refl)
  device_course old v new made posts (device.load_fails x bytes kept p from ready inside n m q) = still (past v p) (rw q (refl, tt)) (rw m refl) (λ zone. rw m refl)
  device_course old v new made posts (device.loads_leaf x bytes mappings p there ready inside page n m q) = still (past v p) (rw q (refl, tt)) (rw m refl) (λ zone. rw m refl)
  device_course old v new made posts (device.leaf_fails x bytes kept p there ready inside n m q) = still (past v p) (rw q (refl, tt)) (rw m refl) (λ zone. rw m refl)
  device_course old v new made posts (device.harms x bytes fault p there ready inside damaged n m q) = still (past v p) (rw q (refl, after_still s.sizes old.stopped)) (rw m refl) (λ zone. rw m refl)
  device_course old v new made posts (device.flushes p s durable n m q) = still (past v p) (rw q (refl, tt)) (rw m refl) (λ zone. rw m refl)
  device_course old v new made posts (device.flush_fails kept p up durable n m q) = still (past v p) (rw q (refl, notices_still (notified s.sizes))) (rw m refl) (λ zone. rw m refl)
  device_course old v new made posts (device.flush_unmade p s n m q) = still (past v p) (rw q (refl, tt)) (rw m refl) (λ zone. rw m refl)

  work_course : (old : DeviceZone) (b : SealedBlock) (new : DeviceZone) (made : Trace) (posts : List Post) → DeviceWorks s.sizes old b new made posts → Course s t (at.Device old) (item.Block b ∷ []) made posts
  work_course old b new made posts (device.announces v vs first there act) = announce_course old (item.Block b) v.request new made posts refl act
  work_course old b new made posts (device.makes call slot v vs first i c s durable n m q) = still refl (rw q (refl, tt)) (rw m refl) (λ zone. rw m refl)
  work_course old b new made posts (device.fails call slot kept v vs w i c up durable n m q) = still refl (rw q (refl, notices_still (notified s.sizes))) (rw m refl) (λ zone. rw m refl)
  work_course old b new made posts (device.unmade call slot v vs first c s n m q) = still refl (rw q (refl, tt)) (rw m refl) (λ zone. rw m refl)

-- a request that goes to its home is posted to one logical zone
at_home : (sizes : Sizes) (zone z : ℕ) (w : Writer) (x : Item) → arrival x ≡ w ∷ [] → only_of zone (Some z) w ≡ counted arrival (items_to sizes (logical_number zone) ((id.Logical z, x) ∷ []))
at_home sizes zone z w x is = elim (eqb_tells z zone) [
  | inl same ↦ elim (eqb_tells (logical_number z) (logical_number zone)) [
    | inl there ↦ rw (same.0, there.0) (sym (ap (λ (us : List Writer). us ++ []) is))
    | inr apart ↦ absurd (apart.1 (ap logical_number same.1))
  ]
  | inr other ↦ elim (eqb_tells (logical_number z) (logical_number zone)) [
    | inl there ↦ absurd (other.1 (omega (arith, there.1)))
    | inr apart ↦ rw (other.0, apart.0) refl
  ]
]

to_nobody : (b : Bool) (x : Item) → arrival x ≡ [] → [] ≡ counted arrival (cond b (x ∷ []) [])
to_nobody true x is = sym (ap (λ (us : List Writer). us ++ []) is)
to_nobody false x is = refl

-- a request that is begun is posted to the logical zone of its address, where it has one
posted_begun : (sizes : Sizes) (zone : ℕ) (w : Writer) (r : Request) (v : Vio) → vio_of sizes w r ≡ Some v
    → only_of zone (zone_asked sizes.zones (Some r)) w ≡ counted arrival (items_to sizes (logical_number zone) ((first_zone v, item.Request v) ∷ []))
posted_begun sizes zone w (request.Read at) v is = subst (λ (v : Vio). only_of zone (zone_asked sizes.zones (Some (request.Read at))) w ≡ counted arrival (items_to sizes (logical_number zone) ((first_zone v, item.Request v) ∷ []))) (same_Some _ _ is) (at_home sizes zone (zone_of sizes.zones at.0) w _ refl)
posted_begun sizes zone w (request.Write at bytes false) v is = subst (λ (v : Vio). only_of zone (zone_asked sizes.zones (Some (request.Write at bytes false))) w ≡ counted arrival (items_to sizes (logical_number zone) ((first_zone v, item.Request v) ∷ []))) (same_Some _ _ is) (at_home sizes zone (zone_of sizes.zones at.0) w _ refl)
posted_begun sizes zone w request.Flush v is = subst (λ (v : Vio). [] ≡ counted arrival (items_to sizes (logical_number zone) ((first_zone v, item.Request v) ∷ []))) (same_Some _ _ is) (to_nobody (nat_eq (device_number sizes) (logical_number zone)) _ refl)
posted_begun sizes zone w (request.Write at bytes true) v is = absurd cc
posted_begun sizes zone w (request.Discard at) v is = subst (λ (v : Vio). only_of zone (zone_asked sizes.zones (Some (request.Discard at))) w ≡ counted arrival (items_to sizes (logical_number zone) ((first_zone v, item.Request v) ∷ []))) (same_Some _ _ is) (at_home sizes zone (zone_of sizes.zones at.0) w _ refl)

-- a request that is answered by its vio has its place, or is a flush
answer_placed : (s : Session) (t : Trace) (v : Vio) (a : Answer) → RightTrace s t → VioOk s t v → HasCause s t v.request (request_of v) a
    → IsSome (place_of (places t) v.request) ⊎ (zone_asked s.sizes.zones (request_at s.script v.request) ≡ None)
answer_placed s t v a right ok cause = by v.asks ok.asked ok.address cause
  where
    by : (asks : Asks) → request_at s.script v.request ≡ Some (asked asks v.at v.bytes) → HasAddress s.sizes v.at asks → HasCause s t v.request (asked asks v.at v.bytes) a
        → IsSome (place_of (places t) v.request) ⊎ (zone_asked s.sizes.zones (request_at s.script v.request) ≡ None)
    by Read is below cause = inl (cause_placed s t v.request (request.Read v.at) v.at.0 a right refl below cause)
    by Write is below cause = inl (cause_placed s t v.request (request.Write v.at v.bytes false) v.at.0 a right refl below cause)
    by Discard is below cause = inl (cause_placed s t v.request (request.Discard v.at) v.at.0 a right refl below cause)
    by Flush is below cause = inr (ap (zone_asked s.sizes.zones) is)

module _ (s : Session) (t : Trace) (right : RightTrace s t) where
  begin_course : (old new : Desk) (made : Trace) (posts : List Post) → old.requests ≡ s.script → DeskBegins s.sizes old new made posts → Course s t (at.Desk old) [] made posts
  begin_course old new made posts script (desk.answers w r v reply i h served o n m q) =
      still refl (rw q tt) (rw m refl) (λ zone. elim (same_tells w w) [ inl same ↦ rw (m, same.0) refl | inr other ↦ absurd (other.1 refl) ])
  begin_course old new made posts script (desk.sends w r v i h served o n m q) =
      sends old refl (rw m refl) (λ zone.
      let here : request_at s.script w ≡ Some r = subst (λ (script : _). request_at script w ≡ Some r) script h in
      rw (m, q) (ap (λ (us : List Writer). sent_to_zone s zone t ++ us) (ap (λ (o : Option Request). only_of zone (zone_asked s.sizes.zones o) w) here ∙ posted_begun s.sizes zone w r v served)))

  -- an answer that isn't marked has its cause
  earned : (v : Vio) → ItemOk s t desk_number (item.Request v) → (a : Answer) → v.phase ≡ phase.Reply → v.answer ≡ Some a → is_marked v.asks a ≡ false → HasCause s t v.request (request_of v) a
  earned v ok a p h k =
      let may : MayReply s t v v.answer = (bare_of s t v phase.Reply (λ page no. no) (subst (λ (q : Phase). Carries s t v q) p ok.1)).1 in
      subst (λ (b : Bool). IsEarned s t (mark_of_vio v) (request_of v) a b) k (earned_by s t v a (subst (λ (o : Option Answer). MayReply s t v o) h may))

  desk_course : (old : Desk) (v : Vio) (new : Desk) (made : Trace) (posts : List Post) → ItemOk s t desk_number (item.Request v) → DeskServes s.sizes old v new made posts
      → Course s t (at.Desk old) (item.Request v ∷ []) made posts
  desk_course old v new made posts ok (desk.parks reply p h stopped told n m q) = still (past v p) (rw q tt) (rw m refl) (λ zone. rw m refl)
  desk_course old v new made posts ok (desk.answers reply p h stopped k spaced n m q) =
      still (past v p) (rw q tt) (rw m refl) (λ zone. rw m (answer_sends s t v.request reply zone right (answer_placed s t v reply right ok.0 (earned v ok reply p h k))))
  desk_course old v new made posts ok (desk.lacks p h n m q) =
      still (past v p) (rw q tt) (rw m refl) (λ zone. rw m (answer_sends s t v.request NoSpace zone right (answer_placed s t v NoSpace right ok.0 (earned v ok NoSpace p h refl))))
  desk_course old v new made posts ok (desk.marks p k h n m q) = still (past v p) (rw q tt) (rw m refl) (λ zone. rw m refl)

  -- each act is one of the three
  pub course : (n : ℕ) (old : ZoneData) (front : List Item) (new : ZoneData) (made : Trace) (posts : List Post) → Act s.sizes old front new made posts → DataOk s t n old → AllByRecursion (ItemOk s t n) front
      → KeptIn old → Course s t old front made posts
  course n old front new made posts (steps.begins act) ok fronts kept = begin_course _ _ _ _ ok.sound.requests act
  course n old front new made posts (steps.answers {v = v} act) ok fronts kept = desk_course _ v _ _ _ (subst (λ (m : ℕ). ItemOk s t m (item.Request v)) ok.number_is fronts.0) act
  course n old front new made posts (steps.hears {old = d}) ok fronts kept = still refl (woken_still d.parked kept) refl (λ zone. refl)
  course n old front new made posts (steps.serves act) ok fronts kept = logical_course s t _ _ _ _ _ kept act
  course n old front new made posts (steps.settles act) ok fronts kept = heard_course s t _ _ _ _ _ act
  course n old front new made posts (steps.updates act) ok fronts kept = update_course s t _ _ _ _ _ act
  course n old front new made posts (steps.halts {old = d} act) ok fronts kept =
      still refl (subst (AllByRecursion Still) (sym act.posts_are) (after_still s.sizes d.stopped)) (ap (λ (made : Trace). places (made ++ t)) act.made_is) (λ zone. ap (λ (made : Trace). sent_to_zone s zone (made ++ t)) act.made_is)
  course n old front new made posts steps.serves_notice ok fronts kept = still refl (refl, tt) refl (λ zone. refl)
  course n old front new made posts (steps.takes act) ok fronts kept = physical_course s t _ _ _ _ _ act
  course n old front new made posts steps.takes_notice ok fronts kept = still refl (refl, tt) refl (λ zone. refl)
  course n old front new made posts (steps.enters act) ok fronts kept = journal_course s t _ _ _ _ _ act
  course n old front new made posts (steps.ends act) ok fronts kept = end_course s t _ _ _ _ _ kept act
  course n old front new made posts (steps.enters_notice {old = j}) ok fronts kept = still refl (refl, refused_still s.sizes _ j.waiting) refl (λ zone. refl)
  course n old front new made posts (steps.calls act) ok fronts kept = device_course s t _ _ _ _ _ act
  course n old front new made posts (steps.works act) ok fronts kept = work_course s t _ _ _ _ _ act

-- posts that need no place count for nothing
still_counted : (sizes : Sizes) (n : ℕ) (ps : List Post) → AllByRecursion Still ps → counted arrival (items_to sizes n ps) ≡ []
still_counted sizes n [] h = refl
still_counted sizes n (p ∷ ps) h = one (nat_eq (zone_number sizes p.0) n) (still_counted sizes n ps h.1)
  where
    one : (b : Bool) → counted arrival (items_to sizes n ps) ≡ [] → counted arrival (cond b (p.1 ∷ items_to sizes n ps) (items_to sizes n ps)) ≡ []
    one true rest = ap (λ (us : List Writer). us ++ counted arrival (items_to sizes n ps)) h.0 ∙ rest
    one false rest = rest

-- What each act owes of the arrivals at a logical zone.
module _ (s : Session) (t : Trace) (zone n : ℕ) (old : ZoneData) (front : List Item) (made : Trace) (posts : List Post) (ok : DataOk s t n old) where
  pub arrivals_kept : Course s t old front made posts → Keeps (arrivals_at s zone) s.sizes n t front made posts
  arrivals_kept (still f q p sent) = record {
    sends = λ is. sent zone ∙ sym (ap (λ (us : List Writer). sent_to_zone s zone t ++ us) (still_counted s.sizes (logical_number zone) posts q) ∙ append-nil (sent_to_zone s zone t));
    sent_same = λ ne. sent zone;
    nothing = λ ne. still_counted s.sizes (logical_number zone) posts q;
    takes = λ is. ap (drew_in zone) p ∙ sym (ap (λ (us : List Writer). drew_in zone (places t) ++ us) f ∙ append-nil (drew_in zone (places t)));
    taken_same = λ ne. ap (drew_in zone) p;
  }
  arrivals_kept (draws l v is fronts arrives q p sent) =
      let number : n ≡ logical_number l.zone = (subst (λ (d : ZoneData). DataOk s t n d) is ok).number_is in
      record {
        sends = λ from. absurd (omega (arith, from, number));
        sent_same = λ ne. sent zone;
        nothing = λ ne. still_counted s.sizes (logical_number zone) posts q;
        takes = λ to. ap (drew_in zone) p ∙ at_own l v (elim (eqb_tells l.zone zone) [ inl same ↦ same.1 | inr other ↦ absurd (other.1 (omega (arith, number, to))) ]) fronts arrives;
        taken_same = λ ne. ap (drew_in zone) p ∙ elsewhere l v (λ e. ne (number ∙ ap logical_number e));
      }
    where
      at_own : (l : LogicalZone) (v : Vio) → l.zone ≡ zone → front ≡ item.Request v ∷ [] → v.phase ≡ phase.Arrive → drew_in zone (place_of_vio l v ∷ places t) ≡ drew_in zone (places t) ++ counted arrival front
      at_own l v is fronts arrives = elim (eqb_tells l.zone zone) [
        | inl same ↦ rw (same.0, fronts) (sym (ap (λ (us : List Writer). drew_in zone (places t) ++ us) (past v arrives)))
        | inr other ↦ absurd (other.1 is)
      ]

      elsewhere : (l : LogicalZone) (v : Vio) → (l.zone ≡ zone → ⊥) → drew_in zone (place_of_vio l v ∷ places t) ≡ drew_in zone (places t)
      elsewhere l v ne = elim (eqb_tells l.zone zone) [ inl same ↦ absurd (ne same.1) | inr other ↦ rw other.0 refl ]
  arrivals_kept (sends d is p sent) =
      let number : n ≡ desk_number = (subst (λ (d : ZoneData). DataOk s t n d) is ok).number_is in
      record {
        sends = λ from. sent zone;
        sent_same = λ ne. absurd (ne number);
        nothing = λ ne. absurd (ne number);
        takes = λ to. absurd (omega (arith, to, number));
        taken_same = λ ne. ap (drew_in zone) p;
      }

-- In their order: each request is of a greater number than those of its stream before it.
abbrev pub Before : Writer → Writer → Type 0
Before w u = w.stream ≡ u.stream → w.number < u.number

abbrev pub Rising : List Writer → Type 0
Rising [] = Unit {0}
Rising (u ∷ us) = AllByRecursion (Before u) us × Rising us

rising_more : (us : List Writer) (w : Writer) → Rising us → AllByRecursion (λ u. Before u w) us → Rising (us ++ w ∷ [])
rising_more [] w rises before = (tt, tt)
rising_more (u ∷ us) w rises before = (every-append (Before u) us (w ∷ []) rises.0 (before.0, tt), rising_more us w rises.1 before.1)

-- whoever stands behind some follows them
rising_behind : (us vs : List Writer) (w : Writer) → Rising (us ++ w ∷ vs) → AllByRecursion (λ u. Before u w) us
rising_behind [] vs w rises = tt
rising_behind (u ∷ us) vs w rises = ((every-front (Before u) us (w ∷ vs) rises.0).1.0, rising_behind us vs w rises.1)

abbrev pub IsBegun : Trace → Writer → Type 0
IsBegun t w = w.number < begun w.stream (lines t)

record IsSentRight (t : Trace) (us : List Writer) : Type 0 where
  pub begun_all : AllByRecursion (IsBegun t) us
  pub rises : Rising us

sent_more : (s : Session) (zone : ℕ) (t : Trace) (w : Writer) (o : Option ℕ) → w.number ≡ begun w.stream (lines t) → IsSentRight t (sent_to_zone s zone t)
    → AllByRecursion (IsBegun (Says (line.Begin w) ∷ t)) (sent_to_zone s zone t) → IsSentRight (Says (line.Begin w) ∷ t) (sent_to_zone s zone t ++ only_of zone o w)
sent_more s zone t w None number right stays = record { begun_all = subst (λ (us : List Writer). AllByRecursion (IsBegun (Says (line.Begin w) ∷ t)) us) (sym (append-nil _)) stays; rises = subst Rising (sym (append-nil _)) right.rises }
sent_more s zone t w (Some z) number right stays = elim (eqb_tells z zone) [
  | inl same ↦ rw same.0 (record {
    begun_all = every-append (IsBegun (Says (line.Begin w) ∷ t)) (sent_to_zone s zone t) (w ∷ []) stays (begun_now w (lines t) number, tt);
    rises = rising_more (sent_to_zone s zone t) w right.rises (every-map {P = IsBegun t} {Q = λ u. Before u w} (λ u below same. subst (λ (n : ℕ). u.number < n) (sym number) (subst (λ (stream : ℕ). u.number < begun stream (lines t)) same below)) (sent_to_zone s zone t) right.begun_all);
  })
  | inr other ↦ rw other.0 (record { begun_all = subst (λ (us : List Writer). AllByRecursion (IsBegun (Says (line.Begin w) ∷ t)) us) (sym (append-nil _)) stays; rises = subst Rising (sym (append-nil _)) right.rises })
]

-- what holds of the requests that were sent still holds one happening later
later : (s : Session) (h : Happening) (t : Trace) (us : List Writer) → MayFollow s h t → IsSentRight t us → IsSentRight (h ∷ t) us
later s h t us may right = record { begun_all = every-map {P = IsBegun t} {Q = IsBegun (h ∷ t)} (λ w is. begun_stays s h t w may is) us right.begun_all; rises = right.rises }

sent_right : (s : Session) (zone : ℕ) (t : Trace) → RightTrace s t → IsSentRight t (sent_to_zone s zone t)
sent_right s zone [] right = record { begun_all = tt; rises = tt }
sent_right s zone (Says (line.Begin w) ∷ t) right =
    let before = sent_right s zone t right.2 in
    sent_more s zone t w (zone_asked s.sizes.zones (request_at s.script w)) right.0.0 before (later s (Says (line.Begin w)) t (sent_to_zone s zone t) right.0 before).begun_all
sent_right s zone (Says (line.Answer w a) ∷ Says (line.Begin v) ∷ t) right = elim (same_tells w v) [
  | inl same ↦ rw same.0 (later s (Says (line.Answer w a)) (Says (line.Begin v) ∷ t) (sent_to_zone s zone t) right.0 (later s (Says (line.Begin v)) t (sent_to_zone s zone t) right.2.0 (sent_right s zone t right.2.2)))
  | inr other ↦ rw other.0 (later s (Says (line.Answer w a)) (Says (line.Begin v) ∷ t) _ right.0 (sent_right s zone (Says (line.Begin v) ∷ t) right.2))
]
sent_right s zone (h ∷ t) right = later s h t (sent_to_zone s zone t) right.0 (sent_right s zone t right.2)

-- each place of the zone is of one that drew in it
drew_of : (P : Writer → Type 0) (zone : ℕ) (ps : List Placed) → AllByRecursion P (drew_in zone ps) → AllByRecursion (λ (p : Placed). p.zone ≡ zone → P p.request) ps
drew_of P zone [] h = tt
drew_of P zone (p ∷ ps) h = elim (eqb_tells p.zone zone) [
  | inl same ↦ let both = every-front P (drew_in zone ps) (p.request ∷ []) (rw same.0 at h) in (λ is. both.1.0, drew_of P zone ps both.0)
  | inr other ↦ (λ is. absurd (other.1 is), drew_of P zone ps (rw other.0 at h))
]

-- A request that arrives in its turn follows all of its stream that drew a place of the zone.
pub arrives_in_turn : (s : Session) (t : Trace) (zone : ℕ) (w : Writer) (more : List Writer) → RightTrace s t → sent_to_zone s zone t ≡ drew_in zone (places t) ++ w ∷ more
    → AllByRecursion (ComesAfter zone w) (places t)
arrives_in_turn s t zone w more right is =
    let rises = subst Rising is (sent_right s zone t right).rises in
    every-map {P = λ (p : Placed). p.zone ≡ zone → Before p.request w} {Q = ComesAfter zone w} (λ p before. before) (places t) (drew_of (λ u. Before u w) zone (places t) (rising_behind (drew_in zone (places t)) more w rises))
