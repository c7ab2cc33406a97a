-- What a zone does with an item, and the desk with none, is fixed, and at the device by how it answered: two acts on the
-- same keep, make and post the same.
use Rattle.std.proofs.Common.{ℕ, ◌+◌, ◌≡◌, Bool, true, false, not, ◌&&◌, Option, None, Some, List, [], ◌∷◌, ◌++◌, slice_index_or, refl, sym, ap, ◌∙◌, subst, inl, inr, arith}
use Rattle.core_laws.proofs.Common.{Aborts, Answer, Calls, Commits, Desk, DeviceZone, Draws, Enters, Flushes, Gives, Item, JournalZone, LogicalZone, Passes, Pbn, Phase, PhysicalZone, Post, Says, Request, SealedBlock, Seals, Sets, Sizes, Stage, Takes, Trace, Vio, Writer, ZoneData, ended, gift, logged, notified, request_at, staged, turned, Call, Fails, SuperblockStage, Harms}
use Rattle.blk_base.specs.Pages.{slot_of_address}
use Rattle.blk_base.specs.declared.place.ZoneId.TheVariants as id
use Rattle.blk_base.specs.declared.request.Answer.TheVariants as reply
use Rattle.disk_model.specs.declared.call.Call.TheVariants.{Read}
use Rattle.vdo_model.specs.declared.report.DeskLine.TheVariants as line
use Rattle.data_vio.specs.declared.items.Item.TheVariants as item
use Rattle.data_vio.specs.declared.items.Phase.TheVariants as phase
use Rattle.data_vio.specs.declared.items.Stage.TheVariants as stage
use Rattle.core_model.specs.declared.zones.ZoneData.TheVariants as at
use Rattle.core_model.specs.DeskRules.{BeginsNext, DeskBegins, DeskServes, parks, answers, marks, lacks as finds_none, at_once, first_zone, vio_of, is_no_space, is_notified, is_stopped, is_marked, mark_of_vio, receipt_of_vio}
use Rattle.core_model.specs.DeviceRules.{Announces, DeviceHears, DeviceServes, DeviceWorks, IsReady, counted, halted, harmed, notices_after, stop_notices, next_stage, next_superblock, next_zone, superblock_call}
use Rattle.core_model.specs.declared.zones.SuperblockStage.TheVariants.{AsOpened, Written, Durable}
use Rattle.core_model.specs.PhysicalRules.{BeginsNext as BeginsStep, PhysicalServes, PhysicalTakes, asks_on, served, spent_for, tells, with_counts}
use Rattle.core_model.specs.Trace.{Asks as AsksIn, Withdraws}
use Rattle.slab_counts.specs.declared.tickets.Receipt.{Receipt}
use Rattle.slab_counts.specs.declared.tickets.Ticket.{Ticket}
use Rattle.slab_tickets.specs.declared.forms.Withdrawn.TheVariants.{Block, Nothing}
use Rattle.slab_tickets.specs.declared.forms.Withdrawn.{Withdrawn}
use Rattle.zone_counts.specs.ByBlock.{served_ticket}
use Rattle.zone_counts.specs.declared.forms.Asked.TheVariants as asked_by
use Rattle.zone_counts.proofs.TicketLaws.{begun_slabs}
use Rattle.blk_base.specs.declared.point.Half.TheVariants as half
use Rattle.core_laws.proofs.Common.{Adds, Drops, Remapping, Removes, Strays, same_Some}
use Rattle.slab_counts.specs.Counts.{Counts, IsStray, Takes as Fits, unclaimed}
use Rattle.vdo_model.specs.declared.report.Damage.{Damage}
use Rattle.zone_counts.proofs.OneAnswer.{one_applied, one_asked, one_begun, one_changed, one_lowest, one_passed, one_ticket, one_worth}
use Rattle.zone_counts.specs.ZoneAnswers.{GivesBlock, GivesTicket, WithdrawsFrom}
use Rattle.zone_counts.specs.Zone.{Changes, NoneFree, slab_of}
use Rattle.zone_counts.specs.Zone.{Zone as Counting}
use Rattle.core_model.specs.JournalRules.{JournalServes, JournalEnds, is_closed, has_block, has_room, next_block, refused, all_refused, all_again, all_dropped, entered_by, committed_by, sealed_by, hands_out}
use Rattle.blk_base.specs.declared.place.Mapping.{Mapping}
use Rattle.blk_base.specs.declared.place.PageId.{PageId}
use Rattle.block_map_tree.specs.Tree.{Tree}
use Rattle.data_vio.specs.declared.items.Asks.{Asks}
use Rattle.data_vio.specs.declared.items.Asks.TheVariants.{Write}
use Rattle.data_vio.specs.Vios as vios
use Rattle.data_vio.specs.Vios.{counts_of, has_leaf, makes, reads_leaf}
use Rattle.core_model.specs.LogicalRules as logical
use Rattle.core_model.specs.LogicalRules.{LogicalHears, LogicalServes, awaits_report, reports_left, settled, settled_posts, settling_of, without_settling, is_among, is_discard, is_held, lacks, lacks_for, lock_of, all_for, placed, place_of_vio, drawn_by, goes_on, granted, known_at, looked, pass_of, passes_by, looks_up, released, retire, all_stopped, unmade, with_slot, woken}
use Rattle.core_model.specs.PageTrees.{but_page, is_listed, leaf_at}
use Rattle.image_model.proofs.MapLaws.{slot_says_its_mapping}
use Rattle.image_model.specs.Maps.{mapping_in}
use Rattle.page_codec.proofs.ReadLaws.{slots}
use Rattle.page_codec.specs.Grammar.{IsPage}
use Rattle.page_codec.specs.declared.forms.PageHead.{PageHead}
use Rattle.std.proofs.Math.Nat.{mod-lt}
use Rattle.vdo_model.specs.declared.report.Damage.TheVariants.{Page}
use Rattle.core_laws.proofs.logical.PageFacts.{linked_tree}
use Rattle.core_model.specs.Steps.{Act, CallsDevice}
use Rattle.core_laws.proofs.desk.BeginLaws.{begins_one}
use Rattle.core_model.specs.Steps as steps
use Rattle.blk_base.specs.declared.place.Mapping.TheVariants.{At, Unmapped}

-- what a zone keeps, what happens, and what is posted
abbrev Result : Type 0 → Type 0
Result Z = Z × Trace × List Post

three : {Z : Type 0} (a b : Z) (made made' : Trace) (posts posts' : List Post) → a ≡ b → made ≡ made' → posts ≡ posts' → ◌≡◌ {A = Result Z} (a, made, posts) (b, made', posts')
three a b made made' posts posts' p q r = rw (p, q, r) refl

abbrev to_desk : Phase → Vio → Post
to_desk now v = (id.Desk, item.Request (turned now v))

-- the desk
abbrev reply_at : Desk → Vio → Answer → (waits marked lacks : Bool) → Result Desk
reply_at desk v a true marked lacks = (record desk { parked = desk.parked ++ v ∷ [] }, [], [])
reply_at desk v a false true lacks = (record desk { log = line.Answer v.request reply.Ok ∷ desk.log; marks = mark_of_vio v ∷ desk.marks }, Flushes (mark_of_vio v) ∷ [], [])
reply_at desk v a false false true =
    (record desk { log = line.Answer v.request reply.NoSpace ∷ desk.log; receipts = receipt_of_vio v ∷ desk.receipts }, Says (line.Answer v.request reply.NoSpace) ∷ [], [])
reply_at desk v a false false false = (record desk { log = line.Answer v.request a ∷ desk.log }, Says (line.Answer v.request a) ∷ [], [])

abbrev desk_at : Sizes → Desk → Vio → Option Answer → Result Desk
desk_at sizes desk v None = (desk, [], [])
desk_at sizes desk v (Some a) = reply_at desk v a (is_stopped a && not (is_notified sizes desk)) (is_marked v.asks a) (is_no_space a)

waits_not : (stops notified : Bool) → (stops ≡ true → notified ≡ true) → (stops && not notified) ≡ false
waits_not true notified h = rw (h refl) refl
waits_not false notified h = refl

desk_is : (sizes : Sizes) (desk : Desk) (v : Vio) (new : Desk) (made : Trace) (posts : List Post) → DeskServes sizes desk v new made posts → (new, made, posts) ≡ desk_at sizes desk v v.answer
desk_is sizes desk v new made posts (parks a is answer stops waits n m q) = rw (n, m, q, answer, stops, waits) refl
desk_is sizes desk v new made posts (answers a is answer told unmarked spaced n m q) = rw (n, m, q, answer, waits_not (is_stopped a) (is_notified sizes desk) told, unmarked, spaced) refl
desk_is sizes desk v new made posts (marks is asks answer n m q) = rw (n, m, q, answer, asks) refl
desk_is sizes desk v new made posts (finds_none is answer n m q) = rw (n, m, q, answer) refl

-- it begins a request
abbrev vio_asked : Sizes → Writer → Option Request → Option Vio
vio_asked sizes w None = None
vio_asked sizes w (Some r) = vio_of sizes w r

abbrev begin_at : Desk → Writer → Vio → Option Answer → Result Desk
begin_at desk w v (Some a) = (record desk { log = line.Answer w a ∷ line.Begin w ∷ desk.log }, Says (line.Answer w a) ∷ Says (line.Begin w) ∷ [], [])
begin_at desk w v None = (record desk { log = line.Begin w ∷ desk.log }, Says (line.Begin w) ∷ [], (first_zone v, item.Request v) ∷ [])

abbrev begin_by : Sizes → Desk → Writer → Option Vio → Result Desk
begin_by sizes desk w None = (desk, [], [])
begin_by sizes desk w (Some v) = begin_at desk w v (at_once sizes (is_notified sizes desk) v.asks v.at.0)

abbrev begun_at : Sizes → Desk → Writer → Result Desk
begun_at sizes desk w = begin_by sizes desk w (vio_asked sizes w (request_at desk.requests w))

begin_is : (sizes : Sizes) (desk new : Desk) (made : Trace) (posts : List Post) → DeskBegins sizes desk new made posts
    → (w : Writer) × BeginsNext sizes.depth desk w × ((new, made, posts) ≡ begun_at sizes desk w)
begin_is sizes desk new made posts (DeskBegins.answers w r v a next asked served once n m q) = (w, next, rw (n, m, q, asked, served, once) refl)
begin_is sizes desk new made posts (DeskBegins.sends w r v next asked served once n m q) = (w, next, rw (n, m, q, asked, served, once) refl)

-- The physical zone, by what its counts answer: the block that it is about, the counts then, and the ticket to which a block passed; a
-- ticket that is given; one that is withdrawn, with a block, with one that passes on, or with none; or nothing.
data Answered : Type 0 where
  Nought : Answered
  OfBlock : Pbn → Counting → Option ℕ → Answered
  Given : Ticket → Counting → Answered
  Taken : Ticket → List Ticket → Pbn → Counting → Answered
  Dropped : Ticket → List Ticket → Pbn → Counting → Option ℕ → Answered
  InVain : Ticket → List Ticket → Receipt → Counting → Answered

-- a ticket is withdrawn in a step that begins
record IsBack (p : PhysicalZone) (v : Vio) (k : Ticket) (others : List Ticket) (z : Counting) (worth : Withdrawn) : Type 0 where
  begun : Counting
  has : v.tickets ≡ k ∷ others
  begins : BeginsStep p.counts begun
  from : WithdrawsFrom begun z k worth

-- a claim is dropped, and its block may pass to a ticket
record IsPassed (old z : Counting) (x : Pbn) (to : Option ℕ) : Type 0 where
  change : Changes old z x (unclaimed (slab_of old x) x)
  to_is : to ≡ served_ticket change.serves

-- and so is the block of a ticket that is withdrawn
record IsSpared (p : PhysicalZone) (v : Vio) (k : Ticket) (others : List Ticket) (x : Pbn) (z : Counting) (to : Option ℕ) : Type 0 where
  own : Pbn
  claimed : v.claim ≡ Some own
  between : Counting
  back : IsBack p v k others between (Block x)
  passed : IsPassed between z x to

abbrev IsAnswer : PhysicalZone → Vio → Phase → Answered → Type 0
IsAnswer p v phase.Claim (OfBlock x z to) = GivesBlock p.counts z x × (to ≡ None)
IsAnswer p v phase.Claim (Given k z) = (b : Counting) × BeginsStep p.counts b × GivesTicket b z v.request k
IsAnswer p v phase.Withdraw (Taken k others x z) = IsBack p v k others z (Block x) × (v.claim ≡ None)
IsAnswer p v phase.Withdraw (Dropped k others x z to) = IsSpared p v k others x z to
IsAnswer p v phase.Withdraw (InVain k others r z) = IsBack p v k others z (Nothing r)
IsAnswer p v phase.Count (OfBlock x z to) = (v.claim ≡ Some x) × ((slab : Counts) × Fits half.Increment (slab_of (spent_for v.page p.counts x) x) slab x × Changes (spent_for v.page p.counts x) z x slab) × (to ≡ None)
IsAnswer p v phase.AbortClaim Nought = v.claim ≡ None
IsAnswer p v phase.AbortClaim (OfBlock x z to) = (v.claim ≡ Some x) × IsPassed p.counts z x to
IsAnswer p v phase.AbortEnteredClaim Nought = Unit {0}
IsAnswer p v other answer = ⊥

-- it has one
both_are : (x y : Pbn) (z w : Counting) (to to' : Option ℕ) → x ≡ y → z ≡ w → to ≡ to' → ◌≡◌ {A = Answered} (OfBlock x z to) (OfBlock y w to')
both_are x y z w to to' p q r = rw (p, q, r) refl

not_free : (p : PhysicalZone) (x : Pbn) (z : Counting) → NoneFree p.counts.slabs → GivesBlock p.counts z x → ⊥
not_free p x z none gives = none gives.claims.place gives.claims.inside x gives.claims.claims.of_slab gives.claims.claims.free

not_given : (p : PhysicalZone) (v : Vio) (x : Pbn) (z w : Counting) (k : Ticket) → GivesBlock p.counts z x → (b : Counting) × BeginsStep p.counts b × GivesTicket b w v.request k → ⊥
not_given p v x z w k gives (b, begins, given) = not_free p x z (subst NoneFree (begun_slabs p.counts b _ begins) given.none_free) gives

-- a ticket that is given
one_given : (p : PhysicalZone) (v : Vio) (k j : Ticket) (z w : Counting) → (b : Counting) × BeginsStep p.counts b × GivesTicket b z v.request k → (b : Counting) × BeginsStep p.counts b × GivesTicket b w v.request j → (k ≡ j) × (z ≡ w)
one_given p v k j z w (b, begins, given) (c, begins', given') =
    let same : c ≡ b = one_begun p.counts c b _ begins' begins in
    let there : GivesTicket b w v.request j = subst (λ (d : Counting). GivesTicket d w v.request j) same given' in
    let both = one_asked b z w v.request (asked_by.Ticket k) (asked_by.Ticket j) given there in
    (let answers = both.1 in cc, both.0)

-- one that is withdrawn
one_back : (p : PhysicalZone) (v : Vio) (k j : Ticket) (others others' : List Ticket) (z w : Counting) (worth worth' : Withdrawn) → IsBack p v k others z worth → IsBack p v j others' w worth'
    → (k ≡ j) × (others ≡ others') × (z ≡ w) × (worth ≡ worth')
one_back p v k j others others' z w worth worth' one two =
    let lists : k ∷ others ≡ j ∷ others' = sym one.has ∙ two.has in
    let same : k ≡ j = cc in
    let rest : others ≡ others' = cc in
    let step : two.begun ≡ one.begun = one_begun p.counts two.begun one.begun _ two.begins one.begins in
    let there : WithdrawsFrom one.begun w j worth' = subst (λ (d : Counting). WithdrawsFrom d w j worth') step two.from in
    let here : WithdrawsFrom one.begun w k worth' = subst (λ (q : Ticket). WithdrawsFrom one.begun w q worth') (sym same) there in
    let both = one_worth one.begun z w k worth worth' one.from here in
    (same, rest, both.0, both.1)

-- a drop, by what passes
one_dropped : (old z w : Counting) (x : Pbn) (to to' : Option ℕ) → IsPassed old z x to → IsPassed old w x to' → (z ≡ w) × (to ≡ to')
one_dropped old z w x to to' one two = (
  one_changed old z w x (unclaimed (slab_of old x) x) one.change two.change,
  one.to_is ∙ one_ticket _ _ z.slabs w.slabs old.desk z.desk w.desk refl one.change.serves two.change.serves ∙ sym two.to_is,
)

one_spared : (p : PhysicalZone) (v : Vio) (k j : Ticket) (others others' : List Ticket) (x y : Pbn) (z w : Counting) (to to' : Option ℕ) → IsSpared p v k others x z to → IsSpared p v j others' y w to'
    → ◌≡◌ {A = Answered} (Dropped k others x z to) (Dropped j others' y w to')
one_spared p v k j others others' x y z w to to' one two =
    let back = one_back p v k j others others' one.between two.between (Block x) (Block y) one.back two.back in
    let worth : Block x ≡ Block y = back.3 in
    let block : x ≡ y = cc in
    let there : IsPassed one.between w x to' = subst (λ (b : Pbn). IsPassed one.between w b to') (sym block) (subst (λ (m : Counting). IsPassed m w y to') (sym back.2) two.passed) in
    let both = one_dropped one.between z w x to to' one.passed there in
    rw (back.0, back.1, block, both.0, both.1) refl

taken_are : (k j : Ticket) (others others' : List Ticket) (x y : Pbn) (z w : Counting) → (k ≡ j) × (others ≡ others') × (z ≡ w) × (Block x ≡ Block y) → ◌≡◌ {A = Answered} (Taken k others x z) (Taken j others' y w)
taken_are k j others others' x y z w same = let worth = same.3 in let block : x ≡ y = cc in rw (same.0, same.1, same.2, block) refl

vain_are : (k j : Ticket) (others others' : List Ticket) (r q : Receipt) (z w : Counting) → (k ≡ j) × (others ≡ others') × (z ≡ w) × (Nothing r ≡ Nothing q) → ◌≡◌ {A = Answered} (InVain k others r z) (InVain j others' q w)
vain_are k j others others' r q z w same = let worth = same.3 in let receipt : r ≡ q = cc in rw (same.0, same.1, same.2, receipt) refl

given_are : (k j : Ticket) (z w : Counting) → (k ≡ j) × (z ≡ w) → ◌≡◌ {A = Answered} (Given k z) (Given j w)
given_are k j z w same = rw (same.0, same.1) refl

apart : (x : Pbn) (r : Receipt) → Block x ≡ Nothing r → ⊥
apart x r same = cc

one_answer : (p : PhysicalZone) (v : Vio) (q : Phase) (a b : Answered) → IsAnswer p v q a → IsAnswer p v q b → a ≡ b
one_answer p v phase.Claim (Given k z) (Given j w) one two = given_are k j z w (one_given p v k j z w one two)
one_answer p v phase.Claim (Given k z) (OfBlock x w to) one two = absurd (not_given p v x w z k two.0 one)
one_answer p v phase.Claim (OfBlock x z to) (Given k w) one two = absurd (not_given p v x z w k one.0 two)
one_answer p v phase.Claim (OfBlock x z to) (OfBlock y w to') one two =
    let lowest = one_lowest p.counts.slabs z.slabs w.slabs x y one.0.claims two.0.claims in
    both_are x y z w to to' lowest.0 (one.0.same ∙ ap (λ (slabs : List Counts). record p.counts { slabs = slabs }) lowest.1 ∙ sym two.0.same) (one.1 ∙ sym two.1)
one_answer p v phase.Withdraw (Taken k others x z) (Taken j others' y w) one two = taken_are k j others others' x y z w (one_back p v k j others others' z w (Block x) (Block y) one.0 two.0)
one_answer p v phase.Withdraw (Taken k others x z) (Dropped j others' y w to) one two = absurd (let both : None ≡ Some two.own = sym one.1 ∙ two.claimed in cc)
one_answer p v phase.Withdraw (Taken k others x z) (InVain j others' r w) one two = absurd (apart x r (one_back p v k j others others' z w (Block x) (Nothing r) one.0 two).3)
one_answer p v phase.Withdraw (Dropped k others x z to) (Taken j others' y w) one two = absurd (let both : None ≡ Some one.own = sym two.1 ∙ one.claimed in cc)
one_answer p v phase.Withdraw (Dropped k others x z to) (Dropped j others' y w to') one two = one_spared p v k j others others' x y z w to to' one two
one_answer p v phase.Withdraw (Dropped k others x z to) (InVain j others' r w) one two = absurd (apart x r (one_back p v k j others others' one.between w (Block x) (Nothing r) one.back two).3)
one_answer p v phase.Withdraw (InVain k others r z) (Taken j others' y w) one two = absurd (apart y r (sym (one_back p v k j others others' z w (Nothing r) (Block y) one two.0).3))
one_answer p v phase.Withdraw (InVain k others r z) (Dropped j others' y w to) one two = absurd (apart y r (sym (one_back p v k j others others' z two.between (Nothing r) (Block y) one two.back).3))
one_answer p v phase.Withdraw (InVain k others r z) (InVain j others' q w) one two = vain_are k j others others' r q z w (one_back p v k j others others' z w (Nothing r) (Nothing q) one two)
one_answer p v phase.Count (OfBlock x z to) (OfBlock y w to') (claim, (slab, takes, change), none) two =
    let same : y ≡ x = same_Some _ _ (sym two.0 ∙ claim) in
    let others = subst (λ (b : Pbn). (slab : Counts) × Fits half.Increment (slab_of (spent_for v.page p.counts b) b) slab b × Changes (spent_for v.page p.counts b) w b slab) same two.1 in
    both_are x y z w to to' (sym same) (one_applied half.Increment (spent_for v.page p.counts x) z w x slab others.0 takes change others.1 others.2) (none ∙ sym two.2)
one_answer p v phase.AbortClaim Nought Nought one two = refl
one_answer p v phase.AbortClaim Nought (OfBlock x z to) one two = absurd (let both : None ≡ Some x = sym one ∙ two.0 in cc)
one_answer p v phase.AbortClaim (OfBlock x z to) Nought one two = absurd (let both : None ≡ Some x = sym two ∙ one.0 in cc)
one_answer p v phase.AbortClaim (OfBlock x z to) (OfBlock y w to') one two =
    let same : y ≡ x = same_Some _ _ (sym two.0 ∙ one.0) in
    let both = one_dropped p.counts z w x to to' one.1 (subst (λ (b : Pbn). IsPassed p.counts w b to') same two.1) in
    both_are x y z w to to' (sym same) both.0 both.1
one_answer p v phase.AbortEnteredClaim Nought Nought one two = refl
one_answer p v phase.Claim (Given k z) b one two = absurd two
one_answer p v phase.Claim (OfBlock x z to) b one two = absurd two
one_answer p v phase.Withdraw (Taken k others x z) b one two = absurd two
one_answer p v phase.Withdraw (Dropped k others x z to) b one two = absurd two
one_answer p v phase.Withdraw (InVain k others r z) b one two = absurd two
one_answer p v phase.Count (OfBlock x z to) b one two = absurd two
one_answer p v phase.AbortClaim Nought b one two = absurd two
one_answer p v phase.AbortClaim (OfBlock x z to) b one two = absurd two
one_answer p v phase.AbortEnteredClaim Nought b one two = absurd two
one_answer p v q a b one two = absurd one

abbrev physical_at : Sizes → PhysicalZone → Vio → Phase → Answered → Result PhysicalZone
physical_at sizes p v phase.Claim (Given k z) = (with_counts z p, AsksIn v.request k ∷ [], asks_on sizes (vios.holding k v) ∷ [])
physical_at sizes p v phase.Claim (OfBlock x z to) = (with_counts z p, Takes v.request v.page x ∷ [], served (vios.claiming x v) ∷ [])
physical_at sizes p v phase.Withdraw (Taken k others x z) = (with_counts z p, Withdraws v.request k (Some x) ∷ [], served (vios.claiming x (vios.with_tickets others v)) ∷ [])
physical_at sizes p v phase.Withdraw (Dropped k others x z to) = (with_counts z p, Drops v.request x to ∷ Withdraws v.request k (Some x) ∷ [], served (vios.with_tickets others v) ∷ [])
physical_at sizes p v phase.Withdraw (InVain k others r z) = (with_counts z p, Withdraws v.request k None ∷ [], served (vios.refused r (vios.with_tickets others v)) ∷ [])
physical_at sizes p v phase.Count (OfBlock x z to) = (with_counts z p, Adds (logged v) ∷ [], (v.home, item.Request (vios.unclaiming phase.Settle v)) ∷ [])
physical_at sizes p v phase.AbortClaim Nought = (p, [], (v.home, item.Request (turned phase.Abort v)) ∷ [])
physical_at sizes p v phase.AbortClaim (OfBlock x z to) = (with_counts z p, Drops v.request x to ∷ [], (v.home, item.Request (vios.unclaiming phase.Abort v)) ∷ [])
physical_at sizes p v phase.AbortEnteredClaim answer = (p, [], (v.home, item.Request (vios.unclaiming phase.AbortEntered v)) ∷ [])
physical_at sizes p v other answer = (p, [], [])

-- an act is what an answer makes it
abbrev IsBy : Sizes → PhysicalZone → Vio → Phase → Result PhysicalZone → Type 0
IsBy sizes p v q result = (answer : Answered) × IsAnswer p v q answer × (result ≡ physical_at sizes p v q answer)

physical_is : (sizes : Sizes) (p : PhysicalZone) (v : Vio) (new : PhysicalZone) (made : Trace) (posts : List Post) → PhysicalServes sizes p v new made posts → IsBy sizes p v v.phase (new, made, posts)
physical_is sizes p v new made posts (PhysicalServes.claims x z is gives n m q) = subst (λ (h : Phase). IsBy sizes p v h (new, made, posts)) (sym is) (OfBlock x z None, (gives, refl), three new _ made _ posts _ n m q)
physical_is sizes p v new made posts (PhysicalServes.asks k b z is fewer begins gives n m q) = subst (λ (h : Phase). IsBy sizes p v h (new, made, posts)) (sym is) (Given k z, (b, begins, gives), three new _ made _ posts _ n m q)
physical_is sizes p v new made posts (PhysicalServes.takes_block k others x b z is has none begins from n m q) =
    subst (λ (h : Phase). IsBy sizes p v h (new, made, posts)) (sym is) (Taken k others x z, (record { begun = b; has = has; begins = begins; from = from }, none), three new _ made _ posts _ n m q)
physical_is sizes p v new made posts (PhysicalServes.drops_block k others x y b between z is has some begins from claim change n m q) =
    subst (λ (h : Phase). IsBy sizes p v h (new, made, posts)) (sym is) (
      Dropped k others x z (served_ticket change.serves),
      record { own = y; claimed = some; between = between; back = record { begun = b; has = has; begins = begins; from = from }; passed = record { change = change; to_is = refl } },
      three new _ made _ posts _ n m q,
    )
physical_is sizes p v new made posts (PhysicalServes.has_none k others r b z is has begins from n m q) =
    subst (λ (h : Phase). IsBy sizes p v h (new, made, posts)) (sym is) (InVain k others r z, record { begun = b; has = has; begins = begins; from = from }, three new _ made _ posts _ n m q)
physical_is sizes p v new made posts (PhysicalServes.counts x slab z is claim own takes change n m q) =
    subst (λ (h : Phase). IsBy sizes p v h (new, made, posts)) (sym is) (OfBlock x z None, (claim, (slab, takes, change), refl), three new _ made _ posts _ n m q)
physical_is sizes p v new made posts (PhysicalServes.drops x z is claim own change n m q) =
    subst (λ (h : Phase). IsBy sizes p v h (new, made, posts)) (sym is) (OfBlock x z (served_ticket change.serves), (claim, record { change = change; to_is = refl }), three new _ made _ posts _ n m q)
physical_is sizes p v new made posts (PhysicalServes.drops_none is none n m q) = subst (λ (h : Phase). IsBy sizes p v h (new, made, posts)) (sym is) (Nought, none, three new _ made _ posts _ n m q)
physical_is sizes p v new made posts (PhysicalServes.spends is n m q) = subst (λ (h : Phase). IsBy sizes p v h (new, made, posts)) (sym is) (Nought, tt, three new _ made _ posts _ n m q)

-- a decrement
abbrev IsUpdated : PhysicalZone → Remapping → Pbn → Option (Counting × Option ℕ) → Type 0
IsUpdated p e x (Some (z, to)) = (slab : Counts) × Fits half.Decrement (slab_of p.counts x) slab x × ((change : Changes p.counts z x slab) × (to ≡ served_ticket change.serves))
IsUpdated p e x None = IsStray half.Decrement (slab_of p.counts x) x

abbrev updated_at : Sizes → PhysicalZone → Remapping → Pbn → Option (Counting × Option ℕ) → Result PhysicalZone
updated_at sizes p e x (Some (z, to)) = (with_counts z p, Removes e to ∷ [], (vios.home_of sizes e, item.Report e) ∷ [])
updated_at sizes p e x None = (record p { strays = e ∷ p.strays }, Strays e ∷ [], (vios.home_of sizes e, item.Report e) ∷ tells p.strays x)

both_counts : (z w : Counting) (to to' : Option ℕ) → z ≡ w → to ≡ to' → ◌≡◌ {A = Option (Counting × Option ℕ)} (Some (z, to)) (Some (w, to'))
both_counts z w to to' zs tos = rw (zs, tos) refl

one_update : (p : PhysicalZone) (e : Remapping) (x : Pbn) (a b : Option (Counting × Option ℕ)) → IsUpdated p e x a → IsUpdated p e x b → a ≡ b
one_update p e x None None one two = refl
one_update p e x None (Some (z, to)) one (slab, takes, change) = let some = takes.0 in absurd (omega (arith, some, one))
one_update p e x (Some (z, to)) None (slab, takes, change) two = let some = takes.0 in absurd (omega (arith, some, two))
one_update p e x (Some (z, to)) (Some (w, to')) (slab, takes, change) (slab', takes', change') =
    both_counts z w to to' (one_applied half.Decrement p.counts z w x slab slab' takes change.0 takes' change'.0)
    (change.1 ∙ one_passed half.Decrement p.counts z w x slab slab' takes change.0 takes' change'.0 ∙ sym change'.1)

abbrev IsUpdate : Sizes → PhysicalZone → Remapping → Result PhysicalZone → Type 0
IsUpdate sizes p e result = (x : Pbn) × (e.old ≡ At x) × ((answer : Option (Counting × Option ℕ)) × IsUpdated p e x answer × (result ≡ updated_at sizes p e x answer))

update_is : (sizes : Sizes) (p : PhysicalZone) (e : Remapping) (new : PhysicalZone) (made : Trace) (posts : List Post) → PhysicalTakes sizes p e new made posts → IsUpdate sizes p e (new, made, posts)
update_is sizes p e new made posts (PhysicalTakes.removes x slab z from own takes change n m q) = (x, from, (Some (z, served_ticket change.serves), (slab, takes, (change, refl)), three new _ made _ posts _ n m q))
update_is sizes p e new made posts (PhysicalTakes.is_stray x from own stray n m q) = (x, from, (None, stray, three new _ made _ posts _ n m q))

-- a logical zone
abbrev arrival_at : LogicalZone → Vio → (retired held : Bool) → Result LogicalZone
arrival_at l v true held = (drawn_by l v, Draws (place_of_vio l v) ∷ [], (id.Desk, item.Request (ended phase.Reply reply.Stopped (placed l v))) ∷ [])
arrival_at l v false true = (record (drawn_by l v) { waiting = l.waiting ++ turned phase.Wait (placed l v) ∷ [] }, Draws (place_of_vio l v) ∷ [], [])
arrival_at l v false false = (record (drawn_by l v) { held = lock_of (placed l v) ∷ l.held }, Draws (place_of_vio l v) ∷ [], looks_up (placed l v) ∷ [])

-- the lock is passed on
abbrev passes : LogicalZone → ℕ → Trace → Post → Result LogicalZone
passes l a made post = (released a l, made, post ∷ granted a l)

-- it goes where the map says, or passes
abbrev onward_at : LogicalZone → Option Post → Result LogicalZone
onward_at l (Some post) = (l, [], post ∷ [])
onward_at l None = (l, [], [])

-- or it lacks a page: that is never linked, or is being made, or it makes it
abbrev lack_at : Sizes → LogicalZone → Vio → PageId → (dropped made : Bool) → Result LogicalZone
lack_at sizes l v page true made = passes l v.at.0 [] (id.Desk, item.Request (ended phase.Reply reply.Stopped v))
lack_at sizes l v page false true = (record l { lacking = l.lacking ++ v ∷ [] }, [], [])
lack_at sizes l v page false false = (record l { making = l.making ++ page ∷ [] }, [], (counts_of sizes v, item.Request (makes page v)) ∷ [])

-- it goes on with what is known, or reads its leaf first
abbrev known_to : Sizes → LogicalZone → Vio → Option Mapping → Option Pbn → Result LogicalZone
known_to sizes l v (Some mapping) leaf = onward_at l (goes_on sizes (looked l mapping v))
known_to sizes l v None (Some x) = (l, [], (id.Device, item.Request (reads_leaf x v)) ∷ [])
known_to sizes l v None None = (l, [], [])

abbrev stay_at : Sizes → LogicalZone → Vio → Option PageId → Result LogicalZone
stay_at sizes l v None = known_to sizes l v (known_at l v.at.0) (leaf_at l.tree v.at.0)
stay_at sizes l v (Some page) = lack_at sizes l v page (is_listed page l.unlinkable) (is_listed page l.making)

abbrev look_at : Sizes → LogicalZone → Vio → Bool → Result LogicalZone
look_at sizes l v true = passes l v.at.0 (Passes (pass_of v) ∷ []) (id.Desk, item.Request (ended phase.Reply reply.Ok v))
look_at sizes l v false = stay_at sizes l v (lacks l v)

-- its slot is set, or its page linked
abbrev with_link : LogicalZone → PageId → Pbn → LogicalZone
with_link l page x = record l { tree = linked_tree l.tree page x; making = but_page page l.making }

abbrev slot_at : LogicalZone → Vio → Bool → Result LogicalZone
slot_at l v true = (record l { settling = l.settling ++ v ∷ [] }, [], [])
slot_at l v false = (settled (record l { reported = reports_left v l.reported }) v, Sets (logged v) ∷ [], settled_posts l v)

abbrev settle_at : LogicalZone → Vio → Option PageId → Mapping → Result LogicalZone
settle_at l v None new = slot_at l v (awaits_report l v)
settle_at l v (Some page) (At x) = (woken (with_link l page x), Sets (logged v) ∷ [], (v.home, item.Request (vios.made v)) ∷ logical.all_again l.lacking)
settle_at l v (Some page) other = (l, [], [])

-- it is aborted, or its page isn't made any more
abbrev abort_at : LogicalZone → Vio → Option PageId → Result LogicalZone
abort_at l v None = passes l v.at.0 [] (to_desk phase.Reply v)
abort_at l v (Some page) = (woken (unmade page (released v.at.0 l)), [], (id.Desk, item.Request (vios.gives_up v)) ∷ (granted v.at.0 l ++ logical.all_again l.lacking))

abbrev drop_at : LogicalZone → Vio → Option PageId → Result LogicalZone
drop_at l v None = (retire v.at.0 l, Aborts (logged v) ∷ [], to_desk phase.Reply v ∷ all_stopped (all_for v.at.0 l.waiting))
drop_at l v (Some page) = (woken (logical.dropped page (released v.at.0 l)), Aborts (logged v) ∷ [], (id.Desk, item.Request (vios.gives_up v)) ∷ (granted v.at.0 l ++ logical.all_again l.lacking))

abbrev logical_at : Sizes → LogicalZone → Vio → Phase → Result LogicalZone
logical_at sizes l v phase.Arrive = arrival_at l v (is_among v.at.0 l.retired) (is_held v.at.0 l.held)
logical_at sizes l v phase.Look = look_at sizes l v (passes_by l v)
logical_at sizes l v phase.LoadedLeaf = onward_at l (goes_on sizes v)
logical_at sizes l v phase.Settle = settle_at l v v.page v.new
logical_at sizes l v phase.Loaded = passes l v.at.0 (Gives (gift v) ∷ []) (id.Desk, item.Request (ended phase.Reply (reply.Bytes v.bytes) v))
logical_at sizes l v phase.Abort = abort_at l v v.page
logical_at sizes l v phase.AbortEntered = drop_at l v v.page
logical_at sizes l v other = (l, [], [])

-- a request that lacks a page doesn't pass
stays_by : (l : LogicalZone) (a : ℕ) (q : Asks) (page : PageId) (b : Bool) → lacks_for l a q ≡ Some page → (is_discard q && b) ≡ false
stays_by l a Write page b lack = refl
stays_by l a other page b lack = absurd cc

logical_is : (sizes : Sizes) (l : LogicalZone) (v : Vio) (new : LogicalZone) (made : Trace) (posts : List Post) → LogicalServes sizes l v new made posts
    → (new, made, posts) ≡ logical_at sizes l v v.phase
logical_is sizes l v new made posts (LogicalServes.arrives_retired is retired n m q) = rw (n, m, q, is, retired) refl
logical_is sizes l v new made posts (LogicalServes.arrives_free is alive free n m q) = rw (n, m, q, is, alive, free) refl
logical_is sizes l v new made posts (LogicalServes.arrives_held is alive held n m q) = rw (n, m, q, is, alive, held) refl
logical_is sizes l v new made posts (LogicalServes.looks mapping post is path stays leaf knows next n m q) = rw (n, m, q, is, stays, leaf, knows, next) refl
logical_is sizes l v new made posts (LogicalServes.needs_leaf x is path stays leaf unknown there n m q) = rw (n, m, q, is, stays, leaf, unknown, there) refl
logical_is sizes l v new made posts (LogicalServes.leafed post is next n m q) = rw (n, m, q, is, next) refl
logical_is sizes l v new made posts (LogicalServes.passes is path past n m q) = rw (n, m, q, is, past) refl
logical_is sizes l v new made posts (LogicalServes.is_dropped page is path lack dropped n m q) = rw (n, m, q, is, stays_by l v.at.0 v.asks page _ lack, lack, dropped) refl
logical_is sizes l v new made posts (LogicalServes.waits page is path lack linkable made_yet n m q) = rw (n, m, q, is, stays_by l v.at.0 v.asks page _ lack, lack, linkable, made_yet) refl
logical_is sizes l v new made posts (LogicalServes.makes_page page is path lack linkable unmade_yet n m q) = rw (n, m, q, is, stays_by l v.at.0 v.asks page _ lack, lack, linkable, unmade_yet) refl
logical_is sizes l v new made posts (LogicalServes.links page x between is some to may linked n m q) =
    let tree : between ≡ with_link l page x = linked.rest ∙ ap (λ (t : Tree). record l { tree = t; making = but_page page l.making }) linked.links.set in
    three new _ made _ posts _ (n ∙ ap woken tree) m q ∙ sym (at_settle is some to)
  where
    at_settle : v.phase ≡ phase.Settle → v.page ≡ Some page → v.new ≡ At x
        → logical_at sizes l v v.phase ≡ (woken (with_link l page x), Sets (logged v) ∷ [], (v.home, item.Request (vios.made v)) ∷ logical.all_again l.lacking)
    at_settle is some to = ap (logical_at sizes l v) is ∙ ap (λ (o : Option PageId). settle_at l v o v.new) some ∙ ap (settle_at l v (Some page)) to
logical_is sizes l v new made posts (LogicalServes.settles is bare came n m q) = three new _ made _ posts _ n m q ∙ sym (ap (logical_at sizes l v) is ∙ ap (λ (o : Option PageId). settle_at l v o v.new) bare ∙ ap (slot_at l v) came)
logical_is sizes l v new made posts (LogicalServes.awaits is bare waits n m q) = three new _ made _ posts _ n m q ∙ sym (ap (logical_at sizes l v) is ∙ ap (λ (o : Option PageId). settle_at l v o v.new) bare ∙ ap (slot_at l v) waits)
logical_is sizes l v new made posts (LogicalServes.gives is n m q) = rw (n, m, q, is) refl
logical_is sizes l v new made posts (LogicalServes.aborts is bare n m q) = three new _ made _ posts _ n m q ∙ sym (ap (logical_at sizes l v) is ∙ ap (abort_at l v) bare)
logical_is sizes l v new made posts (LogicalServes.unmakes page is some n m q) = three new _ made _ posts _ n m q ∙ sym (ap (logical_at sizes l v) is ∙ ap (abort_at l v) some)
logical_is sizes l v new made posts (LogicalServes.drops page is some n m q) = three new _ made _ posts _ n m q ∙ sym (ap (logical_at sizes l v) is ∙ ap (drop_at l v) some)
logical_is sizes l v new made posts (LogicalServes.aborts_entered is bare n m q) = three new _ made _ posts _ n m q ∙ sym (ap (logical_at sizes l v) is ∙ ap (drop_at l v) bare)

-- the report of a decrement
abbrev heard_at : LogicalZone → Remapping → Option Vio → Result LogicalZone
heard_at l e (Some v) = (settled (record l { settling = without_settling e.request l.settling }) v, Sets (logged v) ∷ [], settled_posts l v)
heard_at l e None = (record l { reported = l.reported ++ e ∷ [] }, [], [])

heard_is : (sizes : Sizes) (l : LogicalZone) (e : Remapping) (new : LogicalZone) (made : Trace) (posts : List Post) → LogicalHears sizes l e new made posts
    → (new, made, posts) ≡ heard_at l e (settling_of e.request l.settling)
heard_is sizes l e new made posts (LogicalHears.settles v found n m q) = three new _ made _ posts _ n m q ∙ sym (ap (heard_at l e) found)
heard_is sizes l e new made posts (LogicalHears.keeps none n m q) = three new _ made _ posts _ n m q ∙ sym (ap (heard_at l e) none)

-- the journal
abbrev entry_at : Sizes → JournalZone → Vio → (closed block room busy : Bool) → Result JournalZone
entry_at sizes j v true block room busy = (j, [], refused sizes reply.Stopped v ∷ [])
entry_at sizes j v false false room busy = (j, [], refused sizes reply.Full v ∷ [])
entry_at sizes j v false true false busy = (record j { waiting = j.waiting ++ v ∷ [] }, [], [])
entry_at sizes j v false true true true = (entered_by v j, Enters (logged v) ∷ [], [])
entry_at sizes j v false true true false = (record (entered_by v j) { busy = true }, Enters (logged v) ∷ [], (id.Journal, item.Block (next_block j stage.Commit [])) ∷ [])

journal_is : (sizes : Sizes) (j : JournalZone) (v : Vio) (new : JournalZone) (made : Trace) (posts : List Post) → JournalServes sizes j v new made posts
    → (new, made, posts) ≡ entry_at sizes j v (is_closed j) (has_block j) (has_room j) j.busy
journal_is sizes j v new made posts (JournalServes.is_stopped is closed n m q) = rw (n, m, q, closed) refl
journal_is sizes j v new made posts (JournalServes.is_full is open_yet none n m q) = rw (n, m, q, open_yet, none) refl
journal_is sizes j v new made posts (JournalServes.waits is open_yet block full n m q) = rw (n, m, q, open_yet, block, full) refl
journal_is sizes j v new made posts (JournalServes.enters is open_yet block room busy n m q) = rw (n, m, q, open_yet, block, room, busy) refl
journal_is sizes j v new made posts (JournalServes.enters_first is open_yet block room idle n m q) = rw (n, m, q, open_yet, block, room, idle) refl

abbrev commit_at : Sizes → JournalZone → SealedBlock → (vios filling : List Vio) → Result JournalZone
commit_at sizes j b (v ∷ vs) filling = (committed_by v j, Commits (logged v) ∷ [], hands_out sizes v ++ (id.Journal, item.Block (record b { vios = vs })) ∷ [])
commit_at sizes j b [] [] = (record j { busy = false; waiting = [] }, [], all_again j.waiting)
commit_at sizes j b [] (v ∷ vs) = (sealed_by j, Seals ∷ [], (id.Device, item.Block (next_block j stage.Cover (v ∷ vs))) ∷ all_again j.waiting)

abbrev end_at : Sizes → JournalZone → SealedBlock → Stage → Result JournalZone
end_at sizes j b stage.Commit = commit_at sizes j b b.vios j.filling
end_at sizes j b stage.Fail = (record j { busy = false; broken = true; filling = []; waiting = [] }, [], all_dropped sizes b.vios ++ (all_dropped sizes j.filling ++ all_refused sizes reply.Stopped j.waiting))
end_at sizes j b other = (j, [], [])

end_is : (sizes : Sizes) (j : JournalZone) (b : SealedBlock) (new : JournalZone) (made : Trace) (posts : List Post) → JournalEnds sizes j b new made posts
    → (new, made, posts) ≡ end_at sizes j b b.stage
end_is sizes j b new made posts (JournalEnds.commits v vs is vios next n m q) = rw (n, m, q, is, vios) refl
end_is sizes j b new made posts (JournalEnds.seals v vs is vios filling due n m q) = rw (n, m, q, is, vios, filling) refl
end_is sizes j b new made posts (JournalEnds.rests is vios filling n m q) = rw (n, m, q, is, vios, filling) refl
end_is sizes j b new made posts (JournalEnds.fails is n m q) = rw (n, m, q, is) refl

-- the device: what it keeps and posts, by what was made
abbrev Behind : Type 0
Behind = DeviceZone × List Post

-- what waits for the superblock, and what the zone does else
abbrev waiting_at : Sizes → DeviceZone → Item → Bool → SuperblockStage → Trace → Behind → Behind
waiting_at sizes d front true now made other = other
waiting_at sizes d front false Durable made other = other
waiting_at sizes d front false now (Calls call ∷ []) other = (record (counted d) { superblock = next_superblock now }, (id.Device, front) ∷ [])
waiting_at sizes d front false now made other = (halted d, (id.Device, front) ∷ stop_notices (notified sizes))

announced_is : (sizes : Sizes) (d : DeviceZone) (front : Item) (stopped : Bool) (now : SuperblockStage) (call : Call) (other : Behind) → stopped ≡ false → superblock_call sizes true now ≡ Some call
    → (record (counted d) { superblock = next_superblock now }, (id.Device, front) ∷ []) ≡ waiting_at sizes d front stopped now (Calls call ∷ []) other
announced_is sizes d front true now call other goes is = absurd cc
announced_is sizes d front false AsOpened call other goes is = refl
announced_is sizes d front false Written call other goes is = refl
announced_is sizes d front false Durable call other goes is = absurd cc

unannounced_is : (sizes : Sizes) (d : DeviceZone) (front : Item) (stopped : Bool) (now : SuperblockStage) (w : Writer) (call : Call) (kept : Bool) (other : Behind) → stopped ≡ false
    → superblock_call sizes false now ≡ Some call → (halted d, (id.Device, front) ∷ stop_notices (notified sizes)) ≡ waiting_at sizes d front stopped now (Fails w call kept ∷ []) other
unannounced_is sizes d front true now w call kept other goes is = absurd cc
unannounced_is sizes d front false AsOpened w call kept other goes is = refl
unannounced_is sizes d front false Written w call kept other goes is = refl
unannounced_is sizes d front false Durable w call kept other goes is = absurd cc

waits_is : (sizes : Sizes) (d : DeviceZone) (front : Item) (w : Writer) (new : DeviceZone) (made : Trace) (posts : List Post) (other : Trace → Behind) → Announces sizes d front w new made posts
    → (new, posts) ≡ waiting_at sizes d front d.stopped d.superblock made (other made)
waits_is sizes d front w new made posts other (Announces.succeeds call is goes n m q) = rw (n, m, q) (announced_is sizes d front d.stopped d.superblock call (other (Calls call ∷ [])) goes is)
waits_is sizes d front w new made posts other (Announces.fails call kept is goes n m q) = rw (n, m, q) (unannounced_is sizes d front d.stopped d.superblock w call kept (other (Fails w call kept ∷ [])) goes is)

stopped_is : (sizes : Sizes) (d : DeviceZone) (front : Item) (now : SuperblockStage) (made : Trace) (other : Behind) (stopped : Bool) → stopped ≡ true → waiting_at sizes d front stopped now made other ≡ other
stopped_is sizes d front now made other true is = refl
stopped_is sizes d front now made other false is = absurd cc

durable_is : (sizes : Sizes) (d : DeviceZone) (front : Item) (made : Trace) (other : Behind) (stopped : Bool) (now : SuperblockStage) → now ≡ Durable → waiting_at sizes d front stopped now made other ≡ other
durable_is sizes d front made other true now is = refl
durable_is sizes d front made other false AsOpened is = absurd cc
durable_is sizes d front made other false Written is = absurd cc
durable_is sizes d front made other false Durable is = refl

ready_is : (sizes : Sizes) (d : DeviceZone) (front : Item) (made : Trace) (other : Behind) → IsReady d → waiting_at sizes d front d.stopped d.superblock made other ≡ other
ready_is sizes d front made other (inl stops) = stopped_is sizes d front d.superblock made other d.stopped stops
ready_is sizes d front made other (inr durable) = durable_is sizes d front made other d.stopped d.superblock durable

abbrev store_at : Sizes → DeviceZone → Vio → Bool → Trace → Behind
store_at sizes d v true made = (d, (counts_of sizes v, item.Request (ended phase.AbortClaim reply.Stopped v)) ∷ [])
store_at sizes d v false (Calls call ∷ []) = (counted d, (id.Journal, item.Request (turned phase.Enter v)) ∷ [])
store_at sizes d v false other = (halted d, (counts_of sizes v, item.Request (ended phase.AbortClaim reply.Stopped v)) ∷ stop_notices (notified sizes))

abbrev load_at : DeviceZone → Vio → Trace → Behind
load_at d v (Calls (Read x bytes ok) ∷ []) = (counted d, (v.home, item.Request (record v { phase = phase.Loaded; bytes = bytes })) ∷ [])
load_at d v other = (d, (v.home, item.Request (ended phase.Abort reply.ReadFault v)) ∷ [])

abbrev read_leaf_at : Sizes → DeviceZone → Vio → Trace → Behind
read_leaf_at sizes d v (Calls (Read x bytes ok) ∷ []) = (counted d, (v.home, item.Request (has_leaf (mapping_in bytes (slot_of_address v.at.0)) v)) ∷ [])
read_leaf_at sizes d v (Harms w x bytes fault ∷ []) = (harmed (Page x fault) (counted d), (v.home, item.Request (ended phase.Abort reply.Damaged v)) ∷ notices_after d.stopped sizes)
read_leaf_at sizes d v other = (d, (v.home, item.Request (ended phase.Abort reply.ReadFault v)) ∷ [])

-- what a leaf says in a slot is what its bytes say there
leaf_mapping : (head : PageHead) (bytes : List ℕ) (mappings : List Mapping) (a : ℕ) → IsPage head bytes mappings → slice_index_or mappings (slot_of_address a) Unmapped ≡ mapping_in bytes (slot_of_address a)
leaf_mapping head bytes mappings a page = sym (slot_says_its_mapping head bytes (slot_of_address a) _ (slots head bytes mappings (slot_of_address a) page (mod-lt a (omega arith))))

abbrev flush_at : Sizes → DeviceZone → Vio → Bool → Trace → Behind
flush_at sizes d v true made = (d, (id.Desk, item.Request (ended phase.Reply reply.Stopped v)) ∷ [])
flush_at sizes d v false (Calls call ∷ []) = (counted d, (id.Desk, item.Request (record v { phase = phase.Reply; answer = Some reply.Ok; calls = d.calls + 1 })) ∷ [])
flush_at sizes d v false other = (halted d, (id.Desk, item.Request (ended phase.Reply reply.Stopped v)) ∷ stop_notices (notified sizes))

abbrev device_at : Sizes → DeviceZone → Vio → Trace → Phase → Behind
device_at sizes d v made phase.Store = store_at sizes d v d.stopped made
device_at sizes d v made phase.Load = load_at d v made
device_at sizes d v made phase.LoadLeaf = read_leaf_at sizes d v made
device_at sizes d v made phase.Flush = flush_at sizes d v d.stopped made
device_at sizes d v made other = (d, [])

abbrev served_at : Sizes → DeviceZone → Vio → Trace → Behind
served_at sizes d v made = waiting_at sizes d (item.Request v) d.stopped d.superblock made (device_at sizes d v made v.phase)

device_is : (sizes : Sizes) (d : DeviceZone) (v : Vio) (new : DeviceZone) (made : Trace) (posts : List Post) → DeviceServes sizes d v new made posts
    → (new, posts) ≡ served_at sizes d v made
device_is sizes d v new made posts (DeviceServes.announces there act) = waits_is sizes d (item.Request v) v.request new made posts (λ m. device_at sizes d v m v.phase) act
device_is sizes d v new made posts (DeviceServes.stores x is to goes durable inside n m q) = rw (n, m, q, is, goes, durable) refl
device_is sizes d v new made posts (DeviceServes.store_fails x kept is to goes durable inside n m q) = rw (n, m, q, is, goes, durable) refl
device_is sizes d v new made posts (DeviceServes.store_unmade is stops n m q) = rw (n, m, q, is, stops) refl
device_is sizes d v new made posts (DeviceServes.loads x bytes is from ready inside n m q) = rw (ready_is sizes d (item.Request v) made (device_at sizes d v made v.phase) ready, n, m, q, is) refl
device_is sizes d v new made posts (DeviceServes.load_fails x bytes kept is from ready inside n m q) = rw (ready_is sizes d (item.Request v) made (device_at sizes d v made v.phase) ready, n, m, q, is) refl
device_is sizes d v new made posts (DeviceServes.loads_leaf x bytes mappings is there ready inside page n m q) =
    rw (ready_is sizes d (item.Request v) made (device_at sizes d v made v.phase) ready, n, m, q, is, leaf_mapping _ bytes mappings v.at.0 page) refl
device_is sizes d v new made posts (DeviceServes.leaf_fails x bytes kept is there ready inside n m q) = rw (ready_is sizes d (item.Request v) made (device_at sizes d v made v.phase) ready, n, m, q, is) refl
device_is sizes d v new made posts (DeviceServes.harms x bytes fault is there ready inside damaged n m q) = rw (ready_is sizes d (item.Request v) made (device_at sizes d v made v.phase) ready, n, m, q, is) refl
device_is sizes d v new made posts (DeviceServes.flushes is goes durable n m q) = rw (n, m, q, is, goes, durable) refl
device_is sizes d v new made posts (DeviceServes.flush_fails kept is goes durable n m q) = rw (n, m, q, is, goes, durable) refl
device_is sizes d v new made posts (DeviceServes.flush_unmade is stops n m q) = rw (n, m, q, is, stops) refl

abbrev work_at : Sizes → DeviceZone → SealedBlock → Bool → Trace → Behind
work_at sizes d b true made = (d, (id.Journal, item.Block (staged stage.Fail b)) ∷ [])
work_at sizes d b false (Calls call ∷ []) = (counted d, (next_zone b.stage, item.Block (staged (next_stage b.stage) b)) ∷ [])
work_at sizes d b false other = (halted d, (id.Journal, item.Block (staged stage.Fail b)) ∷ stop_notices (notified sizes))

abbrev worked_at : Sizes → DeviceZone → SealedBlock → Trace → Behind
worked_at sizes d b made = waiting_at sizes d (item.Block b) d.stopped d.superblock made (work_at sizes d b d.stopped made)

work_is : (sizes : Sizes) (d : DeviceZone) (b : SealedBlock) (new : DeviceZone) (made : Trace) (posts : List Post) → DeviceWorks sizes d b new made posts
    → (new, posts) ≡ worked_at sizes d b made
work_is sizes d b new made posts (DeviceWorks.announces v vs first there act) = waits_is sizes d (item.Block b) v.request new made posts (λ m. work_at sizes d b d.stopped m) act
work_is sizes d b new made posts (DeviceWorks.makes call slot v vs first its calls goes durable n m q) = rw (n, m, q, goes, durable) refl
work_is sizes d b new made posts (DeviceWorks.fails call slot kept v vs vios its calls goes durable n m q) = rw (n, m, q, goes, durable) refl
work_is sizes d b new made posts (DeviceWorks.unmade call slot v vs first calls stops n m q) = rw (n, m, q, stops) refl

-- two results are the same
abbrev Same : ZoneData → ZoneData → Trace → Trace → List Post → List Post → Type 0
Same new new' made made' posts posts' = (new ≡ new') × (made ≡ made') × (posts ≡ posts')

same : {Z : Type 0} (put : Z → ZoneData) (new new' : Z) (made made' : Trace) (posts posts' : List Post) (result : Result Z)
    → (new, made, posts) ≡ result → (new', made', posts') ≡ result → Same (put new) (put new') made made' posts posts'
same put new new' made made' posts posts' result one two =
    let e = one ∙ sym two in (ap (λ r. put r.0) e, ap (λ r. r.1) e, ap (λ r. r.2) e)

same_behind : (new new' : DeviceZone) (made made' : Trace) (posts posts' : List Post) (behind : Trace → Behind)
    → made ≡ made' → (new, posts) ≡ behind made → (new', posts') ≡ behind made' → Same (at.Device new) (at.Device new') made made' posts posts'
same_behind new new' made made' posts posts' behind is one two =
    let e = one ∙ ap behind is ∙ sym two in (ap (λ r. at.Device r.0) e, is, ap (λ r. r.1) e)

begin_one : (sizes : Sizes) (desk new new' : Desk) (made made' : Trace) (posts posts' : List Post)
    → DeskBegins sizes desk new made posts → DeskBegins sizes desk new' made' posts' → Same (at.Desk new) (at.Desk new') made made' posts posts'
begin_one sizes desk new new' made made' posts posts' a b =
    let one = begin_is sizes desk new made posts a in
    let two = begin_is sizes desk new' made' posts' b in
    same at.Desk new new' made made' posts posts' (begun_at sizes desk one.0) one.2 (two.2 ∙ ap (begun_at sizes desk) (begins_one sizes.depth desk two.0 one.0 two.1 one.1))

physical_one : (sizes : Sizes) (p : PhysicalZone) (v : Vio) (new new' : PhysicalZone) (made made' : Trace) (posts posts' : List Post)
    → PhysicalServes sizes p v new made posts → PhysicalServes sizes p v new' made' posts' → Same (at.Physical new) (at.Physical new') made made' posts posts'
physical_one sizes p v new new' made made' posts posts' a b =
    let one = physical_is sizes p v new made posts a in
    let two = physical_is sizes p v new' made' posts' b in
    same at.Physical new new' made made' posts posts' (physical_at sizes p v v.phase one.0) one.2 (two.2 ∙ ap (physical_at sizes p v v.phase) (one_answer p v v.phase two.0 one.0 two.1 one.1))

update_one : (sizes : Sizes) (p : PhysicalZone) (e : Remapping) (new new' : PhysicalZone) (made made' : Trace) (posts posts' : List Post)
    → PhysicalTakes sizes p e new made posts → PhysicalTakes sizes p e new' made' posts' → Same (at.Physical new) (at.Physical new') made made' posts posts'
update_one sizes p e new new' made made' posts posts' a b =
    let one = update_is sizes p e new made posts a in
    let two = update_is sizes p e new' made' posts' b in
    let block : two.0 ≡ one.0 = same_At two.0 one.0 (sym two.1 ∙ one.1) in
    let others = subst (λ (x : Pbn). (answer : Option (Counting × Option ℕ)) × IsUpdated p e x answer × ((new', made', posts') ≡ updated_at sizes p e x answer)) block two.2 in
    same at.Physical new new' made made' posts posts' (updated_at sizes p e one.0 one.2.0) one.2.2 (others.2 ∙ ap (updated_at sizes p e one.0) (one_update p e one.0 others.0 one.2.0 others.1 one.2.1))
  where
    same_At : (x y : Pbn) → At x ≡ At y → x ≡ y
    same_At x y is = cc

halts_one : (sizes : Sizes) (d : DeviceZone) (damage : Damage) (new new' : DeviceZone) (made made' : Trace) (posts posts' : List Post)
    → DeviceHears sizes d damage new made posts → DeviceHears sizes d damage new' made' posts' → Same (at.Device new) (at.Device new') made made' posts posts'
halts_one sizes d damage new new' made made' posts posts' a b = (ap at.Device (a.new_is ∙ sym b.new_is), a.made_is ∙ sym b.made_is, a.posts_are ∙ sym b.posts_are)

device_one : (sizes : Sizes) (d new new' : DeviceZone) (v : Vio) (made made' : Trace) (posts posts' : List Post)
    → DeviceServes sizes d v new made posts → DeviceServes sizes d v new' made' posts' → made ≡ made' → Same (at.Device new) (at.Device new') made made' posts posts'
device_one sizes d new new' v made made' posts posts' a b is =
    same_behind new new' made made' posts posts' (λ m. served_at sizes d v m) is (device_is sizes d v new made posts a) (device_is sizes d v new' made' posts' b)

work_one : (sizes : Sizes) (d new new' : DeviceZone) (b : SealedBlock) (made made' : Trace) (posts posts' : List Post)
    → DeviceWorks sizes d b new made posts → DeviceWorks sizes d b new' made' posts' → made ≡ made' → Same (at.Device new) (at.Device new') made made' posts posts'
work_one sizes d new new' b made made' posts posts' x y is =
    same_behind new new' made made' posts posts' (λ m. worked_at sizes d b m) is (work_is sizes d b new made posts x) (work_is sizes d b new' made' posts' y)

-- Two acts of a zone on one item, or of the desk on none, keep, make and post the same; at the device those that had the
-- same answer of it.
pub one_result : (sizes : Sizes) (keeps : ZoneData) (front : List Item) (new new' : ZoneData) (made made' : Trace) (posts posts' : List Post)
    → Act sizes keeps front new made posts → Act sizes keeps front new' made' posts' → (CallsDevice keeps → made ≡ made') → Same new new' made made' posts posts'
one_result sizes keeps front new new' made made' posts posts' (steps.begins a) (steps.begins b) is = begin_one _ _ _ _ _ _ _ _ a b
one_result sizes keeps front new new' made made' posts posts' (steps.answers a) (steps.answers b) is = same at.Desk _ _ _ _ _ _ _ (desk_is _ _ _ _ _ _ a) (desk_is _ _ _ _ _ _ b)
one_result sizes keeps front new new' made made' posts posts' steps.hears steps.hears is = (refl, refl, refl)
one_result sizes keeps front new new' made made' posts posts' (steps.serves a) (steps.serves b) is = same at.Logical _ _ _ _ _ _ _ (logical_is _ _ _ _ _ _ a) (logical_is _ _ _ _ _ _ b)
one_result sizes keeps front new new' made made' posts posts' steps.serves_notice steps.serves_notice is = (refl, refl, refl)
one_result sizes keeps front new new' made made' posts posts' (steps.takes a) (steps.takes b) is = physical_one _ _ _ _ _ _ _ _ _ a b
one_result sizes keeps front new new' made made' posts posts' (steps.updates a) (steps.updates b) is = update_one _ _ _ _ _ _ _ _ _ a b
one_result sizes keeps front new new' made made' posts posts' (steps.settles a) (steps.settles b) is = same at.Logical _ _ _ _ _ _ _ (heard_is _ _ _ _ _ _ a) (heard_is _ _ _ _ _ _ b)
one_result sizes keeps front new new' made made' posts posts' (steps.halts a) (steps.halts b) is = halts_one _ _ _ _ _ _ _ _ _ a b
one_result sizes keeps front new new' made made' posts posts' steps.takes_notice steps.takes_notice is = (refl, refl, refl)
one_result sizes keeps front new new' made made' posts posts' (steps.enters a) (steps.enters b) is = same at.Journal _ _ _ _ _ _ _ (journal_is _ _ _ _ _ _ a) (journal_is _ _ _ _ _ _ b)
one_result sizes keeps front new new' made made' posts posts' (steps.ends a) (steps.ends b) is = same at.Journal _ _ _ _ _ _ _ (end_is _ _ _ _ _ _ a) (end_is _ _ _ _ _ _ b)
one_result sizes keeps front new new' made made' posts posts' steps.enters_notice steps.enters_notice is = (refl, refl, refl)
one_result sizes keeps front new new' made made' posts posts' (steps.calls a) (steps.calls b) is = device_one _ _ _ _ _ _ _ _ _ a b (is tt)
one_result sizes keeps front new new' made made' posts posts' (steps.works a) (steps.works b) is = work_one _ _ _ _ _ _ _ _ _ a b (is tt)
