-- Each act is one of the rows that the tokens see.
use Rattle.std.proofs.Common.{◌≡◌, ℕ, suc, ◌+◌, ◌*◌, true, false, not, Option, None, Some, is_some, List, [], ◌∷◌, ◌++◌, length, length-append, map, slice_index_or, refl, ap, sym, ◌∙◌, subst, inl, inr, arith, ◌&&◌, if◌then◌else◌, nat_lt}
use Rattle.core_laws.proofs.Common.{AllByRecursion, Answer, Desk, DeviceZone, Item, JournalZone, Remapping, LogicalZone, Mapping, Pbn, Phase, PhysicalZone, Post, SealedBlock, Sizes, Trace, Vio, ZoneData, ZoneId, as_items, bit, eqb_tells, every-map, has_entry, holds, notified, notified_zones, queued, same_Some, same_tells, same_writer, total, total-append, turned, Writer, cases_Bool, ended, has_old, is_committed, is_old, logged, owes, remapping, remappings, waiter_weight}
use Rattle.std.proofs.Common.{Bool}
use Rattle.blk_base.specs.Pages.{slot_of_address}
use Rattle.blk_base.specs.Sectors.{zero_block}
use Rattle.blk_base.specs.declared.place.Mapping.TheVariants.{Unmapped, Zero, At}
use Rattle.blk_base.specs.declared.place.ZoneId.TheVariants as id
use Rattle.blk_base.specs.declared.request.Answer.TheVariants as reply
use Rattle.data_vio.specs.declared.items.Item.TheVariants.{Request, Block, Decrement, Report, StopNotice}
use Rattle.data_vio.specs.declared.items.Item.TheVariants as item
use Rattle.data_vio.specs.declared.items.Phase.TheVariants as phase
use Rattle.data_vio.specs.declared.items.Stage.TheVariants as stage
use Rattle.core_model.specs.declared.zones.ZoneData.TheVariants as at
use Rattle.core_model.specs.DeskRules as desk
use Rattle.core_model.specs.DeskRules.{DeskBegins, DeskServes, woken}
use Rattle.core_model.specs.DeviceRules as device
use Rattle.core_model.specs.DeviceRules.{Announces, DeviceHears, DeviceServes, DeviceWorks, counted, harmed, notices_after, stop_notices}
use Rattle.vdo_model.specs.declared.report.Damage.TheVariants.{Page, Stray}
use Rattle.vdo_model.specs.declared.report.Damage.{Damage}
use Rattle.core_model.specs.JournalRules as journal
use Rattle.core_model.specs.PhysicalRules as physical
use Rattle.core_model.specs.PhysicalRules.{PhysicalServes, PhysicalTakes, tells}
use Rattle.core_model.specs.PageLinks.{block_in}
use Rattle.zone_counts.specs.Zone.{IsZone, Zone}
use Rattle.core_laws.proofs.tokens.AskMoves.{asks_block, asks_ticket, drops_block, has_none, takes_block}
use Rattle.core_laws.proofs.tokens.Moves.{AsksIn, counted_moves, counted_passes, dropped_moves, dropped_passes, passes, removed_moves, removed_passes}
use Rattle.core_model.specs.PhysicalRules.{BeginsNext, with_counts}
use Rattle.slab_counts.specs.declared.tickets.Receipt.{Receipt}
use Rattle.slab_counts.specs.declared.tickets.Ticket.{Ticket}
use Rattle.zone_counts.specs.ZoneAnswers.{GivesTicket}
use Rattle.core_laws.proofs.physical.TicketDesks.{begun_keeps}
use Rattle.zone_counts.proofs.TicketLaws.{begun_is_zone, withdrawn_is_zone}
use Rattle.core_model.specs.JournalRules.{JournalServes, JournalEnds, all_again, all_dropped, all_refused, decrement_for, hands_to}
use Rattle.core_model.specs.LogicalRules as logical
use Rattle.core_model.specs.LogicalRules.{IsLinked, LogicalHears, LogicalServes, awaits_report, is_reported, reports_left, settling_of, without_report, without_settling, placed, with_slot, first_for, but_first_for, all_for, none_for, looked, read_next, goes_on, granted, passed_to, passes_on, released, all_stopped}
use Rattle.blk_base.specs.declared.place.PageId.{PageId}
use Rattle.data_vio.specs.Vios as vios
use Rattle.data_vio.specs.Vios.{gives_up, home_of}
use Rattle.core_model.specs.Steps as steps
use Rattle.core_model.specs.Steps.{Act}
use Rattle.core_laws.proofs.lists.CoreLists.{every_but_first, every_none_for}
use Rattle.core_laws.proofs.lists.ZoneNames.{notified_count}
use Rattle.core_laws.proofs.tokens.ActRules as rule
use Rattle.core_laws.proofs.tokens.ActRules.{Rule, Sum, all_in, all_ended, all_there, Further, IsEarly, Onward, further, onward, replied, IsDecrementOf, IsDroppedBy, IsHandedOut, IsSetBy, of_block, of_none, of_page, to_count, to_slot, unmaking, without_page}
use Rattle.core_laws.proofs.tokens.Known.{AreReports, Claims, CountsIn, IsCounted, IsIn, IsReady, KeptIn, Known, Leased, MadeIn, MakesNone, Replaces, claim_in, tickets_in}
use Rattle.core_laws.proofs.tokens.Posts.{begun_claim, begun_tickets, begun_page, begun_request, begun_phase, goes_by}

-- what the posts have together
abbrev pub posts_sum : List Post → Sum
posts_sum [] f = 0
posts_sum (p ∷ ps) f = f p.1 + posts_sum ps f

-- An act is one of the rows: the items that were there, and that are there.
pub record IsRule (sizes : Sizes) (old : ZoneData) (front : List Item) (new : ZoneData) (posts : List Post) : Type 0 where
  pub before : Sum
  pub after : Sum
  pub rule : Rule sizes old new before after
  -- what stays as it is, and no token of a row sees
  pub rest : Sum
  pub was : (f : Item → ℕ) → total f front + queued f old ≡ before f + rest f
  pub is : (f : Item → ℕ) → posts_sum posts f + queued f new ≡ after f + rest f

module _ (sizes : Sizes) where
  beside : {old new : ZoneData} {front : List Item} {posts : List Post} {before after : Sum} (rest : Sum) → Rule sizes old new before after → ((f : Item → ℕ) → total f front + queued f old ≡ before f + rest f)
      → ((f : Item → ℕ) → posts_sum posts f + queued f new ≡ after f + rest f) → IsRule sizes old front new posts
  beside {before = before} {after = after} rest the_rule was is = record { before = before; after = after; rule = the_rule; rest = rest; was = was; is = is }

  is_rule : {old new : ZoneData} {front : List Item} {posts : List Post} {before after : Sum} → Rule sizes old new before after → ((f : Item → ℕ) → total f front + queued f old ≡ before f)
      → ((f : Item → ℕ) → posts_sum posts f + queued f new ≡ after f) → IsRule sizes old front new posts
  is_rule the_rule was is = beside (λ f. 0) the_rule (λ f. omega (arith, was f)) (λ f. omega (arith, is f))

  -- a request in a phase is itself, and so are all of a list
  turned_is : (v : Vio) (q : Phase) → v.phase ≡ q → v ≡ turned q v
  turned_is v q is = rw (← is) refl

  in_phase : (f : Item → ℕ) (v : Vio) (q : Phase) → v.phase ≡ q → f (Request v) ≡ f (Request (turned q v))
  in_phase f v q is = ap (λ (u : Vio). f (Request u)) (turned_is v q is)

  all_are : (f : Item → ℕ) (q : Phase) (vs : List Vio) → AllByRecursion (IsIn q) vs → total f (as_items vs) ≡ all_in q vs f
  all_are f q [] all = refl
  all_are f q (v ∷ vs) all = omega (arith, in_phase f v q all.0, all_are f q vs all.1)

  items_more : (f : Item → ℕ) (vs : List Vio) (v : Vio) → total f (as_items (vs ++ v ∷ [])) ≡ f (Request v) + total f (as_items vs)
  items_more f [] v = refl
  items_more f (u ∷ vs) v = omega (arith, items_more f vs v)

  -- and two lists
  there_sum : (f : Item → ℕ) (vs ws : List Vio) → total f (as_items (vs ++ ws)) ≡ all_there vs f + all_there ws f
  there_sum f [] [] = refl
  there_sum f [] (w ∷ ws) = omega (arith, there_sum f [] ws)
  there_sum f (v ∷ vs) ws = omega (arith, there_sum f vs ws)

  there_more : (f : Item → ℕ) (vs : List Vio) (v : Vio) → all_there (vs ++ v ∷ []) f ≡ f (Request v) + all_there vs f
  there_more f [] v = refl
  there_more f (u ∷ vs) v = omega (arith, there_more f vs v)

  there_in : (f : Item → ℕ) (q : Phase) (vs : List Vio) → AllByRecursion (IsIn q) vs → all_there vs f ≡ all_in q vs f
  there_in f q [] all = refl
  there_in f q (v ∷ vs) all = omega (arith, in_phase f v q all.0, there_in f q vs all.1)

  -- the posts that are lists
  woken_sum : (f : Item → ℕ) (vs : List Vio) → posts_sum (woken vs) f ≡ total f (as_items vs)
  woken_sum f [] = refl
  woken_sum f (v ∷ vs) = omega (arith, woken_sum f vs)

  stopped_sum : (f : Item → ℕ) (vs : List Vio) → posts_sum (all_stopped vs) f ≡ all_ended phase.Reply reply.Stopped vs f
  stopped_sum f [] = refl
  stopped_sum f (v ∷ vs) = omega (arith, stopped_sum f vs)

  again_sum : (f : Item → ℕ) (vs : List Vio) → posts_sum (all_again vs) f ≡ all_there vs f
  again_sum f [] = refl
  again_sum f (v ∷ vs) = omega (arith, again_sum f vs)

  looks_sum : (f : Item → ℕ) (vs : List Vio) → posts_sum (logical.all_again vs) f ≡ all_there vs f
  looks_sum f [] = refl
  looks_sum f (v ∷ vs) = omega (arith, looks_sum f vs)

  refused_sum : (f : Item → ℕ) (a : Answer) (vs : List Vio) → posts_sum (all_refused sizes a vs) f ≡ all_ended phase.AbortClaim a vs f
  refused_sum f a [] = refl
  refused_sum f a (v ∷ vs) = omega (arith, refused_sum f a vs)

  notices_sum : (f : Item → ℕ) (names : List ZoneId) → posts_sum (stop_notices names) f ≡ length names * f StopNotice
  notices_sum f [] = omega arith
  notices_sum f (to ∷ names) =
      let rest = notices_sum f names in
      let more : suc (length names) * f StopNotice ≡ f StopNotice + length names * f StopNotice = omega arith in
      omega (arith, rest, more)

  sum_append : (f : Item → ℕ) (ps qs : List Post) → posts_sum (ps ++ qs) f ≡ posts_sum ps f + posts_sum qs f
  sum_append f [] qs = omega arith
  sum_append f (p ∷ ps) qs = omega (arith, sum_append f ps qs)

  all_notices : (f : Item → ℕ) → posts_sum (stop_notices (notified sizes)) f ≡ notified_zones sizes * f StopNotice
  all_notices f = notices_sum f (notified sizes) ∙ ap (λ n. n * f StopNotice) (notified_count sizes)

  -- the desk
  begin_rule : (old new : Desk) (made : Trace) (posts : List Post) → KeptIn (at.Desk old) → DeskBegins sizes old new made posts → IsRule sizes (at.Desk old) [] (at.Desk new) posts
  begin_rule old new made posts kept (desk.answers w r v a next asks served once n m q) = rw (n, q) (is_rule (rule.says old w a) (λ f. omega (arith, all_are f phase.Reply old.parked kept)) (λ f. omega (arith, all_are f phase.Reply old.parked kept)))
  begin_rule old new made posts kept (desk.sends w r v next asks served once n m q) =
      rw (n, q, ← begun_request sizes w r v served) (elim (begun_phase sizes w r v served) [
        | inl is ↦ is_rule (rule.begins old v (begun_page sizes w r v served) (begun_claim sizes w r v served) (begun_tickets sizes w r v served)) (λ f. omega (arith, all_are f phase.Reply old.parked kept)) (λ f. omega (arith, in_phase f v phase.Arrive is, all_are f phase.Reply old.parked kept))
        | inr is ↦ is_rule (rule.begins_flush old v (begun_page sizes w r v served) (begun_claim sizes w r v served) (begun_tickets sizes w r v served)) (λ f. omega (arith, all_are f phase.Reply old.parked kept)) (λ f. omega (arith, in_phase f v phase.Flush is, all_are f phase.Reply old.parked kept))
      ])

  desk_rule : (old : Desk) (v : Vio) (new : Desk) (made : Trace) (posts : List Post) → KeptIn (at.Desk old) → MakesNone (Request v ∷ []) → Claims v → DeskServes sizes old v new made posts → IsRule sizes (at.Desk old) (Request v ∷ []) (at.Desk new) posts
  desk_rule old v new made posts kept none claims (desk.parks a p has stops notified n m q) =
      rw (n, q) (is_rule (rule.parks old v (old.parked ++ v ∷ [])) (λ f. omega (arith, in_phase f v phase.Reply p, all_are f phase.Reply old.parked kept))
      (λ f. omega (arith, in_phase f v phase.Reply p, items_more f old.parked v, all_are f phase.Reply old.parked kept)))
  desk_rule old v new made posts kept none claims (desk.answers a p has notified marked spaced n m q) =
      rw (n, q) (is_rule (rule.answers old v a old.marks old.receipts (none v refl (inr p)) (claim_in v phase.Reply p claims) (tickets_in v phase.Reply p claims refl)) (λ f. omega (arith, in_phase f v phase.Reply p, all_are f phase.Reply old.parked kept)) (λ f. omega (arith, all_are f phase.Reply old.parked kept)))
  desk_rule old v new made posts kept none claims (desk.marks p asks has n m q) =
      rw (n, q) (is_rule (rule.answers old v reply.Ok _ old.receipts (none v refl (inr p)) (claim_in v phase.Reply p claims) (tickets_in v phase.Reply p claims refl)) (λ f. omega (arith, in_phase f v phase.Reply p, all_are f phase.Reply old.parked kept)) (λ f. omega (arith, all_are f phase.Reply old.parked kept)))
  desk_rule old v new made posts kept none claims (desk.lacks p has n m q) =
      rw (n, q) (is_rule (rule.answers old v reply.NoSpace old.marks _ (none v refl (inr p)) (claim_in v phase.Reply p claims) (tickets_in v phase.Reply p claims refl)) (λ f. omega (arith, in_phase f v phase.Reply p, all_are f phase.Reply old.parked kept)) (λ f. omega (arith, all_are f phase.Reply old.parked kept)))

  -- a logical zone: who goes on with a lock, and who gets it
  abbrev goes_to : (v : Vio) (q : Phase) (new : Mapping) → List ℕ → holds q ≡ true → owes q ≡ false → has_entry q ≡ false → is_committed q ≡ false → Onward
  goes_to v q new bytes locks unowed unentered uncommitted =
      record { phase = q; leaf = v.leaf; old = v.old; latest = v.latest; new = new; bytes = bytes; locks = locks; unowed = unowed; unentered = unentered; uncommitted = uncommitted }

  went_on : (v : Vio) (post : Post) → goes_on sizes v ≡ Some post → (on : Onward) × (post.1 ≡ Request (onward on v))
  went_on v post goes = goes_by (λ p. (on : Onward) × (p.1 ≡ Request (onward on v))) sizes v post goes (λ reads. read v.old)
      (λ writes zeros. (goes_to v phase.Enter Zero v.bytes refl refl refl refl, refl)) (λ writes others. (goes_to v phase.Claim v.new v.bytes refl refl refl refl, refl))
      (λ discards. (goes_to v phase.Enter Unmapped v.bytes refl refl refl refl, refl))
    where
      read : (m : Mapping) → (on : Onward) × ((read_next v m).1 ≡ Request (onward on v))
      read (At x) = (goes_to v phase.Load v.new v.bytes refl refl refl refl, refl)
      read Unmapped = (goes_to v phase.Loaded v.new zero_block refl refl refl refl, refl)
      read Zero = (goes_to v phase.Loaded v.new zero_block refl refl refl refl, refl)

  -- or reads its leaf first
  abbrev to_leaf : Pbn → Vio → Onward
  to_leaf x v = record { phase = phase.LoadLeaf; leaf = Some x; old = v.old; latest = None; new = v.new; bytes = v.bytes; locks = refl; unowed = refl; unentered = refl; uncommitted = refl }

  first_taken : (a : ℕ) (f : Vio → ℕ) (vs : List Vio) (w : Vio) → first_for a vs ≡ Some w → total f vs ≡ f w + total f (but_first_for a vs)
  first_taken a f [] w is = absurd cc
  first_taken a f (v ∷ vs) w is = elim (eqb_tells v.at.0 a) [
    | inl same ↦ rw same.0 (ap (λ u. f u + total f vs) (same_Some _ _ (rw same.0 at is)))
    | inr other ↦ let rest = first_taken a f vs w (rw other.0 at is) in rw other.0 (omega (arith, rest))
  ]

  split_for : (f : Vio → ℕ) (a : ℕ) (vs : List Vio) → total f (all_for a vs) + total f (none_for a vs) ≡ total f vs
  split_for f a [] = refl
  split_for f a (v ∷ vs) =
      let rest = split_for f a vs in
      elim (eqb_tells v.at.0 a) [ inl same ↦ rw same.0 (omega (arith, rest)) | inr other ↦ rw other.0 (omega (arith, rest)) ]

  -- what a logical zone keeps: those that wait for a lock, and beside them those that wait for a page, or for a report
  abbrev others_of : LogicalZone → Sum
  others_of l f = all_there l.lacking f + all_there l.settling f

  three_sum : (f : Item → ℕ) (us vs ws : List Vio) → total f (as_items (us ++ (vs ++ ws))) ≡ all_there us f + (all_there vs f + all_there ws f)
  three_sum f [] vs ws = omega (arith, there_sum f vs ws)
  three_sum f (u ∷ us) vs ws = omega (arith, three_sum f us vs ws)

  logical_kept : (l : LogicalZone) → KeptIn (at.Logical l) → (f : Item → ℕ) → queued f (at.Logical l) ≡ all_in phase.Wait l.waiting f + others_of l f
  logical_kept l kept f = omega (arith, three_sum f l.waiting l.lacking l.settling, there_in f phase.Wait l.waiting kept.0)

  -- whoever leaves its lock before its entry is committed sets nothing; or it sets its slot
  sets_none : (l : LogicalZone) (v : Vio) (q : Phase) → has_entry q ≡ false → is_committed q ≡ false → owes q ≡ false → IsSetBy l v q l.slots l.reported
  sets_none l v q unentered uncommitted unowed = record {
    count = omega (arith, ap (λ (b : Bool). bit (b && not (is_some v.page))) unentered);
    waited = λ w. omega (arith, ap (λ (c : Bool). if c && not (is_some v.page) then has_old w (remapping v) else 0) uncommitted);
    told = λ w. refl;
    unowed = unowed;
  }

  own_waited : (w : Writer) (v : Vio) → v.page ≡ None → waiter_weight w (turned phase.Settle v) ≡ has_old w (remapping v)
  own_waited w v none = ap (λ (o : Option PageId). if not (is_some o) then has_old w (remapping v) else 0) none

  sets_slot : (l : LogicalZone) (v : Vio) (reported : List Remapping) → v.page ≡ None → ((w : Writer) → has_old w (remapping v) + total (has_old w) reported ≡ total (has_old w) l.reported)
      → IsSetBy l v phase.Settle (with_slot l v).slots reported
  sets_slot l v reported none told = record {
    count = omega (arith, ap (λ (o : Option PageId). bit (not (is_some o))) none);
    waited = λ w. omega (arith, own_waited w v none);
    told = λ w. omega (arith, told w);
    unowed = refl;
  }

  -- the report of a request is as that of its entry: it replaces a block
  same_old : (w : Writer) (e f : Remapping) → e.request ≡ f.request → Replaces e → Replaces f → has_old w e ≡ has_old w f
  same_old w e f same one other =
      ap (λ (b : Bool). bit (same_writer e.request w && b)) one ∙ ap (λ (u : Writer). bit (same_writer u w && true)) same ∙ ap (λ (b : Bool). bit (same_writer f.request w && b)) (sym other)

  no_old : (w : Writer) (e : Remapping) → is_some (block_in e.old) ≡ false → has_old w e ≡ 0
  no_old w e none = ap (λ (b : Bool). bit (same_writer e.request w && b)) none ∙ neither (same_writer e.request w)
    where
      neither : (b : Bool) → bit (b && false) ≡ 0
      neither true = refl
      neither false = refl

  without_one : (w : Writer) (v : Vio) (es : List Remapping) → AllByRecursion Replaces es → Replaces (remapping v) → is_reported v.request es ≡ true
      → has_old w (remapping v) + total (has_old w) (without_report v.request es) ≡ total (has_old w) es
  without_one w v [] all own some = absurd cc
  without_one w v (e ∷ es) all own some = elim (same_tells e.request v.request) [
    | inl same ↦ rw same.0 (omega (arith, same_old w e (remapping v) same.1 all.0 own))
    | inr other ↦ let rest = without_one w v es all.1 own (rw other.0 at some) in rw other.0 (omega (arith, rest))
  ]

  -- a request leaves its lock
  module _ (l : LogicalZone) (v : Vio) (leased : Leased l v) (kept : KeptIn (at.Logical l)) where
    -- of those that wait for it the first gets it
    others_kept : (w : Vio) → first_for v.at.0 l.waiting ≡ Some w → (f : Item → ℕ) → all_in phase.Wait l.waiting f ≡ f (Request (turned phase.Wait w)) + all_in phase.Wait (but_first_for v.at.0 l.waiting) f
    others_kept w first f = first_taken v.at.0 (λ u. f (Request (turned phase.Wait u))) l.waiting w first

    others_sum : (lacking settling : List Vio) (f : Item → ℕ)
        → total f (as_items (but_first_for v.at.0 l.waiting ++ (lacking ++ settling))) ≡ all_in phase.Wait (but_first_for v.at.0 l.waiting) f + (all_there lacking f + all_there settling f)
    others_sum lacking settling f =
        let others = but_first_for v.at.0 l.waiting in
        omega (arith, three_sum f others lacking settling, there_in f phase.Wait others (every_but_first (IsIn phase.Wait) v.at.0 l.waiting kept.0))

    module _ (slots reported : List Remapping) (q : Phase) (in_it : v.phase ≡ q) (locks : holds q ≡ true) (is_set : IsSetBy l v q slots reported) (a : Option Answer) where
      abbrev set : LogicalZone
      set = record l { slots = slots; reported = reported }

      left_rule : (o : Option Vio) → first_for v.at.0 l.waiting ≡ o → IsRule sizes (at.Logical l) (Request v ∷ []) (at.Logical (passed_to v.at.0 set o)) ((id.Desk, Request (replied a v)) ∷ passes_on o)
      left_rule None first = beside (others_of l) (rule.leaves l slots reported v q a locks is_set leased) (λ f. omega (arith, in_phase f v q in_it, logical_kept l kept f)) (λ f. omega (arith, logical_kept l kept f))
      left_rule (Some w) first =
          beside (others_of l) (rule.hands_on l slots reported v q a w (but_first_for v.at.0 l.waiting) locks is_set leased) (λ f. omega (arith, in_phase f v q in_it, logical_kept l kept f, others_kept w first f))
          (λ f. omega (arith, others_sum l.lacking l.settling f))

      leaves_rule : IsRule sizes (at.Logical l) (Request v ∷ []) (at.Logical (released v.at.0 set)) ((id.Desk, Request (replied a v)) ∷ granted v.at.0 set)
      leaves_rule = left_rule (first_for v.at.0 l.waiting) refl

    -- it leaves it with its page, that isn't made any more: those that wait for a page look again
    module _ (unlinkable : List PageId) (q : Phase) (page : PageId) (in_it : v.phase ≡ q) (locks : holds q ≡ true) (is_dropped : IsDroppedBy l q unlinkable) (is_page : v.page ≡ Some page) (made : MadeIn l page) where
      abbrev unmade : LogicalZone
      unmade = unmaking l l.tree unlinkable page

      abbrev left : Vio
      left = without_page v

      given_up_rule : (o : Option Vio) → first_for v.at.0 l.waiting ≡ o
          → IsRule sizes (at.Logical l) (Request v ∷ []) (at.Logical (passed_to v.at.0 unmade o)) ((id.Desk, Request (gives_up v)) ∷ (passes_on o ++ logical.all_again l.lacking))
      given_up_rule None first =
          beside (others_of l)
          (rule.both (rule.forgets l unlinkable v q page locks is_dropped is_page made) (λ f. refl) (rule.leaves unmade unmade.slots unmade.reported left phase.Abort v.answer refl (sets_none unmade left phase.Abort refl refl refl) leased))
          (λ f. omega (arith, in_phase f v q in_it, logical_kept l kept f))
          (λ f. omega (arith, looks_sum f l.lacking, there_sum f l.waiting l.settling, there_in f phase.Wait l.waiting kept.0))
      given_up_rule (Some w) first =
          beside (others_of l)
          (rule.both (rule.forgets l unlinkable v q page locks is_dropped is_page made) (λ f. omega (arith, others_kept w first f)) (rule.hands_on unmade unmade.slots unmade.reported left phase.Abort v.answer w (but_first_for v.at.0 l.waiting) refl (sets_none unmade left phase.Abort refl refl refl) leased))
          (λ f. omega (arith, in_phase f v q in_it, logical_kept l kept f))
          (λ f. omega (arith, looks_sum f l.lacking, others_sum [] l.settling f))

  -- the zone is the same whether its page or its lock is let go first
  unmade_passed : (a : ℕ) (page : PageId) (l : LogicalZone) (o : Option Vio) → logical.woken (logical.unmade page (passed_to a l o)) ≡ passed_to a (unmaking l l.tree l.unlinkable page) o
  unmade_passed a page l None = refl
  unmade_passed a page l (Some w) = refl

  dropped_passed : (a : ℕ) (page : PageId) (l : LogicalZone) (o : Option Vio) → logical.woken (logical.dropped page (passed_to a l o)) ≡ passed_to a (unmaking l l.tree (l.unlinkable ++ page ∷ []) page) o
  dropped_passed a page l None = refl
  dropped_passed a page l (Some w) = refl

  -- a logical zone serves a request at home
  module _ (old : LogicalZone) (v : Vio) (kept : KeptIn (at.Logical old)) (leased : holds v.phase ≡ true → Leased old v) (made_in : (page : PageId) → v.page ≡ Some page → MadeIn old page) (none : MakesNone (Request v ∷ [])) (reports : AreReports (at.Logical old)) where
    abbrev IsServed : LogicalZone → List Post → Type 0
    IsServed new posts = IsRule sizes (at.Logical old) (Request v ∷ []) (at.Logical new) posts

    -- what it keeps, and the request in front
    was_kept : (q : Phase) → v.phase ≡ q → (f : Item → ℕ) → total f (Request v ∷ []) + queued f (at.Logical old) ≡ f (Request (turned q v)) + all_in phase.Wait old.waiting f + others_of old f
    was_kept q is f = omega (arith, in_phase f v q is, logical_kept old kept f)

    stays_kept : (f : Item → ℕ) → queued f (at.Logical old) ≡ all_in phase.Wait old.waiting f + others_of old f
    stays_kept f = logical_kept old kept f

    links_rule : (page : PageId) (x : Pbn) (between : LogicalZone) → v.phase ≡ phase.Settle → v.page ≡ Some page → IsLinked page x old between
        → IsServed (logical.woken between) ((v.home, Request (vios.made v)) ∷ logical.all_again old.lacking)
    links_rule page x between p is_page linked =
        let is : logical.woken between ≡ unmaking old between.tree old.unlinkable page = ap logical.woken linked.rest in
        subst (λ (new : LogicalZone). IsServed new ((v.home, Request (vios.made v)) ∷ logical.all_again old.lacking)) (sym is)
        (beside (others_of old) (rule.links old between.tree v page is_page (made_in page is_page)) (was_kept phase.Settle p)
        (λ f. omega (arith, looks_sum f old.lacking, there_sum f old.waiting old.settling, there_in f phase.Wait old.waiting kept.0)))

    logical_rule : (new : LogicalZone) (happened : Trace) (posts : List Post) → LogicalServes sizes old v new happened posts → IsServed new posts
    logical_rule new happened posts (logical.arrives_retired p among n m q) = rw (n, q) (beside (others_of old) (rule.arrives_retired old v) (was_kept phase.Arrive p) (λ f. omega (arith, stays_kept f)))
    logical_rule new happened posts (logical.arrives_free p among held n m q) = rw (n, q) (beside (others_of old) (rule.arrives_free old v) (was_kept phase.Arrive p) (λ f. omega (arith, stays_kept f)))
    logical_rule new happened posts (logical.arrives_held p among held n m q) =
        let behind = turned phase.Wait (placed old v) in
        rw (n, q) (beside (others_of old) (rule.arrives_held old v (old.waiting ++ behind ∷ [])) (was_kept phase.Arrive p)
        (λ f. omega (arith, there_more f old.waiting behind, three_sum f (old.waiting ++ behind ∷ []) old.lacking old.settling, there_in f phase.Wait old.waiting kept.0)))
    logical_rule new happened posts (logical.looks mapping post p path stays there known goes n m q) =
        let on = went_on (looked old mapping v) post goes in
        rw (n, q) (beside (others_of old) (rule.looks old v on.0) (was_kept phase.Look p) (λ f. omega (arith, ap f on.1, stays_kept f)))
    logical_rule new happened posts (logical.needs_leaf x p path stays there unknown stands n m q) =
        rw (n, q) (beside (others_of old) (rule.looks old v (to_leaf x v)) (was_kept phase.Look p) (λ f. omega (arith, stays_kept f)))
    logical_rule new happened posts (logical.leafed post p goes n m q) =
        let on = went_on v post goes in
        rw (n, q) (beside (others_of old) (rule.leafed old v on.0) (was_kept phase.LoadedLeaf p) (λ f. omega (arith, ap f on.1, stays_kept f)))
    logical_rule new happened posts (logical.passes p path past n m q) =
        rw (n, q) (leaves_rule old v (leased (ap holds p)) kept old.slots old.reported phase.Look p refl (sets_none old v phase.Look refl refl refl) (Some reply.Ok))
    logical_rule new happened posts (logical.is_dropped page p path lacked never n m q) =
        rw (n, q) (leaves_rule old v (leased (ap holds p)) kept old.slots old.reported phase.Look p refl (sets_none old v phase.Look refl refl refl) (Some reply.Stopped))
    logical_rule new happened posts (logical.waits page p path lacked never being n m q) =
        rw (n, q) (beside (others_of old) (rule.lacks old v (old.lacking ++ v ∷ [])) (λ f. omega (arith, stays_kept f))
        (λ f. omega (arith, there_more f old.lacking v, three_sum f old.waiting (old.lacking ++ v ∷ []) old.settling, there_in f phase.Wait old.waiting kept.0)))
    logical_rule new happened posts (logical.makes_page page p path lacked never free n m q) =
        rw (n, q) (beside (others_of old) (rule.makes old v page (none v refl (inl p))) (was_kept phase.Look p) (λ f. omega (arith, stays_kept f)))
    logical_rule new happened posts (logical.links page x between p is_page to may linked n m q) = rw (n, q) (links_rule page x between p is_page linked)
    logical_rule new happened posts (logical.settles p pageless there n m q) =
        rw (n, q) (leaves_rule old v (leased (ap holds p)) kept (with_slot old v).slots (reports_left v old.reported) phase.Settle p refl (sets_slot old v (reports_left v old.reported) pageless (λ w. told_before w there)) (Some reply.Ok))
      where
        left_as : (b : Bool) → is_some (block_in v.old) ≡ b → reports_left v old.reported ≡ (if b then without_report v.request old.reported else old.reported)
        left_as b is = ap (λ (c : Bool). if c then without_report v.request old.reported else old.reported) is

        told_before : (w : Writer) → awaits_report old v ≡ false → has_old w (remapping v) + total (has_old w) (reports_left v old.reported) ≡ total (has_old w) old.reported
        told_before w there = elim (cases_Bool (is_some (block_in v.old))) [
          | inr none ↦ omega (arith, no_old w (remapping v) none, ap (total (has_old w)) (left_as false none))
          | inl replaces ↦ elim (cases_Bool (is_reported v.request old.reported)) [
            | inl some ↦ omega (arith, without_one w v old.reported (reports old refl).0 replaces some, ap (total (has_old w)) (left_as true replaces))
            | inr unreported ↦ absurd (let no : true ≡ false = rw (replaces, unreported) at there in cc)
          ]
        ]
    logical_rule new happened posts (logical.awaits p pageless there n m q) =
        rw (n, q) (beside (others_of old) (rule.awaits old v (old.settling ++ v ∷ [])) (λ f. omega (arith, stays_kept f))
        (λ f. omega (arith, there_more f old.settling v, three_sum f old.waiting old.lacking (old.settling ++ v ∷ []), there_in f phase.Wait old.waiting kept.0)))
    logical_rule new happened posts (logical.gives p n m q) =
        rw (n, q) (leaves_rule old v (leased (ap holds p)) kept old.slots old.reported phase.Loaded p refl (sets_none old v phase.Loaded refl refl refl) (Some (reply.Bytes v.bytes)))
    logical_rule new happened posts (logical.aborts p pageless n m q) =
        rw (n, q) (leaves_rule old v (leased (ap holds p)) kept old.slots old.reported phase.Abort p refl (sets_none old v phase.Abort refl refl refl) v.answer)
    logical_rule new happened posts (logical.unmakes page p is_page n m q) =
        let first = first_for v.at.0 old.waiting in
        rw (n, q, unmade_passed v.at.0 page old first) (given_up_rule old v (leased (ap holds p)) kept old.unlinkable phase.Abort page p refl (record { count = omega arith; unowed = refl; uncommitted = refl }) is_page (made_in page is_page) first refl)
    logical_rule new happened posts (logical.drops page p is_page n m q) =
        let first = first_for v.at.0 old.waiting in
        rw (n, q, dropped_passed v.at.0 page old first) (given_up_rule old v (leased (ap holds p)) kept (old.unlinkable ++ page ∷ []) phase.AbortEntered page p refl (record { count = omega (arith, length-append old.unlinkable (page ∷ [])); unowed = refl; uncommitted = refl }) is_page (made_in page is_page) first refl)
    logical_rule new happened posts (logical.aborts_entered p pageless n m q) =
        let split : (f : Item → ℕ) → all_in phase.Wait (all_for v.at.0 old.waiting) f + all_in phase.Wait (none_for v.at.0 old.waiting) f ≡ all_in phase.Wait old.waiting f = λ f. split_for (λ u. f (Request (turned phase.Wait u))) v.at.0 old.waiting in
        let others = every-map {P = λ u. IsIn phase.Wait u × (u.at.0 ≡ v.at.0 → ⊥)} {Q = IsIn phase.Wait} (λ u both. both.0) (none_for v.at.0 old.waiting) (every_none_for (IsIn phase.Wait) v.at.0 old.waiting kept.0) in
        rw (n, q) (beside (others_of old) (rule.retires old v pageless (leased (ap holds p))) (λ f. omega (arith, was_kept phase.AbortEntered p f, split f))
        (λ f. omega (arith, stopped_sum f (all_for v.at.0 old.waiting), three_sum f (none_for v.at.0 old.waiting) old.lacking old.settling, there_in f phase.Wait (none_for v.at.0 old.waiting) others)))

  -- a report comes for the request that waits for it, or is kept
  pub settling_taken : (w : Writer) (f : Vio → ℕ) (vs : List Vio) (v : Vio) → settling_of w vs ≡ Some v → total f vs ≡ f v + total f (without_settling w vs)
  settling_taken w f [] v is = absurd cc
  settling_taken w f (u ∷ vs) v is = elim (same_tells u.request w) [
    | inl same ↦ rw same.0 (ap (λ (x : Vio). f x + total f vs) (same_Some _ _ (rw same.0 at is)))
    | inr other ↦ let rest = settling_taken w f vs v (rw other.0 at is) in rw other.0 (omega (arith, rest))
  ]

  -- the one that is found is one of them, and that request's
  pub settling_has : (P : Vio → Type 0) (w : Writer) (vs : List Vio) (v : Vio) → settling_of w vs ≡ Some v → AllByRecursion P vs → P v × (v.request ≡ w)
  settling_has P w [] v is all = absurd cc
  settling_has P w (u ∷ vs) v is all = elim (same_tells u.request w) [
    | inl same ↦ let here : u ≡ v = same_Some _ _ (rw same.0 at is) in (subst P here all.0, subst (λ (x : Vio). x.request ≡ w) here same.1)
    | inr other ↦ settling_has P w vs v (rw other.0 at is) all.1
  ]

  module _ (old : LogicalZone) (e : Remapping) (kept : KeptIn (at.Logical old)) (leased : (v : Vio) → settling_of e.request old.settling ≡ Some v → Leased old v) (reports : AreReports (at.Logical old)) (own : Replaces e) where
    abbrev came : LogicalZone
    came = record old { reported = old.reported ++ e ∷ [] }

    module _ (v : Vio) (found : settling_of e.request old.settling ≡ Some v) where
      has : (v.phase ≡ phase.Settle) × (v.request ≡ e.request)
      has = settling_has (IsIn phase.Settle) e.request old.settling v found kept.2

      is : (v.page ≡ None) × Replaces (remapping v)
      is = (settling_has (λ u. (u.page ≡ None) × Replaces (remapping u)) e.request old.settling v found (reports old refl).1).0

      abbrev others : List Vio
      others = without_settling e.request old.settling

      -- the zone once the report is there, and its request goes
      abbrev ready : LogicalZone
      ready = record old { settling = others; reported = old.reported ++ e ∷ [] }

      told : (w : Writer) → has_old w (remapping v) + total (has_old w) old.reported ≡ total (has_old w) (old.reported ++ e ∷ [])
      told w = omega (arith, total-append (has_old w) old.reported (e ∷ []), same_old w e (remapping v) (sym has.1) own is.1)

      taken : (f : Item → ℕ) → all_there old.settling f ≡ f (Request (turned phase.Settle v)) + all_there others f
      taken f = omega (arith, settling_taken e.request (λ u. f (Request u)) old.settling v found, in_phase f v phase.Settle has.0)

      sets : IsSetBy ready v phase.Settle (with_slot old v).slots old.reported
      sets = sets_slot ready v old.reported is.0 told

      by : (o : Option Vio) → first_for v.at.0 old.waiting ≡ o
          → IsRule sizes (at.Logical old) (Report e ∷ []) (at.Logical (passed_to v.at.0 (with_slot (record old { settling = others }) v) o)) ((id.Desk, Request (replied (Some reply.Ok) v)) ∷ passes_on o)
      by None first =
          beside (λ f. all_there old.lacking f + all_there others f)
          (rule.both (rule.keeps_report old e others (λ f. f (Request (turned phase.Settle v)) + all_in phase.Wait old.waiting f)) (λ f. refl) (rule.leaves ready (with_slot old v).slots old.reported v phase.Settle (Some reply.Ok) refl sets (leased v found)))
          (λ f. omega (arith, logical_kept old kept f, taken f)) (λ f. omega (arith, three_sum f old.waiting old.lacking others, there_in f phase.Wait old.waiting kept.0))
      by (Some u) first =
          beside (λ f. all_there old.lacking f + all_there others f)
          (rule.both (rule.keeps_report old e others (λ f. f (Request (turned phase.Settle v)) + all_in phase.Wait old.waiting f)) (λ f. omega (arith, first_taken v.at.0 (λ w. f (Request (turned phase.Wait w))) old.waiting u first))
          (rule.hands_on ready (with_slot old v).slots old.reported v phase.Settle (Some reply.Ok) u (but_first_for v.at.0 old.waiting) refl sets (leased v found)))
          (λ f. omega (arith, logical_kept old kept f, taken f))
          (λ f. omega (arith, three_sum f (but_first_for v.at.0 old.waiting) old.lacking others, there_in f phase.Wait (but_first_for v.at.0 old.waiting) (every_but_first (IsIn phase.Wait) v.at.0 old.waiting kept.0)))

    hears_rule : (new : LogicalZone) (happened : Trace) (posts : List Post) → LogicalHears sizes old e new happened posts → IsRule sizes (at.Logical old) (Report e ∷ []) (at.Logical new) posts
    hears_rule new happened posts (logical.LogicalHears.keeps none n m q) =
        rw (n, q) (beside (λ f. 0) (rule.keeps_report old e old.settling (λ f. queued f (at.Logical old))) (λ f. omega arith) (λ f. omega arith))
    hears_rule new happened posts (logical.LogicalHears.settles v found n m q) = rw (n, q) (by v found (first_for v.at.0 old.waiting) refl)

  -- the physical zone: how one goes on that asks no more
  abbrev served_phase : List Ticket → Option Pbn → Phase
  served_phase (k ∷ others) claim = phase.Withdraw
  served_phase [] (Some x) = phase.Store
  served_phase [] None = phase.Abort

  abbrev served_answer : List Ticket → Option Pbn → Option Answer → Option Answer
  served_answer [] None answer = Some reply.NoSpace
  served_answer (k ∷ others) claim answer = answer
  served_answer [] (Some x) answer = answer

  early_served : (tickets : List Ticket) (claim : Option Pbn) → IsEarly (served_phase tickets claim)
  early_served (k ∷ others) claim = record { locks = refl; unowed = refl; unentered = refl; uncommitted = refl }
  early_served [] (Some x) = record { locks = refl; unowed = refl; unentered = refl; uncommitted = refl }
  early_served [] None = record { locks = refl; unowed = refl; unentered = refl; uncommitted = refl }

  served_is : (f : Item → ℕ) (u : Vio) (tickets : List Ticket) (claim : Option Pbn)
      → f (physical.goes_on u tickets claim).1 ≡ f (Request (record u { phase = served_phase tickets claim; answer = served_answer tickets claim u.answer }))
  served_is f u (k ∷ others) claim = refl
  served_is f u [] (Some x) = refl
  served_is f u [] None = refl

  -- it maps its address to this now, and has this claim, these tickets and this receipt
  abbrev onward_served : Vio → Mapping → Option Pbn → List Ticket → Option Receipt → Further
  onward_served v new claim tickets receipt = record {
    phase = served_phase tickets claim;
    new = new;
    claim = claim;
    tickets = tickets;
    receipt = receipt;
    answer = served_answer tickets claim v.answer;
    early = early_served tickets claim;
  }

  early_in : (v : Vio) (q : Phase) → IsEarly q → v.phase ≡ q → IsEarly v.phase
  early_in v q early is = subst IsEarly (sym is) early

  module _ (old : PhysicalZone) (v : Vio) (claims : Claims v) (zone : IsZone old.counts) where
    -- a row of it, by what it posts
    served_rule : (z : Zone) (q : Phase) (u : Vio) (new : Mapping) (claim : Option Pbn) (tickets : List Ticket) (receipt : Option Receipt) → v.phase ≡ q → IsEarly q → AsksIn old.counts z v claim tickets
        → ((f : Item → ℕ) → f (physical.served u).1 ≡ f (Request (further (onward_served v new claim tickets receipt) v))) → IsRule sizes (at.Physical old) (Request v ∷ []) (at.Physical (with_counts z old)) (physical.served u ∷ [])
    served_rule z q u new claim tickets receipt is early asks posted =
        is_rule (rule.asks_on old z v q (onward_served v new claim tickets receipt) early asks) (λ f. omega (arith, in_phase f v q is)) (λ f. omega (arith, posted f))

    asked_rule : (z : Zone) (k : Ticket) → v.phase ≡ phase.Claim → AsksIn old.counts z v v.claim (v.tickets ++ k ∷ []) → IsRule sizes (at.Physical old) (Request v ∷ []) (at.Physical (with_counts z old)) (physical.asks_on sizes (vios.holding k v) ∷ [])
    asked_rule z k is asks = by (nat_lt (length (v.tickets ++ k ∷ [])) sizes.physical)
      where
        on : Further
        on = record { phase = v.phase; new = v.new; claim = v.claim; tickets = v.tickets ++ k ∷ []; receipt = v.receipt; answer = v.answer; early = early_in v phase.Claim (record { locks = refl; unowed = refl; unentered = refl; uncommitted = refl }) is }

        back : Further
        back = record { phase = phase.Withdraw; new = Unmapped; claim = v.claim; tickets = v.tickets ++ k ∷ []; receipt = v.receipt; answer = v.answer; early = record { locks = refl; unowed = refl; unentered = refl; uncommitted = refl } }

        by : (b : Bool)
            → IsRule sizes (at.Physical old) (Request v ∷ []) (at.Physical (with_counts z old))
            ((if b then (vios.counts_of sizes (vios.holding k v), Request (vios.holding k v)) else (vios.ticket_zone (v.tickets ++ k ∷ []), Request (vios.withdrawing (vios.holding k v)))) ∷ [])
        by true = is_rule (rule.asks_on old z v phase.Claim on (record { locks = refl; unowed = refl; unentered = refl; uncommitted = refl }) asks) (λ f. omega (arith, in_phase f v phase.Claim is)) (λ f. omega arith)
        by false = is_rule (rule.asks_on old z v phase.Claim back (record { locks = refl; unowed = refl; unentered = refl; uncommitted = refl }) asks) (λ f. omega (arith, in_phase f v phase.Claim is)) (λ f. omega arith)

  physical_rule : (old : PhysicalZone) (v : Vio) (new : PhysicalZone) (made : Trace) (posts : List Post) → Claims v → IsZone old.counts
      → ((k : Ticket) (others : List Ticket) → v.phase ≡ phase.Withdraw → v.tickets ≡ k ∷ others → k.zone ≡ old.counts.zone) → PhysicalServes sizes old v new made posts
      → IsRule sizes (at.Physical old) (Request v ∷ []) (at.Physical new) posts
  physical_rule old v new made posts claims zone here (physical.PhysicalServes.claims x z p gives n m q) =
      rw (n, q) (served_rule old v claims zone z phase.Claim (vios.claiming x v) (At x) (Some x) v.tickets v.receipt p (record { locks = refl; unowed = refl; unentered = refl; uncommitted = refl })
      (asks_block old.counts v z x zone gives (claim_in v phase.Claim p claims)) (λ f. served_is f (vios.claiming x v) v.tickets (Some x)))
  physical_rule old v new made posts claims zone here (physical.PhysicalServes.asks k b z p fewer begins gives n m q) =
      rw (n, q) (asked_rule old v claims zone z k p (asks_ticket old.counts v b begins z k gives (asked_here k b z begins gives)))
    where
      asked_here : (k : Ticket) (b z : Zone) → BeginsNext old.counts b → GivesTicket b z v.request k → k.zone ≡ old.counts.zone
      asked_here k b z begins gives = gives.issues.zone ∙ (begun_keeps old.counts b begins).desk_zone ∙ zone.desk
  physical_rule old v new made posts claims zone here (physical.PhysicalServes.takes_block k others x b z p has none begins from n m q) =
      rw (n, q) (served_rule old v claims zone z phase.Withdraw (vios.claiming x (vios.with_tickets others v)) (At x) (Some x) others v.receipt p (record { locks = refl; unowed = refl; unentered = refl; uncommitted = refl })
      (takes_block old.counts v b z k others x begins from has (here k others p has) none) (λ f. served_is f (vios.claiming x (vios.with_tickets others v)) others (Some x)))
  physical_rule old v new made posts claims zone here (physical.PhysicalServes.drops_block k others x y b between z p has some begins from claim change n m q) =
      let is_zone = withdrawn_is_zone b between k _ (begun_is_zone old.counts b _ zone begins) from in
      rw (n, q) (served_rule old v claims zone z phase.Withdraw (vios.with_tickets others v) v.new v.claim others v.receipt p (record { locks = refl; unowed = refl; unentered = refl; uncommitted = refl })
      (drops_block old.counts v b between z k others x begins from is_zone claim change has (here k others p has)) (λ f. served_is f (vios.with_tickets others v) others v.claim))
  physical_rule old v new made posts claims zone here (physical.PhysicalServes.has_none k others r b z p has begins from n m q) =
      rw (n, q) (served_rule old v claims zone z phase.Withdraw (vios.refused r (vios.with_tickets others v)) v.new v.claim others (Some r) p (record { locks = refl; unowed = refl; unentered = refl; uncommitted = refl })
      (has_none old.counts v b z k others r begins from has (here k others p has)) (λ f. served_is f (vios.refused r (vios.with_tickets others v)) others v.claim))
  physical_rule old v new made posts claims zone here (physical.PhysicalServes.counts x slab z p some claim takes change n m q) =
      rw (n, q) (is_rule (rule.counts_block old z v x some (counted_moves v.page old.counts z x slab zone claim takes change) (counted_passes v.page old.counts z x slab zone claim takes change)) (λ f. omega (arith, in_phase f v phase.Count p)) (λ f. omega arith))
  physical_rule old v new made posts claims zone here (physical.PhysicalServes.drops x z p some claim change n m q) =
      rw (n, q) (is_rule (rule.drops_claim old z v x (passes change.serves) some (dropped_moves old.counts z x zone claim change) (dropped_passes old.counts z x zone claim change)) (λ f. omega (arith, in_phase f v phase.AbortClaim p)) (λ f. omega arith))
  physical_rule old v new made posts claims zone here (physical.PhysicalServes.drops_none p none n m q) = rw (n, q) (is_rule (rule.drops_none old v) (λ f. omega (arith, in_phase f v phase.AbortClaim p)) (λ f. omega arith))
  physical_rule old v new made posts claims zone here (physical.PhysicalServes.spends p n m q) = rw (n, q) (is_rule (rule.spends_claim old v) (λ f. omega (arith, in_phase f v phase.AbortEnteredClaim p)) (λ f. omega arith))

  update_rule : (old : PhysicalZone) (e : Remapping) (new : PhysicalZone) (made : Trace) (posts : List Post) → IsZone old.counts → PhysicalTakes sizes old e new made posts
      → IsRule sizes (at.Physical old) (Decrement e ∷ []) (at.Physical new) posts
  update_rule old e new made posts zone (physical.PhysicalTakes.removes x slab z from own takes change n m q) =
      rw (n, q) (is_rule (rule.removes old z e x (passes change.serves) from (removed_moves old.counts z x slab zone own takes change) (removed_passes old.counts z x slab zone own takes change)) (λ f. omega arith) (λ f. omega arith))
  update_rule old e new made posts zone (physical.PhysicalTakes.is_stray x from own stray n m q) = rw (n, q) (by old.strays refl)
    where
      by : (strays : List Remapping) → old.strays ≡ strays → IsRule sizes (at.Physical old) (Decrement e ∷ []) (at.Physical (record old { strays = e ∷ old.strays })) ((home_of sizes e, Report e) ∷ tells old.strays x)
      by [] is =
          let whole : record old { strays = [] } ≡ old = ap (λ (es : List Remapping). record old { strays = es }) (sym is) in
          subst (λ (o : PhysicalZone). IsRule sizes (at.Physical o) (Decrement e ∷ []) (at.Physical (record o { strays = e ∷ o.strays })) ((home_of sizes e, Report e) ∷ tells o.strays x)) whole
          (is_rule (rule.strays old e (Stray x 0)) (λ f. omega arith) (λ f. omega arith))
      by (first ∷ strays) is =
          let whole : record old { strays = first ∷ strays } ≡ old = ap (λ (es : List Remapping). record old { strays = es }) (sym is) in
          subst (λ (o : PhysicalZone). IsRule sizes (at.Physical o) (Decrement e ∷ []) (at.Physical (record o { strays = e ∷ o.strays })) ((home_of sizes e, Report e) ∷ tells o.strays x)) whole
          (is_rule (rule.strays_again old e first strays) (λ f. omega arith) (λ f. omega arith))

  dropped_sum : (f : Item → ℕ) (vs : List Vio) → posts_sum (all_dropped sizes vs) f ≡ all_ended phase.AbortEnteredClaim reply.Stopped vs f
  dropped_sum f [] = refl
  dropped_sum f (v ∷ vs) = omega (arith, dropped_sum f vs)

  journal_rule : (old : JournalZone) (v : Vio) (new : JournalZone) (made : Trace) (posts : List Post) → CountsIn (Request v ∷ []) → Claims v → JournalServes sizes old v new made posts → IsRule sizes (at.Journal old) (Request v ∷ []) (at.Journal new) posts
  journal_rule old v new made posts counts claims (journal.is_stopped p closed n m q) =
      rw (n, q) (is_rule (rule.refuses old v reply.Stopped) (λ f. omega (arith, in_phase f v phase.Enter p, there_sum f old.filling old.waiting)) (λ f. omega (arith, there_sum f old.filling old.waiting)))
  journal_rule old v new made posts counts claims (journal.is_full p closed none n m q) =
      rw (n, q) (is_rule (rule.refuses old v reply.Full) (λ f. omega (arith, in_phase f v phase.Enter p, there_sum f old.filling old.waiting)) (λ f. omega (arith, there_sum f old.filling old.waiting)))
  journal_rule old v new made posts counts claims (journal.waits p closed block none n m q) =
      rw (n, q) (is_rule (rule.waits old v (old.waiting ++ v ∷ [])) (λ f. omega (arith, in_phase f v phase.Enter p, there_sum f old.filling old.waiting))
      (λ f. omega (arith, in_phase f v phase.Enter p, there_more f old.waiting v, there_sum f old.filling (old.waiting ++ v ∷ []))))
  journal_rule old v new made posts counts claims (journal.enters p closed block room busy n m q) =
      rw (n, q) (is_rule (rule.enters old v (counts v refl p) (claim_in v phase.Enter p claims)) (λ f. omega (arith, in_phase f v phase.Enter p, there_sum f old.filling old.waiting))
      (λ f. omega (arith, there_more f old.filling (turned phase.Pending v), there_sum f (old.filling ++ turned phase.Pending v ∷ []) old.waiting)))
  journal_rule old v new made posts counts claims (journal.enters_first p closed block room idle n m q) =
      let is : record old { busy = false } ≡ old = rw (← idle) refl in
      subst (λ (o : JournalZone). IsRule sizes (at.Journal o) (Request v ∷ []) (at.Journal new) posts) is
      (rw (n, q) (is_rule (rule.enters_first old v (counts v refl p) (claim_in v phase.Enter p claims)) (λ f. omega (arith, in_phase f v phase.Enter p, there_sum f old.filling old.waiting))
      (λ f. omega (arith, there_more f old.filling (turned phase.Pending v), there_sum f (old.filling ++ turned phase.Pending v ∷ []) old.waiting))))

  -- where a committed entry goes, and what goes behind it
  handed_to : (v : Vio) (m : Mapping) → v.new ≡ m → v.claim ≡ block_in v.new → (q : Phase) × IsHandedOut v q × ((hands_to sizes v v.new).1 ≡ Request (turned q v))
  handed_to v (At x) is claim = (phase.Count, to_count, ap (λ (n : Mapping). (hands_to sizes v n).1) is)
  handed_to v Unmapped is claim = (phase.Settle, to_slot (claim ∙ ap block_in is), ap (λ (n : Mapping). (hands_to sizes v n).1) is)
  handed_to v Zero is claim = (phase.Settle, to_slot (claim ∙ ap block_in is), ap (λ (n : Mapping). (hands_to sizes v n).1) is)

  none_old : (f : Remapping → ℕ) (es : List Remapping) → length es ≡ 0 → total f es ≡ 0
  none_old f [] none = refl
  none_old f (e ∷ es) none = absurd (omega (arith, none))

  decrement_is : (v : Vio) → IsCounted v → (o : Option PageId) (m : Mapping) → v.page ≡ o → v.old ≡ m
      → (more : Sum) × IsDecrementOf v more × ((f : Item → ℕ) → posts_sum (decrement_for sizes v.page (remapping v) v.old) f ≡ more f)
  decrement_is v counted (Some page) m some is =
      let empty : length (remappings (logged v ∷ [])) ≡ 0 = counted ∙ ap (λ (o : Option PageId). bit (not (is_some o))) some in
      (λ f. 0, of_page page some (λ y. none_old (is_old y) (remappings (logged v ∷ [])) empty) (λ w. none_old (has_old w) (remappings (logged v ∷ [])) empty), λ f. ap (λ (o : Option PageId). posts_sum (decrement_for sizes o (remapping v) v.old) f) some)
  decrement_is v counted None (At x) none is =
      (λ f. f (Decrement (remapping v)), of_block none, λ f. ap (λ (o : Option PageId). posts_sum (decrement_for sizes o (remapping v) v.old) f) none ∙ ap (λ (n : Mapping). posts_sum (decrement_for sizes None (remapping v) n) f) is ∙ (let one : f (Decrement (remapping v)) + 0 ≡ f (Decrement (remapping v)) = omega arith in one))
  decrement_is v counted None Unmapped none is =
      (λ f. 0, of_none none (ap block_in is), λ f. ap (λ (o : Option PageId). posts_sum (decrement_for sizes o (remapping v) v.old) f) none ∙ ap (λ (n : Mapping). posts_sum (decrement_for sizes None (remapping v) n) f) is)
  decrement_is v counted None Zero none is =
      (λ f. 0, of_none none (ap block_in is), λ f. ap (λ (o : Option PageId). posts_sum (decrement_for sizes o (remapping v) v.old) f) none ∙ ap (λ (n : Mapping). posts_sum (decrement_for sizes None (remapping v) n) f) is)

  -- a block by its requests, which are in their phase
  block_with : (f : Item → ℕ) (b : SealedBlock) (vs : List Vio) → b.vios ≡ vs → f (Block b) ≡ f (Block (record b { vios = vs }))
  block_with f b vs is = rw (← is) refl

  all_turned : (q : Phase) (vs : List Vio) → AllByRecursion (IsIn q) vs → vs ≡ map (turned q) vs
  all_turned q [] all = refl
  all_turned q (v ∷ vs) all = ap (λ (u : Vio). u ∷ vs) (turned_is v q all.0) ∙ ap (λ (us : List Vio). turned q v ∷ us) (all_turned q vs all.1)

  module _ (old : JournalZone) (b : SealedBlock) (kept : KeptIn (at.Journal old)) (p : AllByRecursion (IsIn phase.Pending) b.vios) (ready : AllByRecursion IsReady b.vios) (busy : old.busy ≡ true) where
    busy_is : record old { busy = true } ≡ old
    busy_is = rw (← busy) refl

    ends_rule : (new : JournalZone) (made : Trace) (posts : List Post) → JournalEnds sizes old b new made posts → IsRule sizes (at.Journal old) (Block b ∷ []) (at.Journal new) posts
    ends_rule new made posts (journal.commits v vs is vios next n m q) =
        let pending = (subst (AllByRecursion (IsIn phase.Pending)) vios p).0 in
        let one = (subst (AllByRecursion IsReady) vios ready).0 in
        let to = handed_to v v.new refl one.0 in
        let behind = decrement_is v one.1 v.page v.old refl refl in
        rw (n, q) (is_rule (rule.commits old b v vs to.0 behind.0 to.1 behind.1)
        (λ f. omega (arith, block_with f b (turned phase.Pending v ∷ vs) (vios ∙ ap (λ (u : Vio). u ∷ vs) (turned_is v phase.Pending pending)), there_sum f old.filling old.waiting))
        (λ f. omega (arith, ap f to.2, behind.2 f, sum_append f (decrement_for sizes v.page (remapping v) v.old) ((id.Journal, Block (record b { vios = vs })) ∷ []), there_sum f old.filling old.waiting)))
    ends_rule new made posts (journal.seals v vs is vios filling due n m q) =
        rw (n, q) (is_rule (rule.seals old b) (λ f. omega (arith, block_with f b [] vios, there_sum f old.filling old.waiting))
        (λ f. omega (arith, ap (λ (us : List Vio). f (Block (journal.next_block old stage.Cover us))) filling, again_sum f old.waiting)))
    ends_rule new made posts (journal.rests is vios filling n m q) =
        subst (λ (o : JournalZone). IsRule sizes (at.Journal o) (Block b ∷ []) (at.Journal new) posts) busy_is
        (rw (n, q) (is_rule (rule.rests old b) (λ f. omega (arith, block_with f b [] vios, there_sum f old.filling old.waiting)) (λ f. omega (arith, there_sum f old.filling [], again_sum f old.waiting))))
    ends_rule new made posts (journal.fails is n m q) =
        subst (λ (o : JournalZone). IsRule sizes (at.Journal o) (Block b ∷ []) (at.Journal new) posts) busy_is
        (rw (n, q) (is_rule (rule.fails old b)
        (λ f. omega (arith, block_with f b (map (turned phase.Pending) b.vios) (all_turned phase.Pending b.vios p), there_sum f old.filling old.waiting, there_in f phase.Pending old.filling kept.0, there_in f phase.Enter old.waiting kept.1))
        (λ f. omega (
          arith,
          sum_append f (all_dropped sizes b.vios) (all_dropped sizes old.filling ++ all_refused sizes reply.Stopped old.waiting),
          sum_append f (all_dropped sizes old.filling) (all_refused sizes reply.Stopped old.waiting),
          dropped_sum f b.vios,
          dropped_sum f old.filling,
          refused_sum f reply.Stopped old.waiting,
        ))))

  -- the device, which runs, or goes on as it is
  runs : (old : DeviceZone) (front : List Item) (new : DeviceZone) (posts : List Post) → old.stopped ≡ false
      → IsRule sizes (at.Device (record old { stopped = false })) front (at.Device new) posts → IsRule sizes (at.Device old) front (at.Device new) posts
  runs old front new posts going is_one =
      let is : record old { stopped = false } ≡ old = rw (← going) refl in
      subst (λ (o : DeviceZone). IsRule sizes (at.Device o) front (at.Device new) posts) is is_one

  -- the device, which has stopped, or goes on as it is
  halts : (old : DeviceZone) (front : List Item) (new : DeviceZone) (posts : List Post) → old.stopped ≡ true
      → IsRule sizes (at.Device (record old { stopped = true })) front (at.Device new) posts → IsRule sizes (at.Device old) front (at.Device new) posts
  halts old front new posts stopped is_one =
      let is : record old { stopped = true } ≡ old = rw (← stopped) refl in
      subst (λ (o : DeviceZone). IsRule sizes (at.Device o) front (at.Device new) posts) is is_one

  announce_rule : (old : DeviceZone) (front : Item) (w : Writer) (new : DeviceZone) (made : Trace) (posts : List Post) → Announces sizes old front w new made posts → IsRule sizes (at.Device old) (front ∷ []) (at.Device new) posts
  announce_rule old front w new made posts (device.succeeds call is going n m q) = rw (n, q) (is_rule (rule.announces old front) (λ f. omega arith) (λ f. omega arith))
  announce_rule old front w new made posts (device.fails call known is going n m q) = rw (n, q) (runs old _ _ _ going (is_rule (rule.announce_fails old front) (λ f. omega arith) (λ f. omega (arith, all_notices f))))

  device_rule : (old : DeviceZone) (v : Vio) (new : DeviceZone) (made : Trace) (posts : List Post) → DeviceServes sizes old v new made posts → IsRule sizes (at.Device old) (Request v ∷ []) (at.Device new) posts
  device_rule old v new made posts (device.announces there act) = announce_rule old (Request v) v.request new made posts act
  device_rule old v new made posts (device.stores x p to going durable inside n m q) = rw (n, q) (is_rule (rule.stores old v) (λ f. omega (arith, in_phase f v phase.Store p)) (λ f. omega arith))
  device_rule old v new made posts (device.store_fails x known p to going durable inside n m q) =
      rw (n, q) (runs old _ _ _ going (is_rule (rule.store_fails old v) (λ f. omega (arith, in_phase f v phase.Store p)) (λ f. omega (arith, all_notices f))))
  device_rule old v new made posts (device.store_unmade p stopped n m q) = rw (n, q) (is_rule (rule.store_unmade old v) (λ f. omega (arith, in_phase f v phase.Store p)) (λ f. omega arith))
  device_rule old v new made posts (device.loads x bytes p from ready inside n m q) = rw (n, q) (is_rule (rule.loads old v bytes) (λ f. omega (arith, in_phase f v phase.Load p)) (λ f. omega arith))
  device_rule old v new made posts (device.load_fails x bytes known p from ready inside n m q) = rw (n, q) (is_rule (rule.load_fails old v) (λ f. omega (arith, in_phase f v phase.Load p)) (λ f. omega arith))
  device_rule old v new made posts (device.loads_leaf x bytes mappings p stands ready inside page n m q) = rw (n, q) (is_rule (rule.loads_leaf old v (slice_index_or mappings (slot_of_address v.at.0) Unmapped)) (λ f. omega (arith, in_phase f v phase.LoadLeaf p)) (λ f. omega arith))
  device_rule old v new made posts (device.leaf_fails x bytes known p stands ready inside n m q) = rw (n, q) (is_rule (rule.leaf_fails old v) (λ f. omega (arith, in_phase f v phase.LoadLeaf p)) (λ f. omega arith))
  device_rule old v new made posts (device.harms x bytes fault p stands ready inside damaged n m q) = elim (cases_Bool old.stopped) [
    | inl stopped ↦
        let posts_is : posts ≡ (v.home, Request (ended phase.Abort reply.Damaged v)) ∷ [] = q ∙ ap (λ (b : Bool). (v.home, Request (ended phase.Abort reply.Damaged v)) ∷ notices_after b sizes) stopped in
        rw (n, posts_is) (halts old _ _ _ stopped (is_rule (rule.harms_again old v (Page x fault)) (λ f. omega (arith, in_phase f v phase.LoadLeaf p)) (λ f. omega arith)))
    | inr going ↦
        let posts_is : posts ≡ (v.home, Request (ended phase.Abort reply.Damaged v)) ∷ stop_notices (notified sizes) = q ∙ ap (λ (b : Bool). (v.home, Request (ended phase.Abort reply.Damaged v)) ∷ notices_after b sizes) going in
        rw (n, posts_is) (runs old _ _ _ going (is_rule (rule.harms old v (Page x fault)) (λ f. omega (arith, in_phase f v phase.LoadLeaf p)) (λ f. omega (arith, all_notices f))))
  ]
  device_rule old v new made posts (device.flushes p going durable n m q) = rw (n, q) (is_rule (rule.flushes old v) (λ f. omega (arith, in_phase f v phase.Flush p)) (λ f. omega arith))
  device_rule old v new made posts (device.flush_fails known p going durable n m q) =
      rw (n, q) (runs old _ _ _ going (is_rule (rule.flush_fails old v) (λ f. omega (arith, in_phase f v phase.Flush p)) (λ f. omega (arith, all_notices f))))
  device_rule old v new made posts (device.flush_unmade p stopped n m q) = rw (n, q) (is_rule (rule.flush_unmade old v) (λ f. omega (arith, in_phase f v phase.Flush p)) (λ f. omega arith))

  told_rule : (old : DeviceZone) (damage : Damage) (new : DeviceZone) (made : Trace) (posts : List Post) → DeviceHears sizes old damage new made posts → IsRule sizes (at.Device old) (item.Damage damage ∷ []) (at.Device new) posts
  told_rule old damage new made posts h = elim (cases_Bool old.stopped) [
    | inl stopped ↦
        let posts_is : posts ≡ [] = h.posts_are ∙ ap (λ (b : Bool). notices_after b sizes) stopped in
        rw (h.new_is, posts_is) (halts old _ _ _ stopped (is_rule (rule.halts_again old damage) (λ f. omega arith) (λ f. omega arith)))
    | inr going ↦
        let posts_is : posts ≡ stop_notices (notified sizes) = h.posts_are ∙ ap (λ (b : Bool). notices_after b sizes) going in
        rw (h.new_is, posts_is) (runs old _ _ _ going (is_rule (rule.halts old damage) (λ f. omega arith) (λ f. omega (arith, all_notices f))))
  ]

  work_rule : (old : DeviceZone) (b : SealedBlock) (new : DeviceZone) (made : Trace) (posts : List Post) → DeviceWorks sizes old b new made posts → IsRule sizes (at.Device old) (Block b ∷ []) (at.Device new) posts
  work_rule old b new made posts (device.announces v vs first there act) = announce_rule old (Block b) v.request new made posts act
  work_rule old b new made posts (device.makes call slot v vs first place needs going durable n m q) = rw (n, q) (is_rule (rule.works old _ b (device.next_stage b.stage)) (λ f. omega arith) (λ f. omega arith))
  work_rule old b new made posts (device.fails call slot known v vs vios place needs going durable n m q) =
      rw (n, q) (runs old _ _ _ going (is_rule (rule.work_fails old b stage.Fail) (λ f. omega arith) (λ f. omega (arith, all_notices f))))
  work_rule old b new made posts (device.unmade call slot v vs first needs stopped n m q) = rw (n, q) (is_rule (rule.works old old.calls b stage.Fail) (λ f. omega arith) (λ f. omega arith))

  -- each act, of what a legal core knows
  pub act_rule : (old : ZoneData) (front : List Item) (new : ZoneData) (made : Trace) (posts : List Post) → Act sizes old front new made posts → Known old front → IsRule sizes old front new posts
  act_rule old front new made posts (steps.begins act) known = begin_rule _ _ _ _ known.kept act
  act_rule old front new made posts (steps.answers act) known = desk_rule _ _ _ _ _ known.kept known.makes_none (known.claims _ refl) act
  act_rule old front new made posts (steps.hears {old = d}) known = is_rule (rule.hears d) (λ f. omega (arith, all_are f phase.Reply d.parked known.kept)) (λ f. omega (arith, woken_sum f d.parked, all_are f phase.Reply d.parked known.kept))
  act_rule old front new made posts (steps.serves act) known = logical_rule _ _ known.kept (known.leased _ _ refl refl) (λ page. known.made _ _ page refl refl) known.makes_none known.reports _ _ _ act
  act_rule old front new made posts (steps.settles act) known = hears_rule _ _ known.kept (known.settling_leased _ _ refl refl) known.reports (known.replaces _ refl) _ _ _ act
  act_rule old front new made posts (steps.serves_notice {old = l}) known =
      beside (others_of l) (rule.tells_logical l) (λ f. omega (arith, logical_kept l known.kept f)) (λ f. omega (arith, logical_kept l known.kept f))
  act_rule old front new made posts (steps.takes act) known = physical_rule _ _ _ _ _ (known.claims _ refl) (known.zone _ refl) (λ k others is has. known.ticket _ _ k others refl refl is has) act
  act_rule old front new made posts (steps.updates act) known = update_rule _ _ _ _ _ (known.zone _ refl) act
  act_rule old front new made posts (steps.takes_notice {old = p}) known = is_rule (rule.tells_physical p) (λ f. omega arith) (λ f. omega arith)
  act_rule old front new made posts (steps.enters act) known = journal_rule _ _ _ _ _ known.counted (known.claims _ refl) act
  act_rule old front new made posts (steps.ends {old = j} {b = b} act) known = ends_rule j b known.kept (known.sealed b refl) (known.ready b refl) (known.busy b j refl refl) _ _ _ act
  act_rule old front new made posts (steps.enters_notice {old = j}) known =
      is_rule (rule.tells_journal j) (λ f. omega (arith, there_sum f j.filling j.waiting, there_in f phase.Enter j.waiting known.kept.1))
      (λ f. omega (arith, there_sum f j.filling [], refused_sum f reply.Stopped j.waiting))
  act_rule old front new made posts (steps.calls act) known = device_rule _ _ _ _ _ act
  act_rule old front new made posts (steps.works act) known = work_rule _ _ _ _ _ act
  act_rule old front new made posts (steps.halts act) known = told_rule _ _ _ _ _ act
