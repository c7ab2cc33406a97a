-- A legal core in which each request that was begun was answered: nothing is under way. So all that was handed in is committed, and
-- where the session is fair, each block that is used is mapped by that.
use Rattle.std.proofs.Common.{ℕ, suc, ◌+◌, ◌-◌, ◌≡◌, ◌⊎◌, ◌≤◌, ◌++◌, Bool, true, false, not, IsSome, List, [], ◌∷◌, length, Some, slice_get, refl, ap, sym, ◌∙◌, subst, inl, inr, arith}
use Rattle.blk_base.specs.Regions.{IsDataBlock}
use Rattle.core_laws.proofs.Common.{AllByRecursion, AtRest, DataOk, DeskLine, Each, IsFair, IsSession, Item, ItemOk, Pbn, PhysicalZone, Session, StandsAt, Stage, Token, Trace, Vio, Writer, Zone, ZoneData, all_logged, all_of, answer_of, answers_of, as_items, begins_of, begun, bit, block_token, cases_Bool, cases_lt, desk_number, durable, eq-eqb, every-map, filled, given, has_old, has_stopped, idle_at, in_log, is_entry, is_old, is_sealed, journal_number, journal_token, journaled, kept_by, lines, of_vio, one_journal, opened_image, physical_number, queued, remappings, report_token, request_token, same_self, same_writer, sealed, total, total-get, total_alone, total_zero, waiter_token, waiter_weight, weight}
use Rattle.core_laws.proofs.kept.MapCounts.{adds_same, durable_running, takes_same}
use Rattle.core_laws.proofs.kept.SoleWriter.{physical, physical_here, physical_ok}
use Rattle.core_laws.proofs.kept.StandsOn.{entered_parts}
use Rattle.core_laws.proofs.kept.ZoneKinds.{Sits, desk_sits, journal_sits}
use Rattle.core_laws.proofs.lists.CoreLists.{or_none}
use Rattle.core_laws.proofs.lists.CountedIn.{of_zone, zone_is}
use Rattle.core_model.specs.Uses.{IsUsedAt}
use Rattle.vdo_model.specs.QuietWrites.{AllBegunAreAnswered}
use Rattle.core_laws.proofs.tokens.Lift.{items_total}
use Rattle.core_laws.proofs.tokens.Owners.{not_begun, request_once}
use Rattle.core_laws.proofs.trace.DeskOfTrace.{desk_log_right}
use Rattle.core_laws.proofs.trace.EntriesInTurn.{pointed}
use Rattle.core_laws.proofs.trace.NoStrays.{no_strays}
use Rattle.core_model.specs.CountUpdates.{replaced_in}
use Rattle.core_model.specs.JournalRules.{is_closed}
use Rattle.core_model.specs.Legal.{Legal}
use Rattle.core_model.specs.Sessions.{opened_uses}
use Rattle.core_model.specs.Steps.{Core}
use Rattle.core_model.specs.Tokens.{block_item, decrement_weight, entries_at, none, out_at, out_in, reported_at, settled_at, ticket_token, ticket_weight, unowed_weight, uses_at}
use Rattle.core_model.specs.Uses.{gained, lost}
use Rattle.core_model.specs.declared.zones.ZoneData.TheVariants as at
use Rattle.count_laws.specs.Turns.{HasMappingsAfter}
use Rattle.data_vio.specs.Zones.{physical_zone_of}
use Rattle.data_vio.specs.declared.items.Item.TheVariants as item
use Rattle.data_vio.specs.declared.items.Stage.TheVariants as stage
use Rattle.slab_tickets.specs.declared.forms.Waiting.{Waiting}
use Rattle.vdo_model.specs.declared.report.DeskLine.TheVariants.{Begin, Answer}
use Rattle.zone_counts.proofs.BlockLaws.{foreign_is}
use Rattle.zone_counts.specs.ByBlock.{claims_in, counter_in, out_with, waits_with}

-- Sums that are 0.

-- each element of a list whose sums are 0 weighs nothing
each_none : {X N : Type 0} (f : N → X → ℕ) (xs : List X) → ((n : N) → total (f n) xs ≡ 0) → AllByRecursion (λ (x : X). (n : N) → f n x ≡ 0) xs
each_none f [] all = tt
each_none f (x ∷ xs) all = (λ n. omega (arith, all n), each_none f xs (λ n. omega (arith, all n)))

-- and the sum of what weighs nothing is 0
total_none : {X : Type 0} (P : X → Type 0) (f : X → ℕ) → ((x : X) → P x → f x ≡ 0) → (xs : List X) → AllByRecursion P xs → total f xs ≡ 0
total_none P f weighs [] all = refl
total_none P f weighs (x ∷ xs) all = omega (arith, weighs x all.0, total_none P f weighs xs all.1)

-- a sum is 0, or one of its summands tells a fact
total_tells : {X : Type 0} (A : Type 0) (f : X → ℕ) (xs : List X) → Each (λ i x. (f x ≡ 0) ⊎ A) xs → (total f xs ≡ 0) ⊎ A
total_tells A f [] each = inl refl
total_tells A f (x ∷ xs) each = elim (each 0 x refl) [
  | inl here ↦ elim (total_tells A f xs (λ i. each (suc i))) [
    | inl behind ↦ inl (omega (arith, here, behind))
    | inr fact ↦ inr fact
  ]
  | inr fact ↦ inr fact
]

-- what is less for each is less in sum
total_less : {X : Type 0} (f g : X → ℕ) (xs : List X) → ((x : X) → f x ≤ g x) → total f xs ≤ total g xs
total_less f g [] less = omega arith
total_less f g (x ∷ xs) less = omega (arith, less x, total_less f g xs less)

-- What zones hold.

-- what the items in the lanes of a zone weigh, with those that it keeps
abbrev pub held : (Item → ℕ) → Zone → ℕ
held f z = total f z.ports.inbox + total (total f) z.ports.outboxes + queued f z.keeps

-- all that weighs is held, or is the zone's own
held_split : (t : Token) (zones : List Zone) → total (weight t) zones ≡ total (held t.item) zones + total (λ (z : Zone). t.own z.keeps) zones
held_split t [] = refl
held_split t (z ∷ zones) = omega (arith, held_split t zones)

-- each item of its lanes is so, and it keeps none
pub record HasEach (P : Item → Type 0) (z : Zone) : Type 0 where
  pub inbox : AllByRecursion P z.ports.inbox
  pub outboxes : Each (λ to. AllByRecursion P) z.ports.outboxes
  pub kept : kept_by z.keeps ≡ []

-- so nothing is held, where such items weigh nothing
none_held : (P : Item → Type 0) (f : Item → ℕ) → ((it : Item) → P it → f it ≡ 0) → (z : Zone) → HasEach P z → held f z ≡ 0
none_held P f weighs z has =
    let inbox = total_none P f weighs z.ports.inbox has.inbox in
    let outboxes = total_zero (total f) z.ports.outboxes (λ to lane is. total_none P f weighs lane (has.outboxes to lane is)) in
    let kept : queued f z.keeps ≡ 0 = ap (λ (vs : List Vio). total f (as_items vs)) has.kept in
    omega (arith, inbox, outboxes, kept)

-- an item that has no request
abbrev pub HasNoVio : Item → Type 0
HasNoVio (item.Request v) = ⊥
HasNoVio (item.Block b) = b.vios ≡ []
HasNoVio other = Unit {0}

-- and is no decrement
abbrev pub IsSpent : Item → Type 0
IsSpent (item.Request v) = ⊥
IsSpent (item.Block b) = b.vios ≡ []
IsSpent (item.Decrement e) = ⊥
IsSpent other = Unit {0}

-- a request weighs 1 for itself
one_for_itself : (v : Vio) → bit (same_writer v.request v.request) ≡ 1
one_for_itself v = rw (same_self v.request) refl

-- requests that weigh nothing for anybody are none
no_vios : (vs : List Vio) → ((w : Writer) → total (λ (v : Vio). bit (same_writer v.request w)) vs ≡ 0) → vs ≡ []
no_vios [] all = refl
no_vios (v ∷ vs) all = absurd (let most = all v.request in let one = one_for_itself v in omega (arith, most, one))

-- and so an item has none
item_without : (it : Item) → ((w : Writer) → (request_token w).item it ≡ 0) → HasNoVio it
item_without (item.Request v) all = absurd (let most = all v.request in let one = one_for_itself v in omega (arith, most, one))
item_without (item.Block b) all = no_vios b.vios all
item_without other all = tt

-- and each of a lane has none
items_without : (items : List Item) → ((w : Writer) → total (request_token w).item items ≡ 0) → AllByRecursion HasNoVio items
items_without items all = every-map {P = λ (it : Item). (w : Writer) → (request_token w).item it ≡ 0} {Q = HasNoVio} item_without items (each_none (λ (w : Writer). (request_token w).item) items all)

-- an item without requests weighs nothing by them
vio_none : (f : Vio → ℕ) (it : Item) → HasNoVio it → of_vio f it ≡ 0
vio_none f (item.Request v) has = absurd has
vio_none f (item.Block b) has = ap (total f) has
vio_none f other has = refl

-- nor does one that is no decrement weigh for a block
spent_none : (x : Pbn) (it : Item) → IsSpent it → block_item x it ≡ 0
spent_none x (item.Request v) is = absurd is
spent_none x (item.Block b) is = ap (total (unowed_weight x)) is
spent_none x (item.Decrement e) is = absurd is
spent_none x other is = refl

-- the answer of a request is a line of it
answer_weighs : (desk : List DeskLine) (w : Writer) → IsSome (answer_of desk w) → 1 ≤ total (answers_of w) desk
answer_weighs [] w some = absurd cc
answer_weighs (Begin v ∷ older) w some = omega (arith, answer_weighs older w some)
answer_weighs (Answer v a ∷ older) w some = elim (cases_Bool (same_writer v w)) [
  | inl same ↦ rw same (omega arith)
  | inr other ↦ rw other (let before = answer_weighs older w (rw other at some) in omega (arith, before))
]

-- lists without elements
first_none : {X : Type 0} (xs ys : List X) → xs ++ ys ≡ [] → xs ≡ []
first_none [] ys is = refl
first_none (x ∷ xs) ys is = absurd cc

-- tickets of which none is counted are none
none_out : (out : List Waiting) → total (λ (waiting : Waiting). bit true) out ≡ 0 → out ≡ []
none_out [] is = refl
none_out (waiting ∷ out) is = absurd (omega (arith, is))

-- what a report kept is beside what was settled
settled_less : (w : Writer) (d : ZoneData) → settled_at w d ≤ reported_at w d
settled_less w (at.Logical l) = omega arith
settled_less w other = omega arith

-- all that was sealed is committed; and where the session is fair, it stands on the device
abbrev pub IsResting : Session → Trace → Type 0
IsResting s t = (all_of (sealed t) ≡ durable t) × (IsFair s t → AtRest s t (sealed t))

-- a block without requests has all its entries committed, and nothing else is sealed
stage_committed : (s : Session) (t : Trace) (vios : List Vio) (n : ℕ) (now : Stage) → vios ≡ [] → StandsAt s t vios n now → IsResting s t
stage_committed s t vios n stage.Cover has k = absurd (let size = ap length has in let some = k.0.some in omega (arith, size, some))
stage_committed s t vios n stage.Write has k = absurd (let size = ap length has in let some = k.0.some in omega (arith, size, some))
stage_committed s t vios n stage.Harden has k = absurd (let size = ap length has in let some = k.0.some in omega (arith, size, some))
stage_committed s t vios n stage.Commit has k = (k.0 ∙ ap (λ (vs : List Vio). all_logged vs ++ durable t) has, k.1)
stage_committed s t vios n stage.Fail has k = absurd (let size = ap length has in let some = k.0.some in omega (arith, size, some))

-- an item is no block, or tells that all that was sealed is committed
item_tells : (s : Session) (t : Trace) (to : ℕ) (it : Item) → HasNoVio it → ItemOk s t to it → (is_sealed it ≡ 0) ⊎ IsResting s t
item_tells s t to (item.Block b) has ok = inr (stage_committed s t b.vios b.sequence b.stage has ok.0.1)
item_tells s t to other has ok = inl refl

-- and so do those of a lane
items_tell : (s : Session) (t : Trace) (to : ℕ) (items : List Item) → AllByRecursion HasNoVio items → AllByRecursion (ItemOk s t to) items → (total is_sealed items ≡ 0) ⊎ IsResting s t
items_tell s t to [] has ok = inl refl
items_tell s t to (it ∷ items) has ok = elim (item_tells s t to it has.0 ok.0) [
  | inl here ↦ elim (items_tell s t to items has.1 ok.1) [
    | inl behind ↦ inl (omega (arith, here, behind))
    | inr fact ↦ inr fact
  ]
  | inr fact ↦ inr fact
]

-- a decrement weighs for its request
item_spent : (s : Session) (t : Trace) (to : ℕ) (it : Item) → HasNoVio it → ItemOk s t to it → ((w : Writer) → decrement_weight w it ≡ 0) → IsSpent it
item_spent s t to (item.Request v) has ok all = absurd has
item_spent s t to (item.Block b) has ok all = has
item_spent s t to (item.Decrement e) has ok all = absurd (let one : has_old e.request e ≡ 1 = rw (same_self e.request, ok.0.old_is) refl in let most = all e.request in omega (arith, one, most))
item_spent s t to other has ok all = tt

-- and so does each of a lane
items_spent : (s : Session) (t : Trace) (to : ℕ) (items : List Item) → AllByRecursion HasNoVio items → AllByRecursion (ItemOk s t to) items → ((w : Writer) → total (decrement_weight w) items ≡ 0) → AllByRecursion IsSpent items
items_spent s t to [] has ok all = tt
items_spent s t to (it ∷ items) has ok all = (item_spent s t to it has.0 ok.0 (λ w. omega (arith, all w)), items_spent s t to items has.1 ok.1 (λ w. omega (arith, all w)))

-- what each kind of zone has for a block
abbrev counts_of : Pbn → ZoneData → ℕ
counts_of x (at.Physical p) = counter_in x p.counts.slabs + claims_in x p.counts.slabs
counts_of x other = 0

-- what is mapped away from it by the committed entries
abbrev olds_of : Pbn → ZoneData → ℕ
olds_of x (at.Journal j) = total (is_old x) (remappings j.committed)
olds_of x other = 0

-- the uses that a zone gave are those of its counts and those of its entries
uses_of : (x : Pbn) (d : ZoneData) → uses_at x d ≡ counts_of x d + olds_of x d
uses_of x (at.Physical p) = omega arith
uses_of x (at.Journal j) = omega arith
uses_of x other = refl

-- and so in sum
uses_split : (x : Pbn) (zones : List Zone) → total (λ (z : Zone). uses_at x z.keeps) zones ≡ total (λ (z : Zone). counts_of x z.keeps) zones + total (λ (z : Zone). olds_of x z.keeps) zones
uses_split x [] = refl
uses_split x (z ∷ zones) = omega (arith, uses_of x z.keeps, uses_split x zones)

module _ (s : Session) (core : Core) (legal : Legal s core) (all : AllBegunAreAnswered (lines core.trace)) where
  -- what has happened
  abbrev t : Trace
  t = core.trace

  -- the desk
  desk : Sits s t core.zones legal.each at.Desk desk_number
  desk = desk_sits s t core.zones legal.each legal.count

  -- and what holds of it
  desk_ok : DataOk s t desk_number (at.Desk desk.it)
  desk_ok = subst (λ (d : ZoneData). DataOk s t desk_number d) desk.keeps (legal.each desk_number desk.zone desk.had).own

  -- No zone has a request.

  -- of a request that is still to come nothing was begun
  none_given : (w : Writer) → begun w.stream (lines t) ≤ w.number → (j : ℕ) (d : ZoneData) → DataOk s t j d → in_log (begins_of w) d ≡ 0
  none_given w late j (at.Desk it) k = rw k.lists.log_is (not_begun s.sizes.depth s.script (lines t) w (desk_log_right s t legal.right) late)
  none_given w late j other k = refl

  -- of each request as many answers were given as it was begun
  given_answered : (w : Writer) → total (given (request_token w)) core.zones ≤ total (λ (z : Zone). (request_token w).own z.keeps) core.zones
  given_answered w = elim (cases_lt w.number (begun w.stream (lines t))) [
    | inl is_begun ↦
        let once = request_once s t legal.right core.zones legal.each w in
        let answers = total-get (λ (z : Zone). (request_token w).own z.keeps) core.zones desk_number desk.zone desk.had in
        let log : in_log (answers_of w) desk.zone.keeps ≡ total (answers_of w) (lines t) = ap (in_log (answers_of w)) desk.keeps ∙ ap (total (answers_of w)) desk_ok.lists.log_is in
        let some = answer_weighs (lines t) w (all w is_begun) in
        omega (arith, once, answers, log, some)
    | inr late ↦
        let nothing = total_zero (given (request_token w)) core.zones (λ j y there. none_given w late j y.keeps (legal.each j y there).own) in
        omega (arith, nothing)
  ]

  -- so nobody has it
  none_under_way : (w : Writer) → total (held (request_token w).item) core.zones ≡ 0
  none_under_way w = let split = held_split (request_token w) core.zones in let less = given_answered w in let balance = legal.requests w in omega (arith, split, less, balance)

  -- nor has a zone
  none_here : (w : Writer) (n : ℕ) (z : Zone) → slice_get core.zones n ≡ Some z → held (request_token w).item z ≡ 0
  none_here w n z had = let here = total-get (held (request_token w).item) core.zones n z had in let nothing = none_under_way w in omega (arith, here, nothing)

  -- so no zone has a request
  pub has_none : (n : ℕ) (z : Zone) → slice_get core.zones n ≡ Some z → HasEach HasNoVio z
  has_none n z had = record {
    inbox = items_without z.ports.inbox (λ w. let here = none_here w n z had in omega (arith, here));
    outboxes = λ to lane is. items_without lane (λ w. let here = none_here w n z had in let part = total-get (total (request_token w).item) z.ports.outboxes to lane is in omega (arith, here, part));
    kept = no_vios (kept_by z.keeps) (λ w. let here = none_here w n z had in let vios = items_total (request_token w).item (kept_by z.keeps) in omega (arith, here, vios));
  }

  -- and none weighs anything by its requests
  none_by_vios : (f : Vio → ℕ) → total (held (of_vio f)) core.zones ≡ 0
  none_by_vios f = total_zero (held (of_vio f)) core.zones (λ n z had. none_held HasNoVio (of_vio f) (vio_none f) z (has_none n z had))

  -- No decrement is in a lane.

  -- as no request waits for the report of one
  none_reported : (w : Writer) → total (held (decrement_weight w)) core.zones ≡ 0
  none_reported w =
      let waiting = held_split (waiter_token w) core.zones in
      let nobody = none_by_vios (waiter_weight w) in
      let reporting = held_split (report_token w) core.zones in
      let less = total_less (λ (z : Zone). settled_at w z.keeps) (λ (z : Zone). reported_at w z.keeps) core.zones (λ z. settled_less w z.keeps) in
      let waiters = legal.waiters w in
      let reports = legal.reports w in
      omega (arith, waiting, nobody, reporting, less, waiters, reports)

  -- nor is one in a zone
  reported_here : (w : Writer) (n : ℕ) (z : Zone) → slice_get core.zones n ≡ Some z → held (decrement_weight w) z ≡ 0
  reported_here w n z had = let here = total-get (held (decrement_weight w)) core.zones n z had in let nothing = none_reported w in omega (arith, here, nothing)

  -- so no zone has one
  pub are_spent : (n : ℕ) (z : Zone) → slice_get core.zones n ≡ Some z → HasEach IsSpent z
  are_spent n z had =
      let ok = legal.each n z had in
      let has = has_none n z had in
      record {
        inbox = items_spent s t n z.ports.inbox has.inbox ok.inbox (λ w. let here = reported_here w n z had in omega (arith, here));
        outboxes = λ to lane is. items_spent s t to lane (has.outboxes to lane is) (ok.outboxes to lane is) (λ w. let here = reported_here w n z had in let part = total-get (total (decrement_weight w)) z.ports.outboxes to lane is in omega (arith, here, part));
        kept = has.kept;
      }

  -- No ticket is out.

  -- no request holds one, so a physical zone has given none
  none_ticketed : (n : ℕ) (z : Zone) (p : PhysicalZone) → slice_get core.zones n ≡ Some z → z.keeps ≡ at.Physical p → p.counts.desk.out ≡ []
  none_ticketed n z p had keeps =
      let zone = p.counts.zone in
      let any : ℕ → Bool = λ number. true in
      let split = held_split (ticket_token zone any) core.zones in
      let nobody = none_by_vios (λ v. total (ticket_weight zone any) v.tickets) in
      let own = total_zero (λ (y : Zone). none y.keeps) core.zones (λ j y there. refl) in
      let here = total-get (given (ticket_token zone any)) core.zones n z had in
      let is : out_at zone any z.keeps ≡ out_in any p.counts = ap (out_at zone any) keeps ∙ rw (eq-eqb zone zone refl) refl in
      let balance = legal.tickets zone any in
      none_out p.counts.desk.out (omega (arith, split, nobody, own, here, is, balance))

  -- All that was handed in is committed, where nothing has stopped the session.

  -- the journal
  journal : Sits s t core.zones legal.each at.Journal (journal_number s.sizes)
  journal = journal_sits s t core.zones legal.each legal.count

  -- and what holds of it
  journal_ok : DataOk s t (journal_number s.sizes) (at.Journal journal.it)
  journal_ok = subst (λ (d : ZoneData). DataOk s t (journal_number s.sizes) d) journal.keeps (legal.each (journal_number s.sizes) journal.zone journal.had).own

  -- no request is in the block being filled
  unfilled : journal.it.filling ≡ []
  unfilled = first_none journal.it.filling journal.it.waiting (ap kept_by (sym journal.keeps) ∙ (has_none (journal_number s.sizes) journal.zone journal.had).kept)

  -- no other zone is the idle journal
  idle_elsewhere : (n : ℕ) (d : ZoneData) → DataOk s t n d → (n ≡ journal_number s.sizes → ⊥) → idle_at d ≡ 0
  idle_elsewhere n (at.Journal j) ok ne = absurd (ne ok.number_is)
  idle_elsewhere n other ok ne = refl

  -- a zone has no block, or one that tells that all that was sealed is committed
  zone_tells : (n : ℕ) (z : Zone) → slice_get core.zones n ≡ Some z → (held is_sealed z ≡ 0) ⊎ IsResting s t
  zone_tells n z had =
      let ok = legal.each n z had in
      let has = has_none n z had in
      elim (items_tell s t n z.ports.inbox has.inbox ok.inbox) [
        | inr fact ↦ inr fact
        | inl inbox ↦ elim (total_tells (IsResting s t) (total is_sealed) z.ports.outboxes (λ to lane is. items_tell s t to lane (has.outboxes to lane is) (ok.outboxes to lane is))) [
          | inr fact ↦ inr fact
          | inl outboxes ↦
              let kept : queued is_sealed z.keeps ≡ 0 = ap (λ (vs : List Vio). total is_sealed (as_items vs)) has.kept in
              inl (omega (arith, inbox, outboxes, kept))
        ]
      ]

  module _ (going : has_stopped t ≡ false) where
    -- the journal is open, since nothing has stopped the session
    open_journal : is_closed journal.it ≡ false
    open_journal = elim (cases_Bool (is_closed journal.it)) [
      | inl closed ↦ absurd (let stopped = journal_ok.told closed in cc)
      | inr not_closed ↦ not_closed
    ]

    -- so no block of it failed
    unbroken : journal.it.broken ≡ false
    unbroken = (or_none journal.it.notified journal.it.broken open_journal).1

    -- so no entry is in the block being filled
    pub none_filled : filled t ≡ []
    none_filled = sym (journal_ok.lists.filled_is unbroken) ∙ ap all_logged unfilled

    -- while it is busy, there is a block under way, which has no requests
    busy_tells : journal.it.busy ≡ true → IsResting s t
    busy_tells busy = elim (total_tells (IsResting s t) (held is_sealed) core.zones zone_tells) [
      | inr fact ↦ fact
      | inl nothing ↦
          let split = held_split journal_token core.zones in
          let alone = total_alone (λ (z : Zone). idle_at z.keeps) core.zones (journal_number s.sizes) journal.zone journal.had (λ n z had ne. idle_elsewhere n z.keeps (legal.each n z had).own ne) in
          let idle : idle_at journal.zone.keeps ≡ 0 = ap idle_at journal.keeps ∙ ap (λ (b : Bool). bit (not b)) busy in
          let some = total-get (given journal_token) core.zones (journal_number s.sizes) journal.zone journal.had in
          let one : one_journal journal.zone.keeps ≡ 1 = ap one_journal journal.keeps in
          let balance = legal.journal in
          absurd (omega (arith, nothing, split, alone, idle, some, one, balance))
    ]

    -- and one that is idle rests too
    pub is_resting : IsResting s t
    is_resting = elim (cases_Bool journal.it.busy) [
      | inl busy ↦ busy_tells busy
      | inr idle ↦ let rests = journal_ok.answers in rw (idle, unbroken) at rests
    ]

    -- so all that was sealed is committed
    pub all_sealed : all_of (sealed t) ≡ durable t
    all_sealed = is_resting.0

    -- and so is all that was handed in
    pub all_committed : journaled t ≡ durable t
    all_committed = entered_parts t ∙ ap (λ es. es ++ all_of (sealed t)) none_filled ∙ all_sealed

    -- A block is mapped as often as it is used.

    module _ (session : IsSession s) (fair : IsFair s t) (x : Pbn) where
      -- the number of the zone that counts it
      abbrev home : ℕ
      home = physical_number s.sizes (physical_zone_of s.sizes x)

      -- no other zone than the journal has an entry for it, nor a ticket with it
      entries_elsewhere : (n : ℕ) (z : Zone) (d : ZoneData) → slice_get core.zones n ≡ Some z → z.keeps ≡ d → DataOk s t n d → (n ≡ journal_number s.sizes → ⊥) → entries_at (opened_uses s) x d ≡ 0
      entries_elsewhere n z (at.Journal j) had keeps ok ne = absurd (ne ok.number_is)
      entries_elsewhere n z (at.Physical p) had keeps ok ne =
          let out : out_with x p.counts.desk ≡ 0 = ap (total (waits_with x)) (none_ticketed n z p had keeps) in
          let strays : p.strays ≡ [] = ok.lists.strays_are ∙ ap (replaced_in s.sizes p.counts.zone) (no_strays s t session legal.right fair) in
          let none_weigh = ap (total (is_old x)) strays in
          omega (arith, out, none_weigh)
      entries_elsewhere n z other had keeps ok ne = refl

      -- so the entries are those of the journal
      entries_alone : total (λ (z : Zone). entries_at (opened_uses s) x z.keeps) core.zones ≡ opened_uses s x + total (is_entry x) (durable t)
      entries_alone =
          total_alone (λ (z : Zone). entries_at (opened_uses s) x z.keeps) core.zones (journal_number s.sizes) journal.zone journal.had
          (λ n z had ne. entries_elsewhere n z z.keeps had refl (legal.each n z had).own ne)
          ∙ ap (entries_at (opened_uses s) x) journal.keeps ∙ ap (λ es. opened_uses s x + total (is_entry x) es) (journal_ok.lists.entered_is ∙ all_committed)

      -- no other zone has committed entries
      olds_elsewhere : (n : ℕ) (d : ZoneData) → DataOk s t n d → (n ≡ journal_number s.sizes → ⊥) → olds_of x d ≡ 0
      olds_elsewhere n (at.Journal j) ok ne = absurd (ne ok.number_is)
      olds_elsewhere n other ok ne = refl

      -- so what is mapped away is that of the journal
      olds_alone : total (λ (z : Zone). olds_of x z.keeps) core.zones ≡ total (is_old x) (remappings (durable t))
      olds_alone =
          total_alone (λ (z : Zone). olds_of x z.keeps) core.zones (journal_number s.sizes) journal.zone journal.had (λ n z had ne. olds_elsewhere n z.keeps (legal.each n z had).own ne)
          ∙ ap (olds_of x) journal.keeps ∙ ap (λ es. total (is_old x) (remappings es)) journal_ok.lists.committed_is

      -- no other zone counts it
      counts_elsewhere : (n : ℕ) (d : ZoneData) → DataOk s t n d → (n ≡ home → ⊥) → counts_of x d ≡ 0
      counts_elsewhere n (at.Physical p) ok ne =
          let foreign = foreign_is p.counts x ok.sound.is_zone (λ own. ne (ok.number_is ∙ ap (physical_number s.sizes) (sym (zone_is s p ok.sound x own)))) in
          omega (arith, foreign.0, foreign.1)
      counts_elsewhere n other ok ne = refl

      -- so its counter and its claims are what it gained and did not lose
      counts_alone : IsDataBlock s.sizes.geometry x.0 → total (λ (z : Zone). counts_of x z.keeps) core.zones + lost t x ≡ gained s t x
      counts_alone is_data =
          let some = session.zones.1 in
          let sits = physical s core legal x some in
          let own = physical_ok s core legal x some in
          let uses = own.lists.uses x (of_zone s sits.it own.sound x is_data (physical_here s core legal x some)) in
          let alone = total_alone (λ (z : Zone). counts_of x z.keeps) core.zones home sits.zone sits.had (λ n z had ne. counts_elsewhere n z.keeps (legal.each n z had).own ne) ∙ ap (counts_of x) sits.keeps in
          omega (arith, uses, alone)

      -- its uses are its mappings over the opened image
      pub uses_mapped : IsDataBlock s.sizes.geometry x.0 → gained s t x + total (is_old x) (remappings (durable t)) ≡ lost t x + (opened_uses s x + total (is_entry x) (durable t))
      uses_mapped is_data =
          let token = block_token (opened_uses s) x in
          let split = held_split token core.zones in
          let nothing = total_zero (held (block_item x)) core.zones (λ n z had. none_held IsSpent (block_item x) (spent_none x) z (are_spent n z had)) in
          let balance = legal.blocks x in
          let uses = uses_split x core.zones in
          let counts = counts_alone is_data in
          omega (arith, split, nothing, balance, uses, counts, entries_alone, olds_alone)

      -- So one that is used has a mapping by the committed entries.
      pub used_mapped : IsDataBlock s.sizes.geometry x.0 → IsUsedAt s t x → (more : ℕ) × HasMappingsAfter (opened_image s) (pointed (durable t)) x (suc more)
      used_mapped is_data used =
          let running = durable_running s t x session legal.right fair in
          let adds = adds_same x (durable t) in
          let takes = takes_same x (durable t) in
          let sum = running.sum in
          let uses = uses_mapped is_data in
          let some : running.now ≡ suc (running.now - 1) = omega (arith, adds, takes, sum, uses, used) in
          (running.now - 1, subst (HasMappingsAfter (opened_image s) (pointed (durable t)) x) some running.has)
