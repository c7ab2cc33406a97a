-- What the acts of the desk owe.
use Rattle.std.proofs.Common.{◌≡◌, ℕ, ◌+◌, ◌<◌, ◌≤◌, if◌then◌else◌, Bool, true, false, nat_lt, Option, None, Some, IsNone, List, [], ◌∷◌, refl, ap, sym, ◌∙◌, subst, inl, inr, arith, not}
use Rattle.std.proofs.Math.Bool.{or-true}
use Rattle.core_laws.proofs.Common.{AllByRecursion, Answer as Reply, Asks, Desk, DeskLine, Flushes, FlushMark, HasAddress, HasCause, IsEarned, IsNextLine, IsOpen, IsSession, KeptOk, Lba, MayAnswer, MayReply, Phase, Post, Request, RightTrace, Says, Session, Sizes, Trace, Vio, Writer, answer_of, asked, begun, begun_vio, cases_Bool, desk_number, done, eqb_tells, every-append, fair_before, has_stopped, lines, logged_of, ltb-false, ltb-true, moments, none_is, notified_zones, option_cases, request_at, request_of, same_Some, same_tells, zone_at, zone_of, IsForBlock, Fails, Harms, Hears, is_harmed, is_read}
use Rattle.blk_base.specs.Sectors.{zero_block}
use Rattle.blk_base.specs.declared.place.ZoneId.TheVariants as id
use Rattle.blk_base.specs.declared.request.Answer.TheVariants as reply
use Rattle.blk_base.specs.declared.request.Request.TheVariants as request
use Rattle.vdo_model.specs.FlushMarks.{IsMark}
use Rattle.vdo_model.specs.declared.report.DeskLine.TheVariants as line
use Rattle.data_vio.specs.declared.items.Asks.TheVariants.{Read, Write, Discard, Flush}
use Rattle.data_vio.specs.declared.items.Item.TheVariants as item
use Rattle.data_vio.specs.declared.items.Phase.TheVariants as phase
use Rattle.core_model.specs.declared.zones.ZoneData.TheVariants as at
use Rattle.core_model.specs.DeskRules.{DeskBegins, DeskServes, is_notified, at_once, vio_of, first_zone, is_marked, is_stopped, mark_of_vio, with_notice, woken, is_no_space, receipt_step}
use Rattle.core_laws.proofs.kept.ActKept.{Known, unborn, ActKept, PostOk, act_none, act_one, own_request, plain_clears, reaches, line_kept, shown_plain, in_bare, unborn_place, unborn_entry, unborn_take, unborn_slot, vio_ok}
use Rattle.core_laws.proofs.trace.DeskOfTrace.{desk_log_right, answered_begun, shown_of}
use Rattle.core_laws.proofs.physical.PhysicalFacts.{zone_below}
use Rattle.core_laws.proofs.kept.Carried.{earned_by}
use Rattle.core_model.specs.DeskFacts.{HasReceipt}
use Rattle.core_model.specs.Trace.{asked_step, last_asked, receipts}
use Rattle.vdo_model.specs.declared.report.NoSpaceReceipt.{NoSpaceReceipt}

-- a request is among the begun ones once its Begin stands
pub begun_now : (w : Writer) (older : List DeskLine) → w.number ≡ begun w.stream older → w.number < begun w.stream (line.Begin w ∷ older)
begun_now w older number = elim (eqb_tells w.stream w.stream) [
  | inl same ↦ rw same.0 (omega (arith, number))
  | inr other ↦ absurd (other.1 refl)
]

-- a request with a cause of its answer may be answered so
cause_may : (s : Session) (t : Trace) (w : Writer) (r : Request) (a : Reply) → HasCause s t w r a → MayAnswer s t w r a
cause_may s t w (request.Write at bytes fua) reply.Stopped cause = inl cause
cause_may s t w (request.Discard at) reply.Stopped cause = inl cause
cause_may s t w r a cause = cause

-- a request that is answered at once may be answered so
once_range : (s : Session) (t : Trace) (w : Writer) (r : Request) (a : ℕ) (o : Option Reply) (answer : Reply) → (s.sizes.geometry.logical ≤ a → MayAnswer s t w r reply.Range)
    → (a < s.sizes.geometry.logical → (b : Reply) → o ≡ Some b → MayAnswer s t w r b)
    → (if nat_lt a s.sizes.geometry.logical then o else Some reply.Range) ≡ Some answer → MayAnswer s t w r answer
once_range s t w r a o answer range within is = elim (cases_Bool (nat_lt a s.sizes.geometry.logical)) [
  | inl below ↦ within (ltb-true a s.sizes.geometry.logical below) answer (rw below at is)
  | inr past ↦
      let same : Some reply.Range ≡ Some answer = rw past at is in
      subst (λ (x : Reply). MayAnswer s t w r x) (same_Some _ _ same) (range (ltb-false a s.sizes.geometry.logical past))
]

once_notified : (notified : Bool) (b : Reply) → ◌≡◌ {A = Option Reply} (if notified then Some reply.Stopped else None) (Some b) → (notified ≡ true) × (reply.Stopped ≡ b)
once_notified true b is = (refl, same_Some _ _ is)
once_notified false b is = absurd cc

pub once_cause : (s : Session) (t : Trace) (w : Writer) (notified : Bool) (r : Request) (v : Vio) (a : Reply) (older : Trace) → t ≡ Says (line.Begin w) ∷ older → vio_of s.sizes w r ≡ Some v → IsNone (logged_of (done t) w) → (notified ≡ true → has_stopped t ≡ true)
    → at_once s.sizes notified v.asks v.at.0 ≡ Some a → MayAnswer s t w r a
once_cause s t w notified (request.Read at) v a older last served unset heard_so is =
    let once : at_once s.sizes notified Read at.0 ≡ Some a = rw (← same_Some _ _ served) at is in
    once_range s t w (request.Read at) at.0 None a (λ past. past) (λ below b none. absurd cc) once
once_cause s t w notified (request.Write at bytes false) v a older last served unset heard_so is =
    let once : at_once s.sizes notified Write at.0 ≡ Some a = rw (← same_Some _ _ served) at is in
    once_range s t w (request.Write at bytes false) at.0 _ a (λ past. past) (λ below b stopped.
    let both = once_notified notified b stopped in subst (λ (x : Reply). MayAnswer s t w (request.Write at bytes false) x) both.1 (inr (below, record { stopped = heard_so both.0; unset = unset; older = older; begun_last = last }))) once
once_cause s t w notified request.Flush v a older last served unset heard_so is =
    let once : at_once s.sizes notified Flush 0 ≡ Some a = rw (← same_Some _ _ served) at is in
    let both = once_notified notified a once in subst (λ (x : Reply). MayAnswer s t w request.Flush x) both.1 (heard_so both.0)
once_cause s t w notified (request.Write at bytes true) v a older last served unset heard_so is = absurd cc
once_cause s t w notified (request.Discard at) v a older last served unset heard_so is =
    let once : at_once s.sizes notified Discard at.0 ≡ Some a = rw (← same_Some _ _ served) at is in
    once_range s t w (request.Discard at) at.0 _ a (λ past. past) (λ below b stopped.
    let both = once_notified notified b stopped in subst (λ (x : Reply). MayAnswer s t w (request.Discard at) x) both.1 (inr (below, record { stopped = heard_so both.0; unset = unset; older = older; begun_last = last }))) once

-- a block request that is sent on has an address below the logical size
sent_below : (n logical : ℕ) (o : Option Reply) → (if nat_lt n logical then o else Some reply.Range) ≡ None → n < logical
sent_below n logical o is = elim (cases_Bool (nat_lt n logical)) [
  | inl below ↦ ltb-true n logical below
  | inr past ↦ let none : Some reply.Range ≡ None = rw past at is in absurd cc
]

-- A request that is begun now.
module _ (s : Session) (t : Trace) (w : Writer) (is : IsSession s) (right : RightTrace s t) (next : IsNextLine s.sizes.depth s.script (line.Begin w) (lines t)) where
  late : begun w.stream (lines t) ≤ w.number
  late = let number = next.0 in omega (arith, number)

  unanswered : IsNone (answer_of (lines t) w)
  unanswered = elim (option_cases (answer_of (lines t) w)) [
    | inl none ↦ none_is (answer_of (lines t) w) none
    | inr some ↦ let early = answered_begun s.sizes.depth s.script (lines t) w some.0 (desk_log_right s t right) some.1 in let number = next.0 in absurd (omega (arith, early, number))
  ]

  begins_open : IsOpen (Says (line.Begin w) ∷ t) w
  begins_open = record { is_begun = begun_now w (lines t) next.0; unanswered = unanswered }

  begins_right : RightTrace s (Says (line.Begin w) ∷ t)
  begins_right = (next, shown_plain s t (Says (line.Begin w)) tt (shown_of s t right), right)

  -- a block request goes to the logical zone of its address, a flush to the device
  begins_block : (q : Asks) (at : Lba) (bytes : List ℕ) → IsForBlock q → request_at s.script w ≡ Some (asked q at bytes) → at.0 < s.sizes.geometry.logical
      → PostOk s (Says (line.Begin w) ∷ t) (id.Logical (zone_of s.sizes.zones at.0), item.Request (begun_vio s.sizes w q at bytes))
  begins_block q at bytes block asks below =
      let zone = zone_below s.sizes.zones at.0 is.zones.0 in (
        omega (arith, zone),
        (
          record { asked = asks; is_open = begins_open; address = address q; home = refl },
          record { for_block = block; unplaced = unborn_place s t w right late; not_entered = unborn_entry s t w right late; took_none = unborn_take s t w right late },
          refl,
          record { claim_is = refl; on_data = λ holds. absurd cc; no_ticket = λ asks. refl },
        ),
      )
    where
      address : (p : Asks) → HasAddress s.sizes at p
      address Read = below
      address Write = below
      address Discard = below
      address Flush = tt

  begins_post : (notified : Bool) (r : Request) (v : Vio) → vio_of s.sizes w r ≡ Some v → request_at s.script w ≡ Some r → at_once s.sizes notified v.asks v.at.0 ≡ None
      → PostOk s (Says (line.Begin w) ∷ t) (first_zone v, item.Request v)
  begins_post notified (request.Read at) v served asks none =
      let once : at_once s.sizes notified Read at.0 ≡ None = rw (← same_Some _ _ served) at none in
      subst (λ (u : Vio). PostOk s (Says (line.Begin w) ∷ t) (first_zone u, item.Request u)) (same_Some _ _ served) (begins_block Read at zero_block tt asks (sent_below at.0 s.sizes.geometry.logical _ once))
  begins_post notified (request.Write at bytes false) v served asks none =
      let once : at_once s.sizes notified Write at.0 ≡ None = rw (← same_Some _ _ served) at none in
      subst (λ (u : Vio). PostOk s (Says (line.Begin w) ∷ t) (first_zone u, item.Request u)) (same_Some _ _ served) (begins_block Write at bytes tt asks (sent_below at.0 s.sizes.geometry.logical _ once))
  begins_post notified request.Flush v served asks none =
      subst (λ (u : Vio). PostOk s (Says (line.Begin w) ∷ t) (first_zone u, item.Request u)) (same_Some _ _ served) (omega arith, (record { asked = asks; is_open = begins_open; address = tt; home = refl }, refl, refl, record { claim_is = refl; on_data = λ holds. absurd cc; no_ticket = λ asks. refl }))
  begins_post notified (request.Write at bytes true) v served asks none = absurd cc
  begins_post notified (request.Discard at) v served asks none =
      let once : at_once s.sizes notified Discard at.0 ≡ None = rw (← same_Some _ _ served) at none in
      subst (λ (u : Vio). PostOk s (Says (line.Begin w) ∷ t) (first_zone u, item.Request u)) (same_Some _ _ served) (begins_block Discard at zero_block tt asks (sent_below at.0 s.sizes.geometry.logical _ once))

-- Stopped is answered only where the stop notice of every zone has come.
stops_answer : (notified limit : ℕ) (v : Writer) (a : Reply) (older : List DeskLine) → ((w : Writer) → answer_of older w ≡ Some reply.Stopped → limit ≤ notified) → (a ≡ reply.Stopped → limit ≤ notified)
    → (w : Writer) → answer_of (line.Answer v a ∷ older) w ≡ Some reply.Stopped → limit ≤ notified
stops_answer notified limit v a older before now w is = elim (same_tells v w) [
  | inl same ↦ now (same_Some _ _ (rw same.0 at is))
  | inr other ↦ before w (rw other.0 at is)
]

notified_enough : (sizes : Sizes) (desk : Desk) → is_notified sizes desk ≡ true → notified_zones sizes ≤ desk.notices
notified_enough sizes desk is = let more = ltb-true (sizes.physical + sizes.zones) desk.notices is in omega (arith, more)

notified_first : (notified : Bool) → ◌≡◌ {A = Option Reply} (if notified then Some reply.Stopped else None) (Some reply.Stopped) → notified ≡ true
notified_first true is = refl
notified_first false is = absurd cc

low_stopped : (low notified : Bool) → ◌≡◌ {A = Option Reply} (if low then (if notified then Some reply.Stopped else None) else Some reply.Range) (Some reply.Stopped) → notified ≡ true
low_stopped true notified is = notified_first notified is
low_stopped false notified is = absurd cc

never_stopped : (low : Bool) → ◌≡◌ {A = Option Reply} (if low then None else Some reply.Range) (Some reply.Stopped) → ⊥
never_stopped true is = cc
never_stopped false is = cc

once_stopped : (sizes : Sizes) (notified : Bool) (asks : Asks) (a : ℕ) → at_once sizes notified asks a ≡ Some reply.Stopped → notified ≡ true
once_stopped sizes notified Read a is = absurd (never_stopped (nat_lt a sizes.geometry.logical) is)
once_stopped sizes notified Write a is = low_stopped (nat_lt a sizes.geometry.logical) notified is
once_stopped sizes notified Discard a is = low_stopped (nat_lt a sizes.geometry.logical) notified is
once_stopped sizes notified Flush a is = notified_first notified is

-- and no space isn't answered at once
abbrev is_lacking : Option Reply → Bool
is_lacking None = false
is_lacking (Some a) = is_no_space a

low_spaced : (low notified : Bool) → is_lacking (if low then (if notified then Some reply.Stopped else None) else Some reply.Range) ≡ false
low_spaced true true = refl
low_spaced true false = refl
low_spaced false notified = refl

read_spaced : (low : Bool) → is_lacking (if low then None else Some reply.Range) ≡ false
read_spaced true = refl
read_spaced false = refl

at_once_spaced : (sizes : Sizes) (notified : Bool) (asks : Asks) (a : ℕ) → is_lacking (at_once sizes notified asks a) ≡ false
at_once_spaced sizes notified Read a = read_spaced (nat_lt a sizes.geometry.logical)
at_once_spaced sizes notified Write a = low_spaced (nat_lt a sizes.geometry.logical) notified
at_once_spaced sizes notified Discard a = low_spaced (nat_lt a sizes.geometry.logical) notified
at_once_spaced sizes notified Flush a = low_spaced true notified

once_spaced : (sizes : Sizes) (notified : Bool) (asks : Asks) (a : ℕ) (answer : Reply) → at_once sizes notified asks a ≡ Some answer → is_no_space answer ≡ false
once_spaced sizes notified asks a answer is = sym (ap is_lacking is) ∙ at_once_spaced sizes notified asks a

-- any other answer adds no receipt
receipts_said : (t : Trace) (w : Writer) (a : Reply) → is_no_space a ≡ false → receipts (Says (line.Answer w a) ∷ t) ≡ receipts t
receipts_said t w reply.NoSpace spaced = absurd cc
receipts_said t w other spaced = refl

-- The desk begins a request.
pub desk_begins : {s : Session} {t : Trace} {n : ℕ} {old : Desk} → Known s t n (at.Desk old) [] → (new : Desk) (made : Trace) (posts : List Post) → DeskBegins s.sizes old new made posts → ActKept s t n (at.Desk old) [] (at.Desk new) made posts
desk_begins {s} {t} {n} {old} known new made posts (DeskBegins.answers w r v a next_line asks served once i m q) =
    let own = known.own in
    let next : IsNextLine s.sizes.depth s.script (line.Begin w) (lines t) = rw (own.sound.requests, own.lists.log_is) at next_line.may in
    let asked : request_at s.script w ≡ Some r = rw own.sound.requests at asks in
    let begun_right = begins_right s t w known.session known.right next in
    let open_now = begins_open s t w known.session known.right next in
    let heard_so : is_notified s.sizes old ≡ true → has_stopped t ≡ true = λ notified. own.told (let enough = notified_enough s.sizes old notified in omega (arith, enough)) in
    let began = Says (line.Begin w) in
    let answered = Says (line.Answer w a) in
    let cause : MayAnswer s (began ∷ t) w r a = once_cause s (began ∷ t) w (is_notified s.sizes old) r v a t refl served (unborn_slot s t w known.right (late s t w known.session known.right next)) heard_so once in
    let all : (q : Request) → request_at s.script w ≡ Some q → MayAnswer s (began ∷ t) w q a =
    λ q had. subst (λ (x : Request). MayAnswer s (began ∷ t) w x a) (same_Some _ _ (sym asked ∙ had)) cause in
    let first = plain_clears known began t tt own.number_is tt tt tt in
    let second = plain_clears known answered (began ∷ t) tt own.number_is (unborn (late s t w known.session known.right next)) tt tt in
    rw (i, m, q) (record {
      right = (((open_now.is_begun, open_now.unanswered), all), shown_plain s (began ∷ t) answered tt begun_right.1, begun_right);
      gives = λ gives fair. gives (fair_before s began t (fair_before s answered (began ∷ t) fair));
      owns = (reaches known second, (reaches known first, tt));
      own = record {
        number_is = own.number_is;
        lists = record { log_is = ap (λ (ls : List DeskLine). line.Answer w a ∷ line.Begin w ∷ ls) own.lists.log_is; marks_is = own.lists.marks_is; receipts_is = own.lists.receipts_is ∙ sym (receipts_said (began ∷ t) w a (once_spaced s.sizes (is_notified s.sizes old) v.asks v.at.0 a once)) };
        sound = record {
          requests = own.sound.requests;
          stops_notified = stops_answer old.notices (notified_zones s.sizes) w a (line.Begin w ∷ old.log) own.sound.stops_notified
              (λ same. notified_enough s.sizes old (once_stopped s.sizes (is_notified s.sizes old) v.asks v.at.0 (once ∙ ap (λ (b : Reply). Some b) same)));
          parked_early = own.sound.parked_early;
        };
        kept = line_kept known answered (began ∷ t) second (line_kept known began t first own.kept);
        answers = tt;
        told = own.told;
      };
      posts_ok = tt;
    })
desk_begins {s} {t} {n} {old} known new made posts (DeskBegins.sends w r v next_line asks served none i m q) =
    let own = known.own in
    let next : IsNextLine s.sizes.depth s.script (line.Begin w) (lines t) = rw (own.sound.requests, own.lists.log_is) at next_line.may in
    let asked : request_at s.script w ≡ Some r = rw own.sound.requests at asks in
    let began = Says (line.Begin w) in
    let clears = plain_clears known began t tt own.number_is tt tt tt in
    rw (i, m, q) (act_one known began clears (λ gives fair. gives (fair_before s began t fair)) (begins_right s t w known.session known.right next)
    (record {
      number_is = own.number_is;
      lists = record { log_is = ap (λ (ls : List DeskLine). line.Begin w ∷ ls) own.lists.log_is; marks_is = own.lists.marks_is; receipts_is = own.lists.receipts_is };
      sound = record { requests = own.sound.requests; stops_notified = own.sound.stops_notified; parked_early = own.sound.parked_early };
      kept = line_kept known began t clears own.kept;
      answers = tt;
      told = own.told;
    })
    (begins_post s t w known.session known.right next (is_notified s.sizes old) r v served asked none, tt))

-- a leaf that doesn't decode stops the session
harm_stops : (t : Trace) (w : Writer) → is_harmed t w ≡ true → has_stopped t ≡ true
harm_stops [] w harmed = absurd cc
harm_stops (Harms v x bytes fault ∷ t) w harmed = refl
harm_stops (Hears damage ∷ t) w harmed = refl
harm_stops (Fails v c kept ∷ t) w harmed = rw (harm_stops t w harmed) (or-true (not (is_read c)))
harm_stops (other ∷ t) w harmed = harm_stops t w harmed

-- A request that comes back is answered, or waits.
module _ {s : Session} {t : Trace} {n : ℕ} {old : Desk} {v : Vio} (known : Known s t n (at.Desk old) (item.Request v ∷ [])) where
  earned : v.phase ≡ phase.Reply → (a : Reply) → v.answer ≡ Some a → IsEarned s t (mark_of_vio v) (request_of v) a (is_marked v.asks a)
  earned is a answer =
      let may : MayReply s t v v.answer = (in_bare known phase.Reply is (λ page no. no)).1 in
      earned_by s t v a (subst (λ (o : Option Reply). MayReply s t v o) answer may)

  -- one that found no block has its receipt
  its_receipt : v.phase ≡ phase.Reply → v.answer ≡ Some reply.NoSpace → HasReceipt t v.request v.receipt
  its_receipt is answer =
      let may : MayReply s t v v.answer = (in_bare known phase.Reply is (λ page no. no)).1 in
      let k : MayReply s t v (Some reply.NoSpace) = subst (λ (o : Option Reply). MayReply s t v o) answer may in k.1

  answer_cause : v.phase ≡ phase.Reply → (a : Reply) → v.answer ≡ Some a → is_marked v.asks a ≡ false → (r : Request) → request_at s.script v.request ≡ Some r → MayAnswer s t v.request r a
  answer_cause is a answer unmarked r asks =
      let mine : HasCause s t v.request (request_of v) a = subst (λ (marked : Bool). IsEarned s t (mark_of_vio v) (request_of v) a marked) unmarked (earned is a answer) in
      subst (λ (q : Request). MayAnswer s t v.request q a) (same_Some _ _ (sym (vio_ok known).asked ∙ asks)) (cause_may s t v.request (request_of v) a mine)

  flush_mark : v.phase ≡ phase.Reply → v.asks ≡ Flush → v.answer ≡ Some reply.Ok → IsMark (moments t) (mark_of_vio v)
  flush_mark is flush answer = let k : IsEarned s t (mark_of_vio v) (request_of v) reply.Ok true = subst (λ (q : Asks). IsEarned s t (mark_of_vio v) (request_of v) reply.Ok (is_marked q reply.Ok)) flush (earned is reply.Ok answer) in k

  flush_asked : v.asks ≡ Flush → request_at s.script v.request ≡ Some request.Flush
  flush_asked flush = (vio_ok known).asked ∙ ap (λ (q : Asks). Some (asked q v.at v.bytes)) flush

  -- an answer that waits for the stop notices is one since the session is stopped
  cause_stopped : (r : Request) (a : Reply) → is_stopped a ≡ true → HasCause s t v.request r a → has_stopped t ≡ true
  cause_stopped (request.Write at bytes fua) reply.Stopped is cause = cause.0
  cause_stopped (request.Discard at) reply.Stopped is cause = cause.0
  cause_stopped (request.Read at) reply.Stopped is cause = cause.0
  cause_stopped request.Flush reply.Stopped is cause = cause
  cause_stopped (request.Read at) reply.Damaged is cause = harm_stops t v.request cause.1
  cause_stopped (request.Write at bytes fua) reply.Damaged is cause = harm_stops t v.request cause.2
  cause_stopped (request.Discard at) reply.Damaged is cause = harm_stops t v.request cause.2
  cause_stopped request.Flush reply.Damaged is cause = absurd cause
  cause_stopped r other is cause = absurd cc

  earned_stopped : (a : Reply) → is_stopped a ≡ true → IsEarned s t (mark_of_vio v) (request_of v) a (is_marked v.asks a) → has_stopped t ≡ true
  earned_stopped reply.Stopped is k = cause_stopped (request_of v) reply.Stopped is k
  earned_stopped reply.Damaged is k = cause_stopped (request_of v) reply.Damaged is k
  earned_stopped other is k = absurd cc

  pub desk_serves : (new : Desk) (made : Trace) (posts : List Post) → DeskServes s.sizes old v new made posts → ActKept s t n (at.Desk old) (item.Request v ∷ []) (at.Desk new) made posts
  desk_serves new made posts (DeskServes.parks a is answer stopped unnotified i m q) =
      let own = known.own in
      rw (i, m, q) (act_none known (record {
        number_is = own.number_is;
        lists = record { log_is = own.lists.log_is; marks_is = own.lists.marks_is; receipts_is = own.lists.receipts_is };
        sound = record {
          requests = own.sound.requests;
          stops_notified = own.sound.stops_notified;
          parked_early = λ some. let few = ltb-false (s.sizes.physical + s.sizes.zones) old.notices unnotified in omega (arith, few);
        };
        kept = every-append (KeptOk s t phase.Reply) old.parked (v ∷ []) own.kept (((vio_ok known), known.front_ok.0.1, is, known.front_ok.0.3), tt);
        answers = tt;
        told = λ heard. earned_stopped a stopped (earned is a answer);
      }) tt)
  desk_serves new made posts (DeskServes.answers a is answer notified unmarked spaced i m q) =
      let own = known.own in
      let h = Says (line.Answer v.request a) in
      let clears = plain_clears known h t tt own.number_is (own_request known) tt tt in
      rw (i, m, q) (act_one known h clears (λ gives fair. gives (fair_before s h t fair))
      ((((vio_ok known).is_open.is_begun, (vio_ok known).is_open.unanswered), answer_cause is a answer unmarked), shown_plain s t h tt (shown_of s t known.right), known.right)
      (record {
        number_is = own.number_is;
        lists = record { log_is = ap (λ (ls : List DeskLine). line.Answer v.request a ∷ ls) own.lists.log_is; marks_is = own.lists.marks_is; receipts_is = own.lists.receipts_is ∙ sym (receipts_said t v.request a spaced) };
        sound = record {
          requests = own.sound.requests;
          stops_notified = stops_answer old.notices (notified_zones s.sizes) v.request a old.log own.sound.stops_notified (λ same. notified_enough s.sizes old (notified (ap is_stopped same)));
          parked_early = own.sound.parked_early;
        };
        kept = line_kept known h t clears own.kept;
        answers = tt;
        told = own.told;
      }) tt)
  desk_serves new made posts (DeskServes.marks is flush answer i m q) =
      let own = known.own in
      let mark : FlushMark = mark_of_vio v in
      let h = Flushes mark in
      let clears = plain_clears known h t tt own.number_is (own_request known) tt tt in
      rw (i, m, q) (act_one known h clears (λ gives fair. gives (fair_before s h t fair))
      ((((vio_ok known).is_open.is_begun, (vio_ok known).is_open.unanswered), flush_asked flush, flush_mark is flush answer), shown_plain s t h tt (shown_of s t known.right), known.right)
      (record {
        number_is = own.number_is;
        lists = record {
          log_is = ap (λ (ls : List DeskLine). line.Answer v.request reply.Ok ∷ ls) own.lists.log_is;
          marks_is = ap (λ (ms : List FlushMark). mark ∷ ms) own.lists.marks_is;
          receipts_is = own.lists.receipts_is;
        };
        sound = record { requests = own.sound.requests; stops_notified = stops_answer old.notices (notified_zones s.sizes) v.request reply.Ok old.log own.sound.stops_notified (λ same. absurd cc); parked_early = own.sound.parked_early };
        kept = line_kept known h t clears own.kept;
        answers = tt;
        told = own.told;
      }) tt)
  desk_serves new made posts (DeskServes.lacks is answer i m q) =
      let own = known.own in
      let h = Says (line.Answer v.request reply.NoSpace) in
      let clears = plain_clears known h t tt own.number_is (own_request known) tt tt in
      let step = same_step is answer in
      rw (i, m, q) (act_one known h clears (λ gives fair. gives (fair_before s h t fair))
      ((((vio_ok known).is_open.is_begun, (vio_ok known).is_open.unanswered), answer_cause is reply.NoSpace answer refl), shown_plain s t h tt (shown_of s t known.right), known.right)
      (record {
        number_is = own.number_is;
        lists = record {
          log_is = ap (λ (ls : List DeskLine). line.Answer v.request reply.NoSpace ∷ ls) own.lists.log_is;
          marks_is = own.lists.marks_is;
          receipts_is = ap (λ (n : ℕ). record { request = v.request; step = n } ∷ old.receipts) step ∙ ap (λ (rs : List NoSpaceReceipt). record { request = v.request; step = asked_step (last_asked t v.request) } ∷ rs) own.lists.receipts_is;
        };
        sound = record { requests = own.sound.requests; stops_notified = stops_answer old.notices (notified_zones s.sizes) v.request reply.NoSpace old.log own.sound.stops_notified (λ same. absurd cc); parked_early = own.sound.parked_early };
        kept = line_kept known h t clears own.kept;
        answers = tt;
        told = own.told;
      }) tt)
    where
      same_step : v.phase ≡ phase.Reply → v.answer ≡ Some reply.NoSpace → receipt_step v.receipt ≡ asked_step (last_asked t v.request)
      same_step is answer = let k = its_receipt is answer in ap receipt_step k.receipt_is ∙ k.asked ∙ sym (ap asked_step k.last)

-- those that wait go to the desk itself
woken_ok : (s : Session) (t : Trace) (vs : List Vio) → AllByRecursion (KeptOk s t phase.Reply) vs → AllByRecursion (PostOk s t) (woken vs)
woken_ok s t [] all = tt
woken_ok s t (v ∷ vs) all = ((omega arith, (all.0.0, all.0.1, subst (λ (q : Phase). desk_number ≡ zone_at s.sizes v q) (sym all.0.2) refl, all.0.3)), woken_ok s t vs all.1)

-- The desk gets the stop notice of a zone.
pub desk_hears : {s : Session} {t : Trace} {n : ℕ} {old : Desk} → Known s t n (at.Desk old) (item.StopNotice ∷ []) → ActKept s t n (at.Desk old) (item.StopNotice ∷ []) (at.Desk (with_notice old)) [] (woken old.parked)
desk_hears {s} {t} {n} {old} known =
    let own = known.own in
    act_none known (record {
      number_is = own.number_is;
      lists = record { log_is = own.lists.log_is; marks_is = own.lists.marks_is; receipts_is = own.lists.receipts_is };
      sound = record { requests = own.sound.requests; stops_notified = λ w stopped. (let enough = own.sound.stops_notified w stopped in omega (arith, enough)); parked_early = λ some. absurd (omega (arith, some)) };
      kept = tt;
      answers = tt;
      told = λ heard. known.front_ok.0.0;
    }) (woken_ok s t old.parked own.kept)
