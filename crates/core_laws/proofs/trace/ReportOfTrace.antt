-- The reads of a right trace are right, and so is its report, which has the zones' lists of places.
use Rattle.std.proofs.Common.{ℕ, ◌≡◌, ◌<◌, nat_lt, true, List, [], ◌∷◌, Some, IsNone, if◌then◌else◌, refl, sym, ◌∙◌, ap, subst, inl, inr, arith, length}
use Rattle.core_laws.proofs.Common.{AllAnswered, AllByRecursion, Fails, Flushes, Gift, Gives, GivesRight, HasCause, HistoryEntry, IsFair, IsSession, Lba, Remapping, Placed, RightTrace, Says, Session, Sets, Trace, Writer, answer_of, bytes_of, calls, done, each_both, eqb_tells, every-map, gift_of, gifts, le-ltb, lines, lt-ltb, marks, newest, not_both, of_address, places, request_at, same_Some, same_tells, value_from, zone_of, Remaps, Passes, remappings, applied, journaled, passed}
use Rattle.core_laws.proofs.lists.Between.{address_behind, address_between, address_there}
use Rattle.vdo_model.specs.Histories.{history_of, is_settled}
use Rattle.vdo_model.specs.RightReads.{value_below, ReadsRight}
use Rattle.vdo_model.specs.declared.report.DeskLine.TheVariants.{Begin, Answer}
use Rattle.core_model.specs.Reports.{opening_values, drawn_histories, ShowsValues, listed_places, progress_of, report_of}
use Rattle.core_laws.proofs.trace.DeskOfTrace.{done_writes, desk_log_right}
use Rattle.core_laws.proofs.trace.PlacesOfTrace.{gifts_placed, gift_has, IsPlacedGift, places_drawn, places_all}
use Rattle.core_laws.proofs.trace.TurnsOfTrace.{below_at, at_address, none_set}
use Rattle.core_laws.proofs.trace.Walks.{Walks, IsPut}
use Rattle.core_laws.proofs.trace.HistoriesOfTrace.{settled_walks, writes_put}
use Rattle.vdo_model.specs.RightRuns.{RunRight}
use Rattle.vdo_model.specs.Stops.{MayShow, RightAfterStops}
use Rattle.vdo_model.specs.ZoneOrder.{HaveSameZones}
use Rattle.vdo_model.proofs.ZoneOrderLaws.{drawn_history_same, listed_same, places_same, reads_same}
use Rattle.core_laws.proofs.trace.StopsOfTrace.{stops_right}
use Rattle.blk_base.specs.declared.request.Answer.TheVariants as reply
use Rattle.blk_base.specs.declared.request.Request.TheVariants as request

-- The reads of a right trace are right: each gave the value of the last settled write of its address before it.

-- the value of an address below a place: that of its last entry there
abbrev pub value_before : Session → List Remapping → ℕ → ℕ → List ℕ
value_before s [] a n = opening_values s a
value_before s (e ∷ older) a n = if nat_lt e.place n then bytes_of s e else value_before s older a n

-- where all entries are below, it is that of the newest one
newest_before : (s : Session) (es : List Remapping) (a n : ℕ) → AllByRecursion (λ (e : Remapping). e.place < n) es → value_before s es a n ≡ value_from s a (newest es)
newest_before s [] a n below = refl
newest_before s (e ∷ es) a n below = rw (lt-ltb e.place n below.0) refl

-- a later entry changes nothing
later_before : (s : Session) (e : Remapping) (es : List Remapping) (a n : ℕ) → n < e.place → value_before s (e ∷ es) a n ≡ value_before s es a n
later_before s e es a n less = rw (le-ltb e.place n (omega arith)) refl

-- a gift has the value of its address below its place
abbrev pub IsRightGift : Session → Trace → Gift → Type 0
IsRightGift s t g = g.bytes ≡ value_before s (of_address g.at.0 (done t)) g.at.0 g.place

gift_after : (s : Session) (e : Remapping) (t : Trace) (g : Gift) → (g.at.0 ≡ e.at.0 → g.place < e.place) → IsRightGift s t g → IsRightGift s (Sets (Remaps e) ∷ t) g
gift_after s e t g less is = elim (eqb_tells e.at.0 g.at.0) [
  | inl same ↦ rw same.0 (is ∙ sym (later_before s e (of_address g.at.0 (done t)) g.at.0 g.place (less (sym same.1))))
  | inr other ↦ rw other.0 is
]

-- nor does a discard that passes
pass_after : (s : Session) (e : Remapping) (t : Trace) (g : Gift) → RightTrace s (Passes e ∷ t) → (g.at.0 ≡ e.at.0 → g.place < e.place) → IsRightGift s t g → IsRightGift s (Passes e ∷ t) g
pass_after s e t g right less is =
    let given : List Remapping → List ℕ = λ es. value_before s es g.at.0 g.place in
    elim (eqb_tells e.at.0 g.at.0) [
      | inl same ↦
          let first : of_address g.at.0 (remappings (journaled t)) ≡ [] = subst (λ (b : ℕ). of_address b (remappings (journaled t)) ≡ []) same.1 right.0.first in
          let none = none_set t g.at.0 (at_address s t g.at.0 right.2) first in
          is ∙ ap given (address_behind g.at.0 (remappings (applied t)) (passed t) none.1) ∙ sym (later_before s e (of_address g.at.0 (passed t)) g.at.0 g.place (less (sym same.1)))
          ∙ ap given (sym (address_there g.at.0 (remappings (applied t)) (passed t) e same.1 none.1))
      | inr other ↦ is ∙ ap given (sym (address_between g.at.0 (remappings (applied t)) (passed t) e other.1))
    ]

-- each gift has the value of its address below its place
pub gifts_right : (s : Session) (t : Trace) → RightTrace s t → GivesRight s t → AllByRecursion (IsRightGift s t) (gifts t)
gifts_right s [] right gives = tt
gifts_right s (Sets (Remaps e) ∷ t) right gives =
    let below : Gift → Type 0 = λ g. g.at.0 ≡ e.at.0 → g.place < e.place in
    every-map {P = λ g. below g × IsRightGift s t g} {Q = IsRightGift s (Sets (Remaps e) ∷ t)} (λ g is. gift_after s e t g is.0 is.1) (gifts t) (each_both below (IsRightGift s t) (gifts t) right.0.below.reads (gifts_right s t right.2 gives))
gifts_right s (Passes e ∷ t) right gives =
    let below : Gift → Type 0 = λ g. g.at.0 ≡ e.at.0 → g.place < e.place in
    every-map {P = λ g. below g × IsRightGift s t g} {Q = IsRightGift s (Passes e ∷ t)} (λ g is. pass_after s e t g right is.0 is.1) (gifts t) (each_both below (IsRightGift s t) (gifts t) right.0.below.reads (gifts_right s t right.2 gives))
gifts_right s (Gives g ∷ t) right gives = (
  gives.0 ∙ sym (newest_before s (of_address g.at.0 (done t)) g.at.0 g.place (below_at t g.at.0 g.place right.0.below)),
  gifts_right s t right.2 gives.1,
)
gifts_right s (other ∷ t) right gives = gifts_right s t right.2 gives

-- a read that was answered with bytes was given them
abbrev pub WasGiven : Trace → Writer → Lba → List ℕ → Type 0
WasGiven t w at bytes = (place : ℕ) × (gift_of (gifts t) w ≡ Some (record { request = w; at = at; place = place; bytes = bytes }))

-- a read that was answered with bytes was given them
pub was_given : (s : Session) (t : Trace) (w : Writer) (at : Lba) (bytes : List ℕ) → RightTrace s t → request_at s.script w ≡ Some (request.Read at) → answer_of (lines t) w ≡ Some (reply.Bytes bytes) → WasGiven t w at bytes
was_given s [] w at bytes right asked is = absurd cc
was_given s (Says (Begin v) ∷ t) w at bytes right asked is = was_given s t w at bytes right.2 asked is
was_given s (Says (Answer v b) ∷ t) w at bytes right asked is = elim (same_tells v w) [
  | inl same ↦
      let cause = right.0.1 _ (subst (λ (x : Writer). request_at s.script x ≡ Some (request.Read at)) (sym same.1) asked) in
      let here : Some b ≡ Some (reply.Bytes bytes) = rw same.0 at is in
      let mine = subst (λ (x : Writer). HasCause s t x (request.Read at) b) same.1 cause in
      subst (λ a. HasCause s t w (request.Read at) a) (same_Some b (reply.Bytes bytes) here) mine
  | inr other ↦ was_given s t w at bytes right.2 asked (rw other.0 at is)
]
was_given s (Flushes mark ∷ t) w at bytes right asked is = elim (same_tells mark.request w) [
  | inl same ↦
      let flush = subst (λ (x : Writer). request_at s.script x ≡ Some request.Flush) same.1 right.0.1 in
      let none : Some request.Flush ≡ Some (request.Read at) = sym flush ∙ asked in
      absurd cc
  | inr other ↦ was_given s t w at bytes right.2 asked (rw other.0 at is)
]
was_given s (Gives g ∷ t) w at bytes right asked is = elim (same_tells g.request w) [
  | inl same ↦
      let open_so = subst (λ (x : Writer). IsNone (answer_of (lines t) x)) same.1 right.0.is_open.unanswered in
      absurd (not_both (answer_of (lines t) w) _ open_so is)
  | inr other ↦ let rest = was_given s t w at bytes right.2 asked is in rw other.0 rest
]
was_given s (Fails v c true ∷ t) w at bytes right asked is = was_given s t w at bytes right.2 asked is
was_given s (other ∷ t) w at bytes right asked is = was_given s t w at bytes right.2 asked is

-- what a history has below a place is what the entries that it walks have
walk_value : (s : Session) (ps : List Placed) (zone a n : ℕ) (hs : List HistoryEntry) (es : List Remapping) → AllByRecursion (IsPut s.script ps zone a) es → Walks is_settled hs es
    → value_below s.script ps (opening_values s a) hs n ≡ value_before s es a n
walk_value s ps zone a n [] es puts walks = rw walks refl
walk_value s ps zone a n (h ∷ hs) es puts walks = elim walks [
  | inl passed ↦ let rest = walk_value s ps zone a n hs es puts passed.1 in rw passed.0 rest
  | inr (e, older, is, request_is, passes, rest_walks) ↦
      let here : AllByRecursion (IsPut s.script ps zone a) (e ∷ older) = subst (AllByRecursion (IsPut s.script ps zone a)) is puts in
      let rest = walk_value s ps zone a n hs older here.1 rest_walks in
      subst (λ (xs : List Remapping). value_below s.script ps (opening_values s a) (h ∷ hs) n ≡ value_before s xs a n) (sym is)
      (rw (passes, request_is, here.0.has_place) (ap (λ (rest_value : List ℕ). if nat_lt e.place n then bytes_of s e else rest_value) rest))
]

-- the reads of a right trace are right
pub reads_right : (s : Session) (t : Trace) → IsSession s → RightTrace s t → GivesRight s t → ReadsRight (opening_values s) s.script (lines t) (places t) (drawn_histories s t)
reads_right s t is right gives w at bytes p asked answered placed =
    let (place, given) = was_given s t w at bytes right asked answered in
    let g : Gift = record { request = w; at = at; place = place; bytes = bytes } in
    let value = (gift_has (IsRightGift s t) (gifts t) w g given (gifts_right s t right gives)).0 in
    let has = (gift_has (IsPlacedGift s t) (gifts t) w g given (gifts_placed s t right)).0 in
    let p_is = same_Some p _ (sym placed ∙ has) in
    let place_is : p.place ≡ place = ap (λ (x : Placed). x.place) p_is in
    let puts = writes_put s t at.0 (done t) (done_writes s t right) in
    let walked = walk_value s (places t) (zone_of s.sizes.zones at.0) at.0 place (history_of (drawn_histories s t) at.0) (of_address at.0 (done t)) puts (settled_walks s t at.0 right) in
    subst (λ (n : ℕ). bytes ≡ value_below s.script (places t) (opening_values s at.0) (history_of (drawn_histories s t) at.0) n) (sym place_is) (value ∙ sym walked)

-- The report of a right trace is right: what is so of the places as they were drawn is so of the zones' lists.

-- the zones' lists have the places that were drawn
listed : (s : Session) (t : Trace) → IsSession s → RightTrace s t → HaveSameZones (places t) (listed_places s t)
listed s t session right = listed_same s.sizes.zones s.sizes.geometry.logical s.script (lines t) (places t) session.zones.0 (places_drawn s t right)

-- a run in which each request is answered is right
pub run_right : (s : Session) (t : Trace) → IsSession s → RightTrace s t → AllAnswered s.script (lines t)
    → RunRight s.sizes.zones s.sizes.depth s.sizes.geometry.logical (progress_of t) s.script (lines t) (report_of s t).places (report_of s t).histories
run_right s t session right answered = record {
  desk_log = desk_log_right s t right;
  all_answered = answered;
  are_places = places_same s.sizes.zones s.sizes.geometry.logical s.script (lines t) (places t) (listed_places s t) (listed s t session right) (record {
    places_drawn = places_drawn s t right;
    all = λ w r a asked has below is. places_all s t w r a right asked has below is;
  });
  are_histories = refl;
}

-- each read gave the last settled write before its place
pub report_reads_right : (s : Session) (t : Trace) → IsSession s → RightTrace s t → GivesRight s t
    → ReadsRight (opening_values s) s.script (lines t) (report_of s t).places (report_of s t).histories
report_reads_right s t session right gives =
    reads_same s.sizes.zones s.sizes.geometry.logical s.script (lines t) (progress_of t) (opening_values s) (places t) (listed_places s t) (listed s t session right)
    (places_drawn s t right) (reads_right s t session right gives)

-- where the session is fair, a stop at any moment leaves what it may
pub report_stops_right : (s : Session) (t : Trace) → IsSession s → RightTrace s t → IsFair s t
    → RightAfterStops (ShowsValues s) s.blocks s.before s.sizes.geometry.logical (opening_values s) (report_of s t) (calls t)
report_stops_right s t session right fair later prefix calls_are image is =
    let (values, has, shows) = stops_right s t session right fair later prefix calls_are image is in (
      values,
      has,
      λ a below. subst (λ (history : List HistoryEntry). MayShow s.script (lines t) (marks t) (calls t) (length prefix) history (opening_values s a) (values a))
          (drawn_history_same s.sizes.zones s.sizes.geometry.logical s.script (lines t) (progress_of t) (places t) (listed_places s t) a (listed s t session right) (places_drawn s t right))
          (shows a below),
    )
