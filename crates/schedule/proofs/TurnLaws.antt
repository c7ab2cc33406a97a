-- Turns: which event each takes, and what they play.
use Rattle.vdo_core.specs.declared.numbers.TheConstants.{MOST_ZONES}
use Rattle.std.proofs.Common.{ℕ, zero, suc, ◌≡◌, ◌≢◌, ◌<◌, ◌≤◌, ◌+◌, ◌-◌, ◌*◌, ◌%◌, Bool, true, false, ltb, le-ltb, lt-ltb, List, [], ◌∷◌, ◌++◌, length, length-append, map, drop, get_or, slice_get, refl, sym, ◌∙◌, ap, append_assoc, subst, inl, inr, arith}
use Rattle.std.proofs.Math.Nat.{mod-eq_of_lt, mul-add-mod_self_right}
use Rattle.std.proofs.Math.Seq.{drop-cons}
use Rattle.std.proofs.lemmas.Bool.{cases_lt}
use Rattle.std.proofs.lemmas.Nat.{div-mul-add, mul-le}
use Rattle.std.proofs.lemmas.List.{append-nil, drop_all, map-append}
use Rattle.std.proofs.lemmas.Option.{same_Some, slice_get_within}
use Rattle.disk_model.specs.Numbers.{next_state, number_in}
use Rattle.disk_model.specs.Trust.{Trust}
use Rattle.data_vio.specs.declared.sizes.Sizes.{Sizes}
use Rattle.core_model.specs.declared.zones.Zone.{Zone}
use Rattle.core_model.specs.Trace.{Trace}
use Rattle.vdo_core.specs.Done.{IsDone}
use Rattle.vdo_core.specs.Notes.{IsSetOfSenders, IsSetOfWork}
use Rattle.vdo_core.specs.Plays.{HasNoWork, Plays, PlaysOne, Vdo}
use Rattle.vdo_core.specs.declared.events.Event.{Event}
use Rattle.vdo_core.specs.declared.events.Event.TheVariants as event
use Rattle.core_model.specs.ZoneSets.{TakesFirst, is_in}
use Rattle.vdo_core.proofs.PlayLaws.{LeadsBy, plays_lead}
use Rattle.core_model.proofs.ZoneSetLaws.{both_ways}
use Rattle.schedule.specs.Turns.{AreReady, Drives, Driving, IsTurn, PlaysUntilDone, event_count, event_of}

-- the number of a step
pub step_is : (count n : ℕ) → n < count → event_of count (0 + n) ≡ event.Step n
step_is count n inside =
    let order : 0 + n ≡ n = omega arith in
    let below : ltb n count ≡ true = lt-ltb n count inside in
    rw (order, below) refl

-- the number of a move, behind those of the steps
pub move_is : (count from to : ℕ) → to < count → event_of count (count + from * count + to) ≡ event.Move from to
move_is count from to inside =
    let behind : ltb (count + from * count + to) count ≡ false = le-ltb (count + from * count + to) count (omega arith) in
    let rest : count + from * count + to - count ≡ from * count + to = omega arith in
    rw (behind, rest, div-mul-add from count to inside, mul-add-mod_self_right from count to ∙ mod-eq_of_lt inside) refl

module _ (sizes : Sizes) (zones : List Zone) where
  -- the list of the events for which there is work is one
  pub ready_once : (k : ℕ) (xs ys : List Event) → AreReady sizes zones k xs → AreReady sizes zones k ys → xs ≡ ys
  ready_once zero xs ys none none' = none ∙ sym none'
  ready_once (suc k) xs ys (inl (none, early)) (inl (none', early')) = ready_once k xs ys early early'
  ready_once (suc k) xs ys (inl (none, early)) (inr (front, is, some, early')) = absurd (some none)
  ready_once (suc k) xs ys (inr (front, is, some, early)) (inl (none, early')) = absurd (some none)
  ready_once (suc k) xs ys (inr (front, is, some, early)) (inr (front', is', some', early')) =
      is ∙ ap (λ (es : List Event). es ++ event_of (length zones) k ∷ []) (ready_once k front front' early early') ∙ sym is'

  -- no more are listed where there is no work for any of the next events
  pub ready_past : (k more : ℕ) (xs : List Event) → ((j : ℕ) → j < more → HasNoWork sizes zones (event_of (length zones) (k + j))) → AreReady sizes zones k xs
      → AreReady sizes zones (k + more) xs
  ready_past k zero xs none ready = let order : k ≡ k + 0 = omega arith in subst (λ (n : ℕ). AreReady sizes zones n xs) order ready
  ready_past k (suc more) xs none ready =
      let order : suc (k + more) ≡ k + suc more = omega arith in
      subst (λ (n : ℕ). AreReady sizes zones n xs) order (inl (none more (omega arith), ready_past k more xs (λ j below. none j (omega (arith, below))) ready))

  -- so the moves from a zone that posted nothing are passed over
  row_past : (from : ℕ) (xs : List Event) → ((to : ℕ) → HasNoWork sizes zones (event.Move from to)) → AreReady sizes zones (length zones + from * length zones) xs
      → AreReady sizes zones (length zones + (from + 1) * length zones) xs
  row_past from xs nothing ready =
      let order : length zones + from * length zones + length zones ≡ length zones + (from + 1) * length zones = omega arith in
      subst (λ (k : ℕ). AreReady sizes zones k xs) order
      (ready_past (length zones + from * length zones) (length zones) xs
      (λ j below. subst (λ (e : Event). HasNoWork sizes zones e) (sym (move_is (length zones) from j below)) (nothing j)) ready)

  rows_past : (from more : ℕ) (xs : List Event) → ((n to : ℕ) → from ≤ n → n < from + more → HasNoWork sizes zones (event.Move n to)) → AreReady sizes zones (length zones + from * length zones) xs
      → AreReady sizes zones (length zones + (from + more) * length zones) xs
  rows_past from zero xs nothing ready = let order : from ≡ from + 0 = omega arith in subst (λ (k : ℕ). AreReady sizes zones (length zones + k * length zones) xs) order ready
  rows_past from (suc more) xs nothing ready =
      let order : from + more + 1 ≡ from + suc more = omega arith in
      subst (λ (k : ℕ). AreReady sizes zones (length zones + k * length zones) xs) order
      (row_past (from + more) xs (λ to. nothing (from + more) to (omega arith) (omega arith)) (rows_past from more xs (λ n to low below. nothing n to low (omega (arith, below))) ready))

  -- so a turn takes one event
  pub turn_once : (state : ℕ) (e e' : Event) → IsTurn sizes zones state e → IsTurn sizes zones state e' → e ≡ e'
  turn_once state e e' one other =
      let same = ready_once (event_count (length zones)) one.ready other.ready one.are_ready other.are_ready in
      same_Some _ _ (sym one.is ∙ ap (λ (ready : List Event). slice_get ready (number_in (next_state state) % length ready)) same ∙ other.is)

-- What is listed of events in a row, where a set has those that are left for which there is work: all before one of them.
pub record Listed (sizes : Sizes) (zones : List Zone) (base : ℕ) (e : ℕ → Event) (left : ℕ) (items : List ℕ) : Type 0 where
  pub next : ℕ
  pub few : next ≤ length zones
  pub room : length items ≤ base + next
  pub ready : AreReady sizes zones (base + next) (map (event_of (length zones)) items)
  pub ahead : (n : ℕ) → is_in left n ≡ true → (next ≤ n) × (n < length zones) × (HasNoWork sizes zones (e n) → ⊥)
  pub nothing : (n : ℕ) → next ≤ n → is_in left n ≡ false → HasNoWork sizes zones (e n)

-- what is listed of the moves, where a set has the senders that are left
pub record RowsListed (sizes : Sizes) (zones : List Zone) (left : ℕ) (items : List ℕ) : Type 0 where
  pub next : ℕ
  pub few : next ≤ length zones
  pub room : length items ≤ length zones + next * length zones
  pub ready : AreReady sizes zones (length zones + next * length zones) (map (event_of (length zones)) items)
  pub ahead : (n : ℕ) → is_in left n ≡ true → (next ≤ n) × (n < length zones)
  pub nothing : (n to : ℕ) → next ≤ n → is_in left n ≡ false → HasNoWork sizes zones (event.Move n to)

-- what is left when the lowest left comes behind that
pub left_ahead : (left left' first n : ℕ) → TakesFirst left left' first → is_in left' n ≡ true → (is_in left n ≡ true) × (first < n)
left_ahead left left' first n taken inside =
    let apart : n ≢ first = λ (same : n ≡ first). both_ways _ inside (ap (λ (k : ℕ). is_in left' k) same ∙ taken.left.there) in
    let had : is_in left n ≡ true = sym (taken.left.others n apart) ∙ inside in (
      had,
      elim (cases_lt n first) [
        | inl below ↦ absurd (both_ways _ had (taken.lowest n below))
        | inr past ↦ omega (arith, past, apart)
      ],
    )

-- and what isn't, wasn't
pub left_nothing : (left left' first n : ℕ) → TakesFirst left left' first → first < n → is_in left' n ≡ false → is_in left n ≡ false
left_nothing left left' first n taken behind outside = sym (taken.left.others n (λ (same : n ≡ first). omega (arith, same, behind))) ∙ outside

-- the number of an event is one of those that there is room for
pub row_room : (count from to : ℕ) → count ≤ MOST_ZONES → from < count → to < count → count + from * count + to < 272
row_room count from to few inside below =
    let most : from * count ≤ 15 * 16 = mul-le from count 15 16 (omega (arith, inside, few)) few in
    omega (arith, most, few, below)

-- no event has work past the zones
pub no_step_past : (sizes : Sizes) (zones : List Zone) (n : ℕ) → length zones ≤ n → HasNoWork sizes zones (event.Step n)
no_step_past sizes zones n past z got = absurd (let below = slice_get_within zones n z got in omega (arith, below, past))

pub no_move_past : (sizes : Sizes) (zones : List Zone) (from n : ℕ) → length zones ≤ n → HasNoWork sizes zones (event.Move from n)
no_move_past sizes zones from n past source target apart had had' = absurd (let below = slice_get_within zones n target had' in omega (arith, below, past))

module _ (sizes : Sizes) (zones : List Zone) (base : ℕ) (e : ℕ → Event) (is : (n : ℕ) → n < length zones → event_of (length zones) (base + n) ≡ e n) where
  pub listed_first : (set : ℕ) (items : List ℕ) → ((n : ℕ) → length zones ≤ n → HasNoWork sizes zones (e n)) → length items ≤ base
      → AreReady sizes zones base (map (event_of (length zones)) items) → IsSetOfWork sizes zones e set → Listed sizes zones base e set items
  listed_first set items past room ready work =
      let order : base ≡ base + 0 = omega arith in
      record {
        next = 0;
        few = omega arith;
        room = omega (arith, room);
        ready = subst (λ (k : ℕ). AreReady sizes zones k (map (event_of (length zones)) items)) order ready;
        ahead = λ n inside.
            (let some = work.yes n inside in (omega arith, elim (cases_lt n (length zones)) [ inl below ↦ below | inr behind ↦ absurd (some (past n behind)) ], some));
        nothing = λ n low outside. work.no n outside;
      }

  -- those before one of them are listed
  listed_to : (left : ℕ) (items : List ℕ) (l : Listed sizes zones base e left items) (n : ℕ) → l.next ≤ n → n ≤ length zones → ((m : ℕ) → m < n → is_in left m ≡ false)
      → AreReady sizes zones (base + n) (map (event_of (length zones)) items)
  listed_to left items l n low most none =
      let order : base + l.next + (n - l.next) ≡ base + n = omega (arith, low) in
      subst (λ (k : ℕ). AreReady sizes zones k (map (event_of (length zones)) items)) order
      (ready_past sizes zones (base + l.next) (n - l.next) (map (event_of (length zones)) items) (λ j below. (
      let place : base + l.next + j ≡ base + (l.next + j) = omega arith in
      let event_is : event_of (length zones) (base + l.next + j) ≡ e (l.next + j) = ap (λ (k : ℕ). event_of (length zones) k) place ∙ is (l.next + j) (omega (arith, below, most)) in
      subst (λ (v : Event). HasNoWork sizes zones v) (sym event_is) (l.nothing (l.next + j) (omega arith) (none (l.next + j) (omega (arith, below))))
      )) l.ready)

  -- and then that one
  pub listed_more : (left left' n : ℕ) (items : List ℕ) → TakesFirst left left' n → Listed sizes zones base e left items → Listed sizes zones base e left' (items ++ (base + n) ∷ [])
  listed_more left left' n items taken l =
      let (low, inside, some) = l.ahead n taken.had in
      let before = listed_to left items l n low (omega (arith, inside)) taken.lowest in
      let count = length zones in
      let all : map (event_of count) (items ++ (base + n) ∷ []) ≡ map (event_of count) items ++ event_of count (base + n) ∷ [] = map-append (event_of count) items ((base + n) ∷ []) in
      let order : suc (base + n) ≡ base + suc n = omega arith in
      let room = l.room in
      record {
        next = suc n;
        few = omega (arith, inside);
        room = omega (arith, room, low, length-append items ((base + n) ∷ []));
        ready = subst (λ (k : ℕ). AreReady sizes zones k (map (event_of count) (items ++ (base + n) ∷ []))) order
            (inr (map (event_of count) items, all, subst (λ (v : Event). HasNoWork sizes zones v → ⊥) (sym (is n inside)) some, before));
        ahead = λ m there. (let (had, behind) = left_ahead left left' n m taken there in let (far, within, works) = l.ahead m had in (omega (arith, behind), within, works));
        nothing = λ m high outside. l.nothing m (omega (arith, low, high)) (left_nothing left left' n m taken (omega (arith, high)) outside);
      }

  -- all are listed where none is left
  pub listed_all : (left : ℕ) (items : List ℕ) → ((n : ℕ) → is_in left n ≡ false) → Listed sizes zones base e left items
      → (length items ≤ base + length zones) × AreReady sizes zones (base + length zones) (map (event_of (length zones)) items)
  listed_all left items none l = let room = l.room in let few = l.few in (omega (arith, room, few), listed_to left items l (length zones) few (omega arith) (λ m below. none m))

module _ (sizes : Sizes) (zones : List Zone) where
  pub rows_first : (set : ℕ) (items : List ℕ) → length items ≤ length zones → AreReady sizes zones (length zones) (map (event_of (length zones)) items) → IsSetOfSenders zones set
      → RowsListed sizes zones set items
  rows_first set items room ready senders =
      let order : length zones ≡ length zones + 0 * length zones = omega arith in
      record {
        next = 0;
        few = omega arith;
        room = omega (arith, room);
        ready = subst (λ (k : ℕ). AreReady sizes zones k (map (event_of (length zones)) items)) order ready;
        ahead = λ n inside. (omega arith, elim (cases_lt n (length zones)) [ inl below ↦ below | inr behind ↦ absurd (both_ways _ inside (senders.few n behind)) ]);
        nothing = λ n to low outside. senders.no sizes n to outside;
      }

  -- the moves before those from a sender are listed
  rows_to : (left : ℕ) (items : List ℕ) (l : RowsListed sizes zones left items) (n : ℕ) → l.next ≤ n → ((m : ℕ) → m < n → is_in left m ≡ false)
      → (length items ≤ length zones + n * length zones) × AreReady sizes zones (length zones + n * length zones) (map (event_of (length zones)) items)
  rows_to left items l n low none =
      let order : l.next + (n - l.next) ≡ n = omega (arith, low) in
      let room = l.room in
      let more : l.next * length zones ≤ n * length zones = mul-le l.next (length zones) n (length zones) low (omega arith) in (
        omega (arith, room, more),
        subst (λ (k : ℕ). AreReady sizes zones (length zones + k * length zones) (map (event_of (length zones)) items)) order
            (rows_past sizes zones l.next (n - l.next) (map (event_of (length zones)) items) (λ m to high below. l.nothing m to high (none m (omega (arith, below, order)))) l.ready),
      )

  pub rows_at : (left left' n : ℕ) (items : List ℕ) → TakesFirst left left' n → RowsListed sizes zones left items
      → (n < length zones) × (length items ≤ length zones + n * length zones) × AreReady sizes zones (length zones + n * length zones) (map (event_of (length zones)) items)
  rows_at left left' n items taken l =
      let (low, inside) = l.ahead n taken.had in
      let (room, ready) = rows_to left items l n low taken.lowest in
      (inside, room, ready)

  -- and then those from it
  pub rows_more : (left left' n : ℕ) (items items' : List ℕ) → TakesFirst left left' n → RowsListed sizes zones left items → length items' ≤ length zones + (n + 1) * length zones
      → AreReady sizes zones (length zones + (n + 1) * length zones) (map (event_of (length zones)) items') → RowsListed sizes zones left' items'
  rows_more left left' n items items' taken l room ready =
      let (low, inside) = l.ahead n taken.had in
      record {
        next = n + 1;
        few = omega (arith, inside);
        room = room;
        ready = ready;
        ahead = λ m there. (let (had, behind) = left_ahead left left' n m taken there in (omega (arith, behind), (l.ahead m had).1));
        nothing = λ m to high outside. l.nothing m to (omega (arith, low, high)) (left_nothing left left' n m taken (omega (arith, high)) outside);
      }

  -- all are listed where no sender is left
  pub rows_all : (left : ℕ) (items : List ℕ) → ((n : ℕ) → is_in left n ≡ false) → RowsListed sizes zones left items
      → AreReady sizes zones (event_count (length zones)) (map (event_of (length zones)) items)
  rows_all left items none l = let few = l.few in (rows_to left items l (length zones) few (λ m below. none m)).1

-- a turn after others
pub drives_further : (trust : Trust) (sizes : Sizes) (events more : List Event) (a b c : Driving) (early late : Trace)
    → Drives trust sizes events a b early → Drives trust sizes more b c late → Drives trust sizes (events ++ more) a c (late ++ early)
drives_further trust sizes [] more a b c early late (same, none) drives =
    let all : late ++ early ≡ late = ap (λ (t : Trace). late ++ t) none ∙ append-nil late in
    subst (λ (t : Trace). Drives trust sizes more a c t) (sym all) (subst (λ (d : Driving). Drives trust sizes more d c late) same drives)
drives_further trust sizes (e ∷ events) more a b c early late (between, first, later, undone, turn, one, rest, is) drives =
    let next : Driving = record { state = next_state a.state; vdo = between } in
    let further = drives_further trust sizes events more next b c later late rest drives in
    let all : late ++ early ≡ (late ++ later) ++ first = ap (λ (t : Trace). late ++ t) is ∙ sym (append_assoc late later first) in
    (between, first, late ++ later, undone, turn, one, further, all)

-- what turns make of a core, their events do
pub driven_plays : (trust : Trust) (sizes : Sizes) (events : List Event) (old new : Driving) (made : Trace)
    → Drives trust sizes events old new made → Plays trust sizes events old.vdo new.vdo made
driven_plays trust sizes [] old new made (same, none) = (ap (λ (d : Driving). d.vdo) same, none)
driven_plays trust sizes (e ∷ events) old new made (between, first, later, undone, turn, one, rest, is) =
    (between, first, later, one, driven_plays trust sizes events (record { state = next_state old.state; vdo = between }) new later rest, is)

pub driven_leads : (trust : Trust) (sizes : Sizes) (events : List Event) (old new : Driving) (made : Trace)
    → Drives trust sizes events old new made → LeadsBy trust sizes old.vdo new.vdo made
driven_leads trust sizes events old new made drives =
    plays_lead trust sizes events old.vdo new.vdo made (driven_plays trust sizes events old new made drives)

-- what is played until a core is done is a first part of the events
abbrev pub PlaysPart : Trust → Sizes → List Event → Vdo → Vdo → Trace → Type 0
PlaysPart trust sizes events old new made = (played left : List Event) × (events ≡ played ++ left) × Plays trust sizes played old new made

pub part_plays : (trust : Trust) (sizes : Sizes) (events : List Event) (old new : Vdo) (made : Trace)
    → PlaysUntilDone trust sizes events old new made → PlaysPart trust sizes events old new made
part_plays trust sizes [] old new made (same, none) = ([], [], refl, (same, none))
part_plays trust sizes (e ∷ events) old new made (inl (done, same, none)) = ([], e ∷ events, refl, (same, none))
part_plays trust sizes (e ∷ events) old new made (inr (between, first, later, undone, one, rest, all)) =
    let (played, left, is, plays) = part_plays trust sizes events between new later rest in
    (e ∷ played, left, ap (λ (es : List Event). e ∷ es) is, (between, first, later, one, plays, all))

pub part_leads : (trust : Trust) (sizes : Sizes) (events : List Event) (old new : Vdo) (made : Trace)
    → PlaysUntilDone trust sizes events old new made → LeadsBy trust sizes old new made
part_leads trust sizes events old new made until =
    let (played, left, is, plays) = part_plays trust sizes events old new made until in
    plays_lead trust sizes played old new made plays

-- an event before those that are left, where the core isn't done
pub next_until : (trust : Trust) (sizes : Sizes) (events : List Event) (n : ℕ) (d : Event) (a b last : Vdo)
    → n < length events → (IsDone a.zones → ⊥) → ((first : Trace) × PlaysOne trust sizes (get_or events n d) a b first)
    → ((later : Trace) × PlaysUntilDone trust sizes (drop (n + 1) events) b last later)
    → (made : Trace) × PlaysUntilDone trust sizes (drop n events) a last made
next_until trust sizes events n d a b last within undone (first, one) (later, rest) =
    let next : n + 1 ≡ suc n = omega arith in
    let left = subst (λ (m : ℕ). PlaysUntilDone trust sizes (drop m events) b last later) next rest in (
      later ++ first,
      subst (λ (es : List Event). PlaysUntilDone trust sizes es a last (later ++ first)) (sym (drop-cons events n d within)) (inr (b, first, later, undone, one, left, refl)),
    )

-- no more is played of a core that is done
pub done_until : (trust : Trust) (sizes : Sizes) (events : List Event) (a : Vdo) → IsDone a.zones
    → (made : Trace) × PlaysUntilDone trust sizes events a a made
done_until trust sizes [] a done = ([], (refl, refl))
done_until trust sizes (e ∷ events) a done = ([], inl (done, refl, refl))

-- nor where no event is left
pub none_until : (trust : Trust) (sizes : Sizes) (events : List Event) (n : ℕ) (a : Vdo) → length events ≤ n
    → (made : Trace) × PlaysUntilDone trust sizes (drop n events) a a made
none_until trust sizes events n a past =
    ([], subst (λ (es : List Event). PlaysUntilDone trust sizes es a a []) (sym (drop_all n events past)) (refl, refl))
