-- The places of a right trace are right, and so is a run in which each request is answered.
use Rattle.std.proofs.Common.{ℕ, ◌≡◌, ◌⊎◌, ◌<◌, ◌≤◌, ◌↔◌, true, List, [], ◌∷◌, Some, None, IsSome, IsNone, refl, sym, ◌∙◌, ap, subst, inl, inr, arith}
use Rattle.core_laws.proofs.Common.{AllByRecursion, Answer as Reply, AreDrawn, DeskLine, Draws, Fails, Flushes, Follows, Gift, Happening, HasCause, HasPlace, IsAnsweredAtOnce, IsNextPlace, IsOfZone, IsStoppedAtOnce, IsWrite, MayAnswer, MayFollow, Placed, Request, RightTrace, Says, Script, Session, Trace, Writer, address_of, answer_of, before_begin, begun, done, every-map, gift_of, gifts, lines, logged_of, place_of, places, request_at, same_Some, same_tells, some_is, some_of}
use Rattle.blk_base.specs.declared.request.Answer.TheVariants as reply
use Rattle.blk_base.specs.declared.request.Answer.TheVariants.{Stopped}
use Rattle.blk_base.specs.declared.request.Request.TheVariants as request
use Rattle.vdo_model.specs.declared.report.DeskLine.TheVariants.{Begin, Answer}
use Rattle.core_laws.proofs.trace.Growth.{places_grow, gifts_grow, begun_stays, before_stays, place_stays}
use Rattle.core_laws.proofs.trace.DeskOfTrace.{logged_has, done_writes}

-- each place is of a request that was begun
abbrev pub IsBegun : Trace → Placed → Type 0
IsBegun t p = p.request.number < begun p.request.stream (lines t)

-- each place is of a request that was begun
pub places_begun : (s : Session) (t : Trace) → RightTrace s t → AllByRecursion (IsBegun t) (places t)
places_begun s [] right = tt
places_begun s (h ∷ t) right =
    let stays : (p : Placed) → IsBegun t p → IsBegun (h ∷ t) p = λ p is. begun_stays s h t p.request right.0 is in
    let rest = every-map {P = IsBegun t} {Q = IsBegun (h ∷ t)} stays (places t) (places_begun s t right.2) in
    places_grow (AllByRecursion (IsBegun (h ∷ t))) s h t right.0 rest (λ p drew next. (stays p next.is_open.is_begun, rest))

-- places stay drawn when the desk log keeps what stands before the begins of theirs
follows_in : (old desk : List DeskLine) (zone : ℕ) (p : Placed) (ps : List Placed)
    → AllByRecursion (λ (q : Placed). before_begin desk q.request ≡ before_begin old q.request) ps
    → AllByRecursion (λ q. q.zone ≡ zone → Follows old p q) ps → AllByRecursion (λ q. q.zone ≡ zone → Follows desk p q) ps
follows_in old desk zone p [] same order = tt
follows_in old desk zone p (q ∷ ps) same order = (
  (λ is. let follows = order.0 is in record {
    stream = follows.stream;
    answered = subst (λ (before : List DeskLine). IsNone (answer_of before p.request)) (sym same.0) follows.answered;
  }),
  follows_in old desk zone p ps same.1 order.1,
)

drawn_in : (zones logical : ℕ) (script : Script) (old desk : List DeskLine) (ps : List Placed)
    → AllByRecursion (λ (q : Placed). before_begin desk q.request ≡ before_begin old q.request) ps
    → AreDrawn zones logical script old ps → AreDrawn zones logical script desk ps
drawn_in zones logical script old desk [] same drawn = tt
drawn_in zones logical script old desk (p ∷ ps) same drawn = (
  record { number = drawn.0.number; once = drawn.0.once; zone = drawn.0.zone; order = follows_in old desk p.zone p ps same.1 drawn.0.order },
  drawn_in zones logical script old desk ps same.1 drawn.1,
)

-- each place is the next of its zone
pub places_drawn : (s : Session) (t : Trace) → RightTrace s t → AreDrawn s.sizes.zones s.sizes.geometry.logical s.script (lines t) (places t)
places_drawn s [] right = tt
places_drawn s (h ∷ t) right =
    let old = places_drawn s t right.2 in
    let same = every-map {P = IsBegun t} {Q = λ (q : Placed). before_begin (lines (h ∷ t)) q.request ≡ before_begin (lines t) q.request} (λ q is. before_stays s h t q.request right.0 is) (places t) (places_begun s t right.2) in
    let rest = drawn_in s.sizes.zones s.sizes.geometry.logical s.script (lines t) (lines (h ∷ t)) (places t) same old in
    places_grow (AreDrawn s.sizes.zones s.sizes.geometry.logical s.script (lines (h ∷ t))) s h t right.0 rest (λ p drew next. (
      subst (λ (g : Happening). IsNextPlace s.sizes.zones s.sizes.geometry.logical s.script (lines (g ∷ t)) p (places t)) (sym drew) next.next,
      rest,
    ))

-- a place is of a block request below the logical size
pub place_of_zone : (zones logical : ℕ) (script : Script) (desk : List DeskLine) (ps : List Placed) (w : Writer) (p : Placed) → AreDrawn zones logical script desk ps → place_of ps w ≡ Some p
    → IsOfZone zones logical script p × (p.request ≡ w)
place_of_zone zones logical script desk [] w p drawn is = absurd cc
place_of_zone zones logical script desk (q ∷ ps) w p drawn is = elim (same_tells q.request w) [
  | inl same ↦
      let here : Some q ≡ Some p = rw same.0 at is in
      let q_is = same_Some q p here in
      (subst (IsOfZone zones logical script) q_is drawn.0.zone, subst (λ (x : Placed). x.request ≡ w) q_is same.1)
  | inr other ↦ place_of_zone zones logical script desk ps w p drawn.1 (rw other.0 at is)
]

-- a gift has the place of its read
abbrev pub IsPlacedGift : Session → Trace → Gift → Type 0
IsPlacedGift s t g = HasPlace s t g.request g.at.0 g.place

-- each gift has the place of its read
pub gifts_placed : (s : Session) (t : Trace) → RightTrace s t → AllByRecursion (IsPlacedGift s t) (gifts t)
gifts_placed s [] right = tt
gifts_placed s (h ∷ t) right =
    let stays : (g : Gift) → IsPlacedGift s t g → IsPlacedGift s (h ∷ t) g = λ g is. place_stays s h t g.request _ right.0 is in
    let rest = every-map {P = IsPlacedGift s t} {Q = IsPlacedGift s (h ∷ t)} stays (gifts t) (gifts_placed s t right.2) in
    gifts_grow (AllByRecursion (IsPlacedGift s (h ∷ t))) s h t right.0 rest (λ g gave next. (stays g next.placed, rest))

-- what holds of all gifts holds of a request's
pub gift_has : (P : Gift → Type 0) (gs : List Gift) (w : Writer) (g : Gift) → gift_of gs w ≡ Some g → AllByRecursion P gs → P g × (g.request ≡ w)
gift_has P [] w g is all = absurd cc
gift_has P (f ∷ gs) w g is all = elim (same_tells f.request w) [
  | inl same ↦
      let here : Some f ≡ Some g = rw same.0 at is in
      let f_is = same_Some f g here in
      (subst P f_is all.0, subst (λ (x : Gift). x.request ≡ w) f_is same.1)
  | inr other ↦ gift_has P gs w g (rw other.0 at is) all.1
]

-- a read that was given its bytes has a place, and so has a write whose slot is set
gift_placed : (s : Session) (t : Trace) (w : Writer) (g : Gift) → RightTrace s t → gift_of (gifts t) w ≡ Some g → IsSome (place_of (places t) w)
gift_placed s t w g right is =
    let has = gift_has (IsPlacedGift s t) (gifts t) w g is (gifts_placed s t right) in
    some_is _ _ (subst (λ (x : Writer). HasPlace s t x g.at.0 g.place) has.1 has.0)

done_placed : (s : Session) (t : Trace) (w : Writer) → RightTrace s t → IsSome (logged_of (done t) w) → IsSome (place_of (places t) w)
done_placed s t w right some =
    let e = some_of _ some in
    let has = logged_has (IsWrite s t) (done t) w e.0 e.1 (done_writes s t right) in
    some_is _ _ (subst (λ (x : Writer). HasPlace s t x e.0.at.0 e.0.place) has.1 has.0.placed)

-- the cause of an answer of a block request: its address isn't below the logical size, or it has a place
cause_tells : (s : Session) (t : Trace) (w : Writer) (r : Request) (a : ℕ) (answer : Reply) → RightTrace s t → address_of r ≡ Some a → HasCause s t w r answer
    → ((answer ≡ reply.Range) × (s.sizes.geometry.logical ≤ a)) ⊎ IsSome (place_of (places t) w)
cause_tells s t w (request.Read at) a reply.Range right has cause = inl (refl, subst (λ (n : ℕ). s.sizes.geometry.logical ≤ n) (same_Some _ _ has) cause)
cause_tells s t w (request.Read at) a (reply.Bytes bytes) right has cause = inr (gift_placed s t w _ right cause.1)
cause_tells s t w (request.Read at) a reply.Stopped right has cause = inr (some_is _ _ cause.1.placed)
cause_tells s t w (request.Read at) a reply.ReadFault right has cause = inr cause.0
cause_tells s t w (request.Read at) a reply.Damaged right has cause = inr cause.0
cause_tells s t w (request.Read at) a other right has cause = absurd cause
cause_tells s t w (request.Write at bytes fua) a reply.Range right has cause = inl (refl, subst (λ (n : ℕ). s.sizes.geometry.logical ≤ n) (same_Some _ _ has) cause)
cause_tells s t w (request.Write at bytes fua) a reply.Ok right has cause = inr (done_placed s t w right cause)
cause_tells s t w (request.Write at bytes fua) a reply.Stopped right has cause = inr cause.1
cause_tells s t w (request.Write at bytes fua) a reply.NoSpace right has cause = inr cause.0
cause_tells s t w (request.Write at bytes fua) a reply.Full right has cause = inr cause.0
cause_tells s t w (request.Write at bytes fua) a reply.ReadFault right has cause = inr cause.0
cause_tells s t w (request.Write at bytes fua) a reply.Damaged right has cause = inr cause.0
cause_tells s t w (request.Write at bytes fua) a other right has cause = absurd cause
cause_tells s t w (request.Discard at) a reply.Range right has cause = inl (refl, subst (λ (n : ℕ). s.sizes.geometry.logical ≤ n) (same_Some _ _ has) cause)
cause_tells s t w (request.Discard at) a reply.Ok right has cause = inr (done_placed s t w right cause)
cause_tells s t w (request.Discard at) a reply.Stopped right has cause = inr cause.1
cause_tells s t w (request.Discard at) a reply.Full right has cause = inr cause.0
cause_tells s t w (request.Discard at) a reply.ReadFault right has cause = inr cause.0
cause_tells s t w (request.Discard at) a reply.Damaged right has cause = inr cause.0
cause_tells s t w (request.Discard at) a other right has cause = absurd cause
cause_tells s t w request.Flush a answer right has cause = absurd cc

-- one below the logical size with a cause of its answer has a place
pub cause_placed : (s : Session) (t : Trace) (w : Writer) (r : Request) (a : ℕ) (answer : Reply) → RightTrace s t → address_of r ≡ Some a → a < s.sizes.geometry.logical → HasCause s t w r answer
    → IsSome (place_of (places t) w)
cause_placed s t w r a answer right has below cause = elim (cause_tells s t w r a answer right has cause) [
  | inl range ↦ absurd (omega (arith, range.1, below))
  | inr placed ↦ placed
]

-- and one that may be answered so has a place, or was stopped at once
may_placed : (s : Session) (t : Trace) (w : Writer) (r : Request) (a : ℕ) (answer : Reply) → RightTrace s t → address_of r ≡ Some a → a < s.sizes.geometry.logical → MayAnswer s t w r answer
    → IsSome (place_of (places t) w) ⊎ ((answer ≡ Stopped) × IsStoppedAtOnce t w)
may_placed s t w (request.Write at bytes fua) a reply.Stopped right has below (inl cause) = inl (cause_placed s t w (request.Write at bytes fua) a reply.Stopped right has below cause)
may_placed s t w (request.Write at bytes fua) a reply.Stopped right has below (inr at_once) = inr (refl, at_once.1)
may_placed s t w (request.Discard at) a reply.Stopped right has below (inl cause) = inl (cause_placed s t w (request.Discard at) a reply.Stopped right has below cause)
may_placed s t w (request.Discard at) a reply.Stopped right has below (inr at_once) = inr (refl, at_once.1)
may_placed s t w r a answer right has below cause = inl (cause_placed s t w r a answer right has below cause)

place_is_some : (s : Session) (h : Happening) (t : Trace) (w : Writer) → MayFollow s h t → IsSome (place_of (places t) w) → IsSome (place_of (places (h ∷ t)) w)
place_is_some s h t w may some = let p = some_of _ some in some_is _ _ (place_stays s h t w p.0 may p.1)

-- a block request below the logical size that is answered has a place, or was stopped at once
abbrev pub IsPlacedOrStopped : Session → Trace → Writer → Type 0
IsPlacedOrStopped s t w = IsSome (answer_of (lines t) w) → IsSome (place_of (places t) w) ⊎ IsAnsweredAtOnce (lines t) w Stopped

-- one line more stands in front
at_once_later : (line : DeskLine) (ls : List DeskLine) (w : Writer) (a : Reply) → IsAnsweredAtOnce ls w a → IsAnsweredAtOnce (line ∷ ls) w a
at_once_later line ls w a is = record { later = line ∷ is.later; older = is.older; at = ap (λ (xs : List DeskLine). line ∷ xs) is.at }

-- what is so of a request's place stays when a line is said
placed_later : (line : DeskLine) (t : Trace) (w : Writer) → IsSome (place_of (places t) w) ⊎ IsAnsweredAtOnce (lines t) w Stopped
    → IsSome (place_of (places t) w) ⊎ IsAnsweredAtOnce (line ∷ lines t) w Stopped
placed_later line t w (inl placed) = inl placed
placed_later line t w (inr at_once) = inr (at_once_later line (lines t) w Stopped at_once)

-- each block request below the logical size that is answered has a place or was stopped at once
pub places_all : (s : Session) (t : Trace) (w : Writer) (r : Request) (a : ℕ) → RightTrace s t → request_at s.script w ≡ Some r → address_of r ≡ Some a → a < s.sizes.geometry.logical → IsPlacedOrStopped s t w
places_all s [] w r a right asked has below = λ answered. absurd cc
places_all s (Says (Begin v) ∷ t) w r a right asked has below = λ answered. placed_later (Begin v) t w (places_all s t w r a right.2 asked has below answered)
places_all s (Says (Answer v b) ∷ t) w r a right asked has below = elim (same_tells v w) [
  | inl same ↦ λ answered.
      let cause = right.0.1 r (subst (λ (x : Writer). request_at s.script x ≡ Some r) (sym same.1) asked) in
      let mine = may_placed s t w r a b right.2 has below (subst (λ (x : Writer). MayAnswer s t x r b) same.1 cause) in
      elim mine [
        | inl placed ↦ inl placed
        | inr at_once ↦ inr (record {
          later = [];
          older = lines at_once.1.older;
          at = rw (same.1, at_once.0) (ap (λ (u : Trace). Answer w Stopped ∷ lines u) at_once.1.begun_last);
        })
      ]
  | inr other ↦ rw other.0 (λ answered. placed_later (Answer v b) t w (places_all s t w r a right.2 asked has below answered))
]
places_all s (Flushes mark ∷ t) w r a right asked has below = elim (same_tells mark.request w) [
  | inl same ↦
      let flush = subst (λ (x : Writer). request_at s.script x ≡ Some request.Flush) same.1 right.0.1 in
      let r_is : r ≡ request.Flush = same_Some _ _ (sym asked ∙ flush) in
      let none : None ≡ Some a = subst (λ (q : Request). address_of q ≡ Some a) r_is has in
      absurd cc
  | inr other ↦ rw other.0 (λ answered. placed_later (Answer mark.request reply.Ok) t w (places_all s t w r a right.2 asked has below answered))
]
places_all s (Draws p ∷ t) w r a right asked has below = λ answered. elim (places_all s t w r a right.2 asked has below answered) [
  | inl placed ↦ inl (place_is_some s (Draws p) t w right.0 placed)
  | inr stopped ↦ inr stopped
]
places_all s (Fails v c true ∷ t) w r a right asked has below = places_all s t w r a right.2 asked has below
places_all s (other ∷ t) w r a right asked has below = places_all s t w r a right.2 asked has below

-- a block request with a place has an address below the logical size
placed_inside : (s : Session) (t : Trace) (w : Writer) (r : Request) (a : ℕ) → RightTrace s t → request_at s.script w ≡ Some r → address_of r ≡ Some a → IsSome (place_of (places t) w) → a < s.sizes.geometry.logical
placed_inside s t w r a right asked has some =
    let p = some_of _ some in
    let ((q, b, asked_too, has_too, below, zone), is) = place_of_zone s.sizes.zones s.sizes.geometry.logical s.script (lines t) (places t) w p.0 (places_drawn s t right) p.1 in
    let here : request_at s.script w ≡ Some q = subst (λ (x : Writer). request_at s.script x ≡ Some q) is asked_too in
    let q_is : q ≡ r = same_Some _ _ (sym here ∙ asked) in
    let b_is : b ≡ a = same_Some _ _ (sym (subst (λ (x : Request). address_of x ≡ Some b) q_is has_too) ∙ has) in
    omega (arith, below, b_is)

-- an answer is `Range` exactly where the address isn't below the logical size
abbrev pub TellsRange : Session → ℕ → Reply → Type 0
TellsRange s a answer = (answer ≡ reply.Range) ↔ (s.sizes.geometry.logical ≤ a)

range_past : (s : Session) (t : Trace) (w : Writer) (r : Request) (a : ℕ) → address_of r ≡ Some a → HasCause s t w r reply.Range → s.sizes.geometry.logical ≤ a
range_past s t w (request.Read at) a has cause = subst (λ (n : ℕ). s.sizes.geometry.logical ≤ n) (same_Some _ _ has) cause
range_past s t w (request.Write at bytes fua) a has cause = subst (λ (n : ℕ). s.sizes.geometry.logical ≤ n) (same_Some _ _ has) cause
range_past s t w (request.Discard at) a has cause = subst (λ (n : ℕ). s.sizes.geometry.logical ≤ n) (same_Some _ _ has) cause
range_past s t w request.Flush a has cause = absurd cc

cause_range : (s : Session) (t : Trace) (w : Writer) (r : Request) (a : ℕ) (answer : Reply) → RightTrace s t → request_at s.script w ≡ Some r → address_of r ≡ Some a → HasCause s t w r answer → TellsRange s a answer
cause_range s t w r a answer right asked has cause = elim (cause_tells s t w r a answer right has cause) [
  | inl range ↦ (λ is. range.1, λ past. range.0)
  | inr placed ↦ (
    λ is. range_past s t w r a has (subst (λ (b : Reply). HasCause s t w r b) is cause),
    λ past. let below = placed_inside s t w r a right asked has placed in absurd (omega (arith, past, below)),
  )
]

may_range : (s : Session) (t : Trace) (w : Writer) (r : Request) (a : ℕ) (answer : Reply) → RightTrace s t → request_at s.script w ≡ Some r → address_of r ≡ Some a → MayAnswer s t w r answer → TellsRange s a answer
may_range s t w (request.Write at bytes fua) a reply.Stopped right asked has (inl cause) = cause_range s t w (request.Write at bytes fua) a reply.Stopped right asked has cause
may_range s t w (request.Write at bytes fua) a reply.Stopped right asked has (inr at_once) =
    let below = at_once.0 in let is : at.0 ≡ a = same_Some _ _ has in (λ none. absurd cc, λ past. absurd (omega (arith, past, below, is)))
may_range s t w (request.Discard at) a reply.Stopped right asked has (inl cause) = cause_range s t w (request.Discard at) a reply.Stopped right asked has cause
may_range s t w (request.Discard at) a reply.Stopped right asked has (inr at_once) =
    let below = at_once.0 in let is : at.0 ≡ a = same_Some _ _ has in (λ none. absurd cc, λ past. absurd (omega (arith, past, below, is)))
may_range s t w r a answer right asked has cause = cause_range s t w r a answer right asked has cause

-- each block request that is answered is answered `Range` exactly there
pub range_told : (s : Session) (t : Trace) (w : Writer) (r : Request) (a : ℕ) (answer : Reply) → RightTrace s t → request_at s.script w ≡ Some r → address_of r ≡ Some a → answer_of (lines t) w ≡ Some answer
    → TellsRange s a answer
range_told s [] w r a answer right asked has answered = absurd cc
range_told s (Says (Begin v) ∷ t) w r a answer right asked has answered = range_told s t w r a answer right.2 asked has answered
range_told s (Says (Answer v b) ∷ t) w r a answer right asked has answered = elim (same_tells v w) [
  | inl same ↦
      let cause = right.0.1 r (subst (λ (x : Writer). request_at s.script x ≡ Some r) (sym same.1) asked) in
      let is : b ≡ answer = same_Some _ _ (rw same.0 at answered) in
      subst (TellsRange s a) is (may_range s t w r a b right.2 asked has (subst (λ (x : Writer). MayAnswer s t x r b) same.1 cause))
  | inr other ↦ range_told s t w r a answer right.2 asked has (rw other.0 at answered)
]
range_told s (Flushes mark ∷ t) w r a answer right asked has answered = elim (same_tells mark.request w) [
  | inl same ↦
      let flush = subst (λ (x : Writer). request_at s.script x ≡ Some request.Flush) same.1 right.0.1 in
      let r_is : r ≡ request.Flush = same_Some _ _ (sym asked ∙ flush) in
      let none : None ≡ Some a = subst (λ (q : Request). address_of q ≡ Some a) r_is has in
      absurd cc
  | inr other ↦ range_told s t w r a answer right.2 asked has (rw other.0 at answered)
]
range_told s (Fails v c true ∷ t) w r a answer right asked has answered = range_told s t w r a answer right.2 asked has answered
range_told s (other ∷ t) w r a answer right asked has answered = range_told s t w r a answer right.2 asked has answered
