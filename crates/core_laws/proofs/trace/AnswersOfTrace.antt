-- The marks of a right trace: an answer says of a write no more than whether its entry was handed in and its slot set.
use Rattle.std.proofs.Common.{ℕ, ◌≡◌, ◌<◌, ◌++◌, Bool, true, false, List, [], ◌∷◌, Option, Some, None, IsSome, IsNone, refl, sym, ◌∙◌, ap, subst, inl, inr, arith}
use Rattle.core_laws.proofs.Common.{Answer as Reply, AreDrawn, DeskLine, Enters, Fails, Flushes, HistoryEntry, Remapping, Mark, MayAnswer, Placed, Request, RightTrace, Says, Session, Sets, Trace, Writer, address_of, answer_of, done, entered, lines, logged_of, none_of, places, request_at, same_Some, same_tells, Remaps, Passes, remappings, applied, journaled, passed}
use Rattle.core_laws.proofs.lists.Between.{logged_between}
use Rattle.blk_base.specs.declared.request.Answer.TheVariants as reply
use Rattle.blk_base.specs.declared.request.Request.TheVariants as request
use Rattle.vdo_model.specs.Histories.{mark_of, histories_of}
use Rattle.vdo_model.specs.Histories as model
use Rattle.vdo_model.specs.declared.report.DeskLine.TheVariants.{Begin, Answer}
use Rattle.core_model.specs.Reports.{is_there, set_in, handed_in, drawn_histories}
use Rattle.core_laws.proofs.lists.Changes.{Changes}
use Rattle.core_laws.proofs.trace.DeskOfTrace.{done_is_entered}
use Rattle.core_laws.proofs.trace.Walks.{progress}
use Rattle.core_laws.proofs.trace.PlacesOfTrace.{places_drawn}

-- what an answer says of a write
abbrev pub AnswerSays : Bool → Bool → Option Reply → Type 0
AnswerSays is_set handed None = Unit {0}
AnswerSays is_set handed (Some reply.Ok) = is_set ≡ true
AnswerSays is_set handed (Some reply.Stopped) = is_set ≡ false
AnswerSays is_set handed (Some reply.Full) = handed ≡ false
AnswerSays is_set handed (Some reply.Range) = ⊥
AnswerSays is_set handed (Some (reply.Bytes bytes)) = ⊥
AnswerSays is_set handed (Some reply.NoSpace) = handed ≡ false
AnswerSays is_set handed (Some reply.ReadFault) = handed ≡ false
AnswerSays is_set handed (Some reply.Damaged) = handed ≡ false

there_true : (o : Option Remapping) → IsSome o → is_there o ≡ true
there_true (Some e) some = refl
there_true None some = absurd cc

there_false : (o : Option Remapping) → IsNone o → is_there o ≡ false
there_false (Some e) none = absurd cc
there_false None none = refl

-- what is there is something
pub there_some : (o : Option Remapping) → is_there o ≡ true → (e : Remapping) × (o ≡ Some e)
there_some (Some e) is = (e, refl)
there_some None is = absurd cc

cause_says : (s : Session) (t : Trace) (w : Writer) (r : Request) (a : ℕ) (answer : Reply) → Changes r → address_of r ≡ Some a → a < s.sizes.geometry.logical → MayAnswer s t w r answer
    → AnswerSays (set_in t w) (handed_in t w) (Some answer)
cause_says s t w (request.Write at bytes fua) a reply.Ok change has below cause = there_true (logged_of (done t) w) cause
cause_says s t w (request.Write at bytes fua) a reply.Range change has below cause = let here : at.0 ≡ a = same_Some _ _ has in absurd (omega (arith, here, below, cause))
cause_says s t w (request.Write at bytes fua) a reply.Stopped change has below (inl cause) = there_false (logged_of (done t) w) cause.2
cause_says s t w (request.Write at bytes fua) a reply.Stopped change has below (inr at_once) = there_false (logged_of (done t) w) at_once.1.unset
cause_says s t w (request.Write at bytes fua) a reply.NoSpace change has below cause = there_false (logged_of (entered t) w) cause.1
cause_says s t w (request.Write at bytes fua) a reply.Full change has below cause = there_false (logged_of (entered t) w) cause.1
cause_says s t w (request.Write at bytes fua) a reply.ReadFault change has below cause = there_false (logged_of (entered t) w) cause.1
cause_says s t w (request.Write at bytes fua) a reply.Damaged change has below cause = there_false (logged_of (entered t) w) cause.1
cause_says s t w (request.Write at bytes fua) a other change has below cause = absurd cause
cause_says s t w (request.Discard at) a reply.Ok change has below cause = there_true (logged_of (done t) w) cause
cause_says s t w (request.Discard at) a reply.Range change has below cause = let here : at.0 ≡ a = same_Some _ _ has in absurd (omega (arith, here, below, cause))
cause_says s t w (request.Discard at) a reply.Stopped change has below (inl cause) = there_false (logged_of (done t) w) cause.2
cause_says s t w (request.Discard at) a reply.Stopped change has below (inr at_once) = there_false (logged_of (done t) w) at_once.1.unset
cause_says s t w (request.Discard at) a reply.Full change has below cause = there_false (logged_of (entered t) w) cause.1
cause_says s t w (request.Discard at) a reply.ReadFault change has below cause = there_false (logged_of (entered t) w) cause.1
cause_says s t w (request.Discard at) a reply.Damaged change has below cause = there_false (logged_of (entered t) w) cause.1
cause_says s t w (request.Discard at) a other change has below cause = absurd cause
cause_says s t w (request.Read at) a answer change has below cause = absurd change
cause_says s t w request.Flush a answer change has below cause = absurd change

-- a flush changes no block
flush_changes : (r : Request) → request.Flush ≡ r → Changes r → ⊥
flush_changes r is change = subst Changes (sym is) change

unanswered_says : (is_set handed : Bool) (o : Option Reply) → IsNone o → AnswerSays is_set handed o
unanswered_says is_set handed o none = let is = none_of o none in rw is tt

-- what an answer of a write or a discard below the logical size says
pub answer_says : (s : Session) (t : Trace) (w : Writer) (r : Request) (a : ℕ) → RightTrace s t → request_at s.script w ≡ Some r → Changes r → address_of r ≡ Some a → a < s.sizes.geometry.logical
    → AnswerSays (set_in t w) (handed_in t w) (answer_of (lines t) w)
answer_says s [] w r a right asked change has below = tt
answer_says s (Says (Begin v) ∷ t) w r a right asked change has below = answer_says s t w r a right.2 asked change has below
answer_says s (Says (Answer v b) ∷ t) w r a right asked change has below = elim (same_tells v w) [
  | inl same ↦
      let cause = right.0.1 _ (subst (λ (x : Writer). request_at s.script x ≡ Some r) (sym same.1) asked) in
      rw same.0 (cause_says s t w r a b change has below (subst (λ (x : Writer). MayAnswer s t x r b) same.1 cause))
  | inr other ↦ rw other.0 (answer_says s t w r a right.2 asked change has below)
]
answer_says s (Flushes mark ∷ t) w r a right asked change has below = elim (same_tells mark.request w) [
  | inl same ↦
      let flush = subst (λ (x : Writer). request_at s.script x ≡ Some request.Flush) same.1 right.0.1 in
      absurd (flush_changes r (same_Some _ _ (sym flush ∙ asked)) change)
  | inr other ↦ rw other.0 (answer_says s t w r a right.2 asked change has below)
]
answer_says s (Enters (Remaps e) ∷ t) w r a right asked change has below = elim (same_tells e.request w) [
  | inl same ↦ unanswered_says _ _ _ (subst (λ (x : Writer). IsNone (answer_of (lines t) x)) same.1 right.0.is_open.unanswered)
  | inr other ↦ rw other.0 (answer_says s t w r a right.2 asked change has below)
]
answer_says s (Passes e ∷ t) w r a right asked change has below = elim (same_tells e.request w) [
  | inl same ↦ unanswered_says _ _ _ (subst (λ (x : Writer). IsNone (answer_of (lines t) x)) same.1 right.0.is_open.unanswered)
  | inr other ↦ rw (logged_between (remappings (applied t)) (passed t) e w other.0, logged_between (remappings (journaled t)) (passed t) e w other.0) (answer_says s t w r a right.2 asked change has below)
]
answer_says s (Sets (Remaps e) ∷ t) w r a right asked change has below = elim (same_tells e.request w) [
  | inl same ↦ unanswered_says _ _ _ (subst (λ (x : Writer). IsNone (answer_of (lines t) x)) same.1 right.0.is_open.unanswered)
  | inr other ↦ rw other.0 (answer_says s t w r a right.2 asked change has below)
]
answer_says s (Fails v c true ∷ t) w r a right asked change has below = answer_says s t w r a right.2 asked change has below
answer_says s (other ∷ t) w r a right asked change has below = answer_says s t w r a right.2 asked change has below

-- an entry whose slot is set was handed in
pub set_is_handed : (s : Session) (t : Trace) (w : Writer) → RightTrace s t → set_in t w ≡ true → handed_in t w ≡ true
set_is_handed s t w right set =
    let e = there_some (logged_of (done t) w) set in
    ap is_there (done_is_entered s t w e.0 right e.1)

-- the mark by an answer is the mark without it
mark_said : (is_set handed : Bool) (o : Option Reply) → (is_set ≡ true → handed ≡ true) → AnswerSays is_set handed o → mark_of o is_set handed ≡ mark_of None is_set handed
mark_said is_set handed None both says = refl
mark_said is_set handed (Some reply.Ok) both says = rw says refl
mark_said is_set true (Some reply.Stopped) both says = rw says refl
mark_said is_set false (Some reply.Stopped) both says = rw says refl
mark_said true handed (Some reply.Full) both says = let there = both refl in absurd cc
mark_said false handed (Some reply.Full) both says = rw says refl
mark_said is_set handed (Some reply.Range) both says = absurd says
mark_said is_set handed (Some (reply.Bytes bytes)) both says = absurd says
mark_said true handed (Some reply.NoSpace) both says = let there = both refl in absurd cc
mark_said false handed (Some reply.NoSpace) both says = rw says refl
mark_said true handed (Some reply.ReadFault) both says = let there = both refl in absurd cc
mark_said false handed (Some reply.ReadFault) both says = rw says refl
mark_said true handed (Some reply.Damaged) both says = let there = both refl in absurd cc
mark_said false handed (Some reply.Damaged) both says = rw says refl

-- the mark of a write or a discard in its history, without its answer
mark_without : (s : Session) (t : Trace) (w : Writer) (r : Request) (a : ℕ) → RightTrace s t → request_at s.script w ≡ Some r → Changes r → address_of r ≡ Some a → a < s.sizes.geometry.logical
    → mark_of (answer_of (lines t) w) (set_in t w) (handed_in t w) ≡ mark_of None (set_in t w) (handed_in t w)
mark_without s t w r a right asked change has below =
    mark_said (set_in t w) (handed_in t w) (answer_of (lines t) w) (set_is_handed s t w right) (answer_says s t w r a right asked change has below)

-- the entry of a place in its history, without its answer
entry_said : (s : Session) (t : Trace) (w : Writer) (r : Request) (a : ℕ) → RightTrace s t → request_at s.script w ≡ Some r → address_of r ≡ Some a → a < s.sizes.geometry.logical
    → model.entry_of (Some r) w (mark_of (answer_of (lines t) w) (set_in t w) (handed_in t w)) ≡ model.entry_of (Some r) w (mark_of None (set_in t w) (handed_in t w))
entry_said s t w (request.Read at) a right asked has below = refl
entry_said s t w request.Flush a right asked has below = refl
entry_said s t w (request.Discard at) a right asked has below =
    ap (λ (mark : Mark). model.entry_of (Some (request.Discard at)) w mark) (mark_without s t w (request.Discard at) a right asked tt has below)
entry_said s t w (request.Write at bytes fua) a right asked has below =
    ap (λ (mark : Mark). model.entry_of (Some (request.Write at bytes fua)) w mark) (mark_without s t w (request.Write at bytes fua) a right asked tt has below)

histories_said : (s : Session) (t : Trace) (desk : List DeskLine) (ps : List Placed) → RightTrace s t → AreDrawn s.sizes.zones s.sizes.geometry.logical s.script desk ps
    → histories_of s.script (lines t) (progress (set_in t) (handed_in t)) ps ≡ histories_of s.script [] (progress (set_in t) (handed_in t)) ps
histories_said s t desk [] right drawn = refl
histories_said s t desk (p ∷ ps) right drawn =
    let (r, a, asked, has, below, zone) = drawn.0.zone in
    let here = entry_said s t p.request r a right asked has below in
    rw (asked, here) (ap (λ (es : List HistoryEntry). model.entry_of (Some r) p.request (mark_of None (set_in t p.request) (handed_in t p.request)) ++ es) (histories_said s t desk ps right drawn.1))

-- The histories of a right trace: an entry is settled where its slot is set, else unsettled where its entry was handed in,
-- else refused, whatever its answer is.
pub histories_are : (s : Session) (t : Trace) → RightTrace s t → drawn_histories s t ≡ histories_of s.script [] (progress (set_in t) (handed_in t)) (places t)
histories_are s t right = histories_said s t (lines t) (places t) right (places_drawn s t right)
