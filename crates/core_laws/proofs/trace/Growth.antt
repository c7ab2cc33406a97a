-- A trace that grows by a happening: what its lists become, and what of them stays.
use Rattle.std.proofs.Common.{ℕ, ◌≡◌, ◌<◌, ◌≤◌, true, List, ◌∷◌, Some, IsNone, refl, subst, inl, inr, arith, ◌++◌, ◌∙◌}
use Rattle.core_laws.proofs.Common.{Answer as Reply, CommitMayFollow, Commits, DeskLine, Draws, Enters, EntryMayFollow, Fails, Flushes, Gift, GiftMayFollow, Gives, Happening, IsNextLine, IsWrite, Remapping, MayFollow, Placed, PlaceMayFollow, Says, Script, Session, Sets, SlotMayFollow, Trace, Writer, answer_of, before_begin, begun, committed, done, entered, eqb_tells, gifts, lines, logged_of, not_both, place_of, places, same_tells, Remaps, applied, durable, journaled, passed, remappings, Passes, PassMayFollow}
use Rattle.core_laws.proofs.lists.Between.{logged_between}
use Rattle.vdo_model.specs.declared.report.DeskLine.TheVariants.{Begin, Answer}

-- Lists of a trace that grew: the old one, or with one item more.

-- the desk log of a trace that grew
pub desk_grows : (P : List DeskLine → Type 0) (s : Session) (h : Happening) (t : Trace) → MayFollow s h t → P (lines t)
    → ((line : DeskLine) → IsNextLine s.sizes.depth s.script line (lines t) → P (line ∷ lines t)) → P (lines (h ∷ t))
desk_grows P s (Says (Begin w)) t may same grown = grown (Begin w) may
desk_grows P s (Says (Answer w a)) t may same grown = grown (Answer w a) may.0
desk_grows P s (Flushes mark) t may same grown = grown _ may.0
desk_grows P s (Fails w c true) t may same grown = same
desk_grows P s other t may same grown = same

-- the places of a trace that grew
pub places_grow : (P : List Placed → Type 0) (s : Session) (h : Happening) (t : Trace) → MayFollow s h t → P (places t)
    → ((p : Placed) → h ≡ Draws p → PlaceMayFollow s p t → P (p ∷ places t)) → P (places (h ∷ t))
places_grow P s (Draws p) t may same grown = grown p refl may
places_grow P s other t may same grown = same

-- the entered entries of a trace that grew
pub entered_grows : (P : List Remapping → Type 0) (s : Session) (h : Happening) (t : Trace) → MayFollow s h t → P (entered t)
    → ((e : Remapping) → h ≡ Enters (Remaps e) → EntryMayFollow s e t → P (e ∷ entered t))
    → ((e : Remapping) → h ≡ Passes e → PassMayFollow s e t → P (remappings (journaled t) ++ e ∷ passed t)) → P (entered (h ∷ t))
entered_grows P s (Enters (Remaps e)) t may same grown past = grown e refl may
entered_grows P s (Passes e) t may same grown past = past e refl may
entered_grows P s other t may same grown past = same

-- the committed ones
pub committed_grows : (P : List Remapping → Type 0) (s : Session) (h : Happening) (t : Trace) → MayFollow s h t → P (committed t)
    → ((e : Remapping) → h ≡ Commits (Remaps e) → CommitMayFollow s (Remaps e) t → P (e ∷ committed t))
    → ((e : Remapping) → h ≡ Passes e → PassMayFollow s e t → P (remappings (durable t) ++ e ∷ passed t)) → P (committed (h ∷ t))
committed_grows P s (Commits (Remaps e)) t may same grown past = grown e refl may
committed_grows P s (Passes e) t may same grown past = past e refl may
committed_grows P s other t may same grown past = same

-- the done ones
pub done_grows : (P : List Remapping → Type 0) (s : Session) (h : Happening) (t : Trace) → MayFollow s h t → P (done t)
    → ((e : Remapping) → h ≡ Sets (Remaps e) → SlotMayFollow s e t → P (e ∷ done t))
    → ((e : Remapping) → h ≡ Passes e → PassMayFollow s e t → P (remappings (applied t) ++ e ∷ passed t)) → P (done (h ∷ t))
done_grows P s (Sets (Remaps e)) t may same grown past = grown e refl may
done_grows P s (Passes e) t may same grown past = past e refl may
done_grows P s other t may same grown past = same

-- those that passed
pub passed_grows : (P : List Remapping → Type 0) (s : Session) (h : Happening) (t : Trace) → MayFollow s h t → P (passed t)
    → ((e : Remapping) → h ≡ Passes e → PassMayFollow s e t → P (e ∷ passed t)) → P (passed (h ∷ t))
passed_grows P s (Passes e) t may same grown = grown e refl may
passed_grows P s other t may same grown = same

-- the gifts
pub gifts_grow : (P : List Gift → Type 0) (s : Session) (h : Happening) (t : Trace) → MayFollow s h t → P (gifts t)
    → ((g : Gift) → h ≡ Gives g → GiftMayFollow s g t → P (g ∷ gifts t)) → P (gifts (h ∷ t))
gifts_grow P s (Gives g) t may same grown = grown g refl may
gifts_grow P s other t may same grown = same

-- Desk logs with a line more.

-- how many are begun never falls
pub begun_more : (n : ℕ) (line : DeskLine) (older : List DeskLine) → begun n older ≤ begun n (line ∷ older)
begun_more n (Begin v) older = elim (eqb_tells v.stream n) [ inl same ↦ rw same.0 (omega arith) | inr other ↦ rw other.0 (omega arith) ]
begun_more n (Answer v a) older = omega arith

-- a line more changes no answer
pub answer_keeps : (depth : ℕ) (script : Script) (line : DeskLine) (older : List DeskLine) (w : Writer) (a : Reply) → IsNextLine depth script line older
    → answer_of older w ≡ Some a → answer_of (line ∷ older) w ≡ Some a
answer_keeps depth script (Begin v) older w a next is = is
answer_keeps depth script (Answer v b) older w a next is = elim (same_tells v w) [
  | inl same ↦ absurd (not_both (answer_of older w) a (subst (λ (x : Writer). IsNone (answer_of older x)) same.1 next.1) is)
  | inr other ↦ rw other.0 is
]

-- and nothing of what stands before a begin
pub before_keeps : (depth : ℕ) (script : Script) (line : DeskLine) (older : List DeskLine) (w : Writer) → IsNextLine depth script line older
    → w.number < begun w.stream older → before_begin (line ∷ older) w ≡ before_begin older w
before_keeps depth script (Begin v) older w next below = elim (same_tells v w) [
  | inl same ↦ let number : w.number ≡ begun w.stream older = subst (λ (x : Writer). x.number ≡ begun x.stream older) same.1 next.0 in absurd (omega arith)
  | inr other ↦ rw other.0 refl
]
before_keeps depth script (Answer v a) older w next below = refl

-- What stays when a trace grows.

-- a begun request stays begun
pub begun_stays : (s : Session) (h : Happening) (t : Trace) (w : Writer) → MayFollow s h t → w.number < begun w.stream (lines t) → w.number < begun w.stream (lines (h ∷ t))
begun_stays s h t w may below =
    desk_grows (λ desk. w.number < begun w.stream desk) s h t may below (λ line next. let more = begun_more w.stream line (lines t) in omega (arith, below, more))

-- an answer stays
pub answer_stays : (s : Session) (h : Happening) (t : Trace) (w : Writer) (a : Reply) → MayFollow s h t → answer_of (lines t) w ≡ Some a → answer_of (lines (h ∷ t)) w ≡ Some a
answer_stays s h t w a may is =
    desk_grows (λ desk. answer_of desk w ≡ Some a) s h t may is (λ line next. answer_keeps s.sizes.depth s.script line (lines t) w a next is)

-- what stands before a begin stays
pub before_stays : (s : Session) (h : Happening) (t : Trace) (w : Writer) → MayFollow s h t → w.number < begun w.stream (lines t) → before_begin (lines (h ∷ t)) w ≡ before_begin (lines t) w
before_stays s h t w may below =
    desk_grows (λ desk. before_begin desk w ≡ before_begin (lines t) w) s h t may refl (λ line next. before_keeps s.sizes.depth s.script line (lines t) w next below)

-- a place stays
pub place_stays : (s : Session) (h : Happening) (t : Trace) (w : Writer) (p : Placed) → MayFollow s h t → place_of (places t) w ≡ Some p → place_of (places (h ∷ t)) w ≡ Some p
place_stays s h t w p may is = places_grow (λ ps. place_of ps w ≡ Some p) s h t may is (λ q drew next. elim (same_tells q.request w) [
  | inl same ↦ absurd (not_both (place_of (places t) w) p (subst (λ (x : Writer). IsNone (place_of (places t) x)) same.1 next.next.once) is)
  | inr other ↦ rw other.0 is
])

-- an entered entry stays entered
pub entered_stays : (s : Session) (h : Happening) (t : Trace) (w : Writer) (e : Remapping) → MayFollow s h t → logged_of (entered t) w ≡ Some e → logged_of (entered (h ∷ t)) w ≡ Some e
entered_stays s h t w e may is = entered_grows (λ es. logged_of es w ≡ Some e) s h t may is (λ f came next. elim (same_tells f.request w) [
  | inl same ↦ absurd (not_both (logged_of (entered t) w) e (subst (λ (x : Writer). IsNone (logged_of (entered t) x)) same.1 next.once) is)
  | inr other ↦ rw other.0 is
]) (λ f came next. elim (same_tells f.request w) [
  | inl same ↦ absurd (not_both (logged_of (entered t) w) e (subst (λ (x : Writer). IsNone (logged_of (entered t) x)) same.1 next.once) is)
  | inr other ↦ logged_between (remappings (journaled t)) (passed t) f w other.0 ∙ is
])

-- an entry of a write stays one
pub write_stays : (s : Session) (h : Happening) (t : Trace) (e : Remapping) → MayFollow s h t → IsWrite s t e → IsWrite s (h ∷ t) e
write_stays s h t e may is = record { asks = is.asks; bytes = is.bytes; asked = is.asked; maps = is.maps; placed = place_stays s h t e.request _ may is.placed }
