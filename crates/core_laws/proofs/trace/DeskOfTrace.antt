-- The desk log of a right trace is well formed, and each done entry is a committed one, each committed one an entered
-- one.
use Rattle.std.proofs.Common.{ℕ, ◌≡◌, ◌<◌, ◌==◌, List, [], ◌∷◌, ◌++◌, append_assoc, Some, IsNone, ap, refl, sym, ◌∙◌, subst, inl, inr, arith, false}
use Rattle.core_laws.proofs.Common.{all_of, AllByRecursion, Answer as Reply, answer_of, begun, cases_Bool, committed, Commits, DeskLine, done, each_at, entered, eqb_tells, every-map, filled, Happening, IsDeskLog, IsFair, IsWrite, lines, Remapping, logged_of, MayFollow, none_is, not_both, of_address, OnBlock, option_cases, RightTrace, same_self, same_Some, same_tells, Script, sealed, Seals, Session, Sets, Shown, Trace, Writer, Logged, Makes, Remaps, remappings, durable, journaled, Enters, new_of, applied, passed, PassMayFollow, MapsTo, same_writer}
use Rattle.data_vio.specs.declared.items.Asks.TheVariants.{Discard}
use Rattle.core_laws.proofs.lists.Between.{every_between, logged_between, logged_there}
use Rattle.vdo_model.specs.declared.report.DeskLine.TheVariants.{Begin, Answer}
use Rattle.core_laws.proofs.trace.Growth.{desk_grows, entered_grows, committed_grows, done_grows, begun_more, write_stays}
use Rattle.core_laws.proofs.kept.StandsOn.{entered_parts}
use Rattle.blk_base.specs.Regions.{IsDataBlock}

-- the desk log is well formed
pub desk_log_right : (s : Session) (t : Trace) → RightTrace s t → IsDeskLog s.sizes.depth s.script (lines t)
desk_log_right s [] right = tt
desk_log_right s (h ∷ t) right =
    let rest = desk_log_right s t right.2 in
    desk_grows (λ desk. IsDeskLog s.sizes.depth s.script desk) s h t right.0 rest (λ line next. (next, rest))

-- what is answered was begun
pub answered_begun : (depth : ℕ) (script : Script) (desk : List DeskLine) (w : Writer) (a : Reply) → IsDeskLog depth script desk → answer_of desk w ≡ Some a → w.number < begun w.stream desk
answered_begun depth script [] w a log is = absurd cc
answered_begun depth script (Begin v ∷ older) w a log is =
    let below = answered_begun depth script older w a log.1 is in
    let more = begun_more w.stream (Begin v) older in
    omega (arith, below, more)
answered_begun depth script (Answer v b ∷ older) w a log is = elim (same_tells v w) [
  | inl same ↦ subst (λ (x : Writer). x.number < begun x.stream older) same.1 log.0.0
  | inr other ↦ answered_begun depth script older w a log.1 (rw other.0 at is)
]

-- what stands on the device at the end of a trace, where the session is fair
pub shown_of : (s : Session) (t : Trace) → RightTrace s t → IsFair s t → Shown s t
shown_of s [] right = right
shown_of s (h ∷ t) right = right.1

-- Entries that were handed in.

-- the entry of a request
abbrev pub IsKnown : List Remapping → Remapping → Type 0
IsKnown es e = logged_of es e.request ≡ Some e

-- no two entries are of one request
abbrev pub AreApart : List Remapping → Type 0
AreApart [] = Unit {0}
AreApart (e ∷ older) = IsNone (logged_of older e.request) × AreApart older

-- what holds of all entries holds of a request's
pub logged_has : (P : Remapping → Type 0) (es : List Remapping) (w : Writer) (e : Remapping) → logged_of es w ≡ Some e → AllByRecursion P es → P e × (e.request ≡ w)
logged_has P [] w e is all = absurd cc
logged_has P (f ∷ es) w e is all = elim (same_tells f.request w) [
  | inl same ↦
      let here : Some f ≡ Some e = rw same.0 at is in
      let f_is = same_Some f e here in
      (subst P f_is all.0, subst (λ (x : Remapping). x.request ≡ w) f_is same.1)
  | inr other ↦ logged_has P es w e (rw other.0 at is) all.1
]

-- what holds of all holds of those of an address
pub each_of_address : (P : Remapping → Type 0) (a : ℕ) (es : List Remapping) → AllByRecursion P es → AllByRecursion P (of_address a es)
each_of_address P a [] all = tt
each_of_address P a (e ∷ es) all = elim (cases_Bool (e.at.0 == a)) [
  | inl taken ↦ rw taken (all.0, each_of_address P a es all.1)
  | inr passed ↦ rw passed (each_of_address P a es all.1)
]

-- Those of an address are those of the newer part before those of the older one.
pub of_address_append : (a : ℕ) (newer older : List Remapping) → of_address a (newer ++ older) ≡ of_address a newer ++ of_address a older
of_address_append a [] older = refl
of_address_append a (e ∷ newer) older = elim (cases_Bool (e.at.0 == a)) [
  | inl taken ↦ rw taken (ap (λ (xs : List Remapping). e ∷ xs) (of_address_append a newer older))
  | inr passed ↦ rw passed (of_address_append a newer older)
]

-- The remappings of both parts.
pub remappings_append : (newer older : List Logged) → remappings (newer ++ older) ≡ remappings newer ++ remappings older
remappings_append [] older = refl
remappings_append (Remaps e ∷ newer) older = ap (λ (xs : List Remapping). e ∷ xs) (remappings_append newer older)
remappings_append (Makes p ∷ newer) older = remappings_append newer older

-- and others behind them
pub both_parts : (newer older : List Logged) (behind : List Remapping) → remappings (newer ++ older) ++ behind ≡ remappings newer ++ (remappings older ++ behind)
both_parts newer older behind = ap (λ (es : List Remapping). es ++ behind) (remappings_append newer older) ∙ append_assoc (remappings newer) (remappings older) behind

pub changes_append : (a : ℕ) (newer older : List Logged) → of_address a (remappings (newer ++ older)) ≡ of_address a (remappings newer) ++ of_address a (remappings older)
changes_append a newer older = ap (of_address a) (remappings_append newer older) ∙ of_address_append a (remappings newer) (remappings older)

-- each of them is of the address
pub are_of_address : (a : ℕ) (es : List Remapping) → AllByRecursion (λ (e : Remapping). e.at.0 ≡ a) (of_address a es)
are_of_address a [] = tt
are_of_address a (e ∷ es) = elim (eqb_tells e.at.0 a) [
  | inl same ↦ rw same.0 (same.1, are_of_address a es)
  | inr other ↦ rw other.0 (are_of_address a es)
]

-- each of a list without doubles is the one of its request
pub apart_known : (es : List Remapping) → AreApart es → AllByRecursion (IsKnown es) es
apart_known [] apart = tt
apart_known (e ∷ es) apart = (rw (same_self e.request) refl, every-map {P = IsKnown es} {Q = IsKnown (e ∷ es)} later es (apart_known es apart.1))
  where
    later : (f : Remapping) → IsKnown es f → IsKnown (e ∷ es) f
    later f is = elim (same_tells e.request f.request) [
      | inl same ↦ absurd (not_both (logged_of es f.request) f (subst (λ (x : Writer). IsNone (logged_of es x)) same.1 apart.0) is)
      | inr other ↦ rw other.0 is
    ]

-- one more of another request, between them
apart_between : (xs ys : List Remapping) (e : Remapping) → IsNone (logged_of (xs ++ ys) e.request) → AreApart (xs ++ ys) → AreApart (xs ++ e ∷ ys)
apart_between [] ys e none apart = (none, apart)
apart_between (x ∷ xs) ys e none apart = elim (same_tells x.request e.request) [
  | inl same ↦ absurd (let some : IsNone (Some x) = rw same.0 at none in cc)
  | inr other ↦
      let off : same_writer e.request x.request ≡ false = elim (same_tells e.request x.request) [ inl is ↦ absurd (other.1 (sym is.1)) | inr not ↦ not.0 ] in
      (subst IsNone (sym (logged_between xs ys e x.request off)) apart.0, apart_between xs ys e (rw other.0 at none) apart.1)
]

-- no two entered entries are of one request
pub entered_apart : (s : Session) (t : Trace) → RightTrace s t → AreApart (entered t)
entered_apart s [] right = tt
entered_apart s (h ∷ t) right =
    let rest = entered_apart s t right.2 in
    entered_grows AreApart s h t right.0 rest (λ e came next. (next.once, rest)) (λ e came next. apart_between (remappings (journaled t)) (passed t) e next.once rest)

-- the committed entries are the oldest of those in sealed blocks
pub committed_sealed : (s : Session) (t : Trace) → RightTrace s t → (rest : List Logged) × (all_of (sealed t) ≡ rest ++ durable t)
committed_sealed s [] right = ([], refl)
committed_sealed s (Commits e ∷ t) right = (right.0.rest, right.0.next)
committed_sealed s (Seals ∷ t) right = (filled t, ap (λ (es : List Logged). filled t ++ es) right.0.all_committed)
committed_sealed s (other ∷ t) right = committed_sealed s t right.2

-- and so of those that were handed in
pub durable_part : (s : Session) (t : Trace) → RightTrace s t → (newer : List Logged) × (journaled t ≡ newer ++ durable t)
durable_part s t right =
    let (rest, all) = committed_sealed s t right in
    (filled t ++ rest, entered_parts t ∙ ap (λ (es : List Logged). filled t ++ es) all ∙ sym (append_assoc (filled t) rest (durable t)))

pub committed_part : (s : Session) (t : Trace) → RightTrace s t → (newer : List Remapping) × (entered t ≡ newer ++ committed t)
committed_part s t right =
    let part = durable_part s t right in
    (remappings part.0, ap (λ (es : List Logged). remappings es ++ passed t) part.1 ∙ both_parts part.0 (durable t) (passed t))

-- what holds of a list without its first element holds of each of its ends
end_has : (P : List Remapping → Type 0) → ((e : Remapping) (es : List Remapping) → P (e ∷ es) → P es) → (newer older : List Remapping) → P (newer ++ older) → P older
end_has P tail [] older all = all
end_has P tail (e ∷ newer) older all = end_has P tail newer older (tail e (newer ++ older) all)

-- what holds of all entered entries holds of all committed ones
pub each_committed : (P : List Remapping → Type 0) (s : Session) (t : Trace) → ((e : Remapping) (es : List Remapping) → P (e ∷ es) → P es) → RightTrace s t → P (entered t) → P (committed t)
each_committed P s t tail right all = let part = committed_part s t right in end_has P tail part.0 (committed t) (subst P part.1 all)

-- nor two committed ones
pub committed_apart : (s : Session) (t : Trace) → RightTrace s t → AreApart (committed t)
committed_apart s t right = each_committed AreApart s t (λ e es apart. apart.1) right (entered_apart s t right)

-- what each entered entry has, each committed one has
pub all_committed : (P : Remapping → Type 0) (s : Session) (t : Trace) → RightTrace s t → AllByRecursion P (entered t) → AllByRecursion P (committed t)
all_committed P s t right all = each_committed (AllByRecursion P) s t (λ e es each. each.1) right all

-- an entered entry is that of its request
pub entered_known : (s : Session) (t : Trace) → RightTrace s t → AllByRecursion (IsKnown (entered t)) (entered t)
entered_known s t right = apart_known (entered t) (entered_apart s t right)

-- each committed entry is an entered one
pub committed_entered : (s : Session) (t : Trace) → RightTrace s t → AllByRecursion (IsKnown (entered t)) (committed t)
committed_entered s t right = all_committed (IsKnown (entered t)) s t right (entered_known s t right)

-- a committed entry is that of its request
pub committed_known : (s : Session) (t : Trace) → RightTrace s t → AllByRecursion (IsKnown (committed t)) (committed t)
committed_known s t right = apart_known (committed t) (committed_apart s t right)

-- a request whose entry wasn't handed in has none committed
none_committed : (s : Session) (t : Trace) (w : Writer) → RightTrace s t → IsNone (logged_of (entered t) w) → IsNone (logged_of (committed t) w)
none_committed s t w right none = elim (option_cases (logged_of (committed t) w)) [
  | inl is ↦ none_is _ is
  | inr some ↦
      let known = logged_has (IsKnown (entered t)) (committed t) w some.0 some.1 (committed_entered s t right) in
      absurd (not_both (logged_of (entered t) w) some.0 none (subst (λ (x : Writer). logged_of (entered t) x ≡ Some some.0) known.1 known.0))
]

-- what was handed in before an entry is committed
pub before_commit : (t : Trace) (e : Logged) (rest : List Logged) → all_of (sealed t) ≡ rest ++ e ∷ durable t → entered t ≡ remappings (filled t ++ rest) ++ (remappings (e ∷ durable t) ++ passed t)
before_commit t e rest next =
    ap (λ (es : List Logged). remappings es ++ passed t) (entered_parts t ∙ ap (λ (es : List Logged). filled t ++ es) next ∙ sym (append_assoc (filled t) rest (e ∷ durable t)))
    ∙ both_parts (filled t ++ rest) (e ∷ durable t) (passed t)

-- a committed entry stays committed
pub committed_stays : (s : Session) (h : Happening) (t : Trace) (w : Writer) (e : Remapping) → RightTrace s t → MayFollow s h t → logged_of (committed t) w ≡ Some e → logged_of (committed (h ∷ t)) w ≡ Some e
committed_stays s h t w e right may is = committed_grows (λ es. logged_of es w ≡ Some e) s h t may is (λ f came next.
    let parts : entered t ≡ remappings (filled t ++ next.rest) ++ (f ∷ committed t) = before_commit t (Remaps f) next.rest next.next in
    let apart : AreApart (f ∷ committed t) = end_has AreApart (λ g es all. all.1) (remappings (filled t ++ next.rest)) (f ∷ committed t) (subst AreApart parts (entered_apart s t right)) in
    elim (same_tells f.request w) [
      | inl same ↦ absurd (not_both (logged_of (committed t) w) e (subst (λ (x : Writer). IsNone (logged_of (committed t) x)) same.1 apart.0) is)
      | inr other ↦ rw other.0 is
    ]) (λ f came next. elim (same_tells f.request w) [
      | inl same ↦ absurd (not_both (logged_of (committed t) w) e (subst (λ (x : Writer). IsNone (logged_of (committed t) x)) same.1 (none_committed s t f.request right next.once)) is)
      | inr other ↦ logged_between (remappings (durable t)) (passed t) f w other.0 ∙ is
    ])

-- each done entry is a committed one
pub done_committed : (s : Session) (t : Trace) → RightTrace s t → AllByRecursion (IsKnown (committed t)) (done t)
done_committed s [] right = tt
done_committed s (h ∷ t) right =
    let stays : (e : Remapping) → IsKnown (committed t) e → IsKnown (committed (h ∷ t)) e = λ e is. committed_stays s h t e.request e right.2 right.0 is in
    let rest = every-map {P = IsKnown (committed t)} {Q = IsKnown (committed (h ∷ t))} stays (done t) (done_committed s t right.2) in
    done_grows (AllByRecursion (IsKnown (committed (h ∷ t)))) s h t right.0 rest (λ e came next.
    let known = each_of_address (IsKnown (committed t)) e.at.0 (committed t) (committed_known s t right.2) in
    (stays e (each_at (IsKnown (committed t)) e _ _ next.is_committed.last known).0, rest))
    (λ e came next. every_between (IsKnown (committed (h ∷ t))) (remappings (applied t)) (passed t) e
    (subst (λ (g : Happening). IsKnown (committed (g ∷ t)) e) (sym came) (logged_there (remappings (durable t)) (passed t) e (none_committed s t e.request right.2 next.once))) rest)

-- what holds of all committed entries holds of all done ones
pub all_done : (P : Remapping → Type 0) (s : Session) (t : Trace) → RightTrace s t → AllByRecursion P (committed t) → AllByRecursion P (done t)
all_done P s t right all = every-map {P = IsKnown (committed t)} {Q = P} (λ e is. (logged_has P (committed t) e.request e is all).0) (done t) (done_committed s t right)

-- each done entry is an entered one
pub done_entered : (s : Session) (t : Trace) → RightTrace s t → AllByRecursion (IsKnown (entered t)) (done t)
done_entered s t right = all_done (IsKnown (entered t)) s t right (committed_entered s t right)

-- the same by the names of requests
pub done_is_committed : (s : Session) (t : Trace) (w : Writer) (e : Remapping) → RightTrace s t → logged_of (done t) w ≡ Some e → logged_of (committed t) w ≡ Some e
done_is_committed s t w e right is =
    let known = logged_has (IsKnown (committed t)) (done t) w e is (done_committed s t right) in
    subst (λ (x : Writer). logged_of (committed t) x ≡ Some e) known.1 known.0

-- a committed entry is an entered one
pub committed_is_entered : (s : Session) (t : Trace) (w : Writer) (e : Remapping) → RightTrace s t → logged_of (committed t) w ≡ Some e → logged_of (entered t) w ≡ Some e
committed_is_entered s t w e right is =
    let known = logged_has (IsKnown (entered t)) (committed t) w e is (committed_entered s t right) in
    subst (λ (x : Writer). logged_of (entered t) x ≡ Some e) known.1 known.0

-- a done entry is an entered one
pub done_is_entered : (s : Session) (t : Trace) (w : Writer) (e : Remapping) → RightTrace s t → logged_of (done t) w ≡ Some e → logged_of (entered t) w ≡ Some e
done_is_entered s t w e right is = committed_is_entered s t w e right (done_is_committed s t w e right is)

-- the slot of a request is set once
pub done_once : (s : Session) (t : Trace) (e : Remapping) → RightTrace s t → MayFollow s (Sets (Remaps e)) t → IsNone (logged_of (done t) e.request)
done_once s t e right may = elim (option_cases (logged_of (done t) e.request)) [
  | inl none ↦ none_is _ none
  | inr some ↦
      let P : Remapping → Type 0 = λ f. f.at.0 ≡ e.at.0 → f.place < e.place in
      let below = (logged_has P (done t) e.request some.0 some.1 may.below.writes).0 in
      let known = each_of_address (IsKnown (committed t)) e.at.0 (committed t) (committed_known s t right) in
      let mine = (each_at (IsKnown (committed t)) e _ _ may.is_committed.last known).0 in
      let same : some.0 ≡ e = same_Some _ _ (sym (done_is_committed s t e.request some.0 right some.1) ∙ mine) in
      let less : e.place < e.place = subst P same below refl in
      absurd (omega (arith, less))
]

-- a done entry stays done
pub done_stays : (s : Session) (h : Happening) (t : Trace) (w : Writer) (e : Remapping) → RightTrace s t → MayFollow s h t → logged_of (done t) w ≡ Some e → logged_of (done (h ∷ t)) w ≡ Some e
done_stays s h t w e right may is = done_grows (λ es. logged_of es w ≡ Some e) s h t may is (λ f came next. elim (same_tells f.request w) [
  | inl same ↦ absurd (not_both (logged_of (done t) w) e (subst (λ (x : Writer). IsNone (logged_of (done t) x)) same.1 (done_once s t f right next)) is)
  | inr other ↦ rw other.0 is
]) (λ f came next. elim (same_tells f.request w) [
  | inl same ↦ absurd (not_both (logged_of (entered t) w) e (subst (λ (x : Writer). IsNone (logged_of (entered t) x)) same.1 next.once) (done_is_entered s t w e right is))
  | inr other ↦ logged_between (remappings (applied t)) (passed t) f w other.0 ∙ is
])

-- a discard that passes maps its address to nothing
pub pass_write : (s : Session) (t : Trace) (e : Remapping) → PassMayFollow s e t → IsWrite s t e
pass_write s t e may = record { asks = Discard; bytes = []; asked = may.asked; maps = subst (MapsTo Discard []) (sym may.maps.1) tt; placed = may.placed }

-- each entry is of a write that has its place
pub entered_writes : (s : Session) (t : Trace) → RightTrace s t → AllByRecursion (IsWrite s t) (entered t)
entered_writes s [] right = tt
entered_writes s (h ∷ t) right =
    let stays : (e : Remapping) → IsWrite s t e → IsWrite s (h ∷ t) e = λ e is. write_stays s h t e right.0 is in
    let rest = every-map {P = IsWrite s t} {Q = IsWrite s (h ∷ t)} stays (entered t) (entered_writes s t right.2) in
    entered_grows (AllByRecursion (IsWrite s (h ∷ t))) s h t right.0 rest (λ e came next. (stays e next.is_write, rest))
    (λ e came next. every_between (IsWrite s (h ∷ t)) (remappings (journaled t)) (passed t) e (stays e (pass_write s t e next)) rest)

-- so is each committed one
pub committed_writes : (s : Session) (t : Trace) → RightTrace s t → AllByRecursion (IsWrite s t) (committed t)
committed_writes s t right = all_committed (IsWrite s t) s t right (entered_writes s t right)

-- and each done one
pub done_writes : (s : Session) (t : Trace) → RightTrace s t → AllByRecursion (IsWrite s t) (done t)
done_writes s t right = all_done (IsWrite s t) s t right (committed_writes s t right)

-- and each entry maps its address to a data block, or to none
abbrev pub HasData : Session → Remapping → Type 0
HasData s e = OnBlock (λ x. IsDataBlock s.sizes.geometry x.0) e.new

-- so does each entry, also of a page
abbrev pub HasBlock : Session → Logged → Type 0
HasBlock s e = OnBlock (λ x. IsDataBlock s.sizes.geometry x.0) (new_of e)

pub journaled_data : (s : Session) (t : Trace) → RightTrace s t → AllByRecursion (HasBlock s) (journaled t)
journaled_data s [] right = tt
journaled_data s (Enters (Remaps e) ∷ t) right = (right.0.new_data, journaled_data s t right.2)
journaled_data s (Enters (Makes p) ∷ t) right = (right.0.new_data, journaled_data s t right.2)
journaled_data s (other ∷ t) right = journaled_data s t right.2

abbrev pub AreData : Session → List Remapping → Type 0
AreData s es = AllByRecursion (HasData s) es

pub entered_data : (s : Session) (t : Trace) → RightTrace s t → AreData s (entered t)
entered_data s [] right = tt
entered_data s (h ∷ t) right =
    let rest = entered_data s t right.2 in
    entered_grows (AreData s) s h t right.0 rest (λ e came next. (next.new_data, rest))
    (λ e came next. every_between (HasData s) (remappings (journaled t)) (passed t) e (subst (OnBlock (λ x. IsDataBlock s.sizes.geometry x.0)) (sym next.maps.1) tt) rest)

pub committed_data : (s : Session) (t : Trace) → RightTrace s t → AreData s (committed t)
committed_data s t right = all_committed (HasData s) s t right (entered_data s t right)
