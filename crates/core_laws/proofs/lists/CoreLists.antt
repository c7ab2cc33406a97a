-- Lists of items, of desk lines, of journal entries, and of locks.
use Rattle.std.proofs.Common.{◌≡◌, ℕ, zero, suc, ◌+◌, ◌<◌, List, [], ◌∷◌, length, refl, ap, arith, ◌≤◌, true, Option, Some, None, IsSome, IsNone, ◌++◌, sym, ◌∙◌, subst, inl, inr, ◌==◌, ◌≢◌, ◌||◌, Bool, false}
use Rattle.core_laws.proofs.Common.{newest, AllByRecursion, Answer as Reply, DeskLine, IsDeskLog, Item, Lock, Remapping, Rises, Script, Vio, Writer, answer_of, before_begin, begun, cases_Bool, eqb_tells, every-append, lock_weight, logged_of, none_of, of_address, same_Some, same_tells, total, total-append}
use Rattle.core_model.specs.Steps.{posted}
use Rattle.vdo_model.specs.declared.report.DeskLine.TheVariants.{Begin, Answer}
use Rattle.vdo_model.specs.Stops.{is_answered, before_answer}
use Rattle.core_laws.proofs.trace.Growth.{begun_more, answer_keeps, before_keeps}
use Rattle.core_model.specs.Reports.{is_there}
use Rattle.core_laws.proofs.trace.AnswersOfTrace.{there_some}
use Rattle.core_laws.proofs.trace.DeskOfTrace.{AreApart}
use Rattle.core_model.specs.LogicalRules.{is_held, without, first_for, but_first_for, all_for, none_for}

-- Lists of lists of items, after an item was posted to one of them.

pub total-posted : (w : Item → ℕ) (to : ℕ) (x : Item) (lists : List (List Item)) → to < length lists → total (total w) (posted to x lists) ≡ total (total w) lists + w x
total-posted w to x [] h = absurd (omega arith)
total-posted w zero x (l ∷ ls) h = omega (arith, total-append w l (x ∷ []))
total-posted w (suc to) x (l ∷ ls) h = omega (arith, total-posted w to x ls (omega arith))

pub every-posted : (P : Item → Type 0) (to : ℕ) (x : Item) (lists : List (List Item)) → AllByRecursion (AllByRecursion P) lists → P x → AllByRecursion (AllByRecursion P) (posted to x lists)
every-posted P to x [] h k = tt
every-posted P zero x (l ∷ ls) h k = (every-append P l (x ∷ []) h.0 (k, tt), h.1)
every-posted P (suc to) x (l ∷ ls) h k = (h.0, every-posted P to x ls h.1 k)

pub length-posted : (to : ℕ) (x : Item) (lists : List (List Item)) → length (posted to x lists) ≡ length lists
length-posted to x [] = refl
length-posted zero x (l ∷ ls) = refl
length-posted (suc to) x (l ∷ ls) = ap suc (length-posted to x ls)

-- A well-formed desk log over an older part of it.

-- Not fewer are begun with later lines.
pub begun_later : (newer older : List DeskLine) (stream : ℕ) → begun stream older ≤ begun stream (newer ++ older)
begun_later [] older stream = omega arith
begun_later (line ∷ newer) older stream =
    let rest = begun_later newer older stream in let step = begun_more stream line (newer ++ older) in omega (arith, rest, step)

-- An answer stays.
pub answer_later : (depth : ℕ) (script : Script) (newer older : List DeskLine) (w : Writer) (a : Reply) → IsDeskLog depth script (newer ++ older)
    → answer_of older w ≡ Some a → answer_of (newer ++ older) w ≡ Some a
answer_later depth script [] older w a log is = is
answer_later depth script (line ∷ newer) older w a log is = answer_keeps depth script line (newer ++ older) w a log.0 (answer_later depth script newer older w a log.1 is)

-- What stands before a request's Begin stays.
pub before_later : (depth : ℕ) (script : Script) (newer older : List DeskLine) (w : Writer) → IsDeskLog depth script (newer ++ older)
    → w.number < begun w.stream older → before_begin (newer ++ older) w ≡ before_begin older w
before_later depth script [] older w log is = refl
before_later depth script (line ∷ newer) older w log is =
    let more = begun_later newer older w.stream in
    before_keeps depth script line (newer ++ older) w log.0 (omega (arith, is, more)) ∙ before_later depth script newer older w log.1 is

before_begin_part : (desk : List DeskLine) (w : Writer) → (newer : List DeskLine) × (desk ≡ newer ++ before_begin desk w)
before_begin_part [] w = ([], refl)
before_begin_part (Answer v a ∷ older) w = let rest = before_begin_part older w in (Answer v a ∷ rest.0, ap (λ (xs : List DeskLine). Answer v a ∷ xs) rest.1)
before_begin_part (Begin v ∷ older) w = elim (same_tells v w) [
  | inl same ↦ rw same.0 (Begin v ∷ [], refl)
  | inr other ↦ let rest = before_begin_part older w in rw other.0 (Begin v ∷ rest.0, ap (λ (xs : List DeskLine). Begin v ∷ xs) rest.1)
]

the_answer : (o : Option Reply) → is_answered o ≡ true → (a : Reply) × (o ≡ Some a)
the_answer None is = absurd cc
the_answer (Some a) is = (a, refl)

-- What was answered before a request's Begin is answered.
pub answered_before : (depth : ℕ) (script : Script) (desk : List DeskLine) (w v : Writer) → IsDeskLog depth script desk
    → is_answered (answer_of (before_begin desk w) v) ≡ true → (a : Reply) × (answer_of desk v ≡ Some a)
answered_before depth script desk w v log is =
    let part = before_begin_part desk w in
    let found = the_answer (answer_of (before_begin desk w) v) is in (
      found.0,
      subst (λ (ls : List DeskLine). answer_of ls v ≡ Some found.0) (sym part.1)
          (answer_later depth script part.0 (before_begin desk w) v found.0 (subst (IsDeskLog depth script) part.1 log) found.1),
    )

-- What stands before an answer has all that stood when there was none.
pub before_answer_part : (newer older : List DeskLine) (w : Writer) → IsNone (answer_of older w) → IsSome (answer_of (newer ++ older) w)
    → (more : List DeskLine) × (before_answer (newer ++ older) w ≡ more ++ older)
before_answer_part [] older w none some = absurd cc
before_answer_part (Begin v ∷ newer) older w none some = before_answer_part newer older w none some
before_answer_part (Answer v a ∷ newer) older w none some = elim (same_tells v w) [
  | inl same ↦ rw same.0 (newer, refl)
  | inr other ↦ let rest : IsSome (answer_of (newer ++ older) w) = rw other.0 at some in rw other.0 (before_answer_part newer older w none rest)
]

-- Lists of entries with an older part, and whether they have one of a request.

-- What holds of each item of a list holds of each item of its older part ..
pub each_older : {X : Type 0} (P : X → Type 0) (newer older : List X) → AllByRecursion P (newer ++ older) → AllByRecursion P older
each_older P [] older all = all
each_older P (x ∷ newer) older all = each_older P newer older all.1

-- .. and of its newer part ..
pub each_newer : {X : Type 0} (P : X → Type 0) (newer older : List X) → AllByRecursion P (newer ++ older) → AllByRecursion P newer
each_newer P [] older all = tt
each_newer P (x ∷ newer) older all = (all.0, each_newer P newer older all.1)

-- there is an entry of this request
abbrev pub Has : List Remapping → Writer → Type 0
Has es w = is_there (logged_of es w) ≡ true

-- Where one is found there is one.
pub has_it : (es : List Remapping) (w : Writer) (e : Remapping) → logged_of es w ≡ Some e → Has es w
has_it es w e is = rw is refl

-- One of the older part is one of the whole.
pub has_older : (newer older : List Remapping) (w : Writer) → Has older w → Has (newer ++ older) w
has_older [] older w has = has
has_older (e ∷ newer) older w has = elim (same_tells e.request w) [
  | inl same ↦ rw same.0 refl
  | inr other ↦ rw other.0 (has_older newer older w has)
]

-- One of an address is one of the whole.
pub has_at : (a : ℕ) (es : List Remapping) (w : Writer) → Has (of_address a es) w → Has es w
has_at a [] w has = has
has_at a (e ∷ older) w has = elim (same_tells e.request w) [
  | inl same ↦ rw same.0 refl
  | inr other ↦ elim (cases_Bool (e.at.0 == a)) [
    | inl taken ↦ let rest : Has (of_address a older) w = rw (taken, other.0) at has in rw other.0 (has_at a older w rest)
    | inr passed ↦ let rest : Has (of_address a older) w = rw passed at has in rw other.0 (has_at a older w rest)
  ]
]

-- Where no two are of one request, not both parts have one.
pub not_in_both : (newer older : List Remapping) (w : Writer) → AreApart (newer ++ older) → Has newer w → Has older w → ⊥
not_in_both [] older w apart first second = absurd cc
not_in_both (e ∷ newer) older w apart first second = elim (same_tells e.request w) [
  | inl same ↦
      let found = there_some (logged_of (newer ++ older) w) (has_older newer older w second) in
      let none : logged_of (newer ++ older) w ≡ None = rw same.1 at (none_of (logged_of (newer ++ older) e.request) apart.0) in
      let bad : None ≡ Some found.0 = sym none ∙ found.1 in absurd cc
  | inr other ↦ let rest : Has newer w = rw other.0 at first in not_in_both newer older w apart.1 rest second
]

-- Lists of locks, and of requests that wait for them.

pub or_none : (a b : Bool) → (a || b) ≡ false → (a ≡ false) × (b ≡ false)
or_none true b h = absurd cc
or_none false b h = (refl, h)

-- another address is held as it was without the locks of one
pub held_without : (a b : ℕ) (locks : List Lock) → b ≢ a → is_held b (without a locks) ≡ is_held b locks
held_without a b [] ne = refl
held_without a b (lock ∷ locks) ne = elim (eqb_tells lock.at.0 a) [
  | inl here ↦
      let other : (lock.at.0 == b) ≡ false = elim (eqb_tells lock.at.0 b) [ inl same ↦ absurd (ne (sym same.1 ∙ here.1)) | inr apart ↦ apart.0 ] in
      rw (here.0, other) (held_without a b locks ne)
  | inr there ↦ rw there.0 (ap (λ c. (lock.at.0 == b) || c) (held_without a b locks ne))
]

-- what holds of all locks holds without some
pub every_without : (P : Lock → Type 0) (a : ℕ) (locks : List Lock) → AllByRecursion P locks → AllByRecursion P (without a locks)
every_without P a [] all = tt
every_without P a (lock ∷ locks) all = elim (eqb_tells lock.at.0 a) [
  | inl here ↦ rw here.0 (every_without P a locks all.1)
  | inr there ↦ rw there.0 (all.0, every_without P a locks all.1)
]

-- a lock that counts is there
pub has_lock : (a : ℕ) (test : ℕ → Bool) (locks : List Lock) (P : Lock → Type 0) → 1 ≤ total (lock_weight a test) locks → AllByRecursion P locks
    → (lock : Lock) × (lock.at.0 ≡ a) × (test lock.place ≡ true) × P lock
has_lock a test [] P some all = absurd (omega (arith, some))
has_lock a test (lock ∷ locks) P some all = elim (eqb_tells lock.at.0 a) [
  | inl here ↦ elim (cases_Bool (test lock.place)) [
    | inl passed ↦ (lock, here.1, passed, all.0)
    | inr failed ↦ has_lock a test locks P (let none : lock_weight a test lock ≡ 0 = rw (here.0, failed) refl in omega (arith, some, none)) all.1
  ]
  | inr there ↦ has_lock a test locks P (let none : lock_weight a test lock ≡ 0 = rw there.0 refl in omega (arith, some, none)) all.1
]

-- a lock that is held counts
pub held_counts : (a : ℕ) (locks : List Lock) → is_held a locks ≡ true → 1 ≤ total (lock_weight a (λ p. true)) locks
held_counts a [] is = absurd cc
held_counts a (lock ∷ locks) is = elim (eqb_tells lock.at.0 a) [
  | inl here ↦ rw here.0 (omega arith)
  | inr there ↦ let rest = held_counts a locks (rw there.0 at is) in rw there.0 (omega (arith, rest))
]

pub counts_held : (a : ℕ) (locks : List Lock) → 1 ≤ total (lock_weight a (λ p. true)) locks → is_held a locks ≡ true
counts_held a [] some = absurd (omega (arith, some))
counts_held a (lock ∷ locks) some = elim (eqb_tells lock.at.0 a) [
  | inl here ↦ rw here.0 refl
  | inr there ↦ let none : lock_weight a (λ p. true) lock ≡ 0 = rw there.0 refl in rw there.0 (counts_held a locks (omega (arith, some, none)))
]

-- those that wait but the first for an address
pub every_but_first : (P : Vio → Type 0) (a : ℕ) (vs : List Vio) → AllByRecursion P vs → AllByRecursion P (but_first_for a vs)
every_but_first P a [] all = tt
every_but_first P a (v ∷ vs) all = elim (eqb_tells v.at.0 a) [
  | inl here ↦ rw here.0 all.1
  | inr there ↦ rw there.0 (all.0, every_but_first P a vs all.1)
]

pub every_none_for : (P : Vio → Type 0) (a : ℕ) (vs : List Vio) → AllByRecursion P vs → AllByRecursion (λ v. P v × (v.at.0 ≢ a)) (none_for a vs)
every_none_for P a [] all = tt
every_none_for P a (v ∷ vs) all = elim (eqb_tells v.at.0 a) [
  | inl here ↦ rw here.0 (every_none_for P a vs all.1)
  | inr there ↦ rw there.0 ((all.0, there.1), every_none_for P a vs all.1)
]

pub every_all_for : (P : Vio → Type 0) (a : ℕ) (vs : List Vio) → AllByRecursion P vs → AllByRecursion (λ v. P v × (v.at.0 ≡ a)) (all_for a vs)
every_all_for P a [] all = tt
every_all_for P a (v ∷ vs) all = elim (eqb_tells v.at.0 a) [
  | inl here ↦ rw here.0 ((all.0, here.1), every_all_for P a vs all.1)
  | inr there ↦ rw there.0 (every_all_for P a vs all.1)
]

-- the first for an address is of it, and what holds of all holds of it; where there is none, all are of others
pub first_has : (P : Vio → Type 0) (a : ℕ) (vs : List Vio) (w : Vio) → first_for a vs ≡ Some w → AllByRecursion P vs → P w × (w.at.0 ≡ a)
first_has P a [] w is all = absurd cc
first_has P a (v ∷ vs) w is all = elim (eqb_tells v.at.0 a) [
  | inl here ↦ let same : v ≡ w = same_Some v w (rw here.0 at is) in (subst P same all.0, subst (λ (x : Vio). x.at.0 ≡ a) same here.1)
  | inr there ↦ first_has P a vs w (rw there.0 at is) all.1
]

pub none_first : (P : Vio → Type 0) (a : ℕ) (vs : List Vio) → first_for a vs ≡ None → AllByRecursion P vs → AllByRecursion (λ v. P v × (v.at.0 ≢ a)) vs
none_first P a [] is all = tt
none_first P a (v ∷ vs) is all = elim (eqb_tells v.at.0 a) [
  | inl here ↦ absurd (no v (rw here.0 at is))
  | inr there ↦ ((all.0, there.1), none_first P a vs (rw there.0 at is) all.1)
]
  where
    no : (x : Vio) → ◌≡◌ {A = Option Vio} (Some x) None → ⊥
    no x same = cc

-- places rise behind the first
pub rises_but_first : (a : ℕ) (vs : List Vio) → Rises vs → Rises (but_first_for a vs)
rises_but_first a [] up = tt
rises_but_first a (v ∷ vs) up = elim (eqb_tells v.at.0 a) [
  | inl here ↦ rw here.0 up.1
  | inr there ↦ rw there.0 (every_but_first (λ w. v.place < w.place) a vs up.0, rises_but_first a vs up.1)
]

pub rises_none_for : (a : ℕ) (vs : List Vio) → Rises vs → Rises (none_for a vs)
rises_none_for a [] up = tt
rises_none_for a (v ∷ vs) up = elim (eqb_tells v.at.0 a) [
  | inl here ↦ rw here.0 (rises_none_for a vs up.1)
  | inr there ↦ rw there.0 (weaker (none_for a vs) (every_none_for (λ w. v.place < w.place) a vs up.0), rises_none_for a vs up.1)
]
  where
    weaker : (ws : List Vio) → AllByRecursion (λ w. (v.place < w.place) × (w.at.0 ≢ a)) ws → AllByRecursion (λ w. v.place < w.place) ws
    weaker [] all = tt
    weaker (w ∷ ws) all = (all.0.0, weaker ws all.1)

-- the first for an address has a lower place than the others for it
pub first_below : (a : ℕ) (vs : List Vio) (w : Vio) → first_for a vs ≡ Some w → Rises vs → AllByRecursion (λ v. v.at.0 ≡ a → w.place < v.place) (but_first_for a vs)
first_below a [] w is up = tt
first_below a (v ∷ vs) w is up = elim (eqb_tells v.at.0 a) [
  | inl here ↦
      let same : v ≡ w = same_Some v w (rw here.0 at is) in
      rw here.0 (later vs (subst (λ (x : Vio). AllByRecursion (λ u. x.place < u.place) vs) same up.0))
  | inr there ↦ rw there.0 ((λ same. absurd (there.1 same)), first_below a vs w (rw there.0 at is) up.1)
]
  where
    later : (us : List Vio) → AllByRecursion (λ u. w.place < u.place) us → AllByRecursion (λ u. u.at.0 ≡ a → w.place < u.place) us
    later [] all = tt
    later (u ∷ us) all = ((λ same. all.0), later us all.1)

-- one more behind all
pub rises_more : (vs : List Vio) (v : Vio) → Rises vs → AllByRecursion (λ u. u.place < v.place) vs → Rises (vs ++ v ∷ [])
rises_more [] v up below = (tt, tt)
rises_more (u ∷ us) v up below = (more us up.0, rises_more us v up.1 below.1)
  where
    more : (ws : List Vio) → AllByRecursion (λ w. u.place < w.place) ws → AllByRecursion (λ w. u.place < w.place) (ws ++ v ∷ [])
    more [] all = (below.0, tt)
    more (w ∷ ws) all = (all.0, more ws all.1)

-- what holds of all holds of the newest
pub newest_has : (P : Remapping → Type 0) (es : List Remapping) (e : Remapping) → newest es ≡ Some e → AllByRecursion P es → P e
newest_has P [] e is all = absurd cc
newest_has P (f ∷ es) e is all = let same : f ≡ e = cc in subst P same all.0
