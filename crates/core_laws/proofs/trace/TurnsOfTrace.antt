-- The entries of an address take turns: one is handed in, committed and done before the next, at a higher place.
use Rattle.std.proofs.Common.{ℕ, ◌≡◌, ◌⊎◌, ◌<◌, ◌==◌, false, List, [], ◌∷◌, ◌++◌, length, length-append, refl, sym, ◌∙◌, ap, subst, inl, inr, arith}
use Rattle.core_laws.proofs.Common.{AllBelow, AllByRecursion, Commits, Enters, Remapping, Quiet, RightTrace, Session, Sets, Trace, committed, done, each_both, entered, eqb_tells, every-map, filled, of_address, Remaps, remappings, applied, durable, journaled, passed, Passes, every-front}
use Rattle.core_laws.proofs.lists.Between.{address_behind, address_between, address_there, same_before}
use Rattle.core_laws.proofs.trace.Growth.{entered_grows}
use Rattle.core_laws.proofs.trace.DeskOfTrace.{before_commit, are_of_address, each_of_address, of_address_append}

-- the last entry of an address is handed in and not committed
pub record HasPendingAt (t : Trace) (a : ℕ) : Type 0 where
  pub entry : Remapping
  pub last : of_address a (entered t) ≡ entry ∷ of_address a (committed t)
  pub others : of_address a (committed t) ≡ of_address a (done t)

-- the last entry of an address is committed and not done
pub record HasCommittedAt (t : Trace) (a : ℕ) : Type 0 where
  pub entry : Remapping
  pub all_committed : of_address a (entered t) ≡ of_address a (committed t)
  pub last : of_address a (committed t) ≡ entry ∷ of_address a (done t)

abbrev pub TakesTurns : Trace → ℕ → Type 0
TakesTurns t a = Quiet t a ⊎ HasPendingAt t a ⊎ HasCommittedAt t a

-- the entries of an address with one more
of_head : (a : ℕ) (e : Remapping) (es : List Remapping) → e.at.0 ≡ a → of_address a (e ∷ es) ≡ e ∷ of_address a es
of_head a e es is = elim (eqb_tells e.at.0 a) [ inl same ↦ rw same.0 refl | inr other ↦ absurd (other.1 is) ]

of_other : (a : ℕ) (e : Remapping) (es : List Remapping) → (e.at.0 == a) ≡ false → of_address a (e ∷ es) ≡ of_address a es
of_other a e es other = rw other refl

-- of a list with one element in front of another and some before it: there is none before, where the whole is one longer
none_before : (before after : List Remapping) (e p : Remapping) → before ++ (e ∷ after) ≡ p ∷ after → before ++ (e ∷ after) ≡ e ∷ after
none_before [] after e p is = refl
none_before (b ∷ before) after e p is = absurd (let longer = ap length is in let all = length-append before (e ∷ after) in omega (arith, longer, all))

longer_still : (before after : List Remapping) (e : Remapping) → before ++ (e ∷ after) ≡ after → ⊥
longer_still before after e is = let longer = ap length is in let all = length-append before (e ∷ after) in absurd (omega (arith, longer, all))

-- the states say nothing but of these three lists
turns_of : (t u : Trace) (a : ℕ) → of_address a (entered u) ≡ of_address a (entered t) → of_address a (committed u) ≡ of_address a (committed t) → of_address a (done u) ≡ of_address a (done t)
    → TakesTurns t a → TakesTurns u a
turns_of t u a e c d turns = elim turns [
  | inl quiet ↦ inl (record { all_committed = e ∙ quiet.all_committed ∙ sym c; all_done = c ∙ quiet.all_done ∙ sym d })
  | inr rest ↦ elim rest [
    | inl pending ↦ inr (inl (record { entry = pending.entry; last = e ∙ pending.last ∙ ap (λ (xs : List Remapping). pending.entry ∷ xs) (sym c); others = c ∙ pending.others ∙ sym d }))
    | inr over ↦ inr (inr (record { entry = over.entry; all_committed = e ∙ over.all_committed ∙ sym c; last = c ∙ over.last ∙ ap (λ (xs : List Remapping). over.entry ∷ xs) (sym d) }))
  ]
]

-- where no entry of an address was handed in, none is committed and no slot of it is set
pub none_set : (t : Trace) (a : ℕ) → TakesTurns t a → of_address a (remappings (journaled t)) ≡ [] → (of_address a (remappings (durable t)) ≡ []) × (of_address a (remappings (applied t)) ≡ [])
none_set t a turns first = by turns
  where
    entered_is : of_address a (entered t) ≡ of_address a (passed t)
    entered_is = address_behind a (remappings (journaled t)) (passed t) first

    committed_is : of_address a (committed t) ≡ of_address a (remappings (durable t)) ++ of_address a (passed t)
    committed_is = of_address_append a (remappings (durable t)) (passed t)

    done_is : of_address a (done t) ≡ of_address a (remappings (applied t)) ++ of_address a (passed t)
    done_is = of_address_append a (remappings (applied t)) (passed t)

    by : TakesTurns t a → (of_address a (remappings (durable t)) ≡ []) × (of_address a (remappings (applied t)) ≡ [])
    by (inl quiet) = (
      same_before (of_address a (remappings (durable t))) [] (of_address a (passed t)) (sym committed_is ∙ sym quiet.all_committed ∙ entered_is),
      same_before (of_address a (remappings (applied t))) [] (of_address a (passed t)) (sym done_is ∙ sym quiet.all_done ∙ sym quiet.all_committed ∙ entered_is),
    )
    by (inr (inl pending)) =
        absurd (let longer = ap length (sym entered_is ∙ pending.last ∙ ap (λ (xs : List Remapping). pending.entry ∷ xs) committed_is) in
        let all = length-append (of_address a (remappings (durable t))) (of_address a (passed t)) in omega (arith, longer, all))
    by (inr (inr over)) =
        absurd (let longer = ap length (sym entered_is ∙ over.all_committed ∙ over.last ∙ ap (λ (xs : List Remapping). over.entry ∷ xs) done_is) in
        let all = length-append (of_address a (remappings (applied t))) (of_address a (passed t)) in omega (arith, longer, all))

-- each address is in one of the three states
pub at_address : (s : Session) (t : Trace) (a : ℕ) → RightTrace s t → TakesTurns t a
at_address s [] a right = inl (record { all_committed = refl; all_done = refl })
at_address s (Enters (Remaps e) ∷ t) a right = elim (eqb_tells e.at.0 a) [
  | inl same ↦
      let quiet : Quiet t a = subst (Quiet t) same.1 right.0.quiet in
      inr (inl (record {
        entry = e;
        last = of_head a e (entered t) same.1 ∙ ap (λ (xs : List Remapping). e ∷ xs) quiet.all_committed;
        others = quiet.all_done;
      }))
  | inr other ↦ turns_of t (Enters (Remaps e) ∷ t) a (of_other a e (entered t) other.0) refl refl (at_address s t a right.2)
]
at_address s (Commits (Remaps e) ∷ t) a right = elim (eqb_tells e.at.0 a) [
  | inl same ↦
      let before = of_address a (remappings (filled t ++ right.0.rest)) in
      let parts : entered t ≡ remappings (filled t ++ right.0.rest) ++ (e ∷ committed t) = before_commit t (Remaps e) right.0.rest right.0.next in
      let next : of_address a (entered t) ≡ before ++ (e ∷ of_address a (committed t)) =
      ap (of_address a) parts ∙ of_address_append a (remappings (filled t ++ right.0.rest)) (e ∷ committed t) ∙ ap (λ (xs : List Remapping). before ++ xs) (of_head a e (committed t) same.1) in
      elim (at_address s t a right.2) [
        | inl quiet ↦ absurd (longer_still before (of_address a (committed t)) e (sym next ∙ quiet.all_committed))
        | inr rest ↦ elim rest [
          | inl pending ↦
              inr (inr (record {
                entry = e;
                all_committed = next ∙ none_before before (of_address a (committed t)) e pending.entry (sym next ∙ pending.last) ∙ sym (of_head a e (committed t) same.1);
                last = of_head a e (committed t) same.1 ∙ ap (λ (xs : List Remapping). e ∷ xs) pending.others;
              }))
          | inr over ↦ absurd (longer_still before (of_address a (committed t)) e (sym next ∙ over.all_committed))
        ]
      ]
  | inr other ↦ turns_of t (Commits (Remaps e) ∷ t) a refl (of_other a e (committed t) other.0) refl (at_address s t a right.2)
]
at_address s (Sets (Remaps e) ∷ t) a right = elim (eqb_tells e.at.0 a) [
  | inl same ↦
      let all : of_address a (entered t) ≡ of_address a (committed t) = subst (λ (b : ℕ). of_address b (entered t) ≡ of_address b (committed t)) same.1 right.0.is_committed.all_committed in
      let last : of_address a (committed t) ≡ e ∷ of_address a (done t) = subst (λ (b : ℕ). of_address b (committed t) ≡ e ∷ of_address b (done t)) same.1 right.0.is_committed.last in
      inl (record { all_committed = all; all_done = last ∙ sym (of_head a e (done t) same.1) })
  | inr other ↦ turns_of t (Sets (Remaps e) ∷ t) a refl refl (of_other a e (done t) other.0) (at_address s t a right.2)
]
at_address s (Passes e ∷ t) a right = elim (eqb_tells e.at.0 a) [
  | inl same ↦
      let first : of_address a (remappings (journaled t)) ≡ [] = subst (λ (b : ℕ). of_address b (remappings (journaled t)) ≡ []) same.1 right.0.first in
      let none = none_set t a (at_address s t a right.2) first in
      inl (record {
        all_committed = address_there a (remappings (journaled t)) (passed t) e same.1 first ∙ sym (address_there a (remappings (durable t)) (passed t) e same.1 none.0);
        all_done = address_there a (remappings (durable t)) (passed t) e same.1 none.0 ∙ sym (address_there a (remappings (applied t)) (passed t) e same.1 none.1);
      })
  | inr other ↦ turns_of t (Passes e ∷ t) a (address_between a (remappings (journaled t)) (passed t) e other.1) (address_between a (remappings (durable t)) (passed t) e other.1)
      (address_between a (remappings (applied t)) (passed t) e other.1) (at_address s t a right.2)
]
at_address s (other ∷ t) a right = turns_of t (other ∷ t) a refl refl refl (at_address s t a right.2)

-- Places fall from each entry to the older ones.
abbrev pub IsFalling : List Remapping → Type 0
IsFalling [] = Unit {0}
IsFalling (e ∷ older) = AllByRecursion (λ (f : Remapping). f.place < e.place) older × IsFalling older

-- whatever was done at an address is below
pub below_at : (t : Trace) (a place : ℕ) → AllBelow t a place → AllByRecursion (λ (f : Remapping). f.place < place) (of_address a (done t))
below_at t a place below =
    let P : Remapping → Type 0 = λ f. f.at.0 ≡ a → f.place < place in
    let each = each_both P (λ (f : Remapping). f.at.0 ≡ a) (of_address a (done t)) (each_of_address P a (done t) below.writes) (are_of_address a (done t)) in
    every-map {P = λ f. P f × (f.at.0 ≡ a)} {Q = λ (f : Remapping). f.place < place} (λ f is. is.0 is.1) (of_address a (done t)) each

-- the entered entries of an address fall in place
pub entered_falling : (s : Session) (t : Trace) (a : ℕ) → RightTrace s t → IsFalling (of_address a (entered t))
entered_falling s [] a right = tt
entered_falling s (h ∷ t) a right =
    let rest = entered_falling s t a right.2 in
    entered_grows (λ es. IsFalling (of_address a es)) s h t right.0 rest (λ e came next. elim (eqb_tells e.at.0 a) [
      | inl same ↦
          let all : of_address a (entered t) ≡ of_address a (done t) = subst (λ (b : ℕ). of_address b (entered t) ≡ of_address b (done t)) same.1 (next.quiet.all_committed ∙ next.quiet.all_done) in
          let below = below_at t a e.place (subst (λ (b : ℕ). AllBelow t b e.place) same.1 next.below) in
          let mine : AllByRecursion (λ (f : Remapping). f.place < e.place) (of_address a (entered t)) = subst (AllByRecursion (λ (f : Remapping). f.place < e.place)) (sym all) below in
          rw same.0 (mine, rest)
      | inr other ↦ rw other.0 rest
    ]) (λ e came next. elim (eqb_tells e.at.0 a) [
      | inl same ↦
          let first : of_address a (remappings (journaled t)) ≡ [] = subst (λ (b : ℕ). of_address b (remappings (journaled t)) ≡ []) same.1 next.first in
          let low : Remapping → Type 0 = λ f. f.place < e.place in
          let below = below_at t a e.place (subst (λ (b : ℕ). AllBelow t b e.place) same.1 next.below) in
          let mine = (every-front low (of_address a (remappings (applied t))) (of_address a (passed t)) (subst (AllByRecursion low) (of_address_append a (remappings (applied t)) (passed t)) below)).1 in
          subst IsFalling (sym (address_there a (remappings (journaled t)) (passed t) e same.1 first)) (mine, subst IsFalling (address_behind a (remappings (journaled t)) (passed t) first) rest)
      | inr other ↦ subst IsFalling (sym (address_between a (remappings (journaled t)) (passed t) e other.1)) rest
    ])

-- what a list of entries has and each tail of it has too, the committed and the done ones of an address have
pub committed_at : (P : List Remapping → Type 0) (s : Session) (t : Trace) (a : ℕ) → ((e : Remapping) (es : List Remapping) → P (e ∷ es) → P es) → RightTrace s t → P (of_address a (entered t)) → P (of_address a (committed t))
committed_at P s t a tail right all = elim (at_address s t a right) [
  | inl quiet ↦ subst P quiet.all_committed all
  | inr rest ↦ elim rest [
    | inl pending ↦ tail pending.entry _ (subst P pending.last all)
    | inr over ↦ subst P over.all_committed all
  ]
]

-- and so have the done ones
pub done_at : (P : List Remapping → Type 0) (s : Session) (t : Trace) (a : ℕ) → ((e : Remapping) (es : List Remapping) → P (e ∷ es) → P es) → RightTrace s t → P (of_address a (committed t)) → P (of_address a (done t))
done_at P s t a tail right all = elim (at_address s t a right) [
  | inl quiet ↦ subst P quiet.all_done all
  | inr rest ↦ elim rest [
    | inl pending ↦ subst P pending.others all
    | inr over ↦ tail over.entry _ (subst P over.last all)
  ]
]

-- the committed entries of an address fall in place
pub committed_falling : (s : Session) (t : Trace) (a : ℕ) → RightTrace s t → IsFalling (of_address a (committed t))
committed_falling s t a right = committed_at IsFalling s t a (λ e es falls. falls.1) right (entered_falling s t a right)

-- and so do the done ones
pub done_falling : (s : Session) (t : Trace) (a : ℕ) → RightTrace s t → IsFalling (of_address a (done t))
done_falling s t a right = done_at IsFalling s t a (λ e es falls. falls.1) right (committed_falling s t a right)
