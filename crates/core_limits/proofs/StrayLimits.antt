-- No more decrements found 0 in a physical zone than entries of requests are committed.
use Rattle.std.proofs.Common.{◌≡◌, ℕ, ◌+◌, ◌≤◌, false, inl, inr, List, [], ◌∷◌, ◌++◌, length, length-append, ap, refl, subst, ◌∙◌, arith}
use Rattle.blk_base.specs.declared.place.Mapping.{Mapping}
use Rattle.blk_base.specs.declared.place.Mapping.TheVariants.{Unmapped, Zero, At}
use Rattle.core_laws.proofs.Common.{Adds, Commits, Logged, Makes, Sizes, cases_Bool, eqb_tells, new_of, Remapping, Remaps, Removes, RightTrace, Session, Strays, Trace, durable, entered, journaled, passed, remappings, total, total-append}
use Rattle.core_laws.proofs.lists.CountedIn.{number_counted, updates_both}
use Rattle.core_laws.proofs.trace.DeskOfTrace.{durable_part, remappings_append}
use Rattle.core_model.specs.CountUpdates.{CountUpdate, Decrement, Increment, IsNextUpdate, decrement_of, increment_of, is_counted_in, mapping_of, replaced_in, updates_by, updates_in, updates_of, updates_taken}
use Rattle.core_model.specs.Trace.{strayed}

abbrev takes_one : CountUpdate → ℕ
takes_one (Increment e) = 0
takes_one (Decrement e) = 1

-- Of a physical zone.
module _ (sizes : Sizes) (zone : ℕ) where
  abbrev own : List CountUpdate → ℕ
  own us = total takes_one (updates_in sizes zone us)

  own_last : (us : List CountUpdate) (u : CountUpdate) → own (us ++ u ∷ []) ≡ own us + own (u ∷ [])
  own_last us u = ap (total takes_one) (updates_both sizes zone us (u ∷ [])) ∙ total-append takes_one (updates_in sizes zone us) (updates_in sizes zone (u ∷ []))

  own_both : (us vs : List CountUpdate) → own (us ++ vs) ≡ own us + own vs
  own_both us vs = ap (total takes_one) (updates_both sizes zone us vs) ∙ total-append takes_one (updates_in sizes zone us) (updates_in sizes zone vs)

  own_part : (us : List CountUpdate) → own us ≤ total takes_one us
  own_part [] = omega arith
  own_part (u ∷ us) =
      let later = own_part us in
      elim (cases_Bool (is_counted_in sizes zone (mapping_of u))) [ inl is ↦ rw is (omega (arith, later)) | inr other ↦ rw other (omega (arith, later)) ]

  no_increment_here : (e : Logged) → own (Increment e ∷ []) ≡ 0
  no_increment_here e = elim (cases_Bool (is_counted_in sizes zone (new_of e))) [ inl is ↦ rw is refl | inr other ↦ rw other refl ]

  -- each was taken
  strays_taken : (t : Trace) → length (replaced_in sizes zone (strayed t)) ≤ own (updates_taken t)
  strays_taken [] = omega arith
  strays_taken (Adds e ∷ t) = omega (arith, own_last (updates_taken t) (Increment e), strays_taken t)
  strays_taken (Removes e to ∷ t) = omega (arith, own_last (updates_taken t) (Decrement e), strays_taken t)
  strays_taken (Strays e ∷ t) =
      let before = strays_taken t in
      let last = own_last (updates_taken t) (Decrement e) in
      let here : length (replaced_in sizes zone (e ∷ strayed t)) ≡ own (Decrement e ∷ []) + length (replaced_in sizes zone (strayed t)) =
      elim (cases_Bool (is_counted_in sizes zone e.old)) [ inl is ↦ rw is (omega arith) | inr other ↦ rw other (omega arith) ]
      in
      omega (arith, before, last, here)
  strays_taken (other ∷ t) = strays_taken t

  -- what was taken is of committed entries: a decrement of the zone comes next there, and one of another isn't counted here
  next_taken : (es : List Logged) (t : Trace) (e : Remapping) → IsNextUpdate sizes es t (Decrement e) → own (updates_taken t) ≤ own (updates_of es) → own (updates_taken t) + own (Decrement e ∷ []) ≤ own (updates_of es)
  next_taken es t e next before = elim (eqb_tells next.zone zone) [
    | inl same ↦
        let there : updates_in sizes zone (updates_of es) ≡ updates_in sizes zone (updates_taken t) ++ Decrement e ∷ next.rest =
        subst (λ (k : ℕ). updates_in sizes k (updates_of es) ≡ updates_in sizes k (updates_taken t) ++ Decrement e ∷ next.rest) same.1 next.next
        in
        let all = ap (total takes_one) there ∙ total-append takes_one (updates_in sizes zone (updates_taken t)) (Decrement e ∷ next.rest) in
        let one = own_part (Decrement e ∷ []) in
        omega (arith, all, one)
    | inr other ↦
        let out : is_counted_in sizes zone e.old ≡ false = elim (cases_Bool (is_counted_in sizes zone e.old)) [
          | inl here ↦
              let mine = number_counted sizes zone e.old here in
              let hers = number_counted sizes next.zone e.old next.own in
              absurd (other.1 (omega (arith, mine, hers)))
          | inr out ↦ out
        ] in
        let none : own (Decrement e ∷ []) ≡ 0 = rw out refl in
        omega (arith, none, before)
  ]

  taken_committed : (s : Session) (t : Trace) → s.sizes ≡ sizes → RightTrace s t → own (updates_taken t) ≤ own (updates_of (durable t))
  taken_committed s [] are right = omega arith
  taken_committed s (Commits e ∷ t) are right = let more = own_both (updates_of (durable t)) (updates_by e) in omega (arith, more, taken_committed s t are right.2)
  taken_committed s (Adds e ∷ t) are right = omega (arith, own_last (updates_taken t) (Increment e), no_increment_here e, taken_committed s t are right.2)
  taken_committed s (Removes e to ∷ t) are right =
      let next = subst (λ (k : Sizes). IsNextUpdate k (durable t) t (Decrement e)) are right.0.next in
      omega (arith, own_last (updates_taken t) (Decrement e), next_taken (durable t) t e next (taken_committed s t are right.2))
  taken_committed s (Strays e ∷ t) are right =
      let next = subst (λ (k : Sizes). IsNextUpdate k (durable t) t (Decrement e)) are right.0.next in
      omega (arith, own_last (updates_taken t) (Decrement e), next_taken (durable t) t e next (taken_committed s t are right.2))
  taken_committed s (other ∷ t) are right = taken_committed s t are right.2

-- of each entry of a request one at most
no_increment : (e : Logged) (m : Mapping) → total takes_one (increment_of e m) ≡ 0
no_increment e (At x) = refl
no_increment e Unmapped = refl
no_increment e Zero = refl

one_decrement : (e : Remapping) (m : Mapping) → total takes_one (decrement_of e m) ≤ 1
one_decrement e (At x) = omega arith
one_decrement e Unmapped = omega arith
one_decrement e Zero = omega arith

entries_take : (es : List Logged) → total takes_one (updates_of es) ≤ length (remappings es)
entries_take [] = omega arith
entries_take (Remaps e ∷ es) =
    let all = total-append takes_one (updates_of es) (updates_by (Remaps e)) in
    let both = total-append takes_one (increment_of (Remaps e) e.new) (decrement_of e e.old) in
    omega (arith, all, both, no_increment (Remaps e) e.new, one_decrement e e.old, entries_take es)
entries_take (Makes p ∷ es) =
    let all = total-append takes_one (updates_of es) (updates_by (Makes p)) in
    omega (arith, all, entries_take es)

-- So there are no more than entries of requests that were handed in.
pub strays_few : (s : Session) (zone : ℕ) (t : Trace) → RightTrace s t → length (replaced_in s.sizes zone (strayed t)) ≤ length (entered t)
strays_few s zone t right =
    let (newer, parts) = durable_part s t right in
    let split = ap (λ (es : List Logged). length (remappings es)) parts ∙ ap (λ (es : List Remapping). length es) (remappings_append newer (durable t)) ∙ length-append (remappings newer) (remappings (durable t)) in
    let all = length-append (remappings (journaled t)) (passed t) in
    omega (arith, strays_taken s.sizes zone t, taken_committed s.sizes zone s t refl right, own_part s.sizes zone (updates_of (durable t)), entries_take (durable t), split, all)
