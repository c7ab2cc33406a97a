-- A planned fault names exactly the call with its number among those that it counts.
use Rattle.std.specs.Prelude.{ℕ, ◌≡◌, ◌<◌, ◌≤◌, ◌+◌, ◌-◌, ◌==◌, ◌&&◌, Bool, true, false, if◌then◌else◌, List, [], ◌∷◌, refl}
use Rattle.std.specs.List.{list_any}
use Rattle.std.proofs.Common.{sym, ◌∙◌, ap, inl, inr, arith}
use Rattle.std.proofs.lemmas.Bool.Decides.{eqb_tells, leb_tells}
use Rattle.disk_model.specs.declared.faults.CallKind.{CallKind}
use Rattle.disk_model.specs.declared.faults.FaultAt.{FaultAt}
use Rattle.disk_model.specs.Plans.{counts, strikes, named, takes_effect, counted, counted_all, count_of, is_nth}

-- a fault with n fewer calls to go
abbrev fewer : FaultAt → ℕ → FaultAt
fewer fault n = record { kind = fault.kind; at = fault.at; nth = fault.nth - n; effect = fault.effect }

eqb_false : (n m : ℕ) → n < m → (m - n == 0) ≡ false
eqb_false n m below = elim (eqb_tells (m - n) 0) [ inl same ↦ absurd (let e = same.1 in omega arith) | inr other ↦ other.0 ]

-- one more call, of a fault whose call is still to come
step_waits : (fault : FaultAt) (plan : List FaultAt) (kind : CallKind) (at n : ℕ) (here : Bool) → counts fault kind at ≡ here
    → (if here then n + 1 else n) ≤ fault.nth
    → counted (fewer fault n ∷ plan) kind at ≡ fewer fault (if here then n + 1 else n) ∷ counted plan kind at
step_waits fault plan kind at n true is below =
    let waits : (fault.nth - n == 0) ≡ false = eqb_false n fault.nth (omega arith) in
    let less : fault.nth - n - 1 ≡ fault.nth - (n + 1) = omega arith in
    rw (is, waits, less) refl
step_waits fault plan kind at n false is below = rw is refl

-- one more call, which the fault names
step_strikes : (fault : FaultAt) (plan : List FaultAt) (kind : CallKind) (at n : ℕ) → counts fault kind at ≡ true → n ≡ fault.nth
    → counted (fewer fault n ∷ plan) kind at ≡ counted plan kind at
step_strikes fault plan kind at n is here =
    let none : fault.nth - n ≡ 0 = omega arith in
    rw (is, none) refl

module _ (fault : FaultAt) (plan : List FaultAt) where
  -- The fault waits while it counted at most its number of calls, and is gone then.
  abbrev waits_after : List (CallKind × ℕ) → Type 0
  waits_after calls = count_of fault calls ≤ fault.nth → counted_all (fault ∷ plan) calls ≡ fewer fault (count_of fault calls) ∷ counted_all plan calls

  abbrev gone_after : List (CallKind × ℕ) → Type 0
  gone_after calls = fault.nth < count_of fault calls → counted_all (fault ∷ plan) calls ≡ counted_all plan calls

  fewer_none : fault ∷ plan ≡ fewer fault 0 ∷ plan
  fewer_none =
      let same : fault.nth ≡ fault.nth - 0 = omega arith in
      ap (λ n. record { kind = fault.kind; at = fault.at; nth = n; effect = fault.effect } ∷ plan) same

  waits_next : (call : CallKind × ℕ) (older : List (CallKind × ℕ)) (here : Bool) → counts fault call.0 call.1 ≡ here → waits_after older
      → (if here then count_of fault older + 1 else count_of fault older) ≤ fault.nth
      → counted (counted_all (fault ∷ plan) older) call.0 call.1 ≡ fewer fault (if here then count_of fault older + 1 else count_of fault older) ∷ counted (counted_all plan older) call.0 call.1
  waits_next call older true is before below =
      rw (before (omega arith)) (step_waits fault (counted_all plan older) call.0 call.1 (count_of fault older) true is below)
  waits_next call older false is before below =
      rw (before below) (step_waits fault (counted_all plan older) call.0 call.1 (count_of fault older) false is below)

  waits : (calls : List (CallKind × ℕ)) → waits_after calls
  waits [] below = fewer_none
  waits (call ∷ older) below = waits_next call older (counts fault call.0 call.1) refl (waits older) below

  gone_next : (call : CallKind × ℕ) (older : List (CallKind × ℕ)) (here : Bool) → counts fault call.0 call.1 ≡ here → gone_after older
      → fault.nth < (if here then count_of fault older + 1 else count_of fault older)
      → counted (counted_all (fault ∷ plan) older) call.0 call.1 ≡ counted (counted_all plan older) call.0 call.1
  gone_next call older false is before above = rw (before above) refl
  gone_next call older true is before above = elim (eqb_tells (count_of fault older) fault.nth) [
    | inl same ↦
        let now : count_of fault older ≡ fault.nth = same.1 in
        rw (waits older (omega arith)) (step_strikes fault (counted_all plan older) call.0 call.1 (count_of fault older) is now)
    | inr other ↦ let apart = other.1 in rw (before (omega arith)) refl
  ]

  gone : (calls : List (CallKind × ℕ)) → gone_after calls
  gone [] above = absurd (omega arith)
  gone (call ∷ older) above = gone_next call older (counts fault call.0 call.1) refl (gone older) above

none_left : (calls : List (CallKind × ℕ)) → counted_all [] calls ≡ []
none_left [] = refl
none_left (call ∷ older) = rw (none_left older) refl

same_test : (n m : ℕ) → n ≤ m → (m - n == 0) ≡ (n == m)
same_test n m below = elim (eqb_tells n m) [
  | inl same ↦ let is : n ≡ m = same.1 in let left : m - n ≡ 0 = omega arith in rw (left, same.0) refl
  | inr other ↦ let apart = other.1 in eqb_false n m (omega arith) ∙ sym other.0
]

other_test : (n m : ℕ) → m < n → (n == m) ≡ false
other_test n m above = elim (eqb_tells n m) [ inl same ↦ absurd (let e = same.1 in omega arith) | inr other ↦ other.0 ]

and_false : (b : Bool) → (b && false) ≡ false
and_false true = refl
and_false false = refl

-- what is asked of the faults that name a call is asked of those whose number it has
module _ (pick : Bool → Bool → Bool) (none : (effect : Bool) → pick false effect ≡ false) (calls : List (CallKind × ℕ)) (kind : CallKind) (at : ℕ) where
  any_after : (plan : List FaultAt) → list_any (λ fault. pick (strikes fault kind at) fault.effect) (counted_all plan calls)
      ≡ list_any (λ fault. pick (is_nth calls kind at fault) fault.effect) plan
  any_after [] = rw (none_left calls) refl
  any_after (fault ∷ plan) = elim (leb_tells (count_of fault calls) fault.nth) [
    | inl at_most ↦
        let below : count_of fault calls ≤ fault.nth = at_most.1 in
        rw (waits fault plan calls below, same_test (count_of fault calls) fault.nth below, any_after plan) refl
    | inr more ↦
        let above : fault.nth < count_of fault calls = omega (arith, more.1) in
        rw (gone fault plan calls above, other_test (count_of fault calls) fault.nth above, and_false (counts fault kind at), none fault.effect) (any_after plan)
  ]

pub named-counted_all : (plan : List FaultAt) (calls : List (CallKind × ℕ)) (kind : CallKind) (at : ℕ)
    → named (counted_all plan calls) kind at ≡ list_any (λ fault. is_nth calls kind at fault) plan
named-counted_all plan calls kind at = any_after (λ hit effect. hit) (λ effect. refl) calls kind at plan

pub takes_effect-counted_all : (plan : List FaultAt) (calls : List (CallKind × ℕ)) (kind : CallKind) (at : ℕ)
    → takes_effect (counted_all plan calls) kind at ≡ list_any (λ fault. is_nth calls kind at fault && fault.effect) plan
takes_effect-counted_all plan calls kind at = any_after (λ hit effect. hit && effect) (λ effect. refl) calls kind at plan
