-- A call of a zone has one result.
use Rattle.std.specs.Prelude.{ℕ, ◌≡◌, Bool, true, false, List, Some}
use Rattle.std.proofs.Common.{sym, ◌∙◌, ap, subst, arith, inl, inr, refl, set}
use Rattle.std.proofs.lemmas.Bool.{cases_lt}
use Rattle.blk_base.specs.declared.place.Pbn.{Pbn}
use Rattle.blk_base.specs.declared.point.Half.{Half}
use Rattle.blk_base.specs.declared.point.Half.TheVariants.{Increment, Decrement}
use Rattle.blk_base.specs.declared.request.Writer.{Writer}
use Rattle.slab_counts.specs.Counts.{Counts, ClaimsFree, Takes}
use Rattle.slab_counts.specs.declared.refusals.Refusal.{Refusal}
use Rattle.slab_counts.specs.declared.tickets.Ticket.{Ticket}
use Rattle.slab_counts.proofs.AnswerLaws.{one_free, shared_or_refused, one_refusal}
use Rattle.slab_tickets.specs.Tickets.{Desk, Gives, begun}
use Rattle.slab_tickets.specs.declared.forms.Withdrawn.{Withdrawn}
use Rattle.slab_tickets.proofs.OneAnswer.{one_issued, one_given, one_waiting, one_withdrawn}
use Rattle.slab_tickets.specs.declared.forms.Waiting.{Waiting}
use Rattle.zone_counts.specs.ByBlock.{served_ticket}
use Rattle.zone_counts.specs.Zone.{Zone, BeginsStep, Changes, ClaimsLowest, NoneFree, Serves, slab_at, slab_of, with_slab, index_of}
use Rattle.zone_counts.specs.ZoneAnswers.{Asks, SharesIn, IsRefusedIn, WithdrawsFrom}
use Rattle.zone_counts.specs.declared.forms.Asked.{Asked}
use Rattle.zone_counts.specs.declared.forms.Asked.TheVariants as asked

-- the lowest free block is one
pub one_lowest : (old new new' : List Counts) (at at' : Pbn) → ClaimsLowest old new at → ClaimsLowest old new' at' → (at ≡ at') × (new ≡ new')
one_lowest old new new' at at' one other =
    let place : one.place ≡ other.place = elim (cases_lt one.place other.place) [
      | inl below ↦ absurd (other.before one.place below at one.claims.of_slab one.claims.free)
      | inr above ↦ elim (cases_lt other.place one.place) [
        | inl less ↦ absurd (one.before other.place less at' other.claims.of_slab other.claims.free)
        | inr equal ↦ omega arith
      ]
    ] in
    let there : ClaimsFree (slab_at old one.place) other.slab at' = subst (λ (k : ℕ). ClaimsFree (slab_at old k) other.slab at') (sym place) other.claims in
    let same = one_free (slab_at old one.place) one.slab at other.slab at' one.claims there in
    (same.0, one.after ∙ ap (λ (c : Counts). set old one.place c) same.1 ∙ ap (λ (k : ℕ). set old k other.slab) place ∙ sym other.after)

lowest_or_none : (old new : List Counts) (at : Pbn) → ClaimsLowest old new at → NoneFree old → ⊥
lowest_or_none old new at one none = none one.place one.inside at one.claims.of_slab one.claims.free

-- what a request is answered
pub one_asked : (old new new' : Zone) (writer : Writer) (answer answer' : Asked) → Asks old new writer answer → Asks old new' writer answer' → (new ≡ new') × (answer ≡ answer')
one_asked old new new' writer (asked.Block at) (asked.Block at') one other =
    let same = one_lowest old.slabs new.slabs new'.slabs at at' one.claims other.claims in
    (one.same ∙ ap (λ (xs : List Counts). record old { slabs = xs }) same.1 ∙ sym other.same, ap (λ (b : Pbn). asked.Block b) same.0)
one_asked old new new' writer (asked.Block at) (asked.Ticket ticket) one other = absurd (lowest_or_none old.slabs new.slabs at one.claims other.none_free)
one_asked old new new' writer (asked.Ticket ticket) (asked.Block at) one other = absurd (lowest_or_none old.slabs new'.slabs at other.claims one.none_free)
one_asked old new new' writer (asked.Ticket ticket) (asked.Ticket ticket') one other =
    let same = one_issued old.desk new.desk new'.desk writer ticket ticket' one.issues other.issues in
    (one.same ∙ ap (λ (d : Desk). record old { desk = d }) same.0 ∙ sym other.same, ap (λ (t : Ticket). asked.Ticket t) same.1)

pub one_worth : (old new new' : Zone) (ticket : Ticket) (result result' : Withdrawn) → WithdrawsFrom old new ticket result → WithdrawsFrom old new' ticket result' → (new ≡ new') × (result ≡ result')
one_worth old new new' ticket result result' one other =
    let same = one_withdrawn old.desk new.desk new'.desk ticket result result' one.withdraws other.withdraws in
    (one.same ∙ ap (λ (d : Desk). record old { desk = d }) same.0 ∙ sym other.same, same.1)

-- how a step begins
same_free : (b b' : Bool) (none : Type 0) → (b ≡ true → ¬ none) → (b' ≡ false → none) → (b ≡ false → none) → (b' ≡ true → ¬ none) → b ≡ b'
same_free true true none some full some' full' = refl
same_free true false none some full some' full' = absurd (some refl (full refl))
same_free false true none some full some' full' = absurd (full' refl (some' refl))
same_free false false none some full some' full' = refl

pub one_begun : (old new new' : Zone) (step : ℕ) → BeginsStep old new step → BeginsStep old new' step → new ≡ new'
one_begun old new new' step one other =
    let same = same_free one.0 other.0 (NoneFree old.slabs) one.1.some other.1.none one.1.none other.1.some in
    one.1.after ∙ ap (λ (b : Bool). record old { desk = begun b step old.desk }) same ∙ sym other.1.after

-- who is served
one_served : (slabs s s' : List Counts) (desk d d' : Desk) → Serves slabs desk s d → Serves slabs desk s' d' → (s ≡ s') × (d ≡ d')
one_served slabs s s' desk d d' (inl one) (inl other) = (one.1 ∙ sym other.1, one.2 ∙ sym other.2)
one_served slabs s s' desk d d' (inl (inl quiet, same, same')) (inr other) = let oldest = other.gives.oldest in absurd cc
one_served slabs s s' desk d d' (inl (inr none, same, same')) (inr other) = absurd (lowest_or_none slabs s' other.block other.claims none)
one_served slabs s s' desk d d' (inr one) (inl (inl quiet, same, same')) = let oldest = one.gives.oldest in absurd cc
one_served slabs s s' desk d d' (inr one) (inl (inr none, same, same')) = absurd (lowest_or_none slabs s one.block one.claims none)
one_served slabs s s' desk d d' (inr one) (inr other) =
    let same = one_lowest slabs s s' one.block other.block one.claims other.claims in
    (same.1, one_given desk d d' one.block one.gives (subst (λ (b : Pbn). Gives desk d' b) (sym same.0) other.gives))

-- and by which ticket
pub one_ticket : (slabs slabs' s s' : List Counts) (desk d d' : Desk) → slabs ≡ slabs' → (one : Serves slabs desk s d) → (other : Serves slabs' desk s' d') → served_ticket one ≡ served_ticket other
one_ticket slabs slabs' s s' desk d d' same (inl one) (inl other) = refl
one_ticket slabs slabs' s s' desk d d' same (inl (inl quiet, kept, kept')) (inr other) = let oldest = other.gives.oldest in absurd cc
one_ticket slabs slabs' s s' desk d d' same (inl (inr none, kept, kept')) (inr other) = absurd (lowest_or_none slabs' s' other.block other.claims (subst NoneFree same none))
one_ticket slabs slabs' s s' desk d d' same (inr one) (inl (inl quiet, kept, kept')) = let oldest = one.gives.oldest in absurd cc
one_ticket slabs slabs' s s' desk d d' same (inr one) (inl (inr none, kept, kept')) = absurd (lowest_or_none slabs s one.block one.claims (subst NoneFree (sym same) none))
one_ticket slabs slabs' s s' desk d d' same (inr one) (inr other) = ap (λ (w : Waiting). Some w.number) (one_waiting desk d d' one.block other.block one.gives other.gives)

one_taken : (half : Half) (old c c' : Counts) (at : Pbn) → Takes half old c at → Takes half old c' at → c ≡ c'
one_taken Increment old c c' at one other = one.2 ∙ sym other.2
one_taken Decrement old c c' at one other = one.1 ∙ sym other.1

pub one_passed : (half : Half) (old new new' : Zone) (at : Pbn) (c c' : Counts) → Takes half (slab_of old at) c at → (one : Changes old new at c) → Takes half (slab_of old at) c' at → (other : Changes old new' at c')
    → served_ticket one.serves ≡ served_ticket other.serves
one_passed half old new new' at c c' takes one takes' other =
    one_ticket (set old.slabs (index_of old at) c) (set old.slabs (index_of old at) c') new.slabs new'.slabs old.desk new.desk new'.desk
    (ap (λ (x : Counts). set old.slabs (index_of old at) x) (one_taken half (slab_of old at) c c' at takes takes')) one.serves other.serves

pub one_changed : (old new new' : Zone) (at : Pbn) (counts : Counts) → Changes old new at counts → Changes old new' at counts → new ≡ new'
one_changed old new new' at counts one other =
    let same = one_served (set old.slabs (index_of old at) counts) new.slabs new'.slabs old.desk new.desk new'.desk one.serves other.serves in
    one.same ∙ ap (λ (xs : List Counts). record old { slabs = xs; desk = new.desk }) same.0 ∙ ap (λ (d : Desk). record old { slabs = new'.slabs; desk = d }) same.1 ∙ sym other.same

pub one_applied : (half : Half) (old new new' : Zone) (at : Pbn) (c c' : Counts) → Takes half (slab_of old at) c at → Changes old new at c → Takes half (slab_of old at) c' at → Changes old new' at c' → new ≡ new'
one_applied half old new new' at c c' takes one takes' other =
    one_changed old new new' at c one (subst (λ (x : Counts). Changes old new' at x) (sym (one_taken half (slab_of old at) c c' at takes takes')) other)

-- what is shared, or refused
pub one_shared : (old new new' : Zone) (at : Pbn) → SharesIn old new at → SharesIn old new' at → new ≡ new'
one_shared old new new' at one other = one.after ∙ ap (λ (c : Counts). with_slab old at c) (one.shares.now_claimed ∙ sym other.shares.now_claimed) ∙ sym other.after

pub shared_not_refused : (old new : Zone) (at : Pbn) (refusal : Refusal) → SharesIn old new at → IsRefusedIn refusal old at → ⊥
shared_not_refused old new at refusal shares (inl outside) = outside.1 shares.own
shared_not_refused old new at refusal shares (inr refused) = shared_or_refused (slab_of old at) shares.slab at refusal shares.shares refused.1

pub one_cause : (old : Zone) (at : Pbn) (one other : Refusal) → IsRefusedIn one old at → IsRefusedIn other old at → one ≡ other
one_cause old at one other (inl is) (inl is') = is.0 ∙ sym is'.0
one_cause old at one other (inl is) (inr is') = absurd (is.1 is'.0)
one_cause old at one other (inr is) (inl is') = absurd (is'.1 is.0)
one_cause old at one other (inr is) (inr is') = one_refusal (slab_of old at) at one other is.1 is'.1
