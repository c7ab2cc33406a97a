-- Damage in a right trace: an answer that says so has found some, and where the session is fair there is none.
use Rattle.std.proofs.Common.{◌≡◌, Contains, true, false, Option, None, Some, IsSome, List, [], ◌∷◌, refl, sym, subst, inl, inr}
use Rattle.core_laws.proofs.Common.{Answer as Reply, Fails, Flushes, Harms, Hears, IsFair, IsSession, MayAnswer, Remapping, Request, RightTrace, Says, Session, Trace, Writer, answer_of, fair_before, is_harmed, lines, request_at, same_tells}
use Rattle.blk_base.specs.declared.request.Answer.TheVariants as reply
use Rattle.blk_base.specs.declared.request.Request.TheVariants as request
use Rattle.core_laws.proofs.device.LeafReads.{leaf_decodes}
use Rattle.core_laws.proofs.trace.NoStrays.{no_strays}
use Rattle.image_model.proofs.CountLaws.{none_in_nothing}
use Rattle.core_model.specs.Trace.{damage_in, first_of}
use Rattle.vdo_model.specs.declared.report.Damage.{Damage}
use Rattle.vdo_model.specs.declared.report.DeskLine.TheVariants.{Begin, Answer}

first_some : (o : Option Damage) (d : Damage) → IsSome (first_of o d)
first_some None d = refl
first_some (Some e) d = refl

harm_found : (t : Trace) (w : Writer) → is_harmed t w ≡ true → IsSome (damage_in t)
harm_found [] w is = absurd cc
harm_found (Harms v at bytes fault ∷ t) w is = first_some (damage_in t) _
harm_found (Hears damage ∷ t) w is = first_some (damage_in t) damage
harm_found (other ∷ t) w is = harm_found t w is

cause_found : (s : Session) (t : Trace) (w : Writer) (r : Request) → MayAnswer s t w r reply.Damaged → IsSome (damage_in t)
cause_found s t w (request.Read at) cause = harm_found t w cause.1
cause_found s t w (request.Write at bytes fua) cause = harm_found t w cause.2
cause_found s t w (request.Discard at) cause = harm_found t w cause.2
cause_found s t w request.Flush cause = absurd cause

answer_found : (s : Session) (t : Trace) (w : Writer) (r : Request) (a : Reply) → a ≡ reply.Damaged → MayAnswer s t w r a → IsSome (damage_in t)
answer_found s t w r a is cause = cause_found s t w r (subst (MayAnswer s t w r) is cause)

-- so a request that is answered as damaged has found damage
pub damaged_found : (s : Session) (t : Trace) (w : Writer) (r : Request) → RightTrace s t → request_at s.script w ≡ Some r → answer_of (lines t) w ≡ Some reply.Damaged → IsSome (damage_in t)
damaged_found s [] w r right asked is = absurd cc
damaged_found s (Says (Begin v) ∷ t) w r right asked is = damaged_found s t w r right.2 asked is
damaged_found s (Says (Answer v b) ∷ t) w r right asked is = elim (same_tells v w) [
  | inl same ↦
      let cause = right.0.1 r (subst (λ (x : Writer). request_at s.script x ≡ Some r) (sym same.1) asked) in
      let damaged : b ≡ reply.Damaged = (let here = rw same.0 at is in cc) in
      answer_found s t v r b damaged cause
  | inr other ↦ damaged_found s t w r right.2 asked (rw other.0 at is)
]
damaged_found s (Flushes mark ∷ t) w r right asked is = elim (same_tells mark.request w) [
  | inl same ↦ absurd (let here = rw same.0 at is in cc)
  | inr other ↦ damaged_found s t w r right.2 asked (rw other.0 at is)
]
damaged_found s (Harms v at bytes fault ∷ t) w r right asked is = first_some (damage_in t) _
damaged_found s (Hears damage ∷ t) w r right asked is = first_some (damage_in t) damage
damaged_found s (Fails v c true ∷ t) w r right asked is = damaged_found s t w r right.2 asked is
damaged_found s (Fails v c false ∷ t) w r right asked is = damaged_found s t w r right.2 asked is
damaged_found s (other ∷ t) w r right asked is = damaged_found s t w r right.2 asked is

-- in a fair session each leaf that is read decodes, and no decrement finds 0
pub fair_undamaged : (s : Session) (t : Trace) → IsSession s → RightTrace s t → IsFair s t → damage_in t ≡ None
fair_undamaged s [] session right fair = refl
fair_undamaged s (Harms w x bytes fault ∷ t) session right fair =
    let harm = right.0 in
    absurd (leaf_decodes s t session right.2 (fair_before s (Harms w x bytes fault) t fair) harm.leaf.at.0 x bytes fault harm.leaf.stands fair.honest.0 harm.damaged)
fair_undamaged s (Hears damage ∷ t) session right fair =
    absurd (none_in_nothing right.0.entry (subst (λ (es : List Remapping). Contains es right.0.entry) (no_strays s t session right.2 (fair_before s (Hears damage) t fair)) right.0.strays))
fair_undamaged s (other ∷ t) session right fair = fair_undamaged s t session right.2 (fair_before s other t fair)
