-- A discard that passed is answered Ok, so one that is answered as stopped has an entry of the journal, or none at all.
use Rattle.std.proofs.Common.{◌≡◌, true, false, Some, IsNone, List, [], ◌∷◌, ◌++◌, refl, ap, sym, ◌∙◌, subst, inl, inr}
use Rattle.core_laws.proofs.Common.{Answer as Reply, Fails, Flushes, Lba, MayAnswer, Passes, Remapping, RightTrace, Says, Session, Trace, Writer, answer_of, applied, cases_Bool, done, journaled, lines, logged_of, passed, remappings, request_at, same_Some, same_tells, same_writer}
use Rattle.blk_base.specs.declared.request.Answer.TheVariants as reply
use Rattle.blk_base.specs.declared.request.Request.TheVariants as request
use Rattle.vdo_model.specs.declared.report.DeskLine.TheVariants.{Begin, Answer}
use Rattle.core_model.specs.Reports.{handed_in, is_there}
use Rattle.core_laws.proofs.lists.CoreLists.{Has, has_older}
use Rattle.core_laws.proofs.trace.AnswersOfTrace.{there_some}
use Rattle.core_laws.proofs.trace.DeskOfTrace.{logged_has}
use Rattle.core_laws.proofs.trace.PassesOfTrace.{IsPass, passes_are}

stopped_unset : (s : Session) (t : Trace) (w : Writer) (at : Lba) → MayAnswer s t w (request.Discard at) reply.Stopped → IsNone (logged_of (done t) w)
stopped_unset s t w at (inl cause) = cause.2
stopped_unset s t w at (inr at_once) = at_once.1.unset

pub stopped_unpassed : (s : Session) (t : Trace) (w : Writer) → RightTrace s t → Has (passed t) w → answer_of (lines t) w ≡ Some reply.Stopped → ⊥
stopped_unpassed s [] w right has is = absurd cc
stopped_unpassed s (Passes e ∷ t) w right has is = elim (same_tells e.request w) [
  | inl same ↦
      let none : IsNone (answer_of (lines t) w) = subst (λ (x : Writer). IsNone (answer_of (lines t) x)) same.1 right.0.is_open.unanswered in
      absurd (let no = rw is at none in cc)
  | inr other ↦ stopped_unpassed s t w right.2 (rw other.0 at has) is
]
stopped_unpassed s (Says (Begin v) ∷ t) w right has is = stopped_unpassed s t w right.2 has is
stopped_unpassed s (Says (Answer v a) ∷ t) w right has is = elim (same_tells v w) [
  | inl same ↦
      let found = there_some (logged_of (passed t) w) has in
      let pass = logged_has (IsPass s) (passed t) w found.0 found.1 (passes_are s t right.2) in
      let asked : request_at s.script v ≡ Some (request.Discard found.0.at) = ap (request_at s.script) (same.1 ∙ sym pass.1) ∙ pass.0.asked in
      let stopped : a ≡ reply.Stopped = same_Some a reply.Stopped (rw same.0 at is) in
      let none = stopped_unset s t v found.0.at (subst (λ (b : Reply). MayAnswer s t v (request.Discard found.0.at) b) stopped (right.0.1 _ asked)) in
      let some = there_some (logged_of (done t) v) (subst (λ (x : Writer). Has (done t) x) (sym same.1) (has_older (remappings (applied t)) (passed t) w has)) in
      absurd (let no = rw some.1 at none in cc)
  | inr other ↦ stopped_unpassed s t w right.2 has (rw other.0 at is)
]
stopped_unpassed s (Flushes m ∷ t) w right has is = elim (same_tells m.request w) [
  | inl same ↦ absurd (let no : Some reply.Ok ≡ Some reply.Stopped = rw same.0 at is in cc)
  | inr other ↦ stopped_unpassed s t w right.2 has (rw other.0 at is)
]
stopped_unpassed s (Fails v c true ∷ t) w right has is = stopped_unpassed s t w right.2 has is
stopped_unpassed s (other ∷ t) w right has is = stopped_unpassed s t w right.2 has is

there_front : (xs ys : List Remapping) (w : Writer) → is_there (logged_of ys w) ≡ false → is_there (logged_of (xs ++ ys) w) ≡ is_there (logged_of xs w)
there_front [] ys w none = none
there_front (x ∷ xs) ys w none = elim (cases_Bool (same_writer x.request w)) [ inl same ↦ rw same refl | inr other ↦ rw other (there_front xs ys w none) ]

-- so the journal's entries say whether its own was handed in
pub handed_journaled : (s : Session) (t : Trace) (w : Writer) → RightTrace s t → answer_of (lines t) w ≡ Some reply.Stopped → handed_in t w ≡ is_there (logged_of (remappings (journaled t)) w)
handed_journaled s t w right is = elim (cases_Bool (is_there (logged_of (passed t) w))) [
  | inl has ↦ absurd (stopped_unpassed s t w right has is)
  | inr none ↦ there_front (remappings (journaled t)) (passed t) w none
]
