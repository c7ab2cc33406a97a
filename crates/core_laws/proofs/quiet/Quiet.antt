-- The quiet writes of a run: of each image behind the flush in front of one, and of that which was opened, all data blocks but a few are
-- mapped.
use Rattle.std.proofs.Common.{◌≡◌, ◌⊎◌, ◌++◌, Some, List, [], ◌∷◌, append_assoc, length, Contains, ap, refl, sym, ◌∙◌, subst, inl, inr, arith, ℕ}
use Rattle.blk_base.specs.Regions.{IsDataBlock}
use Rattle.blk_base.specs.declared.geometry.Geometry.{Geometry}
use Rattle.blk_base.specs.declared.request.Answer.TheVariants as reply
use Rattle.blk_base.specs.declared.request.Request.TheVariants as request
use Rattle.core_laws.proofs.Common.{DeskLine, IsFair, IsSession, Pbn, RightTrace, Session, Trace, append-nil, calls, fair_part, lines, marks, request_at}
use Rattle.core_laws.proofs.device.LeafReads.{each_of}
use Rattle.core_laws.proofs.quiet.FlushImages.{opened_is_mapped, used_is_mapped}
use Rattle.core_model.specs.Start.{IsFirst}
use Rattle.core_laws.proofs.kept.FirstState.{legal_first}
use Rattle.core_laws.proofs.kept.LegalMoves.{legal_leads}
use Rattle.core_laws.proofs.quiet.CutRuns.{cut_before_begin}
use Rattle.core_laws.proofs.quiet.TakenAlone.{full_before}
use Rattle.vdo_model.specs.QuietWrites.{AllBegunAreAnswered, AreUsedBut, IsFullAtFirst, IsFullAtFlush, QuietRight, flush_and_write}
use Rattle.core_laws.proofs.trace.Cuts.{right_part}
use Rattle.core_laws.proofs.trace.MarksOfTrace.{IsOfFlush, only_flushes}
use Rattle.core_model.specs.Legal.{Legal}
use Rattle.core_model.specs.Reports.{IsMappedIn, report_of}
use Rattle.core_model.specs.Uses.{IsUsedAt}
use Rattle.core_model.specs.Steps.{Core, Leads}
use Rattle.vdo_model.specs.declared.report.DeskLine.TheVariants.{Begin, Answer}

-- what is used by one word is used by another that follows from it
pub still_used : (few : ℕ) (g : Geometry) (P Q : Pbn → Type 0) → ((x : Pbn) → IsDataBlock g x.0 → P x → Q x) → AreUsedBut few g P → AreUsedBut few g Q
still_used few g P Q follows are = record { others = are.others; at_most = are.at_most; used = λ x is_data. either x is_data (are.used x is_data) }
  where
    either : (x : Pbn) → IsDataBlock g x.0 → P x ⊎ Contains are.others x → Q x ⊎ Contains are.others x
    either x is_data (inl used) = inl (follows x is_data used)
    either x is_data (inr other) = inr other

module _ (s : Session) (first last : Core) (session : IsSession s) (begins : Legal s first) (empty : first.trace ≡ []) (leads : Leads s.sizes first last) (legal : Legal s last) (fair : IsFair s last.trace) where
  -- right behind a flush
  full_at_flush : IsFullAtFlush (IsMappedIn s.sizes.geometry s.sizes.start) s.sizes.geometry s.blocks s.before (report_of s last.trace) (calls last.trace)
  full_at_flush newer older f w said quiet marked later prefix calls_are size image is =
      let t = last.trace in
      let front : List DeskLine = Answer w reply.NoSpace ∷ Begin w ∷ [] in
      let three : List DeskLine = Answer w reply.NoSpace ∷ Begin w ∷ Answer f.request reply.Ok ∷ [] in
      let two : List DeskLine = Answer f.request reply.Ok ∷ Begin f.request ∷ [] in
      let none = ap (λ (u : Trace). length (lines u)) empty in
      let c = cut_before_begin s first last session leads begins (newer ++ three) older f.request (omega (arith, none)) (said ∙ sym (append_assoc newer three (Begin f.request ∷ older))) in
      let all : AllBegunAreAnswered (lines c.mid.trace) = subst AllBegunAreAnswered (sym c.lines_are) quiet in
      let lines_are : lines t ≡ newer ++ flush_and_write f w (lines c.mid.trace) = subst (λ (ls : List DeskLine). lines t ≡ newer ++ flush_and_write f w ls) (sym c.lines_are) said in
      let asked : request_at s.script f.request ≡ Some request.Flush = (each_of (IsOfFlush s t) (marks t) f (only_flushes s t legal.right) marked).0 in
      let full = full_before s t c.mid.trace c.more newer two w legal.right c.parts lines_are (inr (f.request, asked, refl)) all in
      let behind : lines t ≡ (newer ++ front) ++ (Answer f.request reply.Ok ∷ Begin f.request ∷ lines c.mid.trace) = lines_are ∙ sym (append_assoc newer front (Answer f.request reply.Ok ∷ Begin f.request ∷ lines c.mid.trace)) in
      still_used _ s.sizes.geometry (IsUsedAt s c.mid.trace) (IsMappedIn s.sizes.geometry s.sizes.start image)
      (λ x is_data used. used_is_mapped s c.mid session c.legal all t c.more legal.right fair c.parts (newer ++ front) f behind marked later prefix calls_are size image is x is_data used) full

  -- and as the first request of all
  full_at_first : IsFullAtFirst (IsMappedIn s.sizes.geometry s.sizes.start) s.sizes.geometry s.blocks s.before (report_of s last.trace)
  full_at_first newer w said image is =
      let t = last.trace in
      let whole : t ≡ t ++ [] = sym (append-nil t) in
      let right : RightTrace s [] = right_part s t [] (subst (RightTrace s) whole legal.right) in
      let opened : IsFair s [] = fair_part s t [] (subst (IsFair s) whole fair) in
      let full = full_before s t [] t newer [] w legal.right whole said (inl refl) (λ v early. absurd (omega (arith, early))) in
      still_used _ s.sizes.geometry (IsUsedAt s []) (IsMappedIn s.sizes.geometry s.sizes.start image) (λ x is_data used. opened_is_mapped s image session right opened is x used) full

  -- So each quiet write of a run is right.
  pub quiet_right : QuietRight (IsMappedIn s.sizes.geometry s.sizes.start) s.sizes.geometry s.blocks s.before (report_of s last.trace) (calls last.trace)
  quiet_right = record { at_flush = full_at_flush; at_first = full_at_first }

-- and so from the first core on
pub quiet_writes : (s : Session) (first last : Core) → IsSession s → IsFirst s first → Leads s.sizes first last → IsFair s last.trace
    → QuietRight (IsMappedIn s.sizes.geometry s.sizes.start) s.sizes.geometry s.blocks s.before (report_of s last.trace) (calls last.trace)
quiet_writes s first last session begins leads fair =
    let legal = legal_first s first begins session in
    quiet_right s first last session legal begins.trace_is leads (legal_leads s first last session leads legal) fair
