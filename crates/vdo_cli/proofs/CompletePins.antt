-- Rows that pin what a run does in which nothing failed (`NoneRose`, `NeedsNoFault`, `IsComplete`): for each some that it accepts, and
-- some that break one part alone.
use Rattle.std.proofs.Common.{◌≡◌, [], ◌∷◌, length, Some, None, refl, ap, inl, inr, arith}
use Rattle.disk_model.proofs.StreamExample.{sink}
use Rattle.blk_base.specs.declared.request.Answer.{Answer as Reply}
use Rattle.blk_base.specs.declared.request.Answer.TheVariants as reply
use Rattle.blk_base.specs.declared.request.Request.TheVariants as request
use Rattle.vdo_model.specs.DeskLog.{answer_of}
use Rattle.vdo_model.specs.Scripts.{Script}
use Rattle.vdo_model.specs.declared.report.DeskLine.TheVariants.{Answer, Begin}
use Rattle.vdo_model.specs.declared.report.RunReport.{RunReport}
use Rattle.vdo_model.proofs.Example.{of_a}
use Rattle.vdo_cli.specs.declared.fault.Fault.TheVariants as fault
use Rattle.vdo_cli.specs.Complete.{IsComplete, NeedsNoFault, NoneRose}
use Rattle.vdo_cli.specs.Outsides.{no_report, outcome, outside}
use Rattle.vdo_cli.proofs.PlayPins.{device, source}

-- no count rose where all are as they were; each of the three is asked
none-rose : NoneRose (outside (device [] [] 3 0) (source [] 2) (sink [] 1)) (outside (device [] [] 3 0) (source [] 2) (sink [] 1))
none-rose = record { device = λ rose. omega (arith, rose); source = λ rose. omega (arith, rose); sink = λ rose. omega (arith, rose) }

none-not_of_the_device : NoneRose (outside (device [] [] 3 0) (source [] 2) (sink [] 1)) (outside (device [] [] 4 0) (source [] 2) (sink [] 1)) → ⊥
none-not_of_the_device none = none.device (omega arith)

none-not_of_the_source : NoneRose (outside (device [] [] 3 0) (source [] 2) (sink [] 1)) (outside (device [] [] 3 0) (source [] 3) (sink [] 1)) → ⊥
none-not_of_the_source none = none.source (omega arith)

none-not_of_the_sink : NoneRose (outside (device [] [] 3 0) (source [] 2) (sink [] 1)) (outside (device [] [] 3 0) (source [] 2) (sink [] 2)) → ⊥
none-not_of_the_sink none = none.sink (omega arith)

-- an answer that says that there was no room needs no fault, and one of a device that failed does
full-needs_none : NeedsNoFault reply.Full
full-needs_none = tt

no_space-needs_none : NeedsNoFault reply.NoSpace
no_space-needs_none = tt

read_fault-needs_one : NeedsNoFault reply.ReadFault → ⊥
read_fault-needs_one fine = fine

stopped-needs_one : NeedsNoFault reply.Stopped → ⊥
stopped-needs_one fine = fine

damaged-needs_one : NeedsNoFault reply.Damaged → ⊥
damaged-needs_one fine = fine

-- A script of one request, which was answered so.
abbrev flushes : Script
flushes = (request.Flush ∷ []) ∷ []

abbrev answered : Reply → RunReport
answered a = record no_report { requests = flushes; desk = Answer (of_a 0) a ∷ Begin (of_a 0) ∷ [] }

complete-not_lost : IsComplete flushes (outcome 0 (answered reply.Stopped) None) → ⊥
complete-not_lost (inl all) = lost (all.each (of_a 0) request.Flush refl)
  where
    lost : (a : Reply) × (answer_of (answered reply.Stopped).desk (of_a 0) ≡ Some a) × NeedsNoFault a → ⊥
    lost (reply.Stopped, is, fine) = fine
    lost (reply.ReadFault, is, fine) = fine
    lost (reply.Damaged, is, fine) = fine
    lost (reply.NoSpace, is, fine) = absurd (cc is)
    lost (reply.Ok, is, fine) = absurd (cc is)
    lost (reply.Bytes bytes, is, fine) = absurd (cc is)
    lost (reply.Range, is, fine) = absurd (cc is)
    lost (reply.Full, is, fine) = absurd (cc is)
complete-not_lost (inr memory) = absurd (let is = memory.0 in cc)

complete-not_unanswered : IsComplete flushes (outcome 0 (record no_report { requests = flushes }) None) → ⊥
complete-not_unanswered (inl all) = let answer = all.each (of_a 0) request.Flush refl in absurd (let is = answer.1 in cc is)
complete-not_unanswered (inr memory) = absurd (let is = memory.0 in cc)

complete-not_of_another_script : IsComplete flushes (outcome 0 no_report None) → ⊥
complete-not_of_another_script (inl all) = let size = ap length all.requests in omega (arith, size)
complete-not_of_another_script (inr memory) = absurd (let is = memory.0 in cc)

-- the status is 0 or 1, and 5 for want of memory
complete-of_no_request : IsComplete [] (outcome 1 no_report None)
complete-of_no_request = inl (record { ended = refl; status = omega arith; requests = refl; each = λ w r asked. absurd (cc asked) })

complete-not_struck : IsComplete [] (outcome 3 no_report None) → ⊥
complete-not_struck (inl all) = let low = all.status in omega (arith, low)
complete-not_struck (inr memory) = let is = memory.1 in omega (arith, is)

complete-out_of_memory : IsComplete flushes (outcome 5 no_report (Some fault.Memory))
complete-out_of_memory = inr (refl, refl)

complete-not_of_a_read_fault : IsComplete flushes (outcome 7 no_report (Some fault.Read)) → ⊥
complete-not_of_a_read_fault (inl all) = absurd (let is = all.ended in cc is)
complete-not_of_a_read_fault (inr memory) = let is = memory.1 in omega (arith, is)
