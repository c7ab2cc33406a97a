use Rattle.std.proofs.Common.{subst}
use Rattle.core_laws.proofs.Common.{DataOk, ZoneData}
use Rattle.core_laws.proofs.trace.DeskOfTrace.{desk_log_right}
use Rattle.core_laws.proofs.kept.Stopped.{stopped_at_device}
use Rattle.core_laws.proofs.trace.PlacesOfTrace.{places_drawn, places_all, range_told}
use Rattle.core_laws.proofs.trace.ReportOfTrace.{run_right}
use Rattle.core_laws.proofs.laws.a_legal_core_is_in_order.Goals as goal

pub returns-clause-desk_log : goal.returns-clause-desk_log
returns-clause-desk_log c = λ s core legal. desk_log_right s core.trace legal.right

pub returns-clause-drawn : goal.returns-clause-drawn
returns-clause-drawn c = λ s core legal. places_drawn s core.trace legal.right

pub returns-clause-placed : goal.returns-clause-placed
returns-clause-placed c = λ s core w r a legal. places_all s core.trace w r a legal.right

pub returns-clause-at_desk : goal.returns-clause-at_desk
returns-clause-at_desk c = λ s core n z desk legal had keeps.
    let k = subst (λ (d : ZoneData). DataOk s core.trace n d) keeps (legal.each n z had).own in (k.lists.log_is, k.lists.marks_is, k.lists.receipts_is)

pub returns-clause-at_zone : goal.returns-clause-at_zone
returns-clause-at_zone c = λ s core n z l legal had keeps.
    let k = subst (λ (d : ZoneData). DataOk s core.trace n d) keeps (legal.each n z had).own in k.lists.places_is

pub returns-clause-run : goal.returns-clause-run
returns-clause-run c = λ s core session legal. run_right s core.trace session legal.right

pub returns-clause-stopped : goal.returns-clause-stopped
returns-clause-stopped c = stopped_at_device

pub returns-clause-range : goal.returns-clause-range
returns-clause-range c = λ s core w r a answer legal. range_told s core.trace w r a answer legal.right
