-- A legal core is done where each request is answered, and only there.
use Rattle.std.proofs.Common.{◌≡◌, Some, List, length, slice_get, ap, subst, arith}
use Rattle.core_limits.proofs.FullLogs.{answered_when_full, full_when_answered}
use Rattle.core_laws.proofs.Common.{AllAnswered, DataOk, DeskLine, Script, Session, Zone, ZoneData, desk_number, lines}
use Rattle.core_laws.proofs.kept.ZoneKinds.{desk_sits}
use Rattle.core_laws.proofs.trace.DeskOfTrace.{desk_log_right}
use Rattle.core_model.specs.DeskData.{Desk}
use Rattle.core_model.specs.Legal.{Legal}
use Rattle.core_model.specs.SessionLimits.{requests_in}
use Rattle.core_model.specs.Steps.{Core}
use Rattle.core_model.specs.declared.zones.ZoneData.TheVariants as at
use Rattle.vdo_core.specs.Done.{IsDone}

module _ (s : Session) (core : Core) (legal : Legal s core) where
  -- what the desk of the core says of itself
  desk_is : (zone : Zone) (desk : Desk) → slice_get core.zones desk_number ≡ Some zone → zone.keeps ≡ at.Desk desk → DataOk s core.trace desk_number (at.Desk desk)
  desk_is zone desk had keeps = subst (λ (d : ZoneData). DataOk s core.trace desk_number d) keeps (legal.each desk_number zone had).own

  -- its log is full where the lines are, over the requests of the session
  same_full : (zone : Zone) (desk : Desk) → slice_get core.zones desk_number ≡ Some zone → zone.keeps ≡ at.Desk desk
      → (length desk.log ≡ length (lines core.trace)) × (requests_in desk.requests ≡ requests_in s.script)
  same_full zone desk had keeps =
      let k = desk_is zone desk had keeps in
      (ap (λ (log : List DeskLine). length log) k.lists.log_is, ap (λ (script : Script). requests_in script) k.sound.requests)

  pub answered_when_done : IsDone core.zones → AllAnswered s.script (lines core.trace)
  answered_when_done done =
      let same = same_full done.zone done.desk done.had done.keeps in
      answered_when_full s.sizes.depth s.script (lines core.trace) (desk_log_right s core.trace legal.right) (omega (arith, same.0, same.1, done.full))

  pub done_when_answered : AllAnswered s.script (lines core.trace) → IsDone core.zones
  done_when_answered all =
      let sits = desk_sits s core.trace core.zones legal.each legal.count in
      let same = same_full sits.zone sits.it sits.had sits.keeps in
      let full = full_when_answered s.sizes.depth s.script (lines core.trace) (desk_log_right s core.trace legal.right) all in
      record { zone = sits.zone; desk = sits.it; had = sits.had; keeps = sits.keeps; full = omega (arith, same.0, same.1, full) }
