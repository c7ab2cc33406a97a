use Rattle.std.proofs.Common.{subst}
use Rattle.core_reports.specs.Rooms.{IsRoomFor}
use Rattle.vdo_model.specs.Scripts.{Script}
use Rattle.vdo_core.specs.Plays.{core_with}
use Rattle.vdo_core.proofs.DoneLaws.{answered_when_done}
use Rattle.vdo_core.proofs.SessionLaws.{legal_here, one_script}
use Rattle.vdo_core.proofs.cores.Core.report.Goals as goal

pub returns : goal.returns
returns c s t session legal done =
    let reached = c.self.invariant.whole.reached in
    let here = rw (← c.self.view_is) at legal in
    let room = subst (λ (script : Script). IsRoomFor c.self.inside.room script) (one_script reached.session s c.self.inside.zones reached.trace t (legal_here c.self.inside.sizes c.self.inside.zones reached) here) c.self.invariant.whole.has_room in
    c.report.ensures s t session (rw c.into_vec.ensures here) (answered_when_done s (core_with c.args.self.zones t) legal done) room
