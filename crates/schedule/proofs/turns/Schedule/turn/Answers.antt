use Rattle.std.proofs.Common.{ℕ, [], ◌∷◌, ◌∙◌, ap, refl}
use Rattle.disk_model.specs.Numbers.{number_in}
use Rattle.vdo_core.specs.Plays.{vdo}
use Rattle.schedule.specs.Turns.{driving}
use Rattle.schedule.proofs.turns.Schedule.turn.Goals as goal

pub returns-clause-drives : goal.returns-clause-drives
returns-clause-drives g c undone =
    let (made, one) = c.step.ensures.plays in
    let next = c.next_state-next.ensures in
    let stepped = ap (λ (state : ℕ). driving state c.step.new.self.zones (g.D.Disk.seen c.step.new.device)) next in
    rw (← c.self.view_is) (
      c.in-Some.event ∷ [],
      made,
      (vdo c.step.new.self.zones (g.D.Disk.seen c.step.new.device), made, [], undone, c.in-Some.ensures _ (c.number_in.ensures ∙ ap number_in next), one, (stepped, refl), refl),
    )
