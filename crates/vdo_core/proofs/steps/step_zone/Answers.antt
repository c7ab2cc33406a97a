use Rattle.std.proofs.Common.{refl}
use Rattle.vdo_core.proofs.PlayLaws.{comes_less}
use Rattle.vdo_core.proofs.steps.step_zone.Goals as goal

pub returns-in-Device-clause-stays : goal.returns-in-Device-clause-stays
returns-in-Device-clause-stays g c = rw c.in-Device.is c.step_device.ensures.stays

pub returns-in-Device-clause-steps : goal.returns-in-Device-clause-steps
returns-in-Device-clause-steps g c = rw c.in-Device.is c.step_device.ensures.steps

pub returns-in-Other-clause-steps : goal.returns-in-Other-clause-steps
returns-in-Other-clause-steps g c =
    rw c.in-Other.is (comes_less _ _ _ _ _ c.step_alone.result (λ all at. all g.D.Disk.trust at) (λ same. (same, λ at. refl)) c.step_alone.ensures)
