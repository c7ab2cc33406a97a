use Rattle.device_zone.proofs.ActLaws.{acts, can_serve, can_work, hears, works_on}
use Rattle.device_zone.proofs.dispatch.act.Goals as goal

pub returns-in-Request-clause-acts : goal.returns-in-Request-clause-acts
returns-in-Request-clause-acts g c = rw c.in-Request.is (acts _ _ _ _ _ _ _ _ c.call_device.ensures.serves)

pub call_device-requires-clause-can : goal.call_device-requires-clause-can
call_device-requires-clause-can g c = can_serve _ _ _ (rw c.in-Request.is at c.requires.rule)

pub returns-in-Block-clause-acts : goal.returns-in-Block-clause-acts
returns-in-Block-clause-acts g c = rw c.in-Block.is (works_on _ _ _ _ _ _ _ _ c.work_block.ensures.works)

pub work_block-requires-clause-some : goal.work_block-requires-clause-some
work_block-requires-clause-some g c = (can_work _ _ _ (rw c.in-Block.is at c.requires.rule)).0

pub work_block-requires-clause-needed : goal.work_block-requires-clause-needed
work_block-requires-clause-needed g c = (can_work _ _ _ (rw c.in-Block.is at c.requires.rule)).1

pub returns-in-Damage-clause-acts : goal.returns-in-Damage-clause-acts
returns-in-Damage-clause-acts g c = rw c.in-Damage.is (hears _ _ _ _ _ _ _ _ c.harm.ensures.zone c.requires.may.none c.harm.ensures.posts)
