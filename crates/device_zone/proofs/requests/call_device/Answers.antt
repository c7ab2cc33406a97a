use Rattle.device_zone.proofs.ActLaws.{announced}
use Rattle.device_zone.proofs.requests.call_device.Goals as goal

pub returns-then-waits-clause-serves : goal.returns-then-waits-clause-serves
returns-then-waits-clause-serves g c = announced _ _ _ _ c.args.vio _ _ _ c.requires.can (c.announce.ensures.announces c.args.vio.request)
