use Rattle.device_zone.proofs.NoticeLaws.{all_told}
use Rattle.device_zone.proofs.stop_notices.notify.Goals as goal

pub returns : goal.returns
returns c = all_told c.args.sizes.now _ _ _ _ c.push.ensures c.notify_physical.ensures.posts c.notify_logical.ensures
