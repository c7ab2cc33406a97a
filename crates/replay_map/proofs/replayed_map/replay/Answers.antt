use Rattle.disk_model.proofs.SinceLaws.{untouched_on}
use Rattle.replay_map.proofs.replayed_map.replay.Goals as goal

pub returns-in-Ok-clause-untouched : goal.returns-in-Ok-clause-untouched
returns-in-Ok-clause-untouched g c = untouched_on g.D.Disk.trust.tells _ _ _ c.read_window.ensures.untouched c.replay_with.ensures.untouched

pub returns-clause-untouched : goal.returns-clause-untouched
returns-clause-untouched g c = untouched_on g.D.Disk.trust.tells _ _ _ c.read_window.ensures.untouched c.replay_with.ensures.untouched
