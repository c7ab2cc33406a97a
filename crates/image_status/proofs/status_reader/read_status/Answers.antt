use Rattle.disk_model.proofs.SinceLaws.{untouched_on}
use Rattle.image_status.proofs.status_reader.read_status.Goals as goal

pub returns-in_err-window-clause-untouched : goal.returns-in_err-window-clause-untouched
returns-in_err-window-clause-untouched g c = untouched_on _ _ _ _ c.read_head.ensures.untouched c.read_window.ensures.untouched

pub returns-in-Ok-clause-untouched : goal.returns-in-Ok-clause-untouched
returns-in-Ok-clause-untouched g c = untouched_on _ _ _ _ (untouched_on _ _ _ _ c.read_head.ensures.untouched c.read_window.ensures.untouched) c.status_with.ensures.untouched

pub returns-clause-untouched : goal.returns-clause-untouched
returns-clause-untouched g c = untouched_on _ _ _ _ (untouched_on _ _ _ _ c.read_head.ensures.untouched c.read_window.ensures.untouched) c.status_with.ensures.untouched
