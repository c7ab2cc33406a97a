use Rattle.vdo_core.proofs.SessionLaws.{all_can_step, few_zones}
use Rattle.vdo_core.proofs.cores.Core.from_zones.Goals as goal

pub of-notes-requires-clause-can : goal.of-notes-requires-clause-can
of-notes-requires-clause-can c = all_can_step c.args.core.sizes c.args.core.zones c.requires.reached

pub of-notes-requires-clause-few : goal.of-notes-requires-clause-few
of-notes-requires-clause-few c = few_zones c.args.core.sizes c.args.core.zones c.requires.reached
