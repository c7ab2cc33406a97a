use Rattle.disk_model.proofs.SinceLaws.{untouched_on}
use Rattle.crash_images.proofs.ValueLaws.{mapping_behind}
use Rattle.crash_images.proofs.values.read_value.Goals as goal

pub returns-in-Ok-clause-value : goal.returns-in-Ok-clause-value
returns-in-Ok-clause-value g c =
    mapping_behind c.args.found.now c.args.at.0 c.in_ok-mapping.mapping c.in-Ok.block c.in_ok-mapping.ensures.untouched c.in_ok-mapping.ensures.mapping c.in-Ok.ensures.value

pub returns-in-Ok-clause-untouched : goal.returns-in-Ok-clause-untouched
returns-in-Ok-clause-untouched g c = untouched_on _ _ _ _ c.in_ok-mapping.ensures.untouched c.in-Ok.ensures.untouched

pub returns-in-Err-clause-untouched : goal.returns-in-Err-clause-untouched
returns-in-Err-clause-untouched g c = untouched_on _ _ _ _ c.in_ok-mapping.ensures.untouched c.in-Err.ensures.untouched
