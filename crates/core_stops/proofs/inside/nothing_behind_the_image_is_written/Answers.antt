use Rattle.core_stops.proofs.InsideLaws.{events_inside, inside_both, unchanged}
use Rattle.recovery_laws.proofs.InsideLaws.{reads_below}
use Rattle.blk_base.specs.Regions.{needed_blocks}
use Rattle.core_stops.proofs.inside.nothing_behind_the_image_is_written.Goals as goal

pub returns-clause-session : goal.returns-clause-session
returns-clause-session c = λ sizes old new some leads inside. events_inside sizes some old new leads inside

pub returns-clause-reads : goal.returns-clause-reads
returns-clause-reads c = λ g reads only. reads_below (needed_blocks g) reads only

pub returns-clause-both : goal.returns-clause-both
returns-clause-both c = inside_both

pub returns-clause-unchanged : goal.returns-clause-unchanged
returns-clause-unchanged c = λ opening blocks first calls head accepted one are b behind below now is. unchanged opening blocks first calls head accepted one are b behind below now is
