use Rattle.core_guards.proofs.ZoneActs.{begins_it}
use Rattle.core_guards.proofs.acts.the_lowest_stream_begins.Goals as goal

pub returns : goal.returns
returns c = λ w may lowest yes. begins_it _ _ _ _ w (c.begin_next.ensures.begun yes) (record { may = may; lowest = lowest })
