use Rattle.slab_zone.proofs.ZoneLaws.{low_durable, none_durable}
use Rattle.slab_zone.proofs.laws.every_update_below_the_low_point_is_durable.Goals as goal

pub returns-clause-some : goal.returns-clause-some
returns-clause-some c = λ opened_as zone zones room first new calls slab entry low opened is many lead inside mine above there lowest less.
    low_durable opened_as zone zones room first opened is new calls slab entry many lead inside mine above there low lowest less

pub returns-clause-none : goal.returns-clause-none
returns-clause-none c = λ opened_as zone zones room first new calls slab entry opened is many lead inside mine above there none.
    none_durable opened_as zone zones room first opened is new calls slab entry many lead inside mine above there none
