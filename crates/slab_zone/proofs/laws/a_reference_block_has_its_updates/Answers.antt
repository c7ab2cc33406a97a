use Rattle.slab_zone.proofs.ZoneLaws.{reference_updates}
use Rattle.slab_zone.proofs.laws.a_reference_block_has_its_updates.Goals as goal

pub returns : goal.returns
returns c = λ opened_as zone zones room first old new calls need bytes work opened is many lead did kind above.
    reference_updates opened_as zone zones room first opened is need old new calls bytes work lead did kind many above
