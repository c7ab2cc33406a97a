use Rattle.slab_zone.proofs.ZoneLaws.{journal_taken}
use Rattle.slab_zone.proofs.laws.a_journal_block_has_updates_taken_here.Goals as goal

pub returns : goal.returns
returns c = λ opened_as zone zones room first old new calls need bytes work opened is lead did kind.
    journal_taken opened_as zone zones room first opened is need old new calls bytes work lead did kind
