use Rattle.std.proofs.Common.{refl}
use Rattle.core_model.specs.JournalRules.JournalServes.{enters, enters_first}
use Rattle.core_model.specs.Steps.Act.{enters as act}
use Rattle.core_guards.proofs.ZoneActs.{journal_does}
use Rattle.core_guards.proofs.acts.an_entry_decrements_nothing_yet.Goals as goal

pub returns-clause-busy : goal.returns-clause-busy
returns-clause-busy c = λ busy.
    (journal_does _ _ _ _ _ _ _ _ c.act.ensures (act (enters c.requires.enters c.requires.opened c.requires.block c.requires.room busy refl refl refl))).1

pub returns-clause-idle : goal.returns-clause-idle
returns-clause-idle c = λ idle.
    (journal_does _ _ _ _ _ _ _ _ c.act.ensures (act (enters_first c.requires.enters c.requires.opened c.requires.block c.requires.room idle refl refl refl))).1
