use Rattle.std.proofs.Common.{refl}
use Rattle.core_model.specs.JournalRules.JournalEnds.{seals}
use Rattle.core_model.specs.Steps.Act.{ends}
use Rattle.core_guards.proofs.ZoneActs.{journal_does}
use Rattle.core_guards.proofs.acts.a_sealed_block_is_covered_first.Goals as goal

pub returns : goal.returns
returns c = λ v vs filling. (journal_does _ _ _ _ _ _ _ _ c.act.ensures (ends (seals v vs c.requires.commits c.requires.done filling c.requires.due refl refl refl))).1
