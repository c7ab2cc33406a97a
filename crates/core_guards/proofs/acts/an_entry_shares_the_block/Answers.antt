use Rattle.std.proofs.Common.{◌≡◌, ◌++◌, ◌∷◌, [], List, refl, ap, inl, inr}
use Rattle.core_laws.proofs.Common.{cases_Bool}
use Rattle.core_model.specs.JournalData.{JournalZone}
use Rattle.core_model.specs.JournalRules.JournalServes.{enters, enters_first}
use Rattle.core_model.specs.Steps.Act.{enters as act}
use Rattle.core_guards.proofs.ZoneActs.{journal_does}
use Rattle.core_guards.proofs.acts.an_entry_shares_the_block.Goals as goal

pub returns-clause-filling : goal.returns-clause-filling
returns-clause-filling c = elim (cases_Bool c.args.zone.now.busy) [
  | inl busy ↦ ap (λ (j : JournalZone). j.filling)
      (journal_does _ _ _ _ _ _ _ _ c.act.ensures (act (enters c.requires.enters c.requires.opened c.requires.block c.requires.room busy refl refl refl))).0
  | inr idle ↦ ap (λ (j : JournalZone). j.filling)
      (journal_does _ _ _ _ _ _ _ _ c.act.ensures (act (enters_first c.requires.enters c.requires.opened c.requires.block c.requires.room idle refl refl refl))).0
]

pub returns-clause-waiting : goal.returns-clause-waiting
returns-clause-waiting c = elim (cases_Bool c.args.zone.now.busy) [
  | inl busy ↦ ap (λ (j : JournalZone). j.waiting)
      (journal_does _ _ _ _ _ _ _ _ c.act.ensures (act (enters c.requires.enters c.requires.opened c.requires.block c.requires.room busy refl refl refl))).0
  | inr idle ↦ ap (λ (j : JournalZone). j.waiting)
      (journal_does _ _ _ _ _ _ _ _ c.act.ensures (act (enters_first c.requires.enters c.requires.opened c.requires.block c.requires.room idle refl refl refl))).0
]
