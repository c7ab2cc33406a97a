use Rattle.std.proofs.Common.{[], ◌∷◌, refl, ◌∙◌, ap, inl, inr, true}
use Rattle.std.proofs.lemmas.Bool.{cases_Bool}
use Rattle.blk_base.specs.declared.place.ZoneId.TheVariants as id
use Rattle.core_model.specs.JournalData.{JournalZone}
use Rattle.core_model.specs.JournalRules.{next_block}
use Rattle.core_model.specs.JournalRules.JournalServes.{enters, enters_first}
use Rattle.core_model.specs.Trace.{Enters}
use Rattle.data_vio.specs.Vios.{logged}
use Rattle.data_vio.specs.declared.items.Item.TheVariants.{Block}
use Rattle.data_vio.specs.declared.items.Stage.TheVariants.{Commit}
use Rattle.journal_zone.proofs.entries.hand_in.Goals as goal

pub returns-in-Ok : goal.returns-in-Ok
returns-in-Ok c =
    let entered = c.in-Ok.ensures.entered in
    let there = c.in-Ok.ensures.room in
    elim (cases_Bool c.args.zone.now.busy) [
      | inl busy ↦
          let round = c.go_round.ensures.busy (ap (λ (j : JournalZone). j.busy) entered ∙ busy) in
          (Enters (logged c.args.vio) ∷ [], enters c.requires.phase c.requires.opened there.0 there.1 busy (round.0 ∙ entered) refl round.1)
      | inr idle ↦
          let round = c.go_round.ensures.idle (ap (λ (j : JournalZone). j.busy) entered ∙ idle) in (
            Enters (logged c.args.vio) ∷ [],
            enters_first c.requires.phase c.requires.opened there.0 there.1 idle (round.0 ∙ ap (λ (j : JournalZone). record j { busy = true }) entered) refl
                (round.1 ∙ ap (λ (j : JournalZone). (id.Journal, Block (next_block j Commit [])) ∷ []) entered),
          )
    ]
