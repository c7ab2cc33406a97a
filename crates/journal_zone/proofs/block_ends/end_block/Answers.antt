use Rattle.std.proofs.Common.{List, sym, subst, ◌∙◌}
use Rattle.core_model.specs.JournalRules.{JournalEnds}
use Rattle.core_model.specs.Trace.{Trace}
use Rattle.data_vio.specs.declared.items.Vio.{Vio}
use Rattle.step_parts.specs.Rules.{Applies}
use Rattle.journal_zone.proofs.ActLaws.{commits_next, has_next}
use Rattle.journal_zone.proofs.block_ends.end_block.Goals as goal

pub commit-requires-clause-next : goal.commit-requires-clause-next
commit-requires-clause-next c = has_next _ _ c.args.block c.in-Commit.is c.in-Some.vio c.pop.new.self c.in-Some.ensures.some c.requires.rule

pub returns-in-Some : goal.returns-in-Some
returns-in-Some c =
    commits_next _ _ c.args.block c.in-Commit.is c.in-Some.vio c.pop.new.self c.in-Some.ensures.some _ _
    (has_next _ _ c.args.block c.in-Commit.is c.in-Some.vio c.pop.new.self c.in-Some.ensures.some c.requires.rule) c.commit.ensures.zone c.commit.ensures.posts

pub go_on-requires-clause-rule : goal.go_on-requires-clause-rule
go_on-requires-clause-rule c =
    subst (λ (vs : List Vio). Applies (JournalEnds c.args.sizes.now c.args.zone.now (record c.args.block { vios = vs }))) (c.in-None.ensures.none.0 ∙ sym c.in-None.ensures.none.1) c.requires.rule

pub returns-in-None : goal.returns-in-None
returns-in-None c =
    subst (λ (vs : List Vio). (made : Trace) × JournalEnds c.args.sizes.now c.args.zone.now (record c.args.block { vios = vs }) c.go_on.new.zone made c.go_on.new.posts)
    (c.in-None.ensures.none.1 ∙ sym c.in-None.ensures.none.0) c.go_on.ensures
