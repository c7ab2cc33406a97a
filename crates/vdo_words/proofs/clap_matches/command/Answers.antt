use Rattle.std.proofs.Common.{◌∙◌, ap, ap₂, arith, get_or, sym, take}
use Rattle.std.proofs.lemmas.List.{take_more}
use Rattle.clap.specs.Words.{with_rule}
use Rattle.vdo_words.specs.OptionMatches.{app}
use Rattle.vdo_words.specs.declared.option_names.OptionName.TheVariants.{Logical}
use Rattle.vdo_words.proofs.CommandLaws.{app-more}
use Rattle.vdo_words.proofs.clap_matches.command.Goals as goal

pub loop-name-preserved : goal.loop-name-preserved
loop-name-preserved c =
    let names = c.args.names.now in
    let i = c.loop-name.name-index in
    c.in_ok-command.ensures.shape c.argument.ensures.local ∙ ap₂ with_rule c.loop-name.invariant c.argument.ensures.told
    ∙ app-more (take i names) (get_or names i Logical) ∙ ap app (sym (take_more names i Logical (omega arith)))
