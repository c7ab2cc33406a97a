use Rattle.vdo_cli.specs.Commands.{options_of}
use Rattle.vdo_cli.specs.Outsides.{Outcome, Outside, Setting, outcome_with, outside, setting}
use Rattle.core_guards.proofs.RunLaws.{ends_as, shows_it}
use Rattle.core_guards.proofs.runs.the_image_that_is_asked_is_shown.Goals as goal

pub returns : goal.returns
returns g c = λ options setup asked tells is.
    let s : Setting = setting g.D.Disk.trust g.S.Source.tells g.K.Sink.tells in
    let before : Outside = outside (g.D.Disk.seen c.args.device) (g.S.Source.seen c.args.script.now) (g.K.Sink.seen c.args.out.now) in
    let after : Outside = outside (g.D.Disk.seen c.run.result.device) (g.S.Source.seen c.run.new.script) (g.K.Sink.seen c.run.new.out) in
    let outcome : Outcome = outcome_with c.run.result.status c.run.result.report c.run.result.fault c.run.result.copy in
    shows_it s (record options { core = options_of setup }) before after outcome tells (ends_as s c.args.words.now _ before after outcome c.run.ensures.ends asked) is
