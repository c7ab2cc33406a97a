use Rattle.vdo_cli.specs.Commands.{options_of}
use Rattle.vdo_cli.specs.Outsides.{Outcome, Outside, Setting, outcome_with, outside, setting}
use Rattle.core_guards.proofs.RunLaws.{drawn_of, ends_as}
use Rattle.core_guards.proofs.runs.the_seed_that_is_asked_is_drawn.Goals as goal

pub returns : goal.returns
returns g c = λ options setup asked is.
    let s : Setting = setting g.D.Disk.trust g.S.Source.tells g.K.Sink.tells in
    let before : Outside = outside (g.D.Disk.seen c.args.device) (g.S.Source.seen c.args.script.now) (g.K.Sink.seen c.args.out.now) in
    let after : Outside = outside (g.D.Disk.seen c.run.result.device) (g.S.Source.seen c.run.new.script) (g.K.Sink.seen c.run.new.out) in
    let outcome : Outcome = outcome_with c.run.result.status c.run.result.report c.run.result.fault c.run.result.copy in
    drawn_of s (record options { core = options_of setup }) before after outcome (ends_as s c.args.words.now _ before after outcome c.run.ensures.ends asked) is
