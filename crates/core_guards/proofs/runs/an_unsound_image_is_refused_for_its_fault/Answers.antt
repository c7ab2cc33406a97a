use Rattle.vdo_cli.specs.Commands.{options_of}
use Rattle.vdo_cli.specs.Outsides.{Outcome, Outside, Setting, outcome_with, outside, setting}
use Rattle.core_guards.proofs.RunLaws.{ends_as, refused_so}
use Rattle.core_guards.proofs.runs.an_unsound_image_is_refused_for_its_fault.Goals as goal

pub returns : goal.returns
returns g c = λ schedule setup image told unclean faulty asked.
    let s : Setting = setting g.D.Disk.trust g.S.Source.tells g.K.Sink.tells in
    let before : Outside = outside (g.D.Disk.seen c.args.device) (g.S.Source.seen c.args.script.now) (g.K.Sink.seen c.args.out.now) in
    let after : Outside = outside (g.D.Disk.seen c.run.result.device) (g.S.Source.seen c.run.new.script) (g.K.Sink.seen c.run.new.out) in
    let outcome : Outcome = outcome_with c.run.result.status c.run.result.report c.run.result.fault c.run.result.copy in
    refused_so s schedule (options_of setup) before after outcome image told unclean faulty (ends_as s c.args.words.now _ before after outcome c.run.ensures.ends asked)
