use Rattle.std.proofs.Common.{ap}
use Rattle.vdo_cli.specs.Commands.{course_of, options_of, served_in}
use Rattle.vdo_cli.specs.Outsides.{Outcome, Outside, Setting, outcome_with, outside, setting}
use Rattle.core_guards.proofs.RunLaws.{none_or_memory}
use Rattle.core_guards.proofs.runs.a_sound_image_is_served.Goals as goal

pub returns : goal.returns
returns g c = λ schedule setup script image sound told tells words says none_rose.
    let s : Setting = setting g.D.Disk.trust g.S.Source.tells g.K.Sink.tells in
    let before : Outside = outside (g.D.Disk.seen c.args.device) (g.S.Source.seen c.args.script.now) (g.K.Sink.seen c.args.out.now) in
    let after : Outside = outside (g.D.Disk.seen c.run.result.device) (g.S.Source.seen c.run.new.script) (g.K.Sink.seen c.run.new.out) in
    let outcome : Outcome = outcome_with c.run.result.status c.run.result.report c.run.result.fault c.run.result.copy in
    none_or_memory script outcome (c.a_run_without_faults_is_complete.ensures.script s c.args.words.now (course_of schedule (options_of setup)) script before after outcome image sound told tells (ap served_in words) says none_rose c.run.ensures.ends)
