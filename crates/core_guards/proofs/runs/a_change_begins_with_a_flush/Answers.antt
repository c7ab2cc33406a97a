use Rattle.vdo_cli.specs.Commands.{options_of}
use Rattle.vdo_cli.specs.Outsides.{Outcome, Outside, Setting, outcome_with, outside, setting}
use Rattle.core_guards.proofs.RunLaws.{ends_as, growth_flushes, rebuild_flushes, recovery_flushes, script_flushes, workload_flushes}
use Rattle.core_guards.proofs.runs.a_change_begins_with_a_flush.Goals as goal

pub returns-clause-script : goal.returns-clause-script
returns-clause-script g c = λ schedule setup asked is tells.
    let s : Setting = setting g.D.Disk.trust g.S.Source.tells g.K.Sink.tells in
    let before : Outside = outside (g.D.Disk.seen c.args.device) (g.S.Source.seen c.args.script.now) (g.K.Sink.seen c.args.out.now) in
    let after : Outside = outside (g.D.Disk.seen c.run.result.device) (g.S.Source.seen c.run.new.script) (g.K.Sink.seen c.run.new.out) in
    let outcome : Outcome = outcome_with c.run.result.status c.run.result.report c.run.result.fault c.run.result.copy in
    script_flushes s schedule (options_of setup) before after outcome (ends_as s c.args.words.now _ before after outcome c.run.ensures.ends asked) is tells

pub returns-clause-workload : goal.returns-clause-workload
returns-clause-workload g c = λ options setup asked is tells.
    let s : Setting = setting g.D.Disk.trust g.S.Source.tells g.K.Sink.tells in
    let before : Outside = outside (g.D.Disk.seen c.args.device) (g.S.Source.seen c.args.script.now) (g.K.Sink.seen c.args.out.now) in
    let after : Outside = outside (g.D.Disk.seen c.run.result.device) (g.S.Source.seen c.run.new.script) (g.K.Sink.seen c.run.new.out) in
    let outcome : Outcome = outcome_with c.run.result.status c.run.result.report c.run.result.fault c.run.result.copy in
    workload_flushes s (record options { core = options_of setup }) before after outcome (ends_as s c.args.words.now _ before after outcome c.run.ensures.ends asked) is tells

pub returns-clause-recovery : goal.returns-clause-recovery
returns-clause-recovery g c = λ asked is tells.
    let s : Setting = setting g.D.Disk.trust g.S.Source.tells g.K.Sink.tells in
    let before : Outside = outside (g.D.Disk.seen c.args.device) (g.S.Source.seen c.args.script.now) (g.K.Sink.seen c.args.out.now) in
    let after : Outside = outside (g.D.Disk.seen c.run.result.device) (g.S.Source.seen c.run.new.script) (g.K.Sink.seen c.run.new.out) in
    let outcome : Outcome = outcome_with c.run.result.status c.run.result.report c.run.result.fault c.run.result.copy in
    recovery_flushes s before after outcome (ends_as s c.args.words.now _ before after outcome c.run.ensures.ends asked) is tells

pub returns-clause-rebuild : goal.returns-clause-rebuild
returns-clause-rebuild g c = λ asked is tells.
    let s : Setting = setting g.D.Disk.trust g.S.Source.tells g.K.Sink.tells in
    let before : Outside = outside (g.D.Disk.seen c.args.device) (g.S.Source.seen c.args.script.now) (g.K.Sink.seen c.args.out.now) in
    let after : Outside = outside (g.D.Disk.seen c.run.result.device) (g.S.Source.seen c.run.new.script) (g.K.Sink.seen c.run.new.out) in
    let outcome : Outcome = outcome_with c.run.result.status c.run.result.report c.run.result.fault c.run.result.copy in
    rebuild_flushes s before after outcome (ends_as s c.args.words.now _ before after outcome c.run.ensures.ends asked) is tells

pub returns-clause-growth : goal.returns-clause-growth
returns-clause-growth g c = λ options asked is tells.
    let s : Setting = setting g.D.Disk.trust g.S.Source.tells g.K.Sink.tells in
    let before : Outside = outside (g.D.Disk.seen c.args.device) (g.S.Source.seen c.args.script.now) (g.K.Sink.seen c.args.out.now) in
    let after : Outside = outside (g.D.Disk.seen c.run.result.device) (g.S.Source.seen c.run.new.script) (g.K.Sink.seen c.run.new.out) in
    let outcome : Outcome = outcome_with c.run.result.status c.run.result.report c.run.result.fault c.run.result.copy in
    growth_flushes s options before after outcome (ends_as s c.args.words.now _ before after outcome c.run.ensures.ends asked) is tells
