use Rattle.std.proofs.Common.{inl}
use Rattle.std.proofs.lemmas.Result.{IfOk-weaker}
use Rattle.disk_model.specs.Seen.{Seen}
use Rattle.disk_model.specs.Trust.{Trust}
use Rattle.vdo_model.specs.declared.report.RunReport.{RunReport}
use Rattle.vdo_cli.specs.Crashes.{IsServedOrNot}
use Rattle.vdo_cli.specs.Endings.{ServesRequests}
use Rattle.vdo_cli.specs.Openings.{IsReady}
use Rattle.vdo_cli.proofs.crash.serve_flushed.Goals as goal

pub returns-in-Ok-clause-runs : goal.returns-in-Ok-clause-runs
returns-in-Ok-clause-runs g c =
    let disk = g.D.Disk in
    let of : Trust = disk.trust in
    let first : Seen = disk.seen c.args.device.now in
    let ready : Seen = disk.seen c.get_ready.new.device in
    let now : Seen = disk.seen c.serve.new.device in
    let found = c.in-Ok.ready.found in
    let start = c.in-Ok.ready.start in
    IfOk-weaker c.serve.result (λ (report : RunReport). (before : Seen) → IsReady of before ready found start → ServesRequests of c.args.course found start report before now)
    (λ (report : RunReport). IsServedOrNot of c.args.course report first now)
    (λ report serves. inl (record { found = found; start = start; serves = serves first c.in-Ok.ensures.ready })) c.serve.ensures.serves
