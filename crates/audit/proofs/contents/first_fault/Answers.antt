use Rattle.std.proofs.Common.{List, sym, subst}
use Rattle.blk_base.specs.declared.journal_entry.CommittedEntry.{CommittedEntry}
use Rattle.image_model.specs.declared.fault.ImageFault.{ImageFault}
use Rattle.image_model.specs.declared.fault.ImageFault.TheVariants.{SharedPage}
use Rattle.replay_counts.proofs.WindowLaws.{window_adds}
use Rattle.replay_counts.specs.Recovered.{AreCountsRead, CountsFail}
use Rattle.replay_map.specs.Replayed.{MapFails}
use Rattle.audit.proofs.AuditLaws.{shared_counts_fail, still_shared}
use Rattle.audit.specs.Audits.{AuditWithFails}
use Rattle.audit.proofs.contents.first_fault.Goals as goal

pub counts_with-requires-clause-halves : goal.counts_with-requires-clause-halves
counts_with-requires-clause-halves g c = let read = c.requires.window in window_adds _ read.0 _ _ read.1 c.entries.ensures

pub returns-in-Ok-clause-fault : goal.returns-in-Ok-clause-fault
returns-in-Ok-clause-fault g c = λ first fails.
    let trust = g.D.Disk.trust in
    let head = c.args.head.now in
    let window = c.args.window.now in
    let before = g.D.Disk.seen c.args.device.now in
    let now = g.D.Disk.seen c.counts_with.new.device in
    let shared : MapFails trust head.geometry window.entries first before (SharedPage c.in-SharedPage.at) =
    subst (λ (why : ImageFault). MapFails trust head.geometry window.entries first before why) c.in-SharedPage.is fails in
    subst (λ (why : ImageFault). AuditWithFails trust head window first now why) (sym c.in-SharedPage.is)
    (still_shared trust head window first before now c.in-SharedPage.at c.in-Ok._counts.counts.items c.in-Ok._counts.sectors.items shared
    (subst (λ (entries : List CommittedEntry). AreCountsRead trust head.geometry entries before now c.in-Ok._counts.counts.items c.in-Ok._counts.sectors.items) (sym c.entries.ensures) c.in-Ok.ensures.counts))

pub returns-in-Err-clause-fault : goal.returns-in-Err-clause-fault
returns-in-Err-clause-fault g c = λ first fails.
    let trust = g.D.Disk.trust in
    let head = c.args.head.now in
    let window = c.args.window.now in
    let before = g.D.Disk.seen c.args.device.now in
    let now = g.D.Disk.seen c.counts_with.new.device in
    let shared : MapFails trust head.geometry window.entries first before (SharedPage c.in-SharedPage.at) =
    subst (λ (why : ImageFault). MapFails trust head.geometry window.entries first before why) c.in-SharedPage.is fails in
    shared_counts_fail trust head window first before now c.in-SharedPage.at c.in-Err.earlier shared
    (subst (λ (entries : List CommittedEntry). CountsFail trust head.geometry entries before now c.in-Err.earlier) (sym c.entries.ensures) c.in-Err.ensures.fault)
