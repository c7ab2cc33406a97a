use Rattle.std.proofs.Common.{sym, ap, subst, arith, List, length}
use Rattle.std.proofs.lemmas.List.{length-reverse}
use Rattle.blk_base.specs.declared.geometry.Geometry.{Geometry}
use Rattle.blk_base.specs.declared.journal_entry.CommittedEntry.{CommittedEntry}
use Rattle.replay_map.proofs.DataLaws.{window_leads}
use Rattle.replay_map.proofs.EntryLaws.{few_entries}
use Rattle.replay_map.proofs.ReplayLaws.{fails_by, found_by}
use Rattle.replay_map.specs.FoundPages.{FindFails, IsMapFound, map_with}
use Rattle.replay_map.specs.Reads.{IsShown, LeadToData}
use Rattle.replay_map.specs.Replayed.{HasMap, MapFails}
use Rattle.journal_window.proofs.AnswerLaws.{passed_on}
use Rattle.replay_map.proofs.replayed_map.replay_changes.Goals as goal

pub find_map-requires-clause-data : goal.find_map-requires-clause-data
find_map-requires-clause-data g c =
    let newest = c.requires.newest in
    subst (λ (sizes : Geometry). LeadToData sizes c.args.changes.now) (sym c.of.ensures)
    (window_leads c.args.head.now c.requires.window.0 c.args.window.now c.args.changes.now c.requires.window.1 newest)

pub returns-in_err-links-clause-fault : goal.returns-in_err-links-clause-fault
returns-in_err-links-clause-fault g c =
    let trust = g.D.Disk.trust in
    let before = g.D.Disk.seen c.args.device.now in
    let now = g.D.Disk.seen c.find_map.new.device in
    let newest = c.requires.newest in
    passed_on c.from_residual.result (MapFails trust c.args.head.now.geometry c.args.window.now.entries before now) c.in_err-links.field-0.0 c.from_residual.ensures.1
    (fails_by trust c.args.head.now.geometry c.args.changes.now c.args.window.now.entries newest before now c.in_err-links.field-0.0
    (subst (λ (sizes : Geometry). FindFails trust sizes c.args.changes.now before now c.in_err-links.field-0.0) c.of.ensures c.in_err-links.ensures.fault))

pub overflow_cast-result : goal.overflow_cast-result
overflow_cast-result g c =
    let few = few_entries c.args.head.now c.requires.window.0 c.args.window.now c.requires.sizes c.requires.window.1 in
    let same = ap (λ (window : List CommittedEntry). length window) c.entries.ensures in
    let turned = length-reverse c.entries.result.now in
    omega (arith, few, same, turned)

pub returns-clause-map : goal.returns-clause-map
returns-clause-map g c =
    let trust = g.D.Disk.trust in
    let before = g.D.Disk.seen c.args.device.now in
    let now = g.D.Disk.seen c.find_map.new.device in
    let newest = c.requires.newest in
    let same = ap (λ (window : List CommittedEntry). length window) c.entries.ensures in
    let turned = length-reverse c.entries.result.now in
    record {
      last = c.last.ensures;
      entries = omega (arith, same, turned);
      found = found_by trust c.args.head.now.geometry c.args.changes.now c.args.window.now.entries newest before now
          (λ image. IsMapFound image c.in_ok-links.field-0) (λ image. HasMap image (map_with c.in_ok-links.field-0 c.last.result (length c.entries.result.now)))
          (subst (λ (sizes : Geometry). IsShown trust sizes c.args.changes.now before now (λ image. IsMapFound image c.in_ok-links.field-0)) c.of.ensures c.in_ok-links.ensures.map)
          (λ image is. is c.last.result (length c.entries.result.now));
    }
