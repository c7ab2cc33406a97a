use Rattle.std.proofs.Common.{List, length, refl, ap, arith}
use Rattle.std.proofs.lemmas.List.{length-reverse}
use Rattle.blk_base.specs.declared.journal_entry.CommittedEntry.{CommittedEntry}
use Rattle.disk_model.proofs.SinceLaws.{untouched_on}
use Rattle.replay_map.proofs.EntryLaws.{few_entries}
use Rattle.image_status.proofs.status_reader.status_with.Goals as goal

pub overflow_cast-result : goal.overflow_cast-result
overflow_cast-result g c =
    let few = few_entries c.args.head.now c.requires.window.0 c.args.window.now c.requires.sizes c.requires.window.1 in
    let same = ap (λ (window : List CommittedEntry). length window) c.entries.ensures in
    let turned = length-reverse c.entries.result.now in
    omega (arith, few, same, turned)

pub returns-in_default-clause-untouched : goal.returns-in_default-clause-untouched
returns-in_default-clause-untouched g c = untouched_on _ _ _ _ c.read_space.ensures.untouched c.count_chapters.ensures.untouched

pub returns-clause-untouched : goal.returns-clause-untouched
returns-clause-untouched g c = untouched_on _ _ _ _ c.read_space.ensures.untouched c.count_chapters.ensures.untouched

pub returns-clause-status : goal.returns-clause-status
returns-clause-status g c = record {
  middle = g.D.Disk.seen c.read_space.new.device;
  space = c.in_ok-used.ensures.space;
  chapters = c.in-Ok.ensures.chapters;
  clean = refl;
  entries =
      let same = ap (λ (window : List CommittedEntry). length window) c.entries.ensures in
      let turned = length-reverse c.entries.result.now in
      omega (arith, same, turned);
  logical = refl;
}
