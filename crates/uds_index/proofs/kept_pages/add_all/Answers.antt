use Rattle.std.proofs.Common.{◌<◌, ◌∙◌, ap, arith, length, List}
use Rattle.std.proofs.lemmas.List.{take_all}
use Rattle.std.specs.Option.{option_or}
use Rattle.uds_chapters.specs.declared.entry.Record.{Record}
use Rattle.uds_chapters.specs.Chapters.{location_of}
use Rattle.uds_index.proofs.AddLaws.{added_few, added_next}
use Rattle.uds_index.proofs.kept_pages.add_all.Goals as goal

pub loop-record-preserved : goal.loop-record-preserved
loop-record-preserved c =
    let was = c.loop-record.invariant in
    let records = c.args.records.now in
    let k = c.loop-record.record-index in
    let room : length c.loop-record.chapter < 680 = omega (arith, was.few, c.requires.few, c.loop-record-test.true) in
    let more = added_few c.loop-record.chapter c.add.new.self c.record-item.result c.add.result c.add.ensures room in
    record {
      few = omega (arith, more, was.few);
      found = λ name. added_next name records c.loop-record.chapter c.add.new.self c.args.chapter.now k c.record-item.result c.add.result
          c.requires.rising c.loop-record-test.true c.record-item.is c.add.ensures room (was.found name);
    }

pub returns : goal.returns
returns c =
    let was = c.loop-record.invariant in
    record {
      few = omega (arith, was.few, c.loop-record.auto.record-index-end);
      found = λ name. was.found name
          ∙ ap (λ (rs : List Record). option_or (location_of name rs) (location_of name c.args.chapter.now)) (take_all c.loop-record.record-index c.args.records.now c.loop-record-test.false);
    }
