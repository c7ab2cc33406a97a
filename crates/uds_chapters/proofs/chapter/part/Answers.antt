use Rattle.std.proofs.Common.{◌*◌, arith}
use Rattle.sector_records.proofs.SectorLaws.{part_is}
use Rattle.uds_chapters.proofs.chapter.part.Goals as goal

pub returns-clause-part : goal.returns-clause-part
returns-clause-part c =
    let from = c.from.ensures in
    let first = c.min-first.ensures in
    let count = c.min-count.ensures in
    part_is 170 (170 * c.args.page) c.args.records.now c.min-first.result c.min-count.result (omega (arith, first, from)) (omega (arith, count))
