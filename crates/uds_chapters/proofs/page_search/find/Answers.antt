use Rattle.std.proofs.Common.{◌<◌, ◌-◌, [], length, arith}
use Rattle.uds_chapters.specs.declared.entry.Record.{Record}
use Rattle.uds_chapters.specs.Finds.{IsUnder, IsOver}
use Rattle.uds_chapters.proofs.RecordLaws.{location-place, location-gap, any_at}
use Rattle.uds_chapters.proofs.page_search.find.Goals as goal

pub returns-in-Ok : goal.returns-in-Ok
returns-in-Ok c =
    let one = c.index-records-place.result in
    location-place c.args.name.now c.args.records.now c.in-Ok.place one c.requires c.in-Ok.ensures.bound c.in-Ok.ensures.found

pub returns-in-Err-2 : goal.returns-in-Err-2
returns-in-Err-2 c =
    let records = c.args.records.now in
    let name = c.args.name.now in
    let gap = c.in-Err.ensures.gap in
    let d : Record = record { name = []; at = record { 0 = 0 } } in
    let inside = c.in-Err.ensures.bound in
    let some = c.in-Err.place-test.1 in
    let first : 0 < c.in-Err.place = omega (arith, some) in
    let last : c.in-Err.place < length records = omega (arith, inside, c.if-place-records.false) in (
      location-gap name records c.in-Err.place gap,
      any_at (IsUnder name) records 0 d (omega arith) (gap.0 0 d (omega arith) first),
      any_at (IsOver name) records (length records - 1) d (omega arith) (gap.1 (length records - 1) d (omega arith) (omega arith)),
    )
