use Rattle.std.proofs.Common.{sym}
use Rattle.uds_chapters.proofs.RecordLaws.{location-place, location-gap}
use Rattle.uds_chapters.proofs.ordered.location.Goals as goal

pub returns-in-Ok : goal.returns-in-Ok
returns-in-Ok c = sym (location-place c.args.name.now c.args.records.now c.in-Ok.place c.index-records-place.result c.requires c.in-Ok.ensures.bound c.in-Ok.ensures.found)

pub returns-in-Err : goal.returns-in-Err
returns-in-Err c = sym (location-gap c.args.name.now c.args.records.now _ c.in-Err.ensures.gap)
