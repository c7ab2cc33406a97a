use Rattle.std.proofs.Common.{◌≡◌, ◌+◌, ◌*◌, ◌++◌, take, flat_map}
use Rattle.sector_records.proofs.writer.put_records.Given as goal

abbrev pub invariant-loop-one : goal.invariant-loop-one
invariant-loop-one g l = record {
  place : l.end ≡ 32 + g.F.Format.WIDTH * l.one-index;
  written : take l.end l.sector ≡ take 32 l.fn.sector ++ flat_map g.F.Format.record_bytes (take l.one-index l.records);
}
