use Rattle.std.proofs.Common.{◌≡◌, ◌*◌, take, flat_map}
use Rattle.sector_records.specs.SectorBytes.{sector_of, sector_numbers}
use Rattle.sector_records.proofs.writer.put_sectors.Given as goal

abbrev pub invariant-loop-number : goal.invariant-loop-number
invariant-loop-number g l =
    take (512 * l.number) l.bytes
    ≡ flat_map (sector_of g.F.Format.record_bytes (g.F.Format.head_bytes l.head) g.F.Format.PER_SECTOR l.records) (take l.number sector_numbers)
