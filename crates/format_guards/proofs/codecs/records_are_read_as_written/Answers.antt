use Rattle.std.proofs.Common.{◌∙◌, length, drop, ap, refl}
use Rattle.sector_records.proofs.SectorLaws.{sector-records}
use Rattle.format_guards.proofs.codecs.records_are_read_as_written.Goals as goal

pub returns : goal.returns
returns g c =
    let records = c.args.records.now in
    let head = g.F.Format.head_bytes c.args.head.now c.args.number (length records) in
    c.read_records.ensures.read records _ c.requires.spelled refl
    (ap (drop 32) c.put_sector.ensures ∙ sector-records g.F.Format.record_bytes head records (g.met.F.Format.head_width c.args.head.now c.args.number (length records)))
