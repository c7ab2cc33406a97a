use Rattle.std.proofs.Common.{◌≡◌, ◌∙◌, ◌++◌, ◌+◌, ◌-◌, ◌*◌, length, take, flat_map, ap, sym, arith}
use Rattle.std.proofs.lemmas.List.{take_all}
use Rattle.std.proofs.lemmas.Slice.{take-put_mid}
use Rattle.sector_records.specs.SectorBytes.{sector_form, sector_of, sector_numbers, eight_sectors}
use Rattle.sector_records.proofs.SectorLaws.{length-sector, records_fit, few_in, sectors-more, count_of_sectors}
use Rattle.sector_records.proofs.writer.put_sectors.Goals as goal

pub loop-number-preserved : goal.loop-number-preserved
loop-number-preserved g c =
    let n = c.loop-number.number in
    let sectors = sector_of g.F.Format.record_bytes (g.F.Format.head_bytes c.args.head.now) g.F.Format.PER_SECTOR c.args.records.now in
    let written : c.put_sector.new.sector ≡ sectors n =
    c.put_sector.ensures ∙ ap (λ rs. sector_form g.F.Format.record_bytes (g.F.Format.head_bytes c.args.head.now n (length rs)) rs) c.part.ensures.part in
    let size : length c.put_sector.new.sector ≡ 512 =
    ap length written ∙ length-sector g.F.Format.record_bytes _ _ (g.met.F.Format.head_width c.args.head.now n _)
    (records_fit g.F.Format.record_bytes g.F.Format.WIDTH g.F.Format.PER_SECTOR g.met.F.Format.record_width g.met.F.Format.fits _ (few_in g.F.Format.PER_SECTOR n c.args.records.now)) in
    take-put_mid (512 * n) (512 * n + 512 - 512 * n) c.loop-number.bytes c.put_sector.new.sector (512 * (n + 1)) (omega arith) (omega arith)
    ∙ ap (λ f. f ++ c.put_sector.new.sector) c.loop-number.invariant
    ∙ ap (λ s. flat_map sectors (take n sector_numbers) ++ s) written
    ∙ sym (sectors-more sectors n (omega arith))

pub returns : goal.returns
unfolding eight_sectors
returns g c =
    let count = count_of_sectors in
    let last : c.loop-number.number ≡ 8 = omega arith in
    sym (take_all (512 * c.loop-number.number) c.loop-number.bytes (omega arith)) ∙ c.loop-number.invariant
    ∙ ap (flat_map (sector_of g.F.Format.record_bytes (g.F.Format.head_bytes c.args.head.now) g.F.Format.PER_SECTOR c.args.records.now)) (take_all c.loop-number.number sector_numbers (omega arith))
