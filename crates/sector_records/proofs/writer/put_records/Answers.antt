use Rattle.std.proofs.Common.{ℕ, ◌≡◌, ◌∙◌, ◌++◌, ◌+◌, ◌-◌, ◌*◌, length, take, replicate, flat_map, ap, sym, arith, append_assoc}
use Rattle.std.proofs.lemmas.List.{take_all}
use Rattle.std.proofs.lemmas.Slice.{take-put_mid}
use Rattle.byte_fields.proofs.FieldLaws.{records-more, length-records}
use Rattle.sector_records.specs.SectorBytes.{sector_form}
use Rattle.sector_records.proofs.SectorLaws.{one_fits, records_fit}
use Rattle.sector_records.proofs.writer.put_records.Goals as goal

pub loop-one-preserved : goal.loop-one-preserved
loop-one-preserved g c =
    let form = g.F.Format.record_bytes in
    let i = c.loop-one.one-index in
    let place = c.loop-one.invariant.place in
    let width = c.WIDTH-end.ensures in
    let size : length c.put_record.new.into ≡ g.F.Format.WIDTH = ap length c.put_record.ensures ∙ g.met.F.Format.record_width c.one-item.result in
    let next : g.F.Format.WIDTH * (i + 1) ≡ g.F.Format.WIDTH * i + g.F.Format.WIDTH = omega arith in
    let within = one_fits g.F.Format.WIDTH g.F.Format.PER_SECTOR i (length c.args.records.now) g.met.F.Format.fits c.requires.few (omega arith) in
    record {
      place = omega (arith, place, width, next);
      written = take-put_mid c.loop-one.end _ c.loop-one.sector c.put_record.new.into _ (omega (arith, width, size)) (omega (arith, place, within, c.requires.size))
          ∙ ap (λ f. f ++ c.put_record.new.into) c.loop-one.invariant.written
          ∙ append_assoc (take 32 c.args.sector.now) (flat_map form (take i c.args.records.now)) c.put_record.new.into
          ∙ ap (λ b. take 32 c.args.sector.now ++ (flat_map form (take i c.args.records.now) ++ b)) (c.put_record.ensures ∙ ap form c.one-item.is)
          ∙ ap (λ b. take 32 c.args.sector.now ++ b) (sym (records-more form c.args.records.now i c.one-item.result (omega arith)));
    }

pub returns : goal.returns
unfolding sector_form
returns g c =
    let form = g.F.Format.record_bytes in
    let records = c.args.records.now in
    let end = c.loop-one.end in
    let all : take c.loop-one.one-index records ≡ records = take_all c.loop-one.one-index records c.loop-one-test.false in
    let count : c.loop-one.one-index ≡ length records = omega arith in
    let size = length-records form g.F.Format.WIDTH g.met.F.Format.record_width records in
    let most = records_fit form g.F.Format.WIDTH g.F.Format.PER_SECTOR g.met.F.Format.record_width g.met.F.Format.fits records c.requires.few in
    let same = ap (λ (n : ℕ). g.F.Format.WIDTH * n) count in
    let zeros : 512 - end ≡ 480 - length (flat_map form records) = omega (arith, c.loop-one.invariant.place, same, size, most) in
    sym (take_all (end + (512 - end)) c.put_zeros.new.out (omega (arith, c.requires.size))) ∙ c.put_zeros.ensures.front
    ∙ ap (λ f. f ++ replicate (512 - end) 0) (c.loop-one.invariant.written ∙ ap (λ rs. take 32 c.args.sector.now ++ flat_map form rs) all)
    ∙ ap (λ (n : ℕ). take 32 c.args.sector.now ++ flat_map form records ++ replicate n 0) zeros
