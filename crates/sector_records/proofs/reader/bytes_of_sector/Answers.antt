use Rattle.std.proofs.Common.{ℕ, ◌≡◌, ◌∙◌, ◌+◌, ◌*◌, ◌-◌, take, drop, ap, arith}
use Rattle.blk_base.specs.Sectors.{sector}
use Rattle.sector_records.proofs.SectorLaws.{some_of}
use Rattle.sector_records.proofs.reader.bytes_of_sector.Goals as goal

pub returns-clause-bytes : goal.returns-clause-bytes
returns-clause-bytes c =
    let start = 512 * c.from-start.result in
    let width : start + 512 - start ≡ 512 = omega arith in
    some_of c.get.result _ _ (λ bytes. bytes.now ≡ sector c.args.i c.args.block.now)
    (λ bytes found. found.2 ∙ ap (λ (n : ℕ). take n (drop start c.block.inside.bytes)) width ∙ ap (λ (n : ℕ). sector n c.block.inside.bytes) c.from-start.ensures ∙ ap (sector c.args.i) c.block.view_is)
    c.get.ensures.lookup.0
