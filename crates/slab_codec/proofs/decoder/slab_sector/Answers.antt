use Rattle.std.proofs.Common.{◌∙◌, length, ap, arith}
use Rattle.sector_records.proofs.SectorLaws.{none_of}
use Rattle.slab_codec.proofs.ReadLaws.{length-sector_bytes}
use Rattle.slab_codec.proofs.decoder.slab_sector.Goals as goal

pub returns-in_err-bytes_of_sector-clause-none : goal.returns-in_err-bytes_of_sector-clause-none
returns-in_err-bytes_of_sector-clause-none c =
    let short = c.in_err-bytes_of_sector.ensures.none in
    none_of c.from_residual.result _
    (λ s es is. let size = ap length is.spelled ∙ length-sector_bytes c.args.nonce s c.args.slab c.args.i es is.few in omega (arith, size, short))
