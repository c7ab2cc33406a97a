use Rattle.std.proofs.Common.{◌∙◌, length, ap, arith}
use Rattle.sector_records.proofs.SectorLaws.{none_of}
use Rattle.journal_codec.proofs.ReadLaws.{length-sector_bytes}
use Rattle.journal_codec.proofs.decoder.sector.Goals as goal

pub returns-in_err-bytes_of_sector-clause-none : goal.returns-in_err-bytes_of_sector-clause-none
returns-in_err-bytes_of_sector-clause-none c =
    let short = c.in_err-bytes_of_sector.ensures.none in
    none_of c.from_residual.result _
    (λ s h es is. let size = ap length is.spelled ∙ length-sector_bytes c.args.nonce s h c.args.i es is.few in omega (arith, size, short))
