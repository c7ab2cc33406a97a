use Rattle.std.proofs.Common.{◌∙◌, sym}
use Rattle.std.proofs.lemmas.Slice.Eq.{bytes_eq-Decides}
use Rattle.sector_records.proofs.reader.is_sector.Goals as goal

pub returns : goal.returns
returns g c =
    let spelled = c.as_slice.ensures ∙ c.put_sector.ensures in
    let decides = bytes_eq-Decides c.args.bytes.now c.as_slice.result.now in (
      λ right. decides.0 (sym c.eq.ensures ∙ right) ∙ spelled,
      λ same. c.eq.ensures ∙ decides.1 (same ∙ sym spelled),
    )
