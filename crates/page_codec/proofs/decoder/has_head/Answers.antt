use Rattle.std.proofs.Common.{◌≡◌, ◌∙◌, take, sym, arith}
use Rattle.std.proofs.lemmas.List.{take_all}
use Rattle.std.proofs.lemmas.Slice.Eq.{bytes_eq-Decides}
use Rattle.page_codec.specs.PageBytes.{head_bytes}
use Rattle.page_codec.proofs.decoder.has_head.Goals as goal

pub returns : goal.returns
returns c =
    let front = take 36 c.args.bytes.now in
    let spelled : c.as_slice.result.now ≡ head_bytes c.args.want.now =
    c.as_slice.ensures ∙ sym (take_all 36 c.put_head.new.page (omega arith)) ∙ c.put_head.ensures in (
      λ right. (bytes_eq-Decides front c.as_slice.result.now).0 (sym c.eq.ensures ∙ right) ∙ spelled,
      λ headed. c.eq.ensures ∙ (bytes_eq-Decides front c.as_slice.result.now).1 (headed ∙ sym spelled),
    )
