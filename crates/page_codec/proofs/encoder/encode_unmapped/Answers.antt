use Rattle.std.proofs.Common.{◌∙◌, ◌++◌, ap₂, sym, arith}
use Rattle.std.proofs.lemmas.List.{drop-replicate, take_all}
use Rattle.page_codec.specs.PageBytes.{page_bytes}
use Rattle.page_codec.proofs.WriteLaws.{unmapped_zeros}
use Rattle.page_codec.proofs.encoder.encode_unmapped.Goals as goal

pub returns : goal.returns
unfolding page_bytes
returns c =
    let same = c.put_head.auto.page in
    let size = c.split_at_mut-front.ensures.front_len in
    ap₂ (λ h s. h ++ s) (sym (take_all 36 c.put_head.new.page (omega (arith, same, size))) ∙ c.put_head.ensures) (c.split_at_mut-front.ensures.back ∙ drop-replicate 36 4096 0 ∙ sym (unmapped_zeros 812))
