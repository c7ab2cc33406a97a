use Rattle.std.proofs.Common.{◌∙◌, ◌++◌, flat_map, ap, ap₂, sym, arith}
use Rattle.std.proofs.lemmas.List.{take_all}
use Rattle.byte_fields.specs.Mappings.{mapping_bytes}
use Rattle.page_codec.specs.PageBytes.{page_bytes}
use Rattle.page_codec.proofs.encoder.encode.Goals as goal

pub returns : goal.returns
unfolding page_bytes
returns c =
    let same = c.put_head.auto.page in
    let size = c.split_at_mut-head.ensures.front_len in
    ap₂ (λ h s. h ++ s) (sym (take_all 36 c.put_head.new.page (omega (arith, same, size))) ∙ c.put_head.ensures)
    (c.put_slots.ensures ∙ ap (flat_map mapping_bytes) c.as_slice.ensures.value)
