use Rattle.std.proofs.Common.{◌∙◌, sym}
use Rattle.byte_fields.proofs.MappingLaws.{state_at, target_at, unmapped_is, zero_is, at_is}
use Rattle.byte_fields.proofs.mapping.read_mapping.Goals as goal

pub returns-then-read_u8-eq0 : goal.returns-then-read_u8-eq0
returns-then-read_u8-eq0 c m held spelled =
    unmapped_is m (sym (state_at c.args.at c.args.bytes.now m spelled) ∙ sym c.read_u8.ensures ∙ c.if-read_u8-eq0.true)

pub returns-then-block-eq0 : goal.returns-then-block-eq0
returns-then-block-eq0 c m held spelled =
    zero_is m held (λ none. c.if-read_u8-eq0.false (c.read_u8.ensures ∙ state_at c.args.at c.args.bytes.now m spelled ∙ none))
    (sym (target_at c.args.at c.args.bytes.now m held spelled) ∙ sym c.read_u32-block.ensures ∙ c.if-block-eq0.true)

pub returns-else-block-eq0 : goal.returns-else-block-eq0
returns-else-block-eq0 c m held spelled =
    at_is m c.read_u32-block.result c.if-block-eq0.false (sym (target_at c.args.at c.args.bytes.now m held spelled) ∙ sym c.read_u32-block.ensures)
