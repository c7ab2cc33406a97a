use Rattle.std.proofs.Common.{◌∙◌, sym}
use Rattle.journal_codec.proofs.FieldLaws.{remap_is, page_is}
use Rattle.journal_codec.proofs.format.JournalHeadFormat.read_record.Goals as goal

pub returns-then-read_u8-eq0 : goal.returns-then-read_u8-eq0
returns-then-read_u8-eq0 c e holds same =
    remap_is c.read_u32-number.result c.read_mapping.result c.read_mapping-then-read_u8-eq0.result c.args.from.now e holds same
    (sym c.read_u8.ensures ∙ c.if-read_u8-eq0.true) c.read_u32-number.ensures c.read_mapping.ensures c.read_mapping-then-read_u8-eq0.ensures

pub returns-else-read_u8-eq0 : goal.returns-else-read_u8-eq0
returns-else-read_u8-eq0 c e holds same =
    page_is c.read_u8-else-read_u8-eq0.result c.read_u8-else-read_u8-eq0-2.result c.read_u32-number.result c.read_u32.result c.args.from.now e holds same
    (λ none. c.if-read_u8-eq0.false (c.read_u8.ensures ∙ none)) c.read_u8-else-read_u8-eq0.ensures c.read_u8-else-read_u8-eq0-2.ensures c.read_u32-number.ensures c.read_u32.ensures
