use Rattle.std.proofs.Common.{◌∙◌, sym, drop}
use Rattle.byte_fields.proofs.FieldLaws.{number_at-drop}
use Rattle.uds_chapters.proofs.PageLaws.{record_is}
use Rattle.uds_chapters.proofs.page_reader.read_record.Goals as goal

pub returns : goal.returns
returns c = λ one held spelled.
    record_is (drop c.args.at c.args.bytes.now) one c.read_name.result c.read_u32.result held spelled c.read_name.ensures
    (c.read_u32.ensures ∙ sym (number_at-drop 4 16 c.args.at c.args.bytes.now))
