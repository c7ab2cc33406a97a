use Rattle.std.proofs.Common.{length, ap, sym, ◌∙◌, arith}
use Rattle.uds_chapters.proofs.page_writer.put_record.Goals as goal

pub returns-clause-held : goal.returns-clause-held
returns-clause-held c = (ap length (sym c.as_bytes.ensures.bytes) ∙ c.as_bytes.ensures.size, omega arith)
