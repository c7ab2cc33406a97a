use Rattle.uds_chapters.proofs.RecordLaws.{named}
use Rattle.uds_chapters.proofs.open_chapter.is_name.Goals as goal

pub returns : goal.returns
returns c = named c.args.name.now c.as_bytes.result.now c.as_bytes.ensures.bytes c.as_bytes.ensures.size c.are_bytes.ensures
