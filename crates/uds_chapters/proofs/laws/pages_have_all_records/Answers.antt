use Rattle.uds_chapters.proofs.RecordLaws.{all_pages}
use Rattle.uds_chapters.proofs.laws.pages_have_all_records.Goals as goal

pub returns : goal.returns
returns c = all_pages
