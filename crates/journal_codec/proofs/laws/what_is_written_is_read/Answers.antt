use Rattle.journal_codec.proofs.PrefixLaws.{written, written_prefix}
use Rattle.journal_codec.proofs.laws.what_is_written_is_read.Goals as goal

pub returns-clause-sectors : goal.returns-clause-sectors
returns-clause-sectors c = written

pub returns-clause-whole : goal.returns-clause-whole
returns-clause-whole c = written_prefix
