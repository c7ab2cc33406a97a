use Rattle.journal_codec.proofs.ReadLaws.{one_reading}
use Rattle.journal_codec.proofs.PrefixLaws.{one_prefix}
use Rattle.journal_codec.proofs.laws.bytes_have_one_reading.Goals as goal

pub returns-clause-sectors : goal.returns-clause-sectors
returns-clause-sectors c = one_reading

pub returns-clause-blocks : goal.returns-clause-blocks
returns-clause-blocks c = one_prefix
