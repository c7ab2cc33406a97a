use Rattle.journal_codec.proofs.PrefixLaws.{torn}
use Rattle.journal_codec.proofs.laws.a_torn_write_leaves_a_prefix.Goals as goal

pub returns : goal.returns
returns c = torn
