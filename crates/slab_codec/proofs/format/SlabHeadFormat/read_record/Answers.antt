use Rattle.slab_codec.proofs.FieldLaws.{entry_is}
use Rattle.slab_codec.proofs.format.SlabHeadFormat.read_record.Goals as goal

pub returns : goal.returns
returns c e fits same = entry_is c.read_u64.result c.read_u16.result c.args.from.now e fits same c.read_u64.ensures c.read_u16.ensures
