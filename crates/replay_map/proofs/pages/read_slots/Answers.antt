use Rattle.std.proofs.Common.{arith}
use Rattle.page_codec.proofs.ReadLaws.{slots}
use Rattle.replay_map.proofs.PageLaws.{put_said}
use Rattle.replay_map.proofs.pages.read_slots.Goals as goal

pub returns-in-Ok-clause-head : goal.returns-in-Ok-clause-head
returns-in-Ok-clause-head c = (slots c.args.want.now c.args.block.now c.decode_mappings.new.into 0 c.in-Ok.ensures.ok (omega arith)).headed

pub returns-in-Ok-clause-ok : goal.returns-in-Ok-clause-ok
returns-in-Ok-clause-ok c =
    put_said c.args.want.now c.args.block.now c.args.changes.now c.decode_mappings.new.into c.put_over.new.into c.in-Ok.ensures.ok c.put_over.ensures
