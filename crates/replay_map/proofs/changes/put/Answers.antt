use Rattle.replay_map.proofs.ChangeLaws.{put_more}
use Rattle.replay_map.proofs.changes.put.Goals as goal

pub returns : goal.returns
returns c page slot inside =
    put_more c.in-Some.id c.in-Some.mapping _ _ c.args.entry c.in_ok-insert.ensures.updates.0 c.in-Some.ensures.some page slot
