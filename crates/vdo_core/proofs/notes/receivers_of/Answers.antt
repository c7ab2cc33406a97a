use Rattle.vdo_core.proofs.NoteLaws.{tells_posts}
use Rattle.vdo_core.proofs.notes.receivers_of.Goals as goal

pub returns : goal.returns
returns c =
    tells_posts c.args.zone.now c.args.count c.args.number c.posts.result c.below-receivers.result _ c.posts.ensures c.below-receivers.ensures.inside c.below-receivers.ensures.past c.put.ensures
