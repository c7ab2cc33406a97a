use Rattle.core_model.proofs.PortLaws.{none_posted}
use Rattle.core_model.proofs.ports.Ports.has_posts.Goals as goal

pub returns : goal.returns
returns c = none_posted c.self.inside.boxes c.args.self.now c.args.to c.self.inside.posts c.has.result c.self.view_is c.requires c.self.invariant.posts c.has.ensures
