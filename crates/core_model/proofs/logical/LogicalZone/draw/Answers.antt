use Rattle.core_model.proofs.LockLaws.{has_room}
use Rattle.core_model.proofs.logical.LogicalZone.draw.Goals as goal

pub draw_free-requires-clause-room : goal.draw_free-requires-clause-room
draw_free-requires-clause-room c = has_room c.self.inside.zone c.self.inside.notified c.self.inside.retired c.self.inside.tree c.self.inside.making c.self.inside.lacking c.self.inside.unlinkable c.self.inside.settling.items c.self.inside.reported.items c.self.inside.slots c.self.inside.places
    c.self.inside.locks c.args.self.now c.self.view_is c.self.invariant.room c.requires.within
