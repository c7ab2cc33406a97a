use Rattle.vdo_core.proofs.steps.end.Goals as goal

pub deliver-requires-clause-room : goal.deliver-requires-clause-room
deliver-requires-clause-room c = record { inbox = c.requires.room.inbox; outboxes = c.requires.room.outboxes }
