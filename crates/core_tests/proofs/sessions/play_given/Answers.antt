use Rattle.core_tests.proofs.sessions.play_given.Goals as goal

pub returns : goal.returns
returns g c = record { geometry = rw c.play.ensures.sizes c.requires.geometry; room = rw (c.play.ensures.sizes, c.play.ensures.stays.size) c.requires.room }
