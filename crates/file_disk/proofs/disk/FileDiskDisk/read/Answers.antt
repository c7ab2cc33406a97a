use Rattle.file_disk.proofs.FileLaws.{read_of_tied}
use Rattle.file_disk.proofs.disk.FileDiskDisk.read.Goals as goal

pub returns-in-Ok-clause-given : goal.returns-in-Ok-clause-given
returns-in-Ok-clause-given g c tells trusted =
    rw (← c.self.view_is)
    (read_of_tied g.F.ByteFile.trust (g.F.ByteFile.seen c.self.inside.file) c.self.inside.history c.self.inside.blocks c.args.at.0 c.read_block.new.into
    c.self.invariant tells (rw (← c.self.view_is) at c.requires) (c.in-Ok.ensures.honest tells trusted) (c.in-Ok.ensures.given tells trusted))
