use Rattle.file_disk.proofs.FileLaws.{image_of_tied}
use Rattle.file_disk.proofs.disk.FileDisk.stops.Goals as goal

pub returns : goal.returns
returns g c tells image =
    rw (← c.self.view_is)
    (image_of_tied g.F.ByteFile.trust (g.F.ByteFile.seen c.self.inside.file) c.self.inside.history c.self.inside.blocks image c.self.invariant tells)
