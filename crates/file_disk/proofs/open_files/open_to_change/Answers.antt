use Rattle.file_disk.specs.declared.open_files.Access.TheVariants.{Change}
use Rattle.file_disk.proofs.OpenLaws.{made_new}
use Rattle.file_disk.proofs.open_files.open_to_change.Goals as goal

pub returns-in-None-clause-opened : goal.returns-in-None-clause-opened
returns-in-None-clause-opened g c tells =
    made_new c.make.result Change _ _ _ (rw (c.in_ok-file.was, c.in-None.is) at (c.open.ensures tells)) (c.make.ensures.made tells)
