use Rattle.file_disk.specs.declared.open_files.Access.TheVariants.{Look}
use Rattle.file_disk.proofs.OpenLaws.{made_new}
use Rattle.file_disk.proofs.open_files.open_to_look.Goals as goal

pub returns-in-Missing-clause-opened : goal.returns-in-Missing-clause-opened
returns-in-Missing-clause-opened g c tells =
    made_new c.make.result Look _ _ _ (rw (c.in_ok-kind.was, c.in-Missing.is) at (c.kind.ensures tells)) (c.make.ensures.made tells)
