use Rattle.command_text.proofs.FaultLaws.{field_line, version_line}
use Rattle.command_text.proofs.faults.put_super_fault.Goals as goal

pub returns-in-NotAnImage : goal.returns-in-NotAnImage
returns-in-NotAnImage g c = rw (c.in-NotAnImage.is) c.put.ensures

pub returns-in-Version : goal.returns-in-Version
returns-in-Version g c = rw (c.in-Version.is, ← version_line c.in-Version.found) c.put_lines.ensures

pub returns-in-BadField : goal.returns-in-BadField
returns-in-BadField g c = rw (c.in-BadField.is, ← field_line c.in-BadField.field) (rw (c.as_bytes.ensures.value, c.name.ensures) at c.put_lines-in-BadField.ensures)
