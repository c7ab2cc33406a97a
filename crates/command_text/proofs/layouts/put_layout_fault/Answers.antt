use Rattle.command_text.proofs.LayoutLaws.{small_line}
use Rattle.command_text.proofs.layouts.put_layout_fault.Goals as goal

pub returns-in-TooSmall : goal.returns-in-TooSmall
returns-in-TooSmall g c = rw (c.in-TooSmall.is, ← small_line c.in-TooSmall.needed c.in-TooSmall.has) c.put_lines.ensures
