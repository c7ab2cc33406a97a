use Rattle.command_text.proofs.FaultLaws.{compressed_line, header_line, out_of_range_line}
use Rattle.command_text.proofs.faults.put_page_fault.Goals as goal

pub returns-in-Header : goal.returns-in-Header
returns-in-Header g c = rw (c.in-Header.is, ← header_line c.args.at) c.put_lines.ensures

pub returns-in-Compressed : goal.returns-in-Compressed
returns-in-Compressed g c = rw (c.in-Compressed.is, ← compressed_line c.args.at c.in-Compressed.slot) (rw c.from.ensures at c.put_lines-in-Compressed.ensures)

pub returns-in-OutOfRange : goal.returns-in-OutOfRange
returns-in-OutOfRange g c = rw (c.in-OutOfRange.is, ← out_of_range_line c.args.at c.in-OutOfRange.slot) (rw c.from-in-OutOfRange.ensures at c.put_lines-in-OutOfRange.ensures)
