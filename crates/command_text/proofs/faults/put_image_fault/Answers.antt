use Rattle.command_text.proofs.FaultLaws.{counter_line, shared_line, window_line}
use Rattle.command_text.proofs.faults.put_image_fault.Goals as goal

pub returns-in-Super : goal.returns-in-Super
returns-in-Super g c = rw (c.in-Super.is) c.put_super_fault.ensures

pub returns-in-Window : goal.returns-in-Window
returns-in-Window g c = rw (c.in-Window.is, ← window_line c.in-Window.sequence) c.put_lines.ensures

pub returns-in-Page : goal.returns-in-Page
returns-in-Page g c = rw (c.in-Page.is) c.put_page_fault.ensures

pub returns-in-Counter : goal.returns-in-Counter
returns-in-Counter g c = rw (c.in-Counter.is, ← counter_line c.in-Counter.at _) c.put_lines-in-Counter.ensures

pub returns-in-SharedPage : goal.returns-in-SharedPage
returns-in-SharedPage g c = rw (c.in-SharedPage.is, ← shared_line c.in-SharedPage.at) c.put_lines-in-SharedPage.ensures

pub returns-in-Counts : goal.returns-in-Counts
returns-in-Counts g c = rw (c.in-Counts.is) c.put_counts_fault.ensures

pub returns-in-Unclean : goal.returns-in-Unclean
returns-in-Unclean g c = rw (c.in-Unclean.is) c.put.ensures

pub returns-in-Device : goal.returns-in-Device
returns-in-Device g c = rw (c.in-Device.is) c.put-in-Device.ensures

pub returns-in-Memory : goal.returns-in-Memory
returns-in-Memory g c = rw (c.in-Memory.is) c.put-in-Memory.ensures
