use Rattle.command_text.proofs.statuses.put_mode.Goals as goal

pub returns-then-clean : goal.returns-then-clean
returns-then-clean g c = rw c.if-clean.true c.put.ensures

pub returns : goal.returns
returns g c = rw c.if-clean.false c.put_lines.ensures
