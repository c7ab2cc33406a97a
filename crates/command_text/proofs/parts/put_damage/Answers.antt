use Rattle.command_text.proofs.parts.put_damage.Goals as goal

pub returns-in-Page : goal.returns-in-Page
returns-in-Page g c = rw (c.in-Some.is, c.in-Page.is) c.put_damaged.ensures

pub returns-in-Count : goal.returns-in-Count
returns-in-Count g c = rw (c.in-Some.is, c.in-Count.is) c.put_damaged-in-Count.ensures
