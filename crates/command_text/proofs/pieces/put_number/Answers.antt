use Rattle.command_text.proofs.pieces.put_number.Goals as goal

pub returns : goal.returns
returns g c = rw (c.as_bytes.ensures.value, c.format.ensures.text) at c.put.ensures
