use Rattle.stream_text.proofs.lines.put_request.Goals as goal

pub returns-in-Read : goal.returns-in-Read
returns-in-Read g c = rw c.in-Read.is c.put_command.ensures

pub returns-in-Write : goal.returns-in-Write
returns-in-Write g c = rw c.in-Write.is c.put_command-in-Write.ensures

pub returns-in-Discard : goal.returns-in-Discard
returns-in-Discard g c = rw c.in-Discard.is c.put_command-in-Discard.ensures

pub returns-in-Flush : goal.returns-in-Flush
returns-in-Flush g c = rw c.in-Flush.is c.put.ensures
