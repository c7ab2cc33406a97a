use Rattle.device_zone.proofs.requests.write_stored.Goals as goal

pub returns-in-Some-clause-err : goal.returns-in-Some-clause-err
returns-in-Some-clause-err g c = rw c.in-Some.is (rw c.empty_page.ensures at c.write_block.ensures.err)

pub returns-in-None-clause-err : goal.returns-in-None-clause-err
returns-in-None-clause-err g c = rw c.in-None.is c.write_block-in-None.ensures.err
