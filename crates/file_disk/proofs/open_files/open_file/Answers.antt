use Rattle.file_disk.proofs.open_files.open_file.Goals as goal

pub returns-clause-opened : goal.returns-clause-opened
returns-clause-opened g c tells = record {
  locked = c.in_ok-lock.field-0;
  made = _;
  is_made = rw c.in_ok-opened.was at (c.open_or_make.ensures.opened tells);
  calls = rw (c.in_ok-lock.was, c.copy.ensures tells, c.in_ok-file.was) at (c.lock.ensures tells);
}
