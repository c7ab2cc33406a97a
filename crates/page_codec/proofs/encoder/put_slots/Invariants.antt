use Rattle.page_codec.proofs.WriteLaws.{IsWrittenTo}
use Rattle.page_codec.proofs.encoder.put_slots.Given as goal

-- the runs in front are written
abbrev pub invariant-loop-run : goal.invariant-loop-run
invariant-loop-run l = IsWrittenTo l.run l.mappings l.page
