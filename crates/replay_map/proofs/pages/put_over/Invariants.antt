use Rattle.replay_map.proofs.PutLaws.{AreOwn, ArePutBut, itself, mapping_at}
use Rattle.replay_map.proofs.pages.put_over.Given as goal

abbrev pub invariant-loop-id : goal.invariant-loop-id
invariant-loop-id l = record {
  own : AreOwn l.changes l.fn.page l.id-iterator;
  put : ArePutBut mapping_at itself l.changes l.fn.page l.id-iterator l.fn.into l.into;
}
