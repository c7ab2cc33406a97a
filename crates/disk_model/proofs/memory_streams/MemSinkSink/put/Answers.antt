use Rattle.std.proofs.lemmas.Grind.{common_steps}
use Rattle.std.proofs.Common.{arith}
use Rattle.disk_model.proofs.memory_streams.MemSinkSink.put.Goals as goal

pub returns-then-count-bytes-clause-exact_err : goal.returns-then-count-bytes-clause-exact_err
returns-then-count-bytes-clause-exact_err c = grind (arith, common_steps)

pub returns-clause-puts : goal.returns-clause-puts
returns-clause-puts c = record {
  ok = λ told. grind (arith, common_steps);
  err = λ told. tt;
  cause = record { later = grind (arith, common_steps); failed = tt };
}

pub returns-clause-exact_ok : goal.returns-clause-exact_ok
returns-clause-exact_ok c = grind (arith, common_steps)

pub push_reserved-requires : goal.push_reserved-requires
push_reserved-requires c = grind (arith, common_steps)

pub loop-byte-preserved : goal.loop-byte-preserved
loop-byte-preserved c = grind (arith, common_steps)

pub invariant_of-self : goal.invariant_of-self
invariant_of-self c = grind (arith, common_steps)

pub returns-then-count-bytes-clause-puts : goal.returns-then-count-bytes-clause-puts
returns-then-count-bytes-clause-puts c = record {
  ok = λ told. tt;
  err = λ told. grind (arith, common_steps);
  cause = record { later = grind (arith, common_steps); failed = grind (arith, common_steps) };
}

pub invariant_of-self-else-count-bytes : goal.invariant_of-self-else-count-bytes
invariant_of-self-else-count-bytes c = grind (arith, common_steps)
