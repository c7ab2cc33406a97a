use Rattle.std.proofs.Common.{arith}
use Rattle.format_guards.proofs.blocks.a_sector_gets_its_point_and_its_counts.Goals as goal

pub returns : goal.returns
returns c =
    let put = c.put_counts.ensures.put in record {
      point = λ n of below. (put.put n of below).commit;
      counted = λ n offset of below inside own small. let counted = (put.put n of below).counters offset inside own in omega (arith, counted, small);
    }
