use Rattle.std.proofs.Common.{sym, inr, arith}
use Rattle.image_opening.proofs.superblock.read_head.Goals as goal

pub returns-in-Ok-read_super-clause-head : goal.returns-in-Ok-read_super-clause-head
returns-in-Ok-read_super-clause-head g c =
    let says = c.in-Ok-read_super.ensures in
    let size = c.blocks-blocks.ensures in
    record {
      block = c.in-Ok.block;
      read = c.in-Ok.ensures.read;
      is = record { says = rw size at (sym says.read); sizes = says.sizes; start = says.start; room = omega (arith, says.room, size) };
    }

pub returns-in-Err-clause-fault : goal.returns-in-Err-clause-fault
returns-in-Err-clause-fault g c =
    let size = c.blocks-blocks.ensures in
    inr (record {
      some = omega (arith, size);
      block = c.in-Ok.block;
      read = c.in-Ok.ensures.read;
      refused = rw size at (sym c.in-Err.ensures.read);
    })
