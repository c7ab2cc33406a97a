use Rattle.std.proofs.Common.{arith}
use Rattle.file_disk.proofs.MemoryLaws.{holds-write}
use Rattle.file_disk.proofs.memory.MemFileByteFile.write_all_at.Goals as goal

pub invariant_of-self-2 : goal.invariant_of-self-2
invariant_of-self-2 c =
    holds-write c.self.inside.opening.value.items c.self.inside.bytes.items _ c.bytes.inside.bytes c.args.bytes.now c.self.inside.history _ c.args.offset
    c.requires (omega arith) (omega (arith, c.len-length.ensures, c.if-length-lt4096.false, c.if-offset-length.false))
    c.bytes.view_is c.add_write-2.ensures c.put_over.ensures c.self.invariant
