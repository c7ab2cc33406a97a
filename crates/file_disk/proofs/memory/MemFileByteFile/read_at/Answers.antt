use Rattle.std.proofs.Common.{◌∙◌, List, ap, take, drop, ◌++◌, arith, ℕ}
use Rattle.file_disk.proofs.MemoryLaws.{gives_none, gives_part}
use Rattle.file_disk.proofs.memory.MemFileByteFile.read_at.Goals as goal

pub returns-then-offset-length-clause-given : goal.returns-then-offset-length-clause-given
returns-then-offset-length-clause-given c tells trusted = rw (← c.self.view_is) (gives_none _ c.args.offset c.args.into.now (omega (arith, c.if-offset-length.true, c.len-length.ensures)))

pub returns-clause-given : goal.returns-clause-given
returns-clause-given c tells trusted =
    rw (← c.self.view_is)
    (gives_part _ c.args.offset c.min-count.result c.copy_front.new.into (drop c.min-count.result c.args.into.now)
    (c.copy_front.ensures
    ∙ ap (λ (bytes : List ℕ). take c.min-count.result (drop c.args.offset bytes) ++ drop c.min-count.result c.args.into.now) c.deref.ensures.value)
    (omega (arith, c.min-count.ensures, c.len-length.ensures, c.if-offset-length.false))
    (λ none some. omega (arith, none, some, c.min-count.ensures, c.min.ensures, c.max-most.ensures, c.len-length.ensures, c.if-offset-length.false, c.copy_front.auto.into)))
