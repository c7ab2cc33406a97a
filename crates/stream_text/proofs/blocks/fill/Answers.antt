use Rattle.stream_text.proofs.RunWordLaws.{filled-start, filled-next, filled-last}
use Rattle.stream_text.specs.RunParts.{run_said}
use Rattle.stream_text.proofs.blocks.fill.Goals as goal

pub parts-init : goal.parts-init
parts-init c = record { length = c.requires.length; filled = c.requires.filled; bytes = λ before held. filled-start before c.args.word.now c.args.filled c.args.block.now held }

pub parts-preserved : goal.parts-preserved
parts-preserved c =
    let begins = rw c.in-Some.is at c.next_run-run.ensures.parts in
    record {
      length = c.with_run-so_far.ensures.length;
      filled = c.with_run-so_far.ensures.filled;
      bytes = λ before held. filled-next _ c.parts.rest.now begins.part c.in-Some.more.now c.parts.so_far c.with_run-so_far.result c.parts.block
          c.with_run-so_far.new.block (run_said c.next_run-run.result.0) (c.parts.invariant.bytes before held) begins.parts begins.says c.with_run-so_far.ensures.bytes;
    }

pub returns-in-None-clause-bytes : goal.returns-in-None-clause-bytes
returns-in-None-clause-bytes c =
    let begins = rw c.in-None.is at c.next_run-run.ensures.parts in
    λ before held. filled-last _ c.parts.rest.now begins.part c.parts.so_far c.with_run-so_far.result c.parts.block c.with_run-so_far.new.block
    (run_said c.next_run-run.result.0) (c.parts.invariant.bytes before held) begins.parts begins.says c.with_run-so_far.ensures.bytes
