use Rattle.stream_text.specs.LineWords.{bytes_of_parts}
use Rattle.stream_text.specs.RunParts.{run_said}
use Rattle.stream_text.proofs.NumberLaws.{parts_of}
use Rattle.stream_text.proofs.RunWordLaws.{filled_all}
use Rattle.stream_text.proofs.blocks.block_of.Goals as goal

pub returns : goal.returns
returns c =
    c.whole.ensures (bytes_of_parts (parts_of 43 c.args.word.now))
    (filled_all c.args.word.now (run_said c.next_run-first.result.0) c.next_run-first.result.1 c.fill_all-filled.result c.fill_all-filled.new.block c.next_run-first.ensures.parts
    c.fill_all-filled.ensures.bytes)
