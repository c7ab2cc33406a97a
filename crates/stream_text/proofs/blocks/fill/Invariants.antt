use Rattle.std.proofs.Common.{◌≡◌, ◌≤◌, ℕ, List, Result, length}
use Rattle.std.specs.Prelude.{IfOk}
use Rattle.stream_text.specs.LineWords.{bytes_of_parts}
use Rattle.stream_text.specs.RunParts.{behind, HoldsBytes}
use Rattle.stream_text.specs.declared.refusal.LineFault.{LineFault}
use Rattle.stream_text.proofs.NumberLaws.{parts_of}
use Rattle.stream_text.proofs.RunWordLaws.{FilledSo}
use Rattle.stream_text.proofs.blocks.fill.Given as goal

abbrev pub invariant-parts : goal.invariant-parts
invariant-parts l = record {
  length : length l.block ≡ 4096;
  filled : IfOk l.so_far (λ filled. filled ≤ 4097);
  bytes : (before : Result (List ℕ) LineFault) → HoldsBytes before l.fn.filled l.fn.block
      → FilledSo (behind before (bytes_of_parts (parts_of 43 l.word))) l.rest l.so_far l.block;
}

abbrev pub decreases-parts : goal.decreases-parts
decreases-parts l = length l.rest
