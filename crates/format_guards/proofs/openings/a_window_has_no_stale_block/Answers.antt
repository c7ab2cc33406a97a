use Rattle.std.proofs.Common.{ℕ, ◌≤◌, List, Result, Ok, Err, IfOk, inr, arith}
use Rattle.blk_base.specs.declared.geometry.Geometry.{Geometry}
use Rattle.blk_base.specs.declared.geometry.Super.{Super}
use Rattle.blk_base.specs.declared.journal_entry.CommittedEntry.{CommittedEntry}
use Rattle.disk_model.specs.Log.{Blocks}
use Rattle.journal_codec.specs.BlockBytes.{entries_in}
use Rattle.image_model.proofs.WindowLaws.{each_replayable, one_first}
use Rattle.image_model.specs.Windows.{IsThere, IsWindow}
use Rattle.image_model.specs.declared.fault.ImageFault.{ImageFault}
use Rattle.journal_window.specs.States.{WindowState}
use Rattle.journal_window.specs.Windows.{IsWindowOf}
use Rattle.format_guards.proofs.openings.a_window_has_no_stale_block.Goals as goal

stands : (g : Geometry) (start : ℕ) (journal : List (List ℕ)) (last : ℕ) (window : List CommittedEntry) (first sequence : ℕ) → IsWindow g start journal last window
    → start ≤ last → IsThere g journal last first → first ≤ sequence → sequence ≤ last → (oldest : ℕ) × IsThere g journal sequence oldest
stands g start journal last window first sequence is from there low high =
    let same = one_first g start journal last is.first first is.is_first (inr (from, there)) in
    let count = is.count in
    let one = each_replayable g journal last is.first is.blocks is.replayable sequence (omega (arith, same, low)) (omega (arith, count, high)) in
    let has = one.1.has in
    let some = has.1.range.0 in
    (has.0, (entries_in 0 one.0, has.1.run.sectors 0 (omega (arith, some))))

all_stand : (head : Super) (journal : Blocks) (result : Result WindowState ImageFault) → IfOk result (IsWindowOf head journal)
    → IfOk result (λ window. (first sequence : ℕ) → head.start ≤ window.last → IsThere head.geometry journal window.last first → first ≤ sequence → sequence ≤ window.last
    → (oldest : ℕ) × IsThere head.geometry journal sequence oldest)
all_stand head journal (Ok window) is = λ first sequence. stands head.geometry head.start journal window.last window.entries first sequence is.is_window
all_stand head journal (Err why) is = tt

pub returns : goal.returns
returns c = all_stand c.args.head.now c.args.journal.now c.window_of.result c.window_of.ensures.window
