use Rattle.std.proofs.Common.{ℕ, ◌<◌}
use Rattle.vdo_model.specs.DeskLog.{IsNextLine}
use Rattle.vdo_model.specs.declared.report.DeskLine.TheVariants as line
use Rattle.desk_zone.proofs.beginnings.lowest.Given as goal

abbrev pub invariant-loop-stream : goal.invariant-loop-stream
invariant-loop-stream l =
    (stream number : ℕ) → stream < l.stream → IsNextLine l.sizes.depth l.desk.requests (line.Begin (record { stream = stream; number = number })) l.desk.log → ⊥
