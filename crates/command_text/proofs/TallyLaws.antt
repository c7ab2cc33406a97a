-- How the requests of a desk log were answered, line after line.
use Rattle.std.specs.Prelude.{ℕ, ◌≡◌, ◌<◌, ◌+◌, List, length, get_or, take, reverse}
use Rattle.std.proofs.Common.{ap}
use Rattle.vdo_model.specs.declared.report.DeskLine.{DeskLine}
use Rattle.vdo_model.proofs.NoteLaws.{one_more}
use Rattle.command_text.specs.Tallies.{tally_of, with_line}

-- the answers so far, and of one line more
pub tally-next : (desk : List DeskLine) (n : ℕ) (line : DeskLine) → n < length desk → line ≡ get_or desk n line
    → tally_of (reverse (take (n + 1) desk)) ≡ with_line line (tally_of (reverse (take n desk)))
tally-next desk n line within is = ap tally_of (one_more desk n line within is)
