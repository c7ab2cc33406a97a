use Rattle.std.proofs.Common.{◌≡◌, take, reverse}
use Rattle.image_layout.specs.Values.{mapping_of}
use Rattle.image_layout.proofs.values.mapping_at.Given as goal

abbrev pub invariant-loop-entry : goal.invariant-loop-entry
invariant-loop-entry l = l.mapping ≡ mapping_of (reverse (take l.entry-index l.entries)) l.at.0
