use Rattle.session_opening.proofs.BelowLaws.{AreFilled}
use Rattle.session_opening.proofs.pages.lead.Given as goal

abbrev pub invariant-loop-below : goal.invariant-loop-below
invariant-loop-below l = AreFilled l.places l.fn.page l.below-iterator l.mappings
