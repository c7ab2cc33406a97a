use Rattle.std.proofs.Common.{◌∷◌, ◌++◌, ◌≡◌, subst}
use Rattle.core_laws.proofs.Common.{Enters, Logged, Makes, Remaps, RightTrace, Session, Trace, journaled}
use Rattle.core_model.specs.Legal.{Legal}
use Rattle.core_model.specs.Steps.{Core}
use Rattle.core_laws.proofs.trace.Cuts.{right_part}
use Rattle.core_laws.proofs.trace.EntriesInTurn.{in_turn, ordered}
use Rattle.core_laws.proofs.trace.EntryMaps.{turned}
use Rattle.core_laws.proofs.trace.PagesOfTrace.{leafy_entered, linked_entered}
use Rattle.core_laws.proofs.laws.entries_come_in_turn.Goals as goal

-- the trace as it was when an entry was handed in
right_then : (s : Session) (core : Core) (newer older : Trace) (e : Logged) → Legal s core → core.trace ≡ newer ++ Enters e ∷ older → RightTrace s (Enters e ∷ older)
right_then s core newer older e legal is = right_part s newer (Enters e ∷ older) (subst (RightTrace s) is legal.right)

pub returns-clause-leaf : goal.returns-clause-leaf
returns-clause-leaf c = λ s core newer older e legal is. let right = right_then s core newer older (Remaps e) legal is in leafy_entered s older e.at.0 right.2 right.0.leaf

pub returns-clause-block : goal.returns-clause-block
returns-clause-block c = λ s core newer older e legal is. (right_then s core newer older (Remaps e) legal is).0.unused

pub returns-clause-once : goal.returns-clause-once
returns-clause-once c = λ s core newer older p legal is. (right_then s core newer older (Makes p) legal is).0.once

pub returns-clause-above : goal.returns-clause-above
returns-clause-above c = λ s core newer older p legal is. let right = right_then s core newer older (Makes p) legal is in linked_entered s older _ right.2 right.0.above

pub returns-clause-page_block : goal.returns-clause-page_block
returns-clause-page_block c = λ s core newer older p legal is. (right_then s core newer older (Makes p) legal is).0.unused

pub returns-clause-in_turn : goal.returns-clause-in_turn
returns-clause-in_turn c = λ s core entries session legal fair said. in_turn s session fair.opened (journaled core.trace) entries said (turned s core.trace legal.right) (ordered s core.trace legal.right fair)
