use Rattle.std.proofs.Common.{◌∷◌, subst}
use Rattle.core_laws.proofs.Common.{Enters, Remaps, RightTrace}
use Rattle.core_laws.proofs.trace.Cuts.{right_part}
use Rattle.core_laws.proofs.laws.an_entry_says_what_it_replaces.Goals as goal

pub returns-clause-old : goal.returns-clause-old
returns-clause-old c = λ s core newer older e legal is fair. (right_part s newer (Enters (Remaps e) ∷ older) (subst (RightTrace s) is legal.right)).0.old_is fair

pub returns-clause-new : goal.returns-clause-new
returns-clause-new c = λ s core newer older e legal is. (right_part s newer (Enters (Remaps e) ∷ older) (subst (RightTrace s) is legal.right)).0.is_write
