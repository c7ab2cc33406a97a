use Rattle.part_laws.proofs.ReapLaws.{opening_reaps, head_rises, reaps_on, reaps_sealed, reaps_advanced, behind_lower}
use Rattle.part_laws.proofs.reaped_blocks.the_journal_reaps_what_is_handled.Goals as goal

pub returns-clause-opening : goal.returns-clause-opening
returns-clause-opening c = opening_reaps

pub returns-clause-head : goal.returns-clause-head
returns-clause-head c = head_rises

pub returns-clause-happens : goal.returns-clause-happens
returns-clause-happens c = reaps_on

pub returns-clause-seals : goal.returns-clause-seals
returns-clause-seals c = reaps_sealed

pub returns-clause-advances : goal.returns-clause-advances
returns-clause-advances c = reaps_advanced

pub returns-clause-behind : goal.returns-clause-behind
returns-clause-behind c = behind_lower
