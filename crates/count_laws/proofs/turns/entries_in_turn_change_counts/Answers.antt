use Rattle.count_laws.proofs.StepLaws.{in_turn_rooted}
use Rattle.count_laws.proofs.TurnLaws.{addresses_fit, one_number_after, opened_has, running_count, shown_has, unshared_after}
use Rattle.count_laws.proofs.UnusedLaws.{none_is_unused, unused_has_none}
use Rattle.count_laws.proofs.turns.entries_in_turn_change_counts.Goals as goal

pub returns : goal.returns
returns c = record {
  counts = λ opened from entries block count sizes turns pointed has.
      running_count opened from entries block count (addresses_fit opened.geometry sizes) turns pointed (opened_has opened block count has);
  shown = shown_has;
  one = one_number_after;
  unused = λ opened entries block. (none_is_unused opened entries block, unused_has_none opened entries block);
  rooted = in_turn_rooted;
  unshared = unshared_after;
}
