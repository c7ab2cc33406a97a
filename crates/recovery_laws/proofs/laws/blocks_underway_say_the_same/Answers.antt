use Rattle.recovery_laws.proofs.SoundLaws.{full_is_recovered, underway_is_kept}
use Rattle.recovery_laws.proofs.WholeLaws.{kept_by_both, same_again}
use Rattle.recovery_laws.proofs.laws.blocks_underway_say_the_same.Goals as goal

pub returns : goal.returns
returns c = record {
  underway = λ blocks now sound unclean underway. underway_is_kept blocks now sound unclean underway;
  full = λ blocks now sound full accepted. full_is_recovered blocks now sound full accepted;
  again = same_again;
  kept_again = λ old middle now first size second. kept_by_both old middle now first size second;
}
