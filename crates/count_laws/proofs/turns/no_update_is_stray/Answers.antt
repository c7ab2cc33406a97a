use Rattle.count_laws.proofs.UpdateLaws.{next_fits, next_fits_sum, taken_is_mapped}
use Rattle.count_laws.proofs.turns.no_update_is_stray.Goals as goal

pub returns : goal.returns
returns c = record {
  counter = next_fits;
  balance = next_fits_sum;
  mapped = taken_is_mapped;
}
