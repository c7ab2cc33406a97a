use Rattle.recovery_laws.proofs.RecoverableLaws.{full_closed, underway_still}
use Rattle.recovery_laws.proofs.ShowLaws.{begun_still, closed_still}
use Rattle.recovery_laws.proofs.UntouchedLaws.{alike_still}
use Rattle.recovery_laws.proofs.laws.recovery_keeps_a_wrong_count.Goals as goal

pub returns : goal.returns
returns c = record {
  underway = underway_still;
  full = full_closed;
  alike = alike_still;
  begun = λ opening blocks first calls to begun. begun_still opening blocks first to calls begun;
  recovered = λ opening blocks first puts to are. closed_still opening blocks first to puts are;
}
