use Rattle.recovery_laws.proofs.WholeLaws.{cut, failures, parts, recovered, stops}
use Rattle.recovery_laws.proofs.laws.recovery_keeps_what_an_image_says.Goals as goal

pub returns : goal.returns
returns c = record { parts = parts; cut = cut; stops = stops; failures = failures; recovered = recovered }
