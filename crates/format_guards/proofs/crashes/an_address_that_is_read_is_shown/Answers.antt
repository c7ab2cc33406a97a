use Rattle.format_guards.proofs.CrashFacts.{first_shown}
use Rattle.std.proofs.lemmas.Result.{IfOk-weaker}
use Rattle.format_guards.proofs.crashes.an_address_that_is_read_is_shown.Goals as goal

pub returns : goal.returns
returns g c = IfOk-weaker _ _ _ (λ shown is. first_shown _ _ _ shown is) c.show.ensures.shows
