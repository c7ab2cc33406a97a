use Rattle.std.proofs.Common.{rules}
use Rattle.vdo_model.proofs.requests.Requests.of_stream.Goals as goal

pub returns : goal.returns
returns c = search rules
