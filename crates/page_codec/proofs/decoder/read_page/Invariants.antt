use Rattle.std.proofs.Common.{◌*◌}
use Rattle.page_codec.specs.Runs.{AreReadTo}
use Rattle.page_codec.proofs.decoder.read_page.Given as goal

-- the runs in front are read
abbrev pub invariant-loop-run : goal.invariant-loop-run
invariant-loop-run l = AreReadTo l.want l.bytes (28 * l.run) l.into
