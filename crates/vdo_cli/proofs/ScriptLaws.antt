-- A script that was read can be served over the image that was opened.
use Rattle.std.proofs.Common.{ℕ, ◌≡◌, [], ◌∷◌, refl, arith}
use Rattle.blk_base.specs.declared.opened.Opened.{Opened}
use Rattle.core_model.specs.SessionLimits.{requests_in}
use Rattle.rebuild.specs.Openings.{Fits, HasItsHead}
use Rattle.stream_text.specs.ReadingBytes.{IsWholeScript}
use Rattle.stream_text.specs.StreamRequests.{count_of}
use Rattle.vdo_core.specs.Cores.{CanBegin, sizes_of}
use Rattle.vdo_core.specs.declared.cores.Setup.{Setup}
use Rattle.vdo_model.specs.Scripts.{Script}
use Rattle.vdo_cli.specs.Commands.{IsSetup}

-- both count all requests
same_count : (script : Script) → count_of script ≡ requests_in script
same_count [] = refl
same_count (requests ∷ script) = let rest = same_count script in omega (arith, rest)

pub can_begin : (size : ℕ) (setup : Setup) (start : Opened) (script : Script) → IsSetup setup → HasItsHead size start → Fits start → IsWholeScript script → CanBegin (sizes_of setup start.head) script start
can_begin size setup start script has head fits whole = record {
  geometry = fits.sizes;
  same = refl;
  start = head.1.start;
  zones = has.logical.0;
  physical = has.physical.0;
  depth = has.depth.0;
  limits = record {
    streams = omega (arith, whole.rows);
    depth = has.depth.1;
    requests = omega (arith, whole.few, same_count script);
    zones = has.logical.1;
    physical = has.physical.1;
  };
  served = whole.writes;
  pages = fits.pages;
  counters = fits.counters;
  limit = fits.limit;
}
