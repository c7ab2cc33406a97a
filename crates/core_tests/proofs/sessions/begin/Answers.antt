use Rattle.std.proofs.Common.{rules, refl}
use Rattle.core_tests.proofs.sessions.begin.Goals as goal

pub begin-requires : goal.begin-requires
begin-requires c = record {
  geometry = c.requires.fits.sizes;
  same = refl;
  start = search rules;
  zones = search rules;
  physical = search rules;
  depth = search rules;
  limits = search rules;
  served = c.requires.served;
  pages = c.requires.fits.pages;
  counters = c.requires.fits.counters;
  limit = c.requires.fits.limit;
}
