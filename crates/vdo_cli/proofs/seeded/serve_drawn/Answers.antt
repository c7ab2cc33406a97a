use Rattle.std.proofs.Common.{sym, subst, arith}
use Rattle.stream_text.specs.ReadingBytes.{IsWholeScript}
use Rattle.vdo_cli.proofs.SeededScripts.{whole_workload}
use Rattle.vdo_cli.proofs.seeded.serve_drawn.Goals as goal

-- there are addresses
pub draw_requests-requires-clause-logical : goal.draw_requests-requires-clause-logical
draw_requests-requires-clause-logical g c = let some = c.requires.ready.is.opening.fits.sizes.logical.0 in omega (arith, some)

-- the requests can be served
pub serve-requires-clause-whole : goal.serve-requires-clause-whole
serve-requires-clause-whole g c = subst IsWholeScript (sym c.in_ok-requests.ensures) (whole_workload _ _ c.requires.within)

-- and so they are, by the schedule and the setup of the options
pub returns-clause-serves : goal.returns-clause-serves
returns-clause-serves g c = rw c.course_of-course.ensures at c.serve.ensures.serves
