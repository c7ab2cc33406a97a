use Rattle.slab_counts.proofs.FreeLaws.{least, none}
use Rattle.slab_counts.proofs.counts.first_free_from.Goals as goal

pub returns-in_err-behind-clause-none : goal.returns-in_err-behind-clause-none
returns-in_err-behind-clause-none c =
    rw c.from_residual.ensures (none c.args.counters.now c.args.claims.now c.args.cursor c.requires.cursor c.requires.sizes c.requires.below c.in_err-behind.ensures.none)

pub returns-clause-some : goal.returns-clause-some
returns-clause-some c = least c.args.counters.now c.args.claims.now c.args.cursor c.requires.cursor c.requires.sizes c.requires.below c.in_ok-behind.behind c.in_ok-behind.ensures.some
