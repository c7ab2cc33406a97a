use Rattle.std.proofs.Common.{arith}
use Rattle.audit.proofs.TallyLaws.{listed_more, tallied_list}
use Rattle.audit.specs.Tallies.{number_in}
use Rattle.audit.proofs.tallies.tally.Goals as goal

pub loop-n-preserved : goal.loop-n-preserved
loop-n-preserved c =
    let were = c.loop-n.invariant in
    let more =
    listed_more (number_in c.in_ok-counts.counts) c.loop-n.n c.loop-n.tallied.items c.push.new.self.items c.of.result were.size were.each c.of.ensures c.in_ok-push.ensures.items in
    record { size = more.0; each = more.1 }

pub returns : goal.returns
returns c =
    let were = c.loop-n.invariant in
    let inside = c.loop-n.auto.n-end in
    let ended = c.loop-n-test.false in
    let total = c.data_blocks-n-end.ensures in
    tallied_list c.args.layout.now.geometry c.args.links.now c.args.mapped.now (number_in c.in_ok-counts.counts) c.loop-n.n c.loop-n.tallied.items (omega (arith, inside, ended, total)) were.size were.each
    c.in_ok-counts.ensures.tallied
