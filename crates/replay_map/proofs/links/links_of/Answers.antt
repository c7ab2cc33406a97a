use Rattle.std.proofs.Common.{arith}
use Rattle.replay_map.proofs.LinkLaws.{links_are, where_ok}
use Rattle.replay_map.proofs.links.links_of.Goals as goal

pub returns-clause-links : goal.returns-clause-links
returns-clause-links c =
    let some = c.if-page-eq0.false in
    where_ok c.links_of_slots.result c.links_of_slots.ensures.of_slots (λ links are image there read.
    links_are image c.args.page.now c.args.mappings.now links.items (omega (arith, some)) there read are)
