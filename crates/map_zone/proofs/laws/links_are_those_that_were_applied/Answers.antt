use Rattle.map_zone.proofs.OutLaws.{leads_to, link_from, linked_at}
use Rattle.map_zone.proofs.laws.links_are_those_that_were_applied.Goals as goal

pub returns-clause-stands : goal.returns-clause-stands
returns-clause-stands c = linked_at

pub returns-clause-only : goal.returns-clause-only
returns-clause-only c = link_from

pub returns-clause-says : goal.returns-clause-says
returns-clause-says c = leads_to
