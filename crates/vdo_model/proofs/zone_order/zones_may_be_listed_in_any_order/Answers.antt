use Rattle.vdo_model.proofs.ZoneOrderLaws.{drawn_same, drawn_history_same, listed_same, places_same, reads_same}
use Rattle.vdo_model.proofs.zone_order.zones_may_be_listed_in_any_order.Goals as goal

pub returns-clause-listed : goal.returns-clause-listed
returns-clause-listed c = listed_same

pub returns-clause-drawn : goal.returns-clause-drawn
returns-clause-drawn c = drawn_same

pub returns-clause-places : goal.returns-clause-places
returns-clause-places c = places_same

pub returns-clause-histories : goal.returns-clause-histories
returns-clause-histories c = drawn_history_same

pub returns-clause-reads : goal.returns-clause-reads
returns-clause-reads c = reads_same
