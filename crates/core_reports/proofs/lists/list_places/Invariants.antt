use Rattle.std.proofs.Common.{◌≡◌, ◌≤◌, [], length, take}
use Rattle.core_model.specs.SessionLimits.{most_requests}
use Rattle.core_reports.specs.Listed.{places_of_all}
use Rattle.core_reports.proofs.lists.list_places.Given as goal

abbrev pub invariant-loop-zone : goal.invariant-loop-zone
invariant-loop-zone l = l.initial.places ≡ [] → length (places_of_all l.zones) ≤ most_requests → l.places ≡ places_of_all (take l.zone-index l.zones)
