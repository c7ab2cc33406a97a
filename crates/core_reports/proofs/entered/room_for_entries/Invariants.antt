use Rattle.std.proofs.Common.{◌≡◌, map, take}
use Rattle.std.specs.Vec.{vec_capacity}
use Rattle.core_reports.proofs.EnteredLaws.{blank}
use Rattle.core_reports.proofs.entered.room_for_entries.Given as goal

abbrev pub invariant-loop-noted : goal.invariant-loop-noted
invariant-loop-noted l = record {
  items : l.entered.items ≡ map blank (take l.noted-index l.notes);
  capacity : vec_capacity l.entered ≡ vec_capacity l.initial.entered;
}
