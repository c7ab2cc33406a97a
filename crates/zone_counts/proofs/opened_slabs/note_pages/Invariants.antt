use Rattle.std.proofs.Common.{ℕ, List, [], take}
use Rattle.zone_counts.specs.Zone.{AreOpenedWith, AreSlabs}
use Rattle.zone_counts.proofs.opened_slabs.note_pages.Given as goal

abbrev pub invariant-loop-at : goal.invariant-loop-at
invariant-loop-at l = record {
  slabs : AreSlabs l.layout.geometry l.zone l.zones l.slabs.items;
  opened : (counters : List ℕ) (count : ℕ) → AreOpenedWith l.layout.geometry counters [] l.zone l.zones count l.initial.slabs.items
      → AreOpenedWith l.layout.geometry counters (take l.at-index l.among) l.zone l.zones count l.slabs.items;
}
