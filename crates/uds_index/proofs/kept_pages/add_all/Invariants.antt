use Rattle.std.proofs.Common.{◌≡◌, ◌+◌, ◌≤◌, ℕ, List, length, take}
use Rattle.std.specs.Option.{option_or}
use Rattle.uds_chapters.specs.Chapters.{location_of}
use Rattle.uds_index.proofs.kept_pages.add_all.Given as goal

abbrev pub invariant-loop-record : goal.invariant-loop-record
invariant-loop-record l = record {
  few : length l.chapter ≤ length l.initial.chapter + l.record-index;
  found : (name : List ℕ) → location_of name l.chapter ≡ option_or (location_of name (take l.record-index l.records)) (location_of name l.initial.chapter);
}
