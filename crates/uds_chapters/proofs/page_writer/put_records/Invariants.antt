use Rattle.std.proofs.Common.{ℕ, ◌≡◌, ◌+◌, ◌*◌, ◌<◌, ◌++◌, length, take, flat_map, get_or}
use Rattle.uds_chapters.specs.declared.entry.Record.{Record}
use Rattle.uds_chapters.specs.Pages.{HoldsRecord, record_bytes}
use Rattle.uds_chapters.proofs.page_writer.put_records.Given as goal

abbrev pub invariant-loop-place : goal.invariant-loop-place
invariant-loop-place l = record {
  written : take (16 + 24 * l.place) l.page ≡ take 16 l.fn.page ++ flat_map record_bytes (take l.place l.records);
  held : (k : ℕ) (d : Record) → k < l.place → k < length l.records → HoldsRecord (get_or l.records k d);
}
