use Rattle.std.proofs.Common.{◌≡◌, ◌++◌, ℕ, List, length, take, drop, flat_map}
use Rattle.std.specs.Prelude.{All}
use Rattle.uds_chapters.specs.declared.entry.Record.{Record}
use Rattle.uds_chapters.specs.Pages.{HoldsRecord, record_bytes}
use Rattle.uds_chapters.proofs.page_reader.read_records.Given as goal

-- whatever records the bytes spell, the first of them are there
abbrev pub invariant-loop-k : goal.invariant-loop-k
invariant-loop-k l = record {
  size : length l.records ≡ l.k;
  read : (rs : List Record) (rest : List ℕ) → All HoldsRecord rs → length rs ≡ l.count → drop 16 l.bytes ≡ flat_map record_bytes rs ++ rest → l.records ≡ take l.k rs;
}
