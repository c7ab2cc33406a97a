use Rattle.std.proofs.Common.{ℕ, ◌≡◌, ◌++◌, List, length, take, drop, flat_map}
use Rattle.std.specs.Prelude.{All}
use Rattle.sector_records.proofs.reader.read_records.Given as goal

-- whatever records the bytes spell, the first of them are there
abbrev pub invariant-loop-k : goal.invariant-loop-k
invariant-loop-k g l = record {
  size : length l.records ≡ l.k;
  read : (rs : List g.row.F-Record.Denot) (rest : List ℕ) → All g.F.Format.is_spelled rs → length rs ≡ l.count → drop 32 l.sector ≡ flat_map g.F.Format.record_bytes rs ++ rest → l.records ≡ take l.k rs;
}
