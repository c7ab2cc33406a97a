-- What a device gives that doesn't tell which calls were made: blocks of zeros, and a journal of them.
use Rattle.std.proofs.Common.{ℕ, zero, suc, ◌%◌, Bool, false, List, [], replicate, get_or, refl, arith}
use Rattle.std.proofs.Math.Nat.{mod-lt}
use Rattle.blk_base.proofs.SectorLaws.{zero_size}
use Rattle.blk_base.specs.Sectors.{sector, zero_block}
use Rattle.blk_base.specs.declared.journal_entry.Entry.{Entry}
use Rattle.disk_model.specs.Seen.{Seen}
use Rattle.disk_model.specs.Trust.{trust_of}
use Rattle.disk_model.specs.Since.{AreGiven, NextFailed, WereRead}
use Rattle.image_model.proofs.Example.{small, zeros}
use Rattle.image_model.proofs.ZeroLaws.{of_eight}
use Rattle.image_model.specs.Windows.{IsThere}
use Rattle.journal_codec.specs.Grammar.{IsSector}

-- What is seen of it at each moment.
abbrev pub seen : Seen
seen = record { opening = []; size = 154; log = []; faults = 3; unkept = 0 }

-- A read failed: the count of faults rose.
abbrev pub failed : Seen
failed = record seen { faults = 4 }

pub next_failed : (honest : Bool) (from : ℕ) → NextFailed (trust_of false honest) from seen failed []
next_failed honest from = record {
  stays = record { opening = refl; size = refl };
  later = record { faults = omega arith; unkept = omega arith };
  given = tt;
  rose = omega arith;
  logged = λ told. absurd (cc told);
}

-- Blocks that it may give, and that were read.
pub were_read : (honest : Bool) (from : ℕ) (blocks : List (List ℕ)) → AreGiven (trust_of false honest) from seen blocks → WereRead (trust_of false honest) from seen seen blocks
were_read honest from blocks given = record {
  told = λ told. absurd (cc told);
  stays = record { opening = refl; size = refl };
  later = record { faults = omega arith; unkept = omega arith };
  given = given;
  logged = λ told. absurd (cc told);
}

pub zeros_given : (honest : Bool) (from n : ℕ) → AreGiven (trust_of false honest) from seen (replicate n zero_block)
zeros_given honest from zero = tt
zeros_given honest from (suc n) = (zero_size, (λ told. absurd (cc told)), zeros_given honest from n)

-- A journal of eight blocks of zeros has no entries.
abbrev pub zero_journal : List (List ℕ)
zero_journal = replicate 8 zero_block

pub none_there : (s h : ℕ) → IsThere small zero_journal s h → ⊥
none_there s h there =
    of_eight (λ k. (s h : ℕ) (entries : List Entry) → IsSector 1 0 (sector 0 (get_or zero_journal k zero_block)) s h entries → ⊥)
    (zeros 1) (zeros 1) (zeros 1) (zeros 1) (zeros 1) (zeros 1) (zeros 1) (zeros 1)
    (s % 8) (mod-lt s (omega arith)) s h there.0 there.1
