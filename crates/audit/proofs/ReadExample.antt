-- A small image, as a device gives it that doesn't tell which calls were made: its superblock, and a journal of zeros.
use Rattle.std.proofs.Common.{◌≡◌, Bool, false, [], ◌∷◌, reverse, Ok, refl, inl, arith}
use Rattle.disk_model.specs.Trust.{trust_of}
use Rattle.replay_counts.proofs.ReadRows.{no_entries}
use Rattle.blk_base.specs.declared.geometry.Super.{Super as Superblock}
use Rattle.image_layout.proofs.AgainLaws.{written_again}
use Rattle.image_layout.proofs.SpellingLaws.{super_size}
use Rattle.image_layout.specs.Superblock.{super_block, super_of}
use Rattle.image_model.proofs.Example.{small, small_is, zeros}
use Rattle.image_model.specs.Windows.{IsWindow}
use Rattle.image_model.proofs.ReadExample.{seen, were_read, zeros_given, zero_journal, none_there}
use Rattle.image_opening.specs.Heads.{IsHeadRead}
use Rattle.journal_window.specs.Reads.{IsWindowRead}

-- The superblock of a session that was closed, or wasn't.
abbrev pub head_of : Bool → Superblock
head_of clean = record { geometry = small; clean = clean; start = 1 }

pub says_head : (clean : Bool) → super_of (super_block (head_of clean)) 154 ≡ Ok (head_of clean)
says_head clean = written_again (head_of clean) 154 small_is (omega arith) (omega arith) (omega arith) (omega arith)

pub head_is_read : (honest clean : Bool) → IsHeadRead (trust_of false honest) seen seen (head_of clean)
head_is_read honest clean = record {
  block = super_block (head_of clean);
  read = were_read honest 0 (super_block (head_of clean) ∷ []) (super_size (head_of clean), (λ told. absurd (cc told)), tt);
  is = record { says = says_head clean; sizes = small_is; start = (omega arith, omega arith); room = omega arith };
}

pub window_of_zeros : IsWindow small 1 zero_journal 0 []
window_of_zeros = record {
  is_last = record { there = inl refl; none = λ s h from later below there. none_there s h there };
  first = 1;
  is_first = inl (refl, refl);
  blocks = [];
  count = refl;
  replayable = tt;
  entries = refl;
}

pub window_is_read : (honest clean : Bool) → IsWindowRead (trust_of false honest) seen seen (head_of clean) no_entries
window_is_read honest clean = (
  zero_journal,
  record { count = refl; read = were_read honest 1 (reverse zero_journal) (zeros_given honest 1 8) },
  record { sequences = λ unclean. omega arith; is_window = window_of_zeros },
)

-- A superblock whose journal has no slots: whatever was read, its window has no entries.
abbrev pub without_journal : Superblock
without_journal = record { geometry = record small { journal = 0 }; clean = false; start = 1 }

pub window_of_none : IsWindow (record small { journal = 0 }) 1 [] 0 []
window_of_none = record {
  is_last = record { there = inl refl; none = λ s h from later below there. zeros 1 s h there.0 there.1 };
  first = 1;
  is_first = inl (refl, refl);
  blocks = [];
  count = refl;
  replayable = tt;
  entries = refl;
}

pub nothing_read : (honest : Bool) → IsWindowRead (trust_of false honest) seen seen without_journal no_entries
nothing_read honest = (
  [],
  record { count = refl; read = were_read honest 1 [] tt },
  record { sequences = λ unclean. omega arith; is_window = window_of_none },
)
