-- Reading the window of a device: for each clause a small case that it accepts, and one that breaks it alone and is refused.
-- The device doesn't tell which calls were made, where nothing else is said.
use Rattle.std.proofs.Common.{ℕ, ◌≡◌, ◌+◌, Bool, true, false, Some, None, [], ◌∷◌, length, reverse, refl, ap, inl, arith}
use Rattle.blk_base.specs.declared.geometry.Super.{Super}
use Rattle.blk_base.specs.Forms.{pbn}
use Rattle.disk_model.specs.Seen.{Seen}
use Rattle.disk_model.specs.Trust.{Trust, trust_of}
use Rattle.image_layout.specs.declared.fault.Field.TheVariants.{Start}
use Rattle.image_layout.specs.declared.fault.SuperFault.TheVariants.{BadField, NotAnImage}
use Rattle.image_model.proofs.Example.{small, zeros}
use Rattle.image_model.proofs.WindowLaws.{one_last}
use Rattle.image_model.specs.Windows.{IsLast}
use Rattle.image_model.specs.declared.fault.ImageFault.TheVariants.{Super as Superblock, Window, Counts, Device, Unclean, Memory}
use Rattle.image_model.proofs.ReadExample.{seen, failed, next_failed, were_read, zeros_given, zero_journal, none_there}
use Rattle.journal_window.specs.Newest.{IsUpTo}
use Rattle.journal_window.specs.Reads.{Fails, IsRefusalRead, IsWindowRead, JournalFails}
use Rattle.journal_window.specs.States.{WindowState}

abbrev head_from : ℕ → Super
head_from start = record { geometry = small; clean = false; start = start }

abbrev pub no_entries : ℕ → WindowState
no_entries last = record { last = last; entries = [] }

last_of_zeros : (start last : ℕ) → last + 1 ≡ start → IsLast small start zero_journal last
last_of_zeros start last behind = record { there = inl behind; none = λ s h from later below there. none_there s h there }

-- Its window is read.
window_read : (honest : Bool) → IsWindowRead (trust_of false honest) seen seen (head_from 1) (no_entries 0)
window_read honest = (
  zero_journal,
  record { count = refl; read = were_read honest 1 (reverse zero_journal) (zeros_given honest 1 8) },
  record {
    sequences = λ unclean. omega arith;
    is_window = record { is_last = last_of_zeros 1 0 refl; first = 1; is_first = inl (refl, refl); blocks = []; count = refl; replayable = tt; entries = refl };
  },
)

-- It is read: a device that tells has that in its log. Here the journal has one slot.
abbrev single : Super
single = record { geometry = record small { journal = 1 }; clean = false; start = 1 }

window_unread : (honest : Bool) (window : WindowState) → IsWindowRead (trust_of true honest) seen seen single window → ⊥
window_unread honest window ([], read, is) = let count = read.count in omega (arith, count)
window_unread honest window (block ∷ [], read, is) = let size = ap length (read.read.logged refl) in omega (arith, size)
window_unread honest window (block ∷ other ∷ more, read, is) = let count = read.count in omega (arith, count)

-- and this is the window of what was read: of a journal without slots it is behind no other sequence
abbrev without_slots : Super
without_slots = record { geometry = record small { journal = 0 }; clean = false; start = 1 }

last_of_none : IsLast (record small { journal = 0 }) 1 [] 0
last_of_none = record { there = inl refl; none = λ s h from later below there. zeros 1 s h there.0 there.1 }

another_window : (trust : Trust) (before now : Seen) → IsWindowRead trust before now without_slots (no_entries 1) → ⊥
another_window trust before now (block ∷ journal, read, is) = let count = read.count in omega (arith, count)
another_window trust before now ([], read, is) =
    let same = one_last (record small { journal = 0 }) 1 [] 1 0 is.is_window.is_last last_of_none in omega (arith, same)

-- Why it has none: a session that wasn't closed has used up the sequences.
abbrev final : ℕ
final = 18014398509481983

refusal_read : (honest : Bool) → IsRefusalRead (trust_of false honest) seen seen (head_from final) (Superblock (BadField Start))
refusal_read honest = (
  zero_journal,
  record { count = refl; read = were_read honest 1 (reverse zero_journal) (zeros_given honest 1 8) },
  (refl, record { unclean = refl; last = 18014398509481982; is_last = last_of_zeros final 18014398509481982 refl; past = omega arith }),
)

refusal_unread : (honest : Bool) → IsRefusalRead (trust_of true honest) seen seen single Memory → ⊥
refusal_unread honest ([], read, is) = let count = read.count in omega (arith, count)
refusal_unread honest (block ∷ [], read, is) = let size = ap length (read.read.logged refl) in omega (arith, size)
refusal_unread honest (block ∷ other ∷ more, read, is) = let count = read.count in omega (arith, count)

used_up_early : (trust : Trust) (before now : Seen) → IsRefusalRead trust before now without_slots (Superblock (BadField Start)) → ⊥
used_up_early trust before now (block ∷ journal, read, is) = let count = read.count in omega (arith, count)
used_up_early trust before now ([], read, (same, used)) =
    let last = one_last (record small { journal = 0 }) 1 [] used.last 0 used.is_last last_of_none in
    let past = used.past in omega (arith, last, past)

-- Failures. Super, Window: of what was read
fails_used_up : (honest : Bool) → Fails (trust_of false honest) seen seen (head_from final) (Superblock (BadField Start))
fails_used_up = refusal_read

fails_no_image : (trust : Trust) (before now : Seen) (head : Super) → Fails trust before now head (Superblock NotAnImage) → ⊥
fails_no_image trust before now head fails = let same = fails.2.0 in absurd (cc same)

fails_window : (trust : Trust) (before now : Seen) → Fails trust before now without_slots (Window 7) → ⊥
fails_window trust before now (block ∷ journal, read, is) = let count = read.count in omega (arith, count)
fails_window trust before now ([], read, (used, faulty)) =
    let last = one_last (record small { journal = 0 }) 1 [] faulty.last 0 faulty.is_last last_of_none in
    let inside = faulty.inside in omega (arith, last, inside)

-- Device: where a read failed; Memory: at any time
fails_device : (honest : Bool) → Fails (trust_of false honest) seen failed (head_from 1) Device
fails_device honest = ([], omega arith, next_failed honest 1)

fails_for_nothing : (trust : Trust) (head : Super) → Fails trust seen seen head Device → ⊥
fails_for_nothing trust head fails = let rose = fails.2.rose in omega (arith, rose)

fails_memory : (trust : Trust) (before now : Seen) (head : Super) → Fails trust before now head Memory
fails_memory trust before now head = tt

-- and no other
fails_unclean : (trust : Trust) (before now : Seen) (head : Super) → Fails trust before now head Unclean → ⊥
fails_unclean trust before now head none = none

fails_counts : (trust : Trust) (before now : Seen) (head : Super) → Fails trust before now head (Counts (pbn 86) 2 1) → ⊥
fails_counts trust before now head none = none

-- The same of the blocks alone.
journal_fails_device : (honest : Bool) → JournalFails (trust_of false honest) seen failed small Device
journal_fails_device honest = ([], omega arith, next_failed honest 1)

journal_fails_for_nothing : (trust : Trust) → JournalFails trust seen seen small Device → ⊥
journal_fails_for_nothing trust fails = let rose = fails.2.rose in omega (arith, rose)

journal_fails_memory : (trust : Trust) (before now : Seen) → JournalFails trust before now small Memory
journal_fails_memory trust before now = tt

journal_fails_used_up : (trust : Trust) (before now : Seen) → JournalFails trust before now small (Superblock (BadField Start)) → ⊥
journal_fails_used_up trust before now none = none

-- Sequences up to the newest block; without one there are none.
up_to_seven : IsUpTo (Some (record { sequence = 7; head = 1 })) 7
up_to_seven = omega arith

past_seven : IsUpTo (Some (record { sequence = 7; head = 1 })) 8 → ⊥
past_seven less = omega (arith, less)

up_to_none : IsUpTo None 1 → ⊥
up_to_none none = none
