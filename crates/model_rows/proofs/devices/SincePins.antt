-- Rows that pin what was done to a device since a moment: for each clause one that it accepts, and one that breaks it alone.
use Rattle.std.proofs.Common.{ℕ, ◌≡◌, ◌++◌, true, false, List, [], ◌∷◌, length, refl, ap, inl, inr, arith}
use Rattle.blk_base.specs.Sectors.{sector, filled_block as block}
use Rattle.blk_base.specs.declared.place.Pbn.{Pbn}
use Rattle.blk_base.specs.Forms.{pbn as at}
use Rattle.blk_base.proofs.SectorLaws.{filled_size as block_length, sectors_tell}
use Rattle.disk_model.specs.declared.call.Call.{Call}
use Rattle.disk_model.specs.declared.call.Call.TheVariants.{Read, Write, Flush}
use Rattle.disk_model.specs.declared.reads.BlocksFault.TheVariants.{Device, Memory}
use Rattle.disk_model.specs.Causes.{Rose}
use Rattle.disk_model.specs.Log.{Blocks, block_at}
use Rattle.disk_model.specs.Seen.{Seen, Stays, Later}
use Rattle.disk_model.specs.Trust.{trust_of}
use Rattle.disk_model.specs.Since.{SinceThen, OnlyReads, IsUntouched, reads_of, AreGiven, WereRead, NextFailed, StopsBefore, OfDevice}
use Rattle.disk_model.specs.LogSteps.{FailedInLog}

abbrev device : Blocks → ℕ → List Call → ℕ → ℕ → Seen
device blocks size log faults unkept = record { opening = blocks; size = size; log = log; faults = faults; unkept = unkept }

-- a device of two blocks, after these calls, with these counts
abbrev blocks : Blocks
blocks = block 1 ∷ block 2 ∷ []

abbrev after : List Call → ℕ → ℕ → Seen
after log faults unkept = device blocks 2 log faults unkept

abbrev first : Seen
first = after [] 3 3

-- other opening blocks, as many
abbrev others : Blocks
others = block 9 ∷ block 2 ∷ []

they_differ : others ≡ blocks → ⊥
they_differ same = let byte = sectors_tell 9 1 (ap (λ (bs : Blocks). sector 0 (block_at bs 0)) same) in omega (arith, byte)

-- Stays: its opening blocks and its size, whatever was called
stays : Stays first (after (Flush true ∷ []) 4 4)
stays = record { opening = refl; size = refl }

stays-not_other_blocks : Stays first (device others 2 [] 3 3) → ⊥
stays-not_other_blocks stays = they_differ stays.opening

stays-not_another_size : Stays first (device blocks 3 [] 3 3) → ⊥
stays-not_another_size stays = omega (arith, stays.size)

-- Later: no count falls
later : Later first (after [] 3 4)
later = record { faults = omega arith; unkept = omega arith }

later-not_fewer_faults : Later first (after [] 2 3) → ⊥
later-not_fewer_faults later = omega (arith, later.faults)

later-not_fewer_unkept : Later first (after [] 3 2) → ⊥
later-not_fewer_unkept later = omega (arith, later.unkept)

-- OnlyReads: no write and no flush, the newest or not
reads : OnlyReads (Read (at 1) (block 2) true ∷ Read (at 0) (block 1) false ∷ [])
reads = tt

reads-not_a_write : OnlyReads (Read (at 1) (block 2) true ∷ Write (at 0) (block 1) true ∷ []) → ⊥
reads-not_a_write only = only

reads-not_a_flush : OnlyReads (Read (at 1) (block 2) true ∷ Flush true ∷ []) → ⊥
reads-not_a_flush only = only

-- SinceThen: of the calls since then, and not of those before
since : SinceThen OnlyReads (Flush true ∷ []) (Read (at 0) (block 1) true ∷ Flush true ∷ [])
since = (Read (at 0) (block 1) true ∷ [], refl, tt)

-- what was called last is a call since then
newest_since : (P : List Call → Type 0) (call : Call) → SinceThen P [] (call ∷ []) → P (call ∷ [])
newest_since P call (calls, is, holds) = walk calls is holds
  where
    walk : (calls : List Call) → call ∷ [] ≡ calls ++ [] → P calls → P (call ∷ [])
    walk [] is holds = absurd cc
    walk (c ∷ []) is holds = rw is holds
    walk (c ∷ c' ∷ calls) is holds = absurd cc

since-not_a_flush : SinceThen OnlyReads [] (Flush true ∷ []) → ⊥
since-not_a_flush then = newest_since OnlyReads (Flush true) then

since-not_a_write : SinceThen OnlyReads [] (Write (at 0) (block 1) true ∷ []) → ⊥
since-not_a_write then = newest_since OnlyReads (Write (at 0) (block 1) true) then

since-not_without_the_first : SinceThen OnlyReads (Flush true ∷ []) [] → ⊥
since-not_without_the_first (calls, is, reads) = none calls is
  where
    none : (calls : List Call) → ◌≡◌ {A = List Call} [] (calls ++ (Flush true ∷ [])) → ⊥
    none [] is = absurd cc
    none (c ∷ calls) is = absurd cc

-- IsUntouched: a read, which failed, and no write; of a device that doesn't tell the log says nothing
untouched : IsUntouched true first (after (Read (at 0) (block 1) false ∷ []) 4 3)
untouched = record { stays = record { opening = refl; size = refl }; later = record { faults = omega arith; unkept = omega arith }; reads = λ told. (Read (at 0) (block 1) false ∷ [], refl, tt) }

untouched-untold : IsUntouched false first (after (Flush true ∷ []) 3 3)
untouched-untold = record { stays = record { opening = refl; size = refl }; later = record { faults = omega arith; unkept = omega arith }; reads = λ told. absurd cc }

untouched-not_other_blocks : IsUntouched true first (device others 2 [] 3 3) → ⊥
untouched-not_other_blocks is = they_differ is.stays.opening

untouched-not_fewer_faults : IsUntouched true first (after [] 2 3) → ⊥
untouched-not_fewer_faults is = omega (arith, is.later.faults)

untouched-not_flushed : IsUntouched true first (after (Flush true ∷ []) 3 3) → ⊥
untouched-not_flushed is = since-not_a_flush (is.reads refl)

untouched-not_written : IsUntouched true first (after (Write (at 0) (block 1) true ∷ []) 3 3) → ⊥
untouched-not_written is = since-not_a_write (is.reads refl)

-- FailedInLog: the call stands there; or nothing does, and the second count rose
failed-kept : FailedInLog [] (Flush false ∷ []) (Flush false) (Rose 3 3)
failed-kept = inl refl

failed-not_kept : FailedInLog [] [] (Flush false) (Rose 3 4)
failed-not_kept = inr (refl, omega arith)

failed-not_without_rise : FailedInLog [] [] (Flush false) (Rose 3 3) → ⊥
failed-not_without_rise (inl is) = absurd cc
failed-not_without_rise (inr (same, rose)) = omega (arith, rose)

failed-not_another_call : FailedInLog [] (Flush true ∷ []) (Flush false) (Rose 3 4) → ⊥
failed-not_another_call (inl is) = absurd cc
failed-not_another_call (inr (same, rose)) = absurd cc

-- reads_of: of each block one read that succeeded, from this number on, the newest first
two_reads : reads_of 1 (block 5 ∷ block 4 ∷ []) ≡ Read (at 2) (block 5) true ∷ Read (at 1) (block 4) true ∷ []
two_reads = refl

no_reads : reads_of 1 [] ≡ []
no_reads = refl

-- AreGiven: whole blocks, and of an honest device what was settled in each
given : AreGiven (trust_of true true) 0 first (block 2 ∷ block 1 ∷ [])
given = (block_length 2, (λ told honest i within. inl refl), (block_length 1, (λ told honest i within. inl refl), tt))

given-not_short : AreGiven (trust_of true true) 0 first ([] ∷ []) → ⊥
given-not_short given = let whole = given.0 in omega (arith, whole)

-- what an honest device gives of block 0 is what was there
gives_first : (byte : ℕ) → AreGiven (trust_of true true) 0 first (block byte ∷ []) → byte ≡ 1
gives_first byte given = elim (given.1 refl refl 0 (omega arith)) [ inl same ↦ sectors_tell byte 1 same | inr none ↦ absurd none ]

given-not_other_bytes : AreGiven (trust_of true true) 0 first (block 9 ∷ []) → ⊥
given-not_other_bytes given = let byte = gives_first 9 given in omega (arith, byte)

given-not_of_another_place : AreGiven (trust_of true true) 0 first (block 2 ∷ []) → ⊥
given-not_of_another_place given = let byte = gives_first 2 given in omega (arith, byte)

given-not_older : AreGiven (trust_of true true) 0 first (block 2 ∷ block 9 ∷ []) → ⊥
given-not_older given = given-not_other_bytes given.2

-- of one that isn't honest, whole blocks alone
given-dishonest : AreGiven (trust_of true false) 0 first (block 9 ∷ [])
given-dishonest = (block_length 9, (λ told honest. absurd cc), tt)

-- WereRead: both blocks were read, and nothing else happened
abbrev both : List (List ℕ)
both = block 2 ∷ block 1 ∷ []

abbrev both_reads : List Call
both_reads = Read (at 1) (block 2) true ∷ Read (at 0) (block 1) true ∷ []

abbrev Were : Seen → Seen → List (List ℕ) → Type 0
Were before now blocks = WereRead (trust_of true true) 0 before now blocks

were_read : Were first (after both_reads 3 3) both
were_read = record {
  told = λ told. refl;
  stays = record { opening = refl; size = refl };
  later = record { faults = omega arith; unkept = omega arith };
  given = given;
  logged = λ told. refl;
}

were_read-not_of_another_size : Were (device blocks 3 [] 3 3) (device blocks 3 both_reads 3 3) both → ⊥
were_read-not_of_another_size were = let size = were.told refl in omega (arith, size)

were_read-not_stretched : Were first (device blocks 3 both_reads 3 3) both → ⊥
were_read-not_stretched were = omega (arith, were.stays.size)

were_read-not_fewer_faults : Were first (after both_reads 2 3) both → ⊥
were_read-not_fewer_faults were = omega (arith, were.later.faults)

were_read-not_other_bytes : Were first (after (Read (at 0) (block 9) true ∷ []) 3 3) (block 9 ∷ []) → ⊥
were_read-not_other_bytes were = given-not_other_bytes were.given

were_read-not_unread : Were first (after [] 3 3) (block 1 ∷ []) → ⊥
were_read-not_unread were = let is = were.logged refl in absurd cc

were_read-not_flushed : Were first (after (Flush true ∷ []) 3 3) [] → ⊥
were_read-not_flushed were = let is = were.logged refl in absurd cc

were_read-not_unread_alone : AreGiven (trust_of true true) 0 first (block 1 ∷ []) × Later first (after [] 3 3) × Stays first (after [] 3 3)
were_read-not_unread_alone = ((block_length 1, (λ told honest i within. inl refl), tt), record { faults = omega arith; unkept = omega arith }, record { opening = refl; size = refl })

-- NextFailed: block 0 was read, and a read of block 1 failed
abbrev Next : Seen → List (List ℕ) → Type 0
Next now blocks = NextFailed (trust_of true true) 0 first now blocks

abbrev one_failed : Pbn → List Call
one_failed next = Read next (block 7) false ∷ Read (at 0) (block 1) true ∷ []

next_failed : Next (after (one_failed (at 1)) 4 3) (block 1 ∷ [])
next_failed = record {
  stays = record { opening = refl; size = refl };
  later = record { faults = omega arith; unkept = omega arith };
  given = (block_length 1, (λ told honest i within. inl refl), tt);
  rose = omega arith;
  logged = λ told. (block 7, inl refl);
}

next_failed-not_kept : Next (after (Read (at 0) (block 1) true ∷ []) 4 4) (block 1 ∷ [])
next_failed-not_kept = record {
  stays = record { opening = refl; size = refl };
  later = record { faults = omega arith; unkept = omega arith };
  given = (block_length 1, (λ told honest i within. inl refl), tt);
  rose = omega arith;
  logged = λ told. (block 7, inr (refl, omega arith));
}

next_failed-not_other_blocks : Next (device others 2 (one_failed (at 1)) 4 3) (block 1 ∷ []) → ⊥
next_failed-not_other_blocks failed = they_differ failed.stays.opening

next_failed-not_fewer_unkept : Next (after (one_failed (at 1)) 4 2) (block 1 ∷ []) → ⊥
next_failed-not_fewer_unkept failed = omega (arith, failed.later.unkept)

next_failed-not_other_bytes : Next (after (Read (at 1) (block 7) false ∷ Read (at 0) (block 9) true ∷ []) 4 3) (block 9 ∷ []) → ⊥
next_failed-not_other_bytes failed = given-not_other_bytes failed.given

next_failed-not_without_rise : Next (after (one_failed (at 1)) 3 3) (block 1 ∷ []) → ⊥
next_failed-not_without_rise failed = omega (arith, failed.rose)

-- a call's block
abbrev newest_at : List Call → ℕ
newest_at [] = 9
newest_at (Read at bytes ok ∷ older) = at.0
newest_at (Write at bytes ok ∷ older) = at.0
newest_at (Flush ok ∷ older) = 9

next_failed-not_elsewhere : Next (after (one_failed (at 0)) 4 3) (block 1 ∷ []) → ⊥
next_failed-not_elsewhere failed = elim (failed.logged refl).1 [
  | inl is ↦ let place = ap newest_at is in omega (arith, place)
  | inr (same, rose) ↦ omega (arith, rose)
]

next_failed-not_unlogged : Next (after (Read (at 0) (block 1) true ∷ []) 4 3) (block 1 ∷ []) → ⊥
next_failed-not_unlogged failed = elim (failed.logged refl).1 [
  | inl is ↦ let size = ap length is in omega (arith, size)
  | inr (same, rose) ↦ omega (arith, rose)
]

-- StopsBefore: fewer than all were read, and the next one failed
stops : StopsBefore (trust_of true true) 0 2 first (after (one_failed (at 1)) 4 3)
stops = (block 1 ∷ [], omega arith, next_failed)

stops-not_behind_all : (now : Seen) → StopsBefore (trust_of true true) 0 0 first now → ⊥
stops-not_behind_all now (blocks, fewer, failed) = omega (arith, fewer)

stops-not_without_rise : StopsBefore (trust_of true true) 0 2 first (after (one_failed (at 1)) 3 3) → ⊥
stops-not_without_rise (blocks, fewer, failed) = omega (arith, failed.rose)

-- OfDevice: a fault of the device alone says something
of_memory : OfDevice ⊥ Memory
of_memory = tt

of_device-not_nothing : OfDevice ⊥ Device → ⊥
of_device-not_nothing says = says
