-- Rows that pin a device in memory that keeps no log: of each definition what it gives, and that it gives nothing else.
use Rattle.std.proofs.Common.{ℕ, ◌≡◌, true, List, [], ◌∷◌, length, refl, ap, arith}
use Rattle.blk_base.specs.declared.place.Pbn.{Pbn}
use Rattle.disk_model.specs.declared.call.Call.{Call}
use Rattle.disk_model.specs.declared.call.Call.TheVariants.{Read, Write, Flush}
use Rattle.disk_model.specs.declared.history.Newest.TheVariants.{None as NoCall, Read as NewestRead, Write as NewestWrite, Flush as NewestFlush}
use Rattle.disk_model.specs.Histories.{calls_of}
use Rattle.disk_model.specs.Ram.{Ram, ram_seen, begun, after_call}

-- a device of two blocks, of which the first was written
abbrev first : Pbn
first = record { 0 = 0 }

abbrev before : Ram
before = begun ((5 ∷ []) ∷ (7 ∷ []) ∷ [])

abbrev written : Ram
written = after_call before (Write first (6 ∷ []) true) ((6 ∷ []) ∷ (7 ∷ []) ∷ [])

-- one that begins has the blocks that it had at first, and no call
begun-blocks : before.blocks ≡ before.opening
begun-blocks = refl

begun-no_call : before.log ≡ []
begun-no_call = refl

-- the newest call comes first
after-newest : (after_call written (Flush true) written.blocks).log ≡ Flush true ∷ Write first (6 ∷ []) true ∷ []
after-newest = refl

-- the blocks are those that it left, and those at first stay
after-blocks : written.blocks ≡ (6 ∷ []) ∷ (7 ∷ []) ∷ []
after-blocks = refl

after-opening : written.opening ≡ before.opening
after-opening = refl

-- it shows its blocks at first, how many there are and its log, and counts no fault
seen-written : ram_seen written ≡ record { opening = before.opening; size = 2; log = written.log; faults = 0; unkept = 0 }
seen-written = refl

seen-no_fault : (ram : Ram) → (ram_seen ram).faults ≡ 1 → ⊥
seen-no_fault ram fault = omega (arith, fault)

-- the calls before the newest come behind it, with what they wrote or gave
abbrev flushed : List Call
flushed = Flush true ∷ []

calls-none : calls_of NoCall ≡ []
calls-none = refl

calls-flush : calls_of (NewestFlush (record { marker = _; value = flushed })) ≡ Flush true ∷ flushed
calls-flush = refl

calls-write : calls_of (NewestWrite first (record { marker = _; value = 6 ∷ [] }) (record { marker = _; value = flushed })) ≡ Write first (6 ∷ []) true ∷ flushed
calls-write = refl

calls-read : calls_of (NewestRead first (record { marker = _; value = 6 ∷ [] }) (record { marker = _; value = flushed })) ≡ Read first (6 ∷ []) true ∷ flushed
calls-read = refl

calls-no_less : calls_of (NewestFlush (record { marker = _; value = flushed })) ≡ flushed → ⊥
calls-no_less same = let short : ◌≡◌ {A = ℕ} 2 1 = ap length same in omega (arith, short)
