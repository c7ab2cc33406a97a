-- Scripts, computed at rows.
use Rattle.std.proofs.Common.{ℕ, ◌≡◌, true, false, Some, None, replicate, refl, arith}
use Rattle.std.proofs.lemmas.List.{length-replicate}
use Rattle.blk_base.specs.Sectors.{zero_block, filled_block as block}
use Rattle.blk_base.specs.declared.request.Request.{Request}
use Rattle.blk_base.specs.declared.request.Request.TheVariants.{Read, Write, Discard, Flush}
use Rattle.blk_base.specs.Forms.{lba as address}
use Rattle.vdo_model.specs.Scripts.{IsServed, request_at, address_of, value_written, same_writer}
use Rattle.vdo_model.proofs.Example.{of_a, of_b, script}

-- request_at: by stream and number
a_writes_first : request_at script (of_a 0) ≡ Some (Write (address 1) (block 1) false)
a_writes_first = refl

a_flushes_then : request_at script (of_a 1) ≡ Some Flush
a_flushes_then = refl

b_reads_second : request_at script (of_b 1) ≡ Some (Read (address 1))
b_reads_second = refl

-- request_at: none behind a stream's end, and none of a stream that isn't there
a_has_three : request_at script (of_a 3) ≡ None
a_has_three = refl

two_streams : request_at script (record { stream = 2; number = 0 }) ≡ None
two_streams = refl

-- address_of: a read, a write and a discard have one, and a flush has none
of_read : address_of (Read (address 7)) ≡ Some 7
of_read = refl

of_write : address_of (Write (address 7) (block 1) true) ≡ Some 7
of_write = refl

of_discard : address_of (Discard (address 7)) ≡ Some 7
of_discard = refl

of_flush : address_of Flush ≡ None
of_flush = refl

-- value_written: a write gives its block, a discard zeros
writes_block : value_written (Some (Write (address 7) (block 1) false)) ≡ block 1
writes_block = refl

discards_to_zeros : value_written (Some (Discard (address 7))) ≡ zero_block
discards_to_zeros = refl

-- value_written: what writes nothing is said to write zeros, too
read_writes_none : value_written (Some (Read (address 7))) ≡ zero_block
read_writes_none = refl

flush_writes_none : value_written (Some Flush) ≡ zero_block
flush_writes_none = refl

unknown_writes_none : value_written None ≡ zero_block
unknown_writes_none = refl

-- IsServed: a write of this many zeros
abbrev pub zeros : ℕ → Request
zeros n = Write (record { 0 = 5 }) (replicate n 0) false

pub whole_write : IsServed (zeros 4096)
whole_write = (length-replicate {A = ℕ} 4096 0, refl)

pub short_write : IsServed (zeros 4095) → ⊥
short_write served = absurd (omega (arith, served.0, length-replicate {A = ℕ} 4095 0))

pub forced_write : IsServed (Write (record { 0 = 5 }) (replicate 4096 0) true) → ⊥
forced_write served = absurd (let forced = served.1 in cc)

pub discard_has_none : IsServed (Discard (record { 0 = 5 }))
discard_has_none = tt

-- same_writer: by stream and by number
is_same : same_writer (of_a 1) (of_a 1) ≡ true
is_same = refl

other_stream : same_writer (of_a 1) (of_b 1) ≡ false
other_stream = refl

other_number : same_writer (of_a 1) (of_a 2) ≡ false
other_number = refl
