-- Picked images: each definition at a small log. The newest call stands first.
use Rattle.std.proofs.Common.{ℕ, zero, suc, ◌≡◌, ◌<◌, true, false, List, [], ◌∷◌, refl, arith, inl}
use Rattle.blk_base.specs.Forms.{pbn as at}
use Rattle.disk_model.specs.Numbers.{next_state, number_in, state_after}
use Rattle.disk_model.specs.declared.call.Call.{Call}
use Rattle.disk_model.specs.declared.call.Call.TheVariants.{Read, Write, Flush}
use Rattle.disk_model.specs.declared.fuse.Fuse.TheVariants.{Passes, Spent}
use Rattle.disk_model.specs.Fuses.{is_cut, burnt}
use Rattle.disk_model.specs.Log.{Blocks, block_at}
use Rattle.disk_model.specs.PickParts.{AreMarked, AreWritten, IsPickedUpTo, lasting, recent}
use Rattle.disk_model.specs.Picks.{choice, content_of, counted_log, numbers_before, pending, written}

-- block 2 is written, and the write fails; block 0 is written and flushed, and then written twice, once in vain
abbrev log : List Call
log =
    Write (at 0) (3 ∷ []) true ∷ Flush false ∷ Write (at 0) (2 ∷ []) false ∷ Read (at 0) (1 ∷ []) true ∷ Flush true ∷ Write (at 0) (1 ∷ []) true
    ∷ Write (at 2) (9 ∷ []) false ∷ []

-- number 0 is the durable content, and the others are the writes since the flush that succeeded, the oldest first
durable_of : content_of [] log 0 0 ≡ 1 ∷ []
durable_of = refl

first_write : content_of [] log 0 1 ≡ 2 ∷ []
first_write = refl

last_write : content_of [] log 0 2 ≡ 3 ∷ []
last_write = refl

two_pending : pending log 0 ≡ 2
two_pending = refl

-- a write that failed before the flush counts as without effect
without_effect : content_of (7 ∷ []) log 2 0 ≡ 7 ∷ []
without_effect = refl

none_pending : pending log 2 ≡ 0
none_pending = refl

-- a block that nobody wrote is as it was before
never_written : content_of (7 ∷ []) log 1 0 ≡ 7 ∷ []
never_written = refl

-- The row of numbers from 0 on, and from another number on.
next_of_zero : next_state 0 ≡ 1442695040888963407
unfolding next_state
next_of_zero = refl

-- above 2 ^ 64 - 1 it wraps
next_wraps : next_state 3 ≡ 2088359638719790806
unfolding next_state
next_wraps = refl

first_number : number_in (state_after 0 1) ≡ 167951807
unfolding next_state number_in
first_number = refl

second_number : number_in (state_after 0 2) ≡ 218396424
unfolding next_state number_in
second_number = refl

-- Blocks without such writes take no numbers, and each other one takes eight.
numbers_of_first : numbers_before log 1 ≡ 8
numbers_of_first = refl

numbers_of_none : numbers_before log 3 ≡ 8
numbers_of_none = refl

-- Which content is chosen: the durable one, the last write, or one of all of them.
choice_of_zero : choice 0 2 0 ≡ 0
choice_of_zero = refl

choice_of_one : choice 1 2 0 ≡ 2
choice_of_one = refl

choice_of_more : choice 7 2 (state_after 0 1) ≡ 2
unfolding next_state number_in
choice_of_more = refl

-- Of the calls that failed by a fuse the first alone counts.
counted_all : counted_log (Passes 1) log ≡ log
counted_all = refl

counted_two : counted_log (Spent 2) log ≡ Write (at 0) (1 ∷ []) true ∷ Write (at 2) (9 ∷ []) false ∷ []
counted_two = refl

-- A fuse of two calls: the third one fails by it, and is the last that counts.
fuse_goes_on : is_cut (burnt (Passes 2) log) ≡ false
fuse_goes_on = refl

fuse_cuts : is_cut (burnt (burnt (Passes 2) log) log) ≡ true
fuse_cuts = refl

fuse_is_spent : burnt (Passes 0) log ≡ Spent 7
fuse_is_spent = refl

fuse_stays_spent : burnt (Spent 3) log ≡ Spent 3
fuse_stays_spent = refl

-- The calls behind the last flush that succeeded, and those up to it.
recent_of : recent log ≡ Write (at 0) (3 ∷ []) true ∷ Flush false ∷ Write (at 0) (2 ∷ []) false ∷ Read (at 0) (1 ∷ []) true ∷ []
recent_of = refl

lasting_of : lasting log ≡ Flush true ∷ Write (at 0) (1 ∷ []) true ∷ Write (at 2) (9 ∷ []) false ∷ []
lasting_of = refl

-- a flush that failed is none
none_lasting : lasting (Flush false ∷ Write (at 0) (1 ∷ []) true ∷ Read (at 0) [] true ∷ []) ≡ []
none_lasting = refl

-- The blocks as the successful writes left them: one was written, and one wasn't.
two_blocks : Blocks → Blocks → Type 0
two_blocks opening blocks = AreWritten opening (Write (at 0) (1 ∷ []) true ∷ Write (at 1) (9 ∷ []) false ∷ []) blocks

writes_of_two : (b : ℕ) → b < 2
    → block_at ((1 ∷ []) ∷ (8 ∷ []) ∷ []) b ≡ written (block_at ((7 ∷ []) ∷ (8 ∷ []) ∷ []) b) (Write (at 0) (1 ∷ []) true ∷ Write (at 1) (9 ∷ []) false ∷ []) b
writes_of_two zero inside = refl
writes_of_two (suc zero) inside = refl
writes_of_two (suc (suc b)) inside = absurd (omega (arith, inside))

blocks_written : two_blocks ((7 ∷ []) ∷ (8 ∷ []) ∷ []) ((1 ∷ []) ∷ (8 ∷ []) ∷ [])
unfolding two_blocks
blocks_written = record { size = refl; writes = writes_of_two }

-- a write that failed is none of them
not_by_a_failed_one : two_blocks ((7 ∷ []) ∷ (8 ∷ []) ∷ []) ((1 ∷ []) ∷ (9 ∷ []) ∷ []) → ⊥
unfolding two_blocks
not_by_a_failed_one are = let other : ◌≡◌ {A = List ℕ} (9 ∷ []) (8 ∷ []) = are.writes 1 (omega arith) in cc

-- Marks: a write that failed counts, and a block may be marked that isn't written.
marked : AreMarked (Write (at 1) (9 ∷ []) false ∷ Flush false ∷ []) (true ∷ true ∷ [])
marked zero inside is = refl
marked (suc zero) inside is = refl
marked (suc (suc b)) inside is = absurd (omega (arith, inside))

unmarked : AreMarked (Write (at 1) (9 ∷ []) false ∷ []) (true ∷ false ∷ []) → ⊥
unmarked are = let no : false ≡ true = are 1 (omega arith) (inl refl) in cc

-- A picked image of which no block is made is what was before; a block that is made has 4,096 bytes.
none_made : IsPickedUpTo ((7 ∷ []) ∷ []) log 5 0 ((7 ∷ []) ∷ []) 5
none_made = record {
  size = refl;
  state_is = refl;
  whole = λ b within. absurd (omega (arith, within));
  sectors = λ b i within below. absurd (omega (arith, within));
  rest = λ b more inside. refl;
}

not_of_one_byte : IsPickedUpTo ((7 ∷ []) ∷ []) [] 5 1 ((7 ∷ []) ∷ []) 5 → ⊥
not_of_one_byte up = let size : 1 ≡ 4096 = up.whole 0 (omega arith) in absurd (omega (arith, size))
