-- For each definition what it gives or accepts, and what it refuses.
use Rattle.std.specs.Prelude.{ℕ, ◌≡◌, true, false, [], ◌∷◌, length, refl}
use Rattle.std.proofs.Common.{arith}
use Rattle.blk_base.specs.declared.geometry.Geometry.{Geometry}
use Rattle.blk_base.specs.Forms.{pbn as at}
use Rattle.disk_model.specs.declared.call.Call.TheVariants.{Read, Write, Flush}
use Rattle.disk_model.specs.Log.{Blocks}
use Rattle.vdo_model.specs.declared.report.HistoryEntry.{HistoryEntry}
use Rattle.vdo_model.specs.declared.report.Mark.{Mark}
use Rattle.vdo_model.specs.declared.report.Mark.TheVariants.{Settled, Unsettled, Refused}
use Rattle.vdo_model.specs.LastParts.{is_lasting, last_part}
use Rattle.vdo_model.specs.Journals.{MissesJournal, Surely, block_of_slot}

-- which entries last
a_settled_one_lasts : is_lasting false Settled ≡ true
a_settled_one_lasts = refl

an_unsettled_one_where_these_count : is_lasting true Unsettled ≡ true
an_unsettled_one_where_these_count = refl

no_unsettled_one_else : is_lasting false Unsettled ≡ false
no_unsettled_one_else = refl

no_refused_one : is_lasting true Refused ≡ false
no_refused_one = refl

-- from the last of them back: the newer ones that don't last are left out
abbrev entry : ℕ → Mark → HistoryEntry
entry number mark = record { at = record { 0 = 5 }; request = record { stream = 0; number = number }; mark = mark }

from_the_settled_one : last_part false (entry 3 Refused ∷ entry 2 Unsettled ∷ entry 1 Settled ∷ entry 0 Refused ∷ []) ≡ entry 1 Settled ∷ entry 0 Refused ∷ []
from_the_settled_one = refl

from_the_unsettled_one : last_part true (entry 3 Refused ∷ entry 2 Unsettled ∷ entry 1 Settled ∷ []) ≡ entry 2 Unsettled ∷ entry 1 Settled ∷ []
from_the_unsettled_one = refl

none_lasts : last_part true (entry 1 Refused ∷ entry 0 Refused ∷ []) ≡ []
none_lasts = refl

-- each content has it: what was there, and what was written since the last flush
abbrev there : Blocks
there = (7 ∷ []) ∷ []

both_have_it : Surely there (Write (at 0) (8 ∷ []) true ∷ []) 0 (λ content. length content ≡ 1)
both_have_it = (refl, (refl, tt))

the_written_one_lacks_it : Surely there (Write (at 0) [] true ∷ []) 0 (λ content. length content ≡ 1) → ⊥
the_written_one_lacks_it all = let none = all.0 in omega (arith, none)

the_one_that_was_there_lacks_it : Surely there (Write (at 0) [] true ∷ []) 0 (λ content. length content ≡ 0) → ⊥
the_one_that_was_there_lacks_it all = let none = all.1.0 in omega (arith, none)

it_is_gone_once_it_was_flushed : Surely there (Flush true ∷ Write (at 0) [] true ∷ []) 0 (λ content. length content ≡ 0)
it_is_gone_once_it_was_flushed = (refl, tt)

-- the journal's blocks stand behind the superblock's
first_slot : block_of_slot 0 ≡ 1
first_slot = refl

eighth_slot : block_of_slot 7 ≡ 8
eighth_slot = refl

-- a journal of eight blocks: what stands in front of it and behind it is no block of it
module _ (g : Geometry) (eight : g.journal ≡ 8) where
  the_block_in_front : MissesJournal g (Write (at 0) [] true)
  the_block_in_front slot inside same = omega (arith, same)

  the_block_behind : MissesJournal g (Write (at 9) [] true)
  the_block_behind slot inside same = omega (arith, same, inside, eight)

  a_read_of_it : MissesJournal g (Read (at 1) [] true)
  a_read_of_it slot inside = tt

  its_first_block : MissesJournal g (Write (at 1) [] true) → ⊥
  its_first_block misses = misses 0 (omega (arith, eight)) refl

  its_last_block : MissesJournal g (Write (at 8) [] false) → ⊥
  its_last_block misses = misses 7 (omega (arith, eight)) refl
