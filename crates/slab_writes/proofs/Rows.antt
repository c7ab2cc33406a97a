-- For each clause of what is to be written of a slab a case that it accepts, and one that breaks it alone.
use Rattle.std.specs.Prelude.{ℕ, ◌≡◌, ◌≤◌, List, [], ◌∷◌, length, Option, None, Some}
use Rattle.std.proofs.Common.{sym, ◌∙◌, ap, arith, inl, inr, refl}
use Rattle.std.proofs.lemmas.Bool.{cases_eq}
use Rattle.std.proofs.lemmas.List.{get_or_past}
use Rattle.std.proofs.lemmas.List.Elements.{All-nil}
use Rattle.blk_base.specs.declared.geometry.Geometry.{Geometry}
use Rattle.blk_base.specs.declared.point.Point.{Point}
use Rattle.blk_base.specs.Forms.{point as p}
use Rattle.dirty_pages.specs.DirtyPoints.{clean, dirty_points_at}
use Rattle.reference_blocks.specs.References.{References, HandsOutBlock}
use Rattle.slab_codec.specs.BlockBytes.{block_bytes}
use Rattle.slab_codec.specs.declared.forms.SlabEntry.{SlabEntry}
use Rattle.slab_codec.specs.declared.forms.SlabJournalBlock.{SlabJournalBlock}
use Rattle.slab_codec.specs.Updates.{slab_entry as entry}
use Rattle.slab_journal.specs.Slab.{Slab, IsCovered, MayOverwrite}
use Rattle.slab_writes.specs.Writes.{Writes, IsOutAs, Raises, SettlesAs, opening, taken}
use Rattle.slab_writes.specs.Due.{NoneDue, Wants, WantsJournal, WantsReference, WritesJournal, WritesReference}
use Rattle.slab_writes.specs.Operations.{Taken, JournalOut, ReferenceOut, JournalDurable, ReferenceDurable, IsInJournal, IsInReference, IsDurable, updates_of}
use Rattle.slab_writes.specs.declared.forms.Need.TheVariants.{Full, Head, All}
use Rattle.slab_writes.specs.declared.forms.SlabPart.TheVariants as part
use Rattle.slab_writes.specs.declared.forms.SlabWork.{SlabWork}

-- a slab of 16 data blocks from block 85 on, a reference block at 101, and a journal of two slots from block 102 on
abbrev pub sizes : Geometry
sizes = record { logical = 1000; slabs = 1; slab_blocks = 16; journal = 8; index = 16; slab_journal = 2; height = 2; nonce = 1 }

-- the image has commit point 7; nothing is to be written
abbrev pub first : Writes
first = opening sizes 0 (p 7 ∷ [])

-- an update of its fourth block is taken
abbrev pub waits : Writes
waits = record {
  journal = record first.journal { filling = entry 512 3 ∷ []; last = p 512 };
  blocks = record first.blocks { applied = p 512 ∷ []; blocks = record { dirty = Some (p 512); writing = None } ∷ [] };
}

-- taken
takes_one : taken first (record { at = record { 0 = 88 }; point = p 512 }) ≡ waits
takes_one = refl

abbrev first_offset : List SlabEntry → ℕ
first_offset [] = 0
first_offset (e ∷ es) = e.offset

takes_it_elsewhere : ¬ (taken first (record { at = record { 0 = 89 }; point = p 512 }) ≡ waits)
takes_it_elsewhere = λ same. let no : 4 ≡ 3 = ap (λ (w : Writes). first_offset w.journal.filling) same in omega (arith, no)

-- its journal block is handed out, or its reference block
abbrev pub block_one : SlabJournalBlock
block_one = record { nonce = 1; sequence = 1; slab = 0; entries = entry 512 3 ∷ [] }

abbrev pub sealed : Writes
sealed = record waits { journal = record waits.journal { sequence = 2; filling = []; slots = [] ∷ (entry 512 3 ∷ []) ∷ [] } }

abbrev pub journal_work : SlabWork
journal_work = record { at = record { 0 = 103 }; slab = 0; part = part.Journal; number = 1 }

abbrev pub out : Writes
out = record waits { blocks = record waits.blocks { handed = p 512 ∷ []; blocks = record { dirty = None; writing = Some (p 512) } ∷ [] } }

abbrev pub reference_work : SlabWork
reference_work = record { at = record { 0 = 101 }; slab = 0; part = part.References; number = 0 }

-- IsOutAs
sealed_is_out : IsOutAs part.Journal 1 sealed
sealed_is_out = (omega arith, refl)

not_sealed : ¬ IsOutAs part.Journal 1 waits
not_sealed = λ is. omega (arith, is.0)

another_sequence : ¬ IsOutAs part.Journal 2 sealed
another_sequence = λ is. omega (arith, is.1)

handed_is_out : IsOutAs part.References 0 out
handed_is_out = record { first = p 512; is = refl }

dirty_is_not_out : ¬ IsOutAs part.References 0 waits
dirty_is_not_out = λ is. let no : ◌≡◌ {A = Option Point} None (Some is.first) = is.is in cc

-- Raises: the first two of three sectors, to at least 9
abbrev three : ℕ → ℕ → ℕ → List Point
three a b c = p a ∷ p b ∷ p c ∷ []

abbrev RaisesTwo : List Point → Type 0
RaisesTwo new = Raises (three 9 9 9) (three 5 10 1) 0 2 new

raises_two : RaisesTwo (three 9 10 1)
raises_two = record {
  size = refl;
  inside = λ n low high below. elim (cases_eq n 0) [ inl is ↦ rw is refl | inr later ↦ let one : n ≡ 1 = omega (arith, high, later) in rw one refl ];
  outside = λ n past. elim past [
    | inl low ↦ absurd (omega (arith, low))
    | inr high ↦ elim (cases_eq n 2) [ inl is ↦ rw is refl | inr more ↦ let behind : 3 ≤ n = omega (arith, high, more) in get_or_past (three 9 10 1) n (p 0) behind ∙ sym (get_or_past (three 5 10 1) n (p 0) behind) ]
  ];
}

one_left_behind : ¬ RaisesTwo (three 5 10 1)
one_left_behind = λ is. let no : 5 ≡ 9 = is.inside 0 (omega arith) (omega arith) (omega arith) in omega (arith, no)

one_too_many : ¬ RaisesTwo (three 9 10 9)
one_too_many = λ is. let no : 9 ≡ 1 = ap (λ (q : Point). q.0) (is.outside 2 (inr (omega arith))) in omega (arith, no)

one_sector_more : ¬ RaisesTwo (p 9 ∷ p 10 ∷ p 1 ∷ p 0 ∷ [])
one_sector_more = λ is. omega (arith, is.size)

-- SettlesAs
abbrev pub settled : Writes
settled = record {
  journal = record out.journal { commits = p 512 ∷ [] };
  blocks = record out.blocks { blocks = clean ∷ [] };
}

raised_to_handed : Raises (p 512 ∷ []) (p 0 ∷ []) 0 8 (p 512 ∷ [])
raised_to_handed = record {
  size = refl;
  inside = λ n low high below. let is : n ≡ 0 = omega (arith, below) in rw is refl;
  outside = λ n past. elim past [
    | inl low ↦ absurd (omega (arith, low))
    | inr high ↦ let behind : 1 ≤ n = omega (arith, high) in get_or_past (p 512 ∷ []) n (p 0) behind ∙ sym (get_or_past (p 0 ∷ []) n (p 0) behind)
  ];
}

pub settles_reference : SettlesAs part.References 0 out settled
settles_reference = record { raises = raised_to_handed; journal = refl; blocks = refl }

still_being_written : ¬ SettlesAs part.References 0 out (record settled { blocks = out.blocks })
still_being_written = λ is.
    let no : ◌≡◌ {A = Option Point} (Some (p 512)) None = ap (λ (r : References). (dirty_points_at r.blocks 0).writing) is.blocks in cc

not_raised : ¬ SettlesAs part.References 0 out (record settled { journal = out.journal })
not_raised = λ is. let no : 0 ≡ 512 = is.raises.inside 0 (omega arith) (omega arith) (omega arith) in omega (arith, no)

loses_an_update : ¬ SettlesAs part.References 0 out (record settled { journal = record settled.journal { filling = [] } })
loses_an_update = λ is. let no : 0 ≡ 1 = ap (λ (j : Slab). length j.filling) is.journal in omega (arith, no)

settles_journal : SettlesAs part.Journal 1 sealed (record sealed { journal = record sealed.journal { durable = 2 } })
settles_journal = refl

not_durable_yet : ¬ SettlesAs part.Journal 1 sealed sealed
not_durable_yet = λ same. let no : 1 ≡ 2 = ap (λ (w : Writes). w.journal.durable) same in omega (arith, no)

-- WantsJournal, WantsReference, Wants
pub may : MayOverwrite waits.journal
may = All-nil (IsCovered sizes waits.journal.commits)

pub one_waits : Wants part.Journal Head waits.journal
one_waits = (omega arith, may)

one_is_not_full : ¬ WantsJournal Full waits.journal
one_is_not_full = λ is. omega (arith, is)

none_waits : ¬ WantsJournal Head first.journal
none_waits = λ is. omega (arith, is)

all_that_is_dirty : WantsReference All first.journal
all_that_is_dirty = inl refl

pub no_reference_for_what_can_be_written : ¬ WantsReference Head waits.journal
no_reference_for_what_can_be_written = λ is. elim is [ inl all ↦ cc | inr stuck ↦ stuck.1 may ]

-- block 3 would be written over block 1, whose update isn't covered
abbrev stuck : Writes
stuck = record sealed { journal = record sealed.journal { sequence = 3; durable = 3; filling = entry 514 3 ∷ []; last = p 514 } }

stuck_is : ¬ MayOverwrite stuck.journal
stuck_is = λ covered. omega (arith, covered 0 (entry 512 3) (omega arith))

reference_in_its_place : Wants part.References Head stuck.journal
reference_in_its_place = inr (omega arith, stuck_is)

not_over_an_update : ¬ Wants part.Journal Head stuck.journal
not_over_an_update = λ is. stuck_is is.1

-- WritesJournal
abbrev WritesIt : List ℕ → Writes → SlabWork → Type 0
WritesIt bytes new work = WritesJournal waits new bytes work

abbrev pub one_bytes : List ℕ
one_bytes = block_bytes 1 1 0 (entry 512 3 ∷ [])

pub writes_journal : WritesIt one_bytes sealed journal_work
writes_journal = record {
  block = block_one;
  seals = record { waits = omega arith; none_writing = refl; covered = may; records = refl; follows = refl };
  says = refl;
  part = refl;
  number = refl;
  slab = refl;
  at = refl;
  same = refl;
}

says_something_else : (bytes : List ℕ) → ¬ (bytes ≡ one_bytes) → ¬ WritesIt bytes sealed journal_work
says_something_else bytes differs is = differs (is.says ∙ ap (λ (b : SlabJournalBlock). block_bytes b.nonce b.sequence b.slab b.entries) is.seals.records)

not_sealed_by_that : ¬ WritesIt one_bytes waits journal_work
not_sealed_by_that = λ is. let no : 1 ≡ 2 = ap (λ (j : Slab). j.sequence) is.seals.follows in omega (arith, no)

as_a_reference_block : ¬ WritesIt one_bytes sealed (record journal_work { part = part.References })
as_a_reference_block = λ is. let no : part.References ≡ part.Journal = is.part in cc

with_the_next_sequence : ¬ WritesIt one_bytes sealed (record journal_work { number = 2 })
with_the_next_sequence = λ is. omega (arith, is.number)

of_the_next_slab : ¬ WritesIt one_bytes sealed (record journal_work { slab = 1 })
of_the_next_slab = λ is. omega (arith, is.slab)

in_the_other_slot : ¬ WritesIt one_bytes sealed (record journal_work { at = record { 0 = 102 } })
in_the_other_slot = λ is. let no : 102 ≡ 103 = is.at in omega (arith, no)

cleans_a_block_too : ¬ WritesIt one_bytes (record sealed { blocks = out.blocks }) journal_work
cleans_a_block_too = λ is. let no : ◌≡◌ {A = Option Point} (Some (p 512)) None = ap (λ (w : Writes). (dirty_points_at w.blocks.blocks 0).writing) is.same in cc

-- WritesReference
module _ (counters bytes : List ℕ) (hands_out : HandsOutBlock waits.blocks out.blocks counters bytes 0) where
  writes_reference : WritesReference waits out counters bytes reference_work
  writes_reference = record { hands_out = hands_out; part = refl; slab = refl; at = refl; same = refl }

  as_a_journal_block : ¬ WritesReference waits out counters bytes (record reference_work { part = part.Journal })
  as_a_journal_block is = let no : part.Journal ≡ part.References = is.part in cc

  references_of_the_next_slab : ¬ WritesReference waits out counters bytes (record reference_work { slab = 1 })
  references_of_the_next_slab is = omega (arith, is.slab)

  at_the_next_block : ¬ WritesReference waits out counters bytes (record reference_work { at = record { 0 = 102 } })
  at_the_next_block is = let no : 102 ≡ 101 = is.at in omega (arith, no)

  another_block_than_said : ¬ WritesReference waits out counters bytes (record reference_work { number = 1; at = record { 0 = 102 } })
  another_block_than_said is = let no : ◌≡◌ {A = Option Point} None (Some is.hands_out.first.first) = is.hands_out.first.due.dirty in cc

  seals_a_block_too : ¬ WritesReference waits (record out { journal = sealed.journal }) counters bytes reference_work
  seals_a_block_too is = let no : 2 ≡ 1 = ap (λ (w : Writes). w.journal.sequence) is.same in omega (arith, no)

-- NoneDue
nothing_is_due : NoneDue Full first
nothing_is_due = record {
  journal = λ wanted. omega (arith, wanted.0);
  reference = λ wanted. elim wanted [ inl all ↦ cc | inr full ↦ omega (arith, full.0) ];
}

a_journal_block_is_due : ¬ NoneDue Head waits
a_journal_block_is_due = λ none. omega (arith, none.journal one_waits)

-- the next one counts as being written
not_while_one_is_written : NoneDue Head (record sealed { journal = record sealed.journal { filling = entry 514 3 ∷ []; last = p 514 } })
not_while_one_is_written = record {
  journal = λ wanted. omega arith;
  reference = λ wanted. elim wanted [ inl all ↦ cc | inr stuck ↦ absurd (stuck.1 (All-nil (IsCovered sizes waits.journal.commits))) ];
}

a_reference_block_is_due : ¬ NoneDue All waits
a_reference_block_is_due = λ none. none.reference (inl refl) 0 (p 512) (omega arith) (record { idle = refl; dirty = refl })

-- IsInJournal, IsInReference, IsDurable
abbrev update : SlabEntry
update = entry 512 3

in_block_one : IsInJournal (JournalOut block_one ∷ []) 1 update
in_block_one = inl (refl, (0, omega arith, refl))

in_no_other : ¬ IsInJournal (JournalOut block_one ∷ []) 2 update
in_no_other = λ is. elim is [ inl here ↦ omega (arith, here.0) | inr there ↦ there ]

taken_before : IsInReference (ReferenceOut [] [] 0 ∷ Taken update ∷ []) 0 update
taken_before = inl (refl, (0, omega arith, refl))

taken_since : ¬ IsInReference (Taken update ∷ ReferenceOut [] [] 0 ∷ []) 0 update
taken_since = λ is. elim is [ inl here ↦ omega (arith, here.1.1) | inr there ↦ there ]

of_another_block : ¬ IsInReference (ReferenceOut [] [] 1 ∷ Taken update ∷ []) 0 update
of_another_block = λ is. elim is [ inl here ↦ omega (arith, here.0) | inr there ↦ there ]

durable_by_journal : IsDurable sizes (JournalDurable 1 ∷ JournalOut block_one ∷ []) update
durable_by_journal = inl in_block_one

durable_by_reference : IsDurable sizes (ReferenceDurable 0 ∷ ReferenceOut [] [] 0 ∷ Taken update ∷ []) update
durable_by_reference = inl (refl, taken_before)

not_before_it_is_told : ¬ IsDurable sizes (JournalOut block_one ∷ JournalDurable 1 ∷ []) update
not_before_it_is_told = λ is. elim is [ inl here ↦ here | inr there ↦ there ]

not_by_another_block : ¬ IsDurable sizes (ReferenceDurable 1 ∷ ReferenceOut [] [] 1 ∷ Taken update ∷ []) update
not_by_another_block = λ is. elim is [ inl here ↦ omega (arith, here.0) | inr there ↦ there ]

-- updates_of
two_updates : updates_of (Taken (entry 514 4) ∷ JournalDurable 1 ∷ ReferenceOut [] [] 0 ∷ Taken update ∷ []) ≡ entry 514 4 ∷ update ∷ []
two_updates = refl
