-- What a call does, which block is due, and what is true at every moment: for each clause a case that it accepts, and one
-- that breaks it alone.
use Rattle.std.specs.Prelude.{ℕ, zero, suc, ◌≡◌, ◌<◌, ◌-◌, ◌≤◌, List, [], ◌∷◌, ◌++◌, length, replicate}
use Rattle.std.proofs.Common.{ap, sym, arith, inl, inr, refl}
use Rattle.std.proofs.lemmas.Option.{none-some}
use Rattle.blk_base.specs.Limits.{IsGeometry}
use Rattle.blk_base.specs.declared.geometry.Geometry.{Geometry}
use Rattle.blk_base.specs.declared.point.Point.{Point}
use Rattle.blk_base.specs.Forms.{point as p}
use Rattle.blk_base.proofs.Example.{number_of_point, small_with_is}
use Rattle.dirty_pages.specs.DirtyPoints.{IsDue, clean, dirty_points_at}
use Rattle.reference_blocks.specs.References.{HandsOutBlock, References, point_at, sectors_of}
use Rattle.slab_codec.specs.Reference.{reference_bytes}
use Rattle.slab_codec.specs.Updates.{slab_entry as entry}
use Rattle.slab_journal.specs.Slab.{Seals, Slab}
use Rattle.slab_writes.specs.Operations.{Does, JournalDurable, JournalOut, LeadTo, ReferenceDurable, ReferenceOut, Taken}
use Rattle.slab_writes.specs.Due.{IsDue as IsBlockDue, WantsJournal}
use Rattle.slab_writes.specs.Writes.{IsKept, IsOut, Settles, SettlesReference, Writes, opening}
use Rattle.slab_writes.specs.declared.forms.Need.TheVariants.{Full, Head, All}
use Rattle.slab_writes.specs.declared.forms.SlabPart.TheVariants as part
use Rattle.slab_writes.specs.declared.forms.SlabWork.{SlabWork}
use Rattle.slab_writes.proofs.Rows.{block_one, first, journal_work, may, no_reference_for_what_can_be_written, one_bytes, one_waits, out, reference_work, sealed, settled, settles_reference, sizes, waits, writes_journal}

-- opening: the second slab has its own commit points
opens_first : first.blocks ≡ record { geometry = sizes; applied = p 7 ∷ []; handed = p 7 ∷ []; blocks = clean ∷ [] }
opens_first = refl

opens_second : (opening (record sizes { slabs = 2 }) 1 (p 7 ∷ p 8 ∷ [])).blocks.applied ≡ p 8 ∷ []
opens_second = refl

opens_its_journal : (opening (record sizes { slabs = 2 }) 1 (p 7 ∷ p 8 ∷ [])).journal.slab ≡ 1
opens_its_journal = refl

-- Does: an update is taken
takes : Does (Taken (entry 512 3)) first waits
takes = (omega arith, omega arith, refl)

takes_no_later_one : (new : Writes) → Does (Taken (entry 511 3)) first new → ⊥
takes_no_later_one new is = omega (arith, is.0)

takes_behind_the_slab : (new : Writes) → Does (Taken (entry 512 16)) first new → ⊥
takes_behind_the_slab new is = omega (arith, is.1)

takes_without_its_journal : Does (Taken (entry 512 3)) first (record waits { journal = first.journal }) → ⊥
takes_without_its_journal is = let no : 0 ≡ 1 = ap (λ (w : Writes). length w.journal.filling) is.2 in omega (arith, no)

takes_without_its_counter : Does (Taken (entry 512 3)) first (record waits { blocks = first.blocks }) → ⊥
takes_without_its_counter is = none-some (p 512) (ap (λ (w : Writes). (dirty_points_at w.blocks.blocks 0).dirty) is.2)

-- a journal block is handed out
seals : Seals waits.journal sealed.journal block_one
seals = record { waits = omega arith; none_writing = refl; covered = may; records = refl; follows = refl }

hands_out_journal : Does (JournalOut block_one) waits sealed
hands_out_journal = (seals, refl)

hands_out_nothing : (new : Writes) → Does (JournalOut block_one) first new → ⊥
hands_out_nothing new is = omega (arith, is.0.waits)

hands_out_both : Does (JournalOut block_one) waits (record sealed { blocks = out.blocks }) → ⊥
hands_out_both is = none-some (p 512) (sym (ap (λ (w : Writes). (dirty_points_at w.blocks.blocks 0).writing) is.1))

-- a reference block is handed out
abbrev bytes_of : List ℕ → List ℕ
bytes_of counters = reference_bytes (sectors_of sizes (p 512 ∷ []) counters 0)

from_512_on : (block : ℕ) (point : Point) → IsDue (dirty_points_at waits.blocks.blocks block) point → 512 ≤ point.0
from_512_on zero point due = omega (arith, ap number_of_point due.dirty)
from_512_on (suc block) point due = absurd (none-some point due.dirty)

hands_out : (counters : List ℕ) → HandsOutBlock waits.blocks out.blocks counters (bytes_of counters) 0
hands_out counters = record {
  first = record { first = p 512; due = record { idle = refl; dirty = refl }; reached = omega arith; least = from_512_on; lowest = λ other due. omega arith; after = refl };
  says = refl;
  keeps = refl;
  same = refl;
}

hands_out_reference : (counters : List ℕ) → Does (ReferenceOut counters (bytes_of counters) 0) waits out
hands_out_reference counters = (hands_out counters, refl)

hands_out_a_clean_one : (new : Writes) (counters bytes : List ℕ) → Does (ReferenceOut counters bytes 0) first new → ⊥
hands_out_a_clean_one new counters bytes is = none-some is.0.first.first is.0.first.due.dirty

hands_out_and_seals : (counters bytes : List ℕ) → Does (ReferenceOut counters bytes 0) waits (record out { journal = sealed.journal }) → ⊥
hands_out_and_seals counters bytes is = let no : 2 ≡ 1 = ap (λ (w : Writes). w.journal.sequence) is.1 in omega (arith, no)

-- a journal block is durable
abbrev durable : Writes
durable = record sealed { journal = record sealed.journal { durable = 2 } }

journal_durable : Does (JournalDurable 1) sealed durable
journal_durable = (omega arith, refl, refl)

durable_unsealed : (new : Writes) → Does (JournalDurable 1) waits new → ⊥
durable_unsealed new is = omega (arith, is.0)

another_durable : (new : Writes) → Does (JournalDurable 2) sealed new → ⊥
another_durable new is = omega (arith, is.1)

durable_and_not_said : Does (JournalDurable 1) sealed sealed → ⊥
durable_and_not_said is = let no : 1 ≡ 2 = ap (λ (w : Writes). w.journal.durable) is.2 in omega (arith, no)

-- a reference block is durable
reference_durable : Does (ReferenceDurable 0) out settled
reference_durable = (record { first = p 512; is = refl }, settles_reference)

durable_and_not_out : (new : Writes) → Does (ReferenceDurable 0) waits new → ⊥
durable_and_not_out new is = none-some is.0.first is.0.is

durable_and_out : Does (ReferenceDurable 0) out out → ⊥
durable_and_out is = none-some (p 512) (sym (ap (λ (r : References). (dirty_points_at r.blocks 0).writing) is.1.blocks))

-- LeadTo: the newest call comes first
three_calls : LeadTo first (JournalDurable 1 ∷ JournalOut block_one ∷ Taken (entry 512 3) ∷ []) durable
three_calls = (sealed, (waits, (first, refl, takes), hands_out_journal), journal_durable)

in_another_order : (new : Writes) → LeadTo first (Taken (entry 512 3) ∷ JournalOut block_one ∷ []) new → ⊥
in_another_order new (before, (opened, same, sealing), taking) = no_update opened same sealing.0.waits
  where
    no_update : (w : Writes) → w ≡ first → 0 < length w.journal.filling → ⊥
    no_update w same waits = let none : length w.journal.filling ≡ 0 = ap (λ (v : Writes). length v.journal.filling) same in omega (arith, none, waits)

by_no_call : LeadTo first [] waits → ⊥
by_no_call same = let no : 1 ≡ 0 = ap (λ (w : Writes). length w.journal.filling) same in omega (arith, no)

-- SettlesReference: the eight sectors of the second block, of seventeen that were handed out with 5
abbrev many : Writes
many = record { journal = record out.journal { commits = replicate 17 (p 0) }; blocks = record out.blocks { handed = replicate 17 (p 5) } }

abbrev raised_but : ℕ → ℕ → List Point
raised_but first end = replicate first (p 0) ++ (replicate (end - first) (p 5) ++ replicate (17 - end) (p 0))

not_up_to_the_last : (new : Writes) → new.journal.commits ≡ raised_but 8 15 → SettlesReference many new 1 → ⊥
not_up_to_the_last new has is = let stands = ap (λ (ps : List Point). (point_at ps 15).0) has in let raised = is.raises.inside 15 (omega arith) (omega arith) (omega arith) in omega (arith, stands, raised)

past_the_last : (new : Writes) → new.journal.commits ≡ raised_but 8 17 → SettlesReference many new 1 → ⊥
past_the_last new has is =
    let stands = ap (λ (ps : List Point). (point_at ps 16).0) has in let kept = ap (λ (q : Point). q.0) (is.raises.outside 16 (inr (omega arith))) in omega (arith, stands, kept)

not_from_the_first : (new : Writes) → new.journal.commits ≡ raised_but 9 16 → SettlesReference many new 1 → ⊥
not_from_the_first new has is = let stands = ap (λ (ps : List Point). (point_at ps 8).0) has in let raised = is.raises.inside 8 (omega arith) (omega arith) (omega arith) in omega (arith, stands, raised)

before_the_first : (new : Writes) → new.journal.commits ≡ raised_but 7 16 → SettlesReference many new 1 → ⊥
before_the_first new has is =
    let stands = ap (λ (ps : List Point). (point_at ps 7).0) has in let kept = ap (λ (q : Point). q.0) (is.raises.outside 7 (inl (omega arith))) in omega (arith, stands, kept)

-- WantsJournal: a full block has 320 updates
full_is_wanted : WantsJournal Full (record waits.journal { filling = replicate 320 (entry 512 3) })
full_is_wanted = refl

-- IsDue: the journal block for the head, or the reference block at the end
journal_is_due : IsBlockDue Head waits sealed [] one_bytes journal_work
journal_is_due = inl (one_waits, writes_journal)

reference_is_due : (counters : List ℕ) → IsBlockDue All waits out counters (bytes_of counters) reference_work
reference_is_due counters = inr (inl refl, record { hands_out = hands_out counters; part = refl; slab = refl; at = refl; same = refl })

-- a block that isn't full isn't wanted for that
not_for_one_update : (new : Writes) (counters bytes : List ℕ) (work : SlabWork) → IsBlockDue Full waits new counters bytes work → ⊥
not_for_one_update new counters bytes work (inl is) = omega (arith, is.0.0)
not_for_one_update new counters bytes work (inr is) = elim is.0 [ inl all ↦ absurd (cc all) | inr full ↦ omega (arith, full.0) ]

-- nor a reference block where the journal block can be written, and no journal block at the end
not_a_reference_first : (new : Writes) (counters bytes : List ℕ) → IsBlockDue Head waits new counters bytes reference_work → ⊥
not_a_reference_first new counters bytes (inl is) = let no : part.References ≡ part.Journal = is.1.part in absurd (cc no)
not_a_reference_first new counters bytes (inr is) = no_reference_for_what_can_be_written is.0

no_journal_at_the_end : (new : Writes) (counters bytes : List ℕ) → IsBlockDue All waits new counters bytes journal_work → ⊥
no_journal_at_the_end new counters bytes (inl is) = is.0.0
no_journal_at_the_end new counters bytes (inr is) = let no : part.Journal ≡ part.References = is.1.part in absurd (cc no)

-- and what is wanted is written
nothing_written : IsBlockDue Head waits waits [] one_bytes journal_work → ⊥
nothing_written (inl is) = let no : 1 ≡ 2 = ap (λ (j : Slab). j.sequence) is.1.seals.follows in omega (arith, no)
nothing_written (inr is) = no_reference_for_what_can_be_written is.0

-- IsOut
journal_is_out : IsOut sealed journal_work
journal_is_out = (omega arith, refl)

reference_is_out : IsOut out reference_work
reference_is_out = record { first = p 512; is = refl }

-- of that part, and with that number
another_part_is_out : IsOut sealed reference_work → ⊥
another_part_is_out is = none-some is.first is.is

another_number_is_out : IsOut out (record reference_work { number = 1 }) → ⊥
another_number_is_out is = none-some is.first is.is

-- Settles
journal_settles : Settles sealed durable journal_work
journal_settles = refl

reference_settles : Settles out settled reference_work
reference_settles = settles_reference

another_part_settles : Settles out settled (record reference_work { part = part.Journal }) → ⊥
another_part_settles is = none-some (p 512) (ap (λ (w : Writes). (dirty_points_at w.blocks.blocks 0).writing) is)

another_number_settles : Settles sealed durable (record journal_work { number = 2 }) → ⊥
another_number_settles is = let no : 2 ≡ 3 = ap (λ (w : Writes). w.journal.durable) is in omega (arith, no)

-- IsKept
sizes_are : IsGeometry sizes
sizes_are = small_with_is 16 2 (omega arith) (omega arith) (omega arith) (omega arith)

kept : IsKept sizes 0 waits
kept = record { sizes = sizes_are; inside = omega arith; journal = (refl, refl); commits = refl; blocks = refl; applied = refl; dirty_points = refl }

-- sizes
abbrev high : Geometry
high = record sizes { height = 4 }

of_no_image : IsKept high 0 (opening high 0 (p 7 ∷ [])) → ⊥
of_no_image is = omega (arith, is.sizes.height.1)

-- inside
of_no_slab : IsKept sizes 1 (record waits { journal = record waits.journal { slab = 1 } }) → ⊥
of_no_slab is = omega (arith, is.inside)

-- journal
journal_of_another_image : IsKept sizes 0 (record waits { journal = record waits.journal { geometry = record sizes { nonce = 2 } } }) → ⊥
journal_of_another_image is = let no : 2 ≡ 1 = ap (λ (g : Geometry). g.nonce) is.journal.0 in omega (arith, no)

journal_of_another_slab : IsKept sizes 0 (record waits { journal = record waits.journal { slab = 1 } }) → ⊥
journal_of_another_slab is = omega (arith, is.journal.1)

-- commits
with_two_sectors : IsKept sizes 0 (record waits { journal = record waits.journal { commits = p 0 ∷ p 0 ∷ [] } }) → ⊥
with_two_sectors is = let no : 2 ≡ 1 = is.commits in omega (arith, no)

-- blocks
blocks_of_another_image : IsKept sizes 0 (record waits { blocks = record waits.blocks { geometry = record sizes { nonce = 2 } } }) → ⊥
blocks_of_another_image is = let no : 2 ≡ 1 = ap (λ (g : Geometry). g.nonce) is.blocks in omega (arith, no)

-- applied
with_no_sector_applied : IsKept sizes 0 (record waits { blocks = record waits.blocks { applied = [] } }) → ⊥
with_no_sector_applied is = let no : 0 ≡ 1 = is.applied in omega (arith, no)

-- marks
with_two_blocks : IsKept sizes 0 (record waits { blocks = record waits.blocks { blocks = clean ∷ clean ∷ [] } }) → ⊥
with_two_blocks is = let no : 2 ≡ 1 = is.dirty_points in omega (arith, no)
