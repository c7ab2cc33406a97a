-- A slab that took two of the four updates that the example's entries give it, and those that it can't have taken.
use Rattle.std.proofs.Common.{ℕ, zero, suc, ◌≡◌, ◌+◌, ◌/◌, ◌%◌, ◌<◌, true, false, List, [], ◌∷◌, ◌++◌, Contains, replicate, slice_index, get_or, refl, sym, ◌∙◌, ap, subst, inl, inr, arith}
use Rattle.std.proofs.Math.Nat.{mod-lt}
use Rattle.std.proofs.lemmas.List.{get_or-replicate, length-replicate}
use Rattle.std.proofs.lemmas.List.Elements.{All-cons, All-nil}
use Rattle.std.proofs.lemmas.Bool.{ne_eqb}
use Rattle.blk_base.specs.Counters.{sector_of_offset, sectors_per_slab}
use Rattle.blk_base.specs.Regions.{ReferenceBlock, references_of}
use Rattle.blk_base.specs.Sectors.{sector}
use Rattle.blk_base.specs.declared.journal_entry.Update.{Update}
use Rattle.blk_base.specs.declared.point.Point.{Point}
use Rattle.blk_base.specs.Forms.{at_point, pbn, place_in}
use Rattle.byte_fields.specs.Fields.{number_at}
use Rattle.disk_model.specs.Log.{Blocks}
use Rattle.image_model.proofs.CountLaws.{is_first_or_behind, none_in_nothing}
use Rattle.image_model.proofs.Example.{small}
use Rattle.image_model.proofs.ZeroLaws.{no_commit}
use Rattle.image_model.specs.Counts.{commit_at}
use Rattle.image_model.specs.Empty.{IsEmpty}
use Rattle.reference_blocks.specs.References.{point_at}
use Rattle.reference_blocks.specs.Updates.{AreRising, counters_after}
use Rattle.slab_codec.specs.declared.forms.SlabEntry.{SlabEntry}
use Rattle.slab_codec.specs.Updates.{slab_entry as update}
use Rattle.count_laws.specs.Counters.{points_at}
use Rattle.count_laws.proofs.Example.{counter_none, four, leaf, opened}
use Rattle.count_laws.proofs.WriteExample.{other_points}
use Rattle.part_laws.specs.Taken.{HasTaken, entries_taken, entry_of, in_slab, taken_at}

-- the newest first
abbrev taken : List SlabEntry
taken = update 514 1 ∷ update 512 0 ∷ []

abbrev later : List SlabEntry
later = update 519 1 ∷ update 516 1 ∷ []

abbrev points : List Point
points = record { 0 = 0 } ∷ []

rising : AreRising small points taken
rising = (
  All-cons (λ (e : SlabEntry). e.point.0 < 514) (update 512 0) [] (omega arith) (All-nil (λ (e : SlabEntry). e.point.0 < 514)),
  omega arith,
  (All-nil (λ (e : SlabEntry). e.point.0 < 512), omega arith, tt),
)

one_of_two : (P : SlabEntry → Type 0) (x y : SlabEntry) → P x → P y → (e : SlabEntry) → Contains (x ∷ y ∷ []) e → P e
one_of_two P x y first second e has = elim (is_first_or_behind x (y ∷ []) e has) [
  | inl same ↦ subst P same first
  | inr behind ↦ elim (is_first_or_behind y [] e behind) [ inl same ↦ subst P same second | inr none ↦ absurd (none_in_nothing e none) ]
]

parts : (offset : ℕ) → points_at small four (place_in 0 offset) ≡ taken_at offset taken ++ taken_at offset later
parts zero = refl
parts (suc zero) = refl
parts (suc (suc k)) = rw (ne_eqb 0 (suc (suc k)) (λ (same : ◌≡◌ {A = ℕ} 0 (suc (suc k))). omega (arith, same)), ne_eqb 1 (suc (suc k)) (λ (same : ◌≡◌ {A = ℕ} 1 (suc (suc k))). omega (arith, same))) (other_points k)

-- the data blocks of slab 0, what an update is called there, and what was taken of a stream, the newest first
abbrev at_block : ℕ → ℕ → Update
at_block n point = record { at = pbn n; point = record { 0 = point } }

inside_slab : (in_slab small 0 (pbn 85) ≡ true) × (in_slab small 0 (pbn 148) ≡ true) × (in_slab small 0 (pbn 84) ≡ false) × (in_slab small 0 (pbn 149) ≡ false)
inside_slab = (refl, refl, refl, refl)

named_there : entry_of small 0 (at_block 86 514) ≡ update 514 1
named_there = refl

newest_first : entries_taken small 0 (at_block 85 512 ∷ at_block 86 514 ∷ []) ≡ taken
newest_first = refl

-- two updates make these counters
counters_are : counters_after (0 ∷ 0 ∷ 0 ∷ []) taken ≡ 1 ∷ 1 ∷ 0 ∷ []
counters_are = refl

module _ (blocks : Blocks) (empty : IsEmpty small blocks) where
  commit_none : (n : ℕ) → n < sectors_per_slab small → 0 ≡ commit_at small blocks 0 n
  commit_none n below =
      let in_block : n / 8 < references_of small = omega (arith, below) in
      sym (ap (number_at 8 0) (ap (sector (n % 8)) (empty.made (ReferenceBlock 0 (n / 8)) (omega arith, in_block) tt)) ∙ no_commit (n % 8) (mod-lt n (omega arith)))

  point_none : (n : ℕ) → n < sectors_per_slab small → (point_at points n).0 ≡ 0
  point_none zero below = refl
  point_none (suc n) below = absurd (omega (arith, below))

  has_taken : HasTaken (opened blocks empty) four 0 points (replicate 64 0) taken
  has_taken = record {
    commits = λ n below. point_none n below ∙ commit_none n below;
    size = length-replicate {A = ℕ} 64 0;
    counters = λ offset inside. get_or-replicate 64 offset 0 0 inside ∙ sym (counter_none blocks empty offset inside);
    inside = one_of_two (λ e. e.offset < 64) (update 514 1) (update 512 0) (omega arith) (omega arith);
    rising = rising;
    later = later;
    parts = λ offset inside. parts offset;
    order = λ e other has has_other.
        one_of_two (λ x. x.point.0 < other.point.0) (update 514 1) (update 512 0)
        (one_of_two (λ y. 514 < y.point.0) (update 519 1) (update 516 1) (omega arith) (omega arith) other has_other)
        (one_of_two (λ y. 512 < y.point.0) (update 519 1) (update 516 1) (omega arith) (omega arith) other has_other) e has;
    newer = one_of_two (λ y. (point_at points (sector_of_offset small y.offset)).0 < y.point.0) (update 519 1) (update 516 1) (omega arith) (omega arith);
    small = one_of_two (λ e. e.point.0 < 18446744073709551616) (update 514 1) (update 512 0) (omega arith) (omega arith);
  }

  -- one at the last point of 64 bits
  at_the_last_point : HasTaken (opened blocks empty) (at_point leaf 18446744073709551615 ∷ []) 0 points (replicate 64 0) (update 18446744073709551615 0 ∷ [])
  at_the_last_point = record {
    commits = has_taken.commits;
    size = has_taken.size;
    counters = has_taken.counters;
    inside = λ e has. elim (is_first_or_behind (update 18446744073709551615 0) [] e has) [
      | inl same ↦ subst (λ (x : SlabEntry). x.offset < 64) same (omega arith)
      | inr none ↦ absurd (none_in_nothing e none)
    ];
    rising = (All-nil (λ (e : SlabEntry). e.point.0 < 18446744073709551615), omega arith, tt);
    later = [];
    parts = λ offset inside. last_part offset;
    order = λ e other has none. absurd (none_in_nothing other none);
    newer = λ other none. absurd (none_in_nothing other none);
    small = λ e has. elim (is_first_or_behind (update 18446744073709551615 0) [] e has) [
      | inl same ↦ subst (λ (x : SlabEntry). x.point.0 < 18446744073709551616) same (omega arith)
      | inr none ↦ absurd (none_in_nothing e none)
    ];
  }
    where
      last_part : (offset : ℕ) → points_at small (at_point leaf 18446744073709551615 ∷ []) (place_in 0 offset) ≡ taken_at offset (update 18446744073709551615 0 ∷ []) ++ taken_at offset []
      last_part zero = refl
      last_part (suc k) = rw (ne_eqb 0 (suc k) (λ (same : ◌≡◌ {A = ℕ} 0 (suc k)). omega (arith, same)), ne_eqb 85 (85 + suc k) (λ (same : ◌≡◌ {A = ℕ} 85 (85 + suc k)). omega (arith, same))) refl

  -- one that leaves out an update between two others
  left_out : HasTaken (opened blocks empty) four 0 points (replicate 64 0) (update 516 1 ∷ update 512 0 ∷ []) → ⊥
  left_out has = let first = ap (λ (ns : List ℕ). get_or ns 0 0) (has.parts 1 (omega arith)) in let no : ◌≡◌ {A = ℕ} 514 516 = first in omega (arith, no)

  -- one with an update of no data block, out of order, or at a point of more than 64 bits
  outside : HasTaken (opened blocks empty) four 0 points (replicate 64 0) (update 512 64 ∷ []) → ⊥
  outside has = let inside = has.inside (update 512 64) (0, omega arith, refl) in omega (arith, inside)

  out_of_order : HasTaken (opened blocks empty) four 0 points (replicate 64 0) (update 512 0 ∷ update 514 1 ∷ []) → ⊥
  out_of_order has = let earlier = has.rising.0 0 (update 0 0) (omega arith) in omega (arith, earlier)

  too_late : HasTaken (opened blocks empty) four 0 points (replicate 64 0) (update 18446744073709551616 0 ∷ []) → ⊥
  too_late has = let low = has.small (update 18446744073709551616 0) (0, omega arith, refl) in omega (arith, low)

  -- a slab that was opened with another commit point, another number of counters, or another counter
  other_commit : (others : List Point) → (point_at others 0).0 ≡ 7 → HasTaken (opened blocks empty) four 0 others (replicate 64 0) taken → ⊥
  other_commit others is has = let same = has.commits 0 (omega arith) in let none = commit_none 0 (omega arith) in omega (arith, same, none, is)

  other_size : HasTaken (opened blocks empty) four 0 points (replicate 63 0) taken → ⊥
  other_size has = let size = has.size in let long = length-replicate {A = ℕ} 63 0 in omega (arith, size, long)

  other_counter : (first : List ℕ) → slice_index first 0 ≡ 1 → HasTaken (opened blocks empty) four 0 points first taken → ⊥
  other_counter first is has = let same = has.counters 0 (omega arith) in let none = counter_none blocks empty 0 (omega arith) in omega (arith, same, none, is)

  -- what comes later is later than what was taken, and than the opened commit point
  later_at_once : (has : HasTaken (opened blocks empty) four 0 points (replicate 64 0) taken) → Contains has.later (update 514 1) → ⊥
  later_at_once has there = let after = has.order (update 514 1) (update 514 1) (0, omega arith, refl) there in omega (arith, after)

  later_old : (has : HasTaken (opened blocks empty) four 0 points (replicate 64 0) taken) → Contains has.later (update 0 0) → ⊥
  later_old has there = let new = has.newer (update 0 0) there in omega (arith, new)
