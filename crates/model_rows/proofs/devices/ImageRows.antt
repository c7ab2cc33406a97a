-- For each clause on what a stop leaves a case that it accepts, and one that breaks it alone: on a device of two blocks.
use Rattle.std.specs.Prelude.{ℕ, ◌≡◌, ◌≢◌, ◌≤◌, ◌<◌, true, false, List, [], ◌∷◌, length, refl}
use Rattle.std.proofs.Common.{sym, ◌∙◌, ap, subst, arith, inl, inr}
use Rattle.std.proofs.lemmas.Bool.{cases_eq}
use Rattle.blk_base.specs.Sectors.{sector}
use Rattle.blk_base.specs.declared.place.Pbn.{Pbn}
use Rattle.disk_model.specs.declared.call.Call.{Call}
use Rattle.disk_model.specs.declared.call.Call.TheVariants.{Read, Write, Flush}
use Rattle.disk_model.specs.Images.{HasOneImage, IsImage, IsMixOf, OneOf}
use Rattle.disk_model.specs.Log.{Blocks, block_at, contents, is_ok}

-- is_ok: as the call says
read_ok : is_ok (Read (record { 0 = 3 }) [] true) ≡ true
read_ok = refl

write_failed : is_ok (Write (record { 0 = 3 }) [] false) ≡ false
write_failed = refl

flush_ok : is_ok (Flush true) ≡ true
flush_ok = refl

abbrev first_block : Pbn
first_block = record { 0 = 0 }

-- the two blocks that there were, and what is written to the first; its first sector is another one
module _ (old other new : List ℕ) (old_size : length old ≡ 4096) (other_size : length other ≡ 4096) (new_size : length new ≡ 4096)
    (differs : sector 0 new ≢ sector 0 old) (differs_too : sector 0 new ≢ sector 0 other) where
  abbrev opening : Blocks
  opening = old ∷ other ∷ []

  abbrev written : List Call
  written = Write first_block new true ∷ []

  abbrev failed : List Call
  failed = Write first_block new false ∷ []

  -- contents: what was there, and each write since the last flush, failed or not; and of each block its own
  as_it_was : contents opening [] 0 ≡ old ∷ []
  as_it_was = refl

  pending : contents opening written 0 ≡ new ∷ old ∷ []
  pending = refl

  pending_too : contents opening failed 0 ≡ new ∷ old ∷ []
  pending_too = refl

  of_its_block_alone : contents opening written 1 ≡ other ∷ []
  of_its_block_alone = refl

  by_no_read : contents opening (Read first_block new true ∷ []) 0 ≡ old ∷ []
  by_no_read = refl

  flushed : contents opening (Flush true ∷ written) 0 ≡ new ∷ []
  flushed = refl

  by_no_failed_flush : contents opening (Flush false ∷ written) 0 ≡ new ∷ old ∷ []
  by_no_failed_flush = refl

  -- settled: a write that failed settles nothing
  a_failed_write_stays_pending : contents opening (Flush true ∷ failed) 0 ≡ new ∷ old ∷ []
  a_failed_write_stays_pending = refl

  a_write_settles_a_failed_one : contents opening (Flush true ∷ Write first_block old true ∷ failed) 0 ≡ old ∷ []
  a_write_settles_a_failed_one = refl

  -- OneOf, IsMixOf: each sector by itself
  one_of_both : OneOf (λ content. content ≡ old) (new ∷ old ∷ [])
  one_of_both = inr (inl refl)

  one_of_none : ¬ OneOf (λ content. content ≡ old) []
  one_of_none none = none

  all_new : IsMixOf (new ∷ old ∷ []) new
  all_new i inside = inl refl

  all_old : IsMixOf (new ∷ old ∷ []) old
  all_old i inside = inr (inl refl)

  of_another_block : ¬ IsMixOf (old ∷ []) new
  of_another_block mix = elim (mix 0 (omega arith)) [ inl same ↦ differs same | inr none ↦ none ]

  -- of two blocks
  each : (P : ℕ → Type 0) → P 0 → P 1 → (b : ℕ) → b < 2 → P b
  each P zeroth one b below = elim (cases_eq b 0) [
    | inl is ↦ subst P (sym is) zeroth
    | inr later ↦ let is : b ≡ 1 = omega (arith, below, later) in subst P (sym is) one
  ]

  -- a block of whose write the first sector came through
  module _ (torn : List ℕ) (torn_size : length torn ≡ 4096) (first : sector 0 torn ≡ sector 0 new) (rest : (i : ℕ) → 1 ≤ i → i < 8 → sector i torn ≡ sector i old) where
    torn_mix : IsMixOf (new ∷ old ∷ []) torn
    torn_mix i inside = elim (cases_eq i 0) [
      | inl zeroth ↦ subst (λ (n : ℕ). OneOf (λ content. sector n torn ≡ sector n content) (new ∷ old ∷ [])) (sym zeroth) (inl first)
      | inr later ↦ inr (inl (rest i (omega (arith, later)) inside))
    ]

    torn_of_one : ¬ IsMixOf (old ∷ []) torn
    torn_of_one mix = elim (mix 0 (omega arith)) [ inl same ↦ differs (sym first ∙ same) | inr none ↦ none ]

    a_torn_image : IsImage opening written (torn ∷ other ∷ [])
    a_torn_image = record {
      size = refl;
      whole = each (λ b. length (block_at (torn ∷ other ∷ []) b) ≡ 4096) torn_size other_size;
      sectors = each (λ b. IsMixOf (contents opening written b) (block_at (torn ∷ other ∷ []) b)) torn_mix (λ i inside. inl refl);
    }

  -- IsImage: the write was lost, or came through
  lost : IsImage opening written (old ∷ other ∷ [])
  lost = record {
    size = refl;
    whole = each (λ b. length (block_at (old ∷ other ∷ []) b) ≡ 4096) old_size other_size;
    sectors = each (λ b. IsMixOf (contents opening written b) (block_at (old ∷ other ∷ []) b)) all_old (λ i inside. inl refl);
  }

  came_through : IsImage opening written (new ∷ other ∷ [])
  came_through = record {
    size = refl;
    whole = each (λ b. length (block_at (new ∷ other ∷ []) b) ≡ 4096) new_size other_size;
    sectors = each (λ b. IsMixOf (contents opening written b) (block_at (new ∷ other ∷ []) b)) all_new (λ i inside. inl refl);
  }

  a_block_more : ¬ IsImage opening written (new ∷ other ∷ other ∷ [])
  a_block_more is = omega (arith, is.size)

  no_block : ¬ IsImage opening written ([] ∷ other ∷ [])
  no_block is = let none = is.whole 0 (omega arith) in omega (arith, none)

  in_the_other_block : ¬ IsImage opening written (old ∷ new ∷ [])
  in_the_other_block is = elim (is.sectors 1 (omega arith) 0 (omega arith)) [ inl same ↦ differs_too same | inr none ↦ none ]

  without_the_flushed_write : ¬ IsImage opening (Flush true ∷ written) (old ∷ other ∷ [])
  without_the_flushed_write is = elim (is.sectors 0 (omega arith) 0 (omega arith)) [ inl same ↦ differs (sym same) | inr none ↦ none ]

  -- HasOneImage: all is flushed
  one_image : HasOneImage opening (Flush true ∷ written) (new ∷ other ∷ [])
  one_image = record {
    size = refl;
    whole = each (λ b. length (block_at (new ∷ other ∷ []) b) ≡ 4096) new_size other_size;
    only = λ b below. elim (cases_eq b 0) [
      | inl is ↦ rw is (refl, tt)
      | inr later ↦ let one : b ≡ 1 = omega (arith, below, later) in rw one (refl, tt)
    ];
  }

  a_write_pends : ¬ HasOneImage opening written (new ∷ other ∷ [])
  a_write_pends is = let only = is.only 0 (omega arith) in differs (ap (sector 0) (sym only.1.0))

  one_block_more : ¬ HasOneImage opening (Flush true ∷ written) (new ∷ other ∷ other ∷ [])
  one_block_more is = omega (arith, is.size)

  of_no_bytes : ¬ HasOneImage ([] ∷ other ∷ []) [] ([] ∷ other ∷ [])
  of_no_bytes is = let none = is.whole 0 (omega arith) in omega (arith, none)

  not_the_old_image : ¬ HasOneImage opening (Flush true ∷ written) (old ∷ other ∷ [])
  not_the_old_image is = let only = is.only 0 (omega arith) in differs (ap (sector 0) only.0)
