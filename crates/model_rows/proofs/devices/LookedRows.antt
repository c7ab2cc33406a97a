-- For each clause on what a stop leaves where it is looked a case that it accepts, and one that breaks it alone: on a device
-- of two blocks, of which the second is looked at.
use Rattle.std.specs.List.{AllByRecursion}
use Rattle.std.specs.Prelude.{ℕ, ◌≡◌, ◌≢◌, ◌<◌, Bool, true, IsTrue, nat_le, List, [], ◌∷◌, length, refl}
use Rattle.std.proofs.Common.{sym, ap, subst, arith, inl, inr}
use Rattle.std.proofs.lemmas.Bool.{cases_eq}
use Rattle.blk_base.specs.Sectors.{sector}
use Rattle.blk_base.specs.declared.place.Pbn.{Pbn}
use Rattle.disk_model.specs.declared.call.Call.{Call}
use Rattle.disk_model.specs.declared.call.Call.TheVariants.{Write}
use Rattle.disk_model.specs.Images.{IsMixOf}
use Rattle.disk_model.specs.Log.{Blocks, block_at, contents}
use Rattle.disk_model.specs.OneImages.{IsImageIn, HasOneImageIn, AreAlikeIn}

abbrev first_block : Pbn
first_block = record { 0 = 0 }

abbrev second : ℕ → Bool
second b = nat_le 1 b

module _ (old other new : List ℕ) (old_size : length old ≡ 4096) (other_size : length other ≡ 4096) (new_size : length new ≡ 4096)
    (differs : sector 0 new ≢ sector 0 other) where
  abbrev opening : Blocks
  opening = old ∷ other ∷ []

  -- the first block is written, and the second
  abbrev written : List Call
  written = Write first_block new true ∷ []

  abbrev written_too : List Call
  written_too = Write (record { 0 = 1 }) new true ∷ []

  each : (P : ℕ → Type 0) → P 0 → P 1 → (b : ℕ) → b < 2 → P b
  each P zeroth one b below = elim (cases_eq b 0) [
    | inl is ↦ subst P (sym is) zeroth
    | inr later ↦ let is : b ≡ 1 = omega (arith, below, later) in subst P (sym is) one
  ]

  whole : (first : List ℕ) → length first ≡ 4096 → (b : ℕ) → b < 2 → length (block_at (first ∷ other ∷ []) b) ≡ 4096
  whole first size = each (λ b. length (block_at (first ∷ other ∷ []) b) ≡ 4096) size other_size

  -- IsImageIn: whatever the first block is
  anything_aside : IsImageIn second opening written (other ∷ other ∷ [])
  anything_aside = record {
    size = refl;
    whole = whole other other_size;
    sectors = each (λ b. IsTrue (second b) → IsMixOf (contents opening written b) (block_at (other ∷ other ∷ []) b)) (λ here. absurd (cc here)) (λ here i inside. inl refl);
  }

  a_block_more : ¬ IsImageIn second opening written (other ∷ other ∷ other ∷ [])
  a_block_more is = omega (arith, is.size)

  not_whole : ¬ IsImageIn second opening written ([] ∷ other ∷ [])
  not_whole is = let none = is.whole 0 (omega arith) in omega (arith, none)

  not_where_it_is_looked : ¬ IsImageIn second opening written (other ∷ new ∷ [])
  not_where_it_is_looked is = elim (is.sectors 1 (omega arith) refl 0 (omega arith)) [ inl same ↦ differs same | inr none ↦ none ]

  -- HasOneImageIn: a write of the first block pends
  abbrev AreLeft : ℕ → Type 0
  AreLeft b = AllByRecursion (λ content. content ≡ block_at (old ∷ other ∷ []) b) (contents opening written b)

  pends_aside : HasOneImageIn second opening written (old ∷ other ∷ [])
  pends_aside = record {
    size = refl;
    whole = whole old old_size;
    only = each (λ b. IsTrue (second b) → AreLeft b) (λ here. absurd (cc here)) (λ here. (refl, tt));
  }

  one_block_more : ¬ HasOneImageIn second opening written (old ∷ other ∷ other ∷ [])
  one_block_more is = omega (arith, is.size)

  of_no_bytes : ¬ HasOneImageIn second opening written ([] ∷ other ∷ [])
  of_no_bytes is = let none = is.whole 0 (omega arith) in omega (arith, none)

  pends_where_it_is_looked : ¬ HasOneImageIn second opening written_too (old ∷ other ∷ [])
  pends_where_it_is_looked is = let only = is.only 1 (omega arith) refl in differs (ap (sector 0) only.0)

  -- AreAlikeIn: the first block differs
  differ_aside : AreAlikeIn second opening (new ∷ other ∷ [])
  differ_aside = record {
    size = refl;
    same = each (λ b. IsTrue (second b) → block_at (new ∷ other ∷ []) b ≡ block_at opening b) (λ here. absurd (cc here)) (λ here. refl);
  }

  of_another_size : ¬ AreAlikeIn second opening (new ∷ other ∷ other ∷ [])
  of_another_size is = omega (arith, is.size)

  differ_where_it_is_looked : ¬ AreAlikeIn second opening (old ∷ new ∷ [])
  differ_where_it_is_looked is = differs (ap (sector 0) (is.same 1 (omega arith) refl))
