-- The order of names is total, and records that rise.
use Rattle.std.specs.Prelude.{ℕ, zero, suc, ◌≡◌, ◌≢◌, ◌<◌, ◌+◌, Bool, true, false, List, ◌∷◌, length, All, HoldsAt, refl}
use Rattle.std.proofs.Common.{sym, ◌∙◌, ap, arith, get_or, subst, inl, inr, Result, Ok, Err, IfOk, IfErr, Less, Equal, Greater}
use Rattle.std.specs.Cmp.{IsTotalOrder}
use Rattle.std.specs.FinMap.{slice_cmp-IsAntisymmetric, nat_cmp-IsAntisymmetric}
use Rattle.std.specs.List.Sorted.{IsSearchInRange, IsBinarySearchResult, IsPartitionPoint}
use Rattle.std.specs.Ordering.{is_lt, ordering_reverse}
use Rattle.std.specs.Str.{bytes_eq}
use Rattle.std.proofs.lemmas.Bool.{cases_eq}
use Rattle.std.proofs.lemmas.Cmp.{nat_list_cmp_total, tied_itself}
use Rattle.std.proofs.lemmas.List.Sorted.{searchable_from_sorted}
use Rattle.std.proofs.lemmas.Slice.Eq.{bytes_eq-Decides}
use Rattle.uds_chapters.specs.declared.entry.Record.{Record}
use Rattle.uds_chapters.specs.Names.{name_cmp, IsBelow, AreRising}
use Rattle.uds_chapters.specs.Finds.{IsUnder, IsOver}

pub name_total : IsTotalOrder name_cmp
name_total = nat_list_cmp_total

pub equal_names : (a b : List ℕ) → name_cmp a b ≡ Equal → a ≡ b
equal_names a b equal = slice_cmp-IsAntisymmetric nat_cmp-IsAntisymmetric a b equal

pub own_name : (a b : List ℕ) → a ≡ b → name_cmp a b ≡ Equal
own_name a b same = ap (λ (n : List ℕ). name_cmp a n) (sym same) ∙ tied_itself name_total a

-- a name that is below another, or above it, is not that name
pub below_apart : (a b : List ℕ) → name_cmp a b ≡ Less → a ≢ b
below_apart a b below same = let own = own_name a b same in cc

pub above_apart : (a b : List ℕ) → name_cmp a b ≡ Greater → a ≢ b
above_apart a b above same = let own = own_name a b same in cc

pub turned : (a b : List ℕ) → name_cmp a b ≡ Greater → name_cmp b a ≡ Less
turned a b above = name_total.antisymm b a ∙ ap ordering_reverse above

-- names as their test tells them
pub same_test : (a b : List ℕ) → a ≡ b → bytes_eq a b ≡ true
same_test a b same = (bytes_eq-Decides a b).1 same

pub other_test : (a b : List ℕ) → a ≢ b → bytes_eq a b ≡ false
other_test a b apart = by (bytes_eq a b) refl
  where
    by : (t : Bool) → bytes_eq a b ≡ t → t ≡ false
    by true is = absurd (apart ((bytes_eq-Decides a b).0 is))
    by false is = refl

-- what a search by names finds: the name's place, or its gap
pub searched : (records : List Record) (name : List ℕ) (r : Result ℕ ℕ) → AreRising records → IsSearchInRange r (length records)
    → IsBinarySearchResult (λ e. name_cmp e.name name) records r
    → record { bound : IsSearchInRange r (length records); found : IfOk r (HoldsAt (λ e. e.name ≡ name) records); gap : IfErr r (IsPartitionPoint (IsUnder name) (IsOver name) records) }
searched records name (Ok place) rising inside equal = record { bound = inside; found = λ d. equal_names _ name (equal d); gap = tt }
searched records name (Err place) rising inside parted =
    let sorted = searchable_from_sorted name_total (λ (e : Record). e.name) records name (λ k d from within.
    ap is_lt (name_total.antisymm (get_or records (k + 1) d).name (get_or records k d).name ∙ ap ordering_reverse (rising k (k + 1) d (omega arith) within))) in
    record { bound = inside; found = tt; gap = parted sorted }

-- the first record is below all others, and these rise
pub rising-head : (one : Record) (records : List Record) → AreRising (one ∷ records) → All (IsBelow one) records
rising-head one records rising = λ k d inside. rising 0 (suc k) d (omega arith) (omega arith)

pub rising-tail : (one : Record) (records : List Record) → AreRising (one ∷ records) → AreRising records
rising-tail one records rising = λ i j d before inside. rising (suc i) (suc j) d (omega arith) (omega arith)

-- each is below the next, so each is below all later ones
pub rising_from_next : (records : List Record) → ((k : ℕ) (d : Record) → suc k < length records → IsBelow (get_or records k d) (get_or records (suc k) d)) → AreRising records
rising_from_next records next = λ i j d before inside. by i j d before inside
  where
    by : (i j : ℕ) (d : Record) → i < j → j < length records → IsBelow (get_or records i d) (get_or records j d)
    by i zero d before inside = absurd (omega arith)
    by i (suc m) d before inside = elim (cases_eq i m) [
      | inl at ↦ subst (λ (n : ℕ). IsBelow (get_or records n d) (get_or records (suc m) d)) (sym at) (next m d inside)
      | inr other ↦ name_total.trans (get_or records i d).name (get_or records m d).name (get_or records (suc m) d).name (by i m d (omega arith) (omega arith)) (next m d inside)
    ]
