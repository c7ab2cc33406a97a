-- The chapter with a number, among chapters of which the newest stands first.
use Rattle.std.specs.Prelude.{ℕ, zero, suc, ◌≡◌, ◌≢◌, ◌<◌, ◌≤◌, true, false, List, [], ◌∷◌, length, slice_index_or, All, AllPairs, None, Some, nat_lt, refl}
use Rattle.std.specs.List.Sorted.{IsPartitionedBy, IsPartitionPoint}
use Rattle.std.proofs.Common.{sym, ◌∙◌, ap, arith, inl, inr}
use Rattle.std.proofs.lemmas.Bool.{eq-eqb, ne_eqb, lt-ltb, ltb-true, ltb-false, cases_eq, cases_lt}
use Rattle.std.proofs.lemmas.List.Elements.{All-head, All-tail}
use Rattle.uds_chapters.specs.Chapters.{Numbered}
use Rattle.index_advice.specs.Books.{chapter_of}
use Rattle.index_advice.specs.Orders.{IsNewer}
use Rattle.uds_index.specs.Held.{IsPlaceAmong}
use Rattle.uds_index.proofs.RoomLaws.{same_read}

pub newest_parted : (number : ℕ) (kept : List Numbered) → AllPairs IsNewer kept → IsPartitionedBy (λ chapter. nat_lt number chapter.number) kept
newest_parted number kept newest = λ i j d before inside passes. elim (cases_eq i j) [
  | inl same ↦ ap (λ (k : ℕ). nat_lt number (slice_index_or kept k d).number) same ∙ passes
  | inr apart ↦
      let above = ltb-true number (slice_index_or kept j d).number passes in
      let less = newest i j d (omega (arith, before, apart)) inside in
      lt-ltb number (slice_index_or kept i d).number (omega (arith, above, less))
]

pub place_from : (number : ℕ) (kept : List Numbered) (place : ℕ) → place ≤ length kept
    → IsPartitionPoint (λ chapter. nat_lt number chapter.number ≡ true) (λ chapter. nat_lt number chapter.number ≡ false) kept place → IsPlaceAmong number kept place
place_from number kept place inside point = record {
  inside = inside;
  before = λ k d before. ltb-true number (slice_index_or kept k d).number (point.0 k d (omega arith) before);
  behind = λ d within. ltb-false number (slice_index_or kept place d).number (point.1 place d (omega arith) within);
}

pub nowhere : (number : ℕ) (kept : List Numbered) → All (λ chapter. chapter.number ≢ number) kept → chapter_of number kept ≡ None
nowhere number [] all = refl
nowhere number (one ∷ kept) all =
    rw (ne_eqb one.number number (All-head (λ (c : Numbered). c.number ≢ number) one kept all)) (nowhere number kept (All-tail (λ (c : Numbered). c.number ≢ number) one kept all))

pub found_at : (number : ℕ) (kept : List Numbered) (place : ℕ) (one : Numbered) → IsPlaceAmong number kept place → place < length kept
    → one ≡ slice_index_or kept place one → one.number ≡ number → chapter_of number kept ≡ Some one
found_at number [] place one at inside is same = absurd (omega (arith, inside))
found_at number (first ∷ kept) zero one at inside is same =
    rw (eq-eqb first.number number (ap (λ (c : Numbered). c.number) (sym is) ∙ same)) (ap Some (sym is))
found_at number (first ∷ kept) (suc place) one at inside is same =
    rw (ne_eqb first.number number apart) (found_at number kept place one later (omega (arith, inside)) is same)
  where
    apart : first.number ≢ number
    apart equal = let above = at.before 0 first (omega arith) in omega (arith, above, equal)

    later : IsPlaceAmong number kept place
    later = record {
      inside = (let within = at.inside in omega (arith, within));
      before = λ k d before. at.before (suc k) d (omega (arith, before));
      behind = λ d within. at.behind d (omega (arith, within));
    }

pub other_at : (number : ℕ) (kept : List Numbered) (place : ℕ) (one : Numbered) → AllPairs IsNewer kept → IsPlaceAmong number kept place → place < length kept
    → one ≡ slice_index_or kept place one → one.number ≢ number → chapter_of number kept ≡ None
other_at number kept place one newest at inside is apart = nowhere number kept (λ k d within same. elim (cases_lt k place) [
  | inl before ↦ let above = at.before k d before in omega (arith, above, same)
  | inr behind ↦ elim (cases_eq k place) [
    | inl here ↦ apart (ap (λ (c : Numbered). c.number) is ∙ ap (λ (c : Numbered). c.number) (read place inside one d) ∙ ap (λ (n : ℕ). (slice_index_or kept n d).number) (sym here) ∙ same)
    | inr later ↦
        let less = newest place k d (omega (arith, behind, later)) within in
        let below = at.behind d inside in
        omega (arith, less, below, same)
  ]
])
  where
    read : (k : ℕ) → k < length kept → (d e : Numbered) → slice_index_or kept k d ≡ slice_index_or kept k e
    read k within d e = same_read kept k d e within

pub none_at : (number : ℕ) (kept : List Numbered) (place : ℕ) → IsPlaceAmong number kept place → length kept ≤ place → chapter_of number kept ≡ None
none_at number kept place at end = nowhere number kept (λ k d within same. let above = at.before k d (omega (arith, within, end)) in omega (arith, above, same))
