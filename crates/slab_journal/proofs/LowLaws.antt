-- The first update that isn't covered is the one with the least point.
use Rattle.std.specs.Prelude.{ℕ, zero, suc, ◌≡◌, ◌<◌, ◌≤◌, ◌%◌, Bool, List, [], ◌∷◌, length, All, Option, None, Some, IfSome, cond, nat_lt, position}
use Rattle.std.specs.List.{position_or_len}
use Rattle.std.proofs.Common.{arith, sym, subst, ap, ◌∙◌, refl, inl, inr, get_or}
use Rattle.std.proofs.lemmas.Bool.{cases_lt, lt-ltb, ltb-true, ltb-false}
use Rattle.std.proofs.lemmas.Nat.{mod_below}
use Rattle.std.proofs.lemmas.List.{get_or_default}
use Rattle.std.proofs.lemmas.List.Elements.{All-contains}
use Rattle.std.proofs.lemmas.List.Sums.{fails_before_first}
use Rattle.std.proofs.lemmas.Option.{none-some}
use Rattle.std.proofs.lemmas.List.Quantifiers.{position-Some}
use Rattle.blk_base.specs.declared.geometry.Geometry.{Geometry}
use Rattle.blk_base.specs.declared.point.Point.{Point}
use Rattle.slab_codec.specs.declared.forms.SlabEntry.{SlabEntry}
use Rattle.slab_journal.specs.Slab.{Slab, IsCovered, IsWriting, commit_of}
use Rattle.slab_journal.specs.Kept.{IsKept, first_of}
use Rattle.slab_journal.specs.Unsettled.{IsLeastUncovered, IsLowPoint, IsRising, NoneUnsettled, sealed_block}

rising_at : (es : List SlabEntry) (i j : ℕ) (d e : SlabEntry) → IsRising es → i ≤ j → j < length es → (get_or es i d).point.0 ≤ (get_or es j e).point.0
rising_at [] i j d e rising before inside = absurd (omega (arith, inside))
rising_at (x ∷ xs) zero zero d e rising before inside = omega arith
rising_at (x ∷ xs) zero (suc j) d e rising before inside = rising.0 j e (omega (arith, inside))
rising_at (x ∷ xs) (suc i) zero d e rising before inside = absurd (omega (arith, before))
rising_at (x ∷ xs) (suc i) (suc j) d e rising before inside = rising_at xs i j d e rising.1 (omega (arith, before)) (omega (arith, inside))

abbrev pub is_uncovered : Geometry → List Point → SlabEntry → Bool
is_uncovered g commits entry = nat_lt (commit_of g commits entry).0 entry.point.0

pub least_is_first : (g : Geometry) (commits : List Point) (entries : List SlabEntry) (place : ℕ) (d : SlabEntry) → IsRising entries → position (is_uncovered g commits) entries ≡ Some place
    → IsLeastUncovered g commits entries (get_or entries place d).point
least_is_first g commits entries place d rising found =
    let first = position-Some (is_uncovered g commits) entries place d found in
    let entry = get_or entries place d in
    record {
      entry = entry;
      there = (place, first.0, get_or_default entries place entry d first.0);
      uncovered = λ covered. omega (arith, covered, ltb-true _ _ first.1);
      is = refl;
      least = λ other contains uncovered.
          let k = contains.0 in
          let at : get_or entries k d ≡ other = get_or_default entries k d other contains.1 ∙ contains.2 in
          elim (cases_lt k place) [
            | inl before ↦
                let covered = subst (λ (e : SlabEntry). IsCovered g commits e) at (ltb-false _ _ (first.2 k before)) in
                absurd (uncovered covered)
            | inr after ↦
                let above = rising_at entries place k d d rising after contains.1 in
                subst (λ (e : SlabEntry). entry.point.0 ≤ e.point.0) at above
          ];
    }

pub all_covered : (g : Geometry) (commits : List Point) (entries : List SlabEntry) → position (is_uncovered g commits) entries ≡ None → All (IsCovered g commits) entries
all_covered g commits entries none =
    let test = is_uncovered g commits in
    let n = position_or_len test entries in
    λ k d inside. elim (cases_lt n (length entries)) [
      | inl less ↦ absurd (none-some n (sym none ∙ ap (λ (b : Bool). cond b (Some n) None) (lt-ltb n (length entries) less)))
      | inr past ↦ ltb-false _ _ (fails_before_first test entries k d (omega (arith, inside, past)))
    ]

-- an update in the sealed block comes before all that wait
pub low_sealed : (log : Slab) (point : Point) → IsKept log → IsWriting log → IsLeastUncovered log.geometry log.commits (sealed_block log) point → IsLowPoint log point
low_sealed log point kept writing first = record {
  entry = first.entry;
  there = (inl (writing, first.there), first.uncovered);
  is = first.is;
  least = λ other unsettled. elim unsettled.0 [
    | inl sealed ↦ first.least other sealed.1 unsettled.1
    | inr filling ↦
        let above = All-contains (λ (e : SlabEntry). first_of log.filling log.last.0 ≤ e.point.0) log.filling other kept.rising filling in
        let below = All-contains (λ (e : SlabEntry). e.point.0 ≤ first_of log.filling log.last.0) (sealed_block log) first.entry (kept.sealed writing).below first.there in
        omega (arith, above, below, ap (λ (p : Point). p.0) first.is)
  ];
}

pub low_filling : (log : Slab) (point : Point) → (IsWriting log → All (IsCovered log.geometry log.commits) (sealed_block log)) → IsLeastUncovered log.geometry log.commits log.filling point → IsLowPoint log point
low_filling log point covered first = record {
  entry = first.entry;
  there = (inr first.there, first.uncovered);
  is = first.is;
  least = λ other unsettled. elim unsettled.0 [
    | inl sealed ↦ absurd (unsettled.1 (All-contains (IsCovered log.geometry log.commits) (sealed_block log) other (covered sealed.0) sealed.1))
    | inr filling ↦ first.least other filling unsettled.1
  ];
}

pub low_filling_as : (log : Slab) (entries : List SlabEntry) (commits : List Point) (result : Option Point) → entries ≡ log.filling → commits ≡ log.commits → (IsWriting log → All (IsCovered log.geometry log.commits) (sealed_block log))
    → IfSome result (IsLeastUncovered log.geometry commits entries) → IfSome result (IsLowPoint log)
low_filling_as log entries commits None same now covered first = tt
low_filling_as log entries commits (Some point) same now covered first =
    low_filling log point covered (subst (λ (es : List SlabEntry). IsLeastUncovered log.geometry log.commits es point) same (subst (λ (cs : List Point). IsLeastUncovered log.geometry cs entries point) now first))

-- the sealed block as the code reads it
pub sealed_covered : (log : Slab) (block entries : List SlabEntry) (commits : List Point) (size : ℕ) → IsKept log → entries ≡ block → size ≡ log.geometry.slab_journal → block ≡ get_or log.slots (log.durable % size) block
    → commits ≡ log.commits → All (IsCovered log.geometry commits) entries → All (IsCovered log.geometry log.commits) (sealed_block log)
sealed_covered log block entries commits size kept read number stands now covered =
    let some = kept.geometry.slab_journal in
    let inside : log.durable % log.geometry.slab_journal < length log.slots = omega (arith, mod_below log.durable log.geometry.slab_journal (omega (arith, some.0)), kept.ring) in
    let is : entries ≡ sealed_block log
    = read ∙ stands ∙ ap (λ (n : ℕ). get_or log.slots (log.durable % n) block) number ∙ get_or_default log.slots (log.durable % log.geometry.slab_journal) block [] inside in
    subst (λ (es : List SlabEntry). All (IsCovered log.geometry log.commits) es) is (subst (λ (cs : List Point). All (IsCovered log.geometry cs) entries) now covered)

pub none_unsettled : (log : Slab) → (IsWriting log → All (IsCovered log.geometry log.commits) (sealed_block log)) → All (IsCovered log.geometry log.commits) log.filling → NoneUnsettled log
none_unsettled log sealed filling = λ entry unsettled. unsettled.1 (elim unsettled.0 [
  | inl there ↦ All-contains (IsCovered log.geometry log.commits) (sealed_block log) entry (sealed there.0) there.1
  | inr there ↦ All-contains (IsCovered log.geometry log.commits) log.filling entry filling there
])
