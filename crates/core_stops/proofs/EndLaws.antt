-- What an address may have after the end of a run, over histories alone; and what a flush leaves could have been left before it.
use Rattle.std.proofs.Common.{ℕ, ◌≡◌, ◌≤◌, ◌++◌, ◌==◌, Bool, true, false, List, [], ◌∷◌, if◌then◌else◌, length, refl, sym, ◌∙◌, ap, subst, inl, inr, arith, length-append}
use Rattle.std.proofs.lemmas.Bool.{cases_Bool}
use Rattle.std.specs.List.{AllByRecursion}
use Rattle.blk_base.specs.Sectors.{sector}
use Rattle.disk_model.specs.declared.call.Call.{Call}
use Rattle.disk_model.specs.declared.call.Call.TheVariants.{Read, Write, Flush}
use Rattle.disk_model.specs.Images.{IsImage, OneOf}
use Rattle.disk_model.specs.Log.{Blocks, block_at, contents, settled}
use Rattle.vdo_model.specs.declared.report.HistoryEntry.{HistoryEntry}
use Rattle.vdo_model.specs.declared.report.Mark.{Mark}
use Rattle.vdo_model.specs.declared.report.Mark.TheVariants.{Settled, Unsettled, Refused}
use Rattle.vdo_model.specs.Histories.{is_settled}
use Rattle.vdo_model.specs.LastParts.{is_lasting, last_part}
use Rattle.vdo_model.specs.Scripts.{Script}
use Rattle.vdo_model.specs.Stops.{MayLast, last_value}
use Rattle.core_stops.specs.Ends.{MayRemain}

-- Histories.

settled_alone : (mark : Mark) → is_lasting false mark ≡ is_settled mark
settled_alone Settled = refl
settled_alone Unsettled = refl
settled_alone Refused = refl

part_within : (history : List HistoryEntry) → length (last_part false history) ≤ length history
part_within [] = omega arith
part_within (entry ∷ older) = elim (cases_Bool (is_lasting false entry.mark)) [
  | inl taken ↦ rw taken (omega arith)
  | inr passed ↦ let rest = part_within older in rw passed (omega (arith, rest))
]

-- Where nothing newer is settled, the last settled entry is no later than what is shown.
pub none_settled : (newer shown : List HistoryEntry) → AllByRecursion (λ (x : HistoryEntry). is_settled x.mark ≡ false) newer → length (last_part false (newer ++ shown)) ≤ length shown
none_settled [] shown all = part_within shown
none_settled (entry ∷ newer) shown all =
    let passed : is_lasting false entry.mark ≡ false = settled_alone entry.mark ∙ all.0 in rw passed (none_settled newer shown all.1)

-- what may last is a last part by itself
lasts_whole : (shown : List HistoryEntry) → MayLast shown → last_part true shown ≡ shown
lasts_whole [] lasts = refl
lasts_whole (entry ∷ older) lasts = by entry.mark refl
  where
    by : (mark : Mark) → entry.mark ≡ mark → last_part true (entry ∷ older) ≡ entry ∷ older
    by Settled is = rw is refl
    by Unsettled is = rw is refl
    by Refused is = let none : ⊥ = rw is at lasts in absurd none

-- where no unsettled entry stands above the last settled one, that is shown: one entry more ..
one_more : (entry : HistoryEntry) (rest shown : List HistoryEntry) (mark : Mark) → entry.mark ≡ mark → length shown ≤ length rest
    → (length (last_part false rest) ≤ length shown → last_part true rest ≡ last_part false rest → shown ≡ last_part false rest)
    → length (last_part false (entry ∷ rest)) ≤ length shown → last_part true (entry ∷ rest) ≡ last_part false (entry ∷ rest) → shown ≡ last_part false (entry ∷ rest)
one_more entry rest shown Settled is longer below few same =
    let whole : last_part false (entry ∷ rest) ≡ entry ∷ rest = rw is refl in
    let size = ap length whole in
    absurd (omega (arith, size, few, longer))
one_more entry rest shown Unsettled is longer below few same =
    let whole : last_part true (entry ∷ rest) ≡ entry ∷ rest = rw is refl in
    let older : last_part false (entry ∷ rest) ≡ last_part false rest = rw is refl in
    let size = ap length (sym whole ∙ same ∙ older) in
    let within = part_within rest in
    absurd (omega (arith, size, within))
one_more entry rest shown Refused is longer below few same =
    let one : last_part true (entry ∷ rest) ≡ last_part true rest = rw is refl in
    let two : last_part false (entry ∷ rest) ≡ last_part false rest = rw is refl in
    below (subst (λ (h : List HistoryEntry). length h ≤ length shown) two few) (sym one ∙ same ∙ two) ∙ sym two

-- .. and all of them
shown_is : (newer shown : List HistoryEntry) → MayLast shown → length (last_part false (newer ++ shown)) ≤ length shown → last_part true (newer ++ shown) ≡ last_part false (newer ++ shown)
    → shown ≡ last_part false (newer ++ shown)
shown_is [] shown lasts few same = sym (lasts_whole shown lasts) ∙ same
shown_is (entry ∷ newer) shown lasts few same =
    let size = length-append newer shown in
    one_more entry (newer ++ shown) shown entry.mark refl (omega (arith, size)) (shown_is newer shown lasts) few same

-- Then the value is that of the last settled entry.
pub exact : (script : Script) (history : List HistoryEntry) (opening value : List ℕ) → MayRemain script history opening value → last_part true history ≡ last_part false history
    → value ≡ last_value script opening (last_part false history)
exact script history opening value may same =
    let few = subst (λ (h : List HistoryEntry). length (last_part false h) ≤ length may.shown) may.part may.settled in
    let alike = subst (λ (h : List HistoryEntry). last_part true h ≡ last_part false h) may.part same in
    may.value_is ∙ ap (last_value script opening) (shown_is may.newer may.shown may.lasts few alike ∙ ap (last_part false) (sym may.part))

-- Logs.

one_if : (Q : List ℕ → Type 0) (here : Bool) (bytes : List ℕ) (xs ys us vs : List (List ℕ)) → (OneOf Q xs → OneOf Q us) → (OneOf Q ys → OneOf Q vs)
    → OneOf Q (if here then bytes ∷ xs else ys) → OneOf Q (if here then bytes ∷ us else vs)
one_if Q true bytes xs ys us vs f g (inl here) = inl here
one_if Q true bytes xs ys us vs f g (inr later) = inr (f later)
one_if Q false bytes xs ys us vs f g one = g one

-- what settles is one of the contents
one_settled : (Q : List ℕ → Type 0) (opening : Blocks) (log : List Call) (b : ℕ) → OneOf Q (settled opening log b) → OneOf Q (contents opening log b)
one_settled Q opening [] b one = one
one_settled Q opening (Read at bytes ok ∷ log) b one = one_settled Q opening log b one
one_settled Q opening (Flush true ∷ log) b one = one
one_settled Q opening (Flush false ∷ log) b one = one_settled Q opening log b one
one_settled Q opening (Write at bytes true ∷ log) b one = one_if Q (at.0 == b) bytes [] _ _ _ (λ none. absurd none) (one_settled Q opening log b) one
one_settled Q opening (Write at bytes false ∷ log) b one = one_if Q (at.0 == b) bytes _ _ _ _ (one_settled Q opening log b) (one_settled Q opening log b) one

-- An image that may be left behind a flush could have been left before it.
pub before_flush : (opening : Blocks) (log : List Call) (image : Blocks) → IsImage opening (Flush true ∷ log) image → IsImage opening log image
before_flush opening log image is = record {
  size = is.size;
  whole = is.whole;
  sectors = λ b below i small. one_settled (λ content. sector i (block_at image b) ≡ sector i content) opening log b (is.sectors b below i small);
}
