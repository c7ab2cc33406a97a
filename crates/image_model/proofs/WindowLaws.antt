-- A journal has one window, or one block that is named where it has none.
use Rattle.std.proofs.Common.{ℕ, ◌≡◌, ◌+◌, ◌<◌, ◌≤◌, List, [], ◌∷◌, length, refl, sym, ◌∙◌, ap₂, subst, inl, inr, arith}
use Rattle.std.proofs.lemmas.Bool.{cases_lt}
use Rattle.blk_base.specs.Sectors.{sector}
use Rattle.blk_base.specs.declared.geometry.Geometry.{Geometry}
use Rattle.blk_base.specs.declared.journal_entry.CommittedEntry.{CommittedEntry}
use Rattle.blk_base.specs.declared.journal_entry.Entry.{Entry}
use Rattle.journal_codec.proofs.PrefixLaws.{one_prefix}
use Rattle.journal_codec.proofs.ReadLaws.{one_reading}
use Rattle.image_model.specs.Windows.{in_slot, IsThere, IsLast, IsFirst, IsReplayable, AreReplayable, entries_from, IsWindow, IsFaulty}

-- From where to where.

pub one_head : (g : Geometry) (journal : List (List ℕ)) (sequence head head' : ℕ) → IsThere g journal sequence head → IsThere g journal sequence head' → head ≡ head'
one_head g journal sequence head head' there there' =
    (one_reading g.nonce 0 (sector 0 (in_slot g journal sequence)) sequence head sequence head' there.0 there'.0 there.1 there'.1).1

not_later : (g : Geometry) (start : ℕ) (journal : List (List ℕ)) (last last' : ℕ) → IsLast g start journal last → IsLast g start journal last' → last < last' → ⊥
not_later g start journal last last' is is' later = elim is'.there [
  | inl none ↦ elim is.there [
    | inl none_too ↦ absurd (omega (arith, none, none_too, later))
    | inr some ↦ let from = some.0 in absurd (omega (arith, none, from, later))
  ]
  | inr some ↦ let from = some.0 in is.none last' some.2.0 from later some.1 some.2.1
]

pub one_last : (g : Geometry) (start : ℕ) (journal : List (List ℕ)) (last last' : ℕ) → IsLast g start journal last → IsLast g start journal last' → last ≡ last'
one_last g start journal last last' is is' = elim (cases_lt last last') [
  | inl later ↦ absurd (not_later g start journal last last' is is' later)
  | inr not_later_a ↦ elim (cases_lt last' last) [
    | inl later ↦ absurd (not_later g start journal last' last is' is later)
    | inr not_later_b ↦ omega (arith, not_later_a, not_later_b)
  ]
]

pub one_first : (g : Geometry) (start : ℕ) (journal : List (List ℕ)) (last first first' : ℕ) → IsFirst g start journal last first → IsFirst g start journal last first' → first ≡ first'
one_first g start journal last first first' (inl none) (inl none') = none.1 ∙ sym none'.1
one_first g start journal last first first' (inl none) (inr some') = let behind = none.0 in let from = some'.0 in absurd (omega (arith, behind, from))
one_first g start journal last first first' (inr some) (inl none') = let behind = none'.0 in let from = some.0 in absurd (omega (arith, behind, from))
one_first g start journal last first first' (inr some) (inr some') = one_head g journal last first first' some.1 some'.1

-- What the blocks say.

pub same_entries : (g : Geometry) (journal : List (List ℕ)) (last sequence : ℕ) (entries entries' : List Entry)
    → IsReplayable g journal last sequence entries → IsReplayable g journal last sequence entries' → entries ≡ entries'
same_entries g journal last sequence entries entries' is is' =
    (one_prefix g.nonce (in_slot g journal sequence) sequence is.has.0 sequence is'.has.0 entries entries' is.whole is'.whole is.has.1 is'.has.1).2

pub same_blocks : (g : Geometry) (journal : List (List ℕ)) (last first : ℕ) (blocks blocks' : List (List Entry)) → length blocks ≡ length blocks'
    → AreReplayable g journal last first blocks → AreReplayable g journal last first blocks' → blocks ≡ blocks'
same_blocks g journal last first [] [] same are are' = refl
same_blocks g journal last first [] (entries' ∷ older') same are are' = absurd (omega (arith, same))
same_blocks g journal last first (entries ∷ older) [] same are are' = absurd (omega (arith, same))
same_blocks g journal last first (entries ∷ older) (entries' ∷ older') same are are' =
    let fewer : length older ≡ length older' = omega (arith, same) in
    ap₂ (λ (e : List Entry) (o : List (List Entry)). e ∷ o)
    (same_entries g journal last (first + length older) entries entries' are.0
    (subst (λ (n : ℕ). IsReplayable g journal last (first + n) entries') (sym fewer) are'.0))
    (same_blocks g journal last first older older' fewer are.1 are'.1)

-- each of the blocks can be replayed
pub each_replayable : (g : Geometry) (journal : List (List ℕ)) (last first : ℕ) (blocks : List (List Entry)) → AreReplayable g journal last first blocks
    → (sequence : ℕ) → first ≤ sequence → sequence < first + length blocks → (entries : List Entry) × IsReplayable g journal last sequence entries
each_replayable g journal last first [] are sequence from below = absurd (omega (arith, from, below))
each_replayable g journal last first (entries ∷ older) are sequence from below = elim (cases_lt sequence (first + length older)) [
  | inl earlier ↦ each_replayable g journal last first older are.1 sequence from earlier
  | inr not_earlier ↦ let here : first + length older ≡ sequence = omega (arith, not_earlier, below) in
      (entries, subst (λ (n : ℕ). IsReplayable g journal last n entries) here are.0)
]

-- The window.

pub one_window : (g : Geometry) (start : ℕ) (journal : List (List ℕ)) (last last' : ℕ) (window window' : List CommittedEntry)
    → IsWindow g start journal last window → IsWindow g start journal last' window' → (last ≡ last') × (window ≡ window')
one_window g start journal last last' window window' is is' =
    let same_last = one_last g start journal last last' is.is_last is'.is_last in
    let is_first' = subst (λ (n : ℕ). IsFirst g start journal n is'.first) (sym same_last) is'.is_first in
    let same_first = one_first g start journal last is.first is'.first is.is_first is_first' in
    let are' = subst (λ (n : ℕ). AreReplayable g journal last n is'.blocks) (sym same_first)
    (subst (λ (n : ℕ). AreReplayable g journal n is'.first is'.blocks) (sym same_last) is'.replayable) in
    let count = is.count in
    let count' = is'.count in
    let same_count : length is.blocks ≡ length is'.blocks = omega (arith, count, count', same_last, same_first) in
    let same = same_blocks g journal last is.first is.blocks is'.blocks same_count is.replayable are' in
    (same_last, is.entries ∙ ap₂ entries_from same_first same ∙ sym is'.entries)

not_earlier : (g : Geometry) (start : ℕ) (journal : List (List ℕ)) (sequence sequence' : ℕ) → (is : IsFaulty g start journal sequence) → (is' : IsFaulty g start journal sequence')
    → sequence < sequence' → ⊥
not_earlier g start journal sequence sequence' is is' earlier =
    let same_last = one_last g start journal is.last is'.last is.is_last is'.is_last in
    let is_first' = subst (λ (n : ℕ). IsFirst g start journal n is'.first) (sym same_last) is'.is_first in
    let same_first = one_first g start journal is.last is.first is'.first is.is_first is_first' in
    let from = is.inside.0 in
    let good = is'.good sequence (omega (arith, from, same_first)) earlier in
    is.bad good.0 (subst (λ (n : ℕ). IsReplayable g journal n sequence good.0) (sym same_last) good.1)

pub one_fault : (g : Geometry) (start : ℕ) (journal : List (List ℕ)) (sequence sequence' : ℕ) → IsFaulty g start journal sequence → IsFaulty g start journal sequence' → sequence ≡ sequence'
one_fault g start journal sequence sequence' is is' = elim (cases_lt sequence sequence') [
  | inl earlier ↦ absurd (not_earlier g start journal sequence sequence' is is' earlier)
  | inr not_a ↦ elim (cases_lt sequence' sequence) [
    | inl earlier ↦ absurd (not_earlier g start journal sequence' sequence is' is earlier)
    | inr not_b ↦ omega (arith, not_a, not_b)
  ]
]

pub not_both : (g : Geometry) (start : ℕ) (journal : List (List ℕ)) (last : ℕ) (window : List CommittedEntry) (sequence : ℕ)
    → IsWindow g start journal last window → IsFaulty g start journal sequence → ⊥
not_both g start journal last window sequence is faulty =
    let same_last = one_last g start journal last faulty.last is.is_last faulty.is_last in
    let is_first' = subst (λ (n : ℕ). IsFirst g start journal n faulty.first) (sym same_last) faulty.is_first in
    let same_first = one_first g start journal last is.first faulty.first is.is_first is_first' in
    let count = is.count in
    let from = faulty.inside.0 in
    let below = faulty.inside.1 in
    let good = each_replayable g journal last is.first is.blocks is.replayable sequence (omega (arith, from, same_first)) (omega (arith, below, count, same_last)) in
    faulty.bad good.0 (subst (λ (n : ℕ). IsReplayable g journal n sequence good.0) same_last good.1)
