-- The newest block of a journal, slot by slot, and the span of the window.
use Rattle.std.proofs.Common.{ℕ, ◌≡◌, ◌+◌, ◌-◌, ◌<◌, ◌≤◌, ◌^◌, ◌%◌, List, Option, None, Some, refl, sym, ◌∙◌, ap, subst, inl, inr, arith}
use Rattle.std.proofs.Math.Nat.{mod-lt}
use Rattle.std.proofs.lemmas.Bool.{cases_lt}
use Rattle.blk_base.specs.Sectors.{sector, zero_block}
use Rattle.blk_base.specs.declared.geometry.Geometry.{Geometry}
use Rattle.blk_base.specs.declared.journal_entry.Entry.{Entry}
use Rattle.journal_codec.specs.Grammar.{IsSector}
use Rattle.std.specs.Prelude.{get_or}
use Rattle.image_model.specs.Windows.{IsThere, IsLast, IsFirst}
use Rattle.journal_window.specs.declared.newest.Newest.{Newest}
use Rattle.journal_window.specs.Newest.{IsNewest, IsUpTo}
use Rattle.journal_window.proofs.SlotLaws.{same_there}

-- no slot yet
pub none_newest : (g : Geometry) (start : ℕ) (journal : List (List ℕ)) → IsNewest g start journal 0 None
none_newest g start journal = record { there = tt; greatest = λ sequence head inside from below there. absurd (omega (arith, inside)) }

-- a slot more, with nothing in it past the newest block
pub newest_kept : (g : Geometry) (start : ℕ) (journal : List (List ℕ)) (slot : ℕ) (newest : Option Newest) → IsNewest g start journal slot newest
    → ((sequence head : ℕ) → sequence % g.journal ≡ slot → start ≤ sequence → sequence < start + 2 ^ 32 → IsThere g journal sequence head → IsUpTo newest sequence)
    → IsNewest g start journal (slot + 1) newest
newest_kept g start journal slot newest is here = record {
  there = is.there;
  greatest = λ sequence head inside from below there. elim (cases_lt (sequence % g.journal) slot) [
    | inl earlier ↦ is.greatest sequence head earlier from below there
    | inr not_earlier ↦ here sequence head (omega (arith, inside, not_earlier)) from below there
  ];
}

-- a slot more, with a later block in it
pub newest_grown : (g : Geometry) (start : ℕ) (journal : List (List ℕ)) (slot : ℕ) (newest : Option Newest) (s h : ℕ) (es : List Entry) → IsNewest g start journal slot newest
    → IsSector g.nonce 0 (sector 0 (get_or journal slot zero_block)) s h es → s % g.journal ≡ slot → start ≤ s → s < start + 2 ^ 32
    → ((other : ℕ) → IsUpTo newest other → other ≤ s) → IsNewest g start journal (slot + 1) (Some (record { sequence = s; head = h }))
newest_grown g start journal slot newest s h es is valid here from below past = record {
  there = (from, below, (es, subst (λ (n : ℕ). IsSector g.nonce 0 (sector 0 (get_or journal n zero_block)) s h es) (sym here) valid));
  greatest = λ sequence head inside from' below' there. elim (cases_lt (sequence % g.journal) slot) [
    | inl earlier ↦ past sequence (is.greatest sequence head earlier from' below' there)
    | inr not_earlier ↦
        let same = same_there g journal slot s h es valid sequence head there.0 (omega (arith, inside, not_earlier)) there.1 in
        let equal = same.0 in omega (arith, equal)
  ];
}

-- what stands in the slot isn't past the newest block, if its sequence isn't, or doesn't belong there
pub kept_there : (g : Geometry) (start : ℕ) (journal : List (List ℕ)) (slot : ℕ) (newest : Option Newest) (s h : ℕ) (es : List Entry)
    → IsSector g.nonce 0 (sector 0 (get_or journal slot zero_block)) s h es
    → (s % g.journal ≡ slot → start ≤ s → s < start + 2 ^ 32 → IsUpTo newest s)
    → (sequence head : ℕ) → sequence % g.journal ≡ slot → start ≤ sequence → sequence < start + 2 ^ 32 → IsThere g journal sequence head → IsUpTo newest sequence
kept_there g start journal slot newest s h es valid if_there sequence head here from below there =
    let same = same_there g journal slot s h es valid sequence head there.0 here there.1 in
    let equal : s ≡ sequence = same.0 in
    subst (λ (n : ℕ). IsUpTo newest n) equal
    (if_there (ap (λ (n : ℕ). n % g.journal) equal ∙ here) (omega (arith, equal, from)) (omega (arith, equal, below)))

-- all slots

pub last_found : (g : Geometry) (start : ℕ) (journal : List (List ℕ)) (newest : Newest) → 0 < g.journal → IsNewest g start journal g.journal (Some newest)
    → IsLast g start journal newest.sequence × IsFirst g start journal newest.sequence newest.head × (newest.head ≤ newest.sequence + 1) × (newest.sequence < start + 2 ^ 32)
last_found g start journal newest some is =
    let there = is.there in
    let oldest = there.2.1.head_below in (
      record {
        there = inr (there.0, there.1, (newest.head, there.2));
        none = λ sequence head from past below has.
            let up = is.greatest sequence head (mod-lt sequence some) from below has in absurd (omega (arith, up, past));
      },
      inr (there.0, there.2),
      omega (arith, oldest),
      there.1,
    )

pub none_found : (g : Geometry) (start : ℕ) (journal : List (List ℕ)) → 0 < g.journal → 1 ≤ start → IsNewest g start journal g.journal None
    → IsLast g start journal (start - 1) × IsFirst g start journal (start - 1) start
none_found g start journal some from is =
    let behind : start - 1 + 1 ≡ start = omega (arith, from) in (
      record {
        there = inl behind;
        none = λ sequence head later past below has. is.greatest sequence head (mod-lt sequence some) later below has;
      },
      inl (behind, refl),
    )
