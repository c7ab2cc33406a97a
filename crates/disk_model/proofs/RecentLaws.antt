-- What the calls up to the last successful flush left of a block, and what those behind it leave.
use Rattle.std.proofs.Common.{ℕ, zero, suc, ◌≡◌, ◌+◌, ◌==◌, ◌<◌, ◌≤◌, ◌++◌, true, false, if◌then◌else◌, List, [], ◌∷◌, length, reverse, take, drop, refl, sym, ◌∙◌, ap, ap₂, inl, inr, arith, get_or, length-drop, length-append}
use Rattle.std.proofs.lemmas.Bool.Decides.{eqb_tells}
use Rattle.std.proofs.lemmas.List.{drop_at, take_more, length-reverse, reverse-append, take-append-drop, take_at}
use Rattle.blk_base.specs.Sectors.{sector}
use Rattle.disk_model.specs.Numbers.{state_after}
use Rattle.disk_model.specs.declared.call.Call.{Call}
use Rattle.disk_model.specs.declared.call.Call.TheVariants.{Read, Write, Flush}
use Rattle.disk_model.specs.Log.{Blocks, IsWritten, block_at}
use Rattle.disk_model.specs.Picks.{IsPicked, choice, content_of, numbers_before, pending, written}
use Rattle.disk_model.specs.PickParts.{AreWritten, IsPickedUpTo, lasting, recent}

-- The two parts of a log.

both_parts : (log : List Call) → recent log ++ lasting log ≡ log
both_parts [] = refl
both_parts (Read at bytes ok ∷ older) = ap (λ (calls : List Call). Read at bytes ok ∷ calls) (both_parts older)
both_parts (Flush true ∷ older) = refl
both_parts (Flush false ∷ older) = ap (λ (calls : List Call). Flush false ∷ calls) (both_parts older)
both_parts (Write at bytes ok ∷ older) = ap (λ (calls : List Call). Write at bytes ok ∷ calls) (both_parts older)

module _ (calls : List Call) (count : ℕ) (is : count ≡ length (lasting (reverse calls))) (few : count ≤ length calls) where
  halves : reverse (drop count calls) ++ reverse (take count calls) ≡ reverse calls
  halves = sym (reverse-append (take count calls) (drop count calls)) ∙ ap reverse (take-append-drop count calls)

  size : length (reverse (drop count calls)) ≡ length (recent (reverse calls))
  size =
      let left = length-reverse (drop count calls) ∙ length-drop count calls in
      let whole : length (recent (reverse calls)) + length (lasting (reverse calls)) ≡ length (reverse calls) =
      sym (length-append (recent (reverse calls)) (lasting (reverse calls))) ∙ ap length (both_parts (reverse calls)) in
      let all = length-reverse calls in
      omega (arith, left, whole, all, is, few)

  pub lasting_part : reverse (take count calls) ≡ lasting (reverse calls)
  lasting_part =
      sym (drop_at (reverse (drop count calls)) (reverse (take count calls)) (length (recent (reverse calls))) size)
      ∙ ap (drop (length (recent (reverse calls)))) (halves ∙ sym (both_parts (reverse calls)))
      ∙ drop_at (recent (reverse calls)) (lasting (reverse calls)) (length (recent (reverse calls))) refl

  pub recent_part : reverse (drop count calls) ≡ recent (reverse calls)
  recent_part =
      sym (take_at (reverse (drop count calls)) (reverse (take count calls)) (length (recent (reverse calls))) size)
      ∙ ap (take (length (recent (reverse calls)))) (halves ∙ sym (both_parts (reverse calls)))
      ∙ take_at (recent (reverse calls)) (lasting (reverse calls)) (length (recent (reverse calls))) refl

pub one_more : (calls : List Call) (n : ℕ) (call : Call) → n < length calls → call ≡ get_or calls n call → reverse (take (n + 1) calls) ≡ call ∷ reverse (take n calls)
one_more calls n call within is =
    ap reverse (take_more calls n call within ∙ ap (λ (x : Call). take n calls ++ x ∷ []) (sym is)) ∙ reverse-append (take n calls) (call ∷ [])

-- What is pending is in the recent part alone.

pub pending_recent : (log : List Call) (b : ℕ) → pending log b ≡ pending (recent log) b
pending_recent [] b = refl
pending_recent (Read at bytes ok ∷ older) b = pending_recent older b
pending_recent (Flush true ∷ older) b = refl
pending_recent (Flush false ∷ older) b = pending_recent older b
pending_recent (Write at bytes ok ∷ older) b = ap (λ (n : ℕ). if at.0 == b then n + 1 else n) (pending_recent older b)

numbers_recent : (log : List Call) (b : ℕ) → numbers_before log b ≡ numbers_before (recent log) b
numbers_recent log zero = refl
numbers_recent log (suc b) = ap₂ (λ (writes n : ℕ). if writes == 0 then n else 8 + n) (pending_recent log b) (numbers_recent log b)

content_recent : (before : List ℕ) (log : List Call) (b k : ℕ) → content_of before log b k ≡ content_of (written before (lasting log) b) (recent log) b k
content_recent before [] b k = refl
content_recent before (Read at bytes ok ∷ older) b k = content_recent before older b k
content_recent before (Flush true ∷ older) b k = refl
content_recent before (Flush false ∷ older) b k = content_recent before older b k
content_recent before (Write at bytes ok ∷ older) b k =
    ap₂ (λ (writes : ℕ) (content : List ℕ). if at.0 == b then (if writes + 1 == k then bytes else content) else content)
    (pending_recent older b) (content_recent before older b k)

-- A block that no call writes has nothing pending, and is as it was.

pub none_pending : (log : List Call) (b : ℕ) → (IsWritten log b → ⊥) → pending log b ≡ 0
none_pending [] b not = refl
none_pending (Read at bytes ok ∷ older) b not = none_pending older b not
none_pending (Flush true ∷ older) b not = refl
none_pending (Flush false ∷ older) b not = none_pending older b not
none_pending (Write at bytes ok ∷ older) b not = elim (eqb_tells at.0 b) [
  | inl here ↦ absurd (not (inl here.1))
  | inr other ↦ rw (other.0) (none_pending older b (λ w. not (inr w)))
]

none_written : (before : List ℕ) (log : List Call) (b : ℕ) → (IsWritten log b → ⊥) → written before log b ≡ before
none_written before [] b not = refl
none_written before (Read at bytes ok ∷ older) b not = none_written before older b not
none_written before (Flush ok ∷ older) b not = none_written before older b not
none_written before (Write at bytes true ∷ older) b not = elim (eqb_tells at.0 b) [
  | inl here ↦ absurd (not (inl here.1))
  | inr other ↦ rw (other.0) (none_written before older b (λ w. not (inr w)))
]
none_written before (Write at bytes false ∷ older) b not = none_written before older b (λ w. not (inr w))

pub as_before : (before : List ℕ) (log : List Call) (b k : ℕ) → (IsWritten log b → ⊥) → content_of before log b k ≡ before
as_before before [] b k not = refl
as_before before (Read at bytes ok ∷ older) b k not = as_before before older b k not
as_before before (Flush true ∷ older) b k not = none_written before older b not
as_before before (Flush false ∷ older) b k not = as_before before older b k not
as_before before (Write at bytes ok ∷ older) b k not = elim (eqb_tells at.0 b) [
  | inl here ↦ absurd (not (inl here.1))
  | inr other ↦ rw (other.0) (as_before before older b k (λ w. not (inr w)))
]

-- A picked image from what the first part of the log left, and the second part.
pub picked_of_recent : (opening before : Blocks) (log : List Call) (number : ℕ) (image : Blocks) (state : ℕ)
    → AreWritten opening (lasting log) before → IsPickedUpTo before (recent log) number (length before) image state → IsPicked opening log number image
picked_of_recent opening before log number image state are up = record {
  size = up.size ∙ are.size;
  whole = λ b inside. let size = are.size in up.whole b (omega (arith, inside, size));
  sectors = λ b i inside below.
      let size = are.size in
      let chosen = ap₂ (λ (writes n : ℕ). choice number writes (state_after number (suc (n + i)))) (pending_recent log b) (numbers_recent log b) in
      up.sectors b i (omega (arith, inside, size)) below
      ∙ ap₂ (λ (bytes : List ℕ) (k : ℕ). sector i (content_of bytes (recent log) b k)) (are.writes b inside) (sym chosen)
      ∙ ap (sector i) (sym (content_recent (block_at opening b) log b (choice number (pending log b) (state_after number (suc (numbers_before log b + i))))));
}
