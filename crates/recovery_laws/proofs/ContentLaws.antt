-- What holds of all that stands in a block, or was written to it, holds of what a stop leaves there.
use Rattle.std.proofs.Common.{ℕ, ◌≡◌, ◌⊎◌, true, false, List, [], ◌∷◌, subst, inl, inr}
use Rattle.std.specs.List.{AllByRecursion}
use Rattle.std.proofs.lemmas.Bool.Decides.{eqb_tells}
use Rattle.disk_model.specs.declared.call.Call.{Call}
use Rattle.disk_model.specs.declared.call.Call.TheVariants.{Read, Write, Flush}
use Rattle.disk_model.specs.Log.{Blocks, block_at, contents, settled, Misses, IsWritten}
use Rattle.disk_model.proofs.ImageLaws.{settled_are_contents}

-- what is written to each block is of its kind
abbrev pub Puts : (ℕ → List ℕ → Type 0) → Call → Type 0
Puts P (Write at bytes ok) = P at.0 bytes
Puts P (Read _ _ _) = Unit {0}
Puts P (Flush _) = Unit {0}

pub contents_are : (P : ℕ → List ℕ → Type 0) (old : Blocks) (calls : List Call) (b : ℕ) → P b (block_at old b) → AllByRecursion (Puts P) calls
    → AllByRecursion (P b) (contents old calls b)
contents_are P old [] b was puts = (was, tt)
contents_are P old (Read at bytes ok ∷ calls) b was puts = contents_are P old calls b was puts.1
contents_are P old (Flush true ∷ calls) b was puts = settled_are_contents (P b) old calls b (contents_are P old calls b was puts.1)
contents_are P old (Flush false ∷ calls) b was puts = contents_are P old calls b was puts.1
contents_are P old (Write at bytes ok ∷ calls) b was puts = elim (eqb_tells at.0 b) [
  | inl same ↦ rw (same.0) (subst (λ (n : ℕ). P n bytes) same.1 puts.0, contents_are P old calls b was puts.1)
  | inr other ↦ rw (other.0) (contents_are P old calls b was puts.1)
]

-- what was written, where something was
abbrev pub AllTaken : Call → Type 0
AllTaken (Write at bytes ok) = ok ≡ true
AllTaken (Read _ _ _) = Unit {0}
AllTaken (Flush _) = Unit {0}

pub settled_are : (P : ℕ → List ℕ → Type 0) (old : Blocks) (calls : List Call) (b : ℕ) → AllByRecursion AllTaken calls → AllByRecursion (Puts P) calls → IsWritten calls b
    → AllByRecursion (P b) (settled old calls b)
settled_are P old [] b taken puts written = absurd written
settled_are P old (Read at bytes ok ∷ calls) b taken puts written = settled_are P old calls b taken.1 puts.1 written
settled_are P old (Flush ok ∷ calls) b taken puts written = settled_are P old calls b taken.1 puts.1 written
settled_are P old (Write at bytes true ∷ calls) b taken puts written = elim (eqb_tells at.0 b) [
  | inl same ↦ rw (same.0) (subst (λ (n : ℕ). P n bytes) same.1 puts.0, tt)
  | inr other ↦ rw (other.0) (settled_are P old calls b taken.1 puts.1 (elim written [ inl is ↦ absurd (other.1 is) | inr later ↦ later ]))
]
settled_are P old (Write at bytes false ∷ calls) b taken puts written = let no = taken.0 in absurd (cc no)

-- a block is written, or it is missed
pub written_or_not : (calls : List Call) (b : ℕ) → IsWritten calls b ⊎ AllByRecursion (λ call. Misses call b) calls
written_or_not [] b = inr tt
written_or_not (Read at bytes ok ∷ calls) b = elim (written_or_not calls b) [ inl is ↦ inl is | inr misses ↦ inr (tt, misses) ]
written_or_not (Flush ok ∷ calls) b = elim (written_or_not calls b) [ inl is ↦ inl is | inr misses ↦ inr (tt, misses) ]
written_or_not (Write at bytes ok ∷ calls) b = elim (eqb_tells at.0 b) [
  | inl same ↦ inl (inl same.1)
  | inr other ↦ elim (written_or_not calls b) [ inl is ↦ inl (inr is) | inr misses ↦ inr (other.1, misses) ]
]

pub missed : (calls : List Call) (b : ℕ) → AllByRecursion (λ call. Misses call b) calls → IsWritten calls b → ⊥
missed [] b misses written = written
missed (Read at bytes ok ∷ calls) b misses written = missed calls b misses.1 written
missed (Flush ok ∷ calls) b misses written = missed calls b misses.1 written
missed (Write at bytes ok ∷ calls) b misses (inl same) = misses.0 same
missed (Write at bytes ok ∷ calls) b misses (inr later) = missed calls b misses.1 later
