-- The points of a slab's updates rise, by the condition of each call.
use Rattle.std.specs.Prelude.{ℕ, ◌≡◌, ◌+◌, ◌*◌, ◌<◌, ◌≤◌, List, [], ◌∷◌, All, length, drop}
use Rattle.std.proofs.Common.{sym, ap, subst, arith}
use Rattle.std.proofs.Math.Nat.{mul-le-mul_right, add-mul}
use Rattle.std.proofs.lemmas.List.{length-take, length-drop}
use Rattle.std.proofs.lemmas.List.Elements.{All-nil, All-cons, All-tail}
use Rattle.blk_base.specs.Counters.{sectors_per_slab, sector_of_offset}
use Rattle.blk_base.specs.declared.geometry.Geometry.{Geometry}
use Rattle.blk_base.specs.declared.point.Point.{Point}
use Rattle.reference_blocks.specs.References.{point_at, points_of}
use Rattle.reference_blocks.specs.Updates.{AreRising}
use Rattle.slab_codec.specs.declared.forms.SlabEntry.{SlabEntry}
use Rattle.slab_journal.specs.Slab.{Slab}
use Rattle.slab_writes.specs.Writes.{Writes}
use Rattle.slab_writes.specs.Operations.{Operation, Taken, JournalOut, ReferenceOut, JournalDurable, ReferenceDurable, LeadTo, updates_of}
use Rattle.slab_zone.specs.Operations.{AreAbove}

-- each is at most this point
abbrev AreUpTo : ℕ → List SlabEntry → Type 0
AreUpTo last entries = All (λ entry. entry.point.0 ≤ last) entries

up_to_last : (first : Writes) (calls : List Operation) (w : Writes) → LeadTo first calls w → AreUpTo w.journal.last.0 (updates_of calls)
up_to_last first [] w lead = All-nil (λ entry. entry.point.0 ≤ w.journal.last.0)
up_to_last first (Taken e ∷ calls) w (before, lead, did) =
    let now = ap (λ (v : Writes). v.journal.last.0) did.2 in
    let older = up_to_last first calls before lead in
    All-cons (λ entry. entry.point.0 ≤ w.journal.last.0) e (updates_of calls) (omega (arith, now))
    (λ k d below. omega (arith, older k d below, now, did.0))
up_to_last first (JournalOut block ∷ calls) w (before, lead, did) =
    subst (λ (n : ℕ). AreUpTo n (updates_of calls)) (sym (ap (λ (j : Slab). j.last.0) did.0.follows)) (up_to_last first calls before lead)
up_to_last first (ReferenceOut counters bytes block ∷ calls) w (before, lead, did) =
    subst (λ (n : ℕ). AreUpTo n (updates_of calls)) (sym (ap (λ (v : Writes). v.journal.last.0) did.1)) (up_to_last first calls before lead)
up_to_last first (JournalDurable sequence ∷ calls) w (before, lead, did) =
    subst (λ (n : ℕ). AreUpTo n (updates_of calls)) (sym (ap (λ (v : Writes). v.journal.last.0) did.2)) (up_to_last first calls before lead)
up_to_last first (ReferenceDurable block ∷ calls) w (before, lead, did) =
    subst (λ (n : ℕ). AreUpTo n (updates_of calls)) (sym (ap (λ (j : Slab). j.last.0) did.1.journal)) (up_to_last first calls before lead)

pub are_rising : (g : Geometry) (opened : List Point) (first : Writes) (calls : List Operation) (w : Writes) → LeadTo first calls w → AreAbove g opened (updates_of calls) → AreRising g opened (updates_of calls)
are_rising g opened first [] w lead above = tt
are_rising g opened first (Taken e ∷ calls) w (before, lead, did) above =
    let older = up_to_last first calls before lead in (
      (λ k d below. omega (arith, older k d below, did.0)),
      above 0 e (omega arith),
      are_rising g opened first calls before lead (All-tail (λ entry. (point_at opened (sector_of_offset g entry.offset)).0 < entry.point.0) e (updates_of calls) above),
    )
are_rising g opened first (JournalOut block ∷ calls) w (before, lead, did) above = are_rising g opened first calls before lead above
are_rising g opened first (ReferenceOut counters bytes block ∷ calls) w (before, lead, did) above = are_rising g opened first calls before lead above
are_rising g opened first (JournalDurable sequence ∷ calls) w (before, lead, did) above = are_rising g opened first calls before lead above
are_rising g opened first (ReferenceDurable block ∷ calls) w (before, lead, did) above = are_rising g opened first calls before lead above

rows : (n s m : ℕ) → n < m → n * s + s ≤ m * s
rows n s m below = let more : (n + 1) * s ≤ m * s = mul-le-mul_right s (omega (arith, below)) in omega (arith, more, add-mul n 1 s)

-- a slab has a commit point for each of its sectors
pub points_many : (g : Geometry) (n : ℕ) (commits : List Point) → length commits ≡ g.slabs * sectors_per_slab g → n < g.slabs → length (points_of g n commits) ≡ sectors_per_slab g
points_many g n commits many below =
    let s = sectors_per_slab g in
    let room : n * s + s ≤ g.slabs * s = rows n s g.slabs below in
    omega (arith, length-take s (drop (n * s) commits), length-drop (n * s) commits, many, room)
