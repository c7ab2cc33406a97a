-- For each clause on reported commit points a case that it accepts, and one that breaks it alone.
use Rattle.std.specs.Prelude.{ℕ, zero, suc, ◌≡◌, ◌+◌, ◌++◌, ◌*◌, ◌/◌, ◌%◌, ◌<◌, ◌^◌, List, [], ◌∷◌, length, map, drop, replicate}
use Rattle.std.proofs.Common.{sym, ◌∙◌, ap, subst, arith, inl, inr, refl, get_or}
use Rattle.std.proofs.lemmas.List.{length-append, length-take, length-replicate}
use Rattle.blk_base.specs.Sectors.{sector}
use Rattle.blk_base.specs.declared.geometry.Geometry.{Geometry}
use Rattle.blk_base.specs.declared.point.Point.{Point}
use Rattle.blk_base.specs.Forms.{point as p}
use Rattle.reference_blocks.specs.References.{eight, point_at, sector_at, sectors_of}
use Rattle.slab_codec.specs.Reference.{reference_bytes, reference_sector_bytes}
use Rattle.slab_codec.specs.declared.forms.ReferenceSector.{ReferenceSector}
use Rattle.slab_codec.proofs.CounterLaws.{sector_injective, written_counters}
use Rattle.slab_writes.specs.Operations.{Operation, ReferenceOut, ReferenceDurable}
use Rattle.slab_writes.specs.Commits.{SaysPoint, IsHandedOut, IsReported}

-- what a block says of a sector's commit point is one
eight_at : {X : Type 0} (f : ℕ → X) (i : ℕ) (d : X) → i < 8 → get_or (map f eight) i d ≡ f i
eight_at f zero d below = refl
eight_at f (suc zero) d below = refl
eight_at f (suc (suc zero)) d below = refl
eight_at f (suc (suc (suc zero))) d below = refl
eight_at f (suc (suc (suc (suc zero)))) d below = refl
eight_at f (suc (suc (suc (suc (suc zero))))) d below = refl
eight_at f (suc (suc (suc (suc (suc (suc zero)))))) d below = refl
eight_at f (suc (suc (suc (suc (suc (suc (suc zero))))))) d below = refl
eight_at f (suc (suc (suc (suc (suc (suc (suc (suc i)))))))) d below = absurd (omega (arith, below))

abbrev nothing : ReferenceSector
nothing = record { commit = record { 0 = 0 }; counters = [] }

module _ (g : Geometry) (bytes : List ℕ) (n : ℕ) where
  abbrev sectors : List Point → List ℕ → List ReferenceSector
  sectors points counters = sectors_of g points counters (n / 8)

  abbrev one : List Point → List ℕ → ℕ → ReferenceSector
  one points counters j = sector_at g points counters (8 * (n / 8) + j)

  read : (points : List Point) (counters : List ℕ) → bytes ≡ reference_bytes (sectors points counters) → sector (n % 8) bytes ≡ reference_sector_bytes (one points counters (n % 8))
  read points counters says =
      let inside : n % 8 < 8 = omega arith in
      ap (λ (bs : List ℕ). sector (n % 8) bs) says
      ∙ written_counters (sectors points counters) (n % 8) nothing
      (λ i d below. subst (λ (s : ReferenceSector). length s.counters ≡ 504) (sym (eight_at (one points counters) i d (omega (arith, below))))
      (let k = 504 * (8 * (n / 8) + i) in
      omega (arith, length-take 504 (drop k counters ++ replicate 504 0), length-append (drop k counters) (replicate 504 0), length-replicate {A = ℕ} 504 0)))
      (omega arith)
      ∙ ap (λ (s : ReferenceSector). reference_sector_bytes s) (eight_at (one points counters) (n % 8) nothing inside)

  pub one_point : (p q : Point) → p.0 < 2 ^ 64 → q.0 < 2 ^ 64 → SaysPoint g bytes n p → SaysPoint g bytes n q → p ≡ q
  one_point p q small small' is other =
      let whole : 8 * (n / 8) + n % 8 ≡ n = omega arith in
      let first : point_at is.points (8 * (n / 8) + n % 8) ≡ p = ap (λ (k : ℕ). point_at is.points k) whole ∙ is.is in
      let second : point_at other.points (8 * (n / 8) + n % 8) ≡ q = ap (λ (k : ℕ). point_at other.points k) whole ∙ other.is in
      let same = sector_injective (one is.points is.counters (n % 8)) (one other.points other.counters (n % 8)) (omega (arith, ap (λ (r : Point). r.0) first, small))
      (omega (arith, ap (λ (r : Point). r.0) second, small')) (sym (read is.points is.counters is.says) ∙ read other.points other.counters other.says) in
      sym first ∙ ap (λ (s : ReferenceSector). s.commit) same ∙ second

abbrev sizes : Geometry
sizes = record { logical = 1000; slabs = 1; slab_blocks = 16; journal = 8; index = 16; slab_journal = 2; height = 2; nonce = 1 }

module _ (counters : List ℕ) where
  -- a block whose only sector has the commit point 512, and a later one with 514
  abbrev first_bytes : List ℕ
  first_bytes = reference_bytes (sectors_of sizes (p 512 ∷ []) counters 0)

  abbrev later_bytes : List ℕ
  later_bytes = reference_bytes (sectors_of sizes (p 514 ∷ []) counters 0)

  -- SaysPoint
  says : SaysPoint sizes first_bytes 0 (p 512)
  says = record { points = p 512 ∷ []; counters = counters; says = refl; is = refl }

  says_no_other : ¬ SaysPoint sizes first_bytes 0 (p 514)
  says_no_other other = let no' = ap (λ (q : Point). q.0) (one_point sizes first_bytes 0 (p 512) (p 514) (omega arith) (omega arith) says other) in omega (arith, no')

  -- IsHandedOut: the newest of the block
  abbrev twice : List Operation
  twice = ReferenceOut counters later_bytes 0 ∷ ReferenceOut counters first_bytes 0 ∷ []

  newest : IsHandedOut sizes twice 0 (p 514)
  newest = inl (refl, record { points = p 514 ∷ []; counters = counters; says = refl; is = refl })

  not_the_one_before : ¬ IsHandedOut sizes twice 0 (p 512)
  not_the_one_before is = elim is [
    | inl here ↦
        let no' = ap (λ (q : Point). q.0) (one_point sizes later_bytes 0 (p 514) (p 512) (omega arith) (omega arith) (record { points = p 514 ∷ []; counters = counters; says = refl; is = refl }) here.1) in
        omega (arith, no')
    | inr other ↦ other.0 refl
  ]

  behind_another_block : IsHandedOut sizes (ReferenceOut counters later_bytes 1 ∷ ReferenceOut counters first_bytes 0 ∷ []) 0 (p 512)
  behind_another_block = inr (λ same. omega (arith, same), inl (refl, says))

  not_of_another_block : ¬ IsHandedOut sizes (ReferenceOut counters first_bytes 1 ∷ []) 0 (p 512)
  not_of_another_block is = elim is [ inl here ↦ omega (arith, here.0) | inr there ↦ there.1 ]

  -- IsReported: told behind it, of this block
  told : IsReported sizes (ReferenceDurable 0 ∷ ReferenceOut counters first_bytes 0 ∷ []) 0 (p 512)
  told = inl (refl, inl (refl, says))

  not_told_yet : ¬ IsReported sizes (ReferenceOut counters first_bytes 0 ∷ ReferenceDurable 0 ∷ []) 0 (p 512)
  not_told_yet is = elim is [ inl here ↦ here.1 | inr there ↦ there ]

  told_of_another : ¬ IsReported sizes (ReferenceDurable 1 ∷ ReferenceOut counters first_bytes 0 ∷ []) 0 (p 512)
  told_of_another is = elim is [ inl here ↦ omega (arith, here.0) | inr there ↦ there ]

  told_before : IsReported sizes (ReferenceOut counters later_bytes 0 ∷ ReferenceDurable 0 ∷ ReferenceOut counters first_bytes 0 ∷ []) 0 (p 512)
  told_before = told
