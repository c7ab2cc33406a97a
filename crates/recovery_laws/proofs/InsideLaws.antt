-- Each call of recovery that writes does so inside the image.
use Rattle.std.proofs.Common.{ℕ, ◌≡◌, ◌⊎◌, ◌<◌, ◌^◌, true, false, List, [], ◌∷◌, sym, subst, inl, inr}
use Rattle.std.specs.List.{AllByRecursion}
use Rattle.blk_base.specs.Regions.{ReferenceBlock, Superblock, needed_blocks}
use Rattle.blk_base.proofs.RegionLaws.{inside}
use Rattle.blk_base.specs.declared.geometry.Geometry.{Geometry}
use Rattle.disk_model.specs.declared.call.Call.{Call}
use Rattle.disk_model.specs.declared.call.Call.TheVariants.{Read, Write, Flush}
use Rattle.disk_model.specs.Log.{Blocks}
use Rattle.disk_model.specs.Since.{OnlyReads}
use Rattle.image_format.specs.Runs.{as_failed}
use Rattle.image_model.specs.Sound.{IsSound}
use Rattle.recovery_laws.specs.Calls.{ArePuts, IsPut, recovery_calls}
use Rattle.recovery_laws.specs.Kept.{AreInside, WritesBelow, image_in}
use Rattle.recovery_laws.specs.Recoverable.{sound_recoverable}
use Rattle.recovery_laws.proofs.StopLaws.{page_below}

pub failed_below : (end : ℕ) (call : Call) → WritesBelow end call → WritesBelow end (as_failed call)
failed_below end (Read _ _ _) below = tt
failed_below end (Write at bytes ok) below = below
failed_below end (Flush _) below = tt

pub reads_below : (end : ℕ) (reads : List Call) → OnlyReads reads → AllByRecursion (WritesBelow end) reads
reads_below end [] only = tt
reads_below end (Read at bytes ok ∷ older) only = (tt, reads_below end older only)
reads_below end (Write at bytes ok ∷ older) only = absurd only
reads_below end (Flush ok ∷ older) only = absurd only

module _ (blocks : Blocks) (sound : IsSound blocks) (named : sound.head.geometry.nonce < 2 ^ 64) where
  abbrev g : Geometry
  g = sound.head.geometry

  put_below : (call : Call) → IsPut (image_in blocks sound) call → WritesBelow (needed_blocks g) call
  put_below (Read _ _ _) is = tt
  put_below (Write at bytes true) is = elim is.1 [
    | inl page ↦ page_below blocks (sound_recoverable blocks sound) named page.0 at page.1
    | inr counters ↦ subst (λ (b : ℕ). b < needed_blocks g) counters.stands (inside g (ReferenceBlock counters.slab counters.i) counters.inside)
  ]
  put_below (Write at bytes false) is = absurd is
  put_below (Flush _) is = absurd is

  pub puts_below : (calls : List Call) → AllByRecursion (IsPut (image_in blocks sound)) calls → AreInside g calls
  puts_below [] each = tt
  puts_below (call ∷ calls) each = (put_below call each.0, puts_below calls each.1)

  pub cut_below : (call : Call) → IsPut (image_in blocks sound) call ⊎ (call ≡ Flush true) → WritesBelow (needed_blocks g) (as_failed call)
  cut_below call (inl is) = failed_below (needed_blocks g) call (put_below call is)
  cut_below call (inr is) = subst (λ (other : Call). WritesBelow (needed_blocks g) (as_failed other)) (sym is) tt

  pub all_below : (puts : List Call) → ArePuts (image_in blocks sound) puts → AreInside g (recovery_calls (image_in blocks sound) sound.last puts)
  all_below puts are = (tt, (inside g Superblock tt, (tt, puts_below puts are.each)))
