-- Each call of recovery writes to block 0 the old superblock, or the one that recovery writes.
use Rattle.std.proofs.Common.{ℕ, ◌≡◌, ◌⊎◌, true, false, List, [], ◌∷◌, length, sym, ◌∙◌, subst, inl, inr, arith}
use Rattle.std.specs.List.{AllByRecursion}
use Rattle.disk_model.specs.declared.call.Call.{Call}
use Rattle.disk_model.specs.declared.call.Call.TheVariants.{Read, Write, Flush}
use Rattle.disk_model.specs.Log.{Blocks}
use Rattle.image_format.specs.Runs.{as_failed}
use Rattle.image_layout.specs.Superblock.{super_block}
use Rattle.image_layout.proofs.AgainLaws.{written_again}
use Rattle.image_model.proofs.EmptyLaws.{sizes_of_image}
use Rattle.image_model.specs.Sound.{IsSound}
use Rattle.recovery_laws.specs.Calls.{ArePuts, IsPut, recovery_calls}
use Rattle.recovery_laws.specs.Recoverable.{sound_recoverable}
use Rattle.recovery_laws.specs.Kept.{IsHeadKept, IsToRecover, PutsOnly, image_in, recovered_super}
use Rattle.recovery_laws.proofs.SoundLaws.{room}
use Rattle.recovery_laws.proofs.StopLaws.{no_counters_first, no_page_first}

module _ (opening blocks : Blocks) (first : List Call) (to : IsToRecover opening first blocks) where
  abbrev sound : IsSound blocks
  sound = to.sound

  abbrev IsKeptHead : List ℕ → Type 0
  IsKeptHead = IsHeadKept blocks sound

  put_keeps : (call : Call) → IsPut (image_in blocks sound) call → PutsOnly 0 IsKeptHead call
  put_keeps (Read _ _ _) is = tt
  put_keeps (Write at bytes true) is = λ same. elim is.1 [
    | inl page ↦ absurd (no_page_first blocks (sound_recoverable blocks sound) to.named (page.0, at, page.1, same))
    | inr counters ↦ absurd (no_counters_first blocks (sound_recoverable blocks sound) to.named (counters.slab, counters.i, counters.inside, counters.stands ∙ same))
  ]
  put_keeps (Write at bytes false) is = absurd is
  put_keeps (Flush _) is = absurd is

  pub puts_keep : (calls : List Call) → AllByRecursion (IsPut (image_in blocks sound)) calls → AllByRecursion (PutsOnly 0 IsKeptHead) calls
  puts_keep [] each = tt
  puts_keep (call ∷ calls) each = (put_keeps call each.0, puts_keep calls each.1)

  pub all_keep : (puts : List Call) → ArePuts (image_in blocks sound) puts → AllByRecursion (PutsOnly 0 IsKeptHead) (recovery_calls (image_in blocks sound) sound.last puts)
  all_keep puts are =
      let enough = room blocks blocks sound in
      let new : PutsOnly 0 IsKeptHead (Write (record { 0 = 0 }) (super_block (recovered_super sound.head.geometry sound.last)) true) =
      λ same. inr (
        to.unclean,
        written_again (recovered_super sound.head.geometry sound.last) (length blocks) (sizes_of_image blocks sound.head sound.opens.accepted) to.named (omega arith)
            (sound.opens.sequences to.unclean) enough,
      ) in
      (tt, (new, (tt, puts_keep puts are.each)))

  pub failed_keeps : (call : Call) → PutsOnly 0 IsKeptHead call → PutsOnly 0 IsKeptHead (as_failed call)
  failed_keeps (Read _ _ _) is = tt
  failed_keeps (Write at bytes ok) is = is
  failed_keeps (Flush _) is = tt

  pub cut_keeps : (call : Call) → IsPut (image_in blocks sound) call ⊎ (call ≡ Flush true) → PutsOnly 0 IsKeptHead (as_failed call)
  cut_keeps call (inl is) = failed_keeps call (put_keeps call is)
  cut_keeps call (inr is) = subst (λ (other : Call). PutsOnly 0 IsKeptHead (as_failed other)) (sym is) tt
