use Rattle.std.proofs.Common.{ℕ, ◌≡◌, ◌∙◌, IsTrue, true, false, List, [], ◌∷◌, length, Result, Ok, Err, IfOk, IfErr, refl, sym, ap, inl, inr, arith}
use Rattle.blk_base.specs.declared.geometry.Super.{Super as Superblock}
use Rattle.blk_base.specs.declared.place.Pbn.{Pbn}
use Rattle.disk_model.specs.declared.call.Call.{Call}
use Rattle.disk_model.specs.declared.call.Call.TheVariants.{Read}
use Rattle.disk_model.specs.Seen.{Seen}
use Rattle.disk_model.specs.Since.{WereRead}
use Rattle.disk_model.specs.Trust.{Trust}
use Rattle.image_model.specs.declared.fault.ImageFault.{ImageFault}
use Rattle.image_model.specs.declared.fault.ImageFault.TheVariants.{Super, Window, Page, Counter, SharedPage, Counts, Device, Unclean, Memory}
use Rattle.image_opening.specs.Heads.{HeadFails, IsHeadRead}
use Rattle.format_guards.proofs.openings.a_failed_read_is_a_fault_of_the_device.Goals as goal

other_call : (at place : Pbn) (bytes block : List ℕ) (log : List Call) → Read at bytes false ∷ log ≡ Read place block true ∷ log → ⊥
other_call at place bytes block log same = cc

longer : (call : Call) (log : List Call) → call ∷ log ≡ log → ⊥
longer call log same = let size = ap length same in omega (arith, size)

module _ (trust : Trust) (before now : Seen) (told : IsTrue trust.tells) (at : Pbn) (bytes : List ℕ) (failed : now.log ≡ Read at bytes false ∷ before.log) where
  not_read : (block : List ℕ) → WereRead trust 0 before now (block ∷ []) → ⊥
  not_read block read = other_call at (record { 0 = 0 }) bytes block before.log (sym failed ∙ read.logged told)

  answer : (result : Result Superblock ImageFault) → IfOk result (IsHeadRead trust before now) → IfErr result (HeadFails trust before now) → result ≡ Err Device
  answer (Ok head) is fails = absurd (not_read is.block is.read)
  answer (Err (Super fault)) is (inl none) = absurd (longer (Read at bytes false) before.log (sym failed ∙ ap (λ (seen : Seen). seen.log) none.same))
  answer (Err (Super fault)) is (inr refused) = absurd (not_read refused.block refused.read)
  answer (Err Device) is fails = refl
  answer (Err (Window sequence)) is fails = absurd fails
  answer (Err (Page place fault)) is fails = absurd fails
  answer (Err (Counter place point)) is fails = absurd fails
  answer (Err (SharedPage place)) is fails = absurd fails
  answer (Err (Counts place stored mapped)) is fails = absurd fails
  answer (Err Unclean) is fails = absurd fails
  answer (Err Memory) is fails = absurd fails

pub returns : goal.returns
returns g c = λ at bytes failed. answer g.D.Disk.trust (g.D.Disk.seen c.args.device.now) (g.D.Disk.seen c.read_head.new.device) c.requires at bytes failed c.read_head.result c.read_head.ensures.head c.read_head.ensures.fault
