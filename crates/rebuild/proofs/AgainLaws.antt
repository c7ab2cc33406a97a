-- A second recovery.
use Rattle.std.proofs.Common.{◌≡◌, Result, Ok, Err, refl, ap, inl, inr}
use Rattle.blk_base.specs.declared.geometry.Super.{Super as Superblock}
use Rattle.disk_model.specs.Log.{Blocks}
use Rattle.disk_model.specs.Seen.{Seen}
use Rattle.disk_model.specs.Trust.{Trust}
use Rattle.image_layout.specs.Opened.{super_of_image}
use Rattle.image_layout.specs.declared.fault.SuperFault.{SuperFault}
use Rattle.image_model.specs.Faults.{IsImageFault}
use Rattle.image_model.specs.Sound.{IsSound}
use Rattle.image_model.specs.declared.fault.ImageFault.{ImageFault}
use Rattle.image_model.specs.declared.fault.ImageFault.TheVariants.{Super, Window, Page, Counter, SharedPage, Counts, Device, Unclean, Memory}
use Rattle.rebuild.proofs.FailLaws.{any_failed}
use Rattle.rebuild.proofs.ReadLaws.{still}
use Rattle.rebuild.specs.Again.{FindsClosed, HasClosedImage}
use Rattle.rebuild.specs.Openings.{IsCleanImage}
use Rattle.rebuild.specs.Recoveries.{IsRecovery, IsTold, IsUnclean}
use Rattle.rebuild.specs.declared.forms.Recovered.{Recovered}
use Rattle.rebuild.specs.declared.forms.Recovered.TheVariants.{Clean, Entries}

pub left_closed : (trust : Trust) (before now : Seen) (blocks : Blocks) (recovered : Recovered) → IsTold trust before blocks → IsSound blocks
    → IsRecovery trust before now (Ok recovered) → HasClosedImage trust now
left_closed trust before now blocks Clean is sound first =
    let there = still trust blocks is.told is.fair before now first.answers.3 is.one in
    (blocks, record { told = is.told; fair = is.fair; one = there }, sound, first.says blocks is)
left_closed trust before now blocks (Entries count) is sound first =
    let left = first.closed blocks is sound in
    let kept = left.2.kept.sound in
    (left.0, record { told = is.told; fair = is.fair; one = left.1 }, kept, (kept.head, kept.opens.accepted, ap (λ (h : Superblock). h.clean) left.2.closed))

-- Of a closed image none of the other answers comes.

same_superblock : (blocks : Blocks) (head other : Superblock) → super_of_image blocks ≡ Ok head → super_of_image blocks ≡ Ok other → other ≡ head
same_superblock blocks head other accepted is = cc (is, accepted)

not_both : (blocks : Blocks) → IsCleanImage blocks → IsUnclean blocks → ⊥
not_both blocks (head, accepted, clean) (other, is, unclean) =
    let same = ap (λ (h : Superblock). h.clean) (same_superblock blocks head other accepted is) in absurd (cc (same, unclean, clean))

not_refused : (blocks : Blocks) (fault : SuperFault) → IsCleanImage blocks → IsImageFault blocks (Super fault) → ⊥
not_refused blocks fault (head, accepted, clean) fails = elim fails [
  | inl refused ↦ absurd (cc (accepted, refused))
  | inr full ↦ let at_end = full.1 in not_both blocks (head, accepted, clean) (at_end.head, at_end.accepted, at_end.unclean)
]

found_closed : (trust : Trust) (before now : Seen) (image : Blocks) (result : Result Recovered ImageFault) → IsTold trust before image → IsCleanImage image
    → IsRecovery trust before now result → FindsClosed trust.tells before now result
found_closed trust before now image (Ok Clean) is clean second = (refl, second.answers.3)
found_closed trust before now image (Ok (Entries count)) is clean second =
    let answer = second.says image is in absurd (not_both image clean (answer.0, answer.3.accepted, answer.4))
found_closed trust before now image (Err (Super fault)) is clean second = absurd (not_refused image fault clean (second.says image is))
found_closed trust before now image (Err (Window sequence)) is clean second = absurd (not_both image clean (second.says image is).0)
found_closed trust before now image (Err (Page at fault)) is clean second = absurd (not_both image clean (second.says image is).0)
found_closed trust before now image (Err (Counter at point)) is clean second = absurd (not_both image clean (second.says image is).0)
found_closed trust before now image (Err (SharedPage at)) is clean second = absurd (not_both image clean (second.says image is).0)
found_closed trust before now image (Err Memory) is clean second = absurd (not_both image clean (second.says image is))
found_closed trust before now image (Err Device) is clean second = (refl, any_failed trust.tells before now (second.says image is))
found_closed trust before now image (Err (Counts at stored mapped)) is clean second = absurd (second.says image is)
found_closed trust before now image (Err Unclean) is clean second = absurd (second.says image is)

pub closed_again : (trust : Trust) (before middle now : Seen) (blocks : Blocks) (recovered : Recovered) (result : Result Recovered ImageFault) → IsTold trust before blocks
    → IsSound blocks → IsRecovery trust before middle (Ok recovered) → IsRecovery trust middle now result → FindsClosed trust.tells middle now result
closed_again trust before middle now blocks recovered result is sound first second =
    let left = left_closed trust before middle blocks recovered is sound first in found_closed trust middle now left.0 result left.1 left.3 second
