-- What is asked of an honest device's image that grows.
use Rattle.std.proofs.Common.{ℕ, ◌≡◌, ◌<◌, ◌≤◌, List, Result, Ok, Err, OnOk, ap, subst, arith}
use Rattle.blk_base.specs.declared.geometry.Super.{Super}
use Rattle.blk_base.specs.declared.journal_entry.CommittedEntry.{CommittedEntry}
use Rattle.blk_base.specs.declared.place.Mapping.TheVariants.{Unmapped}
use Rattle.disk_model.specs.Log.{Blocks}
use Rattle.disk_model.specs.Seen.{Seen}
use Rattle.disk_model.specs.Trust.{Trust}
use Rattle.grow_image.specs.Growth.{IsGrowing, IsResult}
use Rattle.grow_image.specs.Kept.{AreUnmapped}
use Rattle.grow_image.specs.declared.fault.GrowFault.{GrowFault}
use Rattle.grow_image.specs.declared.forms.Grown.{Grown}
use Rattle.image_layout.specs.Opened.{super_of_image}
use Rattle.image_model.specs.Maps.{Image, mapping_of}
use Rattle.image_model.specs.Sound.{Opens, image_of}
use Rattle.rebuild.specs.Recoveries.{IsTold}
use Rattle.format_guards.proofs.RecoveryFacts.{one_head}

pub no_fewer_slabs : (trust : Trust) (logical slabs : ℕ) (before now : Seen) (result : Result Grown GrowFault) → IsGrowing trust logical slabs before now result
    → OnOk result ((blocks : Blocks) (head : Super) → IsTold trust before blocks → super_of_image blocks ≡ Ok head → slabs < head.geometry.slabs → ⊥)
no_fewer_slabs trust logical slabs before now (Ok grown) is = λ blocks head told accepted less.
    let said : IsResult blocks logical slabs before now (Ok grown) = is.says blocks told in
    let same = ap (λ (h : Super). h.geometry.slabs) (one_head blocks said.0 head said.2.opens.accepted accepted) in
    let more = said.3.0.more.slabs_more in
    omega (arith, same, more, less)
no_fewer_slabs trust logical slabs before now (Err why) is = tt

pub none_mapped : (trust : Trust) (logical slabs : ℕ) (before now : Seen) (result : Result Grown GrowFault) → IsGrowing trust logical slabs before now result
    → OnOk result ((blocks : Blocks) (address : ℕ) → IsTold trust before blocks → address < logical
    → ((head : Super) (last : ℕ) (window : List CommittedEntry) → Opens blocks head last window → head.geometry.logical ≤ address)
    → ((head : Super) (last : ℕ) (window : List CommittedEntry) → Opens blocks head last window → mapping_of (image_of head blocks window) address ≡ Unmapped → ⊥) → ⊥)
none_mapped trust logical slabs before now (Ok grown) is = λ blocks address told below behind mapped.
    let said : IsResult blocks logical slabs before now (Ok grown) = is.says blocks told in
    let none = said.2 in
    let unmapped : AreUnmapped (image_of said.0 blocks said.1.window) logical = subst (λ (i : Image). AreUnmapped i logical) none.is_image said.3.1 in
    mapped said.0 none.last said.1.window none.opens (unmapped address (behind said.0 none.last said.1.window none.opens) below)
none_mapped trust logical slabs before now (Err why) is = tt
