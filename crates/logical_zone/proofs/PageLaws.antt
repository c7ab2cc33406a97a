-- What a logical zone has of pages, over a lock that is released, and for a page that may be linked.
use Rattle.std.proofs.Common.{ℕ, ◌≡◌, ◌≤◌, Option, None, Some, length, refl, subst, arith}
use Rattle.blk_base.specs.declared.place.Mapping.{Mapping}
use Rattle.blk_base.specs.declared.place.Mapping.TheVariants.{At}
use Rattle.blk_base.specs.declared.place.PageId.{PageId}
use Rattle.blk_base.specs.declared.place.Pbn.{Pbn}
use Rattle.data_vio.specs.declared.items.Vio.{Vio}
use Rattle.core_model.specs.LogicalData.{LogicalZone}
use Rattle.core_model.specs.LogicalRules.{first_for, granted, passed_to, passes_on, released}
use Rattle.core_model.specs.PageTrees.{MayLink}
use Rattle.logical_zone.specs.Served.{CanSettle, IsToBlock}

pub may_link_at : (l : LogicalZone) (page : PageId) (new : Mapping) (x : Pbn) → CanSettle l (Some page) new → new ≡ At x → MayLink l.tree page x
may_link_at l page new x can is = subst (CanSettle l (Some page)) is can

pub settles_to_block : (l : LogicalZone) (page : PageId) (new : Mapping) → CanSettle l (Some page) new → IsToBlock new
settles_to_block l page (At x) can = tt
settles_to_block l page other can = absurd can

pub can_settle : (l : LogicalZone) (page : PageId) (o : Option PageId) (new : Mapping) → o ≡ Some page → CanSettle l o new → CanSettle l (Some page) new
can_settle l page o new is can = subst (λ (p : Option PageId). CanSettle l p new) is can

-- whose lock is released leaves who waits for a page, and the pages
pub released_lacking : (a : ℕ) (l : LogicalZone) → (released a l).lacking ≡ l.lacking
released_lacking a l = by (first_for a l.waiting)
  where
    by : (o : Option Vio) → (passed_to a l o).lacking ≡ l.lacking
    by None = refl
    by (Some v) = refl

pub released_unlinkable : (a : ℕ) (l : LogicalZone) → (released a l).unlinkable ≡ l.unlinkable
released_unlinkable a l = by (first_for a l.waiting)
  where
    by : (o : Option Vio) → (passed_to a l o).unlinkable ≡ l.unlinkable
    by None = refl
    by (Some v) = refl

pub granted_few : (a : ℕ) (l : LogicalZone) → length (granted a l) ≤ 1
granted_few a l = by (first_for a l.waiting)
  where
    by : (o : Option Vio) → length (passes_on o) ≤ 1
    by None = omega arith
    by (Some v) = omega arith
