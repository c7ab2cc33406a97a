-- The pages of the path of an address, one above the other.
use Rattle.std.proofs.Common.{ℕ, suc, ◌+◌, ◌≡◌, ◌/◌, ◌%◌, ◌^◌, ◌∙◌, ap, sym, arith}
use native.Mathlib.Nat.{div-div-eq-div-mul, pow-suc}
use Rattle.blk_base.specs.Pages.{above, page_above}
use Rattle.blk_base.specs.declared.place.PageId.{PageId}
use Rattle.blk_base.specs.declared.sizes.TheConstants.{PAGE_SLOTS, TREES}

-- the page above one of the path of an address is of that path
pub above_path : (level a : ℕ) → above (page_above level a) ≡ page_above (suc level) a
above_path level a =
    let leaf = a / PAGE_SLOTS / TREES in
    ap {B = PageId} (λ n. record { tree = a / PAGE_SLOTS % TREES; level = level + 1; index = n }) (div-div-eq-div-mul leaf (PAGE_SLOTS ^ level) PAGE_SLOTS ∙ ap (λ m. leaf / m) (sym (pow-suc PAGE_SLOTS level)))
    ∙ ap {B = PageId} (λ n. record { tree = a / PAGE_SLOTS % TREES; level = n; index = leaf / PAGE_SLOTS ^ (suc level) }) (omega arith)
