-- The entry that a request hands in: of its own address, or of the page that it makes.
use Rattle.std.proofs.Common.{◌≡◌, ℕ, Option, None, Some, refl}
use Rattle.core_laws.proofs.Common.{IsToBlock, Makes, Mapping, Pbn, Remaps, Vio, logged, new_of, remapping}
use Rattle.blk_base.specs.declared.place.Mapping.TheVariants.{Unmapped, Zero, At}
use Rattle.blk_base.specs.declared.place.PageId.{PageId}
use Rattle.data_vio.specs.Vios.{logged_for}
use Rattle.core_laws.proofs.kept.Spared.{address_in, page_named}

pub logged_own : (v : Vio) → v.page ≡ None → logged v ≡ Remaps (remapping v)
logged_own v bare = rw bare refl

pub logged_makes : (v : Vio) (page : PageId) (x : Pbn) → v.page ≡ Some page → v.new ≡ At x → logged v ≡ Makes (record { request = v.request; page = page; at = x })
logged_makes v page x some to = rw (some, to) refl

-- the block of a mapping to one
pub block_at : (m : Mapping) → IsToBlock m → (x : Pbn) × (m ≡ At x)
block_at (At x) some = (x, refl)
block_at other some = absurd some

-- what it names as new is what the request does
pub logged_new : (v : Vio) → new_of (logged v) ≡ v.new
logged_new v = by v.page v.new refl
  where
    by : (o : Option PageId) (m : Mapping) → v.new ≡ m → new_of (logged_for v o m) ≡ m
    by None m is = is
    by (Some page) (At x) is = refl
    by (Some page) Unmapped is = is
    by (Some page) Zero is = is

-- it is about the address of the request, or about none; about the page that it makes, or about none
pub on_address : (Q : Option ℕ → Type 0) (v : Vio) → Q (Some v.at.0) → Q None → Q (address_in (logged v))
on_address Q v own none = by v.page v.new
  where
    by : (o : Option PageId) (m : Mapping) → Q (address_in (logged_for v o m))
    by None m = own
    by (Some page) (At x) = none
    by (Some page) other = own

pub on_page : (Q : Option PageId → Type 0) (v : Vio) → ((page : PageId) → v.page ≡ Some page → Q (Some page)) → Q None → Q (page_named (logged v))
on_page Q v own none = by v.page v.new refl
  where
    by : (o : Option PageId) (m : Mapping) → v.page ≡ o → Q (page_named (logged_for v o m))
    by None m is = none
    by (Some page) (At x) is = own page is
    by (Some page) other is = none
