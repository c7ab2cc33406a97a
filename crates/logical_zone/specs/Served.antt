-- What a logical zone can serve.
use Rattle.std.specs.Prelude.{⊤, ◌≡◌, Option, None, Some, false}
use Rattle.blk_base.specs.declared.place.Mapping.{Mapping}
use Rattle.blk_base.specs.declared.place.Mapping.TheVariants.{At}
use Rattle.blk_base.specs.declared.place.PageId.{PageId}
use Rattle.data_vio.specs.declared.items.Phase.{Phase}
use Rattle.data_vio.specs.declared.items.Phase.TheVariants as phase
use Rattle.data_vio.specs.declared.items.Vio.{Vio}
use Rattle.data_vio.specs.declared.sizes.Sizes.{Sizes}
use Rattle.core_model.specs.LogicalData.{LogicalZone}
use Rattle.core_model.specs.LogicalRules.{goes_on, known_at, lacks, looked, passes_by}
use Rattle.core_model.specs.PageTrees.{HasPath, MayLink}
use Rattle.data_vio.specs.Vios.{Post}

-- a request that knows what is mapped at its address goes on; and one that has the lock of its address, whatever is known of that
abbrev pub GoesOn : Sizes → Vio → Type 0
GoesOn sizes v = (post : Post) × (goes_on sizes v ≡ Some post)

abbrev pub GoesWithAll : Sizes → LogicalZone → Vio → Type 0
GoesWithAll sizes l v = (mapping : Mapping) → known_at l v.at.0 ≡ Some mapping → GoesOn sizes (looked l mapping v)

-- a mapping to a block
abbrev pub IsToBlock : Mapping → Type 0
IsToBlock (At x) = ⊤
IsToBlock other = ⊥

-- one whose entry is committed: the page that it made may be linked
abbrev pub CanSettle : LogicalZone → Option PageId → Mapping → Type 0
CanSettle l None new = ⊤
CanSettle l (Some page) (At x) = MayLink l.tree page x
CanSettle l (Some page) other = ⊥

-- A request in this phase can be served: one that looks its mapping up has its path in the zone's trees, and passes, or lacks a
-- page, or goes on with the lock of its address, where it knows its mapping.
abbrev pub CanServe : Sizes → LogicalZone → Vio → Phase → Type 0
CanServe sizes l v phase.Arrive = ⊤
CanServe sizes l v phase.Look = HasPath l.tree v.at.0 × (passes_by l v ≡ false → lacks l v ≡ None → GoesWithAll sizes l v)
CanServe sizes l v phase.LoadedLeaf = GoesOn sizes v
CanServe sizes l v phase.Settle = CanSettle l v.page v.new
CanServe sizes l v phase.Loaded = ⊤
CanServe sizes l v phase.Abort = ⊤
CanServe sizes l v phase.AbortEntered = ⊤
CanServe sizes l v other = ⊥
