-- What the physical zone did is an act, and it doesn't call the device.
use Rattle.std.proofs.Common.{◌≡◌, List, [], ◌∷◌, true, refl, subst}
use Rattle.blk_base.specs.declared.place.Pbn.{Pbn}
use Rattle.blk_base.specs.declared.place.Mapping.TheVariants.{At}
use Rattle.blk_base.specs.declared.place.ZoneId.TheVariants as id
use Rattle.data_vio.specs.declared.items.Item.TheVariants as item
use Rattle.data_vio.specs.declared.items.Vio.{Vio}
use Rattle.data_vio.specs.declared.logged.Remapping.{Remapping}
use Rattle.data_vio.specs.declared.sizes.Sizes.{Sizes}
use Rattle.core_model.specs.declared.zones.ZoneData.TheVariants as at
use Rattle.core_model.specs.declared.zones.PhysicalZone.{PhysicalZone}
use Rattle.core_model.specs.PhysicalRules.{PhysicalServes, PhysicalTakes}
use Rattle.core_model.specs.PhysicalRules.PhysicalServes.{asks, claims, counts, drops, drops_block, drops_none, has_none, spends, takes_block}
use Rattle.core_model.specs.PhysicalRules.PhysicalTakes.{removes, is_stray}
use Rattle.core_model.specs.Steps.{HasAct}
use Rattle.core_model.specs.Steps.Act.{takes, takes_notice, updates}
use Rattle.core_model.specs.Trace.{Trace}
use Rattle.data_vio.specs.Vios.{Post}
use Rattle.step_parts.specs.Acts.{ActsAlone}
use Rattle.step_parts.specs.Rules.{Applies}
use Rattle.step_parts.proofs.SilentLaws.{Silent, none_called, silent}
use Rattle.zone_counts.specs.Zone.{IsOfZone}

serves_silently : (sizes : Sizes) (old new : PhysicalZone) (v : Vio) (made : Trace) (posts : List Post) → PhysicalServes sizes old v new made posts → Silent made
serves_silently sizes old new v made posts (claims x z h1 h2 h3 is h5) = silent _ _ is refl refl refl
serves_silently sizes old new v made posts (asks k b z h1 h2 h3 h4 h5 is h7) = silent _ _ is refl refl refl
serves_silently sizes old new v made posts (takes_block k others x b z h1 h2 h3 h4 h5 h6 is h8) = silent _ _ is refl refl refl
serves_silently sizes old new v made posts (drops_block k others x y b m z h1 h2 h3 h4 h5 h6 change h8 is h10) = silent _ _ is refl refl refl
serves_silently sizes old new v made posts (has_none k others receipt b z h1 h2 h3 h4 h5 is h7) = silent _ _ is refl refl refl
serves_silently sizes old new v made posts (counts x slab z h1 h2 h3 h4 h5 h6 is h8) = silent _ _ is refl refl refl
serves_silently sizes old new v made posts (drops x z h1 h2 h3 h4 h5 is h7) = silent _ _ is refl refl refl
serves_silently sizes old new v made posts (drops_none h1 h2 h3 is h5) = silent _ _ is refl refl refl
serves_silently sizes old new v made posts (spends h1 h2 is h4) = silent _ _ is refl refl refl

pub acts : (sizes : Sizes) (old new : PhysicalZone) (v : Vio) (posts : List Post)
    → ((made : Trace) × PhysicalServes sizes old v new made posts) → ActsAlone sizes (at.Physical old) (item.Request v ∷ []) (at.Physical new) posts
acts sizes old new v posts (made, row) = (made, takes row, serves_silently sizes old new v made posts row)

takes_silently : (sizes : Sizes) (old new : PhysicalZone) (e : Remapping) (made : Trace) (posts : List Post) → PhysicalTakes sizes old e new made posts → Silent made
takes_silently sizes old new e made posts (removes x slab z h1 h2 h3 h4 h5 is h7) = silent _ _ is refl refl refl
takes_silently sizes old new e made posts (is_stray x h1 h2 h3 h4 is h6) = silent _ _ is refl refl refl

pub takes_update : (sizes : Sizes) (old new : PhysicalZone) (e : Remapping) (posts : List Post)
    → ((made : Trace) × PhysicalTakes sizes old e new made posts) → ActsAlone sizes (at.Physical old) (item.Decrement e ∷ []) (at.Physical new) posts
takes_update sizes old new e posts (made, row) = (made, updates row, takes_silently sizes old new e made posts row)

-- it passes the stop notice on
pub hears : (sizes : Sizes) (old new : PhysicalZone) (posts : List Post)
    → new ≡ record old { notified = true } → posts ≡ (id.Desk, item.StopNotice) ∷ [] → ActsAlone sizes (at.Physical old) (item.StopNotice ∷ []) (at.Physical new) posts
hears sizes old new posts new_is posts_is = rw (new_is, posts_is) ([], takes_notice, none_called [] refl refl refl)

-- an act on a request is by a rule that serves it, and one on a decrement by one that takes it
pub served : (sizes : Sizes) (old : PhysicalZone) (v : Vio) → HasAct sizes (at.Physical old) (item.Request v ∷ []) → Applies (PhysicalServes sizes old v)
served sizes old v (new, made, posts, takes row) = (_, _, _, row)

pub taken : (sizes : Sizes) (old : PhysicalZone) (e : Remapping) → HasAct sizes (at.Physical old) (item.Decrement e ∷ []) → Applies (PhysicalTakes sizes old e)
taken sizes old e (new, made, posts, updates row) = (_, _, _, row)

-- the block of a decrement is one of the zone
pub is_own : (sizes : Sizes) (old : PhysicalZone) (e : Remapping) (x : Pbn) → e.old ≡ At x → Applies (PhysicalTakes sizes old e) → IsOfZone old.counts x
is_own sizes old e x at_x (new, made, posts, removes y slab z at_y own h3 h4 h5 h6 h7) = let same : y ≡ x = cc in subst (λ (b : Pbn). IsOfZone old.counts b) same own
is_own sizes old e x at_x (new, made, posts, is_stray y at_y own h3 h4 h5 h6) = let same : y ≡ x = cc in subst (λ (b : Pbn). IsOfZone old.counts b) same own
