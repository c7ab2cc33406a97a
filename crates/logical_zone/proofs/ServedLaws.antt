-- What a rule of a logical zone serves, the zone can serve.
use Rattle.std.proofs.Common.{◌≡◌, refl, Option, List, [], ◌∷◌, sym, ◌∙◌, subst}
use Rattle.std.proofs.lemmas.Option.{same_Some}
use Rattle.blk_base.specs.declared.place.Mapping.{Mapping}
use Rattle.data_vio.specs.declared.items.Item.TheVariants as item
use Rattle.data_vio.specs.declared.items.Vio.{Vio}
use Rattle.data_vio.specs.declared.logged.Remapping.{Remapping}
use Rattle.data_vio.specs.declared.sizes.Sizes.{Sizes}
use Rattle.core_model.specs.declared.zones.ZoneData.TheVariants as at
use Rattle.core_model.specs.LogicalData.{LogicalZone}
use Rattle.core_model.specs.LogicalRules.{LogicalServes, goes_on, latest_at, looked}
use Rattle.core_model.specs.LogicalRules as logical
use Rattle.core_model.specs.Steps as steps
use Rattle.core_model.specs.Steps.{HasAct}
use Rattle.core_model.specs.Trace.{Trace}
use Rattle.data_vio.specs.Vios.{Post}
use Rattle.logical_zone.specs.Served.{CanServe, GoesOn}

serves : (sizes : Sizes) (old : LogicalZone) (v : Vio) (new : LogicalZone) (made : Trace) (posts : List Post) → LogicalServes sizes old v new made posts → CanServe sizes old v v.phase
serves sizes old v new made posts (logical.arrives_retired p d h1 h2 h3) = subst (CanServe sizes old v) (sym p) tt
serves sizes old v new made posts (logical.arrives_free p d f h1 h2 h3) = subst (CanServe sizes old v) (sym p) tt
serves sizes old v new made posts (logical.arrives_held p d f h1 h2 h3) = subst (CanServe sizes old v) (sym p) tt
serves sizes old v new made posts (logical.looks mapping post p path stays leaf known goes h1 h2 h3) =
    subst (CanServe sizes old v) (sym p) (path, λ again none other known_too. subst (λ (m : Mapping). GoesOn sizes (looked old m v)) (same_Some _ _ (sym known ∙ known_too)) (post, goes))
serves sizes old v new made posts (logical.needs_leaf x p path stays leaf unknown at h1 h2 h3) = subst (CanServe sizes old v) (sym p) (path, λ again none other known. absurd (let both = sym unknown ∙ known in cc))
serves sizes old v new made posts (logical.leafed post p goes h1 h2 h3) = subst (CanServe sizes old v) (sym p) (post, goes)
serves sizes old v new made posts (logical.passes p path past h1 h2 h3) = subst (CanServe sizes old v) (sym p) (path, λ stays none. absurd (let both = sym past ∙ stays in cc))
serves sizes old v new made posts (logical.is_dropped page p path lack dropped h1 h2 h3) = subst (CanServe sizes old v) (sym p) (path, λ stays none. absurd (let both = sym lack ∙ none in cc))
serves sizes old v new made posts (logical.waits page p path lack linkable made_yet h1 h2 h3) = subst (CanServe sizes old v) (sym p) (path, λ stays none. absurd (let both = sym lack ∙ none in cc))
serves sizes old v new made posts (logical.makes_page page p path lack linkable unmade h1 h2 h3) = subst (CanServe sizes old v) (sym p) (path, λ stays none. absurd (let both = sym lack ∙ none in cc))
serves sizes old v new made posts (logical.links page x between p some to may linked h1 h2 h3) = subst (CanServe sizes old v) (sym p) (rw (some, to) may)
serves sizes old v new made posts (logical.settles p bare report h1 h2 h3) = subst (CanServe sizes old v) (sym p) (rw bare tt)
serves sizes old v new made posts (logical.awaits p bare report h1 h2 h3) = subst (CanServe sizes old v) (sym p) (rw bare tt)
serves sizes old v new made posts (logical.unmakes page p some h1 h2 h3) = subst (CanServe sizes old v) (sym p) tt
serves sizes old v new made posts (logical.drops page p some h1 h2 h3) = subst (CanServe sizes old v) (sym p) tt
serves sizes old v new made posts (logical.gives p h1 h2 h3) = subst (CanServe sizes old v) (sym p) tt
serves sizes old v new made posts (logical.aborts p bare h1 h2 h3) = subst (CanServe sizes old v) (sym p) tt
serves sizes old v new made posts (logical.aborts_entered p bare h1 h2 h3) = subst (CanServe sizes old v) (sym p) tt

pub can_serve : (sizes : Sizes) (old : LogicalZone) (v : Vio) → HasAct sizes (at.Logical old) (item.Request v ∷ []) → CanServe sizes old v v.phase
can_serve sizes old v (new, made, posts, steps.serves row) = serves sizes old v _ _ _ row

-- what a request goes on with that knows its mapping, by other names of it
pub looked_goes : (sizes : Sizes) (l : LogicalZone) (v seen w : Vio) (mapping : Mapping) (latest : Option Remapping) (went : Option Post) → seen ≡ v → latest ≡ latest_at l seen.at.0
    → w ≡ record v { old = mapping; latest = latest } → went ≡ goes_on sizes w → goes_on sizes (looked l mapping v) ≡ went
looked_goes sizes l v seen w mapping latest went seen_is latest_is w_is went_is = sym (rw (went_is, w_is, latest_is, seen_is) refl)
