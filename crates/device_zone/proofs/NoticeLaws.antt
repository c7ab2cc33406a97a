-- The stop notices to all zones that pass them on: to the journal, then to the physical zones, then to the logical ones.
use Rattle.std.proofs.Common.{◌≡◌, List, [], ◌∷◌, ◌++◌, refl, ap, sym, ◌∙◌, append_assoc}
use Rattle.blk_base.specs.declared.place.ZoneId.{ZoneId}
use Rattle.blk_base.specs.declared.place.ZoneId.TheVariants as id
use Rattle.data_vio.specs.declared.items.Item.TheVariants as item
use Rattle.data_vio.specs.declared.sizes.Sizes.{Sizes}
use Rattle.data_vio.specs.Vios.{Post}
use Rattle.data_vio.specs.Zones.{logical_zones, notified, physical_zones}
use Rattle.core_model.specs.DeviceRules.{stop_notices}

notices_over : (first others : List ZoneId) → stop_notices (first ++ others) ≡ stop_notices first ++ stop_notices others
notices_over [] others = refl
notices_over (to ∷ first) others = ap (λ (ps : List Post). (to, item.StopNotice) ∷ ps) (notices_over first others)

pub all_told : (sizes : Sizes) (posts journal physical all : List Post) → journal ≡ posts ++ (id.Journal, item.StopNotice) ∷ []
    → physical ≡ journal ++ stop_notices (physical_zones sizes.physical) → all ≡ physical ++ stop_notices (logical_zones sizes.zones) → all ≡ posts ++ stop_notices (notified sizes)
all_told sizes posts journal physical all journal_is physical_is all_is =
    let ps = stop_notices (physical_zones sizes.physical) in
    let ls = stop_notices (logical_zones sizes.zones) in
    let first : List Post = (id.Journal, item.StopNotice) ∷ [] in
    all_is
    ∙ ap (λ (qs : List Post). qs ++ ls) (physical_is ∙ ap (λ (qs : List Post). qs ++ ps) journal_is)
    ∙ append_assoc (posts ++ first) ps ls
    ∙ append_assoc posts first (ps ++ ls)
    ∙ ap (λ (qs : List Post). posts ++ (id.Journal, item.StopNotice) ∷ qs) (sym (notices_over (physical_zones sizes.physical) (logical_zones sizes.zones)))
