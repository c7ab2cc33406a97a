-- What a logical zone did is an act, and it doesn't call the device.
use Rattle.std.proofs.Common.{◌≡◌, List, [], ◌∷◌, true, refl}
use Rattle.blk_base.specs.declared.place.ZoneId.TheVariants as id
use Rattle.data_vio.specs.declared.items.Item.TheVariants as item
use Rattle.data_vio.specs.declared.items.Vio.{Vio}
use Rattle.data_vio.specs.declared.logged.Remapping.{Remapping}
use Rattle.data_vio.specs.declared.sizes.Sizes.{Sizes}
use Rattle.core_model.specs.declared.zones.ZoneData.TheVariants as at
use Rattle.core_model.specs.LogicalData.{LogicalZone}
use Rattle.core_model.specs.LogicalRules.{LogicalServes, LogicalHears}
use Rattle.core_model.specs.LogicalRules.LogicalHears.{settles as report_settles, keeps as report_keeps}
use Rattle.core_model.specs.LogicalRules.LogicalServes.{arrives_retired, arrives_free, arrives_held, looks, needs_leaf, leafed, passes, is_dropped, waits, makes_page, links, settles, awaits, gives, aborts, unmakes, drops, aborts_entered}
use Rattle.core_model.specs.Steps.Act.{serves, settles as act_settles, serves_notice}
use Rattle.core_model.specs.Trace.{Trace}
use Rattle.data_vio.specs.Vios.{Post}
use Rattle.step_parts.specs.Acts.{ActsAlone}
use Rattle.step_parts.proofs.SilentLaws.{Silent, none_called, silent}

makes_no_call : (sizes : Sizes) (old new : LogicalZone) (v : Vio) (made : Trace) (posts : List Post) → LogicalServes sizes old v new made posts → Silent made
makes_no_call sizes old new v made posts (arrives_retired h1 h2 h3 is h5) = silent _ _ is refl refl refl
makes_no_call sizes old new v made posts (arrives_free h1 h2 h3 h4 is h6) = silent _ _ is refl refl refl
makes_no_call sizes old new v made posts (arrives_held h1 h2 h3 h4 is h6) = silent _ _ is refl refl refl
makes_no_call sizes old new v made posts (looks mapping post h1 h2 h3 h4 h5 h6 h7 is h9) = silent _ _ is refl refl refl
makes_no_call sizes old new v made posts (needs_leaf x h1 h2 h3 h4 h5 h6 h7 is h9) = silent _ _ is refl refl refl
makes_no_call sizes old new v made posts (leafed post h1 h2 h3 is h5) = silent _ _ is refl refl refl
makes_no_call sizes old new v made posts (passes h1 h2 h3 h4 is h6) = silent _ _ is refl refl refl
makes_no_call sizes old new v made posts (is_dropped page h1 h2 h3 h4 h5 is h7) = silent _ _ is refl refl refl
makes_no_call sizes old new v made posts (waits page h1 h2 h3 h4 h5 h6 is h8) = silent _ _ is refl refl refl
makes_no_call sizes old new v made posts (makes_page page h1 h2 h3 h4 h5 h6 is h8) = silent _ _ is refl refl refl
makes_no_call sizes old new v made posts (links page x between h1 h2 h3 h4 h5 h6 is h8) = silent _ _ is refl refl refl
makes_no_call sizes old new v made posts (unmakes page h1 h2 h3 is h5) = silent _ _ is refl refl refl
makes_no_call sizes old new v made posts (drops page h1 h2 h3 is h5) = silent _ _ is refl refl refl
makes_no_call sizes old new v made posts (settles h1 h2 h3 h4 is h6) = silent _ _ is refl refl refl
makes_no_call sizes old new v made posts (awaits h1 h2 h3 h4 is h6) = silent _ _ is refl refl refl
makes_no_call sizes old new v made posts (gives h1 h2 is h4) = silent _ _ is refl refl refl
makes_no_call sizes old new v made posts (aborts h1 h2 h3 is h5) = silent _ _ is refl refl refl
makes_no_call sizes old new v made posts (aborts_entered h1 h2 h3 is h5) = silent _ _ is refl refl refl

pub acts : (sizes : Sizes) (old new : LogicalZone) (v : Vio) (posts : List Post)
    → ((made : Trace) × LogicalServes sizes old v new made posts) → ActsAlone sizes (at.Logical old) (item.Request v ∷ []) (at.Logical new) posts
acts sizes old new v posts (made, row) = (made, serves row, makes_no_call sizes old new v made posts row)

report_makes_no_call : (sizes : Sizes) (old new : LogicalZone) (e : Remapping) (made : Trace) (posts : List Post) → LogicalHears sizes old e new made posts → Silent made
report_makes_no_call sizes old new e made posts (report_settles v h1 h2 is h4) = silent _ _ is refl refl refl
report_makes_no_call sizes old new e made posts (report_keeps h1 h2 is h4) = silent _ _ is refl refl refl

pub reports : (sizes : Sizes) (old new : LogicalZone) (e : Remapping) (posts : List Post)
    → ((made : Trace) × LogicalHears sizes old e new made posts) → ActsAlone sizes (at.Logical old) (item.Report e ∷ []) (at.Logical new) posts
reports sizes old new e posts (made, row) = (made, act_settles row, report_makes_no_call sizes old new e made posts row)

-- it passes the stop notice on
pub hears : (sizes : Sizes) (old new : LogicalZone) (posts : List Post)
    → new ≡ record old { notified = true } → posts ≡ (id.Desk, item.StopNotice) ∷ [] → ActsAlone sizes (at.Logical old) (item.StopNotice ∷ []) (at.Logical new) posts
hears sizes old new posts new_is posts_is = rw (new_is, posts_is) ([], serves_notice, none_called [] refl refl refl)
