-- What the desk did is an act, and it doesn't call the device.
use Rattle.std.proofs.Common.{◌≡◌, IsSome, List, [], ◌∷◌, refl}
use Rattle.plain_laws.proofs.OptionLaws.{some_is}
use Rattle.blk_base.specs.declared.request.Answer.TheVariants.{NoSpace, Ok}
use Rattle.data_vio.specs.declared.items.Phase.TheVariants.{Reply}
use Rattle.data_vio.specs.declared.items.Item.TheVariants as item
use Rattle.data_vio.specs.declared.items.Vio.{Vio}
use Rattle.data_vio.specs.declared.sizes.Sizes.{Sizes}
use Rattle.core_model.specs.declared.zones.ZoneData.TheVariants as at
use Rattle.core_model.specs.DeskData.{Desk}
use Rattle.core_model.specs.DeskRules.{DeskBegins, DeskServes, with_notice, woken}
use Rattle.core_model.specs.DeskRules.DeskBegins.{answers as answers_at_once, sends}
use Rattle.core_model.specs.DeskRules.DeskServes.{parks, answers, marks, lacks}
use Rattle.core_model.specs.Steps.{HasAct}
use Rattle.core_model.specs.Steps.Act.{begins as begins_one, answers as serves, hears as hears_notice}
use Rattle.core_model.specs.Trace.{Trace}
use Rattle.data_vio.specs.Vios.{Post}
use Rattle.step_parts.specs.Acts.{ActsAlone}
use Rattle.step_parts.proofs.SilentLaws.{Silent, none_called, silent}

serves_silently : (sizes : Sizes) (old new : Desk) (v : Vio) (made : Trace) (posts : List Post) → DeskServes sizes old v new made posts → Silent made
serves_silently sizes old new v made posts (parks a h1 h2 h3 h4 h5 is h7) = silent _ _ is refl refl refl
serves_silently sizes old new v made posts (answers a h1 h2 h3 h4 h5 h6 is h8) = silent _ _ is refl refl refl
serves_silently sizes old new v made posts (marks h1 h2 h3 h4 is h6) = silent _ _ is refl refl refl
serves_silently sizes old new v made posts (lacks h1 h2 h3 is h5) = silent _ _ is refl refl refl

pub acts : (sizes : Sizes) (old new : Desk) (v : Vio) (posts : List Post)
    → ((made : Trace) × DeskServes sizes old v new made posts) → ActsAlone sizes (at.Desk old) (item.Request v ∷ []) (at.Desk new) posts
acts sizes old new v posts (made, row) = (made, serves row, serves_silently sizes old new v made posts row)

pub hears : (sizes : Sizes) (old new : Desk) (posts : List Post)
    → new ≡ with_notice old → posts ≡ woken old.parked → ActsAlone sizes (at.Desk old) (item.StopNotice ∷ []) (at.Desk new) posts
hears sizes old new posts new_is posts_is = rw (new_is, posts_is) ([], hears_notice, none_called [] refl refl refl)

begins_silently : (sizes : Sizes) (old new : Desk) (made : Trace) (posts : List Post) → DeskBegins sizes old new made posts → Silent made
begins_silently sizes old new made posts (answers_at_once w r v a h1 h2 h3 h4 h5 is h7) = silent _ _ is refl refl refl
begins_silently sizes old new made posts (sends w r v h1 h2 h3 h4 h5 is h7) = silent _ _ is refl refl refl

pub begins : (sizes : Sizes) (old new : Desk) (posts : List Post)
    → ((made : Trace) × DeskBegins sizes old new made posts) → ActsAlone sizes (at.Desk old) [] (at.Desk new) posts
begins sizes old new posts (made, row) = (made, begins_one row, begins_silently sizes old new made posts row)

-- a request that a rule serves comes back with its answer
pub comes_back : (sizes : Sizes) (old : Desk) (v : Vio) → HasAct sizes (at.Desk old) (item.Request v ∷ []) → (v.phase ≡ Reply) × IsSome v.answer
comes_back sizes old v (new, made, posts, serves (parks a is given h3 h4 h5 h6 h7)) = (is, some_is v.answer a given)
comes_back sizes old v (new, made, posts, serves (answers a is given h3 h4 h5 h6 h7 h8)) = (is, some_is v.answer a given)
comes_back sizes old v (new, made, posts, serves (marks is h2 given h4 h5 h6)) = (is, some_is v.answer Ok given)
comes_back sizes old v (new, made, posts, serves (lacks is given h3 h4 h5)) = (is, some_is v.answer NoSpace given)
