-- What the journal did is an act, and it doesn't call the device.
use Rattle.std.proofs.Common.{◌≡◌, List, [], ◌∷◌, ◌++◌, true, refl, sym, ◌∙◌, ap}
use Rattle.blk_base.specs.declared.place.ZoneId.TheVariants as id
use Rattle.blk_base.specs.declared.request.Answer.TheVariants.{Stopped}
use Rattle.data_vio.specs.declared.items.Item.TheVariants as item
use Rattle.data_vio.specs.declared.items.SealedBlock.{SealedBlock}
use Rattle.data_vio.specs.declared.items.Stage.TheVariants as stage
use Rattle.data_vio.specs.declared.items.Vio.{Vio}
use Rattle.data_vio.specs.declared.sizes.Sizes.{Sizes}
use Rattle.core_model.specs.declared.zones.ZoneData.TheVariants as at
use Rattle.core_model.specs.JournalData.{JournalZone}
use Rattle.core_model.specs.JournalRules.{HasNext, IsDue, JournalServes, JournalEnds, all_again, all_refused, committed_by, hands_out, next_block, sealed_by}
use Rattle.core_model.specs.JournalRules.JournalServes.{is_stopped, waits, is_full, enters as hands_in, enters_first}
use Rattle.core_model.specs.JournalRules.JournalEnds.{commits, seals, rests, fails}
use Rattle.core_model.specs.Steps.{HasAct}
use Rattle.data_vio.specs.declared.items.Phase.TheVariants.{Enter}
use Rattle.core_model.specs.Steps.Act.{enters, ends, enters_notice}
use Rattle.core_model.specs.Trace.{Commits, Seals, Trace}
use Rattle.data_vio.specs.Vios.{Post, logged}
use Rattle.step_parts.specs.Acts.{ActsAlone}
use Rattle.step_parts.specs.Rules.{Applies}
use Rattle.step_parts.proofs.SilentLaws.{Silent, none_called, silent}

serves_silently : (sizes : Sizes) (old new : JournalZone) (v : Vio) (made : Trace) (posts : List Post) → JournalServes sizes old v new made posts → Silent made
serves_silently sizes old new v made posts (is_stopped h1 h2 h3 is h5) = silent _ _ is refl refl refl
serves_silently sizes old new v made posts (is_full h1 h2 h3 h4 is h6) = silent _ _ is refl refl refl
serves_silently sizes old new v made posts (waits h1 h2 h3 h4 h5 is h7) = silent _ _ is refl refl refl
serves_silently sizes old new v made posts (hands_in h1 h2 h3 h4 h5 h6 is h8) = silent _ _ is refl refl refl
serves_silently sizes old new v made posts (enters_first h1 h2 h3 h4 h5 h6 is h8) = silent _ _ is refl refl refl

pub acts : (sizes : Sizes) (old new : JournalZone) (v : Vio) (posts : List Post)
    → ((made : Trace) × JournalServes sizes old v new made posts) → ActsAlone sizes (at.Journal old) (item.Request v ∷ []) (at.Journal new) posts
acts sizes old new v posts (made, row) = (made, enters row, serves_silently sizes old new v made posts row)

ends_silently : (sizes : Sizes) (old new : JournalZone) (b : SealedBlock) (made : Trace) (posts : List Post) → JournalEnds sizes old b new made posts → Silent made
ends_silently sizes old new b made posts (commits v vs h1 h2 h3 h4 is h6) = silent _ _ is refl refl refl
ends_silently sizes old new b made posts (seals v vs h1 h2 h3 h4 h5 is h7) = silent _ _ is refl refl refl
ends_silently sizes old new b made posts (rests h1 h2 h3 h4 is h6) = silent _ _ is refl refl refl
ends_silently sizes old new b made posts (fails h1 h2 is h4) = silent _ _ is refl refl refl

pub ends_block : (sizes : Sizes) (old new : JournalZone) (b : SealedBlock) (posts : List Post)
    → ((made : Trace) × JournalEnds sizes old b new made posts) → ActsAlone sizes (at.Journal old) (item.Block b ∷ []) (at.Journal new) posts
ends_block sizes old new b posts (made, row) = (made, ends row, ends_silently sizes old new b made posts row)

-- it passes the stop notice on, and refuses those that wait
pub hears : (sizes : Sizes) (old new : JournalZone) (posts : List Post)
    → new ≡ record old { notified = true; waiting = [] } → posts ≡ (id.Desk, item.StopNotice) ∷ all_refused sizes Stopped old.waiting
    → ActsAlone sizes (at.Journal old) (item.StopNotice ∷ []) (at.Journal new) posts
hears sizes old new posts new_is posts_is = rw (new_is, posts_is) ([], enters_notice, none_called [] refl refl refl)

-- an act on a request is by a rule that serves it, and one on a block by one that ends it
pub enters_now : (sizes : Sizes) (old : JournalZone) (v : Vio) → HasAct sizes (at.Journal old) (item.Request v ∷ []) → v.phase ≡ Enter
enters_now sizes old v (new, made, posts, enters (is_stopped is h2 h3 h4 h5)) = is
enters_now sizes old v (new, made, posts, enters (is_full is h2 h3 h4 h5 h6)) = is
enters_now sizes old v (new, made, posts, enters (waits is h2 h3 h4 h5 h6 h7)) = is
enters_now sizes old v (new, made, posts, enters (hands_in is h2 h3 h4 h5 h6 h7 h8)) = is
enters_now sizes old v (new, made, posts, enters (enters_first is h2 h3 h4 h5 h6 h7 h8)) = is

pub ended : (sizes : Sizes) (old : JournalZone) (b : SealedBlock) → HasAct sizes (at.Journal old) (item.Block b ∷ []) → Applies (JournalEnds sizes old b)
ended sizes old b (new, made, posts, ends row) = (_, _, _, row)

-- The oldest entry of a block is committed where the log has one to hand out, and by no rule else.
module _ (sizes : Sizes) (old : JournalZone) (b : SealedBlock) (is : b.stage ≡ stage.Commit) where
  module _ (v : Vio) (vs : List Vio) (are : b.vios ≡ v ∷ vs) where
    pub commits_next : (new : JournalZone) (posts : List Post) → HasNext old.log → new ≡ committed_by v old
        → posts ≡ hands_out sizes v ++ (id.Journal, item.Block (record b { vios = vs })) ∷ [] → (made : Trace) × JournalEnds sizes old b new made posts
    commits_next new posts next new_is posts_is = (Commits (logged v) ∷ [], commits v vs is are next new_is refl posts_is)

    pub has_next : Applies (JournalEnds sizes old b) → HasNext old.log
    has_next (new, made, posts, commits u us h1 h2 next h4 h5 h6) = next
    has_next (new, made, posts, seals u us h1 done h3 h4 h5 h6 h7) = absurd (let both : [] ≡ v ∷ vs = sym done ∙ are in cc)
    has_next (new, made, posts, rests h1 done h3 h4 h5 h6) = absurd (let both : [] ≡ v ∷ vs = sym done ∙ are in cc)
    has_next (new, made, posts, fails failed h2 h3 h4) = absurd (let both : stage.Commit ≡ stage.Fail = sym is ∙ failed in cc)

  -- and the next one is sealed where it is due
  module _ (done : b.vios ≡ []) (v : Vio) (vs : List Vio) (filling : old.filling ≡ v ∷ vs) where
    pub seals_next : (new : JournalZone) (posts : List Post) → IsDue old → new ≡ sealed_by old
        → posts ≡ (id.Device, item.Block (next_block old stage.Cover old.filling)) ∷ all_again old.waiting → (made : Trace) × JournalEnds sizes old b new made posts
    seals_next new posts due new_is posts_is = (
      Seals ∷ [],
      seals v vs is done filling due new_is refl (posts_is ∙ ap (λ (us : List Vio). (id.Device, item.Block (next_block old stage.Cover us)) ∷ all_again old.waiting) filling),
    )

    pub is_due : Applies (JournalEnds sizes old b) → IsDue old
    is_due (new, made, posts, commits u us h1 some h3 h4 h5 h6) = absurd (let both : [] ≡ u ∷ us = sym done ∙ some in cc)
    is_due (new, made, posts, seals u us h1 h2 h3 due h5 h6 h7) = due
    is_due (new, made, posts, rests h1 h2 unfilled h4 h5 h6) = absurd (let both : [] ≡ v ∷ vs = sym unfilled ∙ filling in cc)
    is_due (new, made, posts, fails failed h2 h3 h4) = absurd (let both : stage.Commit ≡ stage.Fail = sym is ∙ failed in cc)
