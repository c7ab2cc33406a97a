-- How the writing of a forced rebuild ends: whatever a stop leaves at each moment of it maps the same.
use Rattle.std.proofs.Common.{ℕ, ◌≡◌, ◌<◌, Bool, List, [], ◌∷◌, ◌++◌, Result, Ok, Err, IsErr, length, refl, sym, ◌∙◌, ap, subst, inl, inr, arith, append_assoc}
use Rattle.blk_base.specs.declared.geometry.Geometry.{Geometry}
use Rattle.disk_model.specs.declared.call.Call.{Call}
use Rattle.disk_model.specs.declared.call.Failed.{Failed}
use Rattle.disk_model.specs.Log.{Blocks, block_at}
use Rattle.disk_model.specs.Seen.{Seen}
use Rattle.disk_model.specs.Trust.{Trust}
use Rattle.disk_model.proofs.SeenLaws.{later_on, stays_on}
use Rattle.image_format.specs.Runs.{Makes, OneFailed, WereMade, as_failed}
use Rattle.image_model.specs.Maps.{Image}
use Rattle.rebuild.proofs.ActLaws.{grows_on, made_grows, made_stays}
use Rattle.rebuild.proofs.FailLaws.{failed_on, makes_failed, on_err}
use Rattle.rebuild.specs.Acts.{Acts, AreMade, HasStopped, IsPageCall, page_writing}
use Rattle.rebuild.specs.Done.{ArePagesDone}
use Rattle.force_rebuild.proofs.PageLaws.{pages_start}
use Rattle.force_rebuild.proofs.MomentLaws.{at_last_one, cut_stops, failures, pages_stops, stops}
use Rattle.force_rebuild.specs.Calls.{ArePagePuts, closing_calls, forced_calls}
use Rattle.force_rebuild.specs.Kept.{IsRebuilt}
use Rattle.force_rebuild.specs.Starts.{IsStart, image_at}
use Rattle.force_rebuild.specs.Outcomes.{Ends, IsAllMade, IsKeptSince, WritesAll}
use Rattle.force_rebuild.specs.Written.{AreMappings}
use Rattle.image_model.specs.Looked.{HasOneImageButIndex}

-- At a start.

module _ (trust : Trust) (first : Seen) (blocks : Blocks) (start : IsStart trust first blocks) where
  abbrev image : Image
  image = image_at blocks start

  abbrev last : ℕ
  last = start.is.last

  whole : (b : ℕ) → b < length blocks → length (block_at blocks b) ≡ 4096
  whole b below = start.one.whole b (let size = start.one.size in omega (arith, size, below))

  -- while the pages are written
  pub made_kept : (now : Seen) (calls : List Call) → AreMade (IsPageCall image) first now calls → IsKeptSince image first now
  made_kept now calls made = (calls, made.logged, pages_stops blocks start.is start.named whole first.opening first.log calls start.one made.each)

  pub stopped_kept : (now : Seen) → HasStopped (IsPageCall image) (λ call. ⊥) first now → IsKeptSince image first now
  stopped_kept now stopped =
      let page : IsPageCall image stopped.call = elim stopped.kind [ inl is ↦ is | inr none ↦ absurd none ] in
      elim stopped.logged [
        | inl is ↦
            (as_failed stopped.call ∷ stopped.calls, is, cut_stops blocks start.is start.named whole first.opening first.log stopped.calls stopped.call start.one stopped.each page)
        | inr lost ↦ (stopped.calls, lost.0, pages_stops blocks start.is start.named whole first.opening first.log stopped.calls start.one stopped.each)
      ]

  pub all_kept : (now : Seen) → IsAllMade image last first now → IsKeptSince image first now
  all_kept now all = (
    forced_calls image.geometry last all.counters all.puts,
    all.logged,
    stops blocks start.is start.named whole all.counters all.mappings start.more all.puts all.pages first.opening first.log start.one
        [] (forced_calls image.geometry last all.counters all.puts) refl,
  )

  pub all_rebuilt : (now : Seen) → IsAllMade image last first now → (left : Blocks) × HasOneImageButIndex first.opening now.log left × IsRebuilt image last left
  all_rebuilt now all =
      let is = at_last_one blocks start.is start.named whole all.counters all.mappings start.more all.puts all.pages first.opening first.log start.one in
      (is.0, subst (λ (log : List Call). HasOneImageButIndex first.opening log is.0) (sym all.logged) is.1, is.2)

  -- while it is closed
  module _ (before now : Seen) (puts : List Call) (made : AreMade (IsPageCall image) first before puts) (done : ArePagesDone image puts) (counters : List ℕ) (mappings : AreMappings image counters) where
    abbrev closing : List Call
    closing = closing_calls image.geometry last counters

    pages : ArePagePuts image puts
    pages = record { each = made.each; all = done }

    closed_made : WereMade trust.tells before now closing → IsAllMade image last first now
    closed_made closes = record {
      puts = puts;
      pages = pages;
      counters = counters;
      mappings = mappings;
      logged = closes.logged start.told ∙ ap (λ (log : List Call). closing ++ log) made.logged ∙ sym (append_assoc closing puts first.log);
    }

    closing_failed : OneFailed trust.tells before now closing → IsKeptSince image first now
    closing_failed failed =
        let parts : forced_calls image.geometry last counters puts ≡ failed.newer ++ (failed.call ∷ (failed.done ++ puts)) =
        ap (λ (calls : List Call). calls ++ puts) failed.parts ∙ append_assoc failed.newer (failed.call ∷ failed.done) puts in
        let log : failed.done ++ before.log ≡ (failed.done ++ puts) ++ first.log =
        ap (λ (log : List Call). failed.done ++ log) made.logged ∙ sym (append_assoc failed.done puts first.log) in
        elim (failed.logged start.told) [
          | inl is ↦ (
            as_failed failed.call ∷ (failed.done ++ puts),
            is ∙ ap (λ (l : List Call). as_failed failed.call ∷ l) log,
            failures blocks start.is start.named whole counters mappings start.more puts pages first.opening first.log start.one
                failed.newer (failed.done ++ puts) failed.call parts,
          )
          | inr lost ↦ (
            failed.done ++ puts,
            lost.0 ∙ log,
            stops blocks start.is start.named whole counters mappings start.more puts pages first.opening first.log start.one
                (failed.newer ++ (failed.call ∷ [])) (failed.done ++ puts)
                (parts ∙ sym (append_assoc failed.newer (failed.call ∷ []) (failed.done ++ puts))),
          )
        ]

    pub closes_to : (result : Result (Unit {0}) Failed) → Makes trust.tells before now closing result → Ends image last first now result
    closes_to (Ok _) makes = closed_made makes
    closes_to (Err _) makes = closing_failed makes

-- From each start on.

ends_failed : {T E : Type 0} (image : Image) (last : ℕ) (first now : Seen) (result : Result T E) → IsErr result → IsKeptSince image first now → Ends image last first now result
ends_failed image last first now (Ok _) is kept = absurd (cc is)
ends_failed image last first now (Err _) is kept = kept

pub pages_failed : (trust : Trust) (before now : Seen) (N N' : Image → Type 0) (last : ℕ) (fault : Failed) (result : Result (Unit {0}) Failed) → IsErr result
    → ((image : Image) → N image → N' image) → Acts trust.tells (page_writing trust.honest) before now N' ArePagesDone (Err fault) → WritesAll trust before now N last result
pages_failed trust before now N N' last fault result is needs acts = record {
  stays = acts.stays;
  later = acts.later;
  grows = acts.grows;
  failed = on_err trust.tells before now result acts.failed;
  ends = λ first blocks start calls made has same.
      ends_failed (image_at blocks start) last first now result is
      (stopped_kept trust first blocks start now (acts.writes start.told first (image_at blocks start, pages_start trust first blocks start) calls made (needs (image_at blocks start) has)));
}

module _ (trust : Trust) (before middle now : Seen) (N N' : Image → Type 0) (last : ℕ) (g : Geometry) (counters : List ℕ) where
  pub all_written : (result : Result (Unit {0}) Failed) → ((image : Image) → N image → N' image) → ((image : Image) → N image → image.geometry ≡ g)
      → ((image : Image) → N image → AreMappings image counters) → Acts trust.tells (page_writing trust.honest) before middle N' ArePagesDone (Ok tt)
      → Makes trust.tells middle now (closing_calls g last counters) result → WritesAll trust before now N last result
  all_written result needs sizes mappings acts makes =
      let parts = made_stays trust.tells middle now (closing_calls g last counters) result makes in record {
        stays = stays_on before middle now acts.stays parts.0;
        later = later_on before middle now acts.later parts.1;
        grows = grows_on trust.tells before middle now acts.grows (made_grows trust.tells middle now (closing_calls g last counters) result makes);
        failed = failed_on trust.tells before middle now result acts.later acts.grows (makes_failed trust.tells middle now (closing_calls g last counters) result makes);
        ends = λ first blocks start calls made has same.
            let image = image_at blocks start in
            let went = acts.writes start.told first (image, pages_start trust first blocks start) calls made (needs image has) in
            subst (λ (n : ℕ). Ends image n first now result) same
            (closes_to trust first blocks start middle now (went.0 ++ calls) went.1 went.2 counters (mappings image has) result
            (subst (λ (n : ℕ). Makes trust.tells middle now (closing_calls image.geometry n counters) result) (sym same)
            (subst (λ (h : Geometry). Makes trust.tells middle now (closing_calls h last counters) result) (sym (sizes image has)) makes)));
      }
