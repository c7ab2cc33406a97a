-- Each act of a logical zone keeps what a legal core knows of it.
use Rattle.std.proofs.Common.{◌≡◌, ℕ, true, List, [], ◌∷◌, ap, ◌∙◌, arith}
use Rattle.core_laws.proofs.Common.{Aborts, Happening, Logged, LogicalZone, Post, Session, Sets, Trace, Vio, logged}
use Rattle.blk_base.specs.declared.place.ZoneId.TheVariants as id
use Rattle.data_vio.specs.declared.items.Item.TheVariants as item
use Rattle.data_vio.specs.declared.items.Phase.TheVariants as phase
use Rattle.core_model.specs.declared.zones.ZoneData.TheVariants as at
use Rattle.core_model.specs.LogicalRules.{LogicalServes, arrives_retired, arrives_free, arrives_held, leafed, looks, needs_leaf, passes, is_dropped, waits, makes_page, links, settles, awaits, gives, aborts, unmakes, drops, aborts_entered}
use Rattle.core_laws.proofs.journal.LoggedEntries.{block_at, logged_makes, logged_own}
use Rattle.core_laws.proofs.kept.ActKept.{ActKept, Known, act_none, in_page}
use Rattle.core_laws.proofs.logical.LogicalFacts.{After, retired_kept, free_kept, held_kept, leafed_kept, looks_kept, needs_kept, passes_kept, settles_kept, awaits_kept, gives_kept, aborts_kept, aborts_entered_kept}
use Rattle.core_laws.proofs.logical.PageActs.{dropped_kept, drops_kept, links_kept, makes_kept, unmakes_kept, waits_kept}

-- what happens with an entry, by that entry
pub happens_with : (f : Logged → Happening) (made : Trace) (e other : Logged) → made ≡ f e ∷ [] → e ≡ other → made ≡ f other ∷ []
happens_with f made e other is same = is ∙ ap (λ (x : Logged). f x ∷ []) same

module _ {s : Session} {t : Trace} {n : ℕ} {l : LogicalZone} {v : Vio} (known : Known s t n (at.Logical l) (item.Request v ∷ [])) where
  pub logical_serves : (new : LogicalZone) (made : Trace) (posts : List Post) → LogicalServes s.sizes l v new made posts → After known new made posts
  logical_serves new made posts (arrives_retired p d i m q) = rw (i, m, q) (retired_kept known p d)
  logical_serves new made posts (arrives_free p d f i m q) = rw (i, m, q) (free_kept known p d f)
  logical_serves new made posts (arrives_held p d f i m q) = rw (i, m, q) (held_kept known p f)
  logical_serves new made posts (looks mapping post p path stays leaf knows goes i m q) = rw (i, m, q) (looks_kept known p mapping post path stays leaf knows goes)
  logical_serves new made posts (needs_leaf x p path stays leaf unknown there i m q) = rw (i, m, q) (needs_kept known p x path unknown there)
  logical_serves new made posts (leafed post p goes i m q) = rw (i, m, q) (leafed_kept known p post goes)
  logical_serves new made posts (passes p path past i m q) = rw (i, m, q) (passes_kept known p path past)
  logical_serves new made posts (is_dropped page p path lack listed i m q) = rw (i, m, q) (dropped_kept known p page path lack listed)
  logical_serves new made posts (waits page p path lack yet making i m q) = rw (i, m, q) (waits_kept known p page path lack making)
  logical_serves new made posts (makes_page page p path lack yet unmade i m q) = rw (i, m, q) (makes_kept known p page path lack yet unmade)
  logical_serves new made posts (links page x between p some to may linked i m q) =
      rw (i, happens_with (λ (e : Logged). Sets e) made (logged v) _ m (logged_makes v page x some to), q) (links_kept known p page x between some to may linked)
  logical_serves new made posts (settles p bare none i m q) = rw (i, happens_with (λ (e : Logged). Sets e) made (logged v) _ m (logged_own v bare), q) (settles_kept known p bare none)
  logical_serves new made posts (awaits p bare some i m q) = rw (i, m, q) (awaits_kept known p bare some)
  logical_serves new made posts (gives p i m q) = rw (i, m, q) (gives_kept known p)
  logical_serves new made posts (aborts p bare i m q) = rw (i, m, q) (aborts_kept known p bare)
  logical_serves new made posts (unmakes page p some i m q) = rw (i, m, q) (unmakes_kept known p page some)
  logical_serves new made posts (drops page p some i m q) =
      let block = block_at v.new (in_page known phase.AbortEntered page p some).1 in
      rw (i, happens_with (λ (e : Logged). Aborts e) made (logged v) _ m (logged_makes v page block.0 some block.1), q) (drops_kept known p page block.0 some block.1)
  logical_serves new made posts (aborts_entered p bare i m q) = rw (i, happens_with (λ (e : Logged). Aborts e) made (logged v) _ m (logged_own v bare), q) (aborts_entered_kept known p bare)

-- a stop notice
pub logical_notified : {s : Session} {t : Trace} {n : ℕ} {l : LogicalZone} → Known s t n (at.Logical l) (item.StopNotice ∷ [])
    → ActKept s t n (at.Logical l) (item.StopNotice ∷ []) (at.Logical (record l { notified = true })) [] ((id.Desk, item.StopNotice) ∷ [])
logical_notified known =
    let k = known.own in
    let sound = k.sound in
    act_none known (record { number_is = k.number_is; lists = k.lists; sound = record { among = sound.among; map = sound.map; locks = sound.locks; pages = sound.pages; reports = sound.reports }; kept = k.kept; answers = k.answers; told = k.told })
    ((omega arith, (known.front_ok.0.0, omega arith)), tt)
