-- Rows that pin what is owed of any device and what of a fair session alone: for each clause a case that it accepts, and one
-- that breaks it alone. A session that is fair when it begins, over a new image, stands in core_laws.
use Rattle.std.proofs.Common.{None, Some, sym, ◌∙◌, ℕ, ◌≡◌, ◌≢◌, ◌⊎◌, ◌<◌, ◌+◌, true, false, List, [], ◌∷◌, ◌++◌, length, refl, replicate, inl, inr, arith, IsTrue}
use Rattle.std.specs.Prelude.{slice_index}
use Rattle.blk_base.specs.Pages.{leaf_of}
use Rattle.blk_base.specs.Regions.{needed_blocks}
use Rattle.blk_base.specs.Sectors.{sector}
use Rattle.blk_base.specs.declared.place.Mapping.TheVariants.{At}
use Rattle.blk_base.specs.declared.place.PageId.{PageId}
use Rattle.blk_base.specs.declared.place.Pbn.{Pbn}
use Rattle.disk_model.specs.Log.{block_at}
use Rattle.disk_model.specs.declared.call.Call.TheVariants.{Read, Write, Flush}
use Rattle.data_vio.specs.declared.items.Phase.TheVariants as phase
use Rattle.data_vio.specs.declared.items.Stage.TheVariants as stage
use Rattle.data_vio.specs.declared.items.Vio.{Vio}
use Rattle.core_model.specs.Facts.{CarriesOwn}
use Rattle.core_model.specs.JournalFacts.{IsSealed, RestsAt, StandsAt}
use Rattle.core_model.specs.LogicalFacts.{Holds, Looks}
use Rattle.core_model.specs.Legal.{Legal}
use Rattle.core_model.specs.RightTraces.{IsLeafy, GivesRight, MapsTo, MayFollow, RightTrace}
use Rattle.core_model.specs.Sessions.{AtRest, IsAsOpened, IsFair, IsKept, IsSession, KeptStands, NewReads, NewStands, OnBlock, OnItsWay, ReadsAs, ReadsBlock, Session, Shown, Stands, opened_image, opened_uses, value_at}
use Rattle.core_model.specs.Steps.{Core}
use Rattle.core_model.specs.Trace.{Calls, Happening, Harms, Trace, all_of, durable, has_stopped, sealed}
use Rattle.data_vio.specs.Vios.{all_logged}
use Rattle.core_model.proofs.FairLaws.{fair_before, fair_on}
use Rattle.core_model.proofs.WorkedTraces.{leafy, session, sizes}
use Rattle.blk_base.specs.declared.request.Writer.{Writer}
use Rattle.image_model.specs.Counts.{HasMappings}
use Rattle.image_model.specs.Maps.{ArePagesGood, IsTreePage, mapping_of, page_at}
use Rattle.blk_base.specs.Counters.{limit_of}
use Rattle.blk_base.specs.Forms.{pbn as block}
use Rattle.journal_stops.specs.Rings.{IsAtRest}
use Rattle.page_codec.specs.declared.fault.PageFault.{PageFault}
use Rattle.image_model.specs.Looked.{is_looked_at}

-- IsSession: the journal has a block
session-not_without_a_journal : (s : Session) → s.sizes.geometry.journal ≡ 0 → IsSession s → ⊥
session-not_without_a_journal s none is = omega (arith, none, is.used)

-- a page that is linked stands at a data block, and the page above it is there
session-not_with_a_page_elsewhere : IsSession (record session { links = λ page. Some (block 78) }) → ⊥
session-not_with_a_page_elsewhere is = let there = is.linked (leaf_of 0) (block 78) refl in let stands = there.stands in omega (arith, stands)

abbrev tall : Session
tall = record leafy { sizes = record sizes { geometry = record sizes.geometry { height = 3 } } }

session-not_with_a_page_below_nothing : IsSession tall → ⊥
session-not_with_a_page_below_nothing is = elim (is.rooted (leaf_of 0) refl) [ inl level ↦ omega (arith, level) | inr some ↦ absurd cc ]

-- there is a counter for each data block, and none is above the limit
session-not_with_a_counter_less : IsSession (record session { counters = replicate 63 0 }) → ⊥
session-not_with_a_counter_less is = let each = is.counters.each in omega (arith, each)

session-not_with_a_counter_above_the_limit : (s : Session) (k : ℕ) → limit_of s.sizes.geometry < slice_index s.counters k → IsSession s → ⊥
session-not_with_a_counter_above_the_limit s k above is = omega (arith, above, is.counters.limit k)

-- IsAsOpened: there is room for the image
opened-not_on_a_small_device : (s : Session) → length s.blocks < needed_blocks s.sizes.geometry → IsAsOpened s → ⊥
opened-not_on_a_small_device s small is = omega (arith, small, is.room)

no_device : IsAsOpened session → ⊥
no_device is = opened-not_on_a_small_device session (omega arith) is

-- the device had no other image: none where a block differs that is looked at
opened-not_where_a_block_differs : (s : Session) (b : ℕ) → s.before ≡ [] → b < length s.blocks → IsTrue (is_looked_at s.sizes.geometry b) → block_at s.blocks b ≢ block_at s.image b → IsAsOpened s → ⊥
opened-not_where_a_block_differs s b none below looked differs is = let only = rw none at (is.one_image.only b below looked) in differs only.0

-- its journal has no block as late as the session
opened-not_with_a_later_block : (s : Session) → (IsAtRest s.image [] s.sizes.geometry s.sizes.start [] → ⊥) → IsAsOpened s → ⊥
opened-not_with_a_later_block s later is = later is.journal

-- its pages can be read, and are linked as the session knows
opened-not_with_a_bad_page : (s : Session) → (ArePagesGood (opened_image s) → ⊥) → IsAsOpened s → ⊥
opened-not_with_a_bad_page s bad is = bad is.pages

opened-not_with_another_link : (s : Session) (page : PageId) (x : Pbn) → page.level + 1 < s.sizes.geometry.height → s.links page ≡ None → page_at (opened_image s) page ≡ Some x → IsAsOpened s → ⊥
opened-not_with_another_link s page x below none linked is = absurd (let same = sym none ∙ is.links page below ∙ linked in cc)

-- each block has as many mappings as its counter says, and the block of a page has no address
opened-not_with_another_count : (s : Session) (x : Pbn) → (HasMappings (opened_image s) x (opened_uses s x) → ⊥) → IsAsOpened s → ⊥
opened-not_with_another_count s x other is = other (is.counts x)

opened-not_with_an_address_at_a_page : (s : Session) (a : ℕ) (x : Pbn) → IsTreePage (opened_image s) x → mapping_of (opened_image s) a ≡ At x → IsAsOpened s → ⊥
opened-not_with_an_address_at_a_page s a x page mapped is = is.unshared x a page mapped

-- IsKept: a block behind the journal that is no data block and none of the index lies inside the image; and so does one with a page
kept : IsKept session 143
kept = record { inside = omega arith; looked = refl; behind = omega arith; unfreed = λ is_data. absurd (let inside = is_data.inside in let stands = is_data.stands in omega (arith, inside, stands)) }

kept-with_a_page : IsKept leafy 79
kept-with_a_page = record { inside = omega arith; looked = refl; behind = omega arith; unfreed = λ is_data. (leaf_of 0, omega arith, refl) }

kept-not_a_data_block : IsKept session 85 → ⊥
kept-not_a_data_block is = let page = is.unfreed (record { slab = 0; offset = 6; inside = (omega arith, omega arith); stands = refl }) in absurd (let none = page.2 in cc)

kept-not_of_the_journal : IsKept session 2 → ⊥
kept-not_of_the_journal is = omega (arith, is.behind)

kept-not_of_the_index : IsKept session 70 → ⊥
kept-not_of_the_index is = let looked = is.looked in absurd cc

kept-not_outside : IsKept session 160 → ⊥
kept-not_outside is = omega (arith, is.inside)

-- KeptStands: each of these stands as it was opened
kept_stands-not_changed : (s : Session) (t : Trace) (x : ℕ) → IsKept s x → (Stands s t x (block_at s.image x) → ⊥) → KeptStands s t → ⊥
kept_stands-not_changed s t x is changed stands = changed (stands x is)

shown-not_with_one_changed : (s : Session) (t : Trace) → (KeptStands s t → ⊥) → Shown s t → ⊥
shown-not_with_one_changed s t changed shown = changed shown.kept

-- IsFair: of a session as it was opened, a trace without a read is, and one with a read of what the device has
module _ (s : Session) (opened : IsAsOpened s) where
  fair-when_it_begins : IsFair s []
  fair-when_it_begins = record { honest = tt; opened = opened }

  fair-behind_a_write : (x : Pbn) (bytes : List ℕ) → IsFair s (Calls (Write x bytes true) ∷ Calls (Flush true) ∷ [])
  fair-behind_a_write x bytes = fair_on s (Calls (Write x bytes true)) (Calls (Flush true) ∷ []) refl (fair_on s (Calls (Flush true)) [] refl fair-when_it_begins)

  fair-behind_a_read : (x : Pbn) → s.before ≡ [] → length (block_at s.blocks x.0) ≡ 4096 → IsFair s (Calls (Read x (block_at s.blocks x.0) true) ∷ [])
  fair-behind_a_read x none whole = record {
    honest = ((whole, rw none (λ i below. inl refl)), tt);
    opened = opened;
  }

  -- not behind one that gave another sector
  fair-not_behind_a_lie : (x : Pbn) (bytes : List ℕ) → s.before ≡ [] → sector 0 bytes ≢ sector 0 (block_at s.blocks x.0) → IsFair s (Calls (Read x bytes true) ∷ []) → ⊥
  fair-not_behind_a_lie x bytes none differs fair = by (rw none at (fair.honest.0.1 0 (omega arith)))
    where
      by : (sector 0 bytes ≡ sector 0 (block_at s.blocks x.0)) ⊎ ⊥ → ⊥
      by (inl same) = differs same
      by (inr nothing) = nothing

  -- so of one that is found not to decode
  fair-behind_damage : (w : Writer) (x : Pbn) (fault : PageFault) → s.before ≡ [] → length (block_at s.blocks x.0) ≡ 4096 → IsFair s (Harms w x (block_at s.blocks x.0) fault ∷ [])
  fair-behind_damage w x fault none whole = record { honest = ((whole, rw none (λ i below. inl refl)), tt); opened = opened }

  fair-not_behind_made_up_damage : (w : Writer) (x : Pbn) (bytes : List ℕ) (fault : PageFault) → length bytes ≢ 4096 → IsFair s (Harms w x bytes fault ∷ []) → ⊥
  fair-not_behind_made_up_damage w x bytes fault short fair = short fair.honest.0.0

-- nor where the image isn't as it was opened
fair-not_without_a_device : (t : Trace) → IsFair session t → ⊥
fair-not_without_a_device t fair = no_device fair.opened

-- RightTrace: where the session isn't fair, nothing must stand on the device; where it is, it must
right-of_any_device : RightTrace session []
right-of_any_device fair = absurd (fair-not_without_a_device [] fair)

right-goes_on_over_any_device : (s : Session) (h : Happening) (t : Trace) → MayFollow s h t → (IsFair s (h ∷ t) → ⊥) → RightTrace s t → RightTrace s (h ∷ t)
right-goes_on_over_any_device s h t may unfair right = (may, (λ fair. absurd (unfair fair)), right)

right-not_where_a_fair_one_lost_it : (s : Session) (h : Happening) (t : Trace) → IsFair s (h ∷ t) → (Shown s (h ∷ t) → ⊥) → RightTrace s (h ∷ t) → ⊥
right-not_where_a_fair_one_lost_it s h t fair lost right = lost (right.1 fair)

right-not_by_what_may_not_follow : (s : Session) (h : Happening) (t : Trace) → (MayFollow s h t → ⊥) → RightTrace s (h ∷ t) → ⊥
right-not_by_what_may_not_follow s h t never right = never right.0

-- Carries: a request that goes to the journal owes what a read of its block gives where that is fair
module _ (s : Session) (t : Trace) (v : Vio) where
  enter-with_nothing_read : (IsFair s t → ⊥) → Holds s t v → MapsTo v.asks v.bytes v.new → IsLeafy s t v.at.0 → CarriesOwn s t v phase.Enter
  enter-with_nothing_read unfair holds maps leafy = (holds, maps, (λ fair. absurd (unfair fair)), leafy)

  enter-not_without_its_data : IsFair s t → (OnBlock (λ x. ReadsAs s t x.0 v.bytes) v.new → ⊥) → CarriesOwn s t v phase.Enter → ⊥
  enter-not_without_its_data fair lost carries = lost (carries.2 fair)

  -- a read that got its bytes has its value where that is fair
  loaded-with_any_bytes : (IsFair s t → ⊥) → Looks s t v → CarriesOwn s t v phase.Loaded
  loaded-with_any_bytes unfair looks = (looks, λ fair. absurd (unfair fair))

  loaded-not_with_a_wrong_value : IsFair s t → v.bytes ≢ value_at s t v.at.0 → CarriesOwn s t v phase.Loaded → ⊥
  loaded-not_with_a_wrong_value fair wrong carries = wrong (carries.1 fair)

-- StandsAt: at each stage the block is sealed, or its entries are those that aren't committed, and the rest is owed where that
-- is fair
module _ (s : Session) (t : Trace) (vios : List Vio) (at : ℕ) where
  cover-of_any_device : (IsFair s t → ⊥) → IsSealed s t vios at → StandsAt s t vios at stage.Cover
  cover-of_any_device unfair k = (k, λ fair. absurd (unfair fair))

  cover-not_without_its_data : IsFair s t → (NewReads s t (all_logged vios) → ⊥) → StandsAt s t vios at stage.Cover → ⊥
  cover-not_without_its_data fair lost stands = lost (stands.1 fair).1

  write-of_any_device : (IsFair s t → ⊥) → IsSealed s t vios at → StandsAt s t vios at stage.Write
  write-of_any_device unfair k = (k, λ fair. absurd (unfair fair))

  write-not_without_its_data : IsFair s t → (NewStands s t (all_logged vios) → ⊥) → StandsAt s t vios at stage.Write → ⊥
  write-not_without_its_data fair lost stands = lost (stands.1 fair).1

  harden-of_any_device : (IsFair s t → ⊥) → IsSealed s t vios at → StandsAt s t vios at stage.Harden
  harden-of_any_device unfair k = (k, λ fair. absurd (unfair fair))

  harden-not_without_its_block : IsFair s t → ((k : IsSealed s t vios at) → ReadsBlock s t k.older (all_logged vios) → ⊥) → StandsAt s t vios at stage.Harden → ⊥
  harden-not_without_its_block fair lost stands = lost stands.0 (stands.1 fair).1

  commit-of_any_device : (IsFair s t → ⊥) → all_of (sealed t) ≡ all_logged vios ++ durable t → StandsAt s t vios at stage.Commit
  commit-of_any_device unfair left = (left, λ fair. absurd (unfair fair))

  commit-not_of_others : all_of (sealed t) ≢ all_logged vios ++ durable t → StandsAt s t vios at stage.Commit → ⊥
  commit-not_of_others others stands = others stands.0

  commit-not_before_it_stands : IsFair s t → (AtRest s t (sealed t) → ⊥) → StandsAt s t vios at stage.Commit → ⊥
  commit-not_before_it_stands fair lost stands = lost (stands.1 fair)

  fail-of_any_device : (IsFair s t → ⊥) → IsSealed s t vios at → has_stopped t ≡ true → StandsAt s t vios at stage.Fail
  fail-of_any_device unfair k stopped = (k, (λ fair. absurd (unfair fair)), stopped)

  fail-not_where_none_stopped : has_stopped t ≡ false → StandsAt s t vios at stage.Fail → ⊥
  fail-not_where_none_stopped goes stands = let stopped = stands.2 in absurd cc

  fail-not_without_the_older : IsFair s t → ((k : IsSealed s t vios at) → AtRest s t k.older ⊎ OnItsWay s t k.older (all_logged vios) → ⊥) → StandsAt s t vios at stage.Fail → ⊥
  fail-not_without_the_older fair lost stands = lost stands.0 (stands.1 fair)

  -- RestsAt: while no block is under way, all is committed, and stands where that is fair
  rests-on_any_device : (IsFair s t → ⊥) → all_of (sealed t) ≡ durable t → RestsAt s t false false
  rests-on_any_device unfair all = (all, λ fair. absurd (unfair fair))

  rests-not_with_an_entry_left : all_of (sealed t) ≢ durable t → RestsAt s t false false → ⊥
  rests-not_with_an_entry_left left rests = left rests.0

  rests-not_before_it_stands : IsFair s t → (AtRest s t (sealed t) → ⊥) → RestsAt s t false false → ⊥
  rests-not_before_it_stands fair lost rests = lost (rests.1 fair)

-- Legal: each read was given the value of its address, where the session is fair
legal-not_with_a_wrong_gift : (s : Session) (core : Core) → IsFair s core.trace → (GivesRight s core.trace → ⊥) → Legal s core → ⊥
legal-not_with_a_wrong_gift s core fair wrong legal = wrong (legal.gives_right fair)

-- What was fair was so before.
fair-before_too : (s : Session) (h : Happening) (t : Trace) → IsFair s (h ∷ t) → IsFair s t
fair-before_too = fair_before
