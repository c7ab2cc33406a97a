-- A session over an empty image, of which nothing was written since, is as it was opened: so it is fair when it begins, on every
-- device that has this image, and so long as its reads are honest.
use Rattle.std.proofs.Common.{◌≡◌, ◌+◌, ◌*◌, ◌<◌, ◌≤◌, ℕ, Bool, true, false, if◌then◌else◌, slice_index, Option, None, Some, [], ◌∷◌, length, refl, sym, ◌∙◌, ap, subst, inl, arith}
use Rattle.core_laws.proofs.Common.{Calls, Geometry, IsAsOpened, IsFair, IsSession, Pbn, Session, opened_image}
use Rattle.blk_base.specs.Regions.{JournalSlot, Root, block_of, needed_blocks}
use Rattle.blk_base.specs.declared.place.Mapping.TheVariants.{Unmapped}
use Rattle.blk_base.specs.declared.place.PageId.{PageId}
use Rattle.blk_base.specs.declared.sizes.TheConstants.{TREES}
use Rattle.disk_model.specs.Log.{block_at}
use Rattle.disk_model.specs.declared.call.Call.TheVariants.{Read}
use Rattle.image_model.proofs.EmptyLaws.{all_counted, blank_slot, not_shared, no_sector, no_tree_page, pages_good, root_says}
use Rattle.image_model.specs.Empty.{IsEmpty, empty_root}
use Rattle.image_model.specs.Maps.{mapping_in, page_at}
use Rattle.journal_stops.proofs.ShownLaws.{begins_anew}
use Rattle.core_model.specs.Sessions.{opened_uses}
use Rattle.image_model.specs.Counts.{HasMappings}
use Rattle.zone_counts.specs.Openings.{is_data_block, offset_in}
use Rattle.zone_counts.specs.Zone.{slab_number}

-- a session over an empty image, which links no page and counts no block
pub record IsNew (s : Session) : Type 0 where
  pub empty : IsEmpty s.sizes.geometry s.image
  pub room : needed_blocks s.sizes.geometry ≤ length s.image
  pub whole : (b : ℕ) → b < length s.image → length (block_at s.image b) ≡ 4096
  pub blocks : s.blocks ≡ s.image
  pub unwritten : s.before ≡ []
  pub links : (page : PageId) → s.links page ≡ None
  pub uncounted : (k : ℕ) → slice_index s.counters k ≡ 0

module _ (s : Session) (session : IsSession s) (new : IsNew s) where
  abbrev g : Geometry
  g = s.sizes.geometry

  root_is : (tree : ℕ) → tree < TREES → block_at s.image (block_of g (Root tree)) ≡ empty_root g tree
  root_is tree inside = new.empty.made (Root tree) inside tt

  says_none : (tree slot : ℕ) → tree < TREES → slot < 812 → mapping_in (block_at s.image (block_of g (Root tree))) slot ≡ Unmapped
  says_none tree slot inside below = root_says g s.image root_is tree slot inside below

  -- no page is linked, and its roots are no data blocks
  unlinked : (page : PageId) → page.level + 1 < g.height → (o : Option Pbn) → page_at (opened_image s) page ≡ o → o ≡ None
  unlinked page below None is = refl
  unlinked page below (Some at) is = absurd (no_tree_page g s.image session.sizes says_none at (page, below, is))

  -- no block has a mapping
  pub none_counted : (x : Pbn) → opened_uses s x ≡ 0
  none_counted x = by (is_data_block g x)
    where
      by : (b : Bool) → (if b then slice_index s.counters (slab_number g x * g.slab_blocks + offset_in g x) else 0) ≡ 0
      by true = new.uncounted (slab_number g x * g.slab_blocks + offset_in g x)
      by false = refl

  pub new_opened : IsAsOpened s
  new_opened = record {
    room = let blocks = ap length new.blocks in omega (arith, blocks, new.room);
    one_image = rw (new.blocks, new.unwritten) (record { size = refl; whole = new.whole; only = λ b below here. (refl, tt) });
    journal = begins_anew s.image g s.sizes.start session.start.0 (let some = session.used in omega (arith, some))
        (λ slot number sequence head entries below few has.
        absurd (no_sector g s.image session.sizes (λ n inside. new.empty.made (JournalSlot n) inside tt) slot number sequence head entries below few has));
    pages = pages_good g s.image session.sizes says_none (blank_slot g s.image root_is);
    links = λ page below. new.links page ∙ sym (unlinked page below (page_at (opened_image s) page) refl);
    counts = λ x. subst (HasMappings (opened_image s) x) (sym (none_counted x)) (all_counted g s.image session.sizes says_none x);
    unshared = not_shared g s.image session.sizes says_none;
  }

  -- it is fair when it begins, and when it read a block as that is
  pub new_fair : IsFair s []
  new_fair = record { honest = tt; opened = new_opened }

  pub new_read_fair : (x : Pbn) → x.0 < length s.image → IsFair s (Calls (Read x (block_at s.blocks x.0) true) ∷ [])
  new_read_fair x inside = record {
    honest = ((rw new.blocks (new.whole x.0 inside), rw new.unwritten (λ i below. inl refl)), tt);
    opened = new_opened;
  }
