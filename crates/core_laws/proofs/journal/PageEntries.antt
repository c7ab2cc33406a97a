-- The entry of a page is handed in: it is the first that puts the page anywhere.
use Rattle.std.proofs.Common.{false, ◌≡◌, true, ◌+◌, ◌<◌, Some, ◌∷◌, length, refl, sym, subst, arith}
use Rattle.core_laws.proofs.Common.{Enters, Happening, IsFair, KeptOk, Logged, Makes, Mapping, NewPage, OnBlock, Pbn, ReadsAs, RightTrace, Session, Shown, Trace, Vio, VioOk, asked, durable, fair_before, filled, journaled, sealed, turned, some_is}
use Rattle.blk_base.specs.declared.place.Mapping.TheVariants.{At}
use Rattle.blk_base.specs.declared.place.PageId.{PageId}
use Rattle.data_vio.specs.declared.items.Phase.TheVariants as phase
use Rattle.blk_base.specs.Regions.{IsDataBlock}
use Rattle.core_model.specs.RightTraces.{IsUnused}
use Rattle.core_model.specs.Facts.{CarriesPage}
use Rattle.core_model.specs.JournalFacts.{HasPageEntry}
use Rattle.core_model.specs.LogicalFacts.{MakesPage}
use Rattle.core_model.specs.RequestFacts.{HasClaim}
use Rattle.core_model.specs.PageLinks.{empty_page}
use Rattle.core_model.specs.DeviceRules.{page_at}
use Rattle.core_laws.proofs.journal.LoggedEntries.{logged_makes}
use Rattle.core_laws.proofs.kept.ActKept.{carries_page, vio_over}
use Rattle.core_laws.proofs.kept.Spared.{below_kept, quiet_kept, spent_kept}
use Rattle.core_laws.proofs.kept.StandsOn.{SparesJournaled, journal_kept, left_kept, mapped_all, new_reads_kept, reads_kept, spares_all, superblock_kept}
use Rattle.core_laws.proofs.trace.DeskOfTrace.{shown_of}
use Rattle.core_laws.proofs.trace.PagesOfTrace.{dropped_entered, put_there, unlinked_still}

-- the bytes of a new page are those that were stored for it
page_bytes_are : (s : Session) (p : NewPage) → page_at s.sizes p.page p.at ≡ empty_page s.sizes.geometry p
unfolding empty_page
page_bytes_are s p = refl

module _ (s : Session) (t : Trace) (v : Vio) (page : PageId) (x : Pbn) (right : RightTrace s t) (ok : VioOk s t v) (some : v.page ≡ Some page) (to : v.new ≡ At x) (carries : CarriesPage s t v page phase.Enter) (claim : HasClaim s true false v.claim v.new v.tickets) (unused : IsFair s t → IsUnused s t x)
    (left : length (sealed t) + 1 < s.sizes.geometry.journal) (room : length (filled t) < 192) where
  abbrev made : NewPage
  made = record { request = v.request; page = page; at = x }

  abbrev enters : Happening
  enters = Enters (Makes made)

  spared : SparesJournaled s enters t
  spared newer parts = mapped_all s enters (λ y. tt) newer (durable t)

  read_now : IsFair s t → ReadsAs s t x.0 (empty_page s.sizes.geometry made)
  read_now fair = subst (ReadsAs s t x.0) (page_bytes_are s made) (at_block v.new to (carries.3 fair))
    where
      at_block : (m : Mapping) → m ≡ At x → OnBlock (λ y. ReadsAs s t y.0 (page_at s.sizes page y)) m → ReadsAs s t x.0 (page_at s.sizes page x)
      at_block m is reads = rw is at reads

  shown_on : IsFair s (enters ∷ t) → Shown s (enters ∷ t)
  shown_on fair =
      let before = fair_before s enters t fair in
      let stood = shown_of s t right before in
      record {
        superblock = superblock_kept s enters t tt stood.superblock;
        kept = left_kept s enters t (λ x left. tt) stood.kept;
        journal = journal_kept s enters t (record { sealed_same = refl; committed_same = refl }) tt spared stood.journal;
        filling = (reads_kept s enters t x.0 _ tt (read_now before), new_reads_kept s enters t (filled t) (spares_all enters (λ y. tt) (filled t)) stood.filling);
      }

  pub page_right : RightTrace s (enters ∷ t)
  page_right = (
    record {
      is_open = ok.is_open;
      placed = some_is _ _ carries.0.turn.is_placed.placed;
      lacked = (asked v.asks v.at v.bytes, ok.asked, carries.0.lacked);
      above = carries.0.up;
      once = carries.1;
      left = left;
      room = room;
      new_data = is_data;
      unused = unused;
    },
    shown_on,
    right,
  )
    where
      is_data : IsDataBlock s.sizes.geometry x.0
      is_data = subst (OnBlock (λ y. IsDataBlock s.sizes.geometry y.0)) to (claim.on_data refl)

  page_making : MakesPage s (enters ∷ t) v page
  page_making =
      let turn = carries.0.turn in
      record {
        turn = record {
          is_placed = record { for_block = turn.is_placed.for_block; placed = turn.is_placed.placed; not_entered = turn.is_placed.not_entered };
          quiet = quiet_kept enters t v.at.0 tt turn.quiet;
          below = below_kept enters t v.at.0 v.place tt turn.below;
        };
        is_write = carries.0.is_write;
        spent = spent_kept s enters t v.request (Some page) (λ p. refl) carries.0.spent;
        lacked = carries.0.lacked;
        up = carries.0.up;
      }

  own_entry : HasPageEntry s (enters ∷ t) (Makes made) page
  own_entry = record {
    handed_in = (0, omega arith, refl);
    unlinked = unlinked_still s.sizes.geometry.height s.links s t page right carries.1;
    undropped = λ has. put_there s.sizes.geometry.height s.links (journaled t) made (dropped_entered s t made right has) carries.1;
  }

  pub page_pending : KeptOk s (enters ∷ t) phase.Pending (turned phase.Pending v)
  page_pending = (
    vio_over s enters t v refl ok,
    carries_page s (enters ∷ t) (turned phase.Pending v) page phase.Pending some
        (page_making, carries.2, subst (λ (e : Logged). HasPageEntry s (enters ∷ t) e page) (sym (logged_makes v page x some to)) own_entry),
    refl,
    claim,
  )
