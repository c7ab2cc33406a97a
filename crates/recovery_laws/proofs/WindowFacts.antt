-- What is known of the entries of a window: they are of the image, and from no later time.
use Rattle.std.proofs.Common.{ℕ, suc, ◌≡◌, ◌+◌, ◌*◌, ◌<◌, ◌≤◌, ◌==◌, ◌&&◌, Bool, true, false, if◌then◌else◌, List, [], ◌∷◌, Option, Some, None, length, reverse, All, Contains, refl, sym, subst, inl, inr, arith}
use Rattle.std.proofs.lemmas.List.Elements.{All-nil, All-cons, All-append, All-head, All-tail, All-contains}
use Rattle.std.proofs.lemmas.List.Sorted.{All-permutation, IsPermutation-reverse}
use Rattle.blk_base.specs.Points.{point_of}
use Rattle.blk_base.specs.declared.geometry.Geometry.{Geometry}
use Rattle.blk_base.specs.declared.journal_entry.CommittedEntry.{CommittedEntry}
use Rattle.blk_base.specs.declared.journal_entry.Entry.{Entry}
use Rattle.blk_base.specs.declared.journal_entry.Entry.TheVariants.{Remap, NewPage}
use Rattle.blk_base.specs.declared.place.Mapping.{Mapping}
use Rattle.blk_base.specs.declared.place.Mapping.TheVariants.{At}
use Rattle.blk_base.specs.declared.place.PageId.{PageId}
use Rattle.blk_base.specs.declared.place.Pbn.{Pbn}
use Rattle.blk_base.specs.declared.point.Half.TheVariants.{Increment}
use Rattle.blk_base.specs.declared.point.Point.{Point}
use Rattle.blk_base.specs.Pages.{above, slot_of, leaf_of, slot_of_address}
use Rattle.disk_model.specs.Log.{Blocks}
use Rattle.image_model.specs.Counts.{Updates}
use Rattle.image_model.specs.Maps.{or_else, put_by, put_last}
use Rattle.image_model.specs.Pages.{is_page}
use Rattle.image_model.specs.Windows.{AreReplayable, IsOfImage, IsReplayable, IsWindow, LeadsToData, entries_from, with_points}

-- an entry of the image whose points are below those of the block behind the last sequence
pub record IsKnown (g : Geometry) (last : ℕ) (committed : CommittedEntry) : Type 0 where
  pub of_image : IsOfImage g committed.entry
  pub early : committed.point.0 + 1 < point_of (last + 1) 0 Increment

module _ (g : Geometry) (journal : Blocks) (last : ℕ) where
  of_block : (sequence number : ℕ) (entries : List Entry) → sequence ≤ last → number + length entries ≤ 192 → All (IsOfImage g) entries
      → All (IsKnown g last) (with_points sequence number entries)
  of_block sequence number [] below few each = All-nil (IsKnown g last)
  of_block sequence number (entry ∷ entries) below few each =
      All-cons (IsKnown g last) (record { entry = entry; point = record { 0 = sequence * 512 + number * 2 + 0 } }) (with_points sequence (suc number) entries)
      (record { of_image = All-head (IsOfImage g) entry entries each; early = omega (arith, below, few) })
      (of_block sequence (suc number) entries below (omega (arith, few)) (All-tail (IsOfImage g) entry entries each))

  few_entries : (sequence : ℕ) (entries : List Entry) → IsReplayable g journal last sequence entries → length entries ≤ 192
  few_entries sequence entries is =
      let fits = is.has.1.run.fits in
      let most = is.has.1.range.1 in
      omega (arith, fits, most)

  of_blocks : (first : ℕ) (blocks : List (List Entry)) → first + length blocks ≤ last + 1 → AreReplayable g journal last first blocks → All (IsKnown g last) (entries_from first blocks)
  of_blocks first [] below are = All-nil (IsKnown g last)
  of_blocks first (entries ∷ older) below are =
      let newest = with_points (first + length older) 0 entries in
      let few = few_entries (first + length older) entries are.0 in
      All-append (IsKnown g last) (reverse newest) (entries_from first older)
      (All-permutation (IsKnown g last) newest (reverse newest) (IsPermutation-reverse newest)
      (of_block (first + length older) 0 entries (omega (arith, below)) (omega (arith, few)) are.0.each))
      (of_blocks first older (omega (arith, below)) are.1)

  pub window_known : (start : ℕ) (window : List CommittedEntry) → IsWindow g start journal last window → All (IsKnown g last) window
  window_known start window is =
      let count = is.count in
      subst (λ (entries : List CommittedEntry). All (IsKnown g last) entries) (sym is.entries) (of_blocks is.first is.blocks (omega (arith, count)) is.replayable)

-- What such entries put into slots leads to data.

if_put : (g : Geometry) (b : Bool) (own put : Mapping) → LeadsToData g own → (if b then Some own else None) ≡ Some put → LeadsToData g put
if_put g true own put leads is = let same : own ≡ put = cc is in subst (LeadsToData g) same leads
if_put g false own put leads is = absurd (cc is)

entry_leads : (g : Geometry) (entry : Entry) (page : PageId) (slot : ℕ) (put : Mapping) → IsOfImage g entry → put_by entry page slot ≡ Some put → LeadsToData g put
entry_leads g (Remap at old new) page slot put is puts = if_put g (is_page page (leaf_of at.0) && (slot == slot_of_address at.0)) new put is.2 puts
entry_leads g (NewPage below at) page slot put is puts = if_put g (is_page page (above below) && (slot == slot_of below)) (At at) put is.1 puts

one_leads : (g : Geometry) (o : Option Mapping) (other : Option Mapping) (put : Mapping) → ((own : Mapping) → o ≡ Some own → LeadsToData g own)
    → (other ≡ Some put → LeadsToData g put) → or_else o other ≡ Some put → LeadsToData g put
one_leads g (Some own) other put here later is = let same : own ≡ put = cc is in subst (LeadsToData g) same (here own refl)
one_leads g None other put here later is = later is

pub last_leads : (g : Geometry) (last : ℕ) (window : List CommittedEntry) (page : PageId) (slot : ℕ) (put : Mapping) → All (IsKnown g last) window
    → put_last window page slot ≡ Some put → LeadsToData g put
last_leads g last [] page slot put each is = absurd (cc is)
last_leads g last (committed ∷ older) page slot put each is =
    one_leads g (put_by committed.entry page slot) (put_last older page slot) put
    (λ own here. entry_leads g committed.entry page slot own (All-head (IsKnown g last) committed older each).of_image here)
    (λ later. last_leads g last older page slot put (All-tail (IsKnown g last) committed older each) later) is

-- The points of its updates are from no later time.

point_early : (last : ℕ) (entry : Entry) (p : Point) (block : Pbn) (point : ℕ) → p.0 + 1 < point_of (last + 1) 0 Increment
    → Updates (record { entry = entry; point = p }) block point → point < point_of (last + 1) 0 Increment
point_early last (Remap at old new) p block point early (inl adds) = let is = adds.1 in omega (arith, early, is)
point_early last (Remap at old new) p block point early (inr takes) = let is = takes.1 in omega (arith, early, is)
point_early last (NewPage page at) p block point early adds = let is = adds.1 in omega (arith, early, is)

pub update_early : (g : Geometry) (last : ℕ) (window : List CommittedEntry) (committed : CommittedEntry) (block : Pbn) (point : ℕ) → All (IsKnown g last) window
    → Contains window committed → Updates committed block point → point < point_of (last + 1) 0 Increment
update_early g last window committed block point each has updates =
    point_early last committed.entry committed.point block point (All-contains (IsKnown g last) window committed each has).early updates
