-- What is written while an image is recovered.
use Rattle.std.proofs.Common.{ℕ, ◌≡◌, ◌+◌, ◌*◌, ◌/◌, ◌%◌, ◌<◌, ◌≤◌, ◌^◌, ◌==◌, ◌&&◌, Bool, true, false, if◌then◌else◌, List, [], ◌∷◌, ◌++◌, length, min, All, Option, Some, None, Ok, slice_index, refl, sym, ◌∙◌, ap, subst, inl, inr, arith, IsTrue}
use Rattle.std.specs.List.{AllByRecursion}
use Rattle.std.proofs.Math.Nat.{mod-lt}
use Rattle.std.proofs.lemmas.Bool.Decides.{eqb_tells}
use Rattle.std.proofs.lemmas.List.Elements.{All-head, All-tail}
use Rattle.blk_base.specs.Counters.{sectors_per_slab}
use Rattle.blk_base.specs.Limits.{IsGeometry}
use Rattle.blk_base.specs.Regions.{ReferenceBlock, IsPlace, block_of, references_of}
use Rattle.blk_base.specs.Sectors.{sector}
use Rattle.blk_base.specs.declared.geometry.Geometry.{Geometry}
use Rattle.blk_base.specs.declared.journal_entry.CommittedEntry.{CommittedEntry}
use Rattle.blk_base.specs.declared.journal_entry.Entry.{Entry}
use Rattle.blk_base.specs.declared.journal_entry.Entry.TheVariants.{Remap, NewPage}
use Rattle.blk_base.specs.declared.place.Mapping.{Mapping}
use Rattle.blk_base.specs.declared.place.Mapping.TheVariants.{Unmapped, Zero, At}
use Rattle.blk_base.specs.declared.place.PageId.{PageId}
use Rattle.blk_base.specs.declared.place.Pbn.{Pbn}
use Rattle.blk_base.specs.declared.sizes.TheConstants.{PAGE_SLOTS}
use Rattle.blk_base.specs.Pages.{above, slot_of, leaf_of, slot_of_address}
use Rattle.byte_fields.specs.Mappings.{mapping_bytes}
use Rattle.byte_fields.proofs.MappingLaws.{length-mapping}
use Rattle.count_updates.specs.Applied.{IsGreatest}
use Rattle.count_updates.specs.Numbers.{block_number}
use Rattle.disk_model.specs.declared.call.Call.{Call}
use Rattle.disk_model.specs.declared.call.Call.TheVariants.{Read, Write, Flush}
use Rattle.disk_model.specs.Images.{IsMixOf}
use Rattle.disk_model.specs.Log.{Blocks, block_at, settled}
use Rattle.disk_model.specs.Seen.{Seen}
use Rattle.disk_model.specs.Trust.{Trust}
use Rattle.disk_model.specs.Since.{WereRead}
use Rattle.disk_model.proofs.ImageLaws.{all_weaker, sector_of_mix, settled_are_contents}
use Rattle.disk_model.proofs.LookedLaws.{one_in-settled}
use Rattle.image_format.specs.Calls.{put}
use Rattle.image_model.proofs.EmptyLaws.{sizes_of_image}
use Rattle.image_model.specs.Counts.{Stores}
use Rattle.image_model.specs.Maps.{Image, head_of, or_else, put_by, put_last, says}
use Rattle.image_model.specs.Windows.{IsOfImage, LeadsToData}
use Rattle.image_model.proofs.LookedLaws.{looked_in_place, looked_place}
use Rattle.image_model.specs.Looked.{is_looked_at, looked_in}
use Rattle.page_codec.proofs.HeldLaws.{holds_block}
use Rattle.page_codec.proofs.SpellingLaws.{length-head}
use Rattle.page_codec.specs.Grammar.{HasHead, HoldsMapping, slot_bytes}
use Rattle.page_codec.specs.PageBytes.{head_bytes}
use Rattle.plain_laws.proofs.OptionLaws.{option_cases}
use Rattle.recovery_blocks.specs.Counters.{AreCountsPut}
use Rattle.recovery_blocks.specs.Patches.{IsPatched}
use Rattle.recovery_laws.specs.Calls.{IsCountersPut, IsPut}
use Rattle.recovery_laws.specs.Recoverable.{IsRecoverable, recoverable_image}
use Rattle.recovery_laws.specs.Written.{IsFullPage, IsOldSector, IsPartPage}
use Rattle.recovery_laws.proofs.BlockLaws.{part_of_mix}
use Rattle.recovery_laws.proofs.ContentLaws.{Puts, contents_are}
use Rattle.recovery_laws.proofs.CountsKept.{stored_fits}
use Rattle.recovery_laws.proofs.OldLaws.{says_put}
use Rattle.recovery_laws.proofs.PutLaws.{IsFullBlock, puts_full}
use Rattle.replay_counts.specs.Recovered.{HasCounts}
use Rattle.replay_counts.specs.declared.forms.SectorPoints.{SectorPoints}
use Rattle.replay_map.specs.Changes.{AreNewest}
use Rattle.replay_map.specs.declared.changes.SlotId.{SlotId}
use Rattle.rebuild.specs.Acts.{AreMade, IsStart}

-- What the window puts into a slot of a page, the page can hold.

chosen : (t l i c : Bool) (own put : Mapping) → (if (t && l && i) && c then Some own else None) ≡ Some put → (l ≡ true) × (own ≡ put)
chosen true true true true own put is = (refl, cc is)
chosen true true true false own put is = absurd (cc is)
chosen true true false c own put is = absurd (cc is)
chosen true false i c own put is = absurd (cc is)
chosen false l i c own put is = absurd (cc is)

level_is : (a b : ℕ) → (a == b) ≡ true → a ≡ b
level_is a b is = elim (eqb_tells a b) [
  | inl same ↦ same.1
  | inr other ↦ let no = other.0 in absurd (cc (no, is))
]

holds_leaf : (g : Geometry) (level : ℕ) (own : Mapping) → IsGeometry g → level ≡ 0 → LeadsToData g own → HoldsMapping g level own
holds_leaf g level Unmapped sizes leaf leads = tt
holds_leaf g level Zero sizes leaf leads = leaf
holds_leaf g level (At block) sizes leaf leads = holds_block g level block sizes leads

entry_held : (g : Geometry) (entry : Entry) (page : PageId) (slot : ℕ) (put : Mapping) → IsGeometry g → IsOfImage g entry → put_by entry page slot ≡ Some put
    → HoldsMapping g page.level put
entry_held g (Remap at old new) page slot put sizes of_image is =
    let leaf = leaf_of at.0 in
    let one = chosen (page.tree == leaf.tree) (page.level == leaf.level) (page.index == leaf.index) (slot == slot_of_address at.0) new put is in
    subst (HoldsMapping g page.level) one.1 (holds_leaf g page.level new sizes (level_is page.level leaf.level one.0) of_image.2)
entry_held g (NewPage below at) page slot put sizes of_image is =
    let up = above below in
    let one = chosen (page.tree == up.tree) (page.level == up.level) (page.index == up.index) (slot == slot_of below) (At at) put is in
    subst (HoldsMapping g page.level) one.1 (holds_block g page.level at sizes of_image.1)

one_held : (g : Geometry) (level : ℕ) (o other : Option Mapping) (put : Mapping) → ((own : Mapping) → o ≡ Some own → HoldsMapping g level own)
    → (other ≡ Some put → HoldsMapping g level put) → or_else o other ≡ Some put → HoldsMapping g level put
one_held g level (Some own) other put here later is = let same : own ≡ put = cc is in subst (HoldsMapping g level) same (here own refl)
one_held g level None other put here later is = later is

put_held : (g : Geometry) (window : List CommittedEntry) (page : PageId) (slot : ℕ) (put : Mapping) → IsGeometry g → All (λ (committed : CommittedEntry). IsOfImage g committed.entry) window
    → put_last window page slot ≡ Some put → HoldsMapping g page.level put
put_held g [] page slot put sizes each is = absurd (cc is)
put_held g (committed ∷ older) page slot put sizes each is =
    one_held g page.level (put_by committed.entry page slot) (put_last older page slot) put
    (λ own here. entry_held g committed.entry page slot own sizes (All-head (λ (committed : CommittedEntry). IsOfImage g committed.entry) committed older each) here)
    (λ later. put_held g older page slot put sizes (All-tail (λ (committed : CommittedEntry). IsOfImage g committed.entry) committed older each) later) is

-- Pages.

pub page_of_mix : (image : Image) (page : PageId) (at : Pbn) (options : List (List ℕ)) (bytes : List ℕ) → length bytes ≡ 4096 → IsMixOf options bytes
    → AllByRecursion (IsPartPage image page at) options → IsPartPage image page at bytes
page_of_mix image page at options bytes whole mix all =
    let head = head_of image page at in
    let headed : HasHead head bytes =
    part_of_mix options bytes 0 36 (head_bytes head) (length-head head) (omega arith) whole mix
    (all_weaker (IsPartPage image page at) (λ content. HasHead head content) options (λ content part. part.headed) all) in
    record {
      headed = headed;
      slots = λ slot small none.
          let mapping = says image page at slot in record {
            headed = headed;
            spelled = part_of_mix options bytes (36 + 5 * slot) 5 (mapping_bytes mapping) (length-mapping mapping) (omega (arith, small)) whole mix
                (all_weaker (IsPartPage image page at) (λ content. slot_bytes slot content ≡ mapping_bytes mapping) options (λ content part. (part.slots slot small none).spelled) all);
            held = sector_of_mix (λ (s : List ℕ). HoldsMapping image.geometry page.level mapping) options bytes 0 (omega arith) mix
                (all_weaker (IsPartPage image page at) (λ content. HoldsMapping image.geometry page.level mapping) options (λ content part. (part.slots slot small none).held) all);
          };
    }

pub page_of_patch : (image : Image) (page : PageId) (at : Pbn) (changes : List (SlotId × Mapping)) (given bytes : List ℕ) → IsGeometry image.geometry
    → All (λ (committed : CommittedEntry). IsOfImage image.geometry committed.entry) image.window → page.level < 2 ^ 8 → AreNewest image.window changes → IsPartPage image page at given
    → IsPatched changes page PAGE_SLOTS given bytes → IsFullPage image page at bytes
page_of_patch image page at changes given bytes sizes each low newest part patched =
    let headed : HasHead (head_of image page at) bytes = patched.head ∙ part.headed in
    record {
      headed = headed;
      slots = λ slot small. elim (option_cases (put_last image.window page slot)) [
        | inl none ↦
            let was = part.slots slot small none in record {
              headed = headed;
              spelled = patched.others slot small (λ below. newest page slot low ∙ none) ∙ was.spelled;
              held = was.held;
            }
        | inr (mapping, is) ↦
            let said = says_put image page at slot mapping is in record {
              headed = headed;
              spelled = patched.put slot mapping small small (newest page slot low ∙ is) ∙ ap mapping_bytes (sym said);
              held = subst (HoldsMapping image.geometry page.level) (sym said) (put_held image.geometry image.window page slot mapping sizes each is);
            }
      ];
    }

-- Counters.

counts_of_put : (image : Image) (slab i : ℕ) (at : Pbn) (counts : List ℕ) (sectors : List SectorPoints) (given bytes : List ℕ) → IsPlace image.geometry (ReferenceBlock slab i)
    → block_of image.geometry (ReferenceBlock slab i) ≡ at.0 → HasCounts image counts sectors
    → ((n : ℕ) → n / 8 ≡ i → sectors_per_slab image.geometry ≤ n → IsOldSector image slab n (sector (n % 8) given))
    → AreCountsPut image.geometry slab i counts sectors given bytes → IsCountersPut image at bytes
counts_of_put image slab i at counts sectors given bytes there stands has old is = record {
  slab = slab;
  i = i;
  inside = there;
  stands = stands;
  full = λ n row below.
      let one = is.put n row below in
      let points = has.points slab n there.0 below in
      record {
        commit = subst (IsGreatest _ _) (sym one.commit) points.applied;
        counters = λ place within slab_is sector_is.
            let count = slice_index counts (block_number image.geometry place) in
            let stored = has.stored place within in
            let fits = stored_fits image place count stored in
            let number : slab * image.geometry.slab_blocks + place.offset ≡ block_number image.geometry place =
            ap (λ (s : ℕ). s * image.geometry.slab_blocks + place.offset) (sym slab_is) in
            let small : min count 255 ≡ count = omega (arith, fits) in
            let stands_there = one.counters place.offset within.1 sector_is ∙ ap (λ (k : ℕ). min (slice_index counts k) 255) number ∙ small in
            subst (λ (k : ℕ). Stores image place (Ok k)) (sym stands_there) stored;
        rest = λ offset behind sector_is. inl (one.rest offset behind sector_is);
      };
  past = λ n row behind. is.past n row behind ∙ old n row behind;
}

-- What stands in a block meanwhile.

puts_weaker : (P Q : ℕ → List ℕ → Type 0) (calls : List Call) → ((b : ℕ) (content : List ℕ) → P b content → Q b content) → AllByRecursion (Puts P) calls → AllByRecursion (Puts Q) calls
puts_weaker P Q [] all each = tt
puts_weaker P Q (Write at bytes ok ∷ calls) all each = (all at.0 bytes each.0, puts_weaker P Q calls all each.1)
puts_weaker P Q (Read at bytes ok ∷ calls) all each = (tt, puts_weaker P Q calls all each.1)
puts_weaker P Q (Flush ok ∷ calls) all each = (tt, puts_weaker P Q calls all each.1)

module _ (trust : Trust) (first : Seen) (blocks : Blocks) (start : IsStart trust first blocks) where
  abbrev image : Image
  image = recoverable_image blocks start.to.is

  abbrev able : IsRecoverable blocks
  able = start.to.is

  abbrev g : Geometry
  g = able.head.geometry

  sizes : IsGeometry g
  sizes = sizes_of_image blocks able.head able.opens.accepted

  settled_kinds : (P : ℕ → List ℕ → Type 0) (calls : List Call) (b : ℕ) → P b (block_at blocks b) → AllByRecursion (Puts P) calls → AllByRecursion (P b) (settled blocks calls b)
  settled_kinds P calls b was puts = settled_are_contents (P b) blocks calls b (contents_are P blocks calls b was puts)

  module _ (before middle : Seen) (calls : List Call) (made : AreMade (IsPut image) first before calls) (at : Pbn) (given : List ℕ)
      (below : at.0 < length blocks) (read : WereRead trust at.0 before middle (given ∷ [])) where
    full_puts : AllByRecursion (Puts (IsFullBlock blocks able start.to.named)) calls
    full_puts = puts_full blocks able start.to.named calls made.each

    given_mix : IsTrue (is_looked_at g at.0) → IsMixOf (settled blocks calls at.0) given
    given_mix looked =
        let place : at.0 + 0 ≡ at.0 = omega arith in
        let was = subst (λ (b : ℕ). IsMixOf (settled before.opening before.log b) given) place (read.given.1 start.told start.fair) in
        let logged = subst (λ (log : List Call). IsMixOf (settled before.opening log at.0) given) made.logged was in
        let opened = subst (λ (opening : Blocks). IsMixOf (settled opening (calls ++ first.log) at.0) given) made.stays.opening logged in
        one_in-settled (looked_in blocks) first.opening first.log calls blocks at.0 given start.to.one (let size = start.to.one.size in omega (arith, size, below))
        (looked_in_place blocks able.head able.opens.accepted at.0 looked) opened

    -- a block of counters
    abbrev PastKept : ℕ → List ℕ → Type 0
    PastKept b content = (slab n : ℕ) → slab < g.slabs → sectors_per_slab g ≤ n → n < 8 * references_of g → block_of g (ReferenceBlock slab (n / 8)) ≡ b
        → IsOldSector image slab n (sector (n % 8) content)

    past_before : (b : ℕ) → PastKept b (block_at blocks b)
    past_before b slab n is past within same = ap (λ (k : ℕ). sector (n % 8) (block_at blocks k)) (sym same)

    pub counters_put : (slab i : ℕ) (counts : List ℕ) (sectors : List SectorPoints) (bytes : List ℕ) → IsPlace g (ReferenceBlock slab i) → block_of g (ReferenceBlock slab i) ≡ at.0
        → HasCounts image counts sectors → length bytes ≡ 4096 → AreCountsPut g slab i counts sectors given bytes → IsPut image (put at.0 bytes)
    counters_put slab i counts sectors bytes there stands has size is =
        let kept = settled_kinds PastKept calls at.0 (past_before at.0)
        (puts_weaker (IsFullBlock blocks able start.to.named) PastKept calls (λ b content full. full.past) full_puts) in (
          size,
          inr (counts_of_put image slab i at counts sectors given bytes there stands has
              (λ n row behind.
              let within : n < 8 * references_of g = let few = there.1 in omega (arith, few, row) in
              let here : block_of g (ReferenceBlock slab (n / 8)) ≡ at.0 = ap (λ (k : ℕ). block_of g (ReferenceBlock slab k)) row ∙ stands in
              sector_of_mix (IsOldSector image slab n) (settled blocks calls at.0) given (n % 8) (mod-lt n (omega arith))
              (given_mix (subst (λ (b : ℕ). IsTrue (is_looked_at g b)) stands (looked_place g (ReferenceBlock slab i) there tt)))
              (all_weaker (PastKept at.0) (λ content. IsOldSector image slab n (sector (n % 8) content)) (settled blocks calls at.0)
              (λ content old. old slab n there.0 behind within here) kept))
              is),
        )
