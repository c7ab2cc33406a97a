-- What each call does to the journal's blocks, in every image.
use Rattle.std.proofs.Common.{ℕ, suc, ◌≡◌, ◌≢◌, ◌+◌, ◌<◌, ◌≤◌, Bool, true, List, [], ◌∷◌, length, sym, subst, inl, inr, arith}
use Rattle.std.proofs.Math.Nat.{mod-lt}
use Rattle.std.proofs.lemmas.Bool.Decides.{eqb_tells}
use Rattle.std.specs.List.{AllByRecursion}
use Rattle.blk_base.specs.Regions.{journal_slot_of, first_index_of}
use Rattle.blk_base.specs.Sectors.{sector}
use Rattle.blk_base.specs.declared.geometry.Geometry.{Geometry}
use Rattle.blk_base.specs.declared.place.Pbn.{Pbn}
use Rattle.disk_model.specs.declared.call.Call.{Call}
use Rattle.disk_model.specs.declared.call.Call.TheVariants.{Write, Flush}
use Rattle.disk_model.specs.Log.{Blocks, Misses, block_at, contents, settled}
use Rattle.disk_model.proofs.ImageLaws.{kept, all_weaker, settled-misses, settled-write, contents-write}
use Rattle.disk_model.specs.OneImages.{HasOneImageIn}
use Rattle.journal_codec.specs.Grammar.{HoldsBlock}
use Rattle.journal_codec.specs.BlockBytes.{block_bytes, entries_in}
use Rattle.journal_codec.proofs.PrefixLaws.{written}
use Rattle.journal_codec.proofs.ReadLaws.{one_reading}
use Rattle.vdo_model.specs.Journals.{Surely, MissesJournal, block_of_slot}
use Rattle.vdo_model.proofs.JournalLaws.{slots_apart}
use Rattle.journal_stops.specs.Rings.{ring_slot_of, IsWhole, HasNothingLater, IsTornOver, StandWhole, IsRing, IsAtRest, IsUnderWay, IsWritten}
use Rattle.journal_stops.specs.Sealed.{Sealed, IsSealed, next_of, head_of, front_of}
use Rattle.image_model.proofs.LookedLaws.{looked_low}
use Rattle.image_model.specs.Looked.{is_looked_at}

-- Blocks.

-- a block that is spelled as it was sealed is whole
pub spelled_whole : (g : Geometry) (sequence : ℕ) (block : Sealed) → HoldsBlock sequence block.head block.entries
    → IsWhole g sequence block (block_bytes g.nonce sequence block.head block.entries)
spelled_whole g sequence block holds = record {
  fits = omega (arith, holds.few);
  sectors = λ i below. written g.nonce sequence block.head block.entries i holds below;
}

pub whole_is_torn : (g : Geometry) (sequence : ℕ) (block : Sealed) (content : List ℕ) → IsWhole g sequence block content → IsTornOver g sequence block content
whole_is_torn g sequence block content whole number below = inl (whole.sectors number below)

pub earlier_is_torn : (g : Geometry) (sequence : ℕ) (block : Sealed) (content : List ℕ) → HasNothingLater g sequence content → IsTornOver g sequence block content
earlier_is_torn g sequence block content none number below = inr (none number below)

-- in a whole block nothing is later than the block
pub whole_is_last : (g : Geometry) (sequence : ℕ) (block : Sealed) (content : List ℕ) → IsWhole g sequence block content → HasNothingLater g (suc sequence) content
whole_is_last g sequence block content whole number below s h others is =
    let same = one_reading g.nonce number (sector number content) sequence block.head s h (entries_in number block.entries) others (whole.sectors number below) is in
    let equal = same.0 in omega (arith, equal)

earlier_later : (g : Geometry) (next : ℕ) (content : List ℕ) → HasNothingLater g next content → HasNothingLater g (suc next) content
earlier_later g next content none number below s h others is = let less = none number below s h others is in omega (arith, less)

-- The ring.

-- the ring rule: the slot of the next sequence has none of the blocks from the head on
pub slot_is_free : (g : Geometry) (start : ℕ) (blocks : List Sealed) (sequence : ℕ) → IsRing g start blocks → head_of start blocks ≤ sequence → sequence < next_of start blocks
    → journal_slot_of g sequence ≢ journal_slot_of g (next_of start blocks)
slot_is_free g start blocks sequence ring from below = slots_apart g.journal sequence (next_of start blocks) below (omega (arith, ring.ring, from))

pub head_within : (g : Geometry) (start : ℕ) (blocks : List Sealed) → IsRing g start blocks → head_of start blocks ≤ next_of start blocks
head_within g start [] ring = omega arith
head_within g start (block ∷ older) ring = let newest = ring.newest (omega arith) in omega (arith, newest)

pub ring_has_slots : (g : Geometry) (start : ℕ) (blocks : List Sealed) → IsRing g start blocks → 0 < g.journal
ring_has_slots g start blocks ring = let within = head_within g start blocks ring in omega (arith, ring.ring, within)

-- with the block that may be sealed behind it, it is a ring again
pub ring_grows : (g : Geometry) (start : ℕ) (blocks : List Sealed) (block : Sealed) → IsRing g start blocks → IsSealed g start blocks block → IsRing g start (block ∷ blocks)
ring_grows g start blocks block ring is = record {
  head = omega (arith, ring.head, is.rises);
  newest = λ some. omega (arith, is.holds.head_below);
  ring = omega (arith, is.ring);
  reach = omega (arith, is.reach);
}

-- and so it is with the front of that block
pub front_grows : (g : Geometry) (start n : ℕ) (blocks : List Sealed) (block : Sealed) → IsRing g start blocks → IsSealed g start blocks block
    → IsRing g start (front_of n block ∷ blocks)
front_grows g start n blocks block ring is =
    let grown = ring_grows g start blocks block ring is in record { head = grown.head; newest = grown.newest; ring = grown.ring; reach = grown.reach }

-- What is kept.

-- fewer of them stand whole too
pub whole_since : (opening : Blocks) (log : List Call) (g : Geometry) (start from later : ℕ) (blocks : List Sealed) → from ≤ later
    → StandWhole opening log g start from blocks → StandWhole opening log g start later blocks
whole_since opening log g start from later [] le whole = tt
whole_since opening log g start from later (block ∷ older) le whole =
    (λ reached. whole.0 (omega (arith, le, reached)), whole_since opening log g start from later older le whole.1)

whole_kept : (opening : Blocks) (log : List Call) (g : Geometry) (start from : ℕ) (call : Call) (blocks : List Sealed)
    → ((sequence : ℕ) → from ≤ sequence → sequence < next_of start blocks → Misses call (ring_slot_of g sequence))
    → StandWhole opening log g start from blocks → StandWhole opening (call ∷ log) g start from blocks
whole_kept opening log g start from call [] misses whole = tt
whole_kept opening log g start from call (block ∷ older) misses whole = (
  λ reached. let was = whole.0 reached in (was.0, was.1, kept _ opening log call _ (misses (next_of start older) reached (omega arith)) was.2),
  whole_kept opening log g start from call older (λ sequence reached below. misses sequence reached (omega (arith, below))) whole.1,
)

pub rest_kept : (opening : Blocks) (log : List Call) (g : Geometry) (start : ℕ) (blocks : List Sealed) (call : Call) → MissesJournal g call
    → IsAtRest opening log g start blocks → IsAtRest opening (call ∷ log) g start blocks
rest_kept opening log g start blocks call misses rest = record {
  some = rest.some;
  ring = rest.ring;
  whole = whole_kept opening log g start (head_of start blocks) call blocks
      (λ sequence reached below. misses (journal_slot_of g sequence) (mod-lt sequence (ring_has_slots g start blocks rest.ring))) rest.whole;
  none = λ slot below. kept _ opening log call (block_of_slot slot) (misses slot below) (rest.none slot below);
}

pub under_way_kept : (opening : Blocks) (log : List Call) (g : Geometry) (start : ℕ) (blocks : List Sealed) (block : Sealed) (call : Call) → MissesJournal g call
    → IsUnderWay opening log g start blocks block → IsUnderWay opening (call ∷ log) g start blocks block
under_way_kept opening log g start blocks block call misses way = record {
  some = way.some;
  ring = way.ring;
  is_sealed = way.is_sealed;
  whole = whole_kept opening log g start (head_of start blocks) call blocks
      (λ sequence reached below. misses (journal_slot_of g sequence) (mod-lt sequence (ring_has_slots g start blocks way.ring))) way.whole;
  here = kept _ opening log call _ (misses (journal_slot_of g (next_of start blocks)) (mod-lt (next_of start blocks) (ring_has_slots g start blocks way.ring))) way.here;
  none = λ slot below apart. kept _ opening log call (block_of_slot slot) (misses slot below) (way.none slot below apart);
}

pub written_kept : (opening : Blocks) (log : List Call) (g : Geometry) (start : ℕ) (blocks : List Sealed) (block : Sealed) (call : Call) → 0 < g.journal → MissesJournal g call
    → IsWritten opening log g start blocks block → IsWritten opening (call ∷ log) g start blocks block
written_kept opening log g start blocks block call some misses is =
    let slot = journal_slot_of g (next_of start blocks) in
    rw (settled-misses opening log call (block_of_slot slot) (misses slot (mod-lt (next_of start blocks) some))) is

-- The next block is written ..

misses_others : (at : Pbn) (bytes : List ℕ) (ok : Bool) (slot other : ℕ) → at.0 ≡ block_of_slot slot → other ≢ slot → Misses (Write at bytes ok) (block_of_slot other)
misses_others at bytes ok slot other is apart same = apart (omega (arith, is, same))

pub begins : (opening : Blocks) (log : List Call) (g : Geometry) (start : ℕ) (blocks : List Sealed) (block : Sealed) (at : Pbn) (bytes : List ℕ) (ok : Bool)
    → at.0 ≡ ring_slot_of g (next_of start blocks) → IsSealed g start blocks block → IsWhole g (next_of start blocks) block bytes
    → IsAtRest opening log g start blocks → IsUnderWay opening (Write at bytes ok ∷ log) g start blocks block
begins opening log g start blocks block at bytes ok place is_sealed says rest =
    let next = next_of start blocks in
    let slot = journal_slot_of g next in
    let Torn : List ℕ → Type 0 = IsTornOver g next block in
    let before : Surely opening log (block_of_slot slot) Torn =
    all_weaker (HasNothingLater g next) Torn (contents opening log (block_of_slot slot)) (earlier_is_torn g next block)
    (rest.none slot (mod-lt next (ring_has_slots g start blocks rest.ring))) in
    record {
      some = rest.some;
      ring = rest.ring;
      is_sealed = is_sealed;
      whole = whole_kept opening log g start (head_of start blocks) (Write at bytes ok) blocks
          (λ sequence reached below. misses_others at bytes ok slot (journal_slot_of g sequence) place (slot_is_free g start blocks sequence rest.ring reached below)) rest.whole;
      here = subst (λ (b : ℕ). Surely opening (Write at bytes ok ∷ log) b Torn) place
          (rw (contents-write opening log at bytes ok) (whole_is_torn g next block bytes says, subst (λ (b : ℕ). Surely opening log b Torn) (sym place) before));
      none = λ other below apart. kept _ opening log (Write at bytes ok) (block_of_slot other) (misses_others at bytes ok slot other place apart) (rest.none other below);
    }

pub is_written : (opening : Blocks) (log : List Call) (g : Geometry) (start : ℕ) (blocks : List Sealed) (block : Sealed) (at : Pbn) (bytes : List ℕ)
    → at.0 ≡ ring_slot_of g (next_of start blocks) → IsWhole g (next_of start blocks) block bytes → IsWritten opening (Write at bytes true ∷ log) g start blocks block
is_written opening log g start blocks block at bytes place says =
    subst (λ (b : ℕ). AllByRecursion (IsWhole g (next_of start blocks) block) (settled opening (Write at bytes true ∷ log) b)) place
    (rw (settled-write opening log at bytes) (says, tt))

-- .. and once it is flushed, the journal has it too.
pub ends : (opening : Blocks) (log : List Call) (g : Geometry) (start : ℕ) (blocks : List Sealed) (block : Sealed)
    → IsWritten opening log g start blocks block → IsUnderWay opening log g start blocks block → IsAtRest opening (Flush true ∷ log) g start (block ∷ blocks)
ends opening log g start blocks block is way =
    let next = next_of start blocks in
    let slot = journal_slot_of g next in
    let next_is : start + suc (length blocks) ≡ suc next = omega arith in
    let older : StandWhole opening (Flush true ∷ log) g start (head_of start blocks) blocks = whole_kept opening log g start (head_of start blocks) (Flush true) blocks (λ sequence reached below. tt) way.whole in
    record {
      some = way.some;
      ring = ring_grows g start blocks block way.ring way.is_sealed;
      whole = (λ reached. (way.is_sealed.holds.few, way.is_sealed.each, is), whole_since opening (Flush true ∷ log) g start (head_of start blocks) block.head blocks way.is_sealed.rises older);
      none = λ other below. subst (λ (n : ℕ). Surely opening (Flush true ∷ log) (block_of_slot other) (HasNothingLater g n)) (sym next_is) (elim (eqb_tells other slot) [
        | inl same ↦ subst (λ (s : ℕ). Surely opening (Flush true ∷ log) (block_of_slot s) (HasNothingLater g (suc next))) (sym same.1)
            (all_weaker (IsWhole g next block) (HasNothingLater g (suc next)) (settled opening log (block_of_slot slot)) (whole_is_last g next block) is)
        | inr apart ↦ all_weaker (HasNothingLater g next) (HasNothingLater g (suc next)) (contents opening (Flush true ∷ log) (block_of_slot other)) (earlier_later g next)
            (kept _ opening log (Flush true) (block_of_slot other) tt (way.none other below apart.1))
      ]);
    }

-- Where nothing is pending but in the index, the journal is that of the one image.

one_content : (g : Geometry) (opening : Blocks) (log : List Call) (image : Blocks) (b : ℕ) (P : List ℕ → Type 0) → b < length opening → b < first_index_of g
    → HasOneImageIn (is_looked_at g) opening log image → Surely image [] b P → Surely opening log b P
one_content g opening log image b P below low one holds =
    all_weaker (λ content. content ≡ block_at image b) P (contents opening log b) (λ content same. subst P (sym same) holds.0) (one.only b below (looked_low g b low))

one_whole : (opening : Blocks) (log : List Call) (image : Blocks) (g : Geometry) (start from : ℕ) (blocks : List Sealed) → 0 < g.journal → 1 + g.journal ≤ length opening
    → HasOneImageIn (is_looked_at g) opening log image → StandWhole image [] g start from blocks → StandWhole opening log g start from blocks
one_whole opening log image g start from [] some inside one whole = tt
one_whole opening log image g start from (block ∷ older) some inside one whole = (
  λ reached. let was = whole.0 reached in let below = mod-lt (next_of start older) some in
      (was.0, was.1, one_content g opening log image (ring_slot_of g (next_of start older)) (IsWhole g (next_of start older) block) (omega (arith, below, inside)) (omega (arith, below)) one was.2),
  one_whole opening log image g start from older some inside one whole.1,
)

pub opened : (opening : Blocks) (log : List Call) (g : Geometry) (start : ℕ) (image : Blocks) (blocks : List Sealed) → 1 + g.journal ≤ length opening
    → HasOneImageIn (is_looked_at g) opening log image → IsAtRest image [] g start blocks → IsAtRest opening log g start blocks
opened opening log g start image blocks inside one rest = record {
  some = rest.some;
  ring = rest.ring;
  whole = one_whole opening log image g start (head_of start blocks) blocks (ring_has_slots g start blocks rest.ring) inside one rest.whole;
  none = λ slot below. one_content g opening log image (block_of_slot slot) (HasNothingLater g (next_of start blocks)) (omega (arith, below, inside)) (omega (arith, below)) one (rest.none slot below);
}
