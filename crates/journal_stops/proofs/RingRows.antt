-- What stands in the journal: for each clause a device that it accepts, and one that it refuses.
use Rattle.std.proofs.Common.{ℕ, ◌≡◌, ◌+◌, ◌-◌, ◌*◌, ◌<◌, ◌≤◌, ◌^◌, true, false, List, [], ◌∷◌, ◌++◌, length, All, replicate, take, drop, refl, sym, ◌∙◌, ap, subst, inl, inr, arith}
use Rattle.std.proofs.Math.Seq.{drop-append_seam}
use Rattle.std.proofs.lemmas.List.{drop-drop, take_at}
use Rattle.std.proofs.lemmas.Bool.{cases_lt}
use Rattle.std.proofs.lemmas.List.Elements.{All-head}
use Rattle.image_model.specs.Windows.{IsOfImage}
use Rattle.blk_base.specs.Sectors.{sector, zero_block}
use Rattle.blk_base.specs.declared.journal_entry.Entry.{Entry}
use Rattle.blk_base.specs.Forms.{pbn}
use Rattle.blk_base.proofs.Example.{maps}
use Rattle.disk_model.specs.declared.call.Call.{Call}
use Rattle.disk_model.specs.declared.call.Call.TheVariants.{Write, Flush}
use Rattle.disk_model.specs.Log.{Blocks}
use Rattle.image_model.proofs.Example.{small, one, block, holds, has_sector, only_sector}
use Rattle.image_model.proofs.ZeroLaws.{no_journal_sector, of_eight}
use Rattle.journal_codec.specs.Grammar.{IsSector}
use Rattle.journal_codec.specs.BlockBytes.{entries_in}
use Rattle.journal_codec.proofs.PrefixLaws.{written}
use Rattle.journal_codec.proofs.ReadLaws.{length-sector_bytes}
use Rattle.vdo_model.specs.Journals.{Surely, block_of_slot}
use Rattle.journal_stops.specs.Rings.{ring_slot_of, IsWhole, HasNothingLater, IsTornOver, StandWhole, IsRing, IsAtRest, IsUnderWay, IsWritten}
use Rattle.journal_stops.specs.Sealed.{Sealed, head_of}
use Rattle.journal_stops.proofs.SealedRows.{names, first_sealed}
use Rattle.journal_stops.proofs.StepLaws.{spelled_whole, whole_is_last, whole_is_torn, earlier_is_torn, begins, is_written, ends}

-- sequence 9 stands where 1 stood
place_is : ring_slot_of small 9 ≡ 2
place_is = refl

place_of_last : ring_slot_of small 7 ≡ 8
place_of_last = refl

-- A whole block.
whole_is : (n head : ℕ) → 1 ≤ n → n < 2 ^ 55 → head ≤ n → IsWhole small n (names head) (block n head)
whole_is n head some below oldest = spelled_whole small n (names head) (holds n head some below oldest)

zeros_not_whole : (n head : ℕ) → IsWhole small n (names head) zero_block → ⊥
zeros_not_whole n head is = no_journal_sector 1 0 n head (entries_in 0 one) (omega arith) (is.sectors 0 (omega arith))

whole_of_its_head : IsWhole small 3 (names 2) (block 3 1) → ⊥
whole_of_its_head is =
    let same = (only_sector 3 1 3 2 (entries_in 0 one) (omega arith) (omega arith) (omega arith) (is.sectors 0 (omega arith))).1 in omega (arith, same)

zeros_behind : take 512 (replicate 3584 0) ≡ sector 1 zero_block
unfolding zero_block
zeros_behind = refl

-- a block of which a stop left sector 0 alone isn't whole
torn_off : IsWhole small 1 (names 1) (sector 0 (block 1 1) ++ replicate 3584 0) → ⊥
torn_off is =
    let front : length (sector 0 (block 1 1)) ≡ 512 =
    ap length (has_sector 1 1 (omega arith) (omega arith) (omega arith)).spelled ∙ length-sector_bytes 1 1 1 0 one (omega arith) in
    let behind : sector 1 (sector 0 (block 1 1) ++ replicate 3584 0) ≡ sector 1 zero_block =
    ap (λ (n : ℕ). take 512 (drop n (sector 0 (block 1 1) ++ replicate 3584 0))) (sym front)
    ∙ ap (take 512) (drop-append_seam (sector 0 (block 1 1)) (replicate 3584 0)) ∙ zeros_behind in
    no_journal_sector 1 1 1 1 (entries_in 1 one) (omega arith) (subst (λ (bytes : List ℕ). IsSector 1 1 bytes 1 1 (entries_in 1 one)) behind (is.sectors 1 (omega arith)))

-- Nothing later: in any of the eight sectors.
pub none_in_zeros : (next : ℕ) → HasNothingLater small next zero_block
none_in_zeros next number below s h entries is = absurd (no_journal_sector 1 number s h entries below is)

none_after : HasNothingLater small 4 (block 3 1)
none_after = whole_is_last small 3 (names 1) (block 3 1) (whole_is 3 1 (omega arith) (omega arith) (omega arith))

one_as_late : HasNothingLater small 3 (block 3 1) → ⊥
one_as_late none = let less = none 0 (omega arith) 3 1 one (has_sector 3 1 (omega arith) (omega arith) (omega arith)) in omega (arith, less)

-- zeros in sector 0, and behind them what is left of a block
abbrev hole : List ℕ
hole = replicate 512 0

hole_size : length hole ≡ 512
hole_size = refl

abbrev stale : List ℕ
stale = hole ++ drop 512 (block 3 1)

front_zeros : sector 0 stale ≡ sector 0 zero_block
unfolding zero_block
front_zeros = take_at hole (drop 512 (block 3 1)) 512 hole_size

stale_sector : (number : ℕ) → 1 ≤ number → number < 8 → IsSector 1 number (sector number stale) 3 1 (entries_in number one)
stale_sector number some below =
    let m = 512 * number - 512 in
    let place : 512 * number ≡ length hole + m = omega (arith, hole_size, some) in
    let back : 512 + m ≡ 512 * number = omega (arith, some) in
    let same : sector number stale ≡ sector number (block 3 1) =
    ap (λ (n : ℕ). take 512 (drop n stale)) place ∙ ap (take 512) (sym (drop-drop m (length hole) stale))
    ∙ ap (λ (behind : List ℕ). take 512 (drop m behind)) (drop-append_seam hole (drop 512 (block 3 1)))
    ∙ ap (take 512) (drop-drop m 512 (block 3 1)) ∙ ap (λ (n : ℕ). take 512 (drop n (block 3 1))) back in
    subst (λ (bytes : List ℕ). IsSector 1 number bytes 3 1 (entries_in number one)) (sym same) (written 1 3 1 one number (holds 3 1 (omega arith) (omega arith) (omega arith)) below)

late_behind : (number : ℕ) → 1 ≤ number → number < 8 → HasNothingLater small 3 stale → ⊥
late_behind number some below none = let less = none number below 3 1 (entries_in number one) (stale_sector number some below) in omega (arith, less)

-- A torn block: each sector by itself is the new one, or nothing as late.
torn_not_at_all : IsTornOver small 3 (names 1) (block 3 1)
torn_not_at_all = whole_is_torn small 3 (names 1) (block 3 1) (whole_is 3 1 (omega arith) (omega arith) (omega arith))

torn_to_nothing : IsTornOver small 3 (names 1) zero_block
torn_to_nothing = earlier_is_torn small 3 (names 1) zero_block (none_in_zeros 3)

torn_in_front : IsTornOver small 3 (names 1) stale
torn_in_front number below = elim (cases_lt number 1) [
  | inl first ↦ let zero_is : number ≡ 0 = omega (arith, first) in inr (λ s h entries is. absurd (no_journal_sector 1 0 s h entries (omega arith)
      (subst (λ (bytes : List ℕ). IsSector 1 0 bytes s h entries) front_zeros (subst (λ (n : ℕ). IsSector 1 n (sector n stale) s h entries) zero_is is))))
  | inr behind ↦ inl (stale_sector number behind below)
]

torn_over_another : IsTornOver small 3 (names 2) (block 3 1) → ⊥
torn_over_another torn = elim (torn 0 (omega arith)) [
  | inl new ↦ let same = (only_sector 3 1 3 2 (entries_in 0 one) (omega arith) (omega arith) (omega arith) new).1 in omega (arith, same)
  | inr old ↦ let less = old 3 1 one (has_sector 3 1 (omega arith) (omega arith) (omega arith)) in omega (arith, less)
]

-- The ring.
ring_of_none : IsRing small 1 []
ring_of_none = record { head = omega arith; newest = λ some. absurd (omega (arith, some)); ring = omega arith; reach = omega arith }

ring_of_seven : IsRing small 1 (names 1 ∷ names 1 ∷ names 1 ∷ names 1 ∷ names 1 ∷ names 1 ∷ names 1 ∷ [])
ring_of_seven = record { head = omega arith; newest = λ some. omega arith; ring = omega arith; reach = omega arith }

-- head: not before the first sequence
ring_before_first : IsRing small 5 (names 4 ∷ []) → ⊥
ring_before_first ring = let head = ring.head in omega (arith, head)

-- newest: not behind the newest block
ring_behind_newest : IsRing small 1 (names 2 ∷ []) → ⊥
ring_behind_newest ring = let newest = ring.newest (omega arith) in omega (arith, newest)

-- ring: with eight blocks the next one would overwrite the head
ring_of_eight : IsRing small 1 (names 1 ∷ names 1 ∷ names 1 ∷ names 1 ∷ names 1 ∷ names 1 ∷ names 1 ∷ names 1 ∷ []) → ⊥
ring_of_eight ring = let full = ring.ring in omega (arith, full)

ring_of_the_last : (blocks : List Sealed) → length blocks ≡ 2 ^ 32 → head_of 1 blocks ≡ 2 ^ 32 → IsRing small 1 blocks
ring_of_the_last blocks many named = record { head = omega (arith, named); newest = λ some. omega (arith, many, named); ring = omega (arith, many, named); reach = omega (arith, many) }

ring_out_of_reach : (blocks : List Sealed) → length blocks ≡ 2 ^ 32 + 1 → IsRing small 1 blocks → ⊥
ring_out_of_reach blocks many ring = let reach = ring.reach in omega (arith, many, reach)

-- A device of zeros: its journal is at rest, and has no block.
abbrev pub empty : Blocks
empty = zero_block ∷ zero_block ∷ zero_block ∷ zero_block ∷ zero_block ∷ zero_block ∷ zero_block ∷ zero_block ∷ zero_block ∷ []

pub empty_rests : IsAtRest empty [] small 1 []
empty_rests = record {
  some = omega arith;
  ring = ring_of_none;
  whole = tt;
  none = of_eight (λ slot. Surely empty [] (block_of_slot slot) (HasNothingLater small 1))
      (none_in_zeros 1, tt) (none_in_zeros 1, tt) (none_in_zeros 1, tt) (none_in_zeros 1, tt) (none_in_zeros 1, tt) (none_in_zeros 1, tt) (none_in_zeros 1, tt) (none_in_zeros 1, tt);
}

-- Its first block is written, and flushed.
abbrev pub wrote : List Call
wrote = Write (pbn 2) (block 1 1) true ∷ []

pub wrote_is : IsUnderWay empty wrote small 1 [] (names 1)
wrote_is = begins empty [] small 1 [] (names 1) (pbn 2) (block 1 1) true refl first_sealed (whole_is 1 1 (omega arith) (omega arith) (omega arith)) empty_rests

written_is : IsWritten empty wrote small 1 [] (names 1)
written_is = is_written empty [] small 1 [] (names 1) (pbn 2) (block 1 1) refl (whole_is 1 1 (omega arith) (omega arith) (omega arith))

pub flushed_is : IsAtRest empty (Flush true ∷ wrote) small 1 (names 1 ∷ [])
flushed_is = ends empty wrote small 1 [] (names 1) written_is wrote_is

-- it isn't written where the write failed: a read may give what was there
failed_is_not : IsWritten empty (Write (pbn 2) (block 1 1) false ∷ []) small 1 [] (names 1) → ⊥
failed_is_not is = zeros_not_whole 1 1 is.1.0

-- Blocks that stand whole.
stands_flushed : StandWhole empty (Flush true ∷ wrote) small 1 1 (names 1 ∷ [])
stands_flushed = flushed_is.whole

stands_not_yet : StandWhole empty wrote small 1 1 (names 1 ∷ []) → ⊥
stands_not_yet stands = zeros_not_whole 1 1 (stands.0 (omega arith)).2.1.0

-- one below the head may be overwritten
stands_below : StandWhole empty [] small 1 2 (names 1 ∷ [])
stands_below = (λ reached. absurd (omega (arith, reached)), tt)

-- its entries are of the image, and fill no more than a block
stands_past_size : StandWhole empty (Flush true ∷ wrote) (record small { logical = 5 }) 1 1 (names 1 ∷ []) → ⊥
stands_past_size stands = let each = (stands.0 (omega arith)).1 in let below = (All-head (IsOfImage (record small { logical = 5 })) (maps 86) [] each).0 in omega (arith, below)

stands_full : (log : List Call) (big : Sealed) → length big.entries ≡ 192 → All (IsOfImage small) big.entries → Surely empty log (ring_slot_of small 1) (IsWhole small 1 big)
    → StandWhole empty log small 1 1 (big ∷ [])
stands_full log big many each whole = (λ reached. (omega (arith, many), each, whole), tt)

stands_too_long : (entries : List Entry) → length entries ≡ 193 → (log : List Call) → StandWhole empty log small 1 1 (record { head = 1; entries = entries } ∷ []) → ⊥
stands_too_long entries many log stands = let few = (stands.0 (omega arith)).0 in omega (arith, many, few)

-- At rest. some: sequences begin with 1
rest_from_none : IsAtRest empty [] small 0 [] → ⊥
rest_from_none rest = let some = rest.some in omega (arith, some)

-- ring: not with a full ring
rest_of_eight : (log : List Call) → IsAtRest empty log small 1 (names 1 ∷ names 1 ∷ names 1 ∷ names 1 ∷ names 1 ∷ names 1 ∷ names 1 ∷ names 1 ∷ []) → ⊥
rest_of_eight log rest = ring_of_eight rest.ring

-- whole: not before the flush
rest_before_flush : IsAtRest empty wrote small 1 (names 1 ∷ []) → ⊥
rest_before_flush rest = stands_not_yet rest.whole

-- none: not without a block that is there
rest_without_block : IsAtRest empty (Flush true ∷ wrote) small 1 [] → ⊥
rest_without_block rest =
    let less = (rest.none 1 (omega arith)).0 0 (omega arith) 1 1 one (has_sector 1 1 (omega arith) (omega arith) (omega arith)) in omega (arith, less)

-- Under way. some, ring
way_from_none : (log : List Call) (next : Sealed) → IsUnderWay empty log small 0 [] next → ⊥
way_from_none log next way = let some = way.some in omega (arith, some)

way_of_eight : (log : List Call) (next : Sealed) → IsUnderWay empty log small 1 (names 1 ∷ names 1 ∷ names 1 ∷ names 1 ∷ names 1 ∷ names 1 ∷ names 1 ∷ names 1 ∷ []) next → ⊥
way_of_eight log next way = ring_of_eight way.ring

-- is_sealed: not a block that can't be sealed
way_of_no_block : (log : List Call) → IsUnderWay empty log small 1 [] (names 2) → ⊥
way_of_no_block log way = let below = way.is_sealed.holds.head_below in omega (arith, below)

-- whole: not while a block before it isn't whole
way_behind_torn : IsUnderWay empty wrote small 1 (names 1 ∷ []) (names 1) → ⊥
way_behind_torn way = stands_not_yet way.whole

-- here: not with another block of its sequence
way_of_another : IsUnderWay empty (Write (pbn 2) (block 1 0) true ∷ []) small 1 [] (names 1) → ⊥
way_of_another way = elim (way.here.0 0 (omega arith)) [
  | inl new ↦ let same = (only_sector 1 0 1 1 (entries_in 0 one) (omega arith) (omega arith) (omega arith) new).1 in omega (arith, same)
  | inr old ↦ let less = old 1 0 one (has_sector 1 0 (omega arith) (omega arith) (omega arith)) in omega (arith, less)
]

-- none: not with a later block elsewhere
way_with_later : IsUnderWay empty (Write (pbn 3) (block 2 1) true ∷ wrote) small 1 [] (names 1) → ⊥
way_with_later way =
    let less = (way.none 2 (omega arith) (λ same. omega (arith, same))).0 0 (omega arith) 2 1 one (has_sector 2 1 (omega arith) (omega arith) (omega arith)) in omega (arith, less)
