-- Counts: for each definition a small image, or a part of one, that it accepts, and one that it refuses.
use Rattle.std.proofs.Common.{ℕ, ◌≡◌, ◌+◌, ◌==◌, ◌<◌, if◌then◌else◌, List, [], ◌∷◌, ◌++◌, length, replicate, get_or, Contains, Ok, Err, refl, sym, ap, subst, inl, inr, arith}
use Rattle.blk_base.specs.Sectors.{sector, zero_block}
use Rattle.blk_base.specs.declared.journal_entry.CommittedEntry.{CommittedEntry}
use Rattle.blk_base.specs.declared.journal_entry.Entry.TheVariants.{NewPage}
use Rattle.blk_base.specs.declared.place.Mapping.{Mapping}
use Rattle.blk_base.specs.declared.place.Mapping.TheVariants.{Unmapped, Zero, At}
use Rattle.blk_base.specs.declared.place.Pbn.{Pbn}
use Rattle.blk_base.specs.Forms.{page, pbn}
use Rattle.blk_base.proofs.Example.{place}
use Rattle.byte_fields.specs.Fields.{number_at}
use Rattle.slab_codec.specs.Grammar.{IsSlabSector}
use Rattle.slab_codec.specs.BlockBytes.{entries_in}
use Rattle.slab_codec.specs.declared.forms.SlabEntry.{SlabEntry}
use Rattle.slab_codec.proofs.ReadLaws.{written, one_reading}
use Rattle.slab_codec.specs.Updates.{slab_entry as kept}
use Rattle.image_model.specs.Counts.{leads_to, mapped_below, HasMappings, counter_of, commit_of, IsKept, Updates, IsUpdate, AreRising, AreUpdates, count_after, count_from, Stores}
use Rattle.image_model.specs.Maps.{Image, mapping_of, IsTreePage}
use Rattle.image_model.specs.Pages.{address_count}
use Rattle.image_model.proofs.CountLaws.{is_first_or_behind, none_in_nothing, one_list_of_updates, one_stored}
use Rattle.image_model.proofs.Example.{small}
use Rattle.image_model.proofs.MapExample.{image as mapped_image}
use Rattle.image_model.proofs.ZeroLaws.{no_slab_sector, of_eight}
use Rattle.image_model.proofs.CountExample.{slab_block, journaled, holds, kept_is, remap, newest, oldest, updated}

-- How many slots all leaves have: 60 × 812 × 812, and once more by 812 at height 3.
addresses : address_count small ≡ 39560640
unfolding address_count
addresses = refl

addresses_high : address_count (record small { height = 3 }) ≡ 32123239680
unfolding address_count
addresses_high = refl

-- How many addresses lead to a block: 5 and 7 to 86, 6 to zeros.
abbrev mappings : ℕ → Mapping
mappings address = if address == 5 then At (pbn 86) else (if address == 6 then Zero else (if address == 7 then At (pbn 86) else Unmapped))

both_count : mapped_below mappings (pbn 86) 8 ≡ 2
unfolding mapped_below
both_count = refl

one_counts : mapped_below mappings (pbn 86) 7 ≡ 1
unfolding mapped_below
one_counts = refl

none_counts : mapped_below mappings (pbn 87) 8 ≡ 0
unfolding mapped_below
none_counts = refl

-- A linked page is one more: the leaf at 85.
leaf_is_page : IsTreePage (mapped_image []) (pbn 85)
unfolding number_at
leaf_is_page = (page 0 0 0, omega arith, refl)

page_counts : (n : ℕ) → HasMappings (mapped_image []) (pbn 85) n → n ≡ mapped_below (mapping_of (mapped_image [])) (pbn 85) (address_count small) + 1
page_counts n has = let sum = has.sum in elim has.one_page [
  | inl linked ↦ let one = linked.0 in omega (arith, sum, one)
  | inr none ↦ absurd (none.1 leaf_is_page)
]

page_alone : (n : ℕ) → (IsTreePage (mapped_image []) (pbn 86) → ⊥) → HasMappings (mapped_image []) (pbn 86) n
    → n ≡ mapped_below (mapping_of (mapped_image [])) (pbn 86) (address_count small)
page_alone n other has = let sum = has.sum in elim has.one_page [
  | inl linked ↦ absurd (other linked.1)
  | inr none ↦ let zero_is = none.0 in omega (arith, sum, zero_is)
]

-- A reference sector: its commit point, 1024, and its counters.
abbrev pub counters : List ℕ
counters = 0 ∷ 4 ∷ 0 ∷ 0 ∷ 0 ∷ 0 ∷ 0 ∷ 0 ∷ 1 ∷ 2 ∷ []

-- in the default sizes it stands at 149
abbrev pub counted : Image
counted = record { geometry = small; blocks = replicate 149 [] ++ counters ∷ []; window = [] }

commit_is : commit_of counted (place 1) ≡ 1024
unfolding number_at
commit_is = refl

counter_is : counter_of counted (place 1) ≡ 2
unfolding number_at
counter_is = refl

-- offset 504 is the first one of sector 1
abbrev second_sector : Image
second_sector = record { geometry = record small { slab_blocks = 600 }; blocks = replicate 685 [] ++ (replicate 512 0 ++ counters) ∷ []; window = [] }

counter_of_second : counter_of second_sector (place 504) ≡ 1
unfolding number_at
counter_of_second = refl

commit_of_second : commit_of second_sector (place 504) ≡ 1024
unfolding number_at
commit_of_second = refl

commit_of_first : commit_of second_sector (place 503) ≡ 0
unfolding number_at
commit_of_first = refl

-- and offset 4032 the first one of the second block
abbrev second_block : Image
second_block = record { geometry = record small { slab_blocks = 5000 }; blocks = replicate 5086 [] ++ counters ∷ []; window = [] }

counter_of_second_block : counter_of second_block (place 4033) ≡ 2
unfolding number_at
counter_of_second_block = refl

-- nothing else is kept there: the other sectors of the block have no entries, and zeros are no block
in_one : (x y : SlabEntry) → Contains (x ∷ []) y → x ≡ y
in_one x y has = elim (is_first_or_behind x [] y has) [ inl same ↦ same | inr behind ↦ absurd (none_in_nothing y behind) ]

in_sector : (entry : SlabEntry) (number : ℕ) → number < 8 → Contains (entries_in number (kept 1536 1 ∷ [])) entry → kept 1536 1 ≡ entry
in_sector entry number below =
    of_eight (λ n. Contains (entries_in n (kept 1536 1 ∷ [])) entry → kept 1536 1 ≡ entry)
    (λ has. in_one (kept 1536 1) entry has)
    (λ has. absurd (none_in_nothing entry has)) (λ has. absurd (none_in_nothing entry has)) (λ has. absurd (none_in_nothing entry has))
    (λ has. absurd (none_in_nothing entry has)) (λ has. absurd (none_in_nothing entry has)) (λ has. absurd (none_in_nothing entry has))
    (λ has. absurd (none_in_nothing entry has))
    number below

abbrev Only : SlabEntry → ℕ → ℕ → Type 0
Only entry number slot = (s : ℕ) (entries : List SlabEntry) → slot < 4
    → IsSlabSector 1 0 64 number (sector number (get_or journaled (150 + slot) zero_block)) s entries → Contains entries entry → kept 1536 1 ≡ entry

only_zeros : (entry : SlabEntry) (number : ℕ) → number < 8 → (s : ℕ) (entries : List SlabEntry)
    → IsSlabSector 1 0 64 number (sector number zero_block) s entries → Contains entries entry → kept 1536 1 ≡ entry
only_zeros entry number below s entries is has = absurd (no_slab_sector 1 0 64 number s entries below is)

pub kept_only : (entry : SlabEntry) → IsKept small journaled 0 entry → kept 1536 1 ≡ entry
kept_only entry is =
    let number = is.number in
    let below = is.inside.1 in
    of_eight (Only entry number)
    (λ s entries slot valid has. only_zeros entry number below s entries valid has)
    (λ s entries slot valid has. in_sector entry number below
    (subst (λ (es : List SlabEntry). Contains es entry)
    (one_reading 1 0 64 number (sector number slab_block) s 0 entries (entries_in number (kept 1536 1 ∷ [])) valid
    (written 1 0 64 0 (kept 1536 1 ∷ []) number holds below)).1 has))
    (λ s entries slot valid has. only_zeros entry number below s entries valid has)
    (λ s entries slot valid has. only_zeros entry number below s entries valid has)
    (λ s entries slot valid has. absurd (omega (arith, slot))) (λ s entries slot valid has. absurd (omega (arith, slot)))
    (λ s entries slot valid has. absurd (omega (arith, slot))) (λ s entries slot valid has. absurd (omega (arith, slot)))
    is.slot (let inside = is.inside.0 in omega (arith, inside)) is.sequence is.entries is.inside.0 is.valid is.listed

adds : Updates (remap (At (pbn 86)) (At (pbn 87))) (pbn 87) 512
adds = inl (refl, refl)

takes : Updates (remap (At (pbn 86)) (At (pbn 87))) (pbn 86) 513
takes = inr (refl, refl)

adds_at_its_point : Updates (remap (At (pbn 86)) (At (pbn 87))) (pbn 87) 513 → ⊥
adds_at_its_point (inl new) = let same = new.1 in omega (arith, same)
adds_at_its_point (inr old) = let same = ap (leads_to (pbn 87)) old.0 in absurd (cc same)

takes_at_the_next : Updates (remap (At (pbn 86)) (At (pbn 87))) (pbn 86) 512 → ⊥
takes_at_the_next (inl new) = let same = ap (leads_to (pbn 86)) new.0 in absurd (cc same)
takes_at_the_next (inr old) = let same = old.1 in omega (arith, same)

nothing_of_zeros : (block : Pbn) (point : ℕ) → Updates (remap Unmapped Zero) block point → ⊥
nothing_of_zeros block point (inl new) = absurd (let leads = new.0 in cc leads)
nothing_of_zeros block point (inr old) = absurd (let leads = old.0 in cc leads)

page_adds : Updates (record { entry = NewPage (page 0 0 0) (pbn 85); point = record { 0 = 512 } }) (pbn 85) 512
page_adds = (refl, refl)

page_takes_nothing : Updates (record { entry = NewPage (page 0 0 0) (pbn 85); point = record { 0 = 512 } }) (pbn 85) 513 → ⊥
page_takes_nothing is = let same = is.1 in omega (arith, same)

-- Points in a list rise.
rise : AreRising (512 ∷ 515 ∷ 1024 ∷ [])
rise = ((omega arith, (omega arith, tt)), ((omega arith, tt), (tt, tt)))

rise_once : AreRising (512 ∷ 512 ∷ []) → ⊥
rise_once rising = let more = rising.0.0 in omega (arith, more)

rise_not_fall : AreRising (512 ∷ 1024 ∷ 515 ∷ []) → ⊥
rise_not_fall rising = let more = rising.1.0.0 in omega (arith, more)

commit_is_none : commit_of updated (place 1) ≡ 0
unfolding zero_block number_at
commit_is_none = refl

of_newest : (point : ℕ) → Updates newest (pbn 86) point → Contains (1536 ∷ 2049 ∷ []) point
of_newest point (inl new) = absurd (let leads = new.0 in cc leads)
of_newest point (inr old) = let same : 2049 ≡ point = omega (arith, old.1) in subst (λ (p : ℕ). Contains (1536 ∷ 2049 ∷ []) p) same (1, omega arith, refl)

of_oldest : (point : ℕ) → Updates oldest (pbn 86) point → Contains (1536 ∷ 2049 ∷ []) point
of_oldest point (inl new) = let same : 1536 ≡ point = omega (arith, new.1) in subst (λ (p : ℕ). Contains (1536 ∷ 2049 ∷ []) p) same (0, omega arith, refl)
of_oldest point (inr old) = absurd (let leads = old.0 in cc leads)

of_window : (committed : CommittedEntry) (point : ℕ) → Contains (newest ∷ oldest ∷ []) committed → Updates committed (pbn 86) point → Contains (1536 ∷ 2049 ∷ []) point
of_window committed point has is = elim (is_first_or_behind newest (oldest ∷ []) committed has) [
  | inl first ↦ of_newest point (subst (λ (c : CommittedEntry). Updates c (pbn 86) point) (sym first) is)
  | inr behind ↦ elim (is_first_or_behind oldest [] committed behind) [
    | inl second ↦ of_oldest point (subst (λ (c : CommittedEntry). Updates c (pbn 86) point) (sym second) is)
    | inr none ↦ absurd (none_in_nothing committed none)
  ]
]

updates_are : AreUpdates updated (place 1) (1536 ∷ 2049 ∷ [])
updates_are = record {
  rising = ((omega arith, tt), (tt, tt));
  each = λ point. (
    (λ has. elim (is_first_or_behind 1536 (2049 ∷ []) point has) [
      | inl first ↦ (let none = commit_is_none in omega (arith, none, first), subst (λ (p : ℕ). IsUpdate updated (place 1) p) first (inl kept_is))
      | inr behind ↦ elim (is_first_or_behind 2049 [] point behind) [
        | inl second ↦ (let none = commit_is_none in omega (arith, none, second), subst (λ (p : ℕ). IsUpdate updated (place 1) p) second (inr (newest, (0, omega arith, refl), inr (refl, refl))))
        | inr none ↦ absurd (none_in_nothing point none)
      ]
    ]),
    (λ is. elim is.1 [
      | inl in_slab ↦ let same : 1536 ≡ point = ap (λ (e : SlabEntry). e.point.0) (kept_only (kept point 1) in_slab) in
          subst (λ (p : ℕ). Contains (1536 ∷ 2049 ∷ []) p) same (0, omega arith, refl)
      | inr in_window ↦ of_window in_window.0 point in_window.1 in_window.2
    ]),
  );
}

-- each: an update isn't taken twice, nor left out
updates_once : AreUpdates updated (place 1) (1536 ∷ 1536 ∷ 2049 ∷ []) → ⊥
updates_once are = let size = ap length (one_list_of_updates updated (place 1) (1536 ∷ 1536 ∷ 2049 ∷ []) (1536 ∷ 2049 ∷ []) are updates_are) in omega (arith, size)

updates_all : AreUpdates updated (place 1) (1536 ∷ []) → ⊥
updates_all are = let size = ap length (one_list_of_updates updated (place 1) (1536 ∷ []) (1536 ∷ 2049 ∷ []) are updates_are) in omega (arith, size)

-- Its stored count: one is added and taken away again.
counter_is_none : counter_of updated (place 1) ≡ 0
unfolding zero_block number_at
counter_is_none = refl

stores_none : Stores updated (place 1) (Ok 0)
unfolding zero_block number_at
stores_none = record { points = 1536 ∷ 2049 ∷ []; updates = updates_are; counted = refl }

stores_not_one : Stores updated (place 1) (Ok 1) → ⊥
stores_not_one stores = absurd (let same = one_stored updated (place 1) (Ok 1) (Ok 0) stores stores_none in cc same)

-- Counts: in the order of points, within 0 and the limit at each.
count_up_and_down : count_after 254 1 (512 ∷ 515 ∷ 517 ∷ []) ≡ Ok 0
count_up_and_down = refl

count_at_limit : count_after 254 253 (512 ∷ []) ≡ Ok 254
count_at_limit = refl

count_past_limit : count_after 254 253 (512 ∷ 514 ∷ []) ≡ Err 514
count_past_limit = refl

count_below_none : count_after 254 0 (512 ∷ 515 ∷ 517 ∷ []) ≡ Err 517
count_below_none = refl

count_in_order : count_after 254 254 (512 ∷ 515 ∷ []) ≡ Err 512
count_in_order = refl

count_from_limit : count_from 254 1024 254 [] ≡ Ok 254
count_from_limit = refl

count_from_past_limit : count_from 254 1024 255 (1537 ∷ []) ≡ Err 1024
count_from_past_limit = refl
