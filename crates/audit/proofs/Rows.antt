-- For each definition a small case that it accepts, and one that it refuses.
use Rattle.std.proofs.Common.{ℕ, zero, suc, ◌≡◌, ◌+◌, ◌<◌, ◌≤◌, Bool, true, List, [], ◌∷◌, All, length, Contains, reverse, slice_index, refl, ◌∙◌, ap, subst, inl, inr, arith, length-append}
use Rattle.std.specs.BTreeMap.{BTreeMap, is_at}
use Rattle.std.specs.Map.{lookup}
use Rattle.std.specs.Ordering.{nat_cmp}
use Rattle.std.specs.Prelude.{unwrap_or}
use Rattle.blk_base.specs.Counters.{limit_of}
use Rattle.blk_base.specs.declared.geometry.Geometry.{Geometry}
use Rattle.blk_base.specs.declared.geometry.Super.{Super as Superblock}
use Rattle.blk_base.specs.declared.place.Pbn.{Pbn}
use Rattle.blk_base.specs.Forms.{pbn}
use Rattle.blk_base.specs.Regions.{data_blocks}
use Rattle.count_updates.specs.Numbers.{all_sectors}
use Rattle.disk_model.specs.Seen.{Seen}
use Rattle.disk_model.specs.Trust.{Trust, trust_of}
use Rattle.disk_model.specs.Since.{reads_of}
use Rattle.image_model.proofs.CountLaws.{none_in_nothing}
use Rattle.image_model.proofs.Example.{small}
use Rattle.image_model.specs.Maps.{Image, ArePagesGood}
use Rattle.image_model.specs.Sound.{AreStored, AreUnshared}
use Rattle.image_model.specs.declared.fault.ImageFault.TheVariants.{Window, Counts, Unclean}
use Rattle.journal_window.specs.States.{WindowState}
use Rattle.replay_map.specs.declared.links.Link.{Link}
use Rattle.audit.specs.Audits.{AreBothRead, AuditWithFails, IsOpenedTo}
use Rattle.audit.specs.Reads.{AreContents}
use Rattle.audit.specs.Reports.{AreRising, AreUsed, Differs, HasNoFault, IsReport}
use Rattle.audit.specs.Tallies.{AreNumbers, AreTallied, IsChanged, IsLinked, IsSplit, Tallies, differences_below, more_of, number_in, place_of_number, used_in}
use Rattle.audit.specs.declared.forms.Contents.{Contents}
use Rattle.audit.specs.declared.forms.Difference.{Difference}
use Rattle.audit.specs.declared.forms.Report.{Report}
use Rattle.audit.specs.declared.tallies.MappingCounts.{MappingCounts}

-- Numbers of blocks. A leaf stands at 85.
abbrev leaf : Link
leaf = record { page = record { tree = 0; level = 0; index = 0 }; at = pbn 85 }

linked : IsLinked (leaf ∷ []) (pbn 85)
linked = (leaf, (0, omega arith, refl), refl)

not_linked : IsLinked (leaf ∷ []) (pbn 86) → ⊥
not_linked (link, (zero, inside, is), at) = let block = ap (λ (l : Link). l.at.0) is in let here = ap (λ (b : Pbn). b.0) at in omega (arith, block, here)
not_linked (link, (suc k, inside, is), at) = omega (arith, inside)

page_and_address : Tallies (leaf ∷ []) (pbn 86 ∷ pbn 85 ∷ pbn 86 ∷ []) (pbn 85) 2
page_and_address = record { pages = 1; one_page = inl (refl, linked); sum = refl }

two_addresses : Tallies (leaf ∷ []) (pbn 86 ∷ pbn 85 ∷ pbn 86 ∷ []) (pbn 86) 2
two_addresses = record { pages = 0; one_page = inr (refl, not_linked); sum = refl }

-- one_page: a page counts one
page_left_out : Tallies (leaf ∷ []) [] (pbn 85) 0 → ⊥
page_left_out is = let sum = is.sum in elim is.one_page [
  | inl one ↦ let pages = one.0 in omega (arith, sum, pages)
  | inr none ↦ none.1 linked
]

-- sum: and each address does
address_left_out : Tallies [] (pbn 86 ∷ pbn 86 ∷ []) (pbn 86) 1 → ⊥
address_left_out is = let sum : 1 ≡ 2 + is.pages = is.sum in omega (arith, sum)

-- each block has the right number
first_is_one : (counts : List ℕ) → AreNumbers small [] [] (slice_index (1 ∷ counts)) → ⊥
first_is_one counts are =
    let is = are (record { slab = 0; offset = 0 }) (omega arith, omega arith) in
    let sum : 1 ≡ 0 + is.pages = is.sum in
    elim is.one_page [
      | inl one ↦ none_in_nothing one.1.0 one.1.1
      | inr none ↦ let pages = none.0 in omega (arith, sum, pages)
    ]

-- size, each: of a list, which has as many
too_few : AreTallied small [] [] [] → ⊥
too_few are = let size = are.size in omega (arith, size)

wrong_in_list : (counts : List ℕ) → AreTallied small [] [] (1 ∷ counts) → ⊥
wrong_in_list counts are = first_is_one counts are.each

-- here, others: the number of block 86 is changed, and no other
not_changed : (numbers : List ℕ) → IsChanged small (pbn 86) (λ n. n + 1) (slice_index (0 ∷ 5 ∷ numbers)) (slice_index (0 ∷ 5 ∷ numbers)) → ⊥
not_changed numbers is = let same : 5 ≡ 6 = is.here (record { slab = 0; offset = 1 }) (omega arith, omega arith) refl in omega (arith, same)

another_changed : (numbers : List ℕ) → IsChanged small (pbn 86) (λ n. n + 1) (slice_index (0 ∷ 5 ∷ numbers)) (slice_index (1 ∷ 6 ∷ numbers)) → ⊥
another_changed numbers is =
    let same : 1 ≡ 0 = is.others (record { slab = 0; offset = 0 }) (omega arith, omega arith) (λ block. let number = ap (λ (b : Pbn). b.0) block in omega (arith, number)) in
    omega (arith, same)

-- What a byte holds, and the map beyond it.
more_is : (more : BTreeMap ℕ ℕ) → more.entries ≡ (3, 2) ∷ [] → more_of more 3 ≡ 2
more_is more same = ap (λ (entries : List (ℕ × ℕ)). unwrap_or (lookup (is_at (nat_cmp 3)) entries) 0) same

more_of_another : (more : BTreeMap ℕ ℕ) → more.entries ≡ (3, 2) ∷ [] → more_of more 4 ≡ 0
more_of_another more same = ap (λ (entries : List (ℕ × ℕ)). unwrap_or (lookup (is_at (nat_cmp 4)) entries) 0) same

byte_and_more : (tally : MappingCounts) → tally.low.items ≡ 255 ∷ [] → more_of tally.more 0 ≡ 2 → number_in tally 0 ≡ 257
byte_and_more tally low more = let byte = ap (λ (xs : List ℕ). slice_index xs 0) low in omega (arith, byte, more)

byte_alone : (tally : MappingCounts) → tally.low.items ≡ 255 ∷ [] → more_of tally.more 0 ≡ 2 → number_in tally 0 ≡ 255 → ⊥
byte_alone tally low more is = let byte = ap (λ (xs : List ℕ). slice_index xs 0) low in omega (arith, byte, more, is)

more_behind_the_greatest : (tally : MappingCounts) → tally.low.items ≡ 255 ∷ [] → ((n : ℕ) → 0 < n → more_of tally.more n ≡ 0) → IsSplit tally
more_behind_the_greatest tally low nowhere zero less = absurd (let byte = ap (λ (xs : List ℕ). slice_index xs 0) low in omega (arith, byte, less))
more_behind_the_greatest tally low nowhere (suc n) less = nowhere (suc n) (omega arith)

more_behind_another : (tally : MappingCounts) → tally.low.items ≡ 254 ∷ [] → more_of tally.more 0 ≡ 2 → IsSplit tally → ⊥
more_behind_another tally low more split =
    let byte = ap (λ (xs : List ℕ). slice_index xs 0) low in
    let none = split 0 (omega (arith, byte)) in omega (arith, more, none)

-- The data blocks in their order, and those that differ.
last_of_slab : place_of_number (record small { slabs = 2 }) 63 ≡ record { slab = 0; offset = 63 }
last_of_slab = refl

first_of_next : place_of_number (record small { slabs = 2 }) 64 ≡ record { slab = 1; offset = 0 }
first_of_next = refl

second_differs : differences_below small (1 ∷ 2 ∷ 3 ∷ []) (slice_index (1 ∷ 3 ∷ 4 ∷ [])) 2 ≡ record { at = pbn 86; stored = 2; mapped = 3 } ∷ []
second_differs = refl

none_differs : differences_below small (1 ∷ 2 ∷ []) (slice_index (1 ∷ 2 ∷ [])) 2 ≡ []
none_differs = refl

two_used : used_in (0 ∷ 3 ∷ 1 ∷ []) ≡ 2
two_used = refl

-- Reports. apart: equal numbers are no difference; stands: it is named by its block, which is a data block
equal_numbers : (image : Image) → Differs image (record { at = pbn 86; stored = 2; mapped = 2 }) → ⊥
equal_numbers image is = is.apart refl

no_data_block : (image : Image) → Differs image (record { at = pbn 0; stored = 2; mapped = 1 }) → ⊥
no_data_block image is = let block = ap (λ (b : Pbn). b.0) is.stands in omega (arith, block)

abbrev at : ℕ → Difference
at n = record { at = pbn n; stored = 1; mapped = 2 }

they_rise : AreRising (at 85 ∷ at 87 ∷ at 90 ∷ [])
they_rise = ((omega arith, (omega arith, tt)), ((omega arith, tt), (tt, tt)))

they_fall : AreRising (at 85 ∷ at 90 ∷ at 87 ∷ []) → ⊥
they_fall rising = let less = rising.1.0.0 in omega (arith, less)

named_twice : AreRising (at 85 ∷ at 85 ∷ []) → ⊥
named_twice rising = let less = rising.0.0 in omega (arith, less)

-- size: how many are used is counted of all data blocks
used_of_none : (image : Image) (used : ℕ) → image.geometry ≡ small → (are : AreUsed image used) → are.counts ≡ [] → ⊥
used_of_none image used same are none =
    let size = are.size in
    let all = ap data_blocks same in
    let length_is = ap length none in
    omega (arith, size, all, length_is)

-- sum: and so many
used_otherwise : (image : Image) → (are : AreUsed image 3) → are.counts ≡ 0 ∷ 3 ∷ 1 ∷ [] → ⊥
used_otherwise image are same = let sum = are.sum ∙ ap used_in same in omega (arith, sum)

-- right: there is none of an image with a fault of its pages, of its counts, or of a block that is shared
right_of_all : (image : Image) → ArePagesGood image → AreStored image → AreUnshared image → HasNoFault image
right_of_all image pages stored unshared = record { pages = pages; stored = stored; unshared = unshared }

of_bad_pages : (image : Image) (report : Report) → (ArePagesGood image → ⊥) → IsReport image report → ⊥
of_bad_pages image report bad is = bad is.right.pages

of_bad_counts : (image : Image) (report : Report) → (AreStored image → ⊥) → IsReport image report → ⊥
of_bad_counts image report bad is = bad is.right.stored

of_shared_blocks : (image : Image) (report : Report) → (AreUnshared image → ⊥) → IsReport image report → ⊥
of_shared_blocks image report shared is = shared is.right.unshared

-- each: a block that differs is listed, and no other
left_out : (image : Image) (report : Report) (difference : Difference) → Differs image difference → report.differs.items ≡ [] → IsReport image report → ⊥
left_out image report difference differs none is =
    none_in_nothing difference (subst (λ (ds : List Difference). Contains ds difference) none ((is.each difference).1 differs))

listed_wrongly : (image : Image) (report : Report) (difference : Difference) → (Differs image difference → ⊥) → Contains report.differs.items difference → IsReport image report → ⊥
listed_wrongly image report difference same has is = same ((is.each difference).0 has)

-- rising
out_of_order : (image : Image) (report : Report) → report.differs.items ≡ at 90 ∷ at 85 ∷ [] → IsReport image report → ⊥
out_of_order image report list is = let rising : AreRising (at 90 ∷ at 85 ∷ []) = subst AreRising list is.rising in let less = rising.0.0 in omega (arith, less)

-- all
one_too_few : (image : Image) (report : Report) → image.geometry ≡ small → report.total ≡ 63 → IsReport image report → ⊥
one_too_few image report same total is = let all = is.all ∙ ap data_blocks same in omega (arith, all, total)

-- What was read. All slabs are read.
no_slab_read : (trust : Trust) (head : Superblock) (seen : Seen) → head.geometry ≡ small → AreBothRead trust head seen seen [] [] → ⊥
no_slab_read trust head seen same are =
    let count = are.slabs_read.count in
    let slabs = ap (λ (g : Geometry). g.slabs) same in
    omega (arith, count, slabs)

-- Superblock and journal were read: a device that tells has them in its log.
not_opened : (honest : Bool) (head : Superblock) (window : WindowState) (seen : Seen) → IsOpenedTo (trust_of true honest) seen seen head window → ⊥
not_opened honest head window seen is =
    let first = ap length (is.head_read.read.logged refl) in
    let second = ap length (is.window_read.1.read.logged refl) in
    let more = length-append (reads_of 1 (reverse is.window_read.0)) is.middle.log in
    omega (arith, first, second, more)

-- Once both were read no fault of theirs comes, nor one that only other calls give.
no_super : (trust : Trust) (head : Superblock) (window : WindowState) (before now : Seen) → AuditWithFails trust head window before now (Window 7) → ⊥
no_super trust head window before now fails = fails

no_counts : (trust : Trust) (head : Superblock) (window : WindowState) (before now : Seen) → AuditWithFails trust head window before now (Counts (pbn 86) 2 1) → ⊥
no_counts trust head window before now fails = fails

not_unclean : (trust : Trust) (head : Superblock) (window : WindowState) (before now : Seen) → AuditWithFails trust head window before now Unclean → ⊥
not_unclean trust head window before now fails = fails

-- The map and the counts of an image. entries: as many as the window has; blocks, sectors: a count for each data block, and
-- points for each sector of counters; limit: no count above it
module _ (trust : Trust) (head : Superblock) (window : WindowState) (before now : Seen) (contents : Contents) (are : AreContents trust head window before now contents) where
  entries_miscounted : window.entries ≡ [] → contents.map.entries ≡ 7 → ⊥
  entries_miscounted none seven = let entries = are.entries in let empty = ap length none in omega (arith, entries, empty, seven)

  count_left_out : head.geometry ≡ small → length contents.counts.counts.items ≡ 63 → ⊥
  count_left_out same short = let blocks = are.blocks in let all = ap data_blocks same in omega (arith, blocks, all, short)

  points_left_out : head.geometry ≡ small → length contents.counts.sectors.items ≡ 0 → ⊥
  points_left_out same none = let sectors = are.sectors in let all = ap all_sectors same in omega (arith, sectors, all, none)

  count_past_limit : (others : List ℕ) → contents.counts.counts.items ≡ 255 ∷ others → ⊥
  count_past_limit others first =
      let all = subst (λ (counts : List ℕ). All (λ (count : ℕ). count ≤ limit_of head.geometry) counts) first are.limit in
      let within = all 0 0 (omega arith) in omega (arith, within)
