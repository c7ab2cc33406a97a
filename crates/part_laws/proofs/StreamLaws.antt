-- What a slab took as the first part of the stream of its updates.
use Rattle.std.proofs.Common.{ℕ, ◌≡◌, ◌+◌, ◌-◌, ◌<◌, ◌≤◌, ◌==◌, ◌&&◌, nat_le, nat_lt, Bool, true, false, if◌then◌else◌, List, [], ◌∷◌, ◌++◌, Contains, length, map, refl, sym, ◌∙◌, ap, ap₂, subst, inl, inr, arith, append_assoc}
use Rattle.std.specs.Prelude.{slice_index}
use Rattle.std.specs.List.{AllByRecursion}
use Rattle.std.proofs.lemmas.Bool.{cases_Bool, le-leb, leb-true, lt-ltb, ltb-true}
use Rattle.std.proofs.lemmas.Bool.Decides.{eqb_tells}
use Rattle.std.proofs.lemmas.List.{append-nil, map-append, reverse-append}
use Rattle.std.proofs.lemmas.List.Elements.{All-contains_itself, All-weaker}
use Rattle.blk_base.specs.Counters.{sector_of_offset, sectors_per_slab}
use Rattle.blk_base.specs.Regions.{slab_start_of}
use Rattle.blk_base.specs.declared.geometry.Geometry.{Geometry}
use Rattle.blk_base.specs.declared.journal_entry.CommittedEntry.{CommittedEntry}
use Rattle.blk_base.specs.declared.journal_entry.Entry.{Entry}
use Rattle.blk_base.specs.declared.journal_entry.Entry.TheVariants.{Remap, NewPage}
use Rattle.blk_base.specs.declared.journal_entry.Update.{Update}
use Rattle.blk_base.specs.declared.place.Mapping.{Mapping}
use Rattle.blk_base.specs.declared.place.Mapping.TheVariants.{Unmapped, Zero, At}
use Rattle.blk_base.specs.declared.place.Pbn.{Pbn}
use Rattle.blk_base.specs.declared.point.Point.{Point}
use Rattle.blk_base.specs.Forms.{place_in}
use Rattle.image_model.specs.Counts.{AreRising as NumbersRise, block_of_data, commit_at, counter_of}
use Rattle.image_model.specs.Maps.{Image}
use Rattle.image_model.proofs.CountLaws.{behind_is_above, is_behind, is_first, is_first_or_behind, none_in_nothing}
use Rattle.reference_blocks.specs.References.{point_at}
use Rattle.reference_blocks.specs.Updates.{AreRising}
use Rattle.slab_codec.specs.declared.forms.SlabEntry.{SlabEntry}
use Rattle.count_laws.specs.Points.{ArePointed, next_point, one_if, points_in, those_of, update_led, updates_by, updates_of}
use Rattle.count_laws.proofs.PointLaws.{all_append, all_more, by_above, by_below, by_rising, in_either, in_first, in_second, of_all, rising_append}
use Rattle.count_laws.proofs.PointLaws as points
use Rattle.count_laws.proofs.UpdateLaws.{owned_points, points_append, points_are}
use Rattle.part_laws.specs.Taken.{HasTaken, entries_taken, entry_of, in_slab, taken_at}

-- The points of a stream rise.

abbrev points_of : List Update → List ℕ
points_of updates = map (λ (u : Update). u.point.0) updates

abbrev is_block : Mapping → Bool
is_block Unmapped = false
is_block Zero = false
is_block (At block) = true

abbrev adds : Entry → Bool
adds (Remap at old new) = is_block new
adds (NewPage page at) = true

abbrev takes : Entry → Bool
takes (Remap at old new) = is_block old
takes (NewPage page at) = false

led_point : (m : Mapping) (p : ℕ) → points_of (update_led m p) ≡ one_if (is_block m) p
led_point Unmapped p = refl
led_point Zero p = refl
led_point (At x) p = refl

points_by_entry : (entry : Entry) (p : ℕ) → points_of (updates_by entry p) ≡ one_if (adds entry) p ++ one_if (takes entry) (p + 1)
points_by_entry (Remap at old new) p =
    map-append (λ (u : Update). u.point.0) (update_led new p) (update_led old (p + 1)) ∙ ap₂ (λ (ms ns : List ℕ). ms ++ ns) (led_point new p) (led_point old (p + 1))
points_by_entry (NewPage page at) p = refl

stream_points : (c : CommittedEntry) (older : List CommittedEntry) → points_of (updates_of (c ∷ older)) ≡ points_of (updates_of older) ++ (one_if (adds c.entry) c.point.0 ++ one_if (takes c.entry) (c.point.0 + 1))
stream_points c older =
    map-append (λ (u : Update). u.point.0) (updates_of older) (updates_by c.entry c.point.0) ∙ ap (λ (ns : List ℕ). points_of (updates_of older) ++ ns) (points_by_entry c.entry c.point.0)

stream_below : (from : ℕ) (entries : List CommittedEntry) → ArePointed from entries → AllByRecursion (λ m. m < next_point from entries) (points_of (updates_of entries))
stream_below from [] pointed = tt
stream_below from (c ∷ older) pointed =
    let here = pointed.0 in
    subst (λ (ns : List ℕ). AllByRecursion (λ m. m < c.point.0 + 2) ns) (sym (stream_points c older))
    (all_append (λ m. m < c.point.0 + 2) (points_of (updates_of older)) (one_if (adds c.entry) c.point.0 ++ one_if (takes c.entry) (c.point.0 + 1))
    (all_more (λ m. m < next_point from older) (λ m. m < c.point.0 + 2) (points_of (updates_of older)) (λ n less. omega (arith, less, here)) (stream_below from older pointed.2))
    (by_below (adds c.entry) (takes c.entry) c.point.0 (c.point.0 + 2) (omega arith)))

stream_above : (from : ℕ) (entries : List CommittedEntry) → ArePointed from entries → AllByRecursion (λ m. from ≤ m) (points_of (updates_of entries))
stream_above from [] pointed = tt
stream_above from (c ∷ older) pointed =
    let here = pointed.0 in
    let before = points.all_below_next from older pointed.2 in
    subst (λ (ns : List ℕ). AllByRecursion (λ m. from ≤ m) ns) (sym (stream_points c older))
    (all_append (λ m. from ≤ m) (points_of (updates_of older)) (one_if (adds c.entry) c.point.0 ++ one_if (takes c.entry) (c.point.0 + 1))
    (stream_above from older pointed.2) (by_above (adds c.entry) (takes c.entry) c.point.0 from (omega (arith, before, here))))

stream_rises : (from : ℕ) (entries : List CommittedEntry) → ArePointed from entries → NumbersRise (points_of (updates_of entries))
stream_rises from [] pointed = tt
stream_rises from (c ∷ older) pointed =
    subst NumbersRise (sym (stream_points c older))
    (rising_append (next_point from older) (points_of (updates_of older)) (one_if (adds c.entry) c.point.0 ++ one_if (takes c.entry) (c.point.0 + 1))
    (stream_rises from older pointed.2) (by_rising (adds c.entry) (takes c.entry) c.point.0) (stream_below from older pointed.2)
    (by_above (adds c.entry) (takes c.entry) c.point.0 (next_point from older) pointed.0))

-- So do those of some blocks, and each part of them.

those_all : (P : ℕ → Type 0) (owns : Pbn → Bool) (updates : List Update) → AllByRecursion P (points_of updates) → AllByRecursion P (points_of (those_of owns updates))
those_all P owns [] all = tt
those_all P owns (u ∷ later) all = elim (cases_Bool (owns u.at)) [
  | inl taken ↦ rw taken (all.0, those_all P owns later all.1)
  | inr passed ↦ rw passed (those_all P owns later all.1)
]

those_rise : (owns : Pbn → Bool) (updates : List Update) → NumbersRise (points_of updates) → NumbersRise (points_of (those_of owns updates))
those_rise owns [] rising = tt
those_rise owns (u ∷ later) rising = elim (cases_Bool (owns u.at)) [
  | inl taken ↦ rw taken (those_all (λ m. u.point.0 < m) owns later rising.0, those_rise owns later rising.1)
  | inr passed ↦ rw passed (those_rise owns later rising.1)
]

all_owned : (owns : Pbn → Bool) (updates : List Update) (u : Update) → Contains (those_of owns updates) u → owns u.at ≡ true
all_owned owns [] u has = absurd (none_in_nothing u has)
all_owned owns (top ∷ later) u has = elim (cases_Bool (owns top.at)) [
  | inl taken ↦ elim (is_first_or_behind top (those_of owns later) u (rw taken at has)) [
    | inl same ↦ ap (λ (v : Update). owns v.at) (sym same) ∙ taken
    | inr behind ↦ all_owned owns later u behind
  ]
  | inr passed ↦ all_owned owns later u (rw passed at has)
]

point_in : (updates : List Update) (u : Update) → Contains updates u → Contains (points_of updates) u.point.0
point_in [] u has = absurd (none_in_nothing u has)
point_in (top ∷ later) u has = elim (is_first_or_behind top later u has) [
  | inl same ↦ points.first_is top.point.0 (points_of later) u.point.0 (ap (λ (v : Update). v.point.0) same)
  | inr behind ↦ is_behind top.point.0 (points_of later) u.point.0 (point_in later u behind)
]

first_before : (first rest : List Update) → NumbersRise (points_of (first ++ rest)) → (u v : Update) → Contains first u → Contains rest v → u.point.0 < v.point.0
first_before [] rest rising u v has has_rest = absurd (none_in_nothing u has)
first_before (top ∷ later) rest rising u v has has_rest = elim (is_first_or_behind top later u has) [
  | inl same ↦
      let below = behind_is_above top.point.0 (points_of (later ++ rest)) v.point.0 rising.0 (point_in (later ++ rest) v (in_second later rest v has_rest)) in
      let is = ap (λ (x : Update). x.point.0) same in omega (arith, below, is)
  | inr behind ↦ first_before later rest rising.1 u v behind has_rest
]

-- As entries of the slab.

module _ (g : Geometry) (slab : ℕ) where
  reverse_first : (u : Update) (later : List Update) → entries_taken g slab (u ∷ later) ≡ entries_taken g slab later ++ (entry_of g slab u ∷ [])
  reverse_first u later = reverse-append (entry_of g slab u ∷ []) (map (entry_of g slab) later)

  of_entry : (updates : List Update) (e : SlabEntry) → Contains (entries_taken g slab updates) e → (u : Update) × Contains updates u × (entry_of g slab u ≡ e)
  of_entry [] e has = absurd (none_in_nothing e has)
  of_entry (u ∷ later) e has =
      elim (in_either (entries_taken g slab later) (entry_of g slab u ∷ []) e (subst (λ (es : List SlabEntry). Contains es e) (reverse_first u later) has)) [
        | inl before ↦ let found = of_entry later e before in (found.0, is_behind u later found.0 found.1, found.2)
        | inr here ↦ elim (is_first_or_behind (entry_of g slab u) [] e here) [
          | inl same ↦ (u, is_first u later, same)
          | inr none ↦ absurd (none_in_nothing e none)
        ]
      ]

  taken_append : (offset : ℕ) (newer older : List SlabEntry) → taken_at offset (newer ++ older) ≡ taken_at offset older ++ taken_at offset newer
  taken_append offset [] older = sym (append-nil (taken_at offset older))
  taken_append offset (e ∷ newer) older =
      ap (λ (ns : List ℕ). ns ++ one_if (e.offset == offset) e.point.0) (taken_append offset newer older)
      ∙ append_assoc (taken_at offset older) (taken_at offset newer) (one_if (e.offset == offset) e.point.0)

  parts_of : (b c : Bool) → (b && c) ≡ true → (b ≡ true) × (c ≡ true)
  parts_of true c is = (refl, is)
  parts_of false c is = absurd (cc is)

  within : (block : Pbn) → in_slab g slab block ≡ true → (slab_start_of g slab ≤ block.0) × (block.0 < slab_start_of g slab + g.slab_blocks)
  within block is =
      let both = parts_of (nat_le (slab_start_of g slab) block.0) (nat_lt block.0 (slab_start_of g slab + g.slab_blocks)) is in
      (leb-true (slab_start_of g slab) block.0 both.0, ltb-true block.0 (slab_start_of g slab + g.slab_blocks) both.1)

  one_point : (offset : ℕ) (u : Update) → in_slab g slab u.at ≡ true → (u.at.0 - slab_start_of g slab == offset) ≡ (u.at.0 == (block_of_data g (place_in slab offset)).0)
  one_point offset u own =
      let low = (within u.at own).0 in
      elim (eqb_tells (u.at.0 - slab_start_of g slab) offset) [
        | inl same ↦ let is = same.1 in elim (eqb_tells u.at.0 (block_of_data g (place_in slab offset)).0) [
          | inl there ↦ same.0 ∙ sym there.0
          | inr other ↦ absurd (other.1 (omega (arith, low, is)))
        ]
        | inr apart ↦ elim (eqb_tells u.at.0 (block_of_data g (place_in slab offset)).0) [
          | inl there ↦ let is = there.1 in absurd (apart.1 (omega (arith, low, is)))
          | inr other ↦ apart.0 ∙ sym other.0
        ]
      ]

  taken_points : (offset : ℕ) (updates : List Update) → ((u : Update) → Contains updates u → in_slab g slab u.at ≡ true)
      → taken_at offset (entries_taken g slab updates) ≡ points_in (block_of_data g (place_in slab offset)) updates
  taken_points offset [] own = refl
  taken_points offset (u ∷ later) own =
      let block = block_of_data g (place_in slab offset) in
      let rest = taken_points offset later (λ v has. own v (is_behind u later v has)) in
      let is = one_point offset u (own u (is_first u later)) in
      ap (taken_at offset) (reverse_first u later) ∙ taken_append offset (entries_taken g slab later) (entry_of g slab u ∷ [])
      ∙ ap₂ (λ (b : Bool) (ns : List ℕ). one_if b u.point.0 ++ ns) is rest ∙ by_test (u.at.0 == block.0) u.point.0 (points_in block later)
    where
      by_test : (b : Bool) (p : ℕ) (ns : List ℕ) → one_if b p ++ ns ≡ (if b then p ∷ ns else ns)
      by_test true p ns = refl
      by_test false p ns = refl

  rising_behind : (opened : List Point) (updates : List Update) (done : List SlabEntry) → NumbersRise (points_of updates)
      → ((e : SlabEntry) (u : Update) → Contains done e → Contains updates u → e.point.0 < u.point.0)
      → ((u : Update) → Contains updates u → (point_at opened (sector_of_offset g (u.at.0 - slab_start_of g slab))).0 < u.point.0)
      → AreRising g opened done → AreRising g opened (entries_taken g slab updates ++ done)
  rising_behind opened [] done rising order newer before = before
  rising_behind opened (u ∷ later) done rising order newer before =
      let e = entry_of g slab u in
      let same : entries_taken g slab (u ∷ later) ++ done ≡ entries_taken g slab later ++ (e ∷ done) =
      ap (λ (es : List SlabEntry). es ++ done) (reverse_first u later) ∙ append_assoc (entries_taken g slab later) (e ∷ []) done in
      subst (AreRising g opened) (sym same)
      (rising_behind opened later (e ∷ done) rising.1
      (λ x v has has_later. elim (is_first_or_behind e done x has) [
        | inl here ↦
            let above = behind_is_above u.point.0 (points_of later) v.point.0 rising.0 (point_in later v has_later) in
            let is = ap (λ (y : SlabEntry). y.point.0) here in omega (arith, above, is)
        | inr behind ↦ order x v behind (is_behind u later v has_later)
      ])
      (λ v has. newer v (is_behind u later v has)) (
        All-weaker (Contains done) (λ (x : SlabEntry). x.point.0 < u.point.0) (λ x has. order x u has (is_first u later)) done (All-contains_itself done),
        newer u (is_first u later),
        before,
      ))

-- What was taken is the first part.

pub taken_of_stream : (opened : Image) (entries : List CommittedEntry) (from slab : ℕ) (commits : List Point) (first : List ℕ) (taken rest : List Update)
    → ArePointed from entries → next_point from entries ≤ 18446744073709551616
    → ((n : ℕ) → n < sectors_per_slab opened.geometry → (point_at commits n).0 ≡ commit_at opened.geometry opened.blocks slab n)
    → ((n : ℕ) → n < sectors_per_slab opened.geometry → commit_at opened.geometry opened.blocks slab n < from)
    → length first ≡ opened.geometry.slab_blocks
    → ((offset : ℕ) → offset < opened.geometry.slab_blocks → slice_index first offset ≡ counter_of opened (place_in slab offset))
    → those_of (in_slab opened.geometry slab) (updates_of entries) ≡ taken ++ rest
    → HasTaken opened entries slab commits first (entries_taken opened.geometry slab taken)
taken_of_stream opened entries from slab commits first taken rest pointed end commits_are before size counters parts = record {
  commits = commits_are;
  size = size;
  counters = counters;
  inside = λ e has. (let u = of_entry opened.geometry slab taken e has in let is = ap (λ (x : SlabEntry). x.offset) u.2 in let range = within opened.geometry slab u.0.at (own_first u.0 u.1) in
      let low = range.0 in let high = range.1 in omega (arith, is, low, high));
  rising = subst (AreRising opened.geometry commits) (append-nil (entries_taken opened.geometry slab taken))
      (rising_behind opened.geometry slab commits taken [] rise_first (λ e u has. absurd (none_in_nothing e has)) (λ u has. newer u (in_first taken rest u has)) tt);
  later = entries_taken opened.geometry slab rest;
  parts = λ offset inside.
      (let block = block_of_data opened.geometry (place_in slab offset) in
      sym (points_are block entries) ∙ sym (owned_points (in_slab opened.geometry slab) block (updates_of entries) (block_in offset inside)) ∙ ap (points_in block) parts
      ∙ points_append block taken rest
      ∙ ap₂ (λ (ms ns : List ℕ). ms ++ ns) (sym (taken_points opened.geometry slab offset taken own_first)) (sym (taken_points opened.geometry slab offset rest own_rest)));
  order = λ e other has has_other. (let u = of_entry opened.geometry slab taken e has in let v = of_entry opened.geometry slab rest other has_other in
      let below = first_before taken rest rise u.0 v.0 u.1 v.1 in
      let is = ap (λ (x : SlabEntry). x.point.0) u.2 in let is_other = ap (λ (x : SlabEntry). x.point.0) v.2 in omega (arith, below, is, is_other));
  newer = λ other has. (let v = of_entry opened.geometry slab rest other has in
      subst (λ (x : SlabEntry). (point_at commits (sector_of_offset opened.geometry x.offset)).0 < x.point.0) v.2 (newer v.0 (in_second taken rest v.0 v.1)));
  small = λ e has. (let u = of_entry opened.geometry slab taken e has in let is = ap (λ (x : SlabEntry). x.point.0) u.2 in
      let below = in_stream u.0 (in_first taken rest u.0 u.1) in let high = below.1 in omega (arith, is, high, end));
}
  where
    owned : (u : Update) → Contains (taken ++ rest) u → in_slab opened.geometry slab u.at ≡ true
    owned u has = all_owned (in_slab opened.geometry slab) (updates_of entries) u (subst (λ (us : List Update). Contains us u) (sym parts) has)

    own_first : (u : Update) → Contains taken u → in_slab opened.geometry slab u.at ≡ true
    own_first u has = owned u (in_first taken rest u has)

    own_rest : (u : Update) → Contains rest u → in_slab opened.geometry slab u.at ≡ true
    own_rest u has = owned u (in_second taken rest u has)

    rise : NumbersRise (points_of (taken ++ rest))
    rise = subst (λ (us : List Update). NumbersRise (points_of us)) parts (those_rise (in_slab opened.geometry slab) (updates_of entries) (stream_rises from entries pointed))

    first_all : (P : ℕ → Type 0) (xs ys : List ℕ) → AllByRecursion P (xs ++ ys) → AllByRecursion P xs
    first_all P [] ys all = tt
    first_all P (x ∷ xs) ys all = (all.0, first_all P xs ys all.1)

    first_rises : (xs ys : List ℕ) → NumbersRise (xs ++ ys) → NumbersRise xs
    first_rises [] ys rising = tt
    first_rises (x ∷ xs) ys rising = (first_all (λ m. x < m) xs ys rising.0, first_rises xs ys rising.1)

    rise_first : NumbersRise (points_of taken)
    rise_first = first_rises (points_of taken) (points_of rest) (subst NumbersRise (map-append (λ (u : Update). u.point.0) taken rest) rise)

    in_stream : (u : Update) → Contains (taken ++ rest) u → (from ≤ u.point.0) × (u.point.0 < next_point from entries)
    in_stream u has =
        let listed = point_in (those_of (in_slab opened.geometry slab) (updates_of entries)) u (subst (λ (us : List Update). Contains us u) (sym parts) has) in
        let all = points_of (those_of (in_slab opened.geometry slab) (updates_of entries)) in (
          of_all (λ m. from ≤ m) all u.point.0 (those_all (λ m. from ≤ m) (in_slab opened.geometry slab) (updates_of entries) (stream_above from entries pointed)) listed,
          of_all (λ m. m < next_point from entries) all u.point.0 (those_all (λ m. m < next_point from entries) (in_slab opened.geometry slab) (updates_of entries) (stream_below from entries pointed)) listed,
        )

    newer : (u : Update) → Contains (taken ++ rest) u → (point_at commits (sector_of_offset opened.geometry (u.at.0 - slab_start_of opened.geometry slab))).0 < u.point.0
    newer u has =
        let range = within opened.geometry slab u.at (owned u has) in
        let low = range.0 in
        let high = range.1 in
        let n = sector_of_offset opened.geometry (u.at.0 - slab_start_of opened.geometry slab) in
        let below : n < sectors_per_slab opened.geometry = omega (arith, low, high) in
        let commit = commits_are n below in
        let was = before n below in
        let above = (in_stream u has).0 in
        omega (arith, commit, was, above)

    block_in : (offset : ℕ) → offset < opened.geometry.slab_blocks → in_slab opened.geometry slab (block_of_data opened.geometry (place_in slab offset)) ≡ true
    block_in offset inside =
        let start = slab_start_of opened.geometry slab in
        rw (le-leb start (start + offset) (omega arith), lt-ltb (start + offset) (start + opened.geometry.slab_blocks) (omega (arith, inside))) refl
