-- A block of counters that a slab hands out has in each sector the opened counters with exactly the updates up to its commit point.
use Rattle.std.proofs.Common.{ℕ, ◌≡◌, ◌⊎◌, ◌+◌, ◌-◌, ◌*◌, ◌/◌, ◌%◌, ◌<◌, ◌≤◌, ◌^◌, ◌==◌, List, [], ◌∷◌, ◌++◌, Contains, length, drop, replicate, get_or, set, Result, Ok, refl, sym, ◌∙◌, ap, ap₂, subst, inl, inr, arith, get_or-set_same, get_or-set_other, length-append, length-take-le}
use Rattle.std.specs.Prelude.{slice_index, slice_index_or}
use Rattle.std.specs.List.{AllByRecursion}
use Rattle.std.proofs.Math.Nat.{mod-lt}
use Rattle.std.proofs.Math.Seq.{get_or-append_right}
use Rattle.std.proofs.lemmas.Bool.{le-leb}
use Rattle.std.proofs.lemmas.Bool.Decides.{eqb_tells}
use Rattle.std.proofs.lemmas.List.{append-nil, length-set, length-replicate}
use Rattle.std.proofs.lemmas.List.Elements.{All-contains, All-map}
use Rattle.blk_base.specs.Counters.{limit_of, sector_of_offset, sectors_per_slab}
use Rattle.blk_base.specs.Sectors.{sector}
use Rattle.blk_base.specs.declared.geometry.Geometry.{Geometry}
use Rattle.blk_base.specs.declared.journal_entry.CommittedEntry.{CommittedEntry}
use Rattle.blk_base.specs.declared.layout.DataPlace.{DataPlace}
use Rattle.blk_base.specs.Points.{half_of}
use Rattle.blk_base.specs.declared.point.Point.{Point}
use Rattle.blk_base.specs.Forms.{place_in}
use Rattle.byte_fields.specs.Fields.{le, number_at}
use Rattle.byte_fields.proofs.FieldLaws.{length-le, number_behind}
use Rattle.byte_fields.proofs.ByteLaws.{byte_at}
use Rattle.image_model.specs.Counts.{commit_at, count_after, counter_of}
use Rattle.image_model.proofs.CountLaws.{is_behind, is_first, is_first_or_behind, none_in_nothing}
use Rattle.image_model.proofs.ZeroLaws.{of_eight}
use Rattle.image_model.specs.Maps.{Image}
use Rattle.reference_blocks.specs.References.{HandsOutBlock, References, eight, opening, point_at, sector_at, sectors_of}
use Rattle.reference_blocks.specs.Updates.{AreRising, Operation, HandedOut, LeadTo, Updated, Written, counted, counters_after, newest_of, updates_of}
use Rattle.reference_blocks.proofs.UpdateLaws.{newest_is}
use Rattle.slab_codec.specs.Reference.{counters_in, reference_bytes, reference_sector_bytes}
use Rattle.slab_codec.specs.declared.forms.ReferenceSector.{ReferenceSector}
use Rattle.slab_codec.specs.declared.forms.SlabEntry.{SlabEntry}
use Rattle.slab_codec.proofs.CounterLaws.{counter_at, written_counters}
use Rattle.count_laws.specs.Counters.{IsCounted, IsOfSector, counter_in, points_at}
use Rattle.count_laws.specs.Points.{one_if, up_to}
use Rattle.count_laws.proofs.KeepLaws.{up_to_append}
use Rattle.count_laws.proofs.PointLaws.{count_came, count_step, first_is, in_either, in_first, in_second, none_up_to}
use Rattle.part_laws.specs.Taken.{HasTaken, taken_at}

-- What the bytes of a sector say.

commit_said : (s : ReferenceSector) → s.commit.0 < 2 ^ 64 → number_at 8 0 (reference_sector_bytes s) ≡ s.commit.0
unfolding reference_sector_bytes
commit_said s fits = number_behind 8 s.commit.0 0 [] s.counters (le 8 s.commit.0 ++ s.counters) refl refl (omega (arith, fits))

counter_said : (s : ReferenceSector) (k : ℕ) → number_at 1 (8 + k) (reference_sector_bytes s) ≡ get_or s.counters k 0
unfolding reference_sector_bytes
counter_said s k =
    let front = length-le 8 s.commit.0 in
    let none : 8 + k - length (le 8 s.commit.0) ≡ k = omega (arith, front) in
    byte_at (8 + k) (le 8 s.commit.0 ++ s.counters)
    ∙ get_or-append_right (le 8 s.commit.0) s.counters (8 + k) 0 (omega (arith, front))
    ∙ ap (λ (n : ℕ). get_or s.counters n 0) none

-- Counters after updates are the running counts.

after_size : (first : List ℕ) (updates : List SlabEntry) → length (counters_after first updates) ≡ length first
after_size first [] = refl
after_size first (entry ∷ older) =
    length-set (counters_after first older) entry.offset (counted (half_of entry.point.0) (slice_index (counters_after first older) entry.offset)) ∙ after_size first older

half_is : (p k n limit : ℕ) → count_after limit k (p ∷ []) ≡ Ok n → counted (half_of p) k ≡ n
half_is p k n limit is = elim (count_step limit k p n [] is) [
  | inl adds ↦ let even = adds.0 in let same : k + 1 ≡ n = cc (adds.2) in elim (eqb_tells (p % 2) 0) [
    | inl taken ↦ rw taken.0 same
    | inr other ↦ absurd (other.1 even)
  ]
  | inr takes ↦ let odd = takes.0 in let same : k - 1 ≡ n = cc (takes.2) in elim (eqb_tells (p % 2) 0) [
    | inl taken ↦ let none = taken.1 in absurd (omega (arith, odd, none))
    | inr other ↦ rw other.0 same
  ]
]

module _ (limit : ℕ) (first : List ℕ) (offset : ℕ) (inside : offset < length first) where
  counters_run : (updates : List SlabEntry) (n : ℕ) → count_after limit (slice_index first offset) (taken_at offset updates) ≡ Ok n → slice_index (counters_after first updates) offset ≡ n
  counters_run [] n is = cc is
  counters_run (entry ∷ older) n is =
      let counters = counters_after first older in
      let next = counted (half_of entry.point.0) (slice_index counters entry.offset) in
      elim (eqb_tells entry.offset offset) [
        | inl same ↦
            let goes = rw same.0 at is in
            let came = count_came limit (slice_index first offset) n (taken_at offset older) (entry.point.0 ∷ []) goes in
            let before = counters_run older came.0 came.1 in
            let size = after_size first older in
            let here = same.1 in
            ap (λ (j : ℕ). get_or (set counters entry.offset next) j 0) (sym same.1)
            ∙ get_or-set_same counters entry.offset next 0 (omega (arith, size, inside, here))
            ∙ ap (λ (j : ℕ). counted (half_of entry.point.0) (get_or counters j 0)) same.1
            ∙ ap (counted (half_of entry.point.0)) before
            ∙ half_is entry.point.0 came.0 n limit came.2
        | inr other ↦
            let goes = rw other.0 at is in
            let rest = subst (λ (ns : List ℕ). count_after limit (slice_index first offset) ns ≡ Ok n) (append-nil (taken_at offset older)) goes in
            get_or-set_other counters entry.offset offset next 0 (λ (e : offset ≡ entry.offset). other.1 (sym e)) ∙ counters_run older n rest
      ]

-- The newest update of a sector.

newest_one : (g : Geometry) (n : ℕ) (taken : List SlabEntry) (point : Point)
    → ((newest_of g n taken point ≡ point) × ((entry : SlabEntry) → Contains taken entry → sector_of_offset g entry.offset ≡ n → ⊥))
    ⊎ ((entry : SlabEntry) × Contains taken entry × (sector_of_offset g entry.offset ≡ n) × (newest_of g n taken point ≡ entry.point))
newest_one g n [] point = inl (refl, λ entry has is. none_in_nothing entry has)
newest_one g n (entry ∷ older) point = elim (eqb_tells (sector_of_offset g entry.offset) n) [
  | inl same ↦ inr (entry, is_first entry older, same.1, rw same.0 refl)
  | inr other ↦ elim (newest_one g n older point) [
    | inl none ↦ inl (
      rw other.0 none.0,
      λ some has is. elim (is_first_or_behind entry older some has) [
        | inl here ↦ other.1 (ap (λ (e : SlabEntry). sector_of_offset g e.offset) here ∙ is)
        | inr behind ↦ none.1 some behind is
      ],
    )
    | inr (some, has, is, newest) ↦ inr (some, is_behind entry older some has, is, rw other.0 newest)
  ]
]

newest_most : (g : Geometry) (points : List Point) (n : ℕ) (taken : List SlabEntry) → AreRising g points taken → (entry : SlabEntry) → Contains taken entry
    → sector_of_offset g entry.offset ≡ n → entry.point.0 ≤ (newest_of g n taken (point_at points n)).0
newest_most g points n [] rising entry has is = absurd (none_in_nothing entry has)
newest_most g points n (top ∷ older) rising entry has is = elim (eqb_tells (sector_of_offset g top.offset) n) [
  | inl same ↦ elim (is_first_or_behind top older entry has) [
    | inl here ↦ let p = ap (λ (e : SlabEntry). e.point.0) here in rw same.0 (omega (arith, p))
    | inr behind ↦ let below = All-contains (λ (e : SlabEntry). e.point.0 < top.point.0) older entry rising.0 behind in rw same.0 (omega (arith, below))
  ]
  | inr other ↦ elim (is_first_or_behind top older entry has) [
    | inl here ↦ absurd (other.1 (ap (λ (e : SlabEntry). sector_of_offset g e.offset) here ∙ is))
    | inr behind ↦ rw other.0 (newest_most g points n older rising.2 entry behind is)
  ]
]

above_opened : (g : Geometry) (points : List Point) (taken : List SlabEntry) → AreRising g points taken → (entry : SlabEntry) → Contains taken entry
    → (point_at points (sector_of_offset g entry.offset)).0 < entry.point.0
above_opened g points [] rising entry has = absurd (none_in_nothing entry has)
above_opened g points (top ∷ older) rising entry has = elim (is_first_or_behind top older entry has) [
  | inl here ↦ subst (λ (e : SlabEntry). (point_at points (sector_of_offset g e.offset)).0 < e.point.0) here rising.1
  | inr behind ↦ above_opened g points older rising.2 entry behind
]

-- The points of a data block are those of its updates.

has_taken : (offset : ℕ) (taken : List SlabEntry) (point : ℕ) → Contains (taken_at offset taken) point
    → (entry : SlabEntry) × Contains taken entry × (entry.offset ≡ offset) × (entry.point.0 ≡ point)
has_taken offset [] point has = absurd (none_in_nothing point has)
has_taken offset (entry ∷ older) point has = elim (in_either (taken_at offset older) (one_if (entry.offset == offset) entry.point.0) point has) [
  | inl before ↦ let found = has_taken offset older point before in (found.0, is_behind entry older found.0 found.1, found.2, found.3)
  | inr here ↦ elim (eqb_tells entry.offset offset) [
    | inl same ↦ let one = rw same.0 at here in elim (is_first_or_behind entry.point.0 [] point one) [
      | inl is ↦ (entry, is_first entry older, same.1, is)
      | inr none ↦ absurd (none_in_nothing point none)
    ]
    | inr other ↦ let none = rw other.0 at here in absurd (none_in_nothing point none)
  ]
]

is_taken : (offset : ℕ) (taken : List SlabEntry) (entry : SlabEntry) → Contains taken entry → entry.offset ≡ offset → Contains (taken_at offset taken) entry.point.0
is_taken offset [] entry has is = absurd (none_in_nothing entry has)
is_taken offset (top ∷ older) entry has is = elim (is_first_or_behind top older entry has) [
  | inl here ↦ in_second (taken_at offset older) (one_if (top.offset == offset) top.point.0) entry.point.0 (elim (eqb_tells top.offset offset) [
    | inl same ↦ rw same.0 (first_is top.point.0 [] entry.point.0 (ap (λ (e : SlabEntry). e.point.0) here))
    | inr other ↦ absurd (other.1 (ap (λ (e : SlabEntry). e.offset) here ∙ is))
  ])
  | inr behind ↦ in_first (taken_at offset older) (one_if (top.offset == offset) top.point.0) entry.point.0 (is_taken offset older entry behind is)
]

all_by : (P : ℕ → Type 0) (xs : List ℕ) → ((n : ℕ) → Contains xs n → P n) → AllByRecursion P xs
all_by P [] each = tt
all_by P (x ∷ xs) each = (each x (is_first x xs), all_by P xs (λ n has. each n (is_behind x xs n has)))

all_up_to : (commit : ℕ) (xs : List ℕ) → AllByRecursion (λ m. m ≤ commit) xs → up_to commit xs ≡ xs
all_up_to commit [] all = refl
all_up_to commit (x ∷ xs) all = rw (le-leb x commit all.0) (ap (λ (ns : List ℕ). x ∷ ns) (all_up_to commit xs all.1))

-- The sizes stay over calls.

kept_geometry : (old : References) (calls : List Operation) (new : References) → LeadTo old calls new → new.geometry ≡ old.geometry
kept_geometry old [] new is = ap (λ (r : References). r.geometry) is
kept_geometry old (Updated entry ∷ calls) new (before, lead, did) = ap (λ (r : References). r.geometry) did.1 ∙ kept_geometry old calls before lead
kept_geometry old (HandedOut counters bytes block ∷ calls) new (before, lead, did) = ap (λ (r : References). r.geometry) did.same ∙ kept_geometry old calls before lead
kept_geometry old (Written block ∷ calls) new (before, lead, did) = ap (λ (r : References). r.geometry) did.1 ∙ kept_geometry old calls before lead

-- A sector.

module _ (opened : Image) (entries : List CommittedEntry) (slab : ℕ) (points : List Point) (first : List ℕ) (taken : List SlabEntry)
    (has : HasTaken opened entries slab points first taken)
    (in_slab : slab < opened.geometry.slabs)
    (runs : (offset : ℕ) → offset < opened.geometry.slab_blocks
    → (now : ℕ) × (count_after (limit_of opened.geometry) (counter_of opened (place_in slab offset)) (points_at opened.geometry entries (place_in slab offset)) ≡ Ok now))
    (opened_small : (n : ℕ) → n < sectors_per_slab opened.geometry → commit_at opened.geometry opened.blocks slab n < 2 ^ 64) where
  abbrev g : Geometry
  g = opened.geometry

  abbrev commit_point : ℕ → Point
  commit_point n = newest_of g n taken (point_at points n)

  abbrev the_sector : ℕ → ReferenceSector
  the_sector n = record { commit = commit_point n; counters = counters_in g n (counters_after first taken) }

  commit_high : (n : ℕ) → n < sectors_per_slab g → commit_at g opened.blocks slab n ≤ (commit_point n).0
  commit_high n below = let was = has.commits n below in elim (newest_one g n taken (point_at points n)) [
    | inl none ↦ let same = ap (λ (p : Point). p.0) none.0 in omega (arith, was, same)
    | inr (entry, there, is, newest) ↦
        let same = ap (λ (p : Point). p.0) newest in
        let above = subst (λ (k : ℕ). (point_at points k).0 < entry.point.0) is (above_opened g points taken has.rising entry there) in
        omega (arith, was, same, above)
  ]

  commit_small : (n : ℕ) → n < sectors_per_slab g → (commit_point n).0 < 2 ^ 64
  commit_small n below = let was = has.commits n below in let low = opened_small n below in elim (newest_one g n taken (point_at points n)) [
    | inl none ↦ let same = ap (λ (p : Point). p.0) none.0 in omega (arith, was, same, low)
    | inr (entry, there, is, newest) ↦ let same = ap (λ (p : Point). p.0) newest in let small = has.small entry there in omega (arith, same, small)
  ]

  commit_is : (n : ℕ) → n < sectors_per_slab g → number_at 8 0 (reference_sector_bytes (the_sector n)) ≡ (commit_point n).0
  commit_is n below = commit_said (the_sector n) (commit_small n below)

  reached : (n : ℕ) → n < sectors_per_slab g → ((commit_point n).0 ≡ commit_at g opened.blocks slab n)
      ⊎ ((place : DataPlace) × IsOfSector g slab n place × Contains (points_at g entries place) (commit_point n).0)
  reached n below = elim (newest_one g n taken (point_at points n)) [
    | inl none ↦ inl (ap (λ (p : Point). p.0) none.0 ∙ has.commits n below)
    | inr (entry, there, is, newest) ↦
        let inside = has.inside entry there in
        let point : entry.point.0 ≡ (commit_point n).0 = ap (λ (p : Point). p.0) (sym newest) in
        let listed = in_first (taken_at entry.offset taken) (taken_at entry.offset has.later) entry.point.0 (is_taken entry.offset taken entry there refl) in
        inr (
          place_in slab entry.offset,
          ((in_slab, inside), refl, is),
          subst (λ (m : ℕ). Contains (points_at g entries (place_in slab entry.offset)) m) point
              (subst (λ (ns : List ℕ). Contains ns entry.point.0) (sym (has.parts entry.offset inside)) listed),
        )
  ]

  taken_within : (n offset : ℕ) → sector_of_offset g offset ≡ n → AllByRecursion (λ m. m ≤ (commit_point n).0) (taken_at offset taken)
  taken_within n offset there = all_by (λ m. m ≤ (commit_point n).0) (taken_at offset taken) (λ m listed.
      let found = has_taken offset taken m listed in
      let sector_is : sector_of_offset g found.0.offset ≡ n = ap (sector_of_offset g) found.2 ∙ there in
      let most = newest_most g points n taken has.rising found.0 found.1 sector_is in
      let same = found.3 in
      omega (arith, most, same))

  later_past : (n offset : ℕ) → sector_of_offset g offset ≡ n → AllByRecursion (λ m. (commit_point n).0 < m) (taken_at offset has.later)
  later_past n offset there = all_by (λ m. (commit_point n).0 < m) (taken_at offset has.later) (λ m listed.
      let found = has_taken offset has.later m listed in
      let sector_is : sector_of_offset g found.0.offset ≡ n = ap (sector_of_offset g) found.2 ∙ there in
      let same = found.3 in
      elim (newest_one g n taken (point_at points n)) [
        | inl none ↦
            let is = ap (λ (p : Point). p.0) none.0 in
            let above = subst (λ (k : ℕ). (point_at points k).0 < found.0.point.0) sector_is (has.newer found.0 found.1) in
            omega (arith, is, above, same)
        | inr (entry, in_taken, is, newest) ↦
            let point = ap (λ (p : Point). p.0) newest in
            let above = has.order entry found.0 in_taken found.1 in
            omega (arith, point, above, same)
      ])

  up_to_taken : (n offset : ℕ) → offset < g.slab_blocks → sector_of_offset g offset ≡ n → up_to (commit_point n).0 (points_at g entries (place_in slab offset)) ≡ taken_at offset taken
  up_to_taken n offset inside there =
      let commit = (commit_point n).0 in
      ap (up_to commit) (has.parts offset inside) ∙ up_to_append commit (taken_at offset taken) (taken_at offset has.later)
      ∙ ap₂ (λ (ms ns : List ℕ). ms ++ ns) (all_up_to commit (taken_at offset taken) (taken_within n offset there)) (none_up_to commit (taken_at offset has.later) (later_past n offset there)).0
      ∙ append-nil (taken_at offset taken)

  counter_of_sector : (n offset : ℕ) → offset < g.slab_blocks → sector_of_offset g offset ≡ n
      → counter_in g (reference_sector_bytes (the_sector n)) (place_in slab offset) ≡ slice_index (counters_after first taken) offset
  counter_of_sector n offset inside there =
      let k = offset % 504 in
      let number : 504 * n + k ≡ offset = omega (arith, there) in
      counter_said (the_sector n) k ∙ counter_at 504 (counters_after first taken) n k (mod-lt offset (omega arith))
      ∙ ap (λ (j : ℕ). get_or (counters_after first taken) j 0) number

  one_counter : (n offset : ℕ) → offset < g.slab_blocks → sector_of_offset g offset ≡ n
      → count_after (limit_of g) (counter_of opened (place_in slab offset)) (up_to (commit_point n).0 (points_at g entries (place_in slab offset)))
      ≡ Ok (counter_in g (reference_sector_bytes (the_sector n)) (place_in slab offset))
  one_counter n offset inside there =
      let limit = limit_of g in
      let run = runs offset inside in
      let parts = subst (λ (ns : List ℕ). count_after limit (counter_of opened (place_in slab offset)) ns ≡ Ok run.0) (has.parts offset inside) run.1 in
      let came = count_came limit (counter_of opened (place_in slab offset)) run.0 (taken_at offset taken) (taken_at offset has.later) parts in
      let size = has.size in
      let from_first = subst (λ (c : ℕ). count_after limit c (taken_at offset taken) ≡ Ok came.0) (sym (has.counters offset inside)) came.1 in
      let counter = counters_run limit first offset (omega (arith, inside, size)) taken came.0 from_first in
      ap (λ (ns : List ℕ). count_after limit (counter_of opened (place_in slab offset)) ns) (up_to_taken n offset inside there)
      ∙ came.1
      ∙ ap (λ (m : ℕ). let it : Result ℕ ℕ = Ok m in it) (sym counter ∙ sym (counter_of_sector n offset inside there))

  abbrev Agrees : ℕ → ℕ → DataPlace → Type 0
  Agrees n commit place =
      count_after (limit_of g) (counter_of opened place) (up_to commit (points_at g entries place)) ≡ Ok (counter_in g (reference_sector_bytes (the_sector n)) place)

  pub sector_counted : (n : ℕ) → n < sectors_per_slab g → IsCounted opened entries slab n (reference_sector_bytes (the_sector n))
  sector_counted n below = record {
    commit = let high = commit_high n below in let is = commit_is n below in omega (arith, high, is);
    reached = elim (reached n below) [
      | inl same ↦ inl (commit_is n below ∙ same)
      | inr (place, there, listed) ↦ inr (place, there, subst (λ (m : ℕ). Contains (points_at g entries place) m) (sym (commit_is n below)) listed)
    ];
    counters = λ place there.
        subst (λ (c : ℕ). Agrees n c place) (sym (commit_is n below))
        (subst (λ (k : ℕ). Agrees n (commit_point n).0 (place_in k place.offset)) (sym there.1) (one_counter n place.offset there.0.1 there.2));
  }

  -- The block that is handed out.

  module _ (calls : List Operation) (old new : References) (bytes : List ℕ) (block : ℕ) (sized : length points ≡ sectors_per_slab g) (lead : LeadTo (opening g points) calls old)
      (updates : updates_of calls ≡ taken) (did : HandsOutBlock old new (counters_after first (updates_of calls)) bytes block) where
    all_sized : (n : ℕ) (cs : List ℕ) → length (counters_in g n cs) ≡ 504
    all_sized n cs =
        let rest = drop (504 * n) cs in
        length-take-le 504 (rest ++ replicate 504 0) (let size = length-append rest (replicate 504 0) in let zeros = length-replicate {A = ℕ} 504 0 in omega (arith, size, zeros))

    abbrev all_sectors : List ReferenceSector
    all_sectors = sectors_of g old.applied (counters_after first taken) block

    says : bytes ≡ reference_bytes all_sectors
    says =
        did.says
        ∙ ap₂ (λ (h : Geometry) (us : List SlabEntry). reference_bytes (sectors_of h old.applied (counters_after first us) block)) (kept_geometry (opening g points) calls old lead) updates

    one_sector : (i : ℕ) → i < 8 → slice_index_or all_sectors i (the_sector 0) ≡ sector_at g old.applied (counters_after first taken) (8 * block + i)
    one_sector i below =
        of_eight (λ k. slice_index_or all_sectors k (the_sector 0) ≡ sector_at g old.applied (counters_after first taken) (8 * block + k)) refl refl refl refl refl refl refl refl i below

    the_point : (n : ℕ) → point_at old.applied n ≡ commit_point n
    the_point n = newest_is g points calls old n sized lead ∙ ap (λ (us : List SlabEntry). newest_of g n us (point_at points n)) updates

    said_there : (n : ℕ) → n / 8 ≡ block → sector (n % 8) bytes ≡ reference_sector_bytes (the_sector n)
    said_there n here =
        let small : n % 8 < 8 = omega arith in
        let number : 8 * block + n % 8 ≡ n = omega (arith, here) in
        let each = All-map (λ (s : ReferenceSector). length s.counters ≡ 504) (λ (j : ℕ). sector_at g old.applied (counters_after first taken) (8 * block + j)) eight
        (λ k d below. all_sized (8 * block + slice_index_or eight k d) (counters_after first taken)) in
        ap (sector (n % 8)) says
        ∙ written_counters all_sectors (n % 8) (the_sector 0) each (omega (arith, small))
        ∙ ap reference_sector_bytes (one_sector (n % 8) small)
        ∙ ap (λ (m : ℕ). reference_sector_bytes (sector_at g old.applied (counters_after first taken) m)) number
        ∙ ap (λ (p : Point). reference_sector_bytes (record { commit = p; counters = counters_in g n (counters_after first taken) })) (the_point n)

    pub block_counted : (n : ℕ) → n / 8 ≡ block → n < sectors_per_slab g → IsCounted opened entries slab n (sector (n % 8) bytes)
    block_counted n here below = subst (IsCounted opened entries slab n) (sym (said_there n here)) (sector_counted n below)
