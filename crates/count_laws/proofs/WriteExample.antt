-- The example goes on: a block of counters is written that has all updates, and a flush; so the window may lose them all, and
-- each image still has the stored count.
use Rattle.std.proofs.Common.{ℕ, zero, suc, ◌≡◌, ◌+◌, ◌-◌, ◌%◌, ◌<◌, ◌≤◌, ◌==◌, true, false, List, [], ◌∷◌, Contains, length, drop, replicate, Result, Ok, refl, sym, ◌∙◌, ap, subst, inl, inr, arith}
use Rattle.std.proofs.Math.Nat.{mod-lt}
use Rattle.std.proofs.lemmas.List.{drop-replicate}
use Rattle.std.proofs.lemmas.Bool.{ne_eqb}
use Rattle.blk_base.specs.Counters.{sector_of_offset, sectors_per_slab}
use Rattle.blk_base.specs.Regions.{SlabJournalSlot, block_of, needed_blocks}
use Rattle.blk_base.specs.Sectors.{sector}
use Rattle.blk_base.specs.declared.layout.DataPlace.{DataPlace}
use Rattle.blk_base.specs.declared.place.Pbn.{Pbn}
use Rattle.blk_base.specs.Forms.{pbn}
use Rattle.blk_base.proofs.Example.{place}
use Rattle.byte_fields.specs.Fields.{number_at}
use Rattle.byte_fields.proofs.FieldLaws.{number_at-drop}
use Rattle.disk_model.specs.declared.call.Call.{Call}
use Rattle.disk_model.specs.declared.call.Call.TheVariants.{Flush, Write}
use Rattle.disk_model.specs.Images.{IsImage}
use Rattle.disk_model.specs.Log.{Blocks, block_at}
use Rattle.image_model.proofs.Example.{small}
use Rattle.image_model.proofs.ZeroLaws.{of_eight}
use Rattle.image_model.specs.Counts.{Stores, block_of_data, commit_at, count_after, counter_of}
use Rattle.image_model.specs.Empty.{IsEmpty}
use Rattle.image_model.specs.Maps.{Image}
use Rattle.image_model.specs.Sound.{IsDataPlace}
use Rattle.image_model.proofs.EmptyLaws.{zero_first}
use Rattle.journal_stops.specs.Mapped.{later_image}
use Rattle.count_laws.specs.Counters.{CountsStand, IsCounted, IsOfSector, MayWrite, SurelyCounters, counter_in, points_at}
use Rattle.count_laws.specs.Points.{points_for, up_to}
use Rattle.count_laws.proofs.Example.{are_pointed, block_count, commits_before, counter_none, counts_stand, fits, first_has, four, four_turn, opened}
use Rattle.count_laws.proofs.KeepLaws.{counts_after_write, counts_kept, counts_with_window}
use Rattle.count_laws.proofs.PointLaws.{of_all, points_below}
use Rattle.count_laws.proofs.StoredLaws.{stored}
use Rattle.count_laws.proofs.TurnLaws.{running_count}

-- the block: its first sector has the commit point 519, and a counter of 1 for each of the first two data blocks
abbrev pub written : List ℕ
written = 7 ∷ 2 ∷ 0 ∷ 0 ∷ 0 ∷ 0 ∷ 0 ∷ 0 ∷ 1 ∷ 1 ∷ replicate 4086 0

pub its_commit : number_at 8 0 (sector 0 written) ≡ 519
unfolding number_at
its_commit = refl

pub first_counter : number_at 1 8 (sector 0 written) ≡ 1
unfolding number_at
first_counter = refl

pub second_counter : number_at 1 9 (sector 0 written) ≡ 1
unfolding number_at
second_counter = refl

other_commits : (n : ℕ) → n < 8 → 1 ≤ n → number_at 8 0 (sector n written) ≡ 0
unfolding number_at
other_commits n below some =
    of_eight (λ k. 1 ≤ k → number_at 8 0 (sector k written) ≡ 0) (λ none. absurd (omega (arith, none))) (λ some. refl) (λ some. refl) (λ some. refl) (λ some. refl) (λ some. refl) (λ some. refl) (λ some. refl)
    n below some

zeros_behind : drop 10 (sector 0 written) ≡ replicate 502 0
zeros_behind = refl

no_counter : (k : ℕ) → number_at 1 (10 + k) (sector 0 written) ≡ 0
no_counter k =
    let place_is : k ≡ k + 0 = omega arith in
    sym (number_at-drop 1 k 10 (sector 0 written)) ∙ ap (number_at 1 k) zeros_behind
    ∙ ap (λ (j : ℕ). number_at 1 j (replicate 502 0)) place_is ∙ sym (number_at-drop 1 0 k (replicate 502 0))
    ∙ ap (number_at 1 0) (drop-replicate k 502 0) ∙ zero_first (502 - k)

no_points : (x : Pbn) → (85 == x.0) ≡ false → (86 == x.0) ≡ false → points_for four x ≡ []
no_points x not_first not_second = rw (not_first, not_second) refl

pub other_points : (k : ℕ) → points_at small four (place (suc (suc k))) ≡ []
other_points k =
    let x = block_of_data small (place (suc (suc k))) in
    no_points x (ne_eqb 85 x.0 (λ (same : 85 ≡ x.0). omega (arith, same))) (ne_eqb 86 x.0 (λ (same : 86 ≡ x.0). omega (arith, same)))

-- What a counter has up to the commit point.
up_to_counter : (offset : ℕ) → offset < 64 → count_after 254 0 (up_to 519 (points_at small four (place offset))) ≡ Ok (number_at 1 (8 + offset) (sector 0 written))
up_to_counter zero below = ap (λ (n : ℕ). let it : Result ℕ ℕ = Ok n in it) (sym first_counter)
up_to_counter (suc zero) below = ap (λ (n : ℕ). let it : Result ℕ ℕ = Ok n in it) (sym second_counter)
up_to_counter (suc (suc k)) below =
    ap (λ (ns : List ℕ). count_after 254 0 (up_to 519 ns)) (other_points k)
    ∙ ap (λ (n : ℕ). let it : Result ℕ ℕ = Ok n in it) (sym (no_counter k) ∙ ap (λ (j : ℕ). number_at 1 j (sector 0 written)) (let it : 10 + k ≡ 8 + suc (suc k) = omega arith in it))

module _ (blocks : Blocks) (empty : IsEmpty small blocks) (room : needed_blocks small ≤ length blocks) (whole : (b : ℕ) → b < length blocks → length (block_at blocks b) ≡ 4096) where
  abbrev image : Image
  image = opened blocks empty

  zero_before : commit_at small blocks 0 0 ≤ 519
  zero_before = let low = commits_before blocks empty 0 0 (omega arith) (omega arith) in omega (arith, low)

  is_counted : IsCounted image four 0 0 (sector 0 written)
  is_counted = record {
    commit = let low = zero_before in let is = its_commit in omega (arith, low, is);
    reached = inr (place 1, ((omega arith, omega arith), refl, refl), subst (λ (n : ℕ). Contains (points_at small four (place 1)) n) (sym its_commit) (2, omega arith, refl));
    counters = λ where_is there. counter (where_is.slab) (where_is.offset) there;
  }
    where
      counter : (slab offset : ℕ) → IsOfSector small 0 0 (record { slab = slab; offset = offset })
          → count_after 254 (counter_of image (record { slab = slab; offset = offset })) (up_to (number_at 8 0 (sector 0 written)) (points_at small four (record { slab = slab; offset = offset })))
          ≡ Ok (counter_in small (sector 0 written) (record { slab = slab; offset = offset }))
      counter (suc slab) offset there = let same = there.1 in absurd (omega (arith, same))
      counter zero offset there =
          let inside = there.0.1 in
          let none = counter_none blocks empty offset inside in
          let small_offset : offset % 504 ≡ offset = omega (arith, inside) in
          ap (λ (n : ℕ). count_after 254 n (up_to (number_at 8 0 (sector 0 written)) (points_at small four (place offset)))) none
          ∙ ap (λ (c : ℕ). count_after 254 0 (up_to c (points_at small four (place offset)))) its_commit
          ∙ up_to_counter offset inside
          ∙ ap (λ (j : ℕ). let it : Result ℕ ℕ = Ok (number_at 1 (8 + j) (sector 0 written)) in it) (sym small_offset)

  -- The block may be written ..

  all_below : (x : DataPlace) (point : ℕ) → Contains (points_at small four x) point → point ≤ 519
  all_below x point has =
      let below = of_all (λ m. m < 520) (points_at small four x) point (points_below 512 four (block_of_data small x) are_pointed) has in omega (arith, below)

  in_first_sector : (offset : ℕ) → offset < 64 → sector_of_offset small offset ≡ 0
  in_first_sector offset below = omega (arith, below)

  no_journal : (slab slot : ℕ) → slab < 1 → 149 ≡ block_of small (SlabJournalSlot slab slot) → ⊥
  no_journal zero slot one same = omega (arith, same)
  no_journal (suc slab) slot one same = omega (arith, one)

  pub may_write : (log : List Call) → MayWrite blocks log image four four 149 written
  may_write log = record {
    sectors = λ slab n in_slab below here. counted slab n in_slab below;
    behind = λ slab n in_slab past below here. (let none = other_commits (n % 8) (mod-lt n (omega arith)) (omega (arith, past, below)) in omega (arith, none));
    no_lower = λ x n point there here has surely.
        (let inside = there.0.1 in let number = there.2 in
        let n_is : 0 ≡ n % 8 = omega (arith, inside, number) in
        let commit = ap (λ (k : ℕ). number_at 8 0 (sector k written)) n_is in
        let is = its_commit in
        let low = all_below x point has in
        omega (arith, commit, is, low));
    only = λ slab slot number entry in_slab in_journal small_number here. absurd (no_journal slab slot in_slab here);
    overwritten = λ x slot number point there in_journal small_number here. absurd (no_journal x.slab slot there.0 here);
  }
    where
      counted : (slab n : ℕ) → slab < 1 → n < sectors_per_slab small → IsCounted image four slab n (sector (n % 8) written)
      counted zero zero one below = is_counted
      counted zero (suc n) one below = absurd (omega (arith, below))
      counted (suc slab) n one below = absurd (omega (arith, one))

  -- .. and after the flush the window needs none of them.

  abbrev log : List Call
  log = Flush true ∷ Write (pbn 149) written true ∷ []

  flushed : CountsStand blocks log image four four
  flushed =
      counts_kept blocks (Write (pbn 149) written true ∷ []) image four four (Flush true) (λ slab i in_slab below. tt) (λ slab slot in_slab below. tt)
      (counts_after_write blocks [] image four four (pbn 149) written true (may_write []) (counts_stand blocks empty room whole))

  -- whatever was done before, each of their updates is counted
  pub all_counted : (older : List Call) (place_of : DataPlace) (point : ℕ) → IsDataPlace small place_of → Contains (points_at small four place_of) point
      → SurelyCounters blocks (Flush true ∷ Write (pbn 149) written true ∷ older) small place_of.slab (sector_of_offset small place_of.offset) (λ bytes. point ≤ number_at 8 0 bytes)
  all_counted older x point there has = settled_counts x.slab x.offset there has
    where
      settled_counts : (slab offset : ℕ) → IsDataPlace small (record { slab = slab; offset = offset }) → Contains (points_at small four (record { slab = slab; offset = offset })) point
          → SurelyCounters blocks (Flush true ∷ Write (pbn 149) written true ∷ older) small slab (sector_of_offset small offset) (λ bytes. point ≤ number_at 8 0 bytes)
      settled_counts (suc slab) offset there has = let one = there.0 in absurd (omega (arith, one))
      settled_counts zero offset there has =
          let inside = there.1 in
          let low = all_below (place offset) point has in
          subst (λ (n : ℕ). SurelyCounters blocks (Flush true ∷ Write (pbn 149) written true ∷ older) small 0 n (λ bytes. point ≤ number_at 8 0 bytes)) (sym (in_first_sector offset inside))
          ((let is = its_commit in omega (arith, low, is)), tt)

  pub counts_without_window : CountsStand blocks log image four []
  counts_without_window = counts_with_window blocks log image four four [] flushed (λ x point there has. inr (inl (all_counted [] x point there has)))

  module _ (left : Blocks) (is : IsImage blocks log left) where
    pub stored_without_window : Stores (later_image image left []) (place 1) (Ok 1)
    stored_without_window =
        let none = counter_none blocks empty 1 (omega arith) in
        let running = running_count image 512 four (pbn 86) 0 (fits blocks empty) (four_turn blocks empty) are_pointed (first_has blocks empty (pbn 86)) in
        subst (λ (n : ℕ). Stores (later_image image left []) (place 1) (Ok n)) (block_count blocks empty)
        (stored blocks log image four [] counts_without_window left is room four 512 refl are_pointed (place 1) (omega arith, omega arith) running.now
        (omega (arith, none))
        (subst (λ (n : ℕ). count_after 254 n (points_at small four (place 1)) ≡ Ok running.now) (sym none) running.counted))
