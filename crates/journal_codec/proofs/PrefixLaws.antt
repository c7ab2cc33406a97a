-- Runs of sectors, the prefix of a block, and what a stop within a write leaves of it.
use Rattle.std.specs.Prelude.{ℕ, zero, suc, ◌≡◌, ◌⊎◌, ◌<◌, ◌≤◌, ◌+◌, ◌-◌, ◌*◌, ◌↔◌, Bool, true, false, IsTrue, All, List, [], ◌++◌, length, take, drop, refl}
use Rattle.std.proofs.Common.{sym, ◌∙◌, ap, ap₂, subst, inl, inr, arith, length-append, length-drop}
use Rattle.std.proofs.lemmas.Bool.{cases_lt}
use Rattle.std.proofs.lemmas.List.{length-take, take-append-drop, drop-drop, drop-take, take-take, take-append-le, drop-append-le, drop_at, drop_all, take_all, take_min, append-nil, nil_from_length}
use Rattle.std.proofs.lemmas.List.Elements.{All-nil, All-append, All-same, All-take, All-drop}
use Rattle.blk_base.specs.declared.journal_entry.Entry.{Entry}
use Rattle.blk_base.specs.Sectors.{sector}
use Rattle.sector_records.proofs.SectorLaws.{few_in, written_sector}
use Rattle.journal_codec.specs.BlockBytes.{entries_in, block_bytes}
use Rattle.journal_codec.specs.Grammar.{joined, HoldsEntry, HoldsBlock, IsSector, IsRun, IsPrefix, IsTorn}
use Rattle.journal_codec.proofs.ReadLaws.{length-sector_bytes, one_reading}

-- the parts of a list of entries

in_next : (i : ℕ) (es : List Entry) → entries_in i (drop 24 es) ≡ entries_in (suc i) es
in_next i es =
    let place : 24 + 24 * i ≡ 24 * suc i = omega arith in
    ap (take 24) (drop-drop (24 * i) 24 es ∙ ap (λ n. drop n es) place)

same_parts : (n : ℕ) (xs ys : List Entry) → length xs ≤ 24 * n → length ys ≤ 24 * n → ((i : ℕ) → i < n → entries_in i xs ≡ entries_in i ys) → xs ≡ ys
same_parts zero xs ys size size' same = nil_from_length xs (omega arith) ∙ sym (nil_from_length ys (omega arith))
same_parts (suc n) xs ys size size' same =
    let front : take 24 xs ≡ take 24 ys = same 0 (omega arith) in
    let back = same_parts n (drop 24 xs) (drop 24 ys) (simp length-drop (omega arith)) (simp length-drop (omega arith))
    (λ i below. in_next i xs ∙ same (suc i) (omega arith) ∙ sym (in_next i ys)) in
    sym (take-append-drop 24 xs) ∙ ap₂ (λ f b. f ++ b) front back ∙ take-append-drop 24 ys

in_front : (n i : ℕ) (es : List Entry) → i < n → entries_in i (take (24 * n) es) ≡ entries_in i es
in_front n i es lt =
    let m = 24 * n - 24 * i in
    let whole : 24 * n ≡ 24 * i + m = omega arith in
    ap (λ k. take 24 (drop (24 * i) (take k es))) whole ∙ ap (take 24) (drop-take (24 * i) m es) ∙ take-take 24 m (drop (24 * i) es) (omega arith)

in_front_of : (n i : ℕ) (es next : List Entry) → length es ≡ 24 * n → i < n → entries_in i (es ++ next) ≡ entries_in i es
in_front_of n i es next size lt =
    ap (take 24) (drop-append-le (24 * i) es next (omega arith)) ∙ take-append-le 24 (drop (24 * i) es) next (simp length-drop (omega arith))

in_last : (n : ℕ) (es next : List Entry) → length es ≡ 24 * n → length next ≤ 24 → entries_in n (es ++ next) ≡ next
in_last n es next size few = ap (take 24) (drop_at es next (24 * n) size) ∙ take_all 24 next few

in_none : (n : ℕ) (es : List Entry) → length es ≤ 24 * n → entries_in n es ≡ []
in_none n es size = ap (take 24) (drop_all (24 * n) es size)

-- runs

pub run-first : (nonce : ℕ) (block : List ℕ) (s h : ℕ) (first : List Entry) → IsSector nonce 0 (sector 0 block) s h first → IsRun nonce block s h 1 first
run-first nonce block s h first is = record {
  fits = is.few;
  sectors = λ i lt. let here : 0 ≡ i = omega arith in subst (λ (n : ℕ). IsSector nonce n (sector n block) s h (entries_in n first)) here
      (subst (λ es. IsSector nonce 0 (sector 0 block) s h es) (sym (take_all 24 first is.few)) is);
}

-- a sector more
step : (nonce : ℕ) (block : List ℕ) (s h n : ℕ) (es more : List Entry) → length more ≤ 24 * (n + 1) → ((i : ℕ) → i < n → entries_in i more ≡ entries_in i es)
    → IsRun nonce block s h n es → IsSector nonce n (sector n block) s h (entries_in n more) → IsRun nonce block s h (n + 1) more
step nonce block s h n es more size same run is = record {
  fits = size;
  sectors = λ i lt. elim (cases_lt i n) [
    | inl below ↦ subst (λ part. IsSector nonce i (sector i block) s h part) (sym (same i below)) (run.sectors i below)
    | inr past ↦ let here : n ≡ i = omega arith in subst (λ (k : ℕ). IsSector nonce k (sector k block) s h (entries_in k more)) here is
  ];
}

-- where the sectors so far are full
pub run-full : (nonce : ℕ) (block : List ℕ) (s h n : ℕ) (es next : List Entry) → length es ≡ 24 * n → IsRun nonce block s h n es
    → IsSector nonce n (sector n block) s h next → IsRun nonce block s h (n + 1) (es ++ next)
run-full nonce block s h n es next size run is =
    step nonce block s h n es (es ++ next) (let few = is.few in simp length-append (omega arith)) (λ i lt. in_front_of n i es next size lt) run
    (subst (λ part. IsSector nonce n (sector n block) s h part) (sym (in_last n es next size is.few)) is)

-- where the sector has no entry
pub run-empty : (nonce : ℕ) (block : List ℕ) (s h n : ℕ) (es next : List Entry) → length next ≡ 0 → IsRun nonce block s h n es
    → IsSector nonce n (sector n block) s h next → IsRun nonce block s h (n + 1) (es ++ next)
run-empty nonce block s h n es next none run is =
    let fits = run.fits in
    let nil = nil_from_length next none in
    let same : es ≡ es ++ next = sym (append-nil es) ∙ ap (λ r. es ++ r) (sym nil) in
    subst (λ more. IsRun nonce block s h (n + 1) more) same
    (step nonce block s h n es es (omega arith) (λ i lt. refl) run
    (subst (λ part. IsSector nonce n (sector n block) s h part) (nil ∙ sym (in_none n es fits)) is))

-- the front of a run is a run
pub run-front : (nonce : ℕ) (block : List ℕ) (s h m n : ℕ) (es : List Entry) → n ≤ m → IsRun nonce block s h m es → IsRun nonce block s h n (take (24 * n) es)
run-front nonce block s h m n es le run = record {
  fits = simp length-take (omega arith);
  sectors = λ i lt. subst (λ part. IsSector nonce i (sector i block) s h part) (sym (in_front n i es lt)) (run.sectors i (omega arith));
}

pub run_unique : (nonce : ℕ) (block : List ℕ) (s h n : ℕ) (xs ys : List Entry) → IsRun nonce block s h n xs → IsRun nonce block s h n ys → xs ≡ ys
run_unique nonce block s h n xs ys run run' =
    same_parts n xs ys run.fits run'.fits
    (λ i lt. (one_reading nonce i (sector i block) s h s h (entries_in i xs) (entries_in i ys) (run.sectors i lt) (run'.sectors i lt)).2)

-- a run is its sectors: their entries in order ..

take-next : (n : ℕ) (es : List Entry) → take (24 * n) es ++ entries_in n es ≡ take (24 * suc n) es
take-next n es =
    let place : 24 * n + 24 ≡ 24 * suc n = omega arith in
    ap₂ (λ f b. f ++ b) (sym (take-take (24 * n) (24 * n + 24) es (omega arith))) (sym (drop-take (24 * n) 24 es))
    ∙ take-append-drop (24 * n) (take (24 * n + 24) es) ∙ ap (λ k. take k es) place

joined-take : (n : ℕ) (es : List Entry) → joined n (λ i. entries_in i es) ≡ take (24 * n) es
joined-take zero es = refl
joined-take (suc n) es = ap (λ f. f ++ entries_in n es) (joined-take n es) ∙ take-next n es

pub run-joined : (nonce : ℕ) (block : List ℕ) (s h n : ℕ) (es : List Entry) → IsRun nonce block s h n es → joined n (λ i. entries_in i es) ≡ es
run-joined nonce block s h n es run = joined-take n es ∙ take_all (24 * n) es run.fits

-- .. none behind one with fewer than 24 ..
pub run_is_filled : (nonce : ℕ) (block : List ℕ) (s h n : ℕ) (es : List Entry) → IsRun nonce block s h n es → (i j : ℕ) → i < j → j < n
    → length (entries_in i es) < 24 → entries_in j es ≡ []
run_is_filled nonce block s h n es run i j behind lt short =
    let size = simp (length-take, length-drop) at short in in_none j es (omega (arith, size))

-- .. and each list of sectors that is filled so is a run
pub run_of_sectors : (nonce : ℕ) (block : List ℕ) (s h n : ℕ) (lists : ℕ → List Entry)
    → ((i : ℕ) → i < n → IsSector nonce i (sector i block) s h (lists i))
    → ((i j : ℕ) → i < j → j < n → length (lists i) < 24 → lists j ≡ []) → IsRun nonce block s h n (joined n lists)
run_of_sectors nonce block s h n lists sectors filled = run n sectors filled
  where
    -- while each is full
    size : (n : ℕ) → ((i : ℕ) → i < n → length (lists i) ≡ 24) → length (joined n lists) ≡ 24 * n
    size zero full = refl
    size (suc n) full =
        let before = size n (λ i lt. full i (omega arith)) in
        let here = full n (omega arith) in
        simp length-append (omega (arith, before, here))

    -- all are full, or one isn't
    split : (n : ℕ) → ((i : ℕ) → i < n → length (lists i) ≤ 24) → ((i : ℕ) → i < n → length (lists i) ≡ 24) ⊎ ((i : ℕ) × (i < n) × (length (lists i) < 24))
    split zero few = inl (λ i lt. absurd (omega arith))
    split (suc n) few = elim (split n (λ i lt. few i (omega arith))) [
      | inl full ↦ elim (cases_lt (length (lists n)) 24) [
        | inl short ↦ inr (n, omega arith, short)
        | inr here ↦ let most = few n (omega arith) in inl (λ i lt. elim (cases_lt i n) [
          | inl below ↦ full i below
          | inr past ↦ let same : n ≡ i = omega arith in subst (λ (k : ℕ). length (lists k) ≡ 24) same (omega (arith, here, most))
        ])
      ]
      | inr found ↦ inr (found.0, omega (arith, found.1), found.2)
    ]

    run : (n : ℕ) → ((i : ℕ) → i < n → IsSector nonce i (sector i block) s h (lists i))
        → ((i j : ℕ) → i < j → j < n → length (lists i) < 24 → lists j ≡ []) → IsRun nonce block s h n (joined n lists)
    run zero sectors filled = record { fits = omega arith; sectors = λ i lt. absurd (omega arith) }
    run (suc n) sectors filled =
        let before = run n (λ i lt. sectors i (omega arith)) (λ i j behind lt. filled i j behind (omega arith)) in
        let place : n + 1 ≡ suc n = omega arith in
        let is = sectors n (omega arith) in
        let more : IsRun nonce block s h (n + 1) (joined n lists ++ lists n) = elim (split n (λ i lt. (sectors i (omega arith)).few)) [
          | inl full ↦ run-full nonce block s h n (joined n lists) (lists n) (size n full) before is
          | inr found ↦ run-empty nonce block s h n (joined n lists) (lists n) (ap length (filled found.0 n found.1 (omega arith) found.2)) before is
        ] in
        subst (λ (k : ℕ). IsRun nonce block s h k (joined n lists ++ lists n)) place more

-- the form can hold what a run says
pub run_holds : (nonce : ℕ) (block : List ℕ) (s h n : ℕ) (es : List Entry) → IsRun nonce block s h n es → All HoldsEntry es
run_holds nonce block s h n es run =
    All-same HoldsEntry es (joined n (λ i. entries_in i es)) (sym (run-joined nonce block s h n es run)) (each n run.sectors)
  where
    each : (n : ℕ) → ((i : ℕ) → i < n → IsSector nonce i (sector i block) s h (entries_in i es)) → All HoldsEntry (joined n (λ i. entries_in i es))
    each zero sectors = All-nil HoldsEntry
    each (suc n) sectors =
        All-append HoldsEntry (joined n (λ i. entries_in i es)) (entries_in n es) (each n (λ i lt. sectors i (omega arith))) (sectors n (omega arith)).each

-- why a run ends: the next sector isn't valid ..
pub ends-none : (nonce : ℕ) (block : List ℕ) (s h n : ℕ) (more : List Entry)
    → ((s' h' : ℕ) (es : List Entry) → IsSector nonce n (sector n block) s' h' es → ⊥) → IsRun nonce block s h (n + 1) more → ⊥
ends-none nonce block s h n more none run = none s h (entries_in n more) (run.sectors n (omega arith))

-- .. it has another sequence or head ..
pub ends-other : (nonce : ℕ) (block : List ℕ) (s h n s' h' : ℕ) (next more : List Entry)
    → IsSector nonce n (sector n block) s' h' next → IsRun nonce block s h (n + 1) more → (s' ≡ s) × (h' ≡ h)
ends-other nonce block s h n s' h' next more is run =
    let same = one_reading nonce n (sector n block) s' h' s h next (entries_in n more) is (run.sectors n (omega arith)) in
    (same.0, same.1)

-- .. or it has entries, and a sector before it isn't full
pub ends-filled : (nonce : ℕ) (block : List ℕ) (s h n : ℕ) (es next more : List Entry) → IsRun nonce block s h n es
    → IsSector nonce n (sector n block) s h next → IsRun nonce block s h (n + 1) more → 0 < length next → length es ≡ 24 * n
ends-filled nonce block s h n es next more run is longer some =
    let same = (one_reading nonce n (sector n block) s h s h next (entries_in n more) is (longer.sectors n (omega arith))).2 in
    let front = run_unique nonce block s h n es (take (24 * n) more) run (run-front nonce block s h (n + 1) n more (omega arith) longer) in
    let size = simp length-take at (ap length front) in
    elim (cases_lt (24 * n) (length more)) [
      | inl past ↦ omega (arith, size)
      | inr short ↦ let none = ap length (same ∙ in_none n more short) in absurd (omega (arith, none))
    ]

-- exactly these sectors go on with a run
pub run_goes_on : (nonce : ℕ) (block : List ℕ) (s h n s' h' : ℕ) (es next : List Entry) → IsRun nonce block s h n es
    → IsSector nonce n (sector n block) s' h' next → (s' ≡ s) × (h' ≡ h) × ((length es ≡ 24 * n) ⊎ (length next ≡ 0))
    → IsRun nonce block s h (n + 1) (es ++ next)
run_goes_on nonce block s h n s' h' es next run is same =
    let here : IsSector nonce n (sector n block) s h next =
    subst (λ (k : ℕ). IsSector nonce n (sector n block) s k next) same.1 (subst (λ (k : ℕ). IsSector nonce n (sector n block) k h' next) same.0 is) in
    elim same.2 [ inl full ↦ run-full nonce block s h n es next full run here | inr none ↦ run-empty nonce block s h n es next none run here ]

pub run_ends : (nonce : ℕ) (block : List ℕ) (s h n s' h' : ℕ) (es next : List Entry) → IsRun nonce block s h n es
    → IsSector nonce n (sector n block) s' h' next → ((s' ≡ s) × (h' ≡ h) × ((length es ≡ 24 * n) ⊎ (length next ≡ 0)) → ⊥)
    → (more : List Entry) → IsRun nonce block s h (n + 1) more → ⊥
run_ends nonce block s h n s' h' es next run is fails more longer =
    let same = ends-other nonce block s h n s' h' next more is longer in
    let here : IsSector nonce n (sector n block) s h next =
    subst (λ (k : ℕ). IsSector nonce n (sector n block) s k next) same.1 (subst (λ (k : ℕ). IsSector nonce n (sector n block) k h' next) same.0 is) in
    fails (
      same.0,
      same.1,
      elim (cases_lt 0 (length next)) [
        | inl some ↦ inl (ends-filled nonce block s h n es next more run here longer some)
        | inr none ↦ inr (omega arith)
      ],
    )

-- the prefix

pub prefix_of_run : (nonce : ℕ) (block : List ℕ) (s h n : ℕ) (es : List Entry) (whole : Bool) → 1 ≤ n → n ≤ 8 → IsRun nonce block s h n es
    → (n < 8 → (more : List Entry) → IsRun nonce block s h (n + 1) more → ⊥) → (IsTrue whole ↔ (n ≡ 8)) → IsPrefix nonce block s h es whole
prefix_of_run nonce block s h n es whole some most run ended all = record {
  count = n;
  range = (some, most);
  run = run;
  longest = λ m more le longer. elim (cases_lt n m) [
    | inl past ↦ absurd (ended (omega arith) (take (24 * (n + 1)) more) (run-front nonce block s h m (n + 1) more (omega arith) longer))
    | inr within ↦ within
  ];
  all = all;
}

pub prefix_partial : (nonce : ℕ) (block : List ℕ) (s h n : ℕ) (es : List Entry) → 1 ≤ n → n < 8 → IsRun nonce block s h n es
    → ((more : List Entry) → IsRun nonce block s h (n + 1) more → ⊥) → IsPrefix nonce block s h es false
prefix_partial nonce block s h n es some most run ended =
    prefix_of_run nonce block s h n es false some (omega arith) run (λ lt. ended) ((λ t. absurd (cc t)), (λ e. absurd (omega (arith, e))))

pub prefix_whole : (nonce : ℕ) (block : List ℕ) (s h : ℕ) (es : List Entry) → IsRun nonce block s h 8 es → IsPrefix nonce block s h es true
prefix_whole nonce block s h es run =
    prefix_of_run nonce block s h 8 es true (omega arith) (omega arith) run (λ lt more longer. absurd (omega arith)) ((λ t. refl), (λ e. refl))

same_flag : (b c : Bool) (P Q : Type 0) → (P → Q) → (Q → P) → (IsTrue b ↔ P) → (IsTrue c ↔ Q) → b ≡ c
same_flag true true P Q there back is is' = refl
same_flag true false P Q there back is is' = sym (is'.1 (there (is.0 refl)))
same_flag false true P Q there back is is' = is.1 (back (is'.0 refl))
same_flag false false P Q there back is is' = refl

-- a block has one prefix
pub one_prefix : (nonce : ℕ) (block : List ℕ) (s h s' h' : ℕ) (es es' : List Entry) (w w' : Bool)
    → IsPrefix nonce block s h es w → IsPrefix nonce block s' h' es' w' → (s ≡ s') × (h ≡ h') × (es ≡ es') × (w ≡ w')
one_prefix nonce block s h s' h' es es' w w' is is' =
    let first = one_reading nonce 0 (sector 0 block) s h s' h' (entries_in 0 es) (entries_in 0 es') (is.run.sectors 0 (omega (arith, is.range))) (is'.run.sectors 0 (omega (arith, is'.range))) in
    let there : IsRun nonce block s h is'.count es' = subst (λ (n : ℕ). IsRun nonce block s n is'.count es') (sym first.1) (subst (λ (n : ℕ). IsRun nonce block n h' is'.count es') (sym first.0) is'.run) in
    let back : IsRun nonce block s' h' is.count es = subst (λ (n : ℕ). IsRun nonce block s' n is.count es) first.1 (subst (λ (n : ℕ). IsRun nonce block n h is.count es) first.0 is.run) in
    let below = is.longest is'.count es' is'.range.1 there in
    let above = is'.longest is.count es is.range.1 back in
    let same : is'.count ≡ is.count = omega (arith, below, above) in (
      first.0,
      first.1,
      run_unique nonce block s h is.count es es' is.run (subst (λ (n : ℕ). IsRun nonce block s h n es') same there),
      same_flag w w' (is.count ≡ 8) (is'.count ≡ 8) (λ e. same ∙ e) (λ e. sym same ∙ e) is.all is'.all,
    )

-- what is written is read back

pub written : (nonce s h : ℕ) (es : List Entry) (i : ℕ) → HoldsBlock s h es → i < 8 → IsSector nonce i (sector i (block_bytes nonce s h es)) s h (entries_in i es)
unfolding block_bytes
written nonce s h es i holds lt = record {
  spelled = written_sector _ i (λ n. length-sector_bytes nonce s h n (entries_in n es) (few_in 24 n es)) lt;
  named = holds.named;
  head_below = holds.head_below;
  few = few_in 24 i es;
  each = All-take HoldsEntry 24 (drop (24 * i) es) (All-drop HoldsEntry (24 * i) es holds.each);
}

pub written_prefix : (nonce s h : ℕ) (es : List Entry) → HoldsBlock s h es → IsPrefix nonce (block_bytes nonce s h es) s h es true
written_prefix nonce s h es holds =
    let few = holds.few in
    prefix_whole nonce (block_bytes nonce s h es) s h es (record { fits = omega arith; sectors = λ i lt. written nonce s h es i holds lt })

-- after a stop within the write, a prefix of this sequence has the block's head and a prefix of its entries
pub torn : (nonce s h : ℕ) (es : List Entry) (block : List ℕ) → HoldsBlock s h es → IsTorn nonce s (block_bytes nonce s h es) block
    → (h' : ℕ) (kept : List Entry) (whole : Bool) → IsPrefix nonce block s h' kept whole
    → (h' ≡ h) × (kept ≡ take (length kept) es) × (IsTrue whole → kept ≡ es)
torn nonce s h es block holds mix h' kept whole is =
    let n = is.count in
    let new = block_bytes nonce s h es in
    let reading : (i : ℕ) → i < n → (s ≡ s) × (h' ≡ h) × (entries_in i kept ≡ entries_in i es) =
    λ i lt. elim (mix i (omega (arith, is.range))) [
      | inl here ↦ one_reading nonce i (sector i block) s h' s h (entries_in i kept) (entries_in i es) (is.run.sectors i lt)
          (subst (λ b. IsSector nonce i b s h (entries_in i es)) (sym here) (written nonce s h es i holds (omega (arith, is.range))))
      | inr old ↦ absurd (old h' (entries_in i kept) (is.run.sectors i lt))
    ] in
    let front : kept ≡ take (24 * n) es =
    same_parts n kept (take (24 * n) es) is.run.fits (simp length-take (omega arith)) (λ i lt. (reading i lt).2 ∙ sym (in_front n i es lt)) in
    let size = ap length front ∙ length-take (24 * n) es in (
      (reading 0 (omega (arith, is.range))).1,
      front ∙ sym (take_min (24 * n) es) ∙ ap (λ k. take k es) (sym size),
      λ t. let all = is.all.0 t in let few = holds.few in front ∙ take_all (24 * n) es (omega (arith, all)),
    )
