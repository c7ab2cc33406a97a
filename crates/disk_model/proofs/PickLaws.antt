-- How an image is put together that a number picks.
use Rattle.std.proofs.Common.{ℕ, zero, suc, ◌≡◌, ◌≢◌, ◌+◌, ◌-◌, ◌*◌, ◌==◌, ◌<◌, ◌≤◌, ◌++◌, if◌then◌else◌, List, length, reverse, take, drop, refl, sym, ◌∙◌, ap, subst, inl, inr, arith, slice_set, length-drop, length-append}
use Rattle.std.proofs.Math.Nat.{mod-one}
use Rattle.std.proofs.lemmas.Bool.{cases_lt}
use Rattle.std.proofs.lemmas.Bool.Decides.{eqb_tells}
use Rattle.std.proofs.lemmas.List.{get_or-set_other, get_or-set_same, length-set, drop-append-le, drop-drop, drop-take, drop_at, length-reverse, length-take-le, reverse-append, take-append-drop, take-append-le, take-take, take_at}
use Rattle.blk_base.specs.Sectors.{sector, zero_block}
use Rattle.disk_model.specs.Numbers.{next_state, number_in, state_after}
use Rattle.disk_model.specs.declared.call.Call.{Call}
use Rattle.disk_model.specs.Picks.{choice, content_of, numbers_before, pending}
use Rattle.disk_model.specs.Log.{Blocks, block_at}
use Rattle.disk_model.specs.PickParts.{IsPickedUpTo, copied}

-- the oldest calls of a log are what is left of it without the newest
pub oldest : (calls : List Call) (n : ℕ) → n ≤ length calls → reverse (take n calls) ≡ drop (length (reverse calls) - n) (reverse calls)
oldest calls n few =
    let front = take n calls in
    let back = drop n calls in
    let whole : reverse calls ≡ reverse back ++ reverse front = ap reverse (sym (take-append-drop n calls)) ∙ reverse-append front back in
    let size : length (reverse back) ≡ length (reverse calls) - n = length-reverse back ∙ length-drop n calls ∙ ap (λ (k : ℕ). k - n) (sym (length-reverse calls)) in
    sym (drop_at (reverse back) (reverse front) (length (reverse calls) - n) size) ∙ ap (drop (length (reverse calls) - n)) (sym whole)

-- Sectors of a block of which one was copied.

module _ (i : ℕ) (into from : List ℕ) (below : i < 8) (size : length into ≡ 4096) (size_from : length from ≡ 4096) where
  front_size : length (take (512 * i) into) ≡ 512 * i
  front_size = length-take-le (512 * i) into (omega (arith, below, size))

  middle_size : length (take 512 (drop (512 * i) from)) ≡ 512
  middle_size = length-take-le 512 (drop (512 * i) from) (let left = length-drop (512 * i) from in omega (arith, below, size_from, left))

  pub copied_size : length (copied (512 * i) into from) ≡ 4096
  copied_size =
      let middle = take 512 (drop (512 * i) from) in
      let back = drop (512 * i + 512) into in
      let left = length-drop (512 * i + 512) into in
      length-append (take (512 * i) into) (middle ++ back) ∙ ap (λ (n : ℕ). length (take (512 * i) into) + n) (length-append middle back)
      ∙ omega (arith, below, size, front_size, middle_size, left)

  pub copied_here : sector i (copied (512 * i) into from) ≡ sector i from
  copied_here =
      ap (take 512) (drop_at (take (512 * i) into) (take 512 (drop (512 * i) from) ++ drop (512 * i + 512) into) (512 * i) front_size)
      ∙ take_at (take 512 (drop (512 * i) from)) (drop (512 * i + 512) into) 512 middle_size

  copied_before : (j : ℕ) → j < i → sector j (copied (512 * i) into from) ≡ sector j into
  copied_before j less =
      let rest = take 512 (drop (512 * i) from) ++ drop (512 * i + 512) into in
      let place : 512 * j + (512 * i - 512 * j) ≡ 512 * i = omega (arith, less) in
      let cut : drop (512 * j) (take (512 * i) into) ≡ take (512 * i - 512 * j) (drop (512 * j) into) =
      ap (λ (n : ℕ). drop (512 * j) (take n into)) (sym place) ∙ drop-take (512 * j) (512 * i - 512 * j) into in
      let left = length-drop (512 * j) into in
      let cut_size : length (take (512 * i - 512 * j) (drop (512 * j) into)) ≡ 512 * i - 512 * j =
      length-take-le (512 * i - 512 * j) (drop (512 * j) into) (omega (arith, less, below, size, left)) in
      ap (take 512) (drop-append-le (512 * j) (take (512 * i) into) rest (omega (arith, less, front_size)) ∙ ap (λ (xs : List ℕ). xs ++ rest) cut)
      ∙ take-append-le 512 (take (512 * i - 512 * j) (drop (512 * j) into)) rest (omega (arith, less, cut_size))
      ∙ take-take 512 (512 * i - 512 * j) (drop (512 * j) into) (omega (arith, less))

  copied_behind : (j : ℕ) → i < j → sector j (copied (512 * i) into from) ≡ sector j into
  copied_behind j more =
      let middle = take 512 (drop (512 * i) from) in
      let back = drop (512 * i + 512) into in
      let beyond : 512 * i + (512 * j - 512 * i) ≡ 512 * j = omega (arith, more) in
      let beyond_too : 512 + (512 * j - 512 * i - 512) ≡ 512 * j - 512 * i = omega (arith, more) in
      let there : 512 * i + 512 + (512 * j - 512 * i - 512) ≡ 512 * j = omega (arith, more) in
      ap (take 512)
      (ap (λ (n : ℕ). drop n (copied (512 * i) into from)) (sym beyond)
      ∙ sym (drop-drop (512 * j - 512 * i) (512 * i) (copied (512 * i) into from))
      ∙ ap (drop (512 * j - 512 * i)) (drop_at (take (512 * i) into) (middle ++ back) (512 * i) front_size)
      ∙ ap (λ (n : ℕ). drop n (middle ++ back)) (sym beyond_too)
      ∙ sym (drop-drop (512 * j - 512 * i - 512) 512 (middle ++ back))
      ∙ ap (drop (512 * j - 512 * i - 512)) (drop_at middle back 512 middle_size)
      ∙ drop-drop (512 * j - 512 * i - 512) (512 * i + 512) into
      ∙ ap (λ (n : ℕ). drop n into) there)

  pub copied_other : (j : ℕ) → j ≢ i → sector j (copied (512 * i) into from) ≡ sector j into
  copied_other j other = elim (cases_lt j i) [
    | inl less ↦ copied_before j less
    | inr not_less ↦ copied_behind j (omega (arith, not_less, other))
  ]

-- Rows of numbers.

pub later_state : (seed n m : ℕ) → state_after (state_after seed n) m ≡ state_after seed (n + m)
later_state seed n zero = let same : n ≡ n + 0 = omega arith in ap (state_after seed) same
later_state seed n (suc m) =
    let next : suc (n + m) ≡ n + suc m = omega arith in
    ap next_state (later_state seed n m) ∙ ap (state_after seed) next

-- of a block without writes there is one content to choose
pub choice_alone : (number state : ℕ) → choice number 0 state ≡ 0
choice_alone number state = elim (eqb_tells number 0) [
  | inl none ↦ rw (none.0) refl
  | inr some ↦ elim (eqb_tells number 1) [
    | inl one ↦ rw (some.0, one.0) refl
    | inr more ↦ rw (some.0, more.0) (mod-one (number_in state))
  ]
]

-- The first blocks of a picked image.

same_block : (blocks : Blocks) (x : List ℕ) (b k : ℕ) → k ≢ b → block_at (slice_set blocks b x) k ≡ block_at blocks k
same_block blocks x b k apart = get_or-set_other blocks b k x zero_block apart

pub none_picked : (before : Blocks) (log : List Call) (number : ℕ) → IsPickedUpTo before log number 0 before number
none_picked before log number = record {
  size = refl;
  state_is = refl;
  whole = λ b within. absurd (omega (arith, within));
  sectors = λ b i within below. absurd (omega (arith, within));
  rest = λ b more inside. refl;
}

module _ (before : Blocks) (log : List Call) (number b : ℕ) (image : Blocks) (old x : List ℕ) (state state' : ℕ)
    (up : IsPickedUpTo before log number b image state) (inside : b < length before) (is : old ≡ block_at image b) (whole : length x ≡ 4096)
    (sectors : (i : ℕ) → i < 8 → sector i x ≡ sector i (content_of old log b (choice number (pending log b) (state_after state (suc i)))))
    (next : state' ≡ (if pending log b == 0 then state else state_after state 8)) where
  stands : old ≡ block_at before b
  stands = let few : b ≤ b = omega arith in is ∙ up.rest b few inside

  here : block_at (slice_set image b x) b ≡ x
  here = let size = up.size in get_or-set_same image b x zero_block (omega (arith, inside, size))

  state_here : (i : ℕ) → state_after state (suc i) ≡ state_after number (suc (numbers_before log b + i))
  state_here i =
      let place : numbers_before log b + suc i ≡ suc (numbers_before log b + i) = omega arith in
      ap (λ (s : ℕ). state_after s (suc i)) up.state_is ∙ later_state number (numbers_before log b) (suc i) ∙ ap (state_after number) place

  sector_here : (i : ℕ) → i < 8
      → sector i (block_at (slice_set image b x) b) ≡ sector i (content_of (block_at before b) log b (choice number (pending log b) (state_after number (suc (numbers_before log b + i)))))
  sector_here i below =
      ap (sector i) here ∙ sectors i below
      ∙ ap (λ (bytes : List ℕ). sector i (content_of bytes log b (choice number (pending log b) (state_after state (suc i))))) stands
      ∙ ap (λ (s : ℕ). sector i (content_of (block_at before b) log b (choice number (pending log b) s))) (state_here i)

  pub picked_more : IsPickedUpTo before log number (suc b) (slice_set image b x) state'
  picked_more = record {
    size = length-set image b x ∙ up.size;
    state_is = elim (eqb_tells (pending log b) 0) [
      | inl none ↦ next ∙ rw (none.0) up.state_is
      | inr some ↦
          let more : numbers_before log b + 8 ≡ 8 + numbers_before log b = omega arith in
          next ∙ rw (some.0) (ap (λ (s : ℕ). state_after s 8) up.state_is ∙ later_state number (numbers_before log b) 8 ∙ ap (state_after number) more)
    ];
    whole = λ k within. elim (eqb_tells k b) [
      | inl same ↦ ap length (ap (block_at (slice_set image b x)) same.1 ∙ here) ∙ whole
      | inr other ↦ let apart = other.1 in
          ap length (same_block image x b k apart) ∙ up.whole k (omega (arith, within, apart))
    ];
    sectors = λ k i within below. elim (eqb_tells k b) [
      | inl same ↦ subst (λ (n : ℕ). sector i (block_at (slice_set image b x) n) ≡ sector i (content_of (block_at before n) log n (choice number (pending log n) (state_after number (suc (numbers_before log n + i))))))
          (sym same.1) (sector_here i below)
      | inr other ↦ let apart = other.1 in
          ap (sector i) (same_block image x b k apart) ∙ up.sectors k i (omega (arith, within, apart)) below
    ];
    rest = λ k more inside. same_block image x b k (λ same. absurd (omega (arith, more, same))) ∙ up.rest k (omega (arith, more)) inside;
  }
