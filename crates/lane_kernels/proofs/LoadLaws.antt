-- From the mask of one load to the bytes under it.
use Rattle.std.proofs.Common.{◌≡◌, ℕ, zero, suc, ◌+◌, ◌-◌, ◌%◌, ◌^◌, ◌<◌, ◌≤◌, eqb, Bool, true, false, not, ◌&&◌, List, [], ◌∷◌, map, length, get_or, replicate, cond, refl, sym, ap, ap₂, ◌∙◌, subst, arith, inl, inr, w8}
use Rattle.std.specs.Int.Bits.{xor_add_and, xor_self}
use Rattle.std.specs.Prelude.{slice_index, bit_or, bit_xor, min}
use Rattle.std.specs.List.{prefix_len}
use Rattle.std.proofs.lemmas.Bool.{cases_lt, eqb-true, eq-eqb, ltb-true, lt-ltb, ne_eqb, not-true, not-false}
use Rattle.std.proofs.lemmas.Bool.Decides.{eqb_tells}
use Rattle.std.proofs.lemmas.List.Sums.{prefix_len_passes, prefix_len_stops}
use Rattle.std.proofs.lemmas.Nat.{and_le_l, and_le_r, le_or_l, le_or_r}
use Rattle.std.proofs.lemmas.Simd.{length-chunk, length-zip2, length-replicate, get_or-chunk, get_or-replicate, get_or-zip2, mask_l-mod, tops_compared, trailing_mask_l}
use Rattle.lane_kernels.specs.Kernels.{AreZeros, HasNoZero, IsFreeAt, IsLeastFreeWithin, free_lanes}
use lib.Count.{count_trailing_zeros}
use lib.Lanes.{chunk, sel_l, zip2, mask_l, top}
use lib.Dec.{ltb}

-- no bit of an empty mask is set, and a mask without a bit is empty
no_bit : (ms : List Bool) → mask_l ms ≡ 0 → (k : ℕ) → get_or ms k false ≡ false
no_bit [] none k = refl
no_bit (true ∷ ms) none k = absurd (omega (arith, none))
no_bit (false ∷ ms) none zero = refl
no_bit (false ∷ ms) none (suc k) = no_bit ms (omega (arith, none)) k

no_mask : (ms : List Bool) → ((k : ℕ) → k < length ms → get_or ms k false ≡ false) → mask_l ms ≡ 0
no_mask [] off = refl
no_mask (true ∷ ms) off = absurd (let first = off 0 (omega arith) in cc)
no_mask (false ∷ ms) off = let rest = no_mask ms (λ k below. off (suc k) (omega (arith, below))) in omega (arith, rest)

map-itself : (ms : List Bool) → map (λ b. b) ms ≡ ms
map-itself [] = refl
map-itself (b ∷ ms) = ap (λ bs. b ∷ bs) (map-itself ms)

-- whether two lanes differ, and whether they are the same
abbrev pub differ : ℕ → ℕ → Bool
differ x y = not (eqb x y)

differ_not : (x y : ℕ) → differ x y ≡ false → x ≡ y
differ_not x y is = elim (eqb_tells x y) [ inl same ↦ same.1 | inr other ↦ absurd (let apart = other.0 in cc) ]

same_not : (x y : ℕ) → x ≡ y → differ x y ≡ false
same_not x y is = ap not (eq-eqb x y is)

-- two vectors of 64 lanes that are compared
module _ (t : ℕ → ℕ → Bool) (xs ys : List ℕ) (long : length xs ≡ 64) (long' : length ys ≡ 64) where
  lanes : length (zip2 t xs ys) ≡ 64
  lanes = length-zip2 t xs ys (long ∙ sym long') ∙ long

  -- the number whose bits are the lanes
  pub mask_is : mask_l (map (top 7) (zip2 (λ x y. cond (t x y) 255 0) xs ys)) % 2 ^ 64 ≡ mask_l (zip2 t xs ys)
  mask_is = ap (λ ms. mask_l ms % 2 ^ 64) (tops_compared w8 t xs ys) ∙ mask_l-mod (zip2 t xs ys) 64 (omega (arith, lanes))

  lane : (k : ℕ) → k < 64 → get_or (zip2 t xs ys) k false ≡ t (get_or xs k 0) (get_or ys k 0)
  lane k below = get_or-zip2 t xs ys k 0 0 false (omega (arith, long, below)) (omega (arith, long', below))

  -- an empty mask, and one that isn't: its lowest bit
  pub no_lane : mask_l (zip2 t xs ys) ≡ 0 → (k : ℕ) → k < 64 → t (get_or xs k 0) (get_or ys k 0) ≡ false
  no_lane none k below = sym (lane k below) ∙ no_bit (zip2 t xs ys) none k

  pub all_off : ((k : ℕ) → k < 64 → t (get_or xs k 0) (get_or ys k 0) ≡ false) → mask_l (zip2 t xs ys) ≡ 0
  all_off off = no_mask (zip2 t xs ys) (λ k below. let inside : k < 64 = omega (arith, below, lanes) in lane k inside ∙ off k inside)

  module _ (some : 0 < mask_l (zip2 t xs ys)) where
    first : ℕ
    first = count_trailing_zeros 64 (mask_l (zip2 t xs ys))

    first_is : count_trailing_zeros 64 (mask_l (zip2 t xs ys)) ≡ prefix_len not (zip2 t xs ys)
    first_is =
        let same = map-itself (zip2 t xs ys) in
        ap (λ ms. count_trailing_zeros 64 (mask_l ms)) (sym same)
        ∙ trailing_mask_l (λ (b : Bool). b) 64 (zip2 t xs ys) (omega (arith, lanes)) (subst (λ ms. 0 < mask_l ms) (sym same) some)

    before : (k : ℕ) → k < prefix_len not (zip2 t xs ys) → get_or (zip2 t xs ys) k false ≡ false
    before k below = not-true _ (prefix_len_passes not (zip2 t xs ys) k false below)

    inside_of : prefix_len not (zip2 t xs ys) < 64
    inside_of =
        elim (cases_lt (prefix_len not (zip2 t xs ys)) 64) [
          | inl less ↦ less
          | inr all ↦ absurd (let none = no_mask (zip2 t xs ys) (λ k below. before k (omega (arith, below, lanes, all))) in omega (arith, none, some))
        ]

    pub below_all : count_trailing_zeros 64 (mask_l (zip2 t xs ys)) < 64
    below_all = omega (arith, first_is, inside_of)

    pub first_on : t (get_or xs (count_trailing_zeros 64 (mask_l (zip2 t xs ys))) 0) (get_or ys (count_trailing_zeros 64 (mask_l (zip2 t xs ys))) 0) ≡ true
    first_on =
        let on = not-false _ (prefix_len_stops not (zip2 t xs ys) false (omega (arith, inside_of, lanes))) in
        sym (lane _ below_all) ∙ ap (λ k. get_or (zip2 t xs ys) k false) first_is ∙ on

    pub off_before : (k : ℕ) → k < count_trailing_zeros 64 (mask_l (zip2 t xs ys)) → t (get_or xs k 0) (get_or ys k 0) ≡ false
    off_before k below = sym (lane k (omega (arith, below, below_all))) ∙ before k (omega (arith, below, first_is))

-- the load from a place on: each of its lanes is a byte from there on
pub load_at : (xs : List ℕ) (at k : ℕ) → at ≤ k → k < at + 64 → get_or (chunk at 64 xs) (k - at) 0 ≡ slice_index xs k
load_at xs at k from to = get_or-chunk at 64 xs (k - at) 0 (omega (arith, from, to)) ∙ ap (λ j. slice_index xs j) (omega (arith, from))

-- the lesser of two lanes
bool_false : (b : Bool) → ¬ (b ≡ true) → b ≡ false
bool_false true not = absurd (not refl)
bool_false false not = refl

ltb_not : (x y : ℕ) → y ≤ x → ltb x y ≡ false
ltb_not x y other = bool_false (ltb x y) (λ is. let less = ltb-true x y is in absurd (omega (arith, less, other)))

lesser_lane : (x y : ℕ) → cond (ltb x y) x y ≡ min x y
lesser_lane x y =
    elim (cases_lt x y) [
      | inl less ↦ rw (lt-ltb x y less) (omega (arith, less))
      | inr other ↦ rw (ltb_not x y other) (omega (arith, other))
    ]

lesser_lanes : (xs ys : List ℕ) → sel_l (zip2 ltb xs ys) xs ys ≡ zip2 min xs ys
lesser_lanes [] ys = refl
lesser_lanes (x ∷ xs) [] = refl
lesser_lanes (x ∷ xs) (y ∷ ys) = ap₂ (λ (n : ℕ) (ns : List ℕ). n ∷ ns) (lesser_lane x y) (lesser_lanes xs ys)

pub lesser_is : (xs ys : List ℕ) → sel_l (map (top 7) (zip2 (λ x y. cond (ltb x y) 255 0) xs ys)) xs ys ≡ zip2 min xs ys
lesser_is xs ys = ap (λ ms. sel_l ms xs ys) (tops_compared w8 ltb xs ys) ∙ lesser_lanes xs ys

-- lanes that are compared with zeros
module _ (xs : List ℕ) (long : length xs ≡ 64) where
  pub nonzeros : mask_l (map (top 7) (zip2 (λ x y. cond (differ x y) 255 0) xs (replicate 64 0))) % 2 ^ 64 ≡ mask_l (zip2 differ xs (replicate 64 0))
  nonzeros = mask_is differ xs (replicate 64 0) long (length-replicate {A = ℕ} 64 0)

  pub zero_under : mask_l (zip2 differ xs (replicate 64 0)) ≡ 0 → (k : ℕ) → k < 64 → slice_index xs k ≡ 0
  zero_under none k below =
      differ_not _ _ (no_lane differ xs (replicate 64 0) long (length-replicate {A = ℕ} 64 0) none k below) ∙ get_or-replicate 64 k 0 0 below

  pub empty_of_zeros : ((k : ℕ) → k < 64 → slice_index xs k ≡ 0) → mask_l (zip2 differ xs (replicate 64 0)) ≡ 0
  empty_of_zeros zeros =
      all_off differ xs (replicate 64 0) long (length-replicate {A = ℕ} 64 0) (λ k below.
      same_not _ _ (zeros k below ∙ sym (get_or-replicate 64 k 0 0 below)))

  -- the same of the lanes that are 0
  pub zero_lanes : mask_l (map (top 7) (zip2 (λ x y. cond (eqb x y) 255 0) xs (replicate 64 0))) % 2 ^ 64 ≡ mask_l (zip2 eqb xs (replicate 64 0))
  zero_lanes = mask_is eqb xs (replicate 64 0) long (length-replicate {A = ℕ} 64 0)

  pub no_zero : mask_l (zip2 eqb xs (replicate 64 0)) ≡ 0 → HasNoZero xs
  no_zero none k below zero_there =
      let off = no_lane eqb xs (replicate 64 0) long (length-replicate {A = ℕ} 64 0) none k below in
      let on = eq-eqb _ _ (zero_there ∙ sym (get_or-replicate 64 k 0 0 below)) in
      absurd (let both = sym off ∙ on in cc)

-- lane by lane, of two vectors: both, one of them, and whether they differ
or_zero : (a b : ℕ) → bit_or a b ≡ 0 → (a ≡ 0) × (b ≡ 0)
or_zero a b none = (omega (arith, none, le_or_l a b), omega (arith, none, le_or_r a b))

xor_zero : (a b : ℕ) → bit_xor a b ≡ 0 → a ≡ b
xor_zero a b none = omega (arith, none, xor_add_and a b, and_le_l a b, and_le_r a b)

xor_same : (a b : ℕ) → a ≡ b → bit_xor a b ≡ 0
xor_same a b same = ap (λ n. bit_xor n b) same ∙ xor_self b

module _ (op : ℕ → ℕ → ℕ) (xs ys : List ℕ) (long : length xs ≡ 64) (long' : length ys ≡ 64) where
  pub op_long : length (zip2 op xs ys) ≡ 64
  op_long = length-zip2 op xs ys (long ∙ sym long') ∙ long

  pub op_lane : (k : ℕ) → k < 64 → slice_index (zip2 op xs ys) k ≡ op (slice_index xs k) (slice_index ys k)
  op_lane k below = get_or-zip2 op xs ys k 0 0 0 (omega (arith, long, below)) (omega (arith, long', below))

module _ (xs ys : List ℕ) (long : length xs ≡ 64) (long' : length ys ≡ 64) where
  or_zeros : AreZeros (zip2 bit_or xs ys) → AreZeros xs × AreZeros ys
  or_zeros zeros = (
    (λ k below. (or_zero _ _ (sym (op_lane bit_or xs ys long long' k below) ∙ zeros k below)).0),
    (λ k below. (or_zero _ _ (sym (op_lane bit_or xs ys long long' k below) ∙ zeros k below)).1),
  )

  zeros_or : AreZeros xs → AreZeros ys → AreZeros (zip2 bit_or xs ys)
  zeros_or left right k below = op_lane bit_or xs ys long long' k below ∙ rw (left k below, right k below) refl

  lesser_no_zero : HasNoZero (zip2 min xs ys) → HasNoZero xs × HasNoZero ys
  lesser_no_zero none = (
    (λ k below zero_there. none k below (op_lane min xs ys long long' k below ∙ omega (arith, zero_there))),
    (λ k below zero_there. none k below (op_lane min xs ys long long' k below ∙ omega (arith, zero_there))),
  )

-- four vectors
module _ (first second third fourth : List ℕ) (long₁ : length first ≡ 64) (long₂ : length second ≡ 64) (long₃ : length third ≡ 64) (long₄ : length fourth ≡ 64) where
  abbrev pub four_by : (ℕ → ℕ → ℕ) → List ℕ
  four_by op = zip2 op (zip2 op first second) (zip2 op third fourth)

  front_long : (op : ℕ → ℕ → ℕ) → length (zip2 op first second) ≡ 64
  front_long op = op_long op first second long₁ long₂

  back_long : (op : ℕ → ℕ → ℕ) → length (zip2 op third fourth) ≡ 64
  back_long op = op_long op third fourth long₃ long₄

  pub four_long : (op : ℕ → ℕ → ℕ) → length (four_by op) ≡ 64
  four_long op = op_long op (zip2 op first second) (zip2 op third fourth) (front_long op) (back_long op)

  pub four_zeros : AreZeros (four_by bit_or) → AreZeros first × AreZeros second × AreZeros third × AreZeros fourth
  four_zeros zeros =
      let halves = or_zeros (zip2 bit_or first second) (zip2 bit_or third fourth) (front_long bit_or) (back_long bit_or) zeros in
      let fronts = or_zeros first second long₁ long₂ halves.0 in
      let backs = or_zeros third fourth long₃ long₄ halves.1 in
      (fronts.0, fronts.1, backs.0, backs.1)

  pub zeros_four : AreZeros first → AreZeros second → AreZeros third → AreZeros fourth → AreZeros (four_by bit_or)
  zeros_four one two three four =
      zeros_or (zip2 bit_or first second) (zip2 bit_or third fourth) (front_long bit_or) (back_long bit_or)
      (zeros_or first second long₁ long₂ one two) (zeros_or third fourth long₃ long₄ three four)

  pub four_no_zeros : HasNoZero (four_by min) → HasNoZero first × HasNoZero second × HasNoZero third × HasNoZero fourth
  four_no_zeros none =
      let halves = lesser_no_zero (zip2 min first second) (zip2 min third fourth) (front_long min) (back_long min) none in
      let fronts = lesser_no_zero first second long₁ long₂ halves.0 in
      let backs = lesser_no_zero third fourth long₃ long₄ halves.1 in
      (fronts.0, fronts.1, backs.0, backs.1)

-- what holds under each of four loads holds of their places
abbrev pub IsUnder : (ℕ → Type 0) → ℕ → Type 0
IsUnder P from = (k : ℕ) → from ≤ k → k < from + 64 → P k

pub under_four : (P : ℕ → Type 0) (at : ℕ) → IsUnder P at → IsUnder P (at + 64) → IsUnder P (at + 128) → IsUnder P (at + 192) → (k : ℕ) → at ≤ k → k < at + 256 → P k
under_four P at one two three four k from to =
    elim (cases_lt k (at + 128)) [
      | inl early ↦ elim (cases_lt k (at + 64)) [ inl first ↦ one k from first | inr second ↦ two k second (omega (arith, early)) ]
      | inr late ↦ elim (cases_lt k (at + 192)) [ inl third ↦ three k late (omega (arith, third)) | inr fourth ↦ four k fourth (omega (arith, to)) ]
    ]

-- and what holds of their places holds under each
pub four_under : (P : ℕ → Type 0) (at : ℕ) → ((k : ℕ) → at ≤ k → k < at + 256 → P k) → IsUnder P at × IsUnder P (at + 64) × IsUnder P (at + 128) × IsUnder P (at + 192)
four_under P at all = (
  (λ k from to. all k from (omega (arith, to))),
  (λ k from to. all k (omega (arith, from)) (omega (arith, to))),
  (λ k from to. all k (omega (arith, from)) (omega (arith, to))),
  (λ k from to. all k (omega (arith, from)) (omega (arith, to))),
)

-- the bytes under one load, by its lanes
pub zeros_under : (bytes : List ℕ) (from : ℕ) → AreZeros (chunk from 64 bytes) → IsUnder (λ k. slice_index bytes k ≡ 0) from
zeros_under bytes from zeros k least most = sym (load_at bytes from k least most) ∙ zeros (k - from) (omega (arith, least, most))

pub chunk_long : (bytes : List ℕ) (from : ℕ) → from + 64 ≤ length bytes → length (chunk from 64 bytes) ≡ 64
chunk_long bytes from room = length-chunk from 64 bytes room

pub zeros_here : (bytes : List ℕ) (from : ℕ) → IsUnder (λ k. slice_index bytes k ≡ 0) from → AreZeros (chunk from 64 bytes)
zeros_here bytes from zeros k below = get_or-chunk from 64 bytes k 0 below ∙ zeros (from + k) (omega arith) (omega (arith, below))

-- two loads
module _ (xs ys : List ℕ) (at : ℕ) (room : at + 64 ≤ length xs) (room' : at + 64 ≤ length ys) where
  left_long : length (chunk at 64 xs) ≡ 64
  left_long = length-chunk at 64 xs room

  right_long : length (chunk at 64 ys) ≡ 64
  right_long = length-chunk at 64 ys room'

  pub both_long : (op : ℕ → ℕ → ℕ) → length (zip2 op (chunk at 64 xs) (chunk at 64 ys)) ≡ 64
  both_long op = op_long op (chunk at 64 xs) (chunk at 64 ys) left_long right_long

  both_lane : (op : ℕ → ℕ → ℕ) (k : ℕ) → at ≤ k → k < at + 64 → slice_index (zip2 op (chunk at 64 xs) (chunk at 64 ys)) (k - at) ≡ op (slice_index xs k) (slice_index ys k)
  both_lane op k from to =
      op_lane op (chunk at 64 xs) (chunk at 64 ys) left_long right_long (k - at) (omega (arith, from, to)) ∙ ap₂ op (load_at xs at k from to) (load_at ys at k from to)

  pub same_under : AreZeros (zip2 bit_xor (chunk at 64 xs) (chunk at 64 ys)) → IsUnder (λ k. slice_index xs k ≡ slice_index ys k) at
  same_under zeros k from to = xor_zero _ _ (sym (both_lane bit_xor k from to) ∙ zeros (k - at) (omega (arith, from, to)))

  pub same_here : IsUnder (λ k. slice_index xs k ≡ slice_index ys k) at → AreZeros (zip2 bit_xor (chunk at 64 xs) (chunk at 64 ys))
  same_here same k below =
      let back : at + k - at ≡ k = omega arith in
      ap (λ j. slice_index (zip2 bit_xor (chunk at 64 xs) (chunk at 64 ys)) j) (sym back)
      ∙ both_lane bit_xor (at + k) (omega arith) (omega (arith, below)) ∙ xor_same _ _ (same (at + k) (omega arith) (omega (arith, below)))

  pub held_under : HasNoZero (zip2 bit_or (chunk at 64 xs) (chunk at 64 ys)) → IsUnder (λ k. ¬ IsFreeAt xs ys k) at
  held_under none k from to free =
      none (k - at) (omega (arith, from, to)) (both_lane bit_or k from to ∙ rw (free.0, free.1) refl)

-- four of them, of which the least lanes are taken
module _ (counters claims : List ℕ) (at : ℕ) (room : at + 256 ≤ length counters) (room' : at + 256 ≤ length claims) where
  abbrev held : ℕ → List ℕ
  held from = zip2 bit_or (chunk from 64 counters) (chunk from 64 claims)

  abbrev pub least : List ℕ
  least = zip2 min (zip2 min (held at) (held (at + 64))) (zip2 min (held (at + 128)) (held (at + 192)))

  held_long : (from : ℕ) → from + 64 ≤ at + 256 → length (held from) ≡ 64
  held_long from most = both_long counters claims from (omega (arith, room, most)) (omega (arith, room', most)) bit_or

  pub least_long : length least ≡ 64
  least_long =
      four_long (held at) (held (at + 64)) (held (at + 128)) (held (at + 192)) (held_long at (omega arith)) (held_long (at + 64) (omega arith))
      (held_long (at + 128) (omega arith)) (held_long (at + 192) (omega arith)) min

  held_here : (from : ℕ) → from + 64 ≤ at + 256 → HasNoZero (held from) → IsUnder (λ k. ¬ IsFreeAt counters claims k) from
  held_here from most = held_under counters claims from (omega (arith, room, most)) (omega (arith, room', most))

  pub none_under_four : HasNoZero least → (k : ℕ) → at ≤ k → k < at + 256 → ¬ IsFreeAt counters claims k
  none_under_four none =
      let all =
      four_no_zeros (held at) (held (at + 64)) (held (at + 128)) (held (at + 192)) (held_long at (omega arith)) (held_long (at + 64) (omega arith))
      (held_long (at + 128) (omega arith)) (held_long (at + 192) (omega arith)) none in
      under_four (λ k. ¬ IsFreeAt counters claims k) at (held_here at (omega arith) all.0) (held_here (at + 64) (omega arith) all.1)
      (held_here (at + 128) (omega arith) all.2) (held_here (at + 192) (omega arith) all.3)

-- which lanes are free: by the vector that has either
or_is_zero : (a b : ℕ) → eqb (bit_or a b) 0 ≡ (eqb a 0 && eqb b 0)
or_is_zero zero b = refl
or_is_zero (suc a) b =
    ne_eqb _ _ (λ none. absurd (let left = (or_zero (suc a) b none).0 in omega (arith, left)))
    ∙ ap (λ zero_there. zero_there && eqb b 0) (sym (ne_eqb (suc a) 0 (λ none. absurd (omega (arith, none)))))

or_lanes : (xs ys : List ℕ) (n : ℕ) → length xs ≤ n → zip2 eqb (zip2 bit_or xs ys) (replicate n 0) ≡ zip2 (λ x y. eqb x 0 && eqb y 0) xs ys
or_lanes [] ys n few = refl
or_lanes (x ∷ xs) [] n few = refl
or_lanes (x ∷ xs) (y ∷ ys) zero few = absurd (omega (arith, few))
or_lanes (x ∷ xs) (y ∷ ys) (suc n) few = ap₂ (λ (b : Bool) (bs : List Bool). b ∷ bs) (or_is_zero x y) (or_lanes xs ys n (omega (arith, few)))

module _ (counters claims : List ℕ) (at : ℕ) (room : at + 64 ≤ length counters) (room' : at + 64 ≤ length claims) where
  ours : length (chunk at 64 counters) ≡ 64
  ours = length-chunk at 64 counters room

  theirs : length (chunk at 64 claims) ≡ 64
  theirs = length-chunk at 64 claims room'

  module _ (either : List ℕ) (is : either ≡ zip2 bit_or (chunk at 64 counters) (chunk at 64 claims)) where
    either_long : length either ≡ 64
    either_long = ap (λ (vs : List ℕ). length vs) is ∙ length-zip2 bit_or (chunk at 64 counters) (chunk at 64 claims) (ours ∙ sym theirs) ∙ ours

    pub free_mask : mask_l (map (top 7) (zip2 (λ x y. cond (eqb x y) 255 0) either (replicate 64 0))) % 2 ^ 64 ≡ mask_l (free_lanes at 64 counters claims)
    free_mask =
        mask_is eqb either (replicate 64 0) either_long (length-replicate {A = ℕ} 64 0)
        ∙ ap (λ vs. mask_l (zip2 eqb vs (replicate 64 0))) is
        ∙ ap mask_l (or_lanes (chunk at 64 counters) (chunk at 64 claims) 64 (omega (arith, ours)))

  abbrev is_free : ℕ → ℕ → Bool
  is_free counter claim = eqb counter 0 && eqb claim 0

  free_is : (a b : ℕ) → is_free a b ≡ true → (a ≡ 0) × (b ≡ 0)
  free_is zero b is = (refl, eqb-true b 0 is)
  free_is (suc a) b is = absurd (let off = ap (λ zero_there. zero_there && eqb b 0) (ne_eqb (suc a) 0 (λ none. absurd (omega (arith, none)))) in cc)

  is_on : (a b : ℕ) → a ≡ 0 → b ≡ 0 → is_free a b ≡ true
  is_on a b left right = rw (left, right) refl

  lane_of : (k : ℕ) (b : Bool) → at ≤ k → k < at + 64 → is_free (get_or (chunk at 64 counters) (k - at) 0) (get_or (chunk at 64 claims) (k - at) 0) ≡ b
      → is_free (slice_index counters k) (slice_index claims k) ≡ b
  lane_of k b from to is = sym (ap₂ is_free (load_at counters at k from to) (load_at claims at k from to)) ∙ is

  not_off : (k : ℕ) → is_free (slice_index counters k) (slice_index claims k) ≡ false → ¬ IsFreeAt counters claims k
  not_off k off free = absurd (let on = is_on _ _ free.0 free.1 in cc)

  pub none_free : mask_l (free_lanes at 64 counters claims) ≡ 0 → (k : ℕ) → at ≤ k → k < at + 64 → ¬ IsFreeAt counters claims k
  none_free none k from to =
      not_off k (lane_of k false from to (no_lane is_free (chunk at 64 counters) (chunk at 64 claims) ours theirs none (k - at) (omega (arith, from, to))))

  pub least_is : 0 < mask_l (free_lanes at 64 counters claims)
      → IsLeastFreeWithin at (at + 64) counters claims (at + count_trailing_zeros 64 (mask_l (free_lanes at 64 counters claims)))
  least_is some =
      let first = count_trailing_zeros 64 (mask_l (free_lanes at 64 counters claims)) in
      let below : first < 64 = below_all is_free (chunk at 64 counters) (chunk at 64 claims) ours theirs some in
      let on = first_on is_free (chunk at 64 counters) (chunk at 64 claims) ours theirs some in
      let back : at + first - at ≡ first = omega arith in
      record {
        within = (omega arith, omega (arith, below));
        free =
            free_is _ _ (lane_of (at + first) true (omega arith) (omega (arith, below))
            (subst (λ j. is_free (get_or (chunk at 64 counters) j 0) (get_or (chunk at 64 claims) j 0) ≡ true) (sym back) on));
        least = λ k from to.
            not_off k (lane_of k false from (omega (arith, to, below))
            (off_before is_free (chunk at 64 counters) (chunk at 64 claims) ours theirs some (k - at) (omega (arith, from, to))));
      }
