-- What is spelled is read back, and where the parts of a spelling stand.
use Rattle.std.specs.Prelude.{ℕ, zero, suc, ◌≡◌, ◌<◌, ◌≤◌, ◌^◌, ◌+◌, ◌-◌, ◌*◌, ◌/◌, ◌%◌, List, [], ◌∷◌, ◌++◌, length, take, drop, slice_index, flat_map, refl}
use Rattle.std.proofs.Common.{sym, ◌∙◌, ap, arith, get_or, length-append, length-drop, append_assoc}
use Rattle.std.proofs.lemmas.List.{drop_at, drop-drop, take_at, take-append-drop, drop-append-le, take_more, append-nil, length-take-le, get_or-drop, drop_more as drop_more_items}
use Rattle.std.proofs.lemmas.List.Concat.{flat_map-append}
use Rattle.std.proofs.Math.Nat.{pow-succ', div-div-eq-div-mul}
use Rattle.std.specs.Int.{byte_at, bytes_low_first}
use Rattle.byteorder.specs.Endian.{little_number}
use Rattle.byteorder.specs.Numbers.{little_number-reads_back, length-bytes_low_first, little_from-append, little_from-cons}
use Rattle.byte_fields.specs.Fields.{le, number_at}

-- a number in n bytes is n bytes long
pub length-le : (n x : ℕ) → length (le n x) ≡ n
unfolding le
length-le n x = length-bytes_low_first 0 n x

-- it is read back, whatever follows
pub le-reads_back : (n x : ℕ) (rest : List ℕ) → x < 256 ^ n → little_number n (le n x ++ rest) ≡ x
unfolding le
le-reads_back n x rest fits = little_number-reads_back n x rest fits

-- a byte is itself
pub le-byte : (x : ℕ) → x < 256 → le 1 x ≡ x ∷ []
unfolding le
le-byte x fits = let low : x % 256 ≡ x = omega arith in ap (λ b. b ∷ []) low

-- a number behind bytes of a known length
pub number_behind : (n x place : ℕ) (front rest bytes : List ℕ) → bytes ≡ front ++ (le n x ++ rest) → length front ≡ place → x < 256 ^ n
    → number_at n place bytes ≡ x
unfolding number_at
number_behind n x place front rest bytes is size fits =
    rw (is, drop_at front (le n x ++ rest) place size, le-reads_back n x rest fits) refl

-- numbers that fit and have the same bytes are the same
pub le-injective : (n x y : ℕ) → x < 256 ^ n → y < 256 ^ n → le n x ≡ le n y → x ≡ y
le-injective n x y fits fits' same =
    sym (le-reads_back n x [] fits) ∙ ap (λ (b : List ℕ). little_number n (b ++ [])) same ∙ le-reads_back n y [] fits'

-- the bytes of the number that bytes spell are those bytes
pub le-number : (n : ℕ) (xs : List ℕ) → n ≤ length xs → ((k : ℕ) → slice_index xs k < 256) → le n (little_number n xs) ≡ take n xs
unfolding le
le-number n xs fits bytes = low_bytes n xs fits bytes
  where
    byte_at-more : (j x : ℕ) → byte_at (suc j) x ≡ byte_at j (x / 256)
    byte_at-more zero x = refl
    byte_at-more (suc j) x = ap (λ (y : ℕ). y % 256) (ap (λ (p : ℕ). x / p) (pow-succ' 256 (suc j)) ∙ sym (div-div-eq-div-mul x 256 (256 ^ suc j)))

    bytes-more : (j n x : ℕ) → bytes_low_first (suc j) n x ≡ bytes_low_first j n (x / 256)
    bytes-more j zero x = refl
    bytes-more j (suc n) x = ap (λ b. b ∷ bytes_low_first (suc (suc j)) n x) (byte_at-more j x) ∙ ap (λ bs. byte_at j (x / 256) ∷ bs) (bytes-more (suc j) n x)

    low_bytes : (n : ℕ) (xs : List ℕ) → n ≤ length xs → ((k : ℕ) → slice_index xs k < 256) → bytes_low_first 0 n (little_number n xs) ≡ take n xs
    low_bytes zero xs fits bytes = refl
    low_bytes (suc n) [] fits bytes = absurd (omega arith)
    low_bytes (suc n) (a ∷ xs) fits bytes =
        let rest = little_number n xs in
        let value : little_number (suc n) (a ∷ xs) ≡ a + 256 * rest = ap (λ (r : ℕ). a + 256 * r) (little_from-cons 0 n a xs) in
        let first = bytes 0 in
        let low : (a + 256 * rest) % 256 ≡ a = omega (arith, first) in
        let high : (a + 256 * rest) / 256 ≡ rest = omega (arith, first) in
        ap (bytes_low_first 0 (suc n)) value
        ∙ ap (λ b. b ∷ bytes_low_first 1 n (a + 256 * rest)) low
        ∙ ap (λ bs. a ∷ bs) (bytes-more 0 n (a + 256 * rest) ∙ ap (bytes_low_first 0 n) high ∙ low_bytes n xs (omega arith) (λ k. bytes (suc k)))

-- the bytes of the number at a place are those that stand there
pub le-number_at : (n at : ℕ) (bytes : List ℕ) → at + n ≤ length bytes → ((k : ℕ) → slice_index bytes k < 256) → le n (number_at n at bytes) ≡ take n (drop at bytes)
unfolding number_at
le-number_at n at bytes fits are =
    le-number n (drop at bytes) (simp length-drop (omega arith)) (λ k. let same = get_or-drop at bytes k 0 in let small = are (at + k) in omega (arith, same, small))

-- a number behind a place, in the bytes from there on
pub number_at-drop : (n at place : ℕ) (bytes : List ℕ) → number_at n at (drop place bytes) ≡ number_at n (place + at) bytes
unfolding number_at
number_at-drop n at place bytes = ap (little_number n) (drop-drop at place bytes)

-- a number reads nothing behind its end
pub number_at-append : (n at : ℕ) (xs ys : List ℕ) → at + n ≤ length xs → number_at n at (xs ++ ys) ≡ number_at n at xs
unfolding number_at
number_at-append n at xs ys fits =
    rw (drop-append-le at xs ys (omega arith)) (little_from-append n (drop at xs) ys (simp length-drop (omega arith)))

-- what lies behind a place lies behind any later one
pub drop_more : (x y : List ℕ) (e k : ℕ) → e ≤ k → drop e x ≡ drop e y → drop k x ≡ drop k y
drop_more x y e k le same =
    let j = k - e in
    let place : k ≡ e + j = omega arith in
    rw place (sym (drop-drop j e x) ∙ ap (drop j) same ∙ drop-drop j e y)

-- a list in two parts
pub parts : (n : ℕ) (s front back : List ℕ) → take n s ≡ front → drop n s ≡ back → s ≡ front ++ back
parts n s front back front_is back_is = sym (take-append-drop n s) ∙ ap (λ f. f ++ drop n s) front_is ∙ ap (λ b. front ++ b) back_is

-- Records of one width laid side by side: how long they are, and which are in front of a place and behind it.
pub length-records : {X : Type 0} (form : X → List ℕ) (width : ℕ) → ((x : X) → length (form x) ≡ width) → (xs : List X)
    → length (flat_map form xs) ≡ width * length xs
length-records form width sized [] = omega arith
length-records form width sized (x ∷ xs) =
    let one = sized x in
    let more = length-records form width sized xs in
    simp length-append (omega (arith, one, more))

pub drop-records : {X : Type 0} (form : X → List ℕ) (width : ℕ) → ((x : X) → length (form x) ≡ width) → (xs : List X) (i : ℕ) (rest : List ℕ)
    → i ≤ length xs → drop (width * i) (flat_map form xs ++ rest) ≡ flat_map form (drop i xs) ++ rest
drop-records form width sized xs zero rest le = let none : width * 0 ≡ 0 = omega arith in rw none refl
drop-records form width sized [] (suc i) rest le = absurd (omega arith)
drop-records form width sized (x ∷ xs) (suc i) rest le =
    let place : width * suc i ≡ width + width * i = omega arith in
    rw (place, append_assoc (form x) (flat_map form xs) rest)
    (sym (drop-drop (width * i) width (form x ++ (flat_map form xs ++ rest)))
    ∙ ap (drop (width * i)) (drop_at (form x) (flat_map form xs ++ rest) width (sized x))
    ∙ drop-records form width sized xs i rest (omega arith))

pub take-records : {X : Type 0} (form : X → List ℕ) (width : ℕ) → ((x : X) → length (form x) ≡ width) → (xs : List X) (i : ℕ) (rest : List ℕ)
    → i ≤ length xs → take (width * i) (flat_map form xs ++ rest) ≡ flat_map form (take i xs)
take-records form width sized xs i rest le =
    let split : flat_map form xs ++ rest ≡ flat_map form (take i xs) ++ (flat_map form (drop i xs) ++ rest) =
    ap (λ ys. flat_map form ys ++ rest) (sym (take-append-drop i xs)) ∙ ap (λ b. b ++ rest) (flat_map-append form (take i xs) (drop i xs))
    ∙ append_assoc (flat_map form (take i xs)) (flat_map form (drop i xs)) rest in
    rw split (take_at (flat_map form (take i xs)) (flat_map form (drop i xs) ++ rest) (width * i)
    (length-records form width sized (take i xs) ∙ ap (λ n. width * n) (length-take-le i xs le)))

-- the i-th record
pub record_at : {X : Type 0} (form : X → List ℕ) (width : ℕ) → ((x : X) → length (form x) ≡ width) → (xs : List X) (i : ℕ) (rest : List ℕ) (d : X)
    → i < length xs → take width (drop (width * i) (flat_map form xs ++ rest)) ≡ form (get_or xs i d)
record_at form width sized xs i rest d lt =
    rw (
      drop-records form width sized xs i rest (omega arith),
      drop_more_items xs i d lt,
      append_assoc (form (get_or xs i d)) (flat_map form (drop (i + 1) xs)) rest,
    )
    (take_at (form (get_or xs i d)) (flat_map form (drop (i + 1) xs) ++ rest) width (sized (get_or xs i d)))

-- one record more
pub records-more : {X : Type 0} (form : X → List ℕ) (xs : List X) (i : ℕ) (d : X)
    → i < length xs → flat_map form (take (i + 1) xs) ≡ flat_map form (take i xs) ++ form (get_or xs i d)
records-more form xs i d lt =
    ap (flat_map form) (take_more xs i d lt) ∙ flat_map-append form (take i xs) (get_or xs i d ∷ []) ∙ ap (λ b. flat_map form (take i xs) ++ b) (append-nil (form (get_or xs i d)))
