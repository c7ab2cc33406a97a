-- Sums over the streams, and over the numbers of a stream; and how many names of requests there are, where none is there twice.
use Rattle.std.proofs.Common.{◌≡◌, ℕ, zero, suc, ◌+◌, ◌<◌, ◌≤◌, ◌==◌, ◌⊎◌, if◌then◌else◌, IsSome, List, [], ◌∷◌, length, get_or, refl, subst, inl, inr, arith}
use Rattle.std.proofs.lemmas.Option.{slice_get_within}
use Rattle.blk_base.specs.Forms.{writer}
use Rattle.core_model.specs.SessionLimits.{most_of_stream}
use Rattle.core_laws.proofs.Common.{AllByRecursion, Script, Writer, bit, request_at, some_of, eqb_tells, same_self, same_tells, same_writer, total}

-- the sum over the streams below a number
abbrev pub over : ℕ → (ℕ → ℕ) → ℕ
over zero f = 0
over (suc k) f = f k + over k f

-- one more of one stream
abbrev pub more_of : ℕ → (ℕ → ℕ) → ℕ → ℕ
more_of m f i = if m == i then f i + 1 else f i

pub over_more : (k m : ℕ) (f : ℕ → ℕ) → ((m < k) × (over k (more_of m f) ≡ over k f + 1)) ⊎ ((k ≤ m) × (over k (more_of m f) ≡ over k f))
over_more zero m f = inr (omega arith, refl)
over_more (suc k) m f = elim (over_more k m f) [
  | inl before ↦ elim (eqb_tells m k) [ inl same ↦ absurd (omega (arith, before.0, same.1)) | inr other ↦ inl (omega (arith, before.0), rw other.0 (omega (arith, before.1))) ]
  | inr none ↦ elim (eqb_tells m k) [ inl same ↦ inl (omega (arith, same.1), rw same.0 (omega (arith, none.1))) | inr other ↦ inr (omega (arith, none.0, other.1), rw other.0 (omega (arith, none.1))) ]
]

-- where each is no more, the sum is no more; and where one is less, so is the sum
pub over_le : (k : ℕ) (f g : ℕ → ℕ) → ((i : ℕ) → f i ≤ g i) → over k f ≤ over k g
over_le zero f g le = omega arith
over_le (suc k) f g le = omega (arith, le k, over_le k f g le)

pub over_less : (k m : ℕ) (f g : ℕ → ℕ) → ((i : ℕ) → f i ≤ g i) → f m < g m → m < k → over k f + 1 ≤ over k g
over_less zero m f g le less below = absurd (omega (arith, below))
over_less (suc k) m f g le less below = elim (eqb_tells m k) [
  | inl same ↦ let here : f k < g k = rw (← same.1) less in omega (arith, here, over_le k f g le)
  | inr other ↦ omega (arith, le k, over_less k m f g le less (omega (arith, below, other.1)))
]

-- where each is none
pub over_none : (k : ℕ) (f : ℕ → ℕ) → ((i : ℕ) → f i ≤ 0) → over k f ≤ 0
over_none zero f none = omega arith
over_none (suc k) f none = omega (arith, none k, over_none k f none)

-- where each is at most 1
pub over_ones : (k : ℕ) (f : ℕ → ℕ) → ((i : ℕ) → f i ≤ 1) → over k f ≤ k
over_ones zero f ones = omega arith
over_ones (suc k) f ones = omega (arith, ones k, over_ones k f ones)

-- the first stream apart from the others
pub over_first : (k : ℕ) (f : ℕ → ℕ) → over (suc k) f ≡ f 0 + over k (λ i. f (suc i))
over_first zero f = refl
over_first (suc k) f = omega (arith, over_first k f)

-- over all streams of a script
pub over_script : (script : Script) → over (length script) (λ i. length (get_or script i [])) ≡ total length script
over_script [] = refl
over_script (requests ∷ script) = omega (arith, over_first (length script) (λ i. length (get_or (requests ∷ script) i [])), over_script script)

pub over_streams : (script : Script) → over (length script) (λ i. most_of_stream (get_or script i [])) ≡ total most_of_stream script
over_streams [] = refl
over_streams (requests ∷ script) = omega (arith, over_first (length script) (λ i. most_of_stream (get_or (requests ∷ script) i [])), over_streams script)

-- how many of these are of this request
abbrev pub named : {X : Type 0} → (X → Writer) → Writer → List X → ℕ
named name w xs = total (λ x. bit (same_writer (name x) w)) xs

-- none is of the same request as another
abbrev pub Apart : {X : Type 0} → (X → Writer) → List X → Type 0
Apart name [] = Unit {0}
Apart name (x ∷ xs) = (named name (name x) xs ≡ 0) × Apart name xs

-- each is of a request of one of so many streams, and has a number below that of its stream
abbrev pub Inside : (k : ℕ) (bound : ℕ → ℕ) → Writer → Type 0
Inside k bound w = (w.stream < k) × (w.number < bound w.stream)

module _ {X : Type 0} (name : X → Writer) where
  -- each request is there once at most
  pub once : (w : Writer) (xs : List X) → Apart name xs → named name w xs ≤ 1
  once w [] apart = omega arith
  once w (x ∷ xs) apart = elim (same_tells (name x) w) [
    | inl same ↦ let none : named name w xs ≡ 0 = subst (λ (v : Writer). named name v xs ≡ 0) same.1 apart.0 in rw same.0 (omega (arith, none))
    | inr other ↦ rw other.0 (omega (arith, once w xs apart.1))
  ]

  -- how many are of each number of a stream
  abbrev pub of_stream : (ℕ → ℕ) → List X → ℕ → ℕ
  of_stream bound xs stream = over (bound stream) (λ number. named name (writer stream number) xs)

  -- each is counted at its number
  pub all_named : (k : ℕ) (bound : ℕ → ℕ) (xs : List X) → AllByRecursion (λ x. Inside k bound (name x)) xs → length xs ≤ over k (of_stream bound xs)
  all_named k bound [] inside = omega arith
  all_named k bound (x ∷ xs) inside =
      let rest = all_named k bound xs inside.1 in
      let w = name x in
      let more : (i : ℕ) → of_stream bound xs i ≤ of_stream bound (x ∷ xs) i
      = λ i. over_le (bound i) (λ n. named name (writer i n) xs) (λ n. named name (writer i n) (x ∷ xs)) (λ n. omega arith) in
      let here : named name w xs < named name w (x ∷ xs) = rw (same_self w) (omega arith) in
      let one = over_less (bound w.stream) w.number (λ n. named name (writer w.stream n) xs) (λ n. named name (writer w.stream n) (x ∷ xs)) (λ n. omega arith) here inside.0.1 in
      let all = over_less k w.stream (of_stream bound xs) (of_stream bound (x ∷ xs)) more (omega (arith, one)) inside.0.0 in
      omega (arith, rest, all)

  -- Of names that are apart there are no more than all numbers of all streams.
  pub names_few : (k : ℕ) (bound : ℕ → ℕ) (xs : List X) → Apart name xs → AllByRecursion (λ x. Inside k bound (name x)) xs → length xs ≤ over k bound
  names_few k bound xs apart inside =
      let few = over_le k (of_stream bound xs) bound (λ i. over_ones (bound i) (λ n. named name (writer i n) xs) (λ n. once (writer i n) xs apart)) in
      omega (arith, few, all_named k bound xs inside)

-- The streams of a script.

-- a stream with a request is one of the script
pub stream_there : (script : Script) (stream : ℕ) → 0 < length (get_or script stream []) → stream < length script
stream_there [] stream some = absurd (omega (arith, some))
stream_there (requests ∷ script) zero some = omega arith
stream_there (requests ∷ script) (suc stream) some = let rest = stream_there script stream some in omega (arith, rest)

-- how many requests a stream of a script has
abbrev pub requests_of : Script → ℕ → ℕ
requests_of script stream = length (get_or script stream [])

-- a request of the script stands within its stream
pub asked_inside : (script : Script) (w : Writer) → IsSome (request_at script w) → Inside (length script) (requests_of script) w
asked_inside script w some =
    let r = some_of _ some in
    let below = slice_get_within (get_or script w.stream []) w.number r.0 r.1 in
    (stream_there script w.stream (omega (arith, below)), below)
