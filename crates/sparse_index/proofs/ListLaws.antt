-- Lists: their first ones, and what is found in them.
use Rattle.std.specs.Prelude.{ℕ, zero, suc, ◌≡◌, ◌<◌, ◌≤◌, ◌-◌, ◌&&◌, Bool, true, false, List, [], ◌∷◌, length, map, take, drop, filter, All, Option, None, Some, cond, refl}
use Rattle.std.specs.List.{find, slice_get}
use Rattle.std.specs.Option.{option_map}
use Rattle.std.proofs.Common.{sym, ◌∙◌, ap, arith}
use Rattle.std.proofs.lemmas.List.Elements.{All-cons, All-head, All-tail}
use Rattle.uds_chapters.specs.Chapters.{Numbered}
use Rattle.sparse_index.specs.Keeps.{last_number}

pub some_is : {X : Type 0} (a b : X) → ◌≡◌ {A = Option X} (Some a) (Some b) → a ≡ b
some_is a b same = cc

pub never : {X : Type 0} (a : X) → ◌≡◌ {A = Option X} None (Some a) → ⊥
never a same = cc

pub take_first : {X : Type 0} (room : ℕ) (one : X) (ones : List X) → 0 < room → one ∷ take (room - 1) ones ≡ take room (one ∷ ones)
take_first zero one ones some = absurd (omega (arith, some))
take_first (suc room) one ones some = ap (λ n. one ∷ take n ones) (omega arith)

pub map_take : {X Y : Type 0} (f : X → Y) (n : ℕ) (ones : List X) → map f (take n ones) ≡ take n (map f ones)
map_take f zero ones = refl
map_take f (suc n) [] = refl
map_take f (suc n) (one ∷ ones) = ap (λ ys. f one ∷ ys) (map_take f n ones)

pub take_all : {X : Type 0} (n : ℕ) (ones : List X) → length ones ≤ n → take n ones ≡ ones
take_all zero [] end = refl
take_all (suc n) [] end = refl
take_all zero (one ∷ ones) end = absurd (omega (arith, end))
take_all (suc n) (one ∷ ones) end = ap (λ ys. one ∷ ys) (take_all n ones (omega (arith, end)))

pub drop_all : {X : Type 0} (n : ℕ) (ones : List X) → length ones ≤ n → drop n ones ≡ []
drop_all zero [] end = refl
drop_all (suc n) [] end = refl
drop_all zero (one ∷ ones) end = absurd (omega (arith, end))
drop_all (suc n) (one ∷ ones) end = drop_all n ones (omega (arith, end))

pub all_take : {X : Type 0} (P : X → Type 0) (n : ℕ) (ones : List X) → All P ones → All P (take n ones)
all_take P zero ones all = λ k d inside. absurd (omega (arith, inside))
all_take P (suc n) [] all = all
all_take P (suc n) (one ∷ ones) all = All-cons P one (take n ones) (All-head P one ones all) (all_take P n ones (All-tail P one ones all))

-- what is found among those that pass
pub find_filter : {X : Type 0} (p q : X → Bool) (ones : List X) → find q (filter p ones) ≡ find (λ one. p one && q one) ones
find_filter p q [] = refl
find_filter p q (one ∷ ones) = by (p one) (find_filter p q ones)
  where
    by : (b : Bool) → find q (filter p ones) ≡ find (λ x. p x && q x) ones
        → find q (cond b (one ∷ filter p ones) (filter p ones)) ≡ cond (b && q one) (Some one) (find (λ x. p x && q x) ones)
    by true rest = ap (cond (q one) (Some one)) rest
    by false rest = rest

pub find_map : {X Y : Type 0} (f : X → Y) (p : Y → Bool) (ones : List X) → option_map f (find (λ one. p (f one)) ones) ≡ find p (map f ones)
find_map f p [] = refl
find_map f p (one ∷ ones) = by (p (f one)) (find_map f p ones)
  where
    by : (b : Bool) → option_map f (find (λ x. p (f x)) ones) ≡ find p (map f ones)
        → option_map f (cond b (Some one) (find (λ x. p (f x)) ones)) ≡ cond b (Some (f one)) (find p (map f ones))
    by true rest = refl
    by false rest = rest

pub filter_map : {X Y : Type 0} (f : X → Y) (p : Y → Bool) (ones : List X) → map f (filter (λ one. p (f one)) ones) ≡ filter p (map f ones)
filter_map f p [] = refl
filter_map f p (one ∷ ones) = by (p (f one)) (filter_map f p ones)
  where
    by : (b : Bool) → map f (filter (λ x. p (f x)) ones) ≡ filter p (map f ones)
        → map f (cond b (one ∷ filter (λ x. p (f x)) ones) (filter (λ x. p (f x)) ones)) ≡ cond b (f one ∷ filter p (map f ones)) (filter p (map f ones))
    by true rest = ap (λ ys. f one ∷ ys) rest
    by false rest = rest

pub filter_swap : {X : Type 0} (p q : X → Bool) (ones : List X) → filter p (filter q ones) ≡ filter q (filter p ones)
filter_swap p q [] = refl
filter_swap p q (one ∷ ones) = by (p one) (q one) refl refl (filter_swap p q ones)
  where
    by : (b c : Bool) → p one ≡ b → q one ≡ c → filter p (filter q ones) ≡ filter q (filter p ones)
        → filter p (cond c (one ∷ filter q ones) (filter q ones)) ≡ filter q (cond b (one ∷ filter p ones) (filter p ones))
    by true true is of rest = rw (is, of) (ap (λ ys. one ∷ ys) rest)
    by true false is of rest = rw of rest
    by false true is of rest = rw is rest
    by false false is of rest = rest

-- the last chapter
last_from : (first : Numbered) (others : List Numbered) (k : ℕ) (one : Numbered) → k ≡ length others → slice_get (first ∷ others) k ≡ Some one
    → one.number ≡ last_number (first ∷ others)
last_from first [] zero one end is = ap (λ (c : Numbered). c.number) (sym (some_is first one is))
last_from first [] (suc k) one end is = absurd (omega (arith, end))
last_from first (next ∷ others) zero one end is = absurd (omega (arith, end))
last_from first (next ∷ others) (suc k) one end is = last_from next others k one (omega (arith, end)) is

pub last_is : (chapters : List Numbered) (one : Numbered) → slice_get chapters (length chapters - 1) ≡ Some one → one.number ≡ last_number chapters
last_is [] one is = absurd (never one is)
last_is (first ∷ others) one is =
    let place : length others ≡ length (first ∷ others) - 1 = omega arith in
    last_from first others (length others) one refl (ap (λ (k : ℕ). slice_get (first ∷ others) k) place ∙ is)

pub length_map : {X Y : Type 0} (f : X → Y) (ones : List X) → length (map f ones) ≡ length ones
length_map f [] = refl
length_map f (one ∷ ones) = ap (λ (n : ℕ). suc n) (length_map f ones)
