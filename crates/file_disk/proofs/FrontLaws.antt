-- The first bytes of a list, with zeros behind its end.
use Rattle.std.proofs.Common.{ℕ, ◌≡◌, ◌+◌, ◌-◌, ◌≤◌, ◌∙◌, List, [], ◌++◌, length, take, drop, replicate, refl, ap, sym, inl, inr, arith}
use Rattle.std.proofs.Math.Seq.{take-add, drop-append-add, take-append-add}
use Rattle.std.proofs.lemmas.Bool.{cases_lt}
use Rattle.std.proofs.lemmas.List.{take-append-le, drop-append-le, take-replicate, drop-replicate, take-take, drop-take, drop_all, length-append, length-take, length-replicate}
use Rattle.file_disk.specs.FileBytes.{front}

-- More zeros behind the end change nothing.
padded : (m k : ℕ) (xs : List ℕ) → m ≤ k → take m (xs ++ replicate k 0) ≡ take m (xs ++ replicate m 0)
padded m k xs fits = elim (cases_lt m (length xs)) [
  | inl within ↦ take-append-le m xs (replicate k 0) (omega arith) ∙ sym (take-append-le m xs (replicate m 0) (omega arith))
  | inr past ↦
      let here : m ≡ length xs + (m - length xs) = omega arith in
      let one : (j : ℕ) → m ≤ j → take m (xs ++ replicate j 0) ≡ xs ++ replicate (m - length xs) 0 = λ j more.
      ap (λ (n : ℕ). take n (xs ++ replicate j 0)) here ∙ take-append-add xs (replicate j 0) (m - length xs)
      ∙ ap (λ (zeros : List ℕ). xs ++ zeros) (take-replicate (m - length xs) j 0 (omega arith)) in
      one k fits ∙ sym (one m (omega arith))
]

-- A part of a list with zeros behind it.
pub padded_part : (n m k : ℕ) (bytes : List ℕ) → n + m ≤ k → take m (drop n (bytes ++ replicate k 0)) ≡ front m (drop n bytes)
unfolding front
padded_part n m k bytes room = elim (cases_lt n (length bytes)) [
  | inl within ↦ rw (drop-append-le n bytes (replicate k 0) (omega arith)) (padded m k (drop n bytes) (omega arith))
  | inr past ↦
      let here : n ≡ length bytes + (n - length bytes) = omega arith in
      let gone : drop n (bytes ++ replicate k 0) ≡ replicate (k - (n - length bytes)) 0 =
      ap (λ (j : ℕ). drop j (bytes ++ replicate k 0)) here ∙ drop-append-add bytes (replicate k 0) (n - length bytes) ∙ drop-replicate (n - length bytes) k 0 in
      rw (gone, drop_all n bytes past) (take-replicate m (k - (n - length bytes)) 0 (omega arith) ∙ sym (take-replicate m m 0 (omega arith)))
]

-- A part of the first bytes.
pub part-front : (n m k : ℕ) (bytes : List ℕ) → n + m ≤ k → take m (drop n (front k bytes)) ≡ front m (drop n bytes)
unfolding front
part-front n m k bytes room =
    let r = k - n in
    let split : k ≡ n + (k - n) = omega arith in
    ap (λ (j : ℕ). take m (drop n (take j (bytes ++ replicate k 0)))) split
    ∙ ap (take m) (drop-take n (k - n) (bytes ++ replicate k 0))
    ∙ take-take m (k - n) (drop n (bytes ++ replicate k 0)) (omega arith)
    ∙ padded_part n m k bytes room

pub length-front : (n : ℕ) (bytes : List ℕ) → length (front n bytes) ≡ n
unfolding front
length-front n bytes =
    let size = length-take n (bytes ++ replicate n 0) in
    let whole = length-append bytes (replicate n 0) in
    let zeros = length-replicate {A = ℕ} n 0 in
    omega (arith, size, whole, zeros)

-- Within a list they are its own.
pub front-within : (n : ℕ) (bytes : List ℕ) → n ≤ length bytes → front n bytes ≡ take n bytes
unfolding front
front-within n bytes room = take-append-le n bytes (replicate n 0) room

pub front-zero : (bytes : List ℕ) → front 0 bytes ≡ []
unfolding front
front-zero bytes = refl

-- Behind its end they are zeros.
pub front-nil : (n : ℕ) → front n [] ≡ replicate n 0
unfolding front
front-nil n = take-replicate n n 0 (omega arith)

-- The first n and m are the first n, and the first m behind them.
pub front-add : (n m : ℕ) (bytes : List ℕ) → front (n + m) bytes ≡ front n bytes ++ front m (drop n bytes)
unfolding front
front-add n m bytes =
    take-add n m (bytes ++ replicate (n + m) 0)
    ∙ ap (λ (xs : List ℕ). xs ++ take m (drop n (bytes ++ replicate (n + m) 0))) (padded n (n + m) bytes (omega arith))
    ∙ ap (λ (xs : List ℕ). take n (bytes ++ replicate n 0) ++ xs) (padded_part n m (n + m) bytes (omega arith))
