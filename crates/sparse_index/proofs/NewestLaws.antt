-- The newest of some chapters that has a name, as their numbers are gone through.
use Rattle.std.specs.Prelude.{ℕ, ◌≡◌, ◌<◌, ◌≤◌, ◌&&◌, ◌||◌, Bool, true, false, List, [], ◌∷◌, ◌++◌, length, take, All, AllPairs, Option, None, Some, is_some, nat_eq, cond, slice_index_or, ◌+◌, refl}
use Rattle.std.specs.List.{find}
use Rattle.std.specs.Option.{option_map}
use Rattle.std.proofs.Common.{sym, ◌∙◌, ap, arith, inl, inr}
use Rattle.std.proofs.lemmas.Bool.{false≢true, eq-eqb, ne_eqb, eqb-true, lt-ltb, le-ltb, cases_eq}
use Rattle.std.proofs.lemmas.List.{take_more}
use Rattle.uds_chapters.specs.Chapters.{Numbered, location_of}
use Rattle.index_advice.specs.Books.{chapter_of}
use Rattle.index_advice.specs.Orders.{IsNewer}
use Rattle.uds_index.proofs.KeepLaws.{newer_head, newer_tail}
use Rattle.uds_index.proofs.PlaceLaws.{nowhere}
use Rattle.sparse_index.specs.Finds.{location_at, location_by, newer_of}
use Rattle.sparse_index.specs.Orders.{is_among}
use Rattle.sparse_index.proofs.ListLaws.{never, some_is, take_all}
use Rattle.sparse_index.proofs.FoundLaws.{find_all, find_passes}

or_none : (b : Bool) → (b || false) ≡ b
or_none true = refl
or_none false = refl

or_parts : (a b c : Bool) → (a || (b || c)) ≡ ((a || b) || c)
or_parts true b c = refl
or_parts false b c = refl

among_last : (numbers : List ℕ) (n : ℕ) (one : Numbered) → is_among (numbers ++ n ∷ []) one ≡ (is_among numbers one || nat_eq n one.number)
among_last [] n one = or_none (nat_eq n one.number)
among_last (m ∷ numbers) n one =
    ap (λ (b : Bool). nat_eq m one.number || b) (among_last numbers n one) ∙ or_parts (nat_eq m one.number) (is_among numbers one) (nat_eq n one.number)

newer_least : (o : Option ℕ) (n : ℕ) → ((m : ℕ) → o ≡ Some m → m ≤ n) → newer_of o n ≡ Some n
newer_least None n least = refl
newer_least (Some m) n least = rw (le-ltb n m (least m refl)) refl

abbrev number_of : Option Numbered → Option ℕ
number_of o = option_map (λ one. one.number) o

number_is : (o : Option Numbered) (m : ℕ) → number_of o ≡ Some m → (one : Numbered) × (o ≡ Some one) × (one.number ≡ m)
number_is None m is = absurd (never m is)
number_is (Some one) m is = (one, refl, some_is one.number m is)

-- the first chapter has the number
same_case : (a h : Bool) (later found : Option Numbered) (x : Numbered) (n : ℕ) → x.number ≡ n → ((one : Numbered) → found ≡ Some one → one.number < x.number)
    → number_of later ≡ number_of found
    → number_of (cond ((a || true) && h) (Some x) later)
    ≡ cond h (newer_of (number_of (cond (a && h) (Some x) found)) n) (number_of (cond (a && h) (Some x) found))
same_case true true later found x n same below rest =
    ap Some same ∙ sym (newer_least (Some x.number) n (λ m is. let e = some_is x.number m is in omega (arith, e, same)))
same_case false true later found x n same below rest =
    ap Some same ∙ sym (newer_least (number_of found) n (λ m is.
    let one = number_is found m is in let less = below one.0 one.1 in let e = one.2 in omega (arith, less, e, same)))
same_case true false later found x n same below rest = rest
same_case false false later found x n same below rest = rest

-- the first chapter has another
apart_case : (a h l : Bool) (later found : Option Numbered) (x : Numbered) (n : ℕ) → (l ≡ true → n < x.number)
    → number_of later ≡ cond l (newer_of (number_of found) n) (number_of found)
    → number_of (cond ((a || false) && h) (Some x) later)
    ≡ cond l (newer_of (number_of (cond (a && h) (Some x) found)) n) (number_of (cond (a && h) (Some x) found))
apart_case true true true later found x n below rest = rw (lt-ltb n x.number (below refl)) refl
apart_case true true false later found x n below rest = refl
apart_case true false l later found x n below rest = rest
apart_case false h l later found x n below rest = rest

module _ (name : List ℕ) where
  abbrev has : Numbered → Bool
  has one = is_some (location_of name one.records)

  abbrev found : List ℕ → List Numbered → Option Numbered
  found numbers chapters = find (λ one. is_among numbers one && is_some (location_of name one.records)) chapters

  -- one more number
  pub newest_step : (numbers : List ℕ) (n : ℕ) (chapters : List Numbered) → AllPairs IsNewer chapters
      → number_of (found (numbers ++ n ∷ []) chapters)
      ≡ cond (is_some (location_by name chapters n)) (newer_of (number_of (found numbers chapters)) n) (number_of (found numbers chapters))
  newest_step numbers n [] newest = refl
  newest_step numbers n (x ∷ xs) newest = elim (cases_eq x.number n) [
    | inl same ↦
        let none : chapter_of n xs ≡ None = nowhere n xs (λ k d inside is. let less = newer_head x xs newest k d inside in omega (arith, less, is, same)) in
        let rest : number_of (found (numbers ++ n ∷ []) xs) ≡ number_of (found numbers xs) =
        newest_step numbers n xs (newer_tail x xs newest)
        ∙ ap (λ (o : Option Numbered). cond (is_some (location_at name o)) (newer_of (number_of (found numbers xs)) n) (number_of (found numbers xs))) none in
        let step = same_case (is_among numbers x) (has x) (found (numbers ++ n ∷ []) xs) (found numbers xs) x n same
        (λ one is. find_all (IsNewer x) (λ one. is_among numbers one && is_some (location_of name one.records)) xs one (newer_head x xs newest) is) rest in
        ap (λ (b : Bool). number_of (cond (b && has x) (Some x) (found (numbers ++ n ∷ []) xs)))
        (among_last numbers n x ∙ ap (λ (b : Bool). is_among numbers x || b) (eq-eqb n x.number (sym same)))
        ∙ step
        ∙ ap (λ (b : Bool). cond (is_some (location_at name (cond b (Some x) (chapter_of n xs)))) (newer_of (number_of (found numbers (x ∷ xs))) n) (number_of (found numbers (x ∷ xs))))
        (sym (eq-eqb x.number n same))
    | inr apart ↦
        let step = apart_case (is_among numbers x) (has x) (is_some (location_by name xs n)) (found (numbers ++ n ∷ []) xs) (found numbers xs) x n
        (λ some. below x xs n (newer_head x xs newest) some) (newest_step numbers n xs (newer_tail x xs newest)) in
        ap (λ (b : Bool). number_of (cond (b && has x) (Some x) (found (numbers ++ n ∷ []) xs)))
        (among_last numbers n x ∙ ap (λ (b : Bool). is_among numbers x || b) (ne_eqb n x.number (λ same. apart (sym same))))
        ∙ step
        ∙ ap (λ (b : Bool). cond (is_some (location_at name (cond b (Some x) (chapter_of n xs)))) (newer_of (number_of (found numbers (x ∷ xs))) n) (number_of (found numbers (x ∷ xs))))
        (sym (ne_eqb x.number n apart))
  ]
    where
      below : (x : Numbered) (xs : List Numbered) (n : ℕ) → All (IsNewer x) xs → is_some (location_at name (chapter_of n xs)) ≡ true → n < x.number
      below x xs n older some = by (chapter_of n xs) refl some
        where
          by : (o : Option Numbered) → chapter_of n xs ≡ o → is_some (location_at name o) ≡ true → n < x.number
          by None is some = absurd (false≢true some)
          by (Some one) is some =
              let less = find_all (IsNewer x) (λ chapter. nat_eq chapter.number n) xs one older is in
              let e = eqb-true one.number n (find_passes (λ chapter. nat_eq chapter.number n) xs one is) in
              omega (arith, less, e)

  -- the loop's steps, where the chapter with the number has the name and where it hasn't
  pub newest_next : (numbers : List ℕ) (k n : ℕ) (chapters : List Numbered) → AllPairs IsNewer chapters → k < length numbers → n ≡ slice_index_or numbers k n
      → number_of (found (take (k + 1) numbers) chapters)
      ≡ cond (is_some (location_by name chapters n)) (newer_of (number_of (found (take k numbers) chapters)) n) (number_of (found (take k numbers) chapters))
  newest_next numbers k n chapters newest inside at =
      ap (λ (ns : List ℕ). number_of (found ns chapters)) (take_more numbers k n inside ∙ ap (λ (m : ℕ). take k numbers ++ m ∷ []) (sym at))
      ∙ newest_step (take k numbers) n chapters newest

  pub newest_start : (numbers : List ℕ) (chapters : List Numbered) → ◌≡◌ {A = Option ℕ} None (number_of (found (take 0 numbers) chapters))
  newest_start numbers [] = refl
  newest_start numbers (x ∷ xs) = newest_start numbers xs

  pub newest_end : (numbers : List ℕ) (k : ℕ) (chapters : List Numbered) → length numbers ≤ k → number_of (found (take k numbers) chapters) ≡ number_of (found numbers chapters)
  newest_end numbers k chapters end = ap (λ (ns : List ℕ). number_of (found ns chapters)) (take_all k numbers end)
