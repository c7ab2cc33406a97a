-- The hooks of a chapter, one after another.
use Rattle.std.specs.Prelude.{ℕ, zero, suc, ◌≡◌, ◌<◌, ◌≤◌, ◌+◌, Bool, true, false, List, [], ◌∷◌, ◌++◌, length, take, filter, slice_index_or, All, cond, refl}
use Rattle.std.proofs.Common.{sym, ◌∙◌, ap, subst, arith}
use Rattle.std.proofs.lemmas.List.{take_more}
use Rattle.std.proofs.lemmas.List.Elements.{All-head, All-tail, All-filter, filter-append}
use Rattle.uds_chapters.specs.declared.entry.Record.{Record}
use Rattle.uds_chapters.specs.Names.{AreRising, IsBelow}
use Rattle.uds_chapters.specs.declared.added.Added.{Added}
use Rattle.uds_chapters.specs.declared.added.Added.TheVariants.{New, Replaced, Full}
use Rattle.uds_chapters.specs.Chapters.{Adds, with_record}
use Rattle.sparse_index.specs.Hooks.{is_hook}

-- a record above all others stands last
pub with_last : (one : Record) (ones : List Record) → All (λ other. IsBelow other one) ones → with_record one ones ≡ ones ++ one ∷ []
with_last one [] all = refl
with_last one (first ∷ ones) all =
    rw (All-head (λ (other : Record). IsBelow other one) first ones all)
    (ap (λ (rs : List Record). first ∷ rs) (with_last one ones (All-tail (λ (other : Record). IsBelow other one) first ones all)))

pub before : (records : List Record) (k : ℕ) (one : Record) → AreRising records → k < length records → one ≡ slice_index_or records k one
    → All (λ other. IsBelow other one) (take k records)
before records k one rising inside at = λ j d within.
    subst (λ (other : Record). IsBelow (slice_index_or (take k records) j d) other) (sym at) (below j d within)
  where
    size : (k : ℕ) (ones : List Record) → length (take k ones) ≤ k
    size zero ones = omega arith
    size (suc k) [] = omega arith
    size (suc k) (x ∷ ones) = let rest = size k ones in omega (arith, rest)

    read : (k j : ℕ) (ones : List Record) (d : Record) → j < length (take k ones) → slice_index_or (take k ones) j d ≡ slice_index_or ones j d
    read zero j ones d inside = absurd (omega (arith, inside))
    read (suc k) j [] d inside = absurd (omega (arith, inside))
    read (suc k) zero (x ∷ ones) d inside = refl
    read (suc k) (suc j) (x ∷ ones) d inside = read k j ones d (omega (arith, inside))

    far : (j : ℕ) (ones : List Record) (d e : Record) → j < length ones → slice_index_or ones j d ≡ slice_index_or ones j e
    far j [] d e inside = absurd (omega (arith, inside))
    far zero (x ∷ ones) d e inside = refl
    far (suc j) (x ∷ ones) d e inside = far j ones d e (omega (arith, inside))

    below : (j : ℕ) (d : Record) → j < length (take k records) → IsBelow (slice_index_or (take k records) j d) (slice_index_or records k one)
    below j d within =
        let few = size k records in
        subst (λ (x : Record). IsBelow x (slice_index_or records k one))
        (far j records one d (omega (arith, few, within, inside)) ∙ sym (read k j records d within))
        (rising j k one (omega (arith, few, within)) inside)

-- the hooks up to the next record
pub hooks_next : (records : List Record) (k : ℕ) (one : Record) → k < length records → one ≡ slice_index_or records k one
    → filter (λ one. is_hook one.name) (take (k + 1) records) ≡ filter (λ one. is_hook one.name) (take k records) ++ cond (is_hook one.name) (one ∷ []) []
hooks_next records k one inside at =
    ap (filter (λ (one : Record). is_hook one.name)) (take_more records k one inside ∙ ap (λ (x : Record). take k records ++ x ∷ []) (sym at))
    ∙ filter-append (λ (one : Record). is_hook one.name) (take k records) (one ∷ [])

pub hooks_few : (records : List Record) (k : ℕ) → length (filter (λ one. is_hook one.name) (take k records)) ≤ k
hooks_few records zero = none records
  where
    none : (rs : List Record) → length (filter (λ (one : Record). is_hook one.name) (take 0 rs)) ≤ 0
    none [] = omega arith
    none (r ∷ rs) = omega arith
hooks_few [] (suc k) = omega arith
hooks_few (one ∷ records) (suc k) = by (is_hook one.name) (hooks_few records k)
  where
    by : (b : Bool) → length (filter (λ (x : Record). is_hook x.name) (take k records)) ≤ k
        → length (cond b (one ∷ filter (λ (x : Record). is_hook x.name) (take k records)) (filter (λ (x : Record). is_hook x.name) (take k records))) ≤ suc k
    by true less = omega (arith, less)
    by false less = omega (arith, less)

-- a step of the loop: the next record is a hook, and is added; or it isn't
module _ (items records : List Record) (k : ℕ) (one : Record) (hooks : List Record) (same : items ≡ records) (in_items : k < length items) (read : one ≡ slice_index_or items k one)
    (so_far : hooks ≡ filter (λ one. is_hook one.name) (take k records)) where
  inside : k < length records
  inside = subst (λ (rs : List Record). k < length rs) same in_items

  at : one ≡ slice_index_or records k one
  at = read ∙ ap (λ (rs : List Record). slice_index_or rs k one) same

  pub hook_added : (new : List Record) (added : Added) → AreRising records → length records ≤ 680 → is_hook one.name ≡ true → Adds hooks new one added
      → new ≡ filter (λ one. is_hook one.name) (take (k + 1) records)
  hook_added new added rising few hook adds = by added adds
    where
      all : All (λ other. IsBelow other one) hooks
      all = subst (λ (rs : List Record). All (λ other. IsBelow other one) rs) (sym so_far)
          (All-filter (λ (x : Record). is_hook x.name) (λ (other : Record). IsBelow other one) (take k records) (before records k one rising inside at))

      next : with_record one hooks ≡ filter (λ one. is_hook one.name) (take (k + 1) records)
      next = with_last one hooks all ∙ ap (λ (rs : List Record). rs ++ one ∷ []) so_far
          ∙ sym (hooks_next records k one inside at ∙ ap (λ (b : Bool). filter (λ (x : Record). is_hook x.name) (take k records) ++ cond b (one ∷ []) []) hook)

      by : (added : Added) → Adds hooks new one added → new ≡ filter (λ one. is_hook one.name) (take (k + 1) records)
      by New adds = adds.2 ∙ next
      by Replaced adds = adds.1 ∙ next
      by Full adds =
          let less = hooks_few records k in let size = ap length so_far in let full = adds.1 in
          absurd (omega (arith, less, size, full, few, inside))

  pub hook_passed : is_hook one.name ≡ false → hooks ≡ filter (λ one. is_hook one.name) (take (k + 1) records)
  hook_passed other =
      so_far ∙ sym (hooks_next records k one inside at ∙ ap (λ (b : Bool). filter (λ (x : Record). is_hook x.name) (take k records) ++ cond b (one ∷ []) []) other ∙ more (filter (λ (x : Record). is_hook x.name) (take k records)))
    where
      more : (rs : List Record) → rs ++ [] ≡ rs
      more [] = refl
      more (r ∷ rs) = ap (λ (xs : List Record). r ∷ xs) (more rs)

-- the loop begins with none, and ends with all
pub hooks_start : (records : List Record) → [] ≡ filter (λ one. is_hook one.name) (take 0 records)
hooks_start [] = refl
hooks_start (one ∷ records) = refl

pub hooks_all : (items records : List Record) (k : ℕ) → items ≡ records → length items ≤ k
    → filter (λ one. is_hook one.name) (take k records) ≡ filter (λ one. is_hook one.name) records
hooks_all items records k same end = ap (filter (λ (one : Record). is_hook one.name)) (whole k records (subst (λ (rs : List Record). length rs ≤ k) same end))
  where
    whole : (k : ℕ) (rs : List Record) → length rs ≤ k → take k rs ≡ rs
    whole zero [] end = refl
    whole (suc k) [] end = refl
    whole zero (r ∷ rs) end = absurd (omega (arith, end))
    whole (suc k) (r ∷ rs) end = ap (λ (xs : List Record). r ∷ xs) (whole k rs (omega (arith, end)))
