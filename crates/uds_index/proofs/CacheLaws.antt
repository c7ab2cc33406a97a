-- A block that isn't found among cached ones, or given ones, isn't there; and what is cached after one was put there.
use Rattle.std.specs.Prelude.{ℕ, zero, suc, ◌≡◌, ◌⊎◌, ◌<◌, ◌-◌, ◌||◌, ◌&&◌, not, Bool, true, false, List, [], ◌∷◌, length, take, slice_index_or, Contains, Option, None, Some, OnOk, OnErr, is_some, nat_eq, cond, refl}
use Rattle.std.specs.List.{list_any}
use Rattle.std.specs.Map.{lookup, lookup_entry, remove_entry, keys_of}
use Rattle.std.specs.Option.{option_map_or}
use Rattle.std.proofs.Common.{sym, ◌∙◌, ap, subst, arith, inl, inr, Result, Ok, Err}
use Rattle.std.proofs.lemmas.Bool.{false≢true, eqb-true, eqb-false, eq-eqb}
use Rattle.lru.specs.LruCache.{LruCache, lru_cache, put_entries}
use Rattle.uds_index.specs.Looks.{Index, Caches, CachesIf, IsCached, is_just}

-- a list that has an element at its head alone, or behind it
behind : (first : ℕ) (ones : List ℕ) (at k : ℕ) → (first ≡ at → ⊥) → (Contains ones at → ⊥) → k < length (first ∷ ones)
    → slice_index_or (first ∷ ones) k at ≡ at → ⊥
behind first ones at zero apart later inside is = apart is
behind first ones at (suc k) apart later inside is = later (k, omega (arith, inside), is)

pub uncached : {V : Type 0} (es : List (ℕ × V)) (at : ℕ) → is_some (lookup (nat_eq at) es) ≡ false → Contains (keys_of es) at → ⊥
uncached [] at none cached = let inside = cached.1 in absurd (omega (arith, inside))
uncached (f ∷ es) at none cached = step (nat_eq at f.0) refl none (uncached es at)
  where
    step : (b : Bool) → nat_eq at f.0 ≡ b → is_some (cond b (Some f.1) (lookup (nat_eq at) es)) ≡ false
        → (is_some (lookup (nat_eq at) es) ≡ false → Contains (keys_of es) at → ⊥) → ⊥
    step true same none later = false≢true (sym none)
    step false other none later = behind f.0 (keys_of es) at cached.0 (λ is. eqb-false at f.0 other (sym is)) (later none) cached.1 cached.2

pub not_given : (given : List ℕ) (at : ℕ) → list_any (λ y. nat_eq y at) given ≡ false → Contains given at → ⊥
not_given [] at none there = let inside = there.1 in absurd (omega (arith, inside))
not_given (first ∷ given) at none there = step (nat_eq first at) refl none (not_given given at)
  where
    step : (b : Bool) → nat_eq first at ≡ b → (b || list_any (λ y. nat_eq y at) given) ≡ false
        → (list_any (λ y. nat_eq y at) given ≡ false → Contains given at → ⊥) → ⊥
    step true same none later = false≢true (sym none)
    step false other none later = behind first given at there.0 (eqb-false first at other) (later none) there.1 there.2

-- what is among the pages that are cached after one was put there

contained : (first : ℕ) (ones : List ℕ) (at : ℕ) → Contains (first ∷ ones) at → (first ≡ at) ⊎ Contains ones at
contained first ones at there = by there.0 there.1 there.2
  where
    by : (k : ℕ) → k < length (first ∷ ones) → slice_index_or (first ∷ ones) k at ≡ at → (first ≡ at) ⊎ Contains ones at
    by zero inside is = inl is
    by (suc k) inside is = inr (k, omega (arith, inside), is)

first_in : (first : ℕ) (ones : List ℕ) → Contains (first ∷ ones) first
first_in first ones = (0, omega arith, refl)

later_in : (first : ℕ) (ones : List ℕ) (at : ℕ) → Contains ones at → Contains (first ∷ ones) at
later_in first ones at there = (suc there.0, (let inside = there.1 in omega (arith, inside)), there.2)

first_or_later : (first : ℕ) (some all : List ℕ) (at : ℕ) → (Contains some at → Contains all at) → Contains (first ∷ some) at → Contains (first ∷ all) at
first_or_later first some all at rest there = elim (contained first some at there) [
  | inl same ↦ subst (λ (x : ℕ). Contains (first ∷ all) x) same (first_in first all)
  | inr later ↦ later_in first all at (rest later)
]

without_entry : {W : Type 0} (test : ℕ → Bool) (es : List (ℕ × W)) (at : ℕ) → Contains (keys_of (remove_entry test es)) at → Contains (keys_of es) at
without_entry test [] at there = there
without_entry test (e ∷ es) at there = by (test e.0) (without_entry test es at) there
  where
    by : (b : Bool) → (Contains (keys_of (remove_entry test es)) at → Contains (keys_of es) at)
        → Contains (keys_of (cond b es (e ∷ remove_entry test es))) at → Contains (keys_of (e ∷ es)) at
    by true rest there = later_in e.0 (keys_of es) at there
    by false rest there = first_or_later e.0 (keys_of (remove_entry test es)) (keys_of es) at rest there

first_entries : {W : Type 0} (n : ℕ) (es : List (ℕ × W)) (at : ℕ) → Contains (keys_of (take n es)) at → Contains (keys_of es) at
first_entries zero es at there = let inside = there.1 in absurd (omega (arith, inside))
first_entries (suc n) [] at there = there
first_entries (suc n) (e ∷ es) at there = first_or_later e.0 (keys_of (take n es)) (keys_of es) at (first_entries n es at) there

module _ (W : Type 0) where
  key_of : (f e : ℕ × W) → f ≡ e → f.0 ≡ e.0
  key_of f e it = ap (λ (p : ℕ × W). p.0) it

found_key : {W : Type 0} (at : ℕ) (es : List (ℕ × W)) (e : ℕ × W) → lookup_entry (nat_eq at) es ≡ Some e → e.0 ≡ at
found_key at [] e found = absurd cc
found_key at (f ∷ es) e found = by (nat_eq at f.0) refl (found_key at es e) found
  where
    by : (b : Bool) → nat_eq at f.0 ≡ b → (lookup_entry (nat_eq at) es ≡ Some e → e.0 ≡ at)
        → cond b (Some f) (lookup_entry (nat_eq at) es) ≡ Some e → e.0 ≡ at
    by true same rest is = let it : f ≡ e = cc in sym (eqb-true at f.0 same ∙ key_of _ f e it)
    by false other rest is = rest is

cached_put : {W : Type 0} (cache : LruCache ℕ W) (at : ℕ) (v : W) → Caches at (keys_of cache.entries) (keys_of (put_entries nat_eq cache at v))
cached_put {W = W} cache at v = by (lookup_entry (nat_eq at) cache.entries) refl
  where
    by : (found : Option (ℕ × W)) → lookup_entry (nat_eq at) cache.entries ≡ found
        → Caches at (keys_of cache.entries) (keys_of (option_map_or (λ e. (e.0, v) ∷ remove_entry (nat_eq at) cache.entries) found ((at, v) ∷ take (cache.cap - 1) cache.entries)))
    by None is = inr (keys_of (take (cache.cap - 1) cache.entries), refl, first_entries (cache.cap - 1) cache.entries)
    by (Some e) is = inr (
      keys_of (remove_entry (nat_eq at) cache.entries),
      ap (λ (k : ℕ). k ∷ keys_of (remove_entry (nat_eq at) cache.entries)) (found_key at cache.entries e is),
      without_entry (nat_eq at) cache.entries,
    )

-- a page was put there, or there was no memory for it
pub cached_after : {W X E : Type 0} (r : Result X E) (old new : LruCache ℕ W) (at : ℕ) (v : W) → OnOk r (new ≡ lru_cache (put_entries nat_eq old at v) old.cap)
    → OnErr r (new ≡ old) → Caches at (keys_of old.entries) (keys_of new.entries)
cached_after {W = W} (Ok x) old new at v put same =
    subst (λ (c : LruCache ℕ W). Caches at (keys_of old.entries) (keys_of c.entries)) (sym put) (cached_put old at v)
cached_after {W = W} (Err e) old new at v put same = inl (ap (λ (c : LruCache ℕ W). keys_of c.entries) same)

-- a page that was asked for and read
pub asked_and_read : (old new : Index) (at : ℕ) (read : Bool) → old.asked ≡ Some at → read ≡ true → Caches at old.cached new.cached → IsCached old new at (not read)
asked_and_read old new at read asked is caches =
    let same : (is_just at old.asked && not (not read)) ≡ true =
    ap (λ (o : Option ℕ). is_just at o && not (not read)) asked ∙ ap (λ (r : Bool). nat_eq at at && not (not r)) is ∙ ap (λ (b : Bool). b && true) (eq-eqb at at refl) in
    subst (λ (b : Bool). CachesIf b at old.cached new.cached) (sym same) caches
