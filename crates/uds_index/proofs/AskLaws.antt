-- Which page of the chapters is asked for, from one of them on.
use Rattle.std.specs.Prelude.{ℕ, suc, ◌≡◌, ◌||◌, Bool, true, false, List, [], ◌∷◌, drop, Contains, None, Some, cond, nat_eq, refl}
use Rattle.std.specs.List.{list_any}
use Rattle.std.specs.Option.{is_some}
use Rattle.std.specs.Map.{keys_of, lookup}
use Rattle.std.proofs.Common.{sym, ◌∙◌, subst, arith, inl, inr}
use Rattle.std.proofs.lemmas.Bool.{eqb-true, false≢true}
use Rattle.blk_base.specs.declared.place.Pbn.{Pbn}
use Rattle.uds_chapters.specs.Chapters.{Numbered, location_of}
use Rattle.uds_index.specs.Looks.{IsFirstToAsk, IsNamePage, IsNew, NeedsNone, NoneToAsk}
use Rattle.uds_index.specs.declared.index_search.Region.{Region}

-- what is cached and what was given
first_there : {X : Type 0} (x y : X) (xs : List X) → x ≡ y → Contains (x ∷ xs) y
first_there x y xs same = (0, omega arith, same)

behind_there : {X : Type 0} (x y : X) (xs : List X) → Contains xs y → Contains (x ∷ xs) y
behind_there x y xs there = (suc there.0, omega (arith, there.1), there.2)

pub cached_there : {V : Type 0} (es : List (ℕ × V)) (at : ℕ) → is_some (lookup (nat_eq at) es) ≡ true → Contains (keys_of es) at
cached_there [] at some = absurd (false≢true some)
cached_there (f ∷ es) at some = step (nat_eq at f.0) refl some (cached_there es at)
  where
    step : (b : Bool) → nat_eq at f.0 ≡ b → is_some (cond b (Some f.1) (lookup (nat_eq at) es)) ≡ true → (is_some (lookup (nat_eq at) es) ≡ true → Contains (keys_of es) at) → Contains (f.0 ∷ keys_of es) at
    step true same some later = first_there f.0 at (keys_of es) (sym (eqb-true at f.0 same))
    step false other some later = behind_there f.0 at (keys_of es) (later some)

pub given_there : (given : List ℕ) (at : ℕ) → list_any (λ y. nat_eq y at) given ≡ true → Contains given at
given_there [] at some = absurd (false≢true some)
given_there (first ∷ given) at some = step (nat_eq first at) refl some (given_there given at)
  where
    step : (b : Bool) → nat_eq first at ≡ b → (b || list_any (λ y. nat_eq y at) given) ≡ true → (list_any (λ y. nat_eq y at) given ≡ true → Contains given at) → Contains (first ∷ given) at
    step true same some later = first_there first at given (eqb-true first at same)
    step false other some later = behind_there first at given (later some)

module _ (region : Region) (cached given name : List ℕ) where
  abbrev None' : List Numbered → Type 0
  None' chapters = NoneToAsk region cached given name chapters

  abbrev First : ℕ → List Numbered → Type 0
  First at chapters = IsFirstToAsk region cached given name at chapters

  -- what is left says what all say
  pub record IsLeft (all left : List Numbered) : Type 0 where
    pub none : None' left → None' all
    pub asks : (at : ℕ) → First at left → First at all

  pub left_all : (all : List Numbered) → IsLeft all (drop 0 all)
  left_all all = record { none = λ is. is; asks = λ at is. is }

  -- a chapter has no page to ask for, and hasn't the name
  pub left_on : (all : List Numbered) (k : ℕ) (one : Numbered) → drop k all ≡ one ∷ drop (suc k) all → NeedsNone region cached given name one → location_of name one.records ≡ None
      → IsLeft all (drop k all) → IsLeft all (drop (suc k) all)
  left_on all k one here needs none left = record {
    none = λ is. left.none (subst (λ (cs : List Numbered). None' cs) (sym here) (needs, λ gone. is));
    asks = λ at is. left.asks at (subst (λ (cs : List Numbered). First at cs) (sym here) (inr (needs, none, is)));
  }

  -- it has the name
  pub none_known : (all : List Numbered) (k : ℕ) (one : Numbered) (at : Pbn) → drop k all ≡ one ∷ drop (suc k) all → NeedsNone region cached given name one → location_of name one.records ≡ Some at
      → IsLeft all (drop k all) → None' all
  none_known all k one at here needs found left = left.none (subst (λ (cs : List Numbered). None' cs) (sym here) (needs, λ gone. absurd (not_both found gone)))
    where
      not_both : location_of name one.records ≡ Some at → location_of name one.records ≡ None → ⊥
      not_both some none = let no' : Some at ≡ None = sym some ∙ none in cc

  -- its page is asked for
  pub asks_here : (all : List Numbered) (k : ℕ) (one : Numbered) (at : ℕ) → drop k all ≡ one ∷ drop (suc k) all → IsNamePage region.first region.places name at one → IsNew region.first cached given at
      → IsLeft all (drop k all) → First at all
  asks_here all k one at here page new left = left.asks at (subst (λ (cs : List Numbered). First at cs) (sym here) (inl (page, new)))

  pub none_left : (all : List Numbered) (k : ℕ) → drop k all ≡ [] → IsLeft all (drop k all) → None' all
  none_left all k over left = left.none (subst (λ (cs : List Numbered). None' cs) (sym over) tt)
