-- The dense chapters are those from one number on, and what is listed of them when the newest was closed.
use Rattle.std.specs.Prelude.{ℕ, zero, suc, ◌≡◌, ◌<◌, ◌≤◌, ◌+◌, ◌*◌, ◌-◌, not, Bool, true, false, List, [], ◌∷◌, length, map, take, drop, filter, slice_index_or, All, AllPairs, nat_le, nat_lt, cond, refl}
use Rattle.std.proofs.Common.{sym, ◌∙◌, ap, subst, arith}
use Rattle.std.proofs.lemmas.Bool.{false≢true, le-leb, lt-leb, lt-ltb, le-ltb, leb-true}
use Rattle.std.proofs.lemmas.List.Elements.{All-head, All-tail}
use Rattle.uds_chapters.specs.Chapters.{Numbered}
use Rattle.index_advice.specs.Books.{chapters_elsewhere, is_same_place}
use Rattle.index_advice.specs.Orders.{IsNewer}
use Rattle.uds_index.specs.declared.tags.Tagged.{Tagged}
use Rattle.uds_index.specs.Tags.{AreListed}
use Rattle.uds_index.proofs.KeepLaws.{newer_head, newer_tail}
use Rattle.uds_index.proofs.ListLaws.{listed_few}
use Rattle.sparse_index.specs.Hooks.{hooks_of}
use Rattle.sparse_index.specs.Keeps.{AreOlder, TwoLists, last_number}
use Rattle.sparse_index.specs.Orders.{dense_count}
use Rattle.sparse_index.proofs.ListLaws.{filter_map}

all_in : (p : Numbered → Bool) (ones : List Numbered) → All (λ one. p one ≡ true) ones → ones ≡ filter p ones
all_in p [] all = refl
all_in p (one ∷ ones) all =
    rw (All-head (λ (x : Numbered). p x ≡ true) one ones all) (ap (λ (xs : List Numbered). one ∷ xs) (all_in p ones (All-tail (λ (x : Numbered). p x ≡ true) one ones all)))

none_in : (p : Numbered → Bool) (ones : List Numbered) → All (λ one. p one ≡ false) ones → [] ≡ filter p ones
none_in p [] all = refl
none_in p (one ∷ ones) all =
    rw (All-head (λ (x : Numbered). p x ≡ false) one ones all) (none_in p ones (All-tail (λ (x : Numbered). p x ≡ false) one ones all))

drop_none : (ones : List Numbered) → drop 0 ones ≡ ones
drop_none [] = refl
drop_none (one ∷ ones) = refl

-- the last of the first ones isn't newer than the first
pub last_least : (m : ℕ) (one : Numbered) (ones : List Numbered) → AllPairs IsNewer (one ∷ ones) → last_number (one ∷ take m ones) ≤ one.number
last_least zero one ones newest = omega arith
last_least (suc m) one [] newest = omega arith
last_least (suc m) one (next ∷ ones) newest =
    let less = newer_head one (next ∷ ones) newest 0 next (omega arith) in
    let rest = last_least m next ones (newer_tail one (next ∷ ones) newest) in
    omega (arith, less, rest)

below_first : (one : Numbered) (ones : List Numbered) → AllPairs IsNewer (one ∷ ones) → All (λ other. nat_le one.number other.number ≡ false) ones
below_first one ones newest = λ k d inside. lt-leb one.number (slice_index_or ones k d).number (newer_head one ones newest k d inside)

under_first : (one : Numbered) (ones : List Numbered) → AllPairs IsNewer (one ∷ ones) → All (λ other. nat_lt other.number one.number ≡ true) ones
under_first one ones newest = λ k d inside. lt-ltb (slice_index_or ones k d).number one.number (newer_head one ones newest k d inside)

pub dense_from : (m : ℕ) (kept : List Numbered) → AllPairs IsNewer kept → take (suc m) kept ≡ filter (λ one. nat_le (last_number (take (suc m) kept)) one.number) kept
dense_from m [] newest = refl
dense_from zero (one ∷ kept) newest =
    rw (le-leb one.number one.number (omega arith)) (ap (λ (xs : List Numbered). one ∷ xs) (none_in (λ (x : Numbered). nat_le one.number x.number) kept (below_first one kept newest)))
dense_from (suc m) (one ∷ []) newest = rw (le-leb one.number one.number (omega arith)) refl
dense_from (suc m) (one ∷ next ∷ kept) newest =
    let less = newer_head one (next ∷ kept) newest 0 next (omega arith) in
    let least = last_least m next kept (newer_tail one (next ∷ kept) newest) in
    rw (le-leb (last_number (next ∷ take m kept)) one.number (omega (arith, less, least)))
    (ap (λ (xs : List Numbered). one ∷ xs) (dense_from m (next ∷ kept) (newer_tail one (next ∷ kept) newest)))

pub sparse_below : (m : ℕ) (kept : List Numbered) → AllPairs IsNewer kept → drop (suc m) kept ≡ filter (λ one. nat_lt one.number (last_number (take (suc m) kept))) kept
sparse_below m [] newest = refl
sparse_below zero (one ∷ kept) newest =
    rw (le-ltb one.number one.number (omega arith)) (drop_none kept ∙ all_in (λ (x : Numbered). nat_lt x.number one.number) kept (under_first one kept newest))
sparse_below (suc m) (one ∷ []) newest = rw (le-ltb one.number one.number (omega arith)) refl
sparse_below (suc m) (one ∷ next ∷ kept) newest =
    let less = newer_head one (next ∷ kept) newest 0 next (omega arith) in
    let least = last_least m next kept (newer_tail one (next ∷ kept) newest) in
    rw (le-ltb one.number (last_number (next ∷ take m kept)) (omega (arith, less, least)))
    (sparse_below m (next ∷ kept) (newer_tail one (next ∷ kept) newest))

-- those from one number on, of those from a lower one
from_higher : (low high : ℕ) (q : Numbered → Bool) (ones : List Numbered) → low ≤ high
    → filter (λ one. nat_le high one.number) (filter q (filter (λ one. nat_le low one.number) ones)) ≡ filter (λ one. nat_le high one.number) (filter q ones)
from_higher low high q [] less = refl
from_higher low high q (one ∷ ones) less = by (nat_le high one.number) (nat_le low one.number) (q one) refl refl refl (from_higher low high q ones less)
  where
    by : (h l b : Bool) → nat_le high one.number ≡ h → nat_le low one.number ≡ l → q one ≡ b
        → filter (λ x. nat_le high x.number) (filter q (filter (λ x. nat_le low x.number) ones)) ≡ filter (λ x. nat_le high x.number) (filter q ones)
        → filter (λ x. nat_le high x.number) (filter q (cond l (one ∷ filter (λ x. nat_le low x.number) ones) (filter (λ x. nat_le low x.number) ones)))
        ≡ filter (λ x. nat_le high x.number) (cond b (one ∷ filter q ones) (filter q ones))
    by true true true h l b rest = rw (b, h) (ap (λ (xs : List Numbered). one ∷ xs) rest)
    by false true true h l b rest = rw (b, h) rest
    by h true false is l b rest = rw b rest
    by true false b is l of rest = absurd (false≢true (sym l ∙ le-leb low one.number (let above = leb-true high one.number is in omega (arith, above, less))))
    by false false true h l b rest = rw h rest
    by false false false h l b rest = rest

-- what is dense after the newest was closed, where at most one dense chapter stood where it does
module _ (places : ℕ) (some : 0 < places) (kept : List Numbered) (order : AllPairs IsNewer kept) (end : ℕ) (lists : TwoLists) (to : AreOlder places kept end lists) (newest : Numbered)
    (is : newest ≡ to.newest) where
  abbrev last : ℕ
  last = last_number (take (dense_count places) kept)

  abbrev elsewhere : List Numbered → List Numbered
  elsewhere chapters = chapters_elsewhere places newest.number chapters

  kept_is : kept ≡ newest ∷ elsewhere to.older
  kept_is = to.kept ∙ ap (λ (c : Numbered). c ∷ chapters_elsewhere places c.number to.older) (sym is)

  count : suc (dense_count places - 1) ≡ dense_count places
  count = omega (arith, some)

  dense_as : (chapters : List Numbered) → AllPairs IsNewer chapters
      → take (dense_count places) chapters ≡ filter (λ one. nat_le (last_number (take (dense_count places) chapters)) one.number) chapters
  dense_as chapters newest =
      subst (λ (n : ℕ). take n chapters ≡ filter (λ one. nat_le (last_number (take n chapters)) one.number) chapters) count (dense_from (dense_count places - 1) chapters newest)

  newest_dense : last ≤ newest.number
  newest_dense =
      let least = last_least (dense_count places - 1) newest (elsewhere to.older) (subst (AllPairs IsNewer) kept_is order) in
      let same : last_number (newest ∷ take (dense_count places - 1) (elsewhere to.older)) ≡ last =
      ap (λ (n : ℕ). last_number (take n (newest ∷ elsewhere to.older))) count ∙ ap (λ (cs : List Numbered). last_number (take (dense_count places) cs)) (sym kept_is) in
      omega (arith, least, same)

  pub dense_now : end ≤ last → newest ∷ filter (λ one. nat_le last one.number) (elsewhere (take (dense_count places) to.older)) ≡ take (dense_count places) kept
  dense_now above =
      ap (λ (cs : List Numbered). newest ∷ filter (λ one. nat_le last one.number) (elsewhere cs))
      (dense_as to.older to.order ∙ ap (λ (n : ℕ). filter (λ one. nat_le n one.number) to.older) (sym to.last))
      ∙ ap (λ (cs : List Numbered). newest ∷ cs) (from_higher end last (λ one. not (is_same_place places one.number newest.number)) to.older above)
      ∙ ap (λ (b : Bool). cond b (newest ∷ filter (λ one. nat_le last one.number) (elsewhere to.older)) (filter (λ one. nat_le last one.number) (elsewhere to.older)))
      (sym (le-leb last newest.number newest_dense))
      ∙ ap (filter (λ (one : Numbered). nat_le last one.number)) (sym kept_is)
      ∙ sym (dense_as kept order)

  pub hooks_now : hooks_of newest ∷ chapters_elsewhere places newest.number (map hooks_of to.older) ≡ map hooks_of kept
  hooks_now =
      ap (λ (cs : List Numbered). hooks_of newest ∷ cs) (sym (filter_map hooks_of (λ (one : Numbered). not (is_same_place places one.number newest.number)) to.older))
      ∙ ap (map hooks_of) (sym kept_is)

  -- there is room
  pub hooks_room : (tags : List Tagged) → AreListed (chapters_elsewhere places newest.number (map hooks_of to.older)) tags → length kept ≤ 4 * places
      → length tags + 680 ≤ lists.hooks.room
  hooks_room tags listed few =
      let less = listed_few (chapters_elsewhere places newest.number (map hooks_of to.older)) tags listed in
      let same : suc (length (chapters_elsewhere places newest.number (map hooks_of to.older))) ≡ length kept = ap length hooks_now ∙ length_map kept in
      let room = to.both.room.hooks in
      omega (arith, less, same, room, few)
    where
      length_map : (cs : List Numbered) → length (map hooks_of cs) ≡ length cs
      length_map [] = refl
      length_map (c ∷ cs) = ap (λ (n : ℕ). suc n) (length_map cs)

  pub dense_room : end ≤ last → (tags : List Tagged) → AreListed (filter (λ one. nat_le last one.number) (elsewhere (take (dense_count places) to.older))) tags
      → length tags + 680 ≤ lists.dense.room
  dense_room above tags listed =
      let less = listed_few (filter (λ one. nat_le last one.number) (elsewhere (take (dense_count places) to.older))) tags listed in
      let same : suc (length (filter (λ one. nat_le last one.number) (elsewhere (take (dense_count places) to.older)))) ≡ length (take (dense_count places) kept) = ap length (dense_now above) in
      let few = taken (dense_count places) kept in
      let room = to.both.room.dense in
      omega (arith, less, same, room, few)
    where
      taken : (n : ℕ) (cs : List Numbered) → length (take n cs) ≤ n
      taken zero cs = omega arith
      taken (suc n) [] = omega arith
      taken (suc n) (c ∷ cs) = let rest = taken n cs in omega (arith, rest)
