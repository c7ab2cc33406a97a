-- The newest entry for an address or a page, and what it gives.
use Rattle.std.proofs.Common.{ℕ, ◌≡◌, ◌+◌, ◌/◌, ◌%◌, ◌==◌, ◌&&◌, Bool, true, false, if◌then◌else◌, Option, Some, None, List, [], ◌∷◌, ◌++◌, map, refl, sym, ◌∙◌, ap, ap₂, inl, inr, arith}
use Rattle.std.proofs.lemmas.Bool.{cases_Bool, false_from_ne_true}
use Rattle.std.proofs.lemmas.Bool.Decides.{eqb_tells}
use Rattle.blk_base.specs.declared.journal_entry.CommittedEntry.{CommittedEntry}
use Rattle.blk_base.specs.declared.journal_entry.Entry.{Entry}
use Rattle.blk_base.specs.declared.journal_entry.Entry.TheVariants.{Remap, NewPage}
use Rattle.blk_base.specs.declared.place.Mapping.{Mapping}
use Rattle.blk_base.specs.declared.place.Mapping.TheVariants.{Unmapped, At}
use Rattle.blk_base.specs.declared.place.PageId.{PageId}
use Rattle.blk_base.specs.declared.place.Pbn.{Pbn}
use Rattle.blk_base.specs.Pages.{above, slot_of, leaf_of, slot_of_address}
use Rattle.image_layout.specs.Values as layout
use Rattle.image_model.specs.Maps.{put_by, put_last, or_else}
use Rattle.image_model.specs.Pages.{is_page}
use Rattle.journal_stops.specs.Mapped.{put_at, newest_for, put_page, newest_page, page_of}
use Rattle.journal_stops.proofs.MapLaws.{both, or_assoc}

-- Tests.

eq_self : (n : ℕ) → (n == n) ≡ true
eq_self n = elim (eqb_tells n n) [ inl same ↦ same.0 | inr other ↦ absurd (other.1 refl) ]

pub eq_of : (m n : ℕ) → (m == n) ≡ true → m ≡ n
eq_of m n is = elim (eqb_tells m n) [ inl same ↦ same.1 | inr other ↦ absurd (cc (is, other.0)) ]

eq_is : (m n : ℕ) → m ≡ n → (m == n) ≡ true
eq_is m n same = rw same (eq_self n)

both_true : (b c : Bool) → b ≡ true → c ≡ true → (b && c) ≡ true
both_true b c is is' = rw (is, is') refl

same_test : (b c : Bool) → (b ≡ true → c ≡ true) → (c ≡ true → b ≡ true) → b ≡ c
same_test true c there back = sym (there refl)
same_test false true there back = back refl
same_test false false there back = refl

same_address : (a b : ℕ) → a / 812 % 60 ≡ b / 812 % 60 → a / 812 / 60 / 1 ≡ b / 812 / 60 / 1 → a % 812 ≡ b % 812 → a ≡ b
same_address a b tree index slot = omega (arith, tree, index, slot)

same_index : (m n : ℕ) → m / 812 ≡ n / 812 → m % 812 ≡ n % 812 → m ≡ n
same_index m n above_same slot = omega (arith, above_same, slot)

pub page_parts : (p q : PageId) → is_page p q ≡ true → (p.tree ≡ q.tree) × (p.level ≡ q.level) × (p.index ≡ q.index)
page_parts p q is =
    let last = both ((p.tree == q.tree) && (p.level == q.level)) (p.index == q.index) is in
    let first = both (p.tree == q.tree) (p.level == q.level) last.0 in
    (eq_of p.tree q.tree first.0, eq_of p.level q.level first.1, eq_of p.index q.index last.1)

page_is : (p q : PageId) → p.tree ≡ q.tree → p.level ≡ q.level → p.index ≡ q.index → is_page p q ≡ true
page_is p q tree level index =
    both_true ((p.tree == q.tree) && (p.level == q.level)) (p.index == q.index)
    (both_true (p.tree == q.tree) (p.level == q.level) (eq_is p.tree q.tree tree) (eq_is p.level q.level level)) (eq_is p.index q.index index)

-- An entry puts its mapping into the slot of its address alone ..

remap_test : (a b : ℕ) → (is_page (leaf_of a) (leaf_of b) && (slot_of_address a == slot_of_address b)) ≡ (b == a)
remap_test a b = same_test (is_page (leaf_of a) (leaf_of b) && (slot_of_address a == slot_of_address b)) (b == a)
    (λ is. let parts = both (is_page (leaf_of a) (leaf_of b)) (slot_of_address a == slot_of_address b) is in
    let page = page_parts (leaf_of a) (leaf_of b) parts.0 in
    eq_is b a (sym (same_address a b page.0 page.2 (eq_of (a % 812) (b % 812) parts.1))))
    (λ is. let same : a ≡ b = sym (eq_of b a is) in
    both_true (is_page (leaf_of a) (leaf_of b)) (slot_of_address a == slot_of_address b)
    (page_is (leaf_of a) (leaf_of b) (ap (λ (n : ℕ). n / 812 % 60) same) refl (ap (λ (n : ℕ). n / 812 / 60 / 1) same))
    (eq_is (a % 812) (b % 812) (ap (λ (n : ℕ). n % 812) same)))

-- .. and a page's block into that of its page alone.

page_test : (p q : PageId) → (is_page (above p) (above q) && (slot_of p == slot_of q)) ≡ is_page p q
page_test p q = same_test (is_page (above p) (above q) && (slot_of p == slot_of q)) (is_page p q)
    (λ is. let parts = both (is_page (above p) (above q)) (slot_of p == slot_of q) is in
    let page = page_parts (above p) (above q) parts.0 in
    let level : p.level + 1 ≡ q.level + 1 = page.1 in
    page_is p q page.0 (omega (arith, level)) (same_index p.index q.index page.2 (eq_of (p.index % 812) (q.index % 812) parts.1)))
    (λ is. let page = page_parts p q is in
    both_true (is_page (above p) (above q)) (slot_of p == slot_of q)
    (page_is (above p) (above q) page.0 (ap (λ (n : ℕ). n + 1) page.1) (ap (λ (n : ℕ). n / 812) page.2))
    (eq_is (p.index % 812) (q.index % 812) (ap (λ (n : ℕ). n % 812) page.2)))

no_leaf : (a : ℕ) (p : PageId) (t : Bool) → (is_page (leaf_of a) (above p) && t) ≡ false
no_leaf a p t = false_from_ne_true (is_page (leaf_of a) (above p) && t)
    (λ is. let page = page_parts (leaf_of a) (above p) (both (is_page (leaf_of a) (above p)) t is).0 in let level : 0 ≡ p.level + 1 = page.1 in omega (arith, level))

no_branch : (p : PageId) (a : ℕ) (t : Bool) → (is_page (above p) (leaf_of a) && t) ≡ false
no_branch p a t = false_from_ne_true (is_page (above p) (leaf_of a) && t)
    (λ is. let page = page_parts (above p) (leaf_of a) (both (is_page (above p) (leaf_of a)) t is).0 in let level : p.level + 1 ≡ 0 = page.1 in omega (arith, level))

put_same : (e : Entry) (a : ℕ) → put_by e (leaf_of a) (slot_of_address a) ≡ put_at e a
put_same (Remap at old new) a = ap (λ (t : Bool). if t then Some new else None) (remap_test a at.0)
put_same (NewPage page at) a = ap (λ (t : Bool). if t then Some (At at) else None) (no_leaf a page (slot_of_address a == slot_of page))

put_page_same : (e : Entry) (page : PageId) → put_by e (above page) (slot_of page) ≡ put_page e page
put_page_same (Remap at old new) page = ap (λ (t : Bool). if t then Some new else None) (no_branch page at.0 (slot_of page == slot_of_address at.0))
put_page_same (NewPage made at) page = ap (λ (t : Bool). if t then Some (At at) else None) (page_test page made)

pub newest_same : (entries : List CommittedEntry) (a : ℕ) → put_last entries (leaf_of a) (slot_of_address a) ≡ newest_for entries a
newest_same [] a = refl
newest_same (c ∷ older) a = ap₂ or_else (put_same c.entry a) (newest_same older a)

pub newest_page_same : (entries : List CommittedEntry) (page : PageId) → put_last entries (above page) (slot_of page) ≡ newest_page entries page
newest_page_same [] page = refl
newest_page_same (c ∷ older) page = ap₂ or_else (put_page_same c.entry page) (newest_page_same older page)

-- Newer entries before older ones.

pub newest_append : (newer older : List CommittedEntry) (a : ℕ) → newest_for (newer ++ older) a ≡ or_else (newest_for newer a) (newest_for older a)
newest_append [] older a = refl
newest_append (c ∷ newer) older a =
    ap (or_else (put_at c.entry a)) (newest_append newer older a) ∙ sym (or_assoc (put_at c.entry a) (newest_for newer a) (newest_for older a))

pub newest_page_append : (newer older : List CommittedEntry) (page : PageId) → newest_page (newer ++ older) page ≡ or_else (newest_page newer page) (newest_page older page)
newest_page_append [] older page = refl
newest_page_append (c ∷ newer) older page =
    ap (or_else (put_page c.entry page)) (newest_page_append newer older page) ∙ sym (or_assoc (put_page c.entry page) (newest_page newer page) (newest_page older page))

-- The fold of the entries alone gives an address the mapping of the newest one too.

abbrev or_unmapped : Option Mapping → Mapping
or_unmapped (Some m) = m
or_unmapped None = Unmapped

fold_first : (e : Entry) (older : List Entry) (a : ℕ) (rest : Option Mapping) → layout.mapping_of older a ≡ or_unmapped rest → layout.mapping_of (e ∷ older) a ≡ or_unmapped (or_else (put_at e a) rest)
fold_first (Remap at old new) older a rest same = elim (cases_Bool (at.0 == a)) [ inl taken ↦ rw taken refl | inr passed ↦ rw passed same ]
fold_first (NewPage page at) older a rest same = same

pub folded : (entries : List CommittedEntry) (a : ℕ) → layout.mapping_of (map (λ (c : CommittedEntry). c.entry) entries) a ≡ or_unmapped (newest_for entries a)
folded [] a = refl
folded (c ∷ older) a = fold_first c.entry (map (λ (c : CommittedEntry). c.entry) older) a (newest_for older a) (folded older a)

pub folded_new : (entries : List CommittedEntry) (a : ℕ) (m : Mapping) → newest_for entries a ≡ Some m → layout.mapping_of (map (λ (c : CommittedEntry). c.entry) entries) a ≡ m
folded_new entries a m newest = folded entries a ∙ ap or_unmapped newest

pub folded_none : (entries : List CommittedEntry) (a : ℕ) → newest_for entries a ≡ None → layout.mapping_of (map (λ (c : CommittedEntry). c.entry) entries) a ≡ Unmapped
folded_none entries a none = folded entries a ∙ ap or_unmapped none

-- A page that was linked stays linked: what is put into a slot of a page that isn't a leaf is the block of a page.

page_block : (e : Entry) (page : PageId) (m : Mapping) → put_page e page ≡ Some m → (at : Pbn) × (m ≡ At at)
page_block (Remap at old new) page m is = absurd (cc is)
page_block (NewPage made at) page m is = elim (cases_Bool (is_page page made)) [
  | inl taken ↦ let here = rw taken at is in (at, some_same (At at) m here)
  | inr passed ↦ let here = rw passed at is in absurd (cc here)
]
  where
    some_same : (x y : Mapping) → Some x ≡ Some y → y ≡ x
    some_same x y is = cc is

newest_first : (entries : List CommittedEntry) (page : PageId) (e : Entry) (m : Mapping) (o : Option Mapping) → ((m : Mapping) → newest_page entries page ≡ Some m → (at : Pbn) × (m ≡ At at))
    → put_page e page ≡ o → or_else o (newest_page entries page) ≡ Some m → (at : Pbn) × (m ≡ At at)
newest_first entries page e m (Some x) older put is = page_block e page m (put ∙ is)
newest_first entries page e m None older put is = older m is

pub newest_is_block : (entries : List CommittedEntry) (page : PageId) (m : Mapping) → newest_page entries page ≡ Some m → (at : Pbn) × (m ≡ At at)
newest_is_block [] page m is = absurd (cc is)
newest_is_block (c ∷ older) page m is = newest_first older page c.entry m (put_page c.entry page) (newest_is_block older page) refl is

-- What an entry puts, it puts into its page.

pub page_equal : (p q : PageId) → is_page p q ≡ true → p ≡ q
page_equal p q is =
    let parts = page_parts p q is in
    let with_parts : ℕ → ℕ → ℕ → PageId = λ t l i. record { tree = t; level = l; index = i } in
    ap (λ (t : ℕ). with_parts t p.level p.index) parts.0 ∙ ap (λ (l : ℕ). with_parts q.tree l p.index) parts.1 ∙ ap (λ (i : ℕ). with_parts q.tree q.level i) parts.2

put_where : (p q : PageId) (t : Bool) (m x : Mapping) → (if is_page p q && t then Some x else None) ≡ Some m → p ≡ q
put_where p q t m x is = elim (cases_Bool (is_page p q && t)) [
  | inl taken ↦ page_equal p q (both (is_page p q) t taken).0
  | inr passed ↦ let none = rw passed at is in absurd (cc none)
]

pub put_into : (e : Entry) (page : PageId) (slot : ℕ) (m : Mapping) → put_by e page slot ≡ Some m → page ≡ page_of e
put_into (Remap at old new) page slot m is = put_where page (leaf_of at.0) (slot == slot_of_address at.0) m new is
put_into (NewPage made at) page slot m is = put_where page (above made) (slot == slot_of made) m (At at) is
