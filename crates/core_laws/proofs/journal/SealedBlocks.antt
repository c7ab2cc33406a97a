-- The blocks that are sealed with entries: what they hold, and the entries of those of them that an image has.
use Rattle.std.proofs.Common.{ℕ, zero, suc, ◌+◌, ◌-◌, ◌*◌, ◌≤◌, ◌≡◌, List, [], ◌∷◌, ◌++◌, length, map, reverse, take, drop, refl, sym, ◌∙◌, ap, subst, inl, inr, arith, length-append}
use Rattle.std.proofs.lemmas.List.{length-reverse, reverse-append, reverse-reverse, take_all}
use Rattle.std.proofs.Math.Seq.{take-append_seam}
use Rattle.blk_base.specs.declared.journal_entry.CommittedEntry.{CommittedEntry}
use Rattle.core_laws.proofs.Common.{AllByRecursion, Entry, Logged, Session, Vio, all_logged, all_of, cases_lt, entry_of, every-append, logged}
use Rattle.core_model.specs.Sessions.{blocks_of, said_by, sealed_with}
use Rattle.image_model.specs.Windows.{with_points}
use Rattle.journal_stops.specs.Sealed.{front_of, head_of}
use Rattle.journal_stops.specs.Sealed as blocks

-- Lists.

pub reverse_more : {X : Type 0} (x : X) (xs : List X) → reverse (x ∷ xs) ≡ reverse xs ++ x ∷ []
reverse_more x xs = reverse-append (x ∷ []) xs

reverse_last : {X : Type 0} (xs : List X) (x : X) → reverse (xs ++ x ∷ []) ≡ x ∷ reverse xs
reverse_last xs x = reverse-append xs (x ∷ [])

pub map_both : {X Y : Type 0} (f : X → Y) (xs ys : List X) → map f (xs ++ ys) ≡ map f xs ++ map f ys
map_both f [] ys = refl
map_both f (x ∷ xs) ys = ap (λ zs. f x ∷ zs) (map_both f xs ys)

pub map_length : {X Y : Type 0} (f : X → Y) (xs : List X) → length (map f xs) ≡ length xs
map_length f [] = refl
map_length f (x ∷ xs) = ap suc (map_length f xs)

every_reversed : {X : Type 0} (P : X → Type 0) (xs : List X) → AllByRecursion P xs → AllByRecursion P (reverse xs)
every_reversed P [] all = tt
every_reversed P (x ∷ xs) all = subst (AllByRecursion P) (sym (reverse_more x xs)) (every-append P (reverse xs) (x ∷ []) (every_reversed P xs all.1) (all.0, tt))

every_mapped : {X Y : Type 0} (P : Y → Type 0) (f : X → Y) (xs : List X) → AllByRecursion (λ x. P (f x)) xs → AllByRecursion P (map f xs)
every_mapped P f [] all = tt
every_mapped P f (x ∷ xs) all = (all.0, every_mapped P f xs all.1)

-- a list in two parts, the second of so many
parts_of : {X : Type 0} (n : ℕ) (xs : List X) → take n xs ++ drop n xs ≡ xs
parts_of zero xs = refl
parts_of (suc n) [] = refl
parts_of (suc n) (x ∷ xs) = ap (λ zs. x ∷ zs) (parts_of n xs)

left_after : {X : Type 0} (n : ℕ) (xs : List X) → n ≤ length xs → length (drop n xs) + n ≡ length xs
left_after zero xs few = omega arith
left_after (suc n) [] few = absurd (omega arith)
left_after (suc n) (x ∷ xs) few = let rest = left_after n xs (omega arith) in omega (arith, rest)

-- The entries of a block.

-- it has as many as were handed in for it
pub block_length : (s : Session) (es : List Logged) → length (sealed_with s es).entries ≡ length es
block_length s es = length-reverse (map entry_of es) ∙ map_length entry_of es

-- what holds of each entry holds in the block
pub block_has : (s : Session) (P : Entry → Type 0) (es : List Logged) → AllByRecursion (λ e. P (entry_of e)) es → AllByRecursion P (sealed_with s es).entries
block_has s P es all = every_reversed P (map entry_of es) (every_mapped P entry_of es all)

-- those of requests stand there in their order
pub entries_in_order : (vs : List Vio) → reverse (map entry_of (all_logged vs)) ≡ map (λ (v : Vio). entry_of (logged v)) vs
entries_in_order [] = refl
entries_in_order (v ∷ vs) =
    ap reverse (map_both entry_of (all_logged vs) (logged v ∷ [])) ∙ reverse_last (map entry_of (all_logged vs)) (entry_of (logged v)) ∙ ap (λ (es : List Entry). entry_of (logged v) ∷ es) (entries_in_order vs)

pub logged_length : (vs : List Vio) → length (all_logged vs) ≡ length vs
logged_length [] = refl
logged_length (v ∷ vs) = let more = length-append (all_logged vs) (logged v ∷ []) in omega (arith, more, logged_length vs)

pub every_logged : (P : Logged → Type 0) (vs : List Vio) → AllByRecursion (λ v. P (logged v)) vs → AllByRecursion P (all_logged vs)
every_logged P [] all = tt
every_logged P (v ∷ vs) all = every-append P (all_logged vs) (logged v ∷ []) (every_logged P vs all.1) (all.0, tt)

-- how many blocks the journal has; each names the first sequence as its head
pub blocks_length : (s : Session) (older : List (List Logged)) → length (blocks_of s older) ≡ length older
blocks_length s [] = refl
blocks_length s (es ∷ older) = ap suc (blocks_length s older)

pub heads_start : (s : Session) (older : List (List Logged)) → head_of s.sizes.start (blocks_of s older) ≡ s.sizes.start
heads_start s [] = refl
heads_start s (es ∷ older) = refl

-- The entries of blocks are those of the writes.

said_reversed : (sequence number : ℕ) (es : List Entry) → said_by (reverse (with_points sequence number es)) ≡ reverse es
said_reversed sequence number [] = refl
said_reversed sequence number (e ∷ es) =
    ap said_by (reverse_more _ (with_points sequence (suc number) es)) ∙ map_both (λ (c : CommittedEntry). c.entry) (reverse (with_points sequence (suc number) es)) _
    ∙ ap (λ (xs : List Entry). xs ++ e ∷ []) (said_reversed sequence (suc number) es) ∙ sym (reverse_more e es)

pub said_by_blocks : (s : Session) (older : List (List Logged)) → map entry_of (all_of older) ≡ said_by (blocks.entries_of s.sizes.start (blocks_of s older))
said_by_blocks s [] = refl
said_by_blocks s (es ∷ older) =
    map_both entry_of es (all_of older) ∙ ap (λ (rest : List Entry). map entry_of es ++ rest) (said_by_blocks s older)
    ∙ ap (λ (xs : List Entry). xs ++ said_by (blocks.entries_of s.sizes.start (blocks_of s older))) (sym (said_reversed _ 0 (sealed_with s es).entries ∙ reverse-reverse (map entry_of es)))
    ∙ sym (map_both (λ (c : CommittedEntry). c.entry) (reverse (with_points _ 0 (sealed_with s es).entries)) (blocks.entries_of s.sizes.start (blocks_of s older)))

-- The first sectors of a block have its oldest entries.
pub record FrontPart (s : Session) (n : ℕ) (es : List Logged) : Type 0 where
  pub newer : List Logged
  pub older : List Logged
  pub parts : es ≡ newer ++ older
  pub front : front_of n (sealed_with s es) ≡ sealed_with s older

pub front_part : (s : Session) (n : ℕ) (es : List Logged) → FrontPart s n es
front_part s n es = elim (cases_lt (24 * n) (length es)) [
  | inl less ↦
      let count = length es - 24 * n in
      let newer = take count es in
      let older = drop count es in
      let left = left_after count es (omega (arith, less)) in
      let same : reverse (map entry_of es) ≡ reverse (map entry_of older) ++ reverse (map entry_of newer) =
      ap (λ (xs : List Logged). reverse (map entry_of xs)) (sym (parts_of count es)) ∙ ap reverse (map_both entry_of newer older) ∙ reverse-append (map entry_of newer) (map entry_of older) in
      let long : length (reverse (map entry_of older)) ≡ 24 * n = omega (arith, block_length s older, left, less) in
      let taken : take (24 * n) (reverse (map entry_of es)) ≡ reverse (map entry_of older) =
      ap (take (24 * n)) same ∙ subst (λ (k : ℕ). take k (reverse (map entry_of older) ++ reverse (map entry_of newer)) ≡ reverse (map entry_of older)) long (take-append_seam (reverse (map entry_of older)) (reverse (map entry_of newer))) in
      record { newer = newer; older = older; parts = sym (parts_of count es); front = ap (λ (entries : List Entry). record { head = s.sizes.start; entries = entries }) taken }
  | inr most ↦ record {
    newer = [];
    older = es;
    parts = refl;
    front = ap (λ (entries : List Entry). record { head = s.sizes.start; entries = entries }) (take_all (24 * n) (reverse (map entry_of es)) (omega (arith, block_length s es, most)));
  }
]
