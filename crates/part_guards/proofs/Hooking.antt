-- When a sparse index asks for no page.
use Rattle.std.proofs.Common.{ℕ, ◌≡◌, ◌≤◌, ◌||◌, true, false, Bool, cond, List, [], Option, None, Some, length, nat_le, refl, sym, ◌∙◌, ap, inl, inr}
use Rattle.std.proofs.lemmas.Bool.{false≢true, le-leb}
use Rattle.blk_base.specs.declared.place.Pbn.{Pbn}
use Rattle.uds_chapters.specs.Chapters.{Numbered}
use Rattle.index_advice.specs.Books.{Book}
use Rattle.index_advice.specs.declared.look.Look.{Look}
use Rattle.index_advice.specs.declared.look.Look.TheVariants.{Known, Nothing, Read}
use Rattle.sparse_index.specs.Hooks.{is_hook}
use Rattle.sparse_index.specs.Orders.{to_read}
use Rattle.sparse_index.specs.Lookups.{Answers, SparseIndex, block_to_ask, is_known, missing_of}

nothing : (b : Bool) → ◌≡◌ {A = Option ℕ} (cond b None None) None
nothing true = refl
nothing false = refl

or_true : (b : Bool) → (b || true) ≡ true
or_true true = refl
or_true false = refl

none_some : (b : ℕ) → ◌≡◌ {A = Option ℕ} None (Some b) → ⊥
none_some b same = cc

known_read : (a b : Pbn) → Known a ≡ Read b → ⊥
known_read a b same = cc

nothing_read : (b : Pbn) → Nothing ≡ Read b → ⊥
nothing_read b same = cc

asks_none : (name : List ℕ) (old new : SparseIndex) (look : Look) (at : Pbn) → block_to_ask name old ≡ None → Answers name old look new → look ≡ Read at → ⊥
asks_none name old new (Known known) at none answers is = known_read known at is
asks_none name old new Nothing at none answers is = nothing_read at is
asks_none name old new (Read block) at none answers is = none_some block.0 (sym none ∙ answers.1)

no_chapter : (name cached : List ℕ) (book : Book) → is_hook name ≡ false → to_read name cached book ≡ []
no_chapter name cached book other = rw other refl

pub no_hook_asks : (name : List ℕ) (old new : SparseIndex) (look : Look) (at : Pbn) → is_hook name ≡ false → Answers name old look new → look ≡ Read at → ⊥
no_hook_asks name old new look at other answers is = asks_none name old new look at none answers is
  where
    none : block_to_ask name old ≡ None
    none =
        ap (λ (cs : List Numbered). cond (is_known name old || nat_le 4 (length old.given)) None (missing_of old cs)) (no_chapter name old.cached old.book other)
        ∙ nothing (is_known name old || nat_le 4 (length old.given))

pub four_asks : (name : List ℕ) (old new : SparseIndex) (look : Look) (at : Pbn) → 4 ≤ length old.given → Answers name old look new → look ≡ Read at → ⊥
four_asks name old new look at four answers is = asks_none name old new look at none answers is
  where
    none : block_to_ask name old ≡ None
    none = ap (λ (b : Bool). cond b None (missing_of old (to_read name old.cached old.book)))
        (ap (λ (b : Bool). is_known name old || b) (le-leb 4 (length old.given) four) ∙ or_true (is_known name old))

pub unread_ends : (name : List ℕ) (old new : SparseIndex) (look : Look) → old.unread ≡ true → Answers name old look new → (look ≡ Nothing) × (new.cached ≡ old.cached)
unread_ends name old new (Known at) unread answers = absurd (false≢true (sym answers.0 ∙ unread))
unread_ends name old new (Read at) unread answers = absurd (false≢true (sym answers.0 ∙ unread))
unread_ends name old new Nothing unread answers = (
  refl,
  elim answers [
    | inl rests ↦ ap (λ (i : SparseIndex). i.cached) rests.1
    | inr ends ↦ absurd (false≢true (sym ends.0 ∙ unread))
  ],
)
