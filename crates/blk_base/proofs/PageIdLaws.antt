-- When two pages are the same, and when two blocks are.
use Rattle.std.specs.Prelude.{ℕ, ◌≡◌, ◌≢◌, ◌⊎◌}
use Rattle.std.proofs.Common.{◌∙◌, ap, inl, inr}
use Rattle.std.proofs.lemmas.Bool.Decides.{eqb_tells}
use Rattle.blk_base.specs.declared.place.Mapping.TheVariants.{At}
use Rattle.blk_base.specs.declared.place.PageId.{PageId}
use Rattle.blk_base.specs.declared.place.Pbn.{Pbn}

pub same_page : (p q : PageId) → p.tree ≡ q.tree → p.level ≡ q.level → p.index ≡ q.index → p ≡ q
same_page p q tree level index =
    ap (λ (t : ℕ). record { tree = t; level = p.level; index = p.index }) tree
    ∙ ap (λ (l : ℕ). record { tree = q.tree; level = l; index = p.index }) level
    ∙ ap (λ (i : ℕ). record { tree = q.tree; level = q.level; index = i }) index

pub same_or_not : (p q : PageId) → (p ≡ q) ⊎ (p ≢ q)
same_or_not p q =
    elim (eqb_tells p.tree q.tree) [
      | inl tree ↦ elim (eqb_tells p.level q.level) [
        | inl level ↦ elim (eqb_tells p.index q.index) [
          | inl index ↦ inl (same_page p q tree.1 level.1 index.1)
          | inr differs ↦ inr (λ same. differs.1 (ap (λ (r : PageId). r.index) same))
        ]
        | inr differs ↦ inr (λ same. differs.1 (ap (λ (r : PageId). r.level) same))
      ]
      | inr differs ↦ inr (λ same. differs.1 (ap (λ (r : PageId). r.tree) same))
    ]

-- a mapping names one block
pub same_block : (x y : Pbn) → At x ≡ At y → x ≡ y
same_block x y is = cc
