-- The fields of a page's head, as they are read, and that a block has one head.
use Rattle.std.specs.Prelude.{ℕ, ◌≡◌, List, [], ◌∷◌, ◌++◌}
use Rattle.std.proofs.Common.{sym, ◌∙◌, ap, ap₂, refl, arith, length-append, append_assoc}
use Rattle.blk_base.specs.Forms.{page, pbn}
use Rattle.byte_fields.specs.Fields.{le, number_at}
use Rattle.byte_fields.proofs.FieldLaws.{length-le, number_behind}
use Rattle.page_codec.specs.declared.forms.PageHead.{PageHead}
use Rattle.page_codec.specs.PageBytes.{head_bytes}
use Rattle.page_codec.specs.Grammar.{IsHead, HasHead}

nonce_read : (h : PageHead) → IsHead h → number_at 8 4 (head_bytes h) ≡ h.geometry.nonce
unfolding head_bytes
nonce_read h is =
    let fits = is.nonce in
    number_behind 8 h.geometry.nonce 4 (86 ∷ 77 ∷ 80 ∷ 49 ∷ []) (le 8 h.at.0 ++ (le 1 h.page.tree ++ (le 1 h.page.level ++ (le 2 0 ++ (le 4 h.page.index ++ le 8 0)))))
    (head_bytes h) (simp append_assoc) refl (omega (arith, fits))

at_read : (h : PageHead) → IsHead h → number_at 8 12 (head_bytes h) ≡ h.at.0
unfolding head_bytes
at_read h is =
    let fits = is.at in
    number_behind 8 h.at.0 12 ((86 ∷ 77 ∷ 80 ∷ 49 ∷ []) ++ le 8 h.geometry.nonce) (le 1 h.page.tree ++ (le 1 h.page.level ++ (le 2 0 ++ (le 4 h.page.index ++ le 8 0))))
    (head_bytes h) (simp append_assoc) (simp (length-append, length-le)) (omega (arith, fits))

tree_read : (h : PageHead) → IsHead h → number_at 1 20 (head_bytes h) ≡ h.page.tree
unfolding head_bytes
tree_read h is =
    let fits = is.page.0 in
    number_behind 1 h.page.tree 20 ((86 ∷ 77 ∷ 80 ∷ 49 ∷ []) ++ (le 8 h.geometry.nonce ++ le 8 h.at.0)) (le 1 h.page.level ++ (le 2 0 ++ (le 4 h.page.index ++ le 8 0)))
    (head_bytes h) (simp append_assoc) (simp (length-append, length-le)) (omega (arith, fits))

level_read : (h : PageHead) → IsHead h → number_at 1 21 (head_bytes h) ≡ h.page.level
unfolding head_bytes
level_read h is =
    let fits = is.page.1 in
    number_behind 1 h.page.level 21 ((86 ∷ 77 ∷ 80 ∷ 49 ∷ []) ++ (le 8 h.geometry.nonce ++ (le 8 h.at.0 ++ le 1 h.page.tree))) (le 2 0 ++ (le 4 h.page.index ++ le 8 0))
    (head_bytes h) (simp append_assoc) (simp (length-append, length-le)) (omega (arith, fits))

index_read : (h : PageHead) → IsHead h → number_at 4 24 (head_bytes h) ≡ h.page.index
unfolding head_bytes
index_read h is =
    let fits = is.page.2 in
    number_behind 4 h.page.index 24 ((86 ∷ 77 ∷ 80 ∷ 49 ∷ []) ++ (le 8 h.geometry.nonce ++ (le 8 h.at.0 ++ (le 1 h.page.tree ++ (le 1 h.page.level ++ le 2 0))))) (le 8 0)
    (head_bytes h) (simp append_assoc) (simp (length-append, length-le)) (omega (arith, fits))

pub one_head : (h h' : PageHead) (block : List ℕ) → IsHead h → IsHead h' → HasHead h block → HasHead h' block
    → (h.geometry.nonce ≡ h'.geometry.nonce) × (h.at ≡ h'.at) × (h.page ≡ h'.page)
one_head h h' block is is' headed headed' =
    let same = sym headed ∙ headed' in
    let tree = sym (tree_read h is) ∙ ap (number_at 1 20) same ∙ tree_read h' is' in
    let level = sym (level_read h is) ∙ ap (number_at 1 21) same ∙ level_read h' is' in
    let index = sym (index_read h is) ∙ ap (number_at 4 24) same ∙ index_read h' is' in (
      sym (nonce_read h is) ∙ ap (number_at 8 4) same ∙ nonce_read h' is',
      ap pbn (sym (at_read h is) ∙ ap (number_at 8 12) same ∙ at_read h' is'),
      ap (λ (n : ℕ). page n h.page.level h.page.index) tree ∙ ap₂ (λ (l i : ℕ). page h'.page.tree l i) level index,
    )
