-- The entries of the first requests of a block, with one more.
use Rattle.std.proofs.Common.{◌≡◌, ◌+◌, ℕ, zero, suc, List, [], ◌∷◌, ◌++◌, Some, map, take, slice_get, ap, ◌∙◌, arith}
use Rattle.std.proofs.lemmas.Option.{same_Some}
use Rattle.blk_base.specs.declared.journal_entry.Entry.{Entry}
use Rattle.data_vio.specs.declared.items.Vio.{Vio}

one_more : (f : Vio → Entry) (vs : List Vio) (n : ℕ) (v : Vio) → slice_get vs n ≡ Some v → map f (take (suc n) vs) ≡ map f (take n vs) ++ f v ∷ []
one_more f [] n v got = absurd cc
one_more f (u ∷ vs) zero v got = ap (λ (w : Vio). f w ∷ []) (same_Some _ _ got)
one_more f (u ∷ vs) (suc n) v got = ap (λ (es : List Entry). f u ∷ es) (one_more f vs n v got)

pub entries_more : (f : Vio → Entry) (vs : List Vio) (n : ℕ) (v : Vio) → slice_get vs n ≡ Some v → map f (take (n + 1) vs) ≡ map f (take n vs) ++ f v ∷ []
entries_more f vs n v got = let next : n + 1 ≡ suc n = omega arith in ap (λ (m : ℕ). map f (take m vs)) next ∙ one_more f vs n v got
