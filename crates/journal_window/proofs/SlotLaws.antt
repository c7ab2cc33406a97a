-- What stands in a slot of a journal: what its sector 0 says.
use Rattle.std.specs.Prelude.{ℕ, ◌≡◌, ◌<◌, ◌%◌, List, length, get_or}
use Rattle.std.proofs.Common.{sym, ◌∙◌, subst}
use Rattle.std.proofs.lemmas.List.{get_or_default}
use Rattle.blk_base.specs.declared.geometry.Geometry.{Geometry}
use Rattle.blk_base.specs.declared.journal_entry.Entry.{Entry}
use Rattle.blk_base.specs.Sectors.{sector, zero_block}
use Rattle.journal_codec.specs.Grammar.{IsSector}
use Rattle.journal_codec.proofs.ReadLaws.{one_reading}

-- the slot's sector 0 is this one, whichever block is read past the end
pub sector_there : (nonce : ℕ) (journal : List (List ℕ)) (slot : ℕ) (block : List ℕ) (s h : ℕ) (es : List Entry) → slot < length journal
    → block ≡ get_or journal slot block → IsSector nonce 0 (sector 0 block) s h es → IsSector nonce 0 (sector 0 (get_or journal slot zero_block)) s h es
sector_there nonce journal slot block s h es inside here is =
    subst (λ (b : List ℕ). IsSector nonce 0 (sector 0 b) s h es) (here ∙ get_or_default journal slot block zero_block inside) is

-- or it isn't valid
pub no_sector_there : (nonce : ℕ) (journal : List (List ℕ)) (slot : ℕ) (block : List ℕ) → slot < length journal → block ≡ get_or journal slot block
    → ((s h : ℕ) (es : List Entry) → IsSector nonce 0 (sector 0 block) s h es → ⊥)
    → (s h : ℕ) (es : List Entry) → IsSector nonce 0 (sector 0 (get_or journal slot zero_block)) s h es → ⊥
no_sector_there nonce journal slot block inside here none s h es is =
    none s h es (subst (λ (b : List ℕ). IsSector nonce 0 (sector 0 b) s h es) (sym (here ∙ get_or_default journal slot block zero_block inside)) is)

-- a slot without a valid sector has the block of no sequence
pub none_there : (g : Geometry) (journal : List (List ℕ)) (slot : ℕ)
    → ((s h : ℕ) (es : List Entry) → IsSector g.nonce 0 (sector 0 (get_or journal slot zero_block)) s h es → ⊥)
    → (sequence head : ℕ) (entries : List Entry) → sequence % g.journal ≡ slot
    → IsSector g.nonce 0 (sector 0 (get_or journal (sequence % g.journal) zero_block)) sequence head entries → ⊥
none_there g journal slot none sequence head entries here is =
    none sequence head entries (subst (λ (n : ℕ). IsSector g.nonce 0 (sector 0 (get_or journal n zero_block)) sequence head entries) here is)

-- and what a valid sector says is what the block of the slot is
pub same_there : (g : Geometry) (journal : List (List ℕ)) (slot s h : ℕ) (es : List Entry)
    → IsSector g.nonce 0 (sector 0 (get_or journal slot zero_block)) s h es
    → (sequence head : ℕ) (entries : List Entry) → sequence % g.journal ≡ slot
    → IsSector g.nonce 0 (sector 0 (get_or journal (sequence % g.journal) zero_block)) sequence head entries
    → (s ≡ sequence) × (h ≡ head) × (es ≡ entries)
same_there g journal slot s h es is sequence head entries here there =
    one_reading g.nonce 0 (sector 0 (get_or journal slot zero_block)) s h sequence head es entries is
    (subst (λ (n : ℕ). IsSector g.nonce 0 (sector 0 (get_or journal n zero_block)) sequence head entries) here there)
