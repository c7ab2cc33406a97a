-- A small image, of which the rows speak: the default sizes, and blocks of a journal of eight slots.
use Rattle.std.proofs.Common.{ℕ, ◌≡◌, ◌<◌, ◌≤◌, ◌^◌, List, [], ◌∷◌, arith}
use Rattle.std.proofs.lemmas.List.Elements.{All-cons, All-nil}
pub use Rattle.blk_base.proofs.Example.{small, small_is}
use Rattle.blk_base.specs.Sectors.{sector, zero_block}
use Rattle.blk_base.specs.declared.journal_entry.Entry.{Entry}
use Rattle.blk_base.specs.Forms.{pbn}
use Rattle.blk_base.proofs.Example.{leaf, maps, root}
use Rattle.page_codec.specs.declared.forms.PageHead.{PageHead}
use Rattle.byte_fields.specs.Fields.{number_at}
use Rattle.journal_codec.specs.Grammar.{HoldsEntry, HoldsBlock, IsSector}
use Rattle.journal_codec.specs.BlockBytes.{block_bytes}
use Rattle.journal_codec.proofs.PrefixLaws.{written}
use Rattle.journal_codec.proofs.ReadLaws.{fields_of, one_reading}

-- the root of tree 0 stands at block 9, and the leaf of address 0 at block 85
abbrev pub head_of_root : PageHead
head_of_root = record { geometry = small; page = root; at = pbn 9 }

abbrev pub head_of_leaf : PageHead
head_of_leaf = record { geometry = small; page = leaf; at = pbn 85 }

-- one entry, and a journal's block that has it
abbrev pub one : List Entry
one = maps 86 ∷ []

abbrev pub block : ℕ → ℕ → List ℕ
block sequence head = block_bytes 1 sequence head one

pub holds : (sequence head : ℕ) → 1 ≤ sequence → sequence < 2 ^ 55 → head ≤ sequence → HoldsBlock sequence head one
holds sequence head some below oldest = record {
  named = (some, below);
  head_below = oldest;
  few = omega arith;
  each = All-cons HoldsEntry (maps 86) [] (omega arith, tt, (omega arith, omega arith)) (All-nil HoldsEntry);
}

-- sector 0 of such a block is valid and says this alone
pub has_sector : (sequence head : ℕ) → 1 ≤ sequence → sequence < 2 ^ 55 → head ≤ sequence → IsSector 1 0 (sector 0 (block sequence head)) sequence head one
has_sector sequence head some below oldest = written 1 sequence head one 0 (holds sequence head some below oldest) (omega arith)

pub only_sector : (sequence head s h : ℕ) (entries : List Entry) → 1 ≤ sequence → sequence < 2 ^ 55 → head ≤ sequence
    → IsSector 1 0 (sector 0 (block sequence head)) s h entries → (sequence ≡ s) × (head ≡ h) × (one ≡ entries)
only_sector sequence head s h entries some below oldest is =
    one_reading 1 0 (sector 0 (block sequence head)) sequence head s h one entries (has_sector sequence head some below oldest) is

-- zeros are no sector, since none has the sequence 0
pub zeros : (nonce : ℕ) (s h : ℕ) (entries : List Entry) → IsSector nonce 0 (sector 0 zero_block) s h entries → ⊥
unfolding zero_block number_at
zeros nonce s h entries is =
    let none : 0 ≡ s = (fields_of nonce 0 (sector 0 zero_block) s h entries is).sequence in
    let named = is.named.0 in
    omega (arith, none, named)
