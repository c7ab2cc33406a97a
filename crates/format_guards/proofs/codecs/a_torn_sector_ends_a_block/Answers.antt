use Rattle.std.proofs.Common.{◌≡◌, ◌≤◌, ◌<◌, ◌*◌, ℕ, List, Bool, true, false, length, refl, inl, inr, arith}
use Rattle.std.proofs.lemmas.Bool.{cases_lt}
use Rattle.std.proofs.lemmas.Option.{IfSome_then}
use Rattle.blk_base.specs.Sectors.{sector}
use Rattle.blk_base.specs.declared.journal_entry.Entry.{Entry}
use Rattle.journal_codec.specs.Grammar.{IsSector, IsPrefix}
use Rattle.journal_codec.specs.declared.forms.Prefix.{Prefix}
use Rattle.format_guards.proofs.codecs.a_torn_sector_ends_a_block.Goals as goal

short : (nonce i : ℕ) (block : List ℕ) (s h : ℕ) (es : List Entry) (whole : Bool)
    → ((sequence head : ℕ) (entries : List Entry) → IsSector nonce i (sector i block) sequence head entries → ⊥)
    → (is : IsPrefix nonce block s h es whole) → is.count ≤ i
short nonce i block s h es whole torn is = elim (cases_lt i is.count) [
  | inl inside ↦ absurd (torn s h _ (is.run.sectors i inside))
  | inr behind ↦ behind
]

ends : (nonce i : ℕ) (block : List ℕ) (s h : ℕ) (es : List Entry) (whole : Bool) → i < 8
    → ((sequence head : ℕ) (entries : List Entry) → IsSector nonce i (sector i block) sequence head entries → ⊥)
    → IsPrefix nonce block s h es whole → (whole ≡ false) × (length es ≤ 24 * i)
ends nonce i block s h es true low torn is = let few = short nonce i block s h es true torn is in let all = is.all.0 refl in absurd (omega (arith, few, all))
ends nonce i block s h es false low torn is = let few = short nonce i block s h es false torn is in (refl, omega (arith, is.run.fits, few))

pub returns : goal.returns
returns c = IfSome_then {X = Prefix} _ c.block_prefix.ensures.some
    (λ prefix is. ends c.args.nonce c.args.i c.args.block.now prefix.sequence prefix.head prefix.entries prefix.whole c.requires.place.1 c.requires.torn is)
