use Rattle.std.proofs.Common.{ℕ, ◌≡◌, ◌<◌, ◌^◌, ◌∙◌, [], ◌∷◌, ◌++◌, length, ap, lit≤, arith, length-append, append_assoc}
use Rattle.byte_fields.specs.Fields.{le, number_at}
use Rattle.byte_fields.proofs.FieldLaws.{length-le, number_behind}
use Rattle.sector_records.proofs.SectorLaws.{sector-number}
use Rattle.slab_codec.specs.BlockBytes.{entry_bytes, head_bytes}
use Rattle.slab_codec.specs.Lengths.{length-head}
use Rattle.format_guards.proofs.slabs.a_sector_of_a_slab_has_its_number.Goals as goal

number_read : (nonce sequence slab number count : ℕ) → number < 2 ^ 16 → number_at 2 20 (head_bytes nonce sequence slab number count) ≡ number
unfolding head_bytes
number_read nonce sequence slab number count fits =
    number_behind 2 number 20 (le 8 nonce ++ (le 8 sequence ++ le 4 slab)) (le 2 count ++ ((86 ∷ 83 ∷ 83 ∷ 49 ∷ []) ++ le 4 0))
    (head_bytes nonce sequence slab number count) (simp append_assoc) (simp (length-append, length-le)) (omega (arith, fits))

pub returns-in-Some : goal.returns-in-Some
returns-in-Some c =
    let a = c.args in
    let found = c.in-Some.field-0 in
    let count = length found.entries in
    let head = head_bytes a.nonce found.sequence a.slab a.i count in
    c.read_u16.ensures ∙ ap (number_at 2 20) c.in_ok-bytes.ensures.bytes ∙ ap (number_at 2 20) c.in-Some.ensures.some.spelled
    ∙ sector-number entry_bytes head found.entries 2 20 (length-head a.nonce found.sequence a.slab a.i count) (lit≤ tt)
    ∙ number_read a.nonce found.sequence a.slab a.i count c.ranges.i.fits
