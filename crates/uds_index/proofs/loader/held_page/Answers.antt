use Rattle.std.proofs.Common.{◌≡◌, ◌∙◌, ◌%◌, ◌/◌, ℕ, ap, sym, subst}
use Rattle.std.proofs.lemmas.Bool.{false≢true, eq-eqb}
use Rattle.byte_fields.specs.Fields.{number_at}
use Rattle.uds_chapters.specs.Pages.{IsPage}
use Rattle.uds_index.proofs.LoadLaws.{held_number, if_none}
use Rattle.uds_index.proofs.loader.held_page.Goals as goal

pub returns-then-not-stands_at-clause-none : goal.returns-then-not-stands_at-clause-none
returns-then-not-stands_at-clause-none c = λ page holds.
    let number : c.read_u32-chapter.result ≡ page.number =
    c.read_u32-chapter.ensures ∙ ap (number_at 4 8) c.block.view_is ∙ held_number c.args.nonce c.args.places c.args.number c.args.block.now page holds in
    let place : c.read_u32-chapter.result % c.args.places ≡ c.args.number / 4 = ap (λ (n : ℕ). n % c.args.places) number ∙ holds.place in
    false≢true (sym c.if-not-stands_at.true ∙ c.stands_at.ensures ∙ eq-eqb (c.read_u32-chapter.result % c.args.places) (c.args.number / 4) place)

pub returns-in_err-records-clause-none : goal.returns-in_err-records-clause-none
returns-in_err-records-clause-none c = if_none c.from_residual.result _ (λ page holds.
    let number : c.read_u32-chapter.result ≡ page.number =
    c.read_u32-chapter.ensures ∙ ap (number_at 4 8) c.block.view_is ∙ held_number c.args.nonce c.args.places c.args.number c.args.block.now page holds in
    c.in_err-records.ensures.none page.records (subst (λ (n : ℕ). IsPage c.args.nonce n (c.args.number % 4) c.args.block.now page.records) (sym number) holds.decodes))
