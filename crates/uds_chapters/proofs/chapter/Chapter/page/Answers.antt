use Rattle.std.proofs.Common.{ℕ, ◌≡◌, ◌≤◌, ◌∙◌, List, length, ap, ap₂, subst}
use Rattle.std.specs.Prelude.{All}
use Rattle.uds_chapters.specs.declared.entry.Record.{Record}
use Rattle.uds_chapters.specs.Names.{AreRising}
use Rattle.uds_chapters.specs.Chapters.{Numbered, records_in}
use Rattle.uds_chapters.specs.Pages.{HoldsRecord, page_bytes}
use Rattle.uds_chapters.proofs.RecordLaws.{rising_in}
use Rattle.uds_chapters.proofs.chapter.Chapter.page.Goals as goal

pub returns : goal.returns
returns c =
    let i = c.args.i in
    let own : c.self.inside.records.items ≡ c.args.self.now.records = ap (λ (n : Numbered). n.records) c.self.view_is in
    let number : c.self.inside.number ≡ c.args.self.now.number = ap (λ (n : Numbered). n.number) c.self.view_is in
    let same : c.part-records.result.now ≡ records_in i c.args.self.now.records = c.part-records.ensures.part ∙ ap (records_in i) (c.as_slice.ensures.value ∙ own) in
    record {
      place = c.requires;
      spelled = c.put_page.ensures.spelled ∙ ap₂ (λ (n : ℕ) (rs : List Record). page_bytes c.args.nonce n i rs) number same;
      few = subst (λ (rs : List Record). length rs ≤ 170) same c.part-records.ensures.few;
      held = subst (λ (rs : List Record). All HoldsRecord rs) same c.put_page.ensures.held;
      rising = subst (λ (rs : List Record). AreRising (records_in i rs)) own (rising_in i c.self.inside.records.items c.self.invariant.rising);
    }
