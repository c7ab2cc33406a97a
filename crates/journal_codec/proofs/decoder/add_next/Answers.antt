use Rattle.std.proofs.Common.{◌∙◌, ◌++◌, ◌+◌, refl, subst, ap, sym, inl, inr}
use Rattle.blk_base.specs.declared.journal_entry.Entry.{Entry}
use Rattle.std.specs.Prelude.{List}
use Rattle.journal_codec.specs.Grammar.{IsRun}
use Rattle.journal_codec.proofs.PrefixLaws.{run_goes_on, run_ends}
use Rattle.journal_codec.proofs.decoder.add_next.Goals as goal

pub returns-then-not-goes_on-clause-ended : goal.returns-then-not-goes_on-clause-ended
returns-then-not-goes_on-clause-ended c e =
    let a = c.args in
    let next = c.in-Some.next in
    let not = c.if-not-goes_on.true in (
      refl,
      run_ends a.nonce a.block.now a.sequence a.head a.count next.sequence next.head a.entries.now next.entries c.requires.run c.in-Some.ensures.some
          (λ same. let size = c.len.ensures.value in
          let right = c.goes_on.ensures.1 (same.0, same.1, elim same.2 [ inl full ↦ inl (size ∙ full) | inr none ↦ inr none ]) in cc (right, not)),
    )

pub returns-else-not-goes_on-clause-longer : goal.returns-else-not-goes_on-clause-longer
returns-else-not-goes_on-clause-longer c t =
    let a = c.args in
    let next = c.in-Some.next in
    let same = c.goes_on.ensures.0 c.if-not-goes_on.false in
    let size = c.len.ensures.value in
    subst (λ (es : List Entry). IsRun a.nonce a.block.now a.sequence a.head (a.count + 1) es)
    (sym (c.extend_from_slice.ensures ∙ ap (λ es. a.entries.now ++ es) c.as_slice.ensures.value))
    (run_goes_on a.nonce a.block.now a.sequence a.head a.count next.sequence next.head a.entries.now next.entries c.requires.run c.in-Some.ensures.some
    (same.0, same.1, elim same.2 [ inl full ↦ inl (sym size ∙ full) | inr none ↦ inr none ]))
