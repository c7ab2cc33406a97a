use Rattle.std.proofs.Common.{◌≡◌, ◌∙◌, ◌+◌, ◌-◌, ◌*◌, ◌++◌, length, take, drop, replicate, flat_map, ℕ, List, ◌≤◌, ap, sym, subst, length-drop, arith}
use Rattle.blk_base.specs.declared.place.Mapping.{Mapping}
use Rattle.blk_base.specs.declared.place.Mapping.TheVariants.{Unmapped}
use Rattle.byte_fields.specs.Mappings.{mapping_bytes}
use Rattle.std.proofs.lemmas.List.{length-take-le}
use Rattle.std.proofs.lemmas.Slice.{drop-put_mid, take-put_mid}
use Rattle.page_codec.proofs.WriteLaws.{IsWrittenTo, run_written, unmapped_written}
use Rattle.page_codec.proofs.encoder.put_slots.Goals.{then-not-are_unmapped, else-not-are_unmapped}
use Rattle.page_codec.proofs.encoder.put_slots.Goals as goal

pub loop-run-preserved : goal.loop-run-preserved
loop-run-preserved c =
    let run : ℕ = c.loop-run.run in
    let before : List ℕ = c.loop-run.page in
    let mappings : List Mapping = c.args.mappings.now in
    let count = c.requires.count in
    let below = c.loop-run-test.true in
    let zeros : length c.args.page.now ≡ 4060 = ap length c.requires.zeros in
    let same = c.loop-run.auto.page in
    let slots : 28 * run + 28 - 28 * run ≡ 28 = omega arith in
    let bytes : 140 * run + 140 - 140 * run ≡ 140 = omega arith in
    elim c.if-not-are_unmapped.branch [
      | then-not-are_unmapped w ↦ (
          let put : w.put_run.new.run ≡ flat_map mapping_bytes (take 28 (drop (28 * run) mappings)) =
          w.put_run.ensures ∙ ap (λ (n : ℕ). flat_map mapping_bytes (take n (drop (28 * run) mappings))) slots in
          let inside : 140 * run ≤ length before = omega (arith, below, zeros, same) in
          let size : length w.put_run.new.run ≡ 140 =
          w.put_run.auto.run ∙ ap (λ (n : ℕ). length (take n (drop (140 * run) before))) bytes
          ∙ length-take-le 140 (drop (140 * run) before) (simp length-drop (omega (arith, below, zeros, same))) in
          run_written before c.if-not-are_unmapped.page mappings run below count c.loop-run.invariant
          (ap (take (140 * run + 140)) w.page-is
          ∙ take-put_mid (140 * run) (140 * run + 140 - 140 * run) before w.put_run.new.run (140 * run + 140) (omega (arith, size)) inside
          ∙ ap (λ (b : List ℕ). take (140 * run) before ++ b) put)
          (ap (drop (140 * run + 140)) w.page-is
          ∙ drop-put_mid (140 * run) (140 * run + 140 - 140 * run) before w.put_run.new.run (140 * run + 140) (omega (arith, bytes)) inside (size ∙ sym bytes))
          )
      | else-not-are_unmapped w ↦
          subst (IsWrittenTo (run + 1) mappings) (sym w.page-is)
          (unmapped_written before mappings run below count c.loop-run.invariant
          (subst (λ (n : ℕ). take n (drop (28 * run) mappings) ≡ replicate (length (take n (drop (28 * run) mappings))) Unmapped) slots w.if-not-are_unmapped.ensures))
    ]
