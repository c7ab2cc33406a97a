use Rattle.std.proofs.Common.{ℕ, ◌≡◌, ◌∙◌, ◌<◌, ◌-◌, length, slice_index, drop, take, sym, arith}
use Rattle.std.proofs.lemmas.Bool.{OnTrue_from}
use Rattle.std.proofs.lemmas.List.{length-drop, take_all}
use Rattle.std.proofs.lemmas.Slice.Eq.{bytes_eq-Decides}
use Rattle.stream_text.proofs.RunLaws.{one_run}
use Rattle.stream_text.proofs.runs.is_one_run.Goals as goal

pub returns : goal.returns
returns c =
    let bytes = c.args.bytes.now in
    let last = length bytes - 1 in
    let left = length-drop 1 bytes in
    OnTrue_from c.eq.result ((k : ℕ) → k < length bytes → slice_index bytes k ≡ slice_index bytes 0)
    (λ yes.
    one_run bytes (sym (take_all last (drop 1 bytes) (omega (arith, left))) ∙ (bytes_eq-Decides (take last (drop 1 bytes)) (take last bytes)).0 (sym c.eq.ensures ∙ yes)))
