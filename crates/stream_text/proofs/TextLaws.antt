-- The text of the answers, request after request and stream after stream.
use Rattle.std.specs.Prelude.{ℕ, ◌≡◌, ◌<◌, ◌≤◌, ◌+◌, zero, suc, List, [], ◌∷◌, ◌++◌, length, get_or, drop, refl}
use Rattle.std.proofs.Common.{sym, ◌∙◌, ap, arith, inl, inr}
use Rattle.std.proofs.Math.Seq.{drop-cons}
use Rattle.std.proofs.lemmas.Bool.{cases_eq}
use Rattle.std.proofs.lemmas.List.{append_assoc, append-nil}
use Rattle.blk_base.specs.declared.request.Request.{Request}
use Rattle.vdo_model.specs.declared.report.DeskLine.{DeskLine}
use Rattle.vdo_model.specs.declared.report.Placed.{Placed}
use Rattle.vdo_model.specs.Scripts.{Script, stream_of}
use Rattle.vdo_model.specs.DeskLog.{answer_of}
use Rattle.vdo_model.specs.Places.{place_of}
use Rattle.stream_text.specs.Texts.{line_text, stream_text, streams_text, writer}

-- the next request of a stream
pub stream_text-next : (desk : List DeskLine) (places : List Placed) (stream number : ℕ) (requests : List Request) (request : Request)
    → number < length requests → request ≡ get_or requests number request
    → stream_text desk places stream number (drop number requests)
    ≡ line_text (writer stream number) request (answer_of desk (writer stream number)) (place_of places (writer stream number))
    ++ stream_text desk places stream (number + 1) (drop (number + 1) requests)
stream_text-next desk places stream number requests request within here =
    let next : suc number ≡ number + 1 = omega arith in
    ap (stream_text desk places stream number) (drop-cons requests number request within ∙ ap (λ (r : Request). r ∷ drop (suc number) requests) (sym here))
    ∙ ap (λ (n : ℕ). line_text (writer stream number) request (answer_of desk (writer stream number)) (place_of places (writer stream number))
    ++ stream_text desk places stream n (drop n requests)) next

pub streams_text-none : (script : Script) (desk : List DeskLine) (places : List Placed) → streams_text script desk places 0 ≡ []
unfolding streams_text
streams_text-none script desk places = refl

pub streams_text-next : (script : Script) (desk : List DeskLine) (places : List Placed) (stream : ℕ)
    → streams_text script desk places (stream + 1) ≡ streams_text script desk places stream ++ stream_text desk places stream 0 (stream_of script stream)
unfolding streams_text
streams_text-next script desk places stream =
    let next : stream + 1 ≡ suc stream = omega arith in
    rw next refl

-- what follows the first streams
pub record Follows (script : Script) (desk : List DeskLine) (places : List Placed) (n m : ℕ) : Type 0 where
  pub more : List ℕ
  pub same : streams_text script desk places m ≡ streams_text script desk places n ++ more

pub streams_text-more : (script : Script) (desk : List DeskLine) (places : List Placed) (n m : ℕ) → n ≤ m → Follows script desk places n m
unfolding streams_text
streams_text-more script desk places n zero small =
    let same : n ≡ 0 = omega arith in
    record { more = []; same = rw same (sym (append-nil _)) }
streams_text-more script desk places n (suc m) small =
    elim (cases_eq n (suc m)) [
      | inl same ↦ record { more = []; same = rw same (sym (append-nil _)) }
      | inr other ↦
          let before = streams_text-more script desk places n m (omega arith) in
          record {
            more = before.more ++ stream_text desk places m 0 (stream_of script m);
            same = ap (λ t. t ++ stream_text desk places m 0 (stream_of script m)) before.same ∙ append_assoc _ before.more _;
          }
    ]
