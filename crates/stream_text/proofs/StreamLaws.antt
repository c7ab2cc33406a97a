-- A request more of a stream.
use Rattle.std.specs.Prelude.{ℕ, ◌≡◌, ◌<◌, ◌≤◌, ◌+◌, ◌-◌, nat_le, true, false, Result, Ok, Err, OnErr, zero, suc, List, [], ◌∷◌, ◌++◌, length, map, get_or, set, refl}
use Rattle.std.proofs.Common.{sym, ◌∙◌, ap, arith}
use Rattle.std.proofs.lemmas.List.{map-set, get_or_default, append_assoc, append-nil, length-append, length-set, get_or-set_same, set-get_or, set-set}
use Rattle.std.proofs.Math.ListN.{get_or-map}
use Rattle.std.proofs.Math.Seq.{map-set_same}
use Rattle.blk_base.specs.declared.request.Request.{Request}
use Rattle.vdo_model.specs.Scripts.{Script}
use Rattle.stream_text.specs.StreamRequests.{count_of, counted, discards, requests_of, with_asked, with_requests}
use Rattle.stream_text.specs.LineGrammar.{stream_asked}
use Rattle.stream_text.specs.ReadingBytes.{IsAdded}
use Rattle.stream_text.specs.declared.asked.Asked.{Asked}
use Rattle.stream_text.specs.declared.asked.Asked.TheVariants.{Discards}
use Rattle.stream_text.specs.declared.refusal.LineFault.TheVariants.{TooMany}
use Rattle.std.proofs.lemmas.Bool.Decides.{nat_tests}
use Rattle.blk_base.specs.declared.request.Request.TheVariants.{Discard}

-- what holds anyway holds where a call failed
pub on_err : {T E : Type 0} (result : Result T E) (P : Type 0) → P → OnErr result P
on_err (Ok x) P p = tt
on_err (Err e) P p = p

-- a row that is put back with one request more
pub pushed : {Row : Type 0} (items : Row → List Request) (rows : List Row) (script : Script) (stream : ℕ) (old new : Row) (request : Request)
    → map items rows ≡ script → stream < length script → old ≡ get_or rows stream old → items new ≡ items old ++ request ∷ []
    → map items (set rows stream new) ≡ with_requests script stream (request ∷ [])
pushed {Row} items rows script stream old new request view within there more =
    let row : items old ≡ get_or script stream [] =
    ap items there ∙ sym (get_or-map items rows stream old) ∙ ap (λ (s : Script). get_or s stream (items old)) view ∙ get_or_default script stream (items old) [] within in
    map-set items rows stream new
    ∙ ap (λ (s : Script). set s stream (items new)) view
    ∙ ap (set script stream) (more ∙ ap (λ (r : List Request). r ++ request ∷ []) row)

-- a row that is put back as it was
pub unchanged : {Row : Type 0} (items : Row → List Request) (rows : List Row) (script : Script) (stream : ℕ) (old new : Row)
    → map items rows ≡ script → old ≡ get_or rows stream old → items new ≡ items old → map items (set rows stream new) ≡ script
unchanged items rows script stream old new view there same = map-set_same items rows stream new old (same ∙ ap items there) ∙ view

-- nothing more
pub more-none : (script : Script) (stream : ℕ) → with_requests script stream [] ≡ script
more-none script stream = ap (set script stream) (append-nil (get_or script stream [])) ∙ set-get_or script stream []

-- some requests, and then some more
pub more-more : (script : Script) (stream : ℕ) (some more : List Request) → stream < length script
    → with_requests (with_requests script stream some) stream more ≡ with_requests script stream (some ++ more)
more-more script stream some more within =
    ap (λ (r : List Request). set (with_requests script stream some) stream (r ++ more)) (get_or-set_same script stream (get_or script stream [] ++ some) [] within)
    ∙ set-set script stream (get_or script stream [] ++ some) ((get_or script stream [] ++ some) ++ more)
    ∙ ap (set script stream) (append_assoc (get_or script stream []) some more)

pub rows-kept : (script : Script) (stream : ℕ) (more : List Request) → length (with_requests script stream more) ≡ length script
rows-kept script stream more = length-set script stream (get_or script stream [] ++ more)

-- one discard more
pub discards-next : (at count : ℕ) → discards at (count + 1) ≡ discards at count ++ Discard (record { 0 = at + count }) ∷ []
discards-next at zero = let same : at + 0 ≡ at = omega arith in rw same refl
discards-next at (suc count) =
    let place : at + 1 + count ≡ at + suc count = omega arith in
    let more : suc count + 1 ≡ suc (count + 1) = omega arith in
    ap (discards at) more
    ∙ ap (λ (r : List Request). Discard (record { 0 = at }) ∷ r) (discards-next (at + 1) count
    ∙ ap (λ (n : ℕ). discards (at + 1) count ++ Discard (record { 0 = n }) ∷ []) place)

pub length-discards : (at count : ℕ) → length (discards at count) ≡ count
length-discards at zero = refl
length-discards at (suc count) = omega (arith, length-discards (at + 1) count)

-- how many requests there are then
pub count-more : (script : Script) (stream : ℕ) (more : List Request) → stream < length script → count_of (with_requests script stream more) ≡ count_of script + length more
count-more [] stream more within = absurd (omega arith)
count-more (row ∷ rows) zero more within = omega (arith, length-append row more)
count-more (row ∷ rows) (suc stream) more within = omega (arith, count-more rows stream more (omega arith))

-- too many requests
pub counted-many : (script : Script) (stream : ℕ) (more : List Request) → stream < length script → 65536 < count_of script + length more
    → counted (with_requests script stream more) ≡ Err TooMany
counted-many script stream more within many =
    let count = count-more script stream more within in
    let test : nat_le (count_of (with_requests script stream more)) 65536 ≡ false = grind (arith, nat_tests) in
    rw test refl

-- not too many
pub counted-few : (script : Script) (stream : ℕ) (more : List Request) → stream < length script → count_of script + length more ≤ 65536
    → counted (with_requests script stream more) ≡ Ok (with_requests script stream more)
counted-few script stream more within few =
    let count = count-more script stream more within in
    let test : nat_le (count_of (with_requests script stream more)) 65536 ≡ true = grind (arith, nat_tests) in
    rw test refl

-- how many discards a line asks for
pub asked-discards : (asked : Asked) (stream at last n : ℕ) → asked ≡ Discards stream at last → n ≡ last - at → n + 1 ≡ length (requests_of asked)
asked-discards asked stream at last n is same = rw is (omega (arith, same, length-discards at (last - at + 1)))

-- the streams have what a line asks for
pub added : (script new : Script) (count more : ℕ) (asked : Asked) → stream_asked asked < length script → count ≡ count_of script
    → more ≡ length (requests_of asked) → count + more ≤ 65536 → new ≡ with_requests script (stream_asked asked) (requests_of asked)
    → IsAdded (with_asked script (Ok asked)) new (count + more)
added script new count more asked within counted size few is = record {
  same = counted-few script (stream_asked asked) (requests_of asked) within (omega arith) ∙ ap Ok (sym is);
  counted = rw is (omega (arith, count-more script (stream_asked asked) (requests_of asked) within));
  few = few;
}

-- a stream gets one discard more
pub next_discard : (script old new : Script) (stream at count : ℕ) → stream < length script → old ≡ with_requests script stream (discards at count)
    → new ≡ with_requests old stream (Discard (record { 0 = at + count }) ∷ []) → new ≡ with_requests script stream (discards at (count + 1))
next_discard script old new stream at count within before more =
    more ∙ ap (λ (s : Script). with_requests s stream (Discard (record { 0 = at + count }) ∷ [])) before
    ∙ more-more script stream (discards at count) (Discard (record { 0 = at + count }) ∷ []) within
    ∙ ap (with_requests script stream) (sym (discards-next at count))
