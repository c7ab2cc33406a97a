-- A text that is put piece by piece.
use Rattle.std.specs.Prelude.{ℕ, ◌≡◌, ◌<◌, ◌+◌, ◌≤◌, suc, min, Bool, IsTrue, List, [], ◌++◌, length, get_or, map, take, drop, Result, Ok, Err, refl}
use Rattle.std.specs.List.{concat}
use Rattle.std.proofs.Common.{sym, ◌∙◌, ap, arith, inl, inr}
use Rattle.std.proofs.lemmas.Bool.{cases_lt}
use Rattle.std.proofs.lemmas.List.{append_assoc, append-nil, take-append-le, take_all}
use Rattle.std.proofs.Math.Seq.{drop-cons, take-append-add, take-append_seam}
use Rattle.disk_model.specs.Streams.{Puts, PutsPart, SinkSeen}
use Rattle.stream_text.specs.Collected.{PutsFront}

take_first : (first second : List ℕ) (n : ℕ) → take (min n (length first)) (first ++ second) ≡ take n first
take_first first second n =
    elim (cases_lt (length first) n) [
      | inl longer ↦
          let m : min n (length first) ≡ length first = omega arith in
          ap (λ (k : ℕ). take k (first ++ second)) m ∙ take-append_seam first second ∙ sym (take_all n first (omega arith))
      | inr shorter ↦
          let m : min n (length first) ≡ n = omega arith in
          ap (λ (k : ℕ). take k (first ++ second)) m ∙ take-append-le n first second shorter
    ]

-- the first of two pieces was put in part
part_of_first : (old new first second : List ℕ) → PutsPart old new first → PutsPart old new (first ++ second)
part_of_first old new first second part =
    (min part.0 (length first), part.1 ∙ ap (λ t. old ++ t) (sym (take_first first second part.0)))

-- the first of two pieces was put, and the second in part
part_of_second : (old mid new first second : List ℕ) → mid ≡ old ++ first → PutsPart mid new second → PutsPart old new (first ++ second)
part_of_second old mid new first second whole part = (
  length first + part.0,
  part.1 ∙ ap (λ t. t ++ take part.0 second) whole ∙ append_assoc old first (take part.0 second)
      ∙ ap (λ t. old ++ t) (sym (take-append-add first second part.0)),
)

-- two pieces were put
both_pieces : (old mid new first second : List ℕ) → mid ≡ old ++ first → new ≡ mid ++ second → new ≡ old ++ (first ++ second)
both_pieces old mid new first second one two = two ∙ ap (λ t. t ++ second) one ∙ append_assoc old first second

-- a text was put to its end, by some calls
pub record HasPut (tells : Bool) (text : List ℕ) (before now : SinkSeen) : Type 0 where
  pub held : IsTrue tells → now.held ≡ before.held ++ text
  pub later : before.faults ≤ now.faults

pub put-none : {tells : Bool} {sink : SinkSeen} → HasPut tells [] sink sink
put-none = record { held = λ told. sym (append-nil _); later = omega arith }

pub put-next : {T E : Type 0} {tells : Bool} {done first : List ℕ} {before mid after : SinkSeen} {x : T}
    → HasPut tells done before mid → Puts {T = T} {E = E} tells first mid after (Ok x) → HasPut tells (done ++ first) before after
put-next has puts = record {
  held = λ told. both_pieces _ _ _ _ _ (has.held told) (puts.ok told);
  later = omega (arith, has.later, puts.cause.later);
}

-- a call that put all of a text
pub put-first : {T E : Type 0} {tells : Bool} {first : List ℕ} {before after : SinkSeen} {x : T}
    → Puts {T = T} {E = E} tells first before after (Ok x) → HasPut tells first before after
put-first puts = record { held = puts.ok; later = puts.cause.later }

-- the whole text is there
pub put-all : {E : Type 0} {tells : Bool} {text : List ℕ} {before now : SinkSeen}
    → HasPut tells text before now → Puts {T = Unit {0}} {E = E} tells text before now (Ok tt)
put-all has = record { ok = has.held; err = λ told. tt; cause = record { later = has.later; failed = tt } }

-- the rest of a text was put, or the sink failed
pub put-last : {T E : Type 0} {tells : Bool} {done last : List ℕ} {before mid after : SinkSeen} {result : Result T E}
    → HasPut tells done before mid → Puts tells last mid after result → Puts tells (done ++ last) before after result
put-last {result = Ok x} has puts = record {
  ok = λ told. both_pieces _ _ _ _ _ (has.held told) (puts.ok told);
  err = λ told. tt;
  cause = record { later = omega (arith, has.later, puts.cause.later); failed = tt };
}
put-last {result = Err e} has puts = record {
  ok = λ told. tt;
  err = λ told. part_of_second _ _ _ _ _ (has.held told) (puts.err told);
  cause = record { later = omega (arith, has.later, puts.cause.later); failed = omega (arith, has.later, puts.cause.failed) };
}

-- nothing was there to be put
pub put-nothing : {E : Type 0} {tells : Bool} {text : List ℕ} {sink : SinkSeen} → text ≡ []
    → Puts {T = Unit {0}} {E = E} tells text sink sink (Ok tt)
put-nothing none = rw none (put-all put-none)

-- a call failed that put the first of a text
pub put-part : {T E : Type 0} {tells : Bool} {first : List ℕ} {before after : SinkSeen} {e : E} (more : List ℕ)
    → Puts {T = T} tells first before after (Err e) → Puts {T = T} tells (first ++ more) before after (Err e)
put-part more puts = record {
  ok = λ told. tt;
  err = λ told. part_of_first _ _ _ more (puts.err told);
  cause = puts.cause;
}

-- its error was passed on
pub put-err : {T T' E E' : Type 0} {tells : Bool} {text : List ℕ} {before after : SinkSeen} {e : E'} {y : E} {result : Result T E}
    → result ≡ Err y → Puts {T = T'} tells text before after (Err e) → Puts tells text before after result
put-err is puts = rw is (record {
  ok = λ told. tt;
  err = puts.err;
  cause = record { later = puts.cause.later; failed = puts.cause.failed };
})

-- both
pub put-failed : {T T' E E' : Type 0} {tells : Bool} {first : List ℕ} {before after : SinkSeen} {e : E'} {y : E} {result : Result T E}
    (more : List ℕ) → result ≡ Err y → Puts {T = T'} tells first before after (Err e) → Puts tells (first ++ more) before after result
put-failed more is puts = put-err is (put-part more puts)

-- a text under another name
pub puts-same : {T E : Type 0} {tells : Bool} {text said : List ℕ} {before after : SinkSeen} {result : Result T E}
    → text ≡ said → Puts tells text before after result → Puts tells said before after result
puts-same same puts = rw (← same) puts

-- all of a text but this rest was put
pub record PutsBut (tells : Bool) (text rest : List ℕ) (before now : SinkSeen) : Type 0 where
  pub done : List ℕ
  pub put : HasPut tells done before now
  pub same : text ≡ done ++ rest

pub but-all : {tells : Bool} {text : List ℕ} {sink : SinkSeen} → PutsBut tells text text sink sink
but-all = record { done = []; put = put-none; same = refl }

pub but-next : {T E : Type 0} {tells : Bool} {text first more rest : List ℕ} {before mid after : SinkSeen} {x : T}
    → rest ≡ first ++ more → PutsBut tells text rest before mid → Puts {T = T} {E = E} tells first mid after (Ok x)
    → PutsBut tells text more before after
but-next next but puts = record {
  done = but.done ++ _;
  put = put-next but.put puts;
  same = but.same ∙ ap (λ t. but.done ++ t) next ∙ sym (append_assoc but.done _ _);
}

pub but-failed : {T T' E E' : Type 0} {tells : Bool} {text first rest : List ℕ} {before mid after : SinkSeen} {e : E'} {y : E}
    {result : Result T E} (more : List ℕ) → rest ≡ first ++ more → result ≡ Err y → PutsBut tells text rest before mid
    → Puts {T = T'} tells first mid after (Err e) → Puts tells text before after result
but-failed more next is but puts =
    rw (but.same, next, ← append_assoc but.done _ _) (put-failed more is (put-last but.put puts))

pub but-none : {E : Type 0} {tells : Bool} {text rest : List ℕ} {before now : SinkSeen} → rest ≡ [] → PutsBut tells text rest before now
    → Puts {T = Unit {0}} {E = E} tells text before now (Ok tt)
but-none none but = rw (but.same, none, append-nil but.done) (put-all but.put)

-- the last of it was put, or the sink failed
pub but-last : {T E : Type 0} {tells : Bool} {text last rest : List ℕ} {before mid after : SinkSeen} {result : Result T E}
    → rest ≡ last → PutsBut tells text rest before mid → Puts tells last mid after result → Puts tells text before after result
but-last is but puts = rw (but.same, is) (put-last but.put puts)

-- the front of what is collected was put
pub but-front : {T E : Type 0} {tells : Bool} {text old new : List ℕ} {before mid after : SinkSeen} {x : T}
    → (more : List ℕ) → PutsBut tells text (old ++ more) before mid → PutsFront {T = T} {E = E} tells old new mid after (Ok x)
    → PutsBut tells text (new ++ more) before after
but-front more but front =
    but-next (ap (λ t. t ++ more) front.same ∙ append_assoc front.front front.rest more ∙ ap (λ t. front.front ++ (t ++ more)) (sym front.kept)) but front.puts

-- or the sink failed at it
pub front-failed : {T T' E E' : Type 0} {tells : Bool} {text old new : List ℕ} {before mid after : SinkSeen} {e : E'} {y : E}
    {result : Result T E} (more : List ℕ) → result ≡ Err y → PutsBut tells text (old ++ more) before mid
    → PutsFront {T = T'} tells old new mid after (Err e) → Puts tells text before after result
front-failed more is but front =
    but-failed (front.rest ++ more) (ap (λ t. t ++ more) front.same ∙ append_assoc front.front front.rest more) is but front.puts

-- the next of some pieces
pub pieces-next : {T : Type 0} (text : T → List ℕ) (pieces : List T) (n : ℕ) (piece : T) → n < length pieces
    → concat (map text (drop n pieces)) ≡ text (get_or pieces n piece) ++ concat (map text (drop (n + 1) pieces))
pieces-next text pieces n piece within =
    let next : suc n ≡ n + 1 = omega arith in
    ap (λ t. concat (map text t)) (drop-cons pieces n piece within)
    ∙ ap (λ (k : ℕ). text (get_or pieces n piece) ++ concat (map text (drop k pieces))) next

-- the texts that are put as some pieces, of which those of numbers are known by what they write
pub command_pieces : (command address space : List ℕ) (digits : List ℕ) → address ≡ digits
    → command ++ (address ++ (space ++ [])) ≡ command ++ digits ++ space
command_pieces command address space digits same = rw same (simp (append_assoc, append-nil) refl)

pub name_pieces : (one space two last : List ℕ) (stream number : List ℕ) → one ≡ stream → two ≡ number
    → one ++ (space ++ (two ++ (last ++ []))) ≡ stream ++ space ++ number ++ last
name_pieces one space two last stream number first second = rw (first, second) (simp (append_assoc, append-nil) refl)

pub place_pieces : (before one between two end : List ℕ) (zone place : List ℕ) → one ≡ zone → two ≡ place
    → before ++ (one ++ (between ++ (two ++ (end ++ [])))) ≡ before ++ zone ++ between ++ place ++ end
place_pieces before one between two end zone place first second = rw (first, second) (simp (append_assoc, append-nil) refl)

pub run_pieces : (before count times byte : List ℕ) (number digits : List ℕ) → count ≡ number → byte ≡ digits
    → before ++ (count ++ (times ++ (byte ++ []))) ≡ before ++ (number ++ times ++ digits)
run_pieces before count times byte number digits first second = rw (first, second) (simp (append_assoc, append-nil) refl)

pub line_pieces : (name request space answer place end : List ℕ)
    → name ++ (request ++ space) ++ answer ++ (place ++ end) ≡ name ++ request ++ space ++ answer ++ place ++ end
line_pieces name request space answer place end = simp append_assoc refl
