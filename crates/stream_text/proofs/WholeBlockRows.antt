-- Scripts of requests with whole blocks: for each rule a case that it takes and one that it refuses.
use Rattle.std.specs.Prelude.{ℕ, zero, suc, List, [], ◌∷◌, replicate, codes, refl}
use Rattle.std.proofs.Common.{arith}
use Rattle.std.proofs.lemmas.List.{length-replicate}
use Rattle.blk_base.specs.declared.request.Request.{Request}
use Rattle.blk_base.specs.declared.request.Request.TheVariants.{Discard, Flush}
use Rattle.vdo_model.proofs.ScriptRows.{short_write, whole_write, zeros}
use Rattle.vdo_model.specs.Scripts.{Script, IsServed}
use Rattle.stream_text.specs.StreamRequests.{no_requests, with_requests}
use Rattle.stream_text.specs.ReadingBytes.{EachRequest, IsReadingBytes, IsWholeScript}
use Rattle.stream_text.proofs.StreamLaws.{count-more, rows-kept}
use Rattle.stream_text.proofs.WholeBlockLaws.{rows-with}

pub each_flush : EachRequest IsServed ((Flush ∷ []) ∷ (Flush ∷ Flush ∷ []) ∷ [])
each_flush = ((tt, tt), ((tt, (tt, tt)), tt))

-- the last request of the last stream
pub each_but_one : EachRequest IsServed ((Flush ∷ []) ∷ (Flush ∷ zeros 4095 ∷ []) ∷ []) → ⊥
each_but_one each = short_write each.1.0.1.0

each_of_none : (P : Request → Type 0) (n : ℕ) → EachRequest P (replicate n [])
each_of_none P zero = tt
each_of_none P (suc n) = (tt, each_of_none P n)

-- the last stream has these requests
abbrev pub last_stream : List Request → Script
last_stream requests = with_requests no_requests 15 requests

last_each : (P : Request → Type 0) (request : Request) → P request → EachRequest P (last_stream (request ∷ []))
last_each P request is = rows-with P no_requests 15 (request ∷ []) (each_of_none P 16) (is, tt)

pub whole_script_is : IsWholeScript (last_stream (zeros 4096 ∷ []))
whole_script_is = record {
  rows = rows-kept no_requests 15 (zeros 4096 ∷ []);
  few = omega (arith, count-more no_requests 15 (zeros 4096 ∷ []) (omega arith));
  writes = last_each IsServed (zeros 4096) whole_write;
}

pub fifteen_streams : IsWholeScript (replicate 15 []) → ⊥
fifteen_streams whole = absurd (omega (arith, whole.rows))

pub many_requests : IsWholeScript (last_stream (replicate 65537 Flush)) → ⊥
many_requests whole = absurd (omega (arith, whole.few, count-more no_requests 15 (replicate 65537 Flush) (omega arith), length-replicate 65537 Flush))

pub short_in_script : IsWholeScript (last_stream (zeros 4095 ∷ [])) → ⊥
short_in_script whole = short_write whole.writes.1.1.1.1.1.1.1.1.1.1.1.1.1.1.1.0.0

-- a script that was read up to a discard
pub reading_discard : IsReadingBytes 1 2 14 (last_stream (Discard (record { 0 = 5 }) ∷ [])) (codes "0 f")
reading_discard = record {
  rows = rows-kept no_requests 15 (Discard (record { 0 = 5 }) ∷ []);
  counted = refl;
  few = omega arith;
  short = omega arith;
  one_line = ((λ e. absurd (omega (arith, e))), ((λ e. absurd (omega (arith, e))), ((λ e. absurd (omega (arith, e))), tt)));
  within = omega arith;
  numbered = omega arith;
  writes = last_each IsServed (Discard (record { 0 = 5 })) tt;
}

pub reading_short : IsReadingBytes 1 2 14 (last_stream (zeros 4095 ∷ [])) (codes "0 f") → ⊥
reading_short is = short_write is.writes.1.1.1.1.1.1.1.1.1.1.1.1.1.1.1.0.0
