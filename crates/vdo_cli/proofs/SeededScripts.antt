-- The requests of a seed are a whole script.
use Rattle.std.proofs.Common.{ℕ, zero, suc, ◌≡◌, ◌%◌, ◌<◌, ◌≤◌, ◌==◌, ◌&&◌, Bool, true, false, nat_lt, [], ◌∷◌, length, if◌then◌else◌, refl, ◌∙◌, arith}
use Rattle.std.proofs.Math.Nat.{mod-lt}
use Rattle.blk_base.specs.declared.request.Request.TheVariants.{Read, Discard, Flush}
use Rattle.blk_base.proofs.SectorLaws.{filled_size}
use Rattle.disk_model.specs.Numbers.{next_state, number_in}
use Rattle.stream_text.proofs.StreamLaws.{count-more, rows-kept}
use Rattle.stream_text.proofs.WholeBlockLaws.{rows-with}
use Rattle.stream_text.specs.ReadingBytes.{EachRequest, IsWholeScript}
use Rattle.stream_text.specs.StreamRequests.{count_of}
use Rattle.stream_text.specs.Workloads.{drawn_block, drawn_kind, drawn_request, drawn_write, state_before, workload_of}
use Rattle.stream_text.specs.declared.random_requests.Drawn.{Drawn}
use Rattle.vdo_model.specs.Scripts.{Script, IsServed}
use Rattle.vdo_words.specs.declared.commands.WorkloadOptions.{WorkloadOptions}
use Rattle.vdo_cli.specs.Commands.{IsWorkload}
use Rattle.vdo_cli.specs.Workloads.{requests_for}

-- a request that was drawn has a whole block where it writes
abbrev IsWhole : Drawn → Type 0
IsWhole drawn = IsServed drawn.request

either : (b : Bool) (x y : Drawn) → IsWhole x → IsWhole y → IsWhole (if b then x else y)
either true x y first second = first
either false x y first second = second

kind_whole : (kind address x : ℕ) → IsWhole (drawn_kind kind address x)
kind_whole kind address x =
    either (nat_lt kind 4) (drawn_write address x) _ (filled_size _, refl)
    (either (nat_lt kind 7) (record { state = x; request = Read (record { 0 = address }) }) (record { state = x; request = Discard (record { 0 = address }) }) tt tt)

request_whole : (logical i x : ℕ) → IsWhole (drawn_request logical i x)
request_whole logical i x =
    either (nat_lt 0 i && (i % 64 == 0)) (record { state = x; request = Flush }) (drawn_block logical x) tt
    (kind_whole (number_in (next_state x) % 8) (number_in (next_state (next_state x)) % logical) (next_state (next_state x)))

module _ (seed streams logical : ℕ) where
  abbrev first : ℕ → Script
  first n = workload_of seed streams logical n

  sixteen : (n : ℕ) → length (first n) ≡ 16
  sixteen zero = refl
  sixteen (suc i) = rows-kept (first i) (i % streams) _ ∙ sixteen i

  all_whole : (n : ℕ) → EachRequest IsServed (first n)
  all_whole zero = (tt, (tt, (tt, (tt, (tt, (tt, (tt, (tt, (tt, (tt, (tt, (tt, (tt, (tt, (tt, (tt, tt))))))))))))))))
  all_whole (suc i) =
      rows-with IsServed (first i) (i % streams) ((drawn_request logical i (state_before logical seed i)).request ∷ []) (all_whole i)
      (request_whole logical i (state_before logical seed i), tt)

  so_many : 1 ≤ streams → streams ≤ 16 → (n : ℕ) → count_of (first n) ≡ n
  so_many some few zero = refl
  so_many some few (suc i) =
      let rows = sixteen i in
      let dealt : i % streams < streams = mod-lt i (omega (arith, some)) in
      let more = count-more (first i) (i % streams) ((drawn_request logical i (state_before logical seed i)).request ∷ []) (omega (arith, dealt, few, rows)) in
      omega (arith, more, so_many some few i)

pub whole_workload : (options : WorkloadOptions) (logical : ℕ) → IsWorkload options → IsWholeScript (requests_for options logical)
whole_workload options logical within = record {
  rows = sixteen options.seed options.streams logical options.requests;
  few = let all = so_many options.seed options.streams logical within.one within.streams options.requests in omega (arith, all, within.few);
  writes = all_whole options.seed options.streams logical options.requests;
}
