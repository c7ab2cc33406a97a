-- Rows that pin how a workload ends (`EndsChange` of `workload`, its parts `ServesWorkload`, `WorkloadFails` and
-- `EndsWorkload`): for each part some that it accepts, and some that break this part alone.
use Rattle.std.proofs.Common.{ℕ, ◌≡◌, ◌≢◌, true, false, List, [], ◌∷◌, replicate, length, take, Option, Some, None, refl, ap, inl, inr, arith}
use Rattle.blk_base.specs.declared.opened.Opened.{Opened}
use Rattle.blk_base.specs.declared.request.Answer.TheVariants as reply
use Rattle.blk_base.specs.declared.request.Request.TheVariants as request
use Rattle.blk_base.specs.Sectors.{filled_block}
use Rattle.command_text.specs.Workloads.{summary_text}
use Rattle.disk_model.specs.Numbers.{next_state, number_in}
use Rattle.disk_model.specs.Seen.{Seen}
use Rattle.disk_model.specs.Trust.{trust_of}
use Rattle.disk_model.specs.Streams.{SourceSeen}
use Rattle.disk_model.proofs.StreamExample.{sink}
use Rattle.image_model.specs.declared.fault.ImageFault.TheVariants as image
use Rattle.image_layout.specs.declared.fault.SuperFault.TheVariants.{NotAnImage}
use Rattle.rebuild.specs.declared.forms.Recovered.{Recovered}
use Rattle.vdo_model.specs.Scripts.{Script, stream_of}
use Rattle.vdo_model.specs.declared.report.DeskLine.TheVariants.{Answer, Begin}
use Rattle.vdo_model.specs.declared.report.RunReport.{RunReport}
use Rattle.vdo_model.proofs.Example.{of_a}
use Rattle.vdo_cli.specs.declared.fault.Fault.{Fault}
use Rattle.vdo_cli.specs.declared.fault.Fault.TheVariants as fault
use Rattle.vdo_cli.specs.declared.words.Change.TheVariants as change
use Rattle.vdo_cli.specs.Closings.{PutsWith}
use Rattle.vdo_cli.specs.Endings.{ServesRequests}
use Rattle.vdo_cli.specs.Inspections.{told_as}
use Rattle.vdo_cli.specs.Openings.{IsReady, recovered_of}
use Rattle.vdo_cli.specs.Outsides.{Outside, no_report, outside}
use Rattle.vdo_cli.specs.Texts.{fault_text, served_status, struck_status}
use Rattle.vdo_cli.specs.Workloads.{ServesWorkload, WorkloadFails, requests_for, summary_of}
use Rattle.vdo_cli.proofs.CommandPins.{draws}
use Rattle.vdo_cli.proofs.EmptyScript.{empty_report, usual}
use Rattle.vdo_cli.proofs.PlayPins.{device, source, bare, begins, no_image}
use Rattle.vdo_cli.proofs.RecoveryPins.{refused}
use Rattle.vdo_cli.proofs.RunPins.{Changes, some_report, status_by}

-- requests_for: those of the seed, the streams, the logical size, and so many
drawn_of_0 : requests_for (draws 2 2) 1000 ≡ (request.Discard (record { 0 = 424 }) ∷ []) ∷ (request.Write (record { 0 = 236 }) (filled_block 13) false ∷ []) ∷ replicate 14 []
unfolding next_state number_in
drawn_of_0 = refl

drawn_of_another_size : requests_for (draws 1 2) 100 ≡ (request.Discard (record { 0 = 24 }) ∷ []) ∷ replicate 15 []
unfolding next_state number_in
drawn_of_another_size = refl

-- summary_of: the number of requests is that of the options, and the answers are those of the report
abbrev answered : RunReport
answered = record empty_report { used = 2; total = 64; desk = Answer (of_a 1) reply.Full ∷ Begin (of_a 1) ∷ Answer (of_a 0) (reply.Bytes (1 ∷ 2 ∷ [])) ∷ Begin (of_a 0) ∷ [] }

summed_up : summary_of (Some 30) (draws 2 4) answered ≡ record { recovered = Some 30; requests = 2; tally = record { ok = 1; no_space = 1; read_sum = 3 }; space = Some (record { used = 2; total = 64 }) }
summed_up = refl

summed_up_clean : summary_of None (draws 5 4) empty_report ≡ record { recovered = None; requests = 5; tally = record { ok = 0; no_space = 0; read_sum = 0 }; space = Some (record { used = 0; total = 0 }) }
summed_up_clean = refl

-- A session was served: its summary was put, with the status of damage or of a device that failed, or that of its answers;
abbrev summary : Recovered → RunReport → List ℕ
summary found report = summary_text (summary_of (recovered_of found) (draws 1 4) report)

module _ (found : Recovered) (report : RunReport) (before after : Seen) (left : List ℕ) (worked : ServesWorkload (trust_of true false) (draws 1 4) found report before after) where
  served-whole : Changes (change.Workload (draws 1 4)) (outside before (source left 0) (sink [] 0)) (outside after (source left 0) (sink (summary found report) 0))
      (status_by (struck_status report) (served_status report.desk)) report None
  served-whole = record {
    ends = record { found = found; session = worked; closes = both (struck_status report) (summary found report) (served_status report.desk) };
    source = refl;
  }
    where
      both : (struck : Option ℕ) (text : List ℕ) (status : ℕ) → PutsWith struck true text status (status_by struck status) (sink [] 0) (sink text 0)
      both (Some struck) text status = (refl, inl (λ told. refl))
      both None text status = (refl, λ told. refl)

  -- or a first part of it, where the sink failed
  sink-failed : (n : ℕ) → struck_status report ≡ None
      → Changes (change.Workload (draws 1 4)) (outside before (source left 0) (sink [] 0)) (outside after (source left 0) (sink (take n (summary found report)) 1)) 7 report (Some fault.Sink)
  sink-failed n none = record { ends = record { found = found; session = worked; closes = (refl, none, omega arith, λ told. (n, refl)) }; source = refl }

-- ServesWorkload: the requests are those of the seed
module _ (start : Opened) (found : Recovered) (report : RunReport) (before after : Seen) where
  serves-so : ServesRequests (trust_of true false) (usual 0) found start report before after → report.requests ≡ requests_for (draws 1 4) start.head.geometry.logical
      → ServesWorkload (trust_of true false) (draws 1 4) found report before after
  serves-so serves requests_are = record { start = start; serves = serves; requests_are = requests_are }

-- how many the first stream has, and the second
abbrev in_stream : ℕ → Script → ℕ
in_stream stream script = length (stream_of script stream)

serves-not_other_requests : (before after : Seen) (found : Recovered) → ServesWorkload (trust_of true false) (draws 1 4) found empty_report before after → ⊥
serves-not_other_requests before after found worked = let many = ap (in_stream 0) worked.requests_are in omega (arith, many)

serves-not_of_one_stream : (before after : Seen) (found : Recovered) (report : RunReport) → in_stream 1 report.requests ≡ 0 → ServesWorkload (trust_of true false) (draws 2 2) found report before after → ⊥
serves-not_of_one_stream before after found report none worked = let many = ap (in_stream 1) worked.requests_are in omega (arith, many, none)

-- its device has its opening blocks and its size
serves-not_of_another_size : (found : Recovered) (report : RunReport) → ServesWorkload (trust_of true false) (draws 1 4) found report (device ([] ∷ []) [] 0 0) (device [] [] 0 0) → ⊥
serves-not_of_another_size found report worked = omega (arith, worked.serves.stays.size)

-- The status is that of the answers, or 7 where the sink failed, whose count rose then; another text isn't put
served-not_another_status : (after : Outside) → Changes (change.Workload (draws 1 4)) begins after 1 no_report None → ⊥
served-not_another_status after ends = omega (arith, ends.ends.closes.0)

sink-not_another_status : (after : Outside) → Changes (change.Workload (draws 1 4)) begins after 0 no_report (Some fault.Sink) → ⊥
sink-not_another_status after ends = omega (arith, ends.ends.closes.0)

sink-not_without_rise : (held : List ℕ) → Changes (change.Workload (draws 1 4)) begins (bare [] (7 ∷ []) held 0) 7 no_report (Some fault.Sink) → ⊥
sink-not_without_rise held ends = omega (arith, ends.ends.closes.2)

served-not_silent : Changes (change.Workload (draws 1 4)) begins begins 0 no_report None → ⊥
served-not_silent ends = by_recovered (recovered_of ends.ends.found) (ends.ends.closes.1 refl)
  where
    by_recovered : (recovered : Option ℕ) → [] ≡ summary_text (summary_of recovered (draws 1 4) no_report) → ⊥
    by_recovered None put = absurd (cc put)
    by_recovered (Some count) put = absurd (cc put)

-- The script isn't looked at
source-not_taken : (held : List ℕ) (status : ℕ) (report : RunReport) (ended : Option Fault) → Changes (change.Workload (draws 1 4)) begins (bare [] [] held 0) status report ended → ⊥
source-not_taken held status report ended ends = let same = ap (λ (s : SourceSeen). length s.left) ends.source in omega (arith, same)

-- No session was begun: the device has no image, and the fault's line was put, with its status
not_begun-told : Changes (change.Workload (draws 1 4)) begins (bare [] (7 ∷ []) (fault_text no_image) 0) 4 no_report (Some no_image)
not_begun-told = record {
  ends = record {
    recovered = None;
    cause = inl (record { cause = image.Super NotAnImage; fault_is = refl; unready = inl (record { none = refl; recovery = refused }) });
    early = λ blocks is. let fair = is.fair in absurd cc;
    refuses = record { status_is = refl; report_is = refl; puts = inl (λ told. refl) };
  };
  source = refl;
}

not_begun-not_another_status : (after : Outside) → Changes (change.Workload (draws 1 4)) begins after 3 no_report (Some no_image) → ⊥
not_begun-not_another_status after ends = omega (arith, ends.ends.refuses.status_is)

not_begun-not_reported : (after : Outside) → Changes (change.Workload (draws 1 4)) begins after 4 some_report (Some no_image) → ⊥
not_begun-not_reported after ends = let same = ap (λ (report : RunReport). length report.requests) ends.ends.refuses.report_is in omega (arith, same)

-- or it was opened, and memory ran out; and not another fault of what is no image
module _ (before after : Seen) (found : Recovered) (start : Opened) (ready : IsReady (trust_of true false) before after found start) where
  lacks-memory : WorkloadFails (trust_of true false) before after (recovered_of found) fault.Memory
  lacks-memory = inr (record { found = found; recovered_is = refl; start = start; ready = ready; fault_is = refl })

fails-not_by_the_source : (before after : Seen) (recovered : Option ℕ) → ((cause : _) → fault.Read ≢ told_as cause) → WorkloadFails (trust_of true false) before after recovered fault.Read → ⊥
fails-not_by_the_source before after recovered never (inl unready) = never unready.cause unready.fault_is
fails-not_by_the_source before after recovered never (inr lacks) = absurd (let is = lacks.fault_is in cc is)
