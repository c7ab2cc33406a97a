-- What a run leaves to the next call: whatever a stop may have left, and a device on which nothing of it is settled.
use Rattle.std.proofs.Common.{ℕ, ◌≡◌, ◌+◌, ◌≤◌, ◌<◌, ◌^◌, ◌++◌, true, false, ◌⊎◌, IsTrue, List, [], ◌∷◌, length, Option, Some, None, refl, sym, ◌∙◌, ap, subst, append_assoc, length-append, inl, inr, arith}
use Rattle.std.specs.List.{AllByRecursion}
use Rattle.blk_base.specs.declared.geometry.Geometry.{Geometry}
use Rattle.blk_base.specs.declared.opened.Opened.{Opened}
use Rattle.disk_model.specs.declared.call.Call.{Call}
use Rattle.disk_model.specs.declared.call.Call.TheVariants.{Flush}
use Rattle.disk_model.specs.Images.{HasOneImage, IsImage}
use Rattle.disk_model.specs.Log.{Blocks, block_at, settled}
use Rattle.disk_model.specs.Seen.{Seen}
use Rattle.disk_model.specs.Trust.{Trust}
use Rattle.disk_model.proofs.LookedLaws.{one_in-all}
use Rattle.disk_model.proofs.OneImageLaws.{one_image-is_image, one_image-opening, one_image-unique}
use Rattle.image_model.proofs.LookedLaws.{looked_by}
use Rattle.image_model.specs.Looked.{HasOneImageButIndex, is_looked_at, looked_in}
use Rattle.rebuild.specs.Recoveries.{IsTold}
use Rattle.rebuild.specs.declared.forms.Recovered.{Recovered}
use Rattle.core_stops.proofs.EndLaws.{before_flush}
use Rattle.core_stops.proofs.LogLaws.{parted, same_front}
use Rattle.core_stops.specs.Sequences.{CanBegin, ShowsValues, next_start}
use Rattle.vdo_cli.specs.Commands.{course_of}
use Rattle.vdo_cli.specs.declared.words.Course.{Course}
use Rattle.vdo_cli.specs.declared.fault.Fault.{Fault}
use Rattle.vdo_cli.specs.declared.fault.Fault.TheVariants as fault
use Rattle.vdo_cli.specs.declared.words.Change.{Change}
use Rattle.vdo_cli.specs.declared.words.Change.TheVariants as change
use Rattle.vdo_cli.specs.Endings.{KeepsImage, ServesRequests}
use Rattle.vdo_cli.specs.Flushes.{IsFlushed}
use Rattle.vdo_cli.specs.Onward.{GoesOn, IsJustMade, LeavesReady, LeavesRunnable, MayBegin}
use Rattle.vdo_cli.specs.Outsides.{Outcome, Outside, Setting}
use Rattle.vdo_cli.specs.Runs.{EndsChange, EndsFlushed, FlushFails, RunsScriptBy}
use Rattle.vdo_cli.specs.Workloads.{EndsWorkloadBy}
use Rattle.vdo_words.specs.declared.commands.WorkloadOptions.{WorkloadOptions}
use Rattle.vdo_cli.proofs.FlushLaws.{image_behind_failed, told_behind, told_settles}
use Rattle.vdo_cli.proofs.LandedWrites.{written_block, written_by, written_image}
use Rattle.vdo_cli.proofs.OnwardLaws.{change_goes_on}

-- of a device that is made of an image nothing else is known
pub made_told : (trust : Trust) (made : Seen) (image : Blocks) → IsTrue trust.tells → IsTrue trust.honest → HasOneImage image [] image → IsJustMade image made
    → IsTold trust made image
made_told trust made image tells fair one just = record {
  told = tells;
  fair = fair;
  one =
      subst (λ (opening : Blocks). HasOneImageButIndex opening made.log image) (sym just.0)
      (subst (λ (log : List Call). HasOneImageButIndex image log image) (sym just.1) (one_in-all (looked_in image) image [] image one));
}

-- a run may begin on a stop's image, with so many sequences left, and it is of these sizes
abbrev pub Goes : ℕ → Geometry → Blocks → Type 0
Goes left g stop = (can : CanBegin left stop) × (can.sound.head.geometry ≡ g)

stands_alone : (opening : Blocks) (log : List Call) (stop : Blocks) → IsImage opening log stop → HasOneImage stop [] stop
stands_alone opening log stop is = one_image-opening stop (λ b below. is.whole b (let size = is.size in omega (arith, size, below)))

-- which blocks are looked at is said by its sizes
looked_so : (left : ℕ) (g : Geometry) (stop : Blocks) → Goes left g stop → (b : ℕ) → looked_in stop b ≡ is_looked_at g b
looked_so left g stop (can, sizes) b = looked_by stop can.sound.head can.sound.opens.accepted b ∙ ap (λ (its : Geometry). is_looked_at its b) sizes

module _ (trust : Trust) (left : ℕ) (before : Seen) (begin : MayBegin trust (2 ^ 18 + left) before) where
  abbrev g : Geometry
  g = begin.geometry

  first : Goes (2 ^ 18 + left) g begin.image
  first = begin.each begin.image (before_flush before.opening before.log begin.image begin.stands)

  -- what there was before
  as_before : (stop : Blocks) → IsImage before.opening before.log stop → Goes left g stop
  as_before stop is =
      let goes = begin.each stop is in (
        record { whole = goes.0.whole; sound = goes.0.sound; late = let late = goes.0.late in omega (arith, late); named = goes.0.named },
        goes.1,
      )

  -- a call may begin on a device that is made of it
  made_begins : (stop : Blocks) → Goes left g stop → HasOneImage stop [] stop → (made : Seen) → IsJustMade stop made → MayBegin trust left made
  made_begins stop goes one made just =
      let told = made_told trust made stop begin.settles.told begin.settles.fair one just in
      let settles = told_settles trust made stop told in
      record {
        geometry = g;
        each = λ image is.
            let here : IsImage stop [] image =
            subst (λ (log : List Call). IsImage stop log image) just.1 (subst (λ (opening : Blocks). IsImage opening made.log image) just.0 is) in
            subst (Goes left g) (sym (one_image-unique stop [] stop image one here)) goes;
        image = stop;
        stands =
            subst (λ (opening : Blocks). IsImage opening (Flush true ∷ made.log) stop) (sym just.0)
            (subst (λ (log : List Call). IsImage stop (Flush true ∷ log) stop) (sym just.1)
            (record { size = one.size; whole = one.whole; sectors = (one_image-is_image stop [] stop one).sectors }));
        settles = settles;
      }

  -- of what is shown of a stop
  shown_goes : (opening : Blocks) (log : List Call) (most : ℕ) (stop : Blocks) (values : ℕ → List ℕ) → IsImage opening log stop
      → ShowsValues first.0.sound.head.geometry most stop values → most + left ≤ 2 ^ 54 → Goes left g stop
  shown_goes opening log most stop values is shows late = (
    record {
      whole = λ b below. is.whole b (let size = is.size in omega (arith, size, below));
      sound = shows.sound;
      late = let next = shows.next in omega (arith, next, late);
      named = subst (λ (sizes : Geometry). sizes.nonce < 2 ^ 64) (sym shows.sizes) first.0.named;
    },
    shows.sizes ∙ first.1,
  )

  -- Behind the flush.
  module _ (flushed after : Seen) (is_flushed : IsFlushed trust.tells before flushed) where
    told : IsTold trust flushed begin.image
    told = told_behind trust before flushed begin.image is_flushed begin.settles

    abbrev LeavesGood : Type 0
    LeavesGood = (later prefix : List Call) → after.log ≡ later ++ (prefix ++ flushed.log) → (stop : Blocks) → IsImage flushed.opening (prefix ++ flushed.log) stop → Goes left g stop

    -- where no session was begun
    kept_goes : KeepsImage trust flushed after → LeavesGood
    kept_goes keeps later prefix parts stop is =
        let kept = keeps begin.image told first.0.sound in
        let calls_are : kept.0 ≡ later ++ prefix = same_front kept.0 (later ++ prefix) flushed.log (sym kept.1 ∙ parts ∙ sym (append_assoc later prefix flushed.log)) in
        let shown = kept.2.0 later prefix calls_are stop is in
        shown_goes flushed.opening (prefix ++ flushed.log) (next_start begin.image first.0.sound) stop shown.0 is shown.1 (let late = first.0.late in omega (arith, late))

    module _ (outcome : Outcome) (enough : 2 ^ 20 ≤ 2 ^ 18 + left) where
      -- where one was served
      session_goes : (course : Course) (found : Recovered) (start : Opened) → ServesRequests trust course found start outcome.report flushed after → LeavesGood
      session_goes course found start session later prefix parts stop is =
          let late = first.0.late in
          let right = session.stops begin.image told first.0.sound (omega (arith, late, enough)) in
          let shown = right later prefix parts stop is in
          shown_goes flushed.opening (prefix ++ flushed.log) (next_start begin.image first.0.sound + 2 ^ 18) stop shown.0 is shown.1 (omega (arith, late))

module _ (s : Setting) (left : ℕ) (before after : Outside) (outcome : Outcome) (begin : MayBegin s.device (2 ^ 18 + left) before.device) (enough : 2 ^ 20 ≤ 2 ^ 18 + left) where
  abbrev Good : Seen → Type 0
  Good flushed =
      (later prefix : List Call) → after.device.log ≡ later ++ (prefix ++ flushed.log) → (stop : Blocks) → IsImage flushed.opening (prefix ++ flushed.log) stop
      → Goes left begin.geometry stop

  -- of a script
  script_goes : (course : Course) (flushed : Seen) → IsFlushed s.device.tells before.device flushed → (ended : Option Fault)
      → RunsScriptBy ended s course (record before { device = flushed }) after outcome → Good flushed
  script_goes course flushed is None played = session_goes s.device left before.device begin flushed after.device is outcome enough course played.found played.session.start played.session.serves
  script_goes course flushed is (Some fault.Sink) played = session_goes s.device left before.device begin flushed after.device is outcome enough course played.found played.session.start played.session.serves
  script_goes course flushed is (Some other) begun = kept_goes s.device left before.device begin flushed after.device is begun.early

  -- of a seed
  workload_goes : (options : WorkloadOptions) (flushed : Seen) → IsFlushed s.device.tells before.device flushed → (ended : Option Fault)
      → EndsWorkloadBy ended s options (record before { device = flushed }) after outcome → Good flushed
  workload_goes options flushed is None worked = session_goes s.device left before.device begin flushed after.device is outcome enough (course_of options.schedule options.core) worked.found worked.session.start worked.session.serves
  workload_goes options flushed is (Some fault.Sink) worked = session_goes s.device left before.device begin flushed after.device is outcome enough (course_of options.schedule options.core) worked.found worked.session.start worked.session.serves
  workload_goes options flushed is (Some other) begun = kept_goes s.device left before.device begin flushed after.device is begun.early

  -- From the moment before the flush on.
  module _ (later prefix : List Call) (parts : after.device.log ≡ later ++ (prefix ++ before.device.log)) (stop : Blocks) (is : IsImage before.device.opening (prefix ++ before.device.log) stop) where
    none_yet : prefix ≡ [] → Goes left begin.geometry stop
    none_yet none = as_before s.device left before.device begin stop (subst (λ (calls : List Call). IsImage before.device.opening (calls ++ before.device.log) stop) none is)

    -- the flush failed
    in_vain : (front : List Call) → later ++ prefix ≡ front → (front ≡ []) → Goes left begin.geometry stop
    in_vain front same none = none_yet (nothing prefix later (same ∙ none))
      where
        nothing : (prefix later : List Call) → later ++ prefix ≡ [] → prefix ≡ []
        nothing [] later same = refl
        nothing (call ∷ prefix) [] same = absurd (cc same)
        nothing (call ∷ prefix) (other ∷ later) same = absurd (cc same)

    one_in_vain : (calls : List Call) → calls ≡ prefix → (front : List Call) → front ++ calls ≡ Flush false ∷ [] → Goes left begin.geometry stop
    one_in_vain [] none front same = none_yet (sym none)
    one_in_vain (call ∷ []) one [] same =
        let failed : call ≡ Flush false = cc same in
        let here : IsImage before.device.opening (Flush false ∷ before.device.log) stop =
        subst (λ (made : Call). IsImage before.device.opening (made ∷ before.device.log) stop) failed
        (subst (λ (calls : List Call). IsImage before.device.opening (calls ++ before.device.log) stop) (sym one) is) in
        as_before s.device left before.device begin stop (image_behind_failed before.device.opening before.device.log stop here)
    one_in_vain (call ∷ []) one (other ∷ front) same = absurd (let size = ap length same in let parts = length-append front (call ∷ []) in omega (arith, size, parts))
    one_in_vain (call ∷ next ∷ calls) one front same = absurd (let size = ap length same in let parts = length-append front (call ∷ next ∷ calls) in omega (arith, size, parts))

    all_calls : (front : List Call) → after.device.log ≡ front ++ before.device.log → later ++ prefix ≡ front
    all_calls front same =
        same_front (later ++ prefix) front before.device.log (append_assoc later prefix before.device.log ∙ sym parts ∙ same)

    fails_goes : FlushFails s before after outcome → Goes left begin.geometry stop
    fails_goes fails = elim (fails.device.logged begin.settles.told) [
      | inl failed ↦ one_in_vain prefix refl later (all_calls (Flush false ∷ []) failed)
      | inr unkept ↦ in_vain [] (all_calls [] unkept.0) refl
    ]

    -- behind it
    behind : (flushed : Seen) (is_flushed : IsFlushed s.device.tells before.device flushed) → Good flushed → GoesOn s.device.tells flushed after.device → Goes left begin.geometry stop
    behind flushed is_flushed good on =
        let more = on.calls begin.settles.told in
        let logged = is_flushed.logged begin.settles.told in
        let whole : after.device.log ≡ (more.0 ++ (Flush true ∷ [])) ++ before.device.log =
        more.1 ∙ ap (λ (log : List Call). more.0 ++ log) logged ∙ sym (append_assoc more.0 (Flush true ∷ []) before.device.log) in
        elim (parted later prefix more.0 (Flush true ∷ []) (all_calls (more.0 ++ (Flush true ∷ [])) whole)) [
          | inl within ↦ with_flush flushed is_flushed good within.0 within.2
          | inr back ↦ elim (one_at_most back.0 prefix back.2) [
            | inl none ↦ none_yet none
            | inr one ↦ with_flush flushed is_flushed good [] one
          ]
        ]
      where
        one_at_most : (back prefix : List Call) → Flush true ∷ [] ≡ back ++ prefix → (prefix ≡ []) ⊎ (prefix ≡ [] ++ (Flush true ∷ []))
        one_at_most [] prefix same = inr (sym same)
        one_at_most (call ∷ back) [] same = inl refl
        one_at_most (call ∷ back) (next ∷ prefix) same = absurd (let size = ap length same in let parts = length-append back (next ∷ prefix) in omega (arith, size, parts))

        with_flush : (flushed : Seen) (is_flushed : IsFlushed s.device.tells before.device flushed) → Good flushed → (front : List Call) → prefix ≡ front ++ (Flush true ∷ [])
            → Goes left begin.geometry stop
        with_flush flushed is_flushed good front prefix_is =
            let logged = is_flushed.logged begin.settles.told in
            let log_is : prefix ++ before.device.log ≡ front ++ flushed.log =
            ap (λ (calls : List Call). calls ++ before.device.log) prefix_is ∙ append_assoc front (Flush true ∷ []) before.device.log ∙ ap (λ (log : List Call). front ++ log) (sym logged) in
            good later front (parts ∙ ap (λ (log : List Call). later ++ log) log_is) stop
            (subst (λ (opening : Blocks). IsImage opening (front ++ flushed.log) stop) (sym is_flushed.stays.opening)
            (subst (λ (log : List Call). IsImage before.device.opening log stop) log_is is))

  -- For each stop of the whole call.
  abbrev AllGood : Type 0
  AllGood =
      (later prefix : List Call) → after.device.log ≡ later ++ (prefix ++ before.device.log) → (stop : Blocks) → IsImage before.device.opening (prefix ++ before.device.log) stop
      → Goes left begin.geometry stop

  flushed_goes : (asked : Change) → ((flushed : Seen) → IsFlushed s.device.tells before.device flushed → EndsChange s asked (record before { device = flushed }) after outcome → Good flushed)
      → EndsFlushed s asked before after outcome → AllGood
  flushed_goes asked each (inl (flushed, is_flushed, ends)) later prefix parts stop is =
      behind later prefix parts stop is flushed is_flushed (each flushed is_flushed ends) (change_goes_on s asked (record before { device = flushed }) after outcome ends)
  flushed_goes asked each (inr fails) later prefix parts stop is = fails_goes later prefix parts stop is fails

  pub script_good : (course : Course) → EndsFlushed s (change.Script course) before after outcome → AllGood
  script_good course = flushed_goes (change.Script course) (λ flushed is ends. script_goes course flushed is outcome.fault ends)

  pub workload_good : (options : WorkloadOptions) → EndsFlushed s (change.Workload options) before after outcome → AllGood
  workload_good options = flushed_goes (change.Workload options) (λ flushed is ends. workload_goes options flushed is outcome.fault ends.ends)

  -- What the next call finds.
  pub good_runnable : AllGood → LeavesRunnable s.device left before.device after.device
  good_runnable good later prefix parts stop is =
      let goes = good later prefix parts stop is in
      (goes.0, made_begins s.device left before.device begin stop goes (stands_alone before.device.opening (prefix ++ before.device.log) stop is))

  pub good_ready : AllGood → LeavesReady s.device left before.device after.device
  good_ready good later prefix parts landed then opening_is log_is =
      let image = written_by prefix begin.image in
      let written = written_image before.device.opening before.device.log prefix begin.image landed begin.stands in
      let stands : IsImage then.opening (Flush true ∷ then.log) image =
      subst (λ (opening : Blocks). IsImage opening (Flush true ∷ then.log) image) (sym opening_is)
      (subst (λ (log : List Call). IsImage before.device.opening (Flush true ∷ log) image) (sym log_is) written) in
      let goes = good later prefix parts image (before_flush before.device.opening (prefix ++ before.device.log) image written) in
      record {
        geometry = begin.geometry;
        each = λ stop is. good later prefix parts stop
            (subst (λ (log : List Call). IsImage before.device.opening log stop) log_is (subst (λ (opening : Blocks). IsImage opening then.log stop) opening_is is));
        image = image;
        stands = stands;
        settles = record {
          told = begin.settles.told;
          fair = begin.settles.fair;
          one = record {
            size = stands.size;
            whole = stands.whole;
            only = λ b below here.
                let inside : b < length before.device.opening = subst (λ (opening : Blocks). b < length opening) opening_is below in
                let own : b < length begin.image = subst (λ (n : ℕ). b < n) (sym begin.stands.size) inside in
                let old = first s.device left before.device begin in
                let looked : IsTrue (looked_in begin.image b) =
                subst IsTrue (looked_so left begin.geometry image goes b ∙ sym (looked_so (2 ^ 18 + left) begin.geometry begin.image old b)) here in
                let all = written_block before.device.opening before.device.log prefix begin.image b own landed (begin.settles.one.only b inside looked) in
                subst (λ (opening : Blocks). AllByRecursion (λ (content : List ℕ). content ≡ block_at image b) (settled opening then.log b)) (sym opening_is)
                (subst (λ (log : List Call). AllByRecursion (λ (content : List ℕ). content ≡ block_at image b) (settled before.device.opening log b)) (sym log_is) all);
          };
        };
      }

-- the one image with which its clauses begin
pub begins_told : (trust : Trust) (left : ℕ) (now flushed : Seen) (begin : MayBegin trust left now) → IsFlushed trust.tells now flushed
    → IsTold trust flushed begin.image × CanBegin left begin.image
begins_told trust left now flushed begin is = (
  told_behind trust now flushed begin.image is begin.settles,
  (begin.each begin.image (before_flush now.opening now.log begin.image begin.stands)).0,
)
