-- The log of a session behind what was done before it.
use Rattle.std.proofs.Common.{ℕ, ◌≡◌, ◌⊎◌, ◌+◌, ◌<◌, ◌≤◌, ◌++◌, true, List, [], ◌∷◌, length, refl, sym, ◌∙◌, ap, subst, inl, inr, arith, length-append, append_assoc}
use Rattle.std.proofs.lemmas.Bool.{lt-ltb, le-ltb, cases_lt, cases_Bool}
use Rattle.std.specs.List.{AllByRecursion}
use Rattle.disk_model.specs.declared.call.Call.{Call}
use Rattle.disk_model.specs.declared.call.Call.TheVariants.{Flush}
use Rattle.disk_model.specs.Images.{IsImage}
use Rattle.disk_model.specs.Log.{Blocks}
use Rattle.vdo_model.specs.declared.report.DeskLine.{DeskLine}
use Rattle.vdo_model.specs.declared.report.FlushMark.{FlushMark}
use Rattle.vdo_model.specs.declared.report.HistoryEntry.{HistoryEntry}
use Rattle.vdo_model.specs.declared.report.RunReport.{RunReport}
use Rattle.vdo_model.specs.FlushMarks.{Moment, Desk, Device, AreFlushMarks, IsMark, calls_of, successes}
use Rattle.vdo_model.specs.Scripts.{Script}
use Rattle.vdo_model.specs.Stops.{IsBegunBefore, MayShow, RightAfterStops, ShowsRight, covered, is_covered, length_at}
use Rattle.vdo_model.proofs.HistoryLaws.{length_at_after, successes_append, successes_later}
use Rattle.core_stops.specs.Logs.{AreWithin, StopsRight, StopsShow, mark_from, marks_from, report_from}

-- Lengths.

-- where more had to succeed than did, it is all of the log
length_at_top : (log : List Call) (n : ℕ) → successes log < n → length_at log n ≡ length log
length_at_top [] n few = refl
length_at_top (call ∷ older) n few =
    let grow : successes older ≤ successes (call ∷ older) = successes_later (call ∷ []) older in
    rw (lt-ltb (successes older) n (omega (arith, few, grow))) refl

-- Counted from an earlier moment, a length is longer by what was there.
pub length_at_from : (session before : List Call) (n : ℕ) → 1 ≤ n → length_at (session ++ before) (n + successes before) ≡ length_at session n + length before
length_at_from [] before n some = let top = length_at_top before (n + successes before) (omega (arith, some)) in omega (arith, top)
length_at_from (call ∷ session) before n some =
    let all = successes_append session before in
    elim (cases_lt (successes session) n) [
      | inl more ↦
          let size = length-append session before in
          rw (lt-ltb (successes session) n more, lt-ltb (successes (session ++ before)) (n + successes before) (omega (arith, more, all))) (omega (arith, size))
      | inr not_more ↦
          rw (le-ltb (successes session) n not_more, le-ltb (successes (session ++ before)) (n + successes before) (omega (arith, not_more, all)))
          (length_at_from session before n some)
    ]

-- Marks.

pub each_from : (P : FlushMark → Type 0) (n : ℕ) (marks : List FlushMark) → AllByRecursion (λ mark. P (mark_from n mark)) marks → AllByRecursion P (marks_from n marks)
each_from P n [] all = tt
each_from P n (mark ∷ marks) all = (all.0, each_from P n marks all.1)

pub each_back : (P : FlushMark → Type 0) (n : ℕ) (marks : List FlushMark) → AllByRecursion P (marks_from n marks) → AllByRecursion (λ mark. P (mark_from n mark)) marks
each_back P n [] all = tt
each_back P n (mark ∷ marks) all = (all.0, each_back P n marks all.1)

each_both : (P Q R : FlushMark → Type 0) (marks : List FlushMark) → ((mark : FlushMark) → P mark → Q mark → R mark)
    → AllByRecursion P marks → AllByRecursion Q marks → AllByRecursion R marks
each_both P Q R [] f ps qs = tt
each_both P Q R (mark ∷ marks) f ps qs = (f mark ps.0 qs.0, each_both P Q R marks f ps.1 qs.1)

each_weaker : (P Q : FlushMark → Type 0) (marks : List FlushMark) → ((mark : FlushMark) → P mark → Q mark) → AllByRecursion P marks → AllByRecursion Q marks
each_weaker P Q [] f ps = tt
each_weaker P Q (mark ∷ marks) f ps = (f mark ps.0, each_weaker P Q marks f ps.1)

covered_from : (desk : List DeskLine) (n : ℕ) (mark : FlushMark) (history : List HistoryEntry) → covered desk (mark_from n mark) history ≡ covered desk mark history
covered_from desk n mark [] = refl
covered_from desk n mark (entry ∷ older) = elim (cases_Bool (is_covered desk mark entry)) [
  | inl taken ↦ rw taken refl
  | inr passed ↦ rw passed (covered_from desk n mark older)
]

begun_from : (desk : List DeskLine) (n : ℕ) (mark : FlushMark) (shown : List HistoryEntry) → IsBegunBefore desk mark shown → IsBegunBefore desk (mark_from n mark) shown
begun_from desk n mark [] begun = tt
begun_from desk n mark (entry ∷ older) begun = begun

begun_back : (desk : List DeskLine) (n : ℕ) (mark : FlushMark) (shown : List HistoryEntry) → IsBegunBefore desk (mark_from n mark) shown → IsBegunBefore desk mark shown
begun_back desk n mark [] begun = tt
begun_back desk n mark (entry ∷ older) begun = begun

append_none : (X : Type 0) (xs : List X) → xs ≡ xs ++ []
append_none X [] = refl
append_none X (x ∷ xs) = ap (λ (l : List X). x ∷ l) (append_none X xs)

-- One address.

module _ (script : Script) (desk : List DeskLine) (marks : List FlushMark) (before session : List Call) (within : AreWithin session marks)
    (history : List HistoryEntry) (opening value : List ℕ) where
  -- Before the session it has its opening value.
  pub may_show_early : (size : ℕ) → size ≤ length before → value ≡ opening
      → MayShow script desk (marks_from (successes before) marks) (session ++ before) size history opening value
  may_show_early size early is = record {
    newer = history;
    shown = [];
    part = append_none HistoryEntry history;
    lasts = tt;
    value_is = is;
    flushed = each_from (λ mark. length_at (session ++ before) mark.calls ≤ size → length (covered desk mark history) ≤ 0) (successes before) marks
        (each_weaker (λ mark. (1 ≤ mark.calls) × (mark.calls ≤ successes session))
        (λ mark. length_at (session ++ before) (mark.calls + successes before) ≤ size → length (covered desk (mark_from (successes before) mark) history) ≤ 0) marks
        (λ mark inside marked.
        let some = inside.0 in
        let few = inside.1 in
        let all = successes_append session before in
        let later = length_at_after session before (mark.calls + successes before) (omega (arith, some)) (omega (arith, few, all)) in
        absurd (omega (arith, later, marked, early))) within);
    begun = each_from (λ mark. size ≤ length_at (session ++ before) mark.calls → IsBegunBefore desk mark []) (successes before) marks
        (each_weaker (λ mark. (1 ≤ mark.calls) × (mark.calls ≤ successes session))
        (λ mark. size ≤ length_at (session ++ before) (mark.calls + successes before) → IsBegunBefore desk (mark_from (successes before) mark) []) marks
        (λ mark inside later. tt) within);
  }

  -- Within it, what its own log allows.
  pub may_show_within : (size : ℕ) → MayShow script desk marks session size history opening value
      → MayShow script desk (marks_from (successes before) marks) (session ++ before) (size + length before) history opening value
  may_show_within size may = record {
    newer = may.newer;
    shown = may.shown;
    part = may.part;
    lasts = may.lasts;
    value_is = may.value_is;
    flushed = each_from (λ mark. length_at (session ++ before) mark.calls ≤ size + length before → length (covered desk mark history) ≤ length may.shown) (successes before) marks
        (each_both (λ mark. (1 ≤ mark.calls) × (mark.calls ≤ successes session)) (λ mark. length_at session mark.calls ≤ size → length (covered desk mark history) ≤ length may.shown)
        (λ mark. length_at (session ++ before) (mark.calls + successes before) ≤ size + length before → length (covered desk (mark_from (successes before) mark) history) ≤ length may.shown) marks
        (λ mark inside flushed marked.
        let from = length_at_from session before mark.calls inside.0 in
        subst (λ (h : List HistoryEntry). length h ≤ length may.shown) (sym (covered_from desk (successes before) mark history)) (flushed (omega (arith, from, marked)))) within may.flushed);
    begun = each_from (λ mark. size + length before ≤ length_at (session ++ before) mark.calls → IsBegunBefore desk mark may.shown) (successes before) marks
        (each_both (λ mark. (1 ≤ mark.calls) × (mark.calls ≤ successes session)) (λ mark. size ≤ length_at session mark.calls → IsBegunBefore desk mark may.shown)
        (λ mark. size + length before ≤ length_at (session ++ before) (mark.calls + successes before) → IsBegunBefore desk (mark_from (successes before) mark) may.shown) marks
        (λ mark inside begun later.
        let from = length_at_from session before mark.calls inside.0 in
        begun_from desk (successes before) mark may.shown (begun (omega (arith, from, later)))) within may.begun);
  }

  -- And the other way.
  pub may_show_back : (size : ℕ) → MayShow script desk (marks_from (successes before) marks) (session ++ before) (size + length before) history opening value
      → MayShow script desk marks session size history opening value
  may_show_back size may = record {
    newer = may.newer;
    shown = may.shown;
    part = may.part;
    lasts = may.lasts;
    value_is = may.value_is;
    flushed = each_both (λ mark. (1 ≤ mark.calls) × (mark.calls ≤ successes session))
        (λ mark. length_at (session ++ before) (mark.calls + successes before) ≤ size + length before → length (covered desk (mark_from (successes before) mark) history) ≤ length may.shown)
        (λ mark. length_at session mark.calls ≤ size → length (covered desk mark history) ≤ length may.shown) marks
        (λ mark inside flushed marked.
        let from = length_at_from session before mark.calls inside.0 in
        subst (λ (h : List HistoryEntry). length h ≤ length may.shown) (covered_from desk (successes before) mark history) (flushed (omega (arith, from, marked)))) within
        (each_back (λ mark. length_at (session ++ before) mark.calls ≤ size + length before → length (covered desk mark history) ≤ length may.shown) (successes before) marks may.flushed);
    begun = each_both (λ mark. (1 ≤ mark.calls) × (mark.calls ≤ successes session))
        (λ mark. size + length before ≤ length_at (session ++ before) (mark.calls + successes before) → IsBegunBefore desk (mark_from (successes before) mark) may.shown)
        (λ mark. size ≤ length_at session mark.calls → IsBegunBefore desk mark may.shown) marks
        (λ mark inside begun later.
        let from = length_at_from session before mark.calls inside.0 in
        begun_back desk (successes before) mark may.shown (begun (omega (arith, from, later)))) within
        (each_back (λ mark. size + length before ≤ length_at (session ++ before) mark.calls → IsBegunBefore desk mark may.shown) (successes before) marks may.begun);
  }

-- Marks of flushes are within the calls.
moved : (log later older : List Moment) → log ≡ later ++ (Device (Flush true) ∷ older) → calls_of log ≡ calls_of later ++ (Flush true ∷ calls_of older)
moved log [] older same = ap calls_of same
moved log (Desk line ∷ later) older same = ap calls_of same ∙ moved (later ++ (Device (Flush true) ∷ older)) later older refl
moved log (Device call ∷ later) older same = ap calls_of same ∙ ap (λ (l : List Call). call ∷ l) (moved (later ++ (Device (Flush true) ∷ older)) later older refl)

pub marks_within : (script : Script) (moments : List Moment) (marks : List FlushMark) → AreFlushMarks script moments marks → AreWithin (calls_of moments) marks
marks_within script moments marks are = each_weaker (IsMark moments) (λ mark. (1 ≤ mark.calls) × (mark.calls ≤ successes (calls_of moments))) marks
    (λ mark is.
    let calls = is.calls in
    let counted : successes (calls_of moments) ≡ successes (calls_of is.later ++ (Flush true ∷ calls_of is.older)) = ap successes (moved moments is.later is.older is.at) in
    let more : successes (Flush true ∷ calls_of is.older) ≤ successes (calls_of is.later ++ (Flush true ∷ calls_of is.older)) = successes_later (calls_of is.later) (Flush true ∷ calls_of is.older) in
    (omega (arith, calls), omega (arith, calls, counted, more))) are.each

-- A moment of the whole is one of the first part, or one of the second.
pub parted : (later prefix session earlier : List Call) → later ++ prefix ≡ session ++ earlier
    → ((front : List Call) × (session ≡ later ++ front) × (prefix ≡ front ++ earlier)) ⊎ ((back : List Call) × (later ≡ session ++ back) × (earlier ≡ back ++ prefix))
parted [] prefix session earlier same = inl (session, refl, same)
parted (call ∷ later) prefix [] earlier same = inr (call ∷ later, refl, sym same)
parted (call ∷ later) prefix (other ∷ session) earlier same =
    let heads : call ≡ other = cc same in
    let tails : later ++ prefix ≡ session ++ earlier = cc same in
    elim (parted later prefix session earlier tails) [
      | inl within ↦ inl (within.0, cc (heads, within.1), within.2)
      | inr early ↦ inr (early.0, cc (heads, early.1), early.2)
    ]

-- what stands before the same end
pub same_front : (a b end : List Call) → a ++ end ≡ b ++ end → a ≡ b
same_front a b end same = elim (parted a end b end same) [
  | inl within ↦
      let size : length end ≡ length within.0 + length end = ap length within.2 ∙ length-append within.0 end in
      same_with a b within.0 (omega (arith, size)) within.1
  | inr early ↦
      let size : length end ≡ length early.0 + length end = ap length early.2 ∙ length-append early.0 end in
      sym (same_with b a early.0 (omega (arith, size)) early.1)
]
  where
    same_with : (a b rest : List Call) → length rest ≡ 0 → b ≡ a ++ rest → a ≡ b
    same_with a b [] none is = append_none Call a ∙ sym is
    same_with a b (call ∷ rest) none is = absurd (omega (arith, none))

module _ (HasValues : Blocks → (ℕ → List ℕ) → Type 0) (blocks : Blocks) (entry earlier session : List Call) (logical : ℕ) (opening : ℕ → List ℕ) (report : RunReport)
    (within : AreWithin session report.marks) where
  abbrev before : List Call
  before = earlier ++ entry

  abbrev now : List Call
  now = session ++ before

  abbrev whole_report : RunReport
  whole_report = report_from (successes before) report

  abbrev Shows : Blocks → ℕ → Type 0
  Shows image size = (values : ℕ → List ℕ) × HasValues image values × ShowsRight logical opening whole_report now size values

  pub stops_right : StopsShow HasValues blocks entry logical opening earlier → RightAfterStops HasValues blocks before logical opening report session
      → StopsRight HasValues blocks entry now logical opening whole_report
  stops_right early stops later prefix same image is = elim (parted later (prefix ++ entry) session before (sym same)) [
    | inl inside ↦
        let image_is : IsImage blocks (inside.0 ++ before) image = subst (λ (log : List Call). IsImage blocks log image) inside.2 is in
        let shown = stops later inside.0 inside.1 image image_is in
        let size : length (prefix ++ entry) ≡ length inside.0 + length before = ap length inside.2 ∙ length-append inside.0 before in
        subst (Shows image) (sym size)
        (shown.0, shown.1, λ a below. may_show_within report.requests report.desk report.marks before session within _ (opening a) (shown.0 a) (length inside.0) (shown.2 a below))
    | inr back ↦
        let parts : earlier ≡ back.0 ++ prefix = same_front earlier (back.0 ++ prefix) entry (back.2 ∙ sym (append_assoc back.0 prefix entry)) in
        let shown = early back.0 prefix parts image is in
        let size : length before ≡ length back.0 + length (prefix ++ entry) = ap length back.2 ∙ length-append back.0 (prefix ++ entry) in (
          shown.0,
          shown.1,
          λ a below. may_show_early report.requests report.desk report.marks before session within _ (opening a) (shown.0 a) (length (prefix ++ entry))
              (omega (arith, size)) (shown.2 a below),
        )
  ]

  -- Nothing is lost: of the session's calls it says what it was made from.
  pub stops_back : StopsRight HasValues blocks entry now logical opening whole_report → RightAfterStops HasValues blocks before logical opening report session
  stops_back right later prefix same image is =
      let parts : now ≡ later ++ ((prefix ++ earlier) ++ entry) = ap (λ (l : List Call). l ++ before) same ∙ append_assoc later prefix before
      ∙ ap (λ (l : List Call). later ++ l) (sym (append_assoc prefix earlier entry)) in
      let image_is : IsImage blocks ((prefix ++ earlier) ++ entry) image = subst (λ (log : List Call). IsImage blocks log image) (sym (append_assoc prefix earlier entry)) is in
      let shown = right later (prefix ++ earlier) parts image image_is in
      let size : length ((prefix ++ earlier) ++ entry) ≡ length prefix + length before = ap length (append_assoc prefix earlier entry) ∙ length-append prefix before in
      let right_size : Shows image (length prefix + length before) = subst (Shows image) size shown in
      (right_size.0, right_size.1, λ a below. may_show_back report.requests report.desk report.marks before session within _ (opening a) (right_size.0 a) (length prefix) (right_size.2 a below))
