-- What a flush covers was committed when the device's flush of it was called.
use Rattle.std.proofs.Common.{◌<◌, List, [], ◌∷◌, ℕ, ◌≡◌, ◌⊎◌, ◌≤◌, ◌++◌, Bool, true, false, Some, length, refl, sym, ◌∙◌, ap, subst, inl, inr, arith}
use Rattle.core_laws.proofs.Common.{AllByRecursion, Answer as Reply, Call, Calls, DeskLine, FlushMark, HistoryEntry, IsDeskLog, IsWrite, Remapping, Mark, RightTrace, Session, Trace, Writer, and_parts, answer_of, before_begin, begun, calls, committed, done, each_both, entered, every-map, lines, logged_of, of_address, remappings, journaled, passed}
use Rattle.core_laws.proofs.lists.Between.{every_between}
use Rattle.core_laws.proofs.trace.Growth.{entered_grows, begun_stays}
use Rattle.disk_model.specs.declared.call.Call.TheVariants.{Flush}
use Rattle.vdo_model.specs.LastParts.{is_lasting}
use Rattle.vdo_model.specs.Histories.{is_settled}
use Rattle.vdo_model.specs.Stops.{length_at, is_answered, is_covered}
use Rattle.vdo_model.specs.declared.report.Mark.TheVariants.{Settled, Unsettled, Refused}
use Rattle.core_model.specs.Reports.{set_in, handed_in}
use Rattle.core_laws.proofs.trace.AnswersOfTrace.{AnswerSays, there_some, answer_says, set_is_handed}
use Rattle.core_laws.proofs.trace.Cuts.{Cut, call_in_cut, lines_append, right_part}
use Rattle.core_laws.proofs.trace.DeskOfTrace.{committed_stays, each_of_address, are_of_address, logged_has, desk_log_right, done_writes, done_is_committed}
use Rattle.core_laws.proofs.lists.Changes.{change_address, changes_asked, maps_change}
use Rattle.core_laws.proofs.lists.CoreLists.{Has, has_it, has_at, has_older, answer_later, answered_before, before_later}
use Rattle.core_laws.proofs.trace.MarksOfTrace.{HasMark}
use Rattle.blk_base.specs.declared.request.Answer.TheVariants as reply

-- Each entry that was handed in is of a request that is begun.

-- the request of an entry is begun
abbrev pub IsBegunBy : List DeskLine → Remapping → Type 0
IsBegunBy desk e = e.request.number < begun e.request.stream desk

-- Each entry that was handed in is of a request that is begun.
pub entered_begun : (s : Session) (t : Trace) → RightTrace s t → AllByRecursion (IsBegunBy (lines t)) (entered t)
entered_begun s [] right = tt
entered_begun s (h ∷ t) right =
    let stays : (e : Remapping) → IsBegunBy (lines t) e → IsBegunBy (lines (h ∷ t)) e = λ e is. begun_stays s h t e.request right.0 is in
    let rest = every-map {P = IsBegunBy (lines t)} {Q = IsBegunBy (lines (h ∷ t))} stays (entered t) (entered_begun s t right.2) in
    entered_grows (AllByRecursion (IsBegunBy (lines (h ∷ t)))) s h t right.0 rest (λ e came next. (stays e next.is_open.is_begun, rest))
    (λ e came next. every_between (IsBegunBy (lines (h ∷ t))) (remappings (journaled t)) (passed t) e (stays e next.is_open.is_begun) rest)

-- What a flush covers was committed when the device's flush of it was called.

-- a write whose slot is set was answered Ok, if it was answered
set_ok : (handed : Bool) (b : Reply) → handed ≡ true → AnswerSays true handed (Some b) → b ≡ reply.Ok
set_ok handed reply.Ok there says = refl
set_ok handed reply.Stopped there says = absurd cc
set_ok handed reply.Full there says = absurd cc
set_ok handed reply.Range there says = absurd says
set_ok handed (reply.Bytes bytes) there says = absurd says
set_ok handed reply.NoSpace there says = absurd cc
set_ok handed reply.ReadFault there says = absurd cc
set_ok handed reply.Damaged there says = absurd cc

-- a settled entry lasts
settled_lasts : (mark : Mark) → is_settled mark ≡ true → is_lasting true mark ≡ false → ⊥
settled_lasts Settled is none = cc
settled_lasts Unsettled is none = cc
settled_lasts Refused is none = cc

-- what is committed stays so
committed_later : (s : Session) (newer older : Trace) (w : Writer) → RightTrace s (newer ++ older) → Has (committed older) w → Has (committed (newer ++ older)) w
committed_later s [] older w right has = has
committed_later s (h ∷ t) older w right has =
    let found = there_some (logged_of (committed (t ++ older)) w) (committed_later s t older w right.2 has) in
    has_it (committed (h ∷ (t ++ older))) w found.0 (committed_stays s h (t ++ older) w found.0 right.2 right.0 found.1)

module _ (s : Session) (t : Trace) (right : RightTrace s t) where
  -- a write whose slot is set and that has an answer in an older part has its entry committed there
  answered_committed : (newer older : Trace) → t ≡ newer ++ older → (e : Remapping) → IsWrite s t e → e.at.0 < s.sizes.geometry.logical → set_in t e.request ≡ true
      → (b : Reply) → answer_of (lines older) e.request ≡ Some b → Has (committed older) e.request
  answered_committed newer older parts e write below set b answer =
      let right_old = right_part s newer older (subst (RightTrace s) parts right) in
      let is_change = maps_change write.asks write.bytes e.new write.maps in
      let change = changes_asked write.asks e.at write.bytes is_change in
      let address = change_address write.asks e.at write.bytes is_change in
      let lines_are : lines t ≡ lines newer ++ lines older = ap lines parts ∙ lines_append newer older in
      let now : answer_of (lines t) e.request ≡ Some b =
      ap (λ (ls : List DeskLine). answer_of ls e.request) lines_are
      ∙ answer_later s.sizes.depth s.script (lines newer) (lines older) e.request b (subst (IsDeskLog s.sizes.depth s.script) lines_are (desk_log_right s t right)) answer in
      let says : AnswerSays (set_in t e.request) (handed_in t e.request) (Some b) =
      subst (AnswerSays (set_in t e.request) (handed_in t e.request)) now (answer_says s t e.request _ e.at.0 right write.asked change address below) in
      let ok : b ≡ reply.Ok =
      set_ok (handed_in t e.request) b (set_is_handed s t e.request right set) (subst (λ (is_set : Bool). AnswerSays is_set (handed_in t e.request) (Some b)) set says) in
      let set_old : set_in older e.request ≡ true =
      subst (AnswerSays (set_in older e.request) (handed_in older e.request)) (answer ∙ ap (λ (r : Reply). Some r) ok) (answer_says s older e.request _ e.at.0 right_old write.asked change address below) in
      let found = there_some (logged_of (done older) e.request) set_old in
      has_it (committed older) e.request found.0 (done_is_committed s older e.request found.0 right_old found.1)

  -- What was answered before a flush began is answered when the device's flush was called.
  answered_by_call : (f : FlushMark) (has : HasMark t f) (w : Writer) → is_answered (answer_of (before_begin (lines t) f.request) w) ≡ true
      → (b : Reply) × (answer_of (lines has.older) w ≡ Some b)
  answered_by_call f has w before =
      let lines_are : lines t ≡ lines has.later ++ lines has.older = ap lines has.parts ∙ lines_append has.later (Calls (Flush true) ∷ has.older) in
      let begins : before_begin (lines t) f.request ≡ before_begin (lines has.older) f.request =
      ap (λ (ls : List DeskLine). before_begin ls f.request) lines_are
      ∙ before_later s.sizes.depth s.script (lines has.later) (lines has.older) f.request (subst (IsDeskLog s.sizes.depth s.script) lines_are (desk_log_right s t right)) has.begun_by_then in
      let right_old = right_part s has.later (Calls (Flush true) ∷ has.older) (subst (RightTrace s) has.parts right) in
      answered_before s.sizes.depth s.script (lines has.older) f.request w (desk_log_right s has.older right_old.2)
      (subst (λ (ls : List DeskLine). is_answered (answer_of ls w) ≡ true) begins before)

  -- A settled write that was answered before a flush began was committed when the device's flush was called.
  covered_committed : (f : FlushMark) (has : HasMark t f) (a : ℕ) (w : Writer) → a < s.sizes.geometry.logical → Has (of_address a (done t)) w
      → is_answered (answer_of (before_begin (lines t) f.request) w) ≡ true → Has (committed (Calls (Flush true) ∷ has.older)) w
  covered_committed f has a w below set before =
      let found = there_some (logged_of (of_address a (done t)) w) set in
      let e = found.0 in
      let facts = logged_has (λ (x : Remapping). IsWrite s t x × (x.at.0 ≡ a)) (of_address a (done t)) w e found.1
      (each_both (IsWrite s t) (λ (x : Remapping). x.at.0 ≡ a) (of_address a (done t)) (each_of_address (IsWrite s t) a (done t) (done_writes s t right)) (are_of_address a (done t))) in
      let name : w ≡ e.request = sym facts.1 in
      let set_now : set_in t e.request ≡ true = subst (Has (done t)) name (has_at a (done t) w set) in
      let answer = answered_by_call f has e.request (subst (λ (v : Writer). is_answered (answer_of (before_begin (lines t) f.request) v) ≡ true) name before) in
      subst (Has (committed (Calls (Flush true) ∷ has.older))) facts.1
      (answered_committed has.later (Calls (Flush true) ∷ has.older) has.parts e facts.0.0 (omega (arith, facts.0.1, below)) set_now answer.0 answer.1)

  -- So no newer entry is covered than those that an image shows.
  pub not_covered : (prefix : List Call) (c : Cut t prefix) (newer_es es fewer : List Remapping) → ((w : Writer) → Has newer_es w → Has es w → ⊥) → es ≡ fewer ++ committed c.older
      → (f : FlushMark) → HasMark t f → length_at (calls t) f.calls ≤ length prefix → (a : ℕ) → a < s.sizes.geometry.logical → (x : HistoryEntry)
      → (is_lasting true x.mark ≡ false) ⊎ Has (of_address a newer_es) x.request → (is_settled x.mark ≡ true → Has (of_address a (done t)) x.request)
      → is_covered (lines t) f x ≡ true → ⊥
  not_covered prefix c newer_es es fewer apart has_committed f has by_then a below x of_newer there taken =
      let both = and_parts (is_settled x.mark) (is_answered (answer_of (before_begin (lines t) f.request) x.request)) taken in
      elim of_newer [
        | inl passes_not ↦ settled_lasts x.mark both.0 passes_not
        | inr newer ↦
            let inside = call_in_cut t prefix f c has by_then in
            let old = Calls (Flush true) ∷ has.older in
            let at_call = covered_committed f has a x.request below (there both.0) both.1 in
            let at_cut : Has (committed c.older) x.request =
            subst (λ (u : Trace). Has (committed u) x.request) (sym inside.1)
            (committed_later s inside.0 old x.request (subst (RightTrace s) inside.1 (right_part s c.newer c.older (subst (RightTrace s) c.parts right))) at_call) in
            let shown : Has es x.request = subst (λ (xs : List Remapping). Has xs x.request) (sym has_committed) (has_older fewer (committed c.older) x.request at_cut) in
            apart x.request (has_at a newer_es x.request newer) shown
      ]
