-- A run up to the moment before a request was begun.
use Rattle.std.proofs.Common.{ℕ, ◌≡◌, ◌≢◌, ◌⊎◌, ◌≤◌, true, List, [], ◌∷◌, ◌++◌, append_assoc, length, length-append, refl, ap, sym, ◌∙◌, subst, inl, inr, arith}
use Rattle.core_laws.proofs.Common.{DeskLine, Fails, Flushes, Happening, IsSession, Item, Post, Says, Session, Sizes, Trace, Writer, ZoneData, desk_number, lines, name_of, zone_number}
use Rattle.core_model.specs.DeskRules as desk
use Rattle.core_model.specs.DeskData.{Desk}
use Rattle.core_model.specs.DeskRules.{DeskBegins, DeskServes}
use Rattle.core_model.specs.Legal.{Legal}
use Rattle.core_model.specs.Steps as steps
use Rattle.core_model.specs.Steps.{Act, Core, Leads, StepOf}
use Rattle.data_vio.specs.declared.items.Vio.{Vio}
use Rattle.vdo_model.specs.declared.report.DeskLine.TheVariants.{Begin, Answer}
use Rattle.core_laws.proofs.kept.ActKept.{Owns}
use Rattle.core_laws.proofs.kept.Keys.{happens_in}
use Rattle.core_laws.proofs.kept.LegalMoves.{legal_leads}
use Rattle.core_laws.proofs.kept.StepActs.{by_act, known}
use Rattle.core_laws.proofs.trace.Cuts.{lines_append}

-- Where one of a list stands that has two parts.

-- a list that has one isn't empty
has_one : {X : Type 0} (newer older : List X) (x : X) → newer ++ x ∷ older ≡ [] → ⊥
has_one newer older x none = let size = ap length none in let parts = length-append newer (x ∷ older) in omega (arith, size, parts)

-- it stands in the older part, or in the newer one
pub in_part : {X : Type 0} (first second newer older : List X) (x : X) → first ++ second ≡ newer ++ x ∷ older
    → ((rest : List X) × (second ≡ rest ++ x ∷ older)) ⊎ ((rest : List X) × (first ≡ newer ++ x ∷ rest) × (older ≡ rest ++ second))
in_part [] second newer older x is = inl (newer, is)
in_part (h ∷ first) second [] older x is = inr (first, cc, cc)
in_part {X} (h ∷ first) second (i ∷ newer) older x is = elim (in_part first second newer older x cc) [
  | inl behind ↦ inl behind
  | inr inside ↦ let same : h ≡ i = cc in inr (inside.0, ap (λ (y : X). y ∷ first) same ∙ ap (λ (ys : List X). i ∷ ys) inside.1, inside.2)
]

-- What an act says.

-- a request that is begun is the oldest of these lines
abbrev pub BeginsFirst : List DeskLine → Type 0
BeginsFirst [] = Unit {0}
BeginsFirst (Begin w ∷ older) = older ≡ []
BeginsFirst (Answer w a ∷ older) = BeginsFirst older

-- so nothing is older than it
begun_first : (ls newer older : List DeskLine) (w : Writer) → ls ≡ newer ++ Begin w ∷ older → BeginsFirst ls → older ≡ []
begun_first [] newer older w is first = absurd (has_one newer older (Begin w) (sym is))
begun_first (Begin v ∷ ls) [] older w is first = let same : older ≡ ls = cc in same ∙ first
begun_first (Begin v ∷ ls) (l ∷ newer) older w is first = let rest : newer ++ Begin w ∷ older ≡ ls = cc in absurd (has_one newer older (Begin w) (rest ∙ first))
begun_first (Answer v a ∷ ls) [] older w is first = absurd cc
begun_first (Answer v a ∷ ls) (l ∷ newer) older w is first = let rest : ls ≡ newer ++ Begin w ∷ older = cc in begun_first ls newer older w rest first

-- so it is of what the desk says as it begins a request
begins_first : (sizes : Sizes) (old new : Desk) (made : Trace) (posts : List Post) → DeskBegins sizes old new made posts → BeginsFirst (lines made)
begins_first sizes old new made posts (desk.DeskBegins.answers w r v a next asked is at_once n m q) = subst (λ (u : Trace). BeginsFirst (lines u)) (sym m) refl
begins_first sizes old new made posts (desk.DeskBegins.sends w r v next asked is later n m q) = subst (λ (u : Trace). BeginsFirst (lines u)) (sym m) refl

-- and as it answers one
answers_first : (sizes : Sizes) (old : Desk) (v : Vio) (new : Desk) (made : Trace) (posts : List Post) → DeskServes sizes old v new made posts → BeginsFirst (lines made)
answers_first sizes old v new made posts (desk.DeskServes.parks a p is stopped early n m q) = subst (λ (u : Trace). BeginsFirst (lines u)) (sym m) tt
answers_first sizes old v new made posts (desk.DeskServes.answers a p is stopped unmarked spaced n m q) = subst (λ (u : Trace). BeginsFirst (lines u)) (sym m) tt
answers_first sizes old v new made posts (desk.DeskServes.marks p flush is n m q) = subst (λ (u : Trace). BeginsFirst (lines u)) (sym m) tt
answers_first sizes old v new made posts (desk.DeskServes.lacks p is n m q) = subst (λ (u : Trace). BeginsFirst (lines u)) (sym m) tt

-- what happens in another zone is no line
no_line : (sizes : Sizes) (h : Happening) (t : Trace) → desk_number ≢ happens_in sizes h → lines (h ∷ t) ≡ lines t
no_line sizes (Says line) t off = absurd (off refl)
no_line sizes (Flushes m) t off = absurd (off refl)
no_line sizes (Fails w c true) t off = refl
no_line sizes other t off = refl

module _ (s : Session) (t : Trace) where
  -- so an act of another zone says nothing
  nothing_said : (n : ℕ) (old : ZoneData) (front : List Item) (made : Trace) → desk_number ≢ n → Owns s t n old front made → lines made ≡ []
  nothing_said n old front [] off owns = refl
  nothing_said n old front (h ∷ made) off owns = no_line s.sizes h made (λ is. off (is ∙ sym owns.0.zone)) ∙ nothing_said n old front made off owns.1

  -- and begins nothing
  elsewhere : (n : ℕ) (old : ZoneData) (front : List Item) (made : Trace) → desk_number ≢ n → Owns s t n old front made → BeginsFirst (lines made)
  elsewhere n old front made off owns = subst BeginsFirst (sym (nothing_said n old front made off owns)) tt

  -- each act by its zone
  act_says : (n : ℕ) (old : ZoneData) (front : List Item) (new : ZoneData) (made : Trace) (posts : List Post) → Act s.sizes old front new made posts → n ≡ zone_number s.sizes (name_of old) → Owns s t n old front made → BeginsFirst (lines made)
  act_says n old front new made posts (steps.begins act) here owns = begins_first s.sizes _ _ made posts act
  act_says n old front new made posts (steps.answers act) here owns = answers_first s.sizes _ _ _ made posts act
  act_says n old front new made posts steps.hears here owns = tt
  act_says n old front new made posts other here owns = elsewhere n old front made (λ desk. omega (arith, desk, here)) owns

-- A run that was cut.

-- a core that a run passes when the desk log is this, and what happens between it and the last one
pub record CutRun (s : Session) (first last : Core) (older : List DeskLine) : Type 0 where
  pub mid : Core
  pub leads : Leads s.sizes first mid
  pub rest : Leads s.sizes mid last
  pub legal : Legal s mid
  pub lines_are : lines mid.trace ≡ older
  pub more : Trace
  pub parts : last.trace ≡ more ++ mid.trace

-- with one step more
step_more : (s : Session) (first before last : Core) (older : List DeskLine) (st : StepOf s.sizes before last) → CutRun s first before older → CutRun s first last older
step_more s first before last older st cut = record {
  mid = cut.mid;
  leads = cut.leads;
  rest = steps.steps st cut.rest;
  legal = cut.legal;
  lines_are = cut.lines_are;
  more = st.made ++ cut.more;
  parts = ap (λ (core : Core). core.trace) st.has ∙ ap (λ (t : Trace). st.made ++ t) cut.parts ∙ sym (append_assoc st.made cut.more cut.mid.trace);
}

-- a request that a step begins is the oldest of its lines
step_says : (s : Session) (before last : Core) → IsSession s → Legal s before → (st : StepOf s.sizes before last) → BeginsFirst (lines st.made)
step_says s before last session legal st =
    let acts = by_act st.step.act (known s session before legal st.number st.zone st.had st.step.front st.step.rest st.step.taken) in
    act_says s before.trace st.number st.zone.keeps st.step.front st.zone'.keeps st.made st.step.posts st.step.act (legal.each st.number st.zone st.had).own.number_is acts.owns

-- Before a request was begun that wasn't begun at first, there was a core with the lines until then.
pub cut_before_begin : (s : Session) (first last : Core) → IsSession s → Leads s.sizes first last → Legal s first → (newer older : List DeskLine) (w : Writer) → length (lines first.trace) ≤ length older
    → lines last.trace ≡ newer ++ Begin w ∷ older → CutRun s first last older
cut_before_begin s first last session steps.rests legal newer older w few said = absurd (let size = ap length said in let parts = length-append newer (Begin w ∷ older) in omega (arith, size, parts, few))
cut_before_begin s first last session (steps.moves {before = before} m leads) legal newer older w few said =
    let same : last.trace ≡ before.trace = ap (λ (core : Core). core.trace) m.has in
    let cut = cut_before_begin s first before session leads legal newer older w few (ap lines (sym same) ∙ said) in
    record {
      mid = cut.mid;
      leads = cut.leads;
      rest = steps.moves m cut.rest;
      legal = cut.legal;
      lines_are = cut.lines_are;
      more = cut.more;
      parts = same ∙ cut.parts;
    }
cut_before_begin s first last session (steps.steps {before = before} st leads) legal newer older w few said =
    let trace_is : last.trace ≡ st.made ++ before.trace = ap (λ (core : Core). core.trace) st.has in
    let both : lines st.made ++ lines before.trace ≡ newer ++ Begin w ∷ older = sym (lines_append st.made before.trace) ∙ ap lines (sym trace_is) ∙ said in
    let there = legal_leads s first before session leads legal in
    elim (in_part (lines st.made) (lines before.trace) newer older (Begin w) both) [
      | inl behind ↦ step_more s first before last older st (cut_before_begin s first before session leads legal behind.0 older w few behind.1)
      | inr inside ↦
          let none = begun_first (lines st.made) newer inside.0 w inside.1 (step_says s before last session there st) in
          record {
            mid = before;
            leads = leads;
            rest = steps.steps st steps.rests;
            legal = there;
            lines_are = sym (inside.2 ∙ ap (λ (ls : List DeskLine). ls ++ lines before.trace) none);
            more = st.made;
            parts = trace_is;
          }
    ]
