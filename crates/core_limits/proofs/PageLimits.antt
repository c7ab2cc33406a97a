-- How many entries of the journal there are: a request has one for its address, and makes one page of each level at most.
use Rattle.std.proofs.Common.{ℕ, zero, suc, ◌≡◌, ◌+◌, ◌*◌, ◌<◌, ◌≤◌, ◌==◌, ◌⊎◌, ◌&&◌, false, Option, None, Some, IsNone, IsSome, List, [], ◌∷◌, length, length-append, if◌then◌else◌, refl, ap, sym, ◌∙◌, subst, inl, inr, arith}
use Rattle.core_laws.proofs.Common.{AllByRecursion, Enters, IsSession, Logged, Pbn, Makes, NewPage, PageMayFollow, Remaps, RightTrace, Session, Trace, Writer, cases_Bool, durable, entered, passed, eqb_tells, every-map, none_is, option_cases, some_of, journaled, remappings, new_pages, request_at, same_Some, same_tells, same_writer, some_is}
use Rattle.blk_base.specs.Pages.{page_above}
use Rattle.blk_base.specs.declared.request.Request.{Request}
use Rattle.blk_base.specs.declared.request.Request.TheVariants as request
use Rattle.core_model.specs.SessionLimits.{requests_in}
use Rattle.blk_base.specs.declared.place.PageId.{PageId}
use Rattle.core_model.specs.PageLinks.{MayLack, page_in}
use Rattle.core_model.proofs.TreeLinks.{page_itself}
use Rattle.image_model.specs.Pages.{is_page}
use Rattle.core_laws.proofs.trace.DeskOfTrace.{durable_part}
use Rattle.core_limits.proofs.DeskLimits.{asked_inside, requests_of}
use Rattle.core_limits.proofs.StreamSums.{Apart, Inside, named, names_few, over_script}

abbrev maker : NewPage → Writer
maker p = p.request

-- the page of a level that a request made
abbrev page_made : List NewPage → Writer → ℕ → Option NewPage
page_made [] w level = None
page_made (p ∷ older) w level = if same_writer p.request w && p.page.level == level then Some p else page_made older w level

-- the pages of a level
abbrev of_level : ℕ → List NewPage → List NewPage
of_level level [] = []
of_level level (p ∷ ps) = if p.page.level == level then p ∷ of_level level ps else of_level level ps

-- each was the first of its level that its request made
abbrev AreFirst : List NewPage → Type 0
AreFirst [] = Unit {0}
AreFirst (p ∷ ps) = IsNone (page_made ps p.request p.page.level) × AreFirst ps

none_made : (ps : List NewPage) (w : Writer) (level : ℕ) → IsNone (page_made ps w level) → named maker w (of_level level ps) ≡ 0
none_made [] w level none = refl
none_made (p ∷ ps) w level none = elim (eqb_tells p.page.level level) [
  | inl here ↦ elim (same_tells p.request w) [
    | inl same ↦ let one : IsNone (Some p) = rw (same.0, here.0) at none in absurd cc
    | inr other ↦ let rest = none_made ps w level (rw other.0 at none) in rw (here.0, other.0) (omega (arith, rest))
  ]
  | inr there ↦ elim (cases_Bool (same_writer p.request w)) [
    | inl same ↦ rw there.0 (none_made ps w level (rw (same, there.0) at none))
    | inr other ↦ rw there.0 (none_made ps w level (rw other at none))
  ]
]

apart_level : (level : ℕ) (ps : List NewPage) → AreFirst ps → Apart maker (of_level level ps)
apart_level level [] first = tt
apart_level level (p ∷ ps) first = elim (eqb_tells p.page.level level) [
  | inl here ↦ rw here.0 (none_made ps p.request level (rw here.1 at first.0), apart_level level ps first.1)
  | inr there ↦ rw there.0 (apart_level level ps first.1)
]

every_level : (P : NewPage → Type 0) (level : ℕ) (ps : List NewPage) → AllByRecursion P ps → AllByRecursion P (of_level level ps)
every_level P level [] all = tt
every_level P level (p ∷ ps) all = elim (cases_Bool (p.page.level == level)) [
  | inl here ↦ rw here (all.0, every_level P level ps all.1)
  | inr there ↦ rw there (every_level P level ps all.1)
]

low_cases : (n : ℕ) → n < 2 → (n ≡ 0) ⊎ (n ≡ 1)
low_cases zero below = inl refl
low_cases (suc zero) below = inr refl
low_cases (suc (suc n)) below = absurd (omega (arith, below))

-- there are two levels below the roots
two_levels : (ps : List NewPage) → AllByRecursion (λ (p : NewPage). p.page.level < 2) ps → length ps ≤ length (of_level 0 ps) + length (of_level 1 ps)
two_levels [] low = omega arith
two_levels (p ∷ ps) low =
    let rest = two_levels ps low.1 in
    elim (low_cases p.page.level low.0) [ inl is ↦ rw is (omega (arith, rest)) | inr is ↦ rw is (omega (arith, rest)) ]

-- entries are of addresses and of pages
both_kinds : (es : List Logged) → length es ≡ length (remappings es) + length (new_pages es)
both_kinds [] = refl
both_kinds (Remaps e ∷ es) = omega (arith, both_kinds es)
both_kinds (Makes p ∷ es) = omega (arith, both_kinds es)

-- a page of a right trace: on the path of the address that its request writes
abbrev IsLacked : Session → NewPage → Type 0
IsLacked s p = (r : Request) × (request_at s.script p.request ≡ Some r) × MayLack s.sizes.geometry.height r p.page

-- the page that a request made is one of these
made_has : (P : NewPage → Type 0) (ps : List NewPage) (w : Writer) (level : ℕ) (q : NewPage) → page_made ps w level ≡ Some q → AllByRecursion P ps → P q × (q.request ≡ w) × (q.page.level ≡ level)
made_has P [] w level q is all = absurd cc
made_has P (p ∷ ps) w level q is all = elim (same_tells p.request w) [
  | inl same ↦ elim (eqb_tells p.page.level level) [
    | inl here ↦
        let p_is : p ≡ q = same_Some p q (rw (same.0, here.0) at is) in
        (subst P p_is all.0, subst (λ (x : NewPage). x.request ≡ w) p_is same.1, subst (λ (x : NewPage). x.page.level ≡ level) p_is here.1)
    | inr there ↦ made_has P ps w level q (rw (same.0, there.0) at is) all.1
  ]
  | inr other ↦ made_has P ps w level q (rw other.0 at is) all.1
]

-- and the entries put it somewhere
put_there : (links : PageId → Option Pbn) (es : List Logged) (w : Writer) (level : ℕ) (q : NewPage) → page_made (new_pages es) w level ≡ Some q → IsSome (page_in links es q.page)
put_there links [] w level q is = absurd cc
put_there links (Remaps e ∷ es) w level q is = put_there links es w level q is
put_there links (Makes p ∷ es) w level q is = elim (cases_Bool (is_page p.page q.page)) [
  | inl here ↦ rw here refl
  | inr there ↦ elim (cases_Bool (same_writer p.request w && p.page.level == level)) [
    | inl mine ↦
        let p_is : p ≡ q = same_Some p q (rw mine at is) in
        let same : is_page p.page p.page ≡ false = subst (λ (x : NewPage). is_page p.page x.page ≡ false) (sym p_is) there in
        absurd (let itself = page_itself p.page in cc)
    | inr other ↦ rw there (put_there links es w level q (rw other at is))
  ]
]

-- a request makes one page of each level: two would be the same page
same_page : (height : ℕ) (r : Request) (p q : PageId) → MayLack height r p → MayLack height r q → q.level ≡ p.level → q ≡ p
same_page height (request.Write at bytes fua) p q one two level = two.0 ∙ ap (λ (n : ℕ). page_above n at.0) level ∙ sym one.0
same_page height (request.Read at) p q one two level = absurd one
same_page height (request.Discard at) p q one two level = absurd one
same_page height request.Flush p q one two level = absurd one

is_first : (s : Session) (t : Trace) (p : NewPage) → PageMayFollow s p t → AllByRecursion (IsLacked s) (new_pages (journaled t)) → IsNone (page_made (new_pages (journaled t)) p.request p.page.level)
is_first s t p may lacked = elim (option_cases (page_made (new_pages (journaled t)) p.request p.page.level)) [
  | inl none ↦ none_is _ none
  | inr some ↦
      let q = some.0 in
      let has = made_has (IsLacked s) (new_pages (journaled t)) p.request p.page.level q some.1 lacked in
      let (r, asked, lack) = may.lacked in
      let (r', asked', lack') = has.0 in
      let r_is : r' ≡ r = same_Some r' r (sym asked' ∙ ap (request_at s.script) has.1 ∙ asked) in
      let same : q.page ≡ p.page = same_page s.sizes.geometry.height r p.page q.page lack (subst (λ (x : Request). MayLack s.sizes.geometry.height x q.page) r_is lack') has.2 in
      let there = put_there s.links (journaled t) p.request p.page.level q some.1 in
      let none : page_in s.links (journaled t) q.page ≡ None = ap (page_in s.links (journaled t)) same ∙ may.once in
      absurd (let is = some_of _ there in let both = sym is.1 ∙ none in cc)
]

low_level : (s : Session) (r : Request) (p : NewPage) → IsSession s → MayLack s.sizes.geometry.height r p.page → p.page.level < 2
low_level s (request.Write at bytes fua) p session lack = let height = session.sizes.height.1 in let below = lack.1 in omega (arith, height, below)
low_level s (request.Read at) p session lack = absurd lack
low_level s (request.Discard at) p session lack = absurd lack
low_level s request.Flush p session lack = absurd lack

pages_right : (s : Session) (t : Trace) → RightTrace s t → AreFirst (new_pages (journaled t)) × AllByRecursion (IsLacked s) (new_pages (journaled t))
pages_right s [] right = (tt, tt)
pages_right s (Enters (Makes p) ∷ t) right = let rest = pages_right s t right.2 in ((is_first s t p right.0 rest.1, rest.0), (right.0.lacked, rest.1))
pages_right s (other ∷ t) right = pages_right s t right.2

-- a request makes one page of a level at most
level_few : (s : Session) (t : Trace) (level : ℕ) → RightTrace s t → length (of_level level (new_pages (journaled t))) ≤ requests_in s.script
level_few s t level right =
    let pages = pages_right s t right in
    let ps = of_level level (new_pages (journaled t)) in
    let inside = every-map {P = IsLacked s} {Q = λ p. Inside (length s.script) (requests_of s.script) (maker p)} (λ p is. asked_inside s.script p.request (some_is _ _ is.1)) ps (every_level (IsLacked s) level (new_pages (journaled t)) pages.1) in
    let names = names_few maker (length s.script) (requests_of s.script) ps (apart_level level (new_pages (journaled t)) pages.0) inside in
    omega (arith, names, over_script s.script)

pub pages_few : (s : Session) (t : Trace) → IsSession s → RightTrace s t → length (new_pages (journaled t)) ≤ 2 * requests_in s.script
pages_few s t session right =
    let low = every-map {P = IsLacked s} {Q = λ (p : NewPage). p.page.level < 2} (λ p is. low_level s is.0 p session is.2) (new_pages (journaled t)) (pages_right s t right).1 in
    omega (arith, two_levels (new_pages (journaled t)) low, level_few s t 0 right, level_few s t 1 right)

pub kinds_of : (t : Trace) → length (journaled t) ≡ length (remappings (journaled t)) + length (new_pages (journaled t))
kinds_of t = both_kinds (journaled t)

-- and no entry is committed that wasn't handed in
pub durable_few : (s : Session) (t : Trace) → RightTrace s t → length (durable t) ≤ length (journaled t)
durable_few s t right = let part = durable_part s t right in let all = ap length part.1 in let both = length-append part.0 (durable t) in omega (arith, all, both)

-- those of addresses are writes and discards that were entered
pub remappings_few : (t : Trace) → length (remappings (journaled t)) ≤ length (entered t)
remappings_few t = let all = length-append (remappings (journaled t)) (passed t) in omega (arith, all)
