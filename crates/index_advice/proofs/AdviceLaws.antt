-- Lists of advice lead from one book to one other, and join.
use Rattle.std.specs.Prelude.{ℕ, ◌≡◌, List, [], ◌∷◌, ◌++◌, All, refl}
use Rattle.std.proofs.Common.{sym, ◌∙◌, ap, subst}
use Rattle.std.proofs.lemmas.List.Elements.{All-tail}
use Rattle.plain_laws.proofs.LeadLaws.{leads_keep}
use Rattle.index_advice.specs.declared.advice.Advice.{Advice}
use Rattle.index_advice.specs.declared.advice.Advice.TheVariants.{Looked, Learnt, Due, Finished}
use Rattle.index_advice.specs.Books.{Book, DuePage}
use Rattle.index_advice.specs.Advices.{TakesDue, Leads, LeadTo}
use Rattle.index_advice.specs.Orders.{IsOfKept, IsInOrder}
use Rattle.index_advice.proofs.BookLaws.{learnt_in_order, finished_in_order}

rest_of_pages : List DuePage → List DuePage
rest_of_pages [] = []
rest_of_pages (page ∷ pages) = pages

pub one_book : (old new new' : Book) (one : Advice) → Leads old one new → Leads old one new' → new ≡ new'
unfolding rest_of_pages
one_book old new new' (Looked name found failed) leads leads' = leads.1 ∙ sym leads'.1
one_book old new new' (Learnt name at) leads leads' = leads ∙ sym leads'
one_book old new new' (Due at) leads leads' =
    leads.same ∙ ap (λ (pages : List DuePage). record old { due = pages }) (ap rest_of_pages (sym leads.first ∙ leads'.first)) ∙ sym leads'.same
one_book old new new' Finished leads leads' = leads ∙ sym leads'

pub one_book_of_lists : (old new new' : Book) (advice : List Advice) → LeadTo old advice new → LeadTo old advice new' → new ≡ new'
one_book_of_lists old new new' [] leads leads' = leads ∙ sym leads'
one_book_of_lists old new new' (one ∷ older) (before, lead, last) (before', lead', last') =
    let same : before ≡ before' = one_book_of_lists old before before' older lead lead' in
    one_book before' new new' one (subst (λ (b : Book). Leads b one new) same last) last'

pub joined : (old between new : Book) (first later : List Advice) → LeadTo old first between → LeadTo between later new → LeadTo old (later ++ first) new
joined old between new first [] leads more = subst (λ (b : Book). LeadTo old first b) (sym more) leads
joined old between new first (one ∷ later) leads (before, lead, last) = (before, joined old between before first later leads lead, last)

pub parted : (old new : Book) (first later : List Advice) → LeadTo old (later ++ first) new
    → (between : Book) × LeadTo old first between × LeadTo between later new
parted old new first [] leads = (new, leads, refl)
parted old new first (one ∷ later) (before, lead, last) =
    let more = parted old before first later lead in
    (more.0, more.1, (before, more.2, last))

-- books stay in order

taken_in_order : (old new : Book) (at : ℕ) → IsInOrder old → TakesDue old new at → IsInOrder new
taken_in_order old new at order takes =
    let all : All (IsOfKept old.kept) (takes.page ∷ new.due) = subst (λ (pages : List DuePage). All (IsOfKept old.kept) pages) takes.first order.due in
    subst IsInOrder (sym takes.same) (record {
      newest_first = order.newest_first;
      chapters = order.chapters;
      unclosed = order.unclosed;
      due = All-tail (IsOfKept old.kept) takes.page new.due all;
    })

one_in_order : (old new : Book) (one : Advice) → IsInOrder old → Leads old one new → IsInOrder new
one_in_order old new (Looked name found failed) order leads = subst IsInOrder (sym leads.1) order
one_in_order old new (Learnt name at) order leads = subst IsInOrder (sym leads) (learnt_in_order (record { name = name; at = at }) old order)
one_in_order old new (Due at) order leads = taken_in_order old new at.0 order leads
one_in_order old new Finished order leads = subst IsInOrder (sym leads) (finished_in_order old order)

pub stay_in_order : (old new : Book) (advice : List Advice) → IsInOrder old → LeadTo old advice new → IsInOrder new
stay_in_order old new advice order leads =
    leads_keep (λ one before after. Leads before one after) IsInOrder (λ one before after kept lead. one_in_order before after one kept lead) old new advice order leads
