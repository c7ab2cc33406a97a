-- What calls keep.
use Rattle.std.proofs.Common.{List, [], ◌∷◌, sym, subst}
use Rattle.plain_laws.specs.Leads.{LeadsBy}

-- what each of them keeps, a list of them keeps
pub leads_keep : {S C : Type 0} (Does : C → S → S → Type 0) (Keeps : S → Type 0) → ((call : C) (old new : S) → Keeps old → Does call old new → Keeps new)
    → (old new : S) (calls : List C) → Keeps old → LeadsBy Does old calls new → Keeps new
leads_keep Does Keeps step old new [] kept same = subst Keeps (sym same) kept
leads_keep Does Keeps step old new (call ∷ calls) kept (before, lead, did) =
    step call before new (leads_keep Does Keeps step old before calls kept lead) did
