-- Until the superblock of a session is durable, nothing else was written.
use Rattle.std.proofs.Common.{ℕ, ◌≡◌, ◌≢◌, ◌⊎◌, ◌++◌, true, false, List, [], ◌∷◌, ◌∙◌, sym, refl, inl, inr}
use Rattle.core_laws.proofs.Common.{AllByRecursion, Call, calls, Calls, Fails, RightTrace, Session, Sizes, SuperblockStage, superblock_stage, Trace, eqb_tells, Harms}
use Rattle.disk_model.specs.Log.{Blocks, Misses, contents}
use Rattle.disk_model.proofs.ImageLaws.{kept}
use Rattle.disk_model.specs.declared.call.Call.TheVariants.{Read, Write, Flush}
use Rattle.core_model.specs.Superblocks.{IsInOrder, WritesNoOther, stage_after}
use Rattle.core_model.specs.declared.zones.SuperblockStage.TheVariants.{AsOpened, Written, Durable}

pub is_durable : (now : SuperblockStage) → (now ≡ Durable) ⊎ (now ≢ Durable)
is_durable AsOpened = inr (λ is. absurd cc)
is_durable Written = inr (λ is. absurd cc)
is_durable Durable = inl refl

-- a call in its order writes no other block, or comes behind the superblock
in_order : (sizes : Sizes) (now : SuperblockStage) (c : Call) → IsInOrder sizes now c → WritesNoOther sizes c ⊎ (now ≡ Durable)
in_order sizes now (Write at bytes success) is = elim is [ inl first ↦ inl first.1 | inr behind ↦ inr behind.0 ]
in_order sizes now other is = inl tt

-- which stays durable
stays_durable : (sizes : Sizes) (now : SuperblockStage) (c : Call) → IsInOrder sizes now c → now ≡ Durable → stage_after c now ≡ Durable
stays_durable sizes now (Write at bytes true) is durable = elim is [
  | inl first ↦ let opened = first.0 in absurd cc
  | inr behind ↦ elim (eqb_tells at.0 0) [ inl same ↦ absurd (behind.1 same.1) | inr other ↦ rw other.0 durable ]
]
stays_durable sizes now (Flush true) is durable = rw durable refl
stays_durable sizes now (Write at bytes false) is durable = durable
stays_durable sizes now (Flush false) is durable = durable
stays_durable sizes now (Read at bytes success) is durable = durable

pub writes_no_other : (s : Session) (t : Trace) → RightTrace s t → superblock_stage t ≢ Durable → AllByRecursion (WritesNoOther s.sizes) (calls t)
writes_no_other s [] right not_yet = tt
writes_no_other s (Calls c ∷ t) right not_yet =
    let before : superblock_stage t ≢ Durable = λ durable. not_yet (stays_durable s.sizes (superblock_stage t) c right.0.in_order durable) in
    elim (in_order s.sizes (superblock_stage t) c right.0.in_order) [ inl none ↦ (none, writes_no_other s t right.2 before) | inr durable ↦ absurd (before durable) ]
writes_no_other s (Fails w c true ∷ t) right not_yet =
    elim (in_order s.sizes (superblock_stage t) c right.0.in_order) [ inl none ↦ (none, writes_no_other s t right.2 not_yet) | inr durable ↦ absurd (not_yet durable) ]
writes_no_other s (Harms w x bytes fault ∷ t) right not_yet = (tt, writes_no_other s t right.2 not_yet)
writes_no_other s (other ∷ t) right not_yet = writes_no_other s t right.2 not_yet

-- so each other block stands as it did
pub misses : (sizes : Sizes) (c : Call) (x : ℕ) → x ≢ 0 → WritesNoOther sizes c → Misses c x
misses sizes (Write at bytes success) x other is = λ same. other (sym same ∙ is.first)
misses sizes (Read at bytes success) x other is = tt
misses sizes (Flush success) x other is = tt

pub others_stand : (P : List ℕ → Type 0) (blocks : Blocks) (before : List Call) (sizes : Sizes) (x : ℕ) → x ≢ 0 → (made : List Call) → AllByRecursion (WritesNoOther sizes) made
    → AllByRecursion P (contents blocks before x) → AllByRecursion P (contents blocks (made ++ before) x)
others_stand P blocks before sizes x other [] none k = k
others_stand P blocks before sizes x other (c ∷ older) none k = kept P blocks (older ++ before) c x (misses sizes c x other none.0) (others_stand P blocks before sizes x other older none.1 k)
