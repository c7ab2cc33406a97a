-- What an act of one zone comes to, where a rule says it.
use Rattle.std.proofs.Common.{ℕ, ◌≡◌, ◌⊎◌, Bool, true, false, IsTrue, List, [], ◌∷◌, ◌++◌, None, Some, length, inl, inr, sym, ◌∙◌, ap, subst, arith}
use Rattle.blk_base.specs.declared.place.Mapping.{Mapping}
use Rattle.blk_base.specs.declared.place.Pbn.{Pbn}
use Rattle.blk_base.specs.declared.place.ZoneId.TheVariants as id
use Rattle.blk_base.specs.declared.request.Answer.{Answer}
use Rattle.blk_base.specs.declared.request.Answer.TheVariants.{Damaged}
use Rattle.blk_base.specs.declared.request.Writer.{Writer}
use Rattle.disk_model.specs.Causes.{Rose}
use Rattle.disk_model.specs.Seen.{Seen}
use Rattle.disk_model.specs.Trust.{Trust}
use Rattle.disk_model.specs.declared.call.Call.{Call}
use Rattle.disk_model.specs.declared.call.Call.TheVariants as call
use Rattle.vdo_model.specs.declared.report.DeskLine.TheVariants as line
use Rattle.page_codec.specs.Grammar.{IsPage}
use Rattle.data_vio.specs.Vios.{Post, ended, turned}
use Rattle.data_vio.specs.declared.items.Item.{Item}
use Rattle.data_vio.specs.declared.items.Item.TheVariants as item
use Rattle.data_vio.specs.declared.items.Phase.TheVariants as phase
use Rattle.data_vio.specs.declared.items.Vio.{Vio}
use Rattle.data_vio.specs.declared.sizes.Sizes.{Sizes}
use Rattle.core_laws.proofs.desk.BeginLaws.{begins_one}
use Rattle.core_laws.proofs.kept.OneResult.{one_result}
use Rattle.core_model.specs.DeskData.{Desk}
use Rattle.core_model.specs.DeskRules.{BeginsNext, DeskBegins}
use Rattle.core_model.specs.DeviceRules.{Announces, DeviceServes, notices_after, superblock_call}
use Rattle.core_model.specs.JournalData.{JournalZone}
use Rattle.core_model.specs.LogicalData.{LogicalZone}
use Rattle.core_model.specs.PageLinks.{leaf_head}
use Rattle.core_model.specs.Steps.{Act}
use Rattle.core_model.specs.Steps as steps
use Rattle.core_model.specs.Trace.{Trace, Fails, calls}
use Rattle.core_model.specs.declared.zones.DeviceZone.{DeviceZone}
use Rattle.core_model.specs.declared.zones.PhysicalZone.{PhysicalZone}
use Rattle.core_model.specs.declared.zones.SuperblockStage.{SuperblockStage}
use Rattle.core_model.specs.declared.zones.SuperblockStage.TheVariants.{Durable, Written}
use Rattle.core_model.specs.declared.zones.ZoneData.TheVariants as at
use Rattle.step_parts.specs.Acts.{Acts, ActsAlone}
use Rattle.step_parts.specs.DeviceLog.{HasCalled, RoseBy, failed_calls}

-- A zone that doesn't call the device does what the rule says, and nothing else.

same_desk : (a b : Desk) → at.Desk a ≡ at.Desk b → a ≡ b
same_desk a b is = cc

pub desk_does : (sizes : Sizes) (old new expected : Desk) (front : List Item) (made : Trace) (posts posts' : List Post) → ActsAlone sizes (at.Desk old) front (at.Desk new) posts
    → Act sizes (at.Desk old) front (at.Desk expected) made posts' → (new ≡ expected) × (posts ≡ posts')
desk_does sizes old new expected front made posts posts' acts act =
    let same = one_result sizes (at.Desk old) front (at.Desk new) (at.Desk expected) acts.0 made posts posts' acts.1 act (λ e. absurd e) in
    (same_desk new expected same.0, same.2)

same_logical : (a b : LogicalZone) → at.Logical a ≡ at.Logical b → a ≡ b
same_logical a b is = cc

pub logical_does : (sizes : Sizes) (old new expected : LogicalZone) (front : List Item) (made : Trace) (posts posts' : List Post) → ActsAlone sizes (at.Logical old) front (at.Logical new) posts
    → Act sizes (at.Logical old) front (at.Logical expected) made posts' → (new ≡ expected) × (posts ≡ posts')
logical_does sizes old new expected front made posts posts' acts act =
    let same = one_result sizes (at.Logical old) front (at.Logical new) (at.Logical expected) acts.0 made posts posts' acts.1 act (λ e. absurd e) in
    (same_logical new expected same.0, same.2)

same_physical : (a b : PhysicalZone) → at.Physical a ≡ at.Physical b → a ≡ b
same_physical a b is = cc

pub physical_does : (sizes : Sizes) (old new expected : PhysicalZone) (front : List Item) (made : Trace) (posts posts' : List Post) → ActsAlone sizes (at.Physical old) front (at.Physical new) posts
    → Act sizes (at.Physical old) front (at.Physical expected) made posts' → (new ≡ expected) × (posts ≡ posts')
physical_does sizes old new expected front made posts posts' acts act =
    let same = one_result sizes (at.Physical old) front (at.Physical new) (at.Physical expected) acts.0 made posts posts' acts.1 act (λ e. absurd e) in
    (same_physical new expected same.0, same.2)

same_journal : (a b : JournalZone) → at.Journal a ≡ at.Journal b → a ≡ b
same_journal a b is = cc

pub journal_does : (sizes : Sizes) (old new expected : JournalZone) (front : List Item) (made : Trace) (posts posts' : List Post) → ActsAlone sizes (at.Journal old) front (at.Journal new) posts
    → Act sizes (at.Journal old) front (at.Journal expected) made posts' → (new ≡ expected) × (posts ≡ posts')
journal_does sizes old new expected front made posts posts' acts act =
    let same = one_result sizes (at.Journal old) front (at.Journal new) (at.Journal expected) acts.0 made posts posts' acts.1 act (λ e. absurd e) in
    (same_journal new expected same.0, same.2)

-- the next request is begun, and no other
begun_so : (sizes : Sizes) (old new : Desk) (made : Trace) (posts : List Post) (w : Writer) → DeskBegins sizes old new made posts → BeginsNext sizes.depth old w
    → (new.log ≡ line.Begin w ∷ old.log) ⊎ ((answer : Answer) × (new.log ≡ line.Answer w answer ∷ line.Begin w ∷ old.log))
begun_so sizes old new made posts w (DeskBegins.answers w' r v a next asked served once n m q) lowest =
    let same : w' ≡ w = begins_one sizes.depth old w' w next lowest in
    inr (a, ap (λ (d : Desk). d.log) n ∙ ap (λ (u : Writer). line.Answer u a ∷ line.Begin u ∷ old.log) same)
begun_so sizes old new made posts w (DeskBegins.sends w' r v next asked served once n m q) lowest =
    let same : w' ≡ w = begins_one sizes.depth old w' w next lowest in
    inl (ap (λ (d : Desk). d.log) n ∙ ap (λ (u : Writer). line.Begin u ∷ old.log) same)

pub begins_it : (sizes : Sizes) (old new : Desk) (posts : List Post) (w : Writer) → ActsAlone sizes (at.Desk old) [] (at.Desk new) posts → BeginsNext sizes.depth old w
    → (new.log ≡ line.Begin w ∷ old.log) ⊎ ((answer : Answer) × (new.log ≡ line.Answer w answer ∷ line.Begin w ∷ old.log))
begins_it sizes old new posts w (made, steps.begins begins, none_called) lowest = begun_so sizes old new made posts w begins lowest

-- The device's zone.

-- a failed call is counted
not_failed : (trust : Trust) (before after : Seen) (w : Writer) (c : Call) (kept : Bool) (made : Trace) → made ≡ Fails w c kept ∷ [] → HasCalled trust before after made
    → (Rose before.faults after.faults → ⊥) → ⊥
not_failed trust before after w c kept made is called none = none (subst (λ (t : Trace). RoseBy (failed_calls t) before.faults after.faults) is called.faults)

no_call : (sizes : Sizes) (ok : Bool) (now : SuperblockStage) (c : Call) → now ≡ Durable → superblock_call sizes ok now ≡ Some c → ⊥
no_call sizes ok now c durable goes = let both : None ≡ Some c = sym (ap (superblock_call sizes ok) durable) ∙ goes in cc

store_so : (trust : Trust) (sizes : Sizes) (old new : DeviceZone) (v : Vio) (made : Trace) (posts : List Post) (before after : Seen) → DeviceServes sizes old v new made posts → HasCalled trust before after made
    → v.phase ≡ phase.Store → old.stopped ≡ false → old.superblock ≡ Durable → (Rose before.faults after.faults → ⊥)
    → (new.stopped ≡ false) × (posts ≡ (id.Journal, item.Request (turned phase.Enter v)) ∷ [])
store_so trust sizes old new v made posts before after (DeviceServes.announces there (Announces.succeeds c goes runs n m q)) called is runs' durable none = absurd (no_call sizes true old.superblock c durable goes)
store_so trust sizes old new v made posts before after (DeviceServes.announces there (Announces.fails c kept goes runs n m q)) called is runs' durable none = absurd (no_call sizes false old.superblock c durable goes)
store_so trust sizes old new v made posts before after (DeviceServes.stores x is' to goes ready inside n m q) called is runs durable none = (ap (λ (d : DeviceZone). d.stopped) n ∙ runs, q)
store_so trust sizes old new v made posts before after (DeviceServes.store_fails x kept is' to goes ready inside n m q) called is runs durable none = absurd (not_failed trust before after _ _ kept made m called none)
store_so trust sizes old new v made posts before after (DeviceServes.store_unmade is' stops n m q) called is runs durable none = absurd (let both : true ≡ false = sym stops ∙ runs in cc)
store_so trust sizes old new v made posts before after (DeviceServes.loads x bytes is' from ready inside n m q) called is runs durable none = absurd (let both : phase.Load ≡ phase.Store = sym is' ∙ is in cc)
store_so trust sizes old new v made posts before after (DeviceServes.load_fails x bytes kept is' from ready inside n m q) called is runs durable none = absurd (let both : phase.Load ≡ phase.Store = sym is' ∙ is in cc)
store_so trust sizes old new v made posts before after (DeviceServes.loads_leaf x bytes mappings is' there ready inside page n m q) called is runs durable none = absurd (let both : phase.LoadLeaf ≡ phase.Store = sym is' ∙ is in cc)
store_so trust sizes old new v made posts before after (DeviceServes.leaf_fails x bytes kept is' there ready inside n m q) called is runs durable none = absurd (let both : phase.LoadLeaf ≡ phase.Store = sym is' ∙ is in cc)
store_so trust sizes old new v made posts before after (DeviceServes.harms x bytes fault is' there ready inside damaged n m q) called is runs durable none = absurd (let both : phase.LoadLeaf ≡ phase.Store = sym is' ∙ is in cc)
store_so trust sizes old new v made posts before after (DeviceServes.flushes is' goes ready n m q) called is runs durable none = absurd (let both : phase.Flush ≡ phase.Store = sym is' ∙ is in cc)
store_so trust sizes old new v made posts before after (DeviceServes.flush_fails kept is' goes ready n m q) called is runs durable none = absurd (let both : phase.Flush ≡ phase.Store = sym is' ∙ is in cc)
store_so trust sizes old new v made posts before after (DeviceServes.flush_unmade is' stops n m q) called is runs durable none = absurd (let both : phase.Flush ≡ phase.Store = sym is' ∙ is in cc)

pub stored_on : (trust : Trust) (sizes : Sizes) (old new : DeviceZone) (v : Vio) (posts : List Post) (before after : Seen) → Acts trust sizes (at.Device old) (item.Request v ∷ []) (at.Device new) posts before after
    → v.phase ≡ phase.Store → old.stopped ≡ false → old.superblock ≡ Durable → (Rose before.faults after.faults → ⊥)
    → (new.stopped ≡ false) × (posts ≡ (id.Journal, item.Request (turned phase.Enter v)) ∷ [])
stored_on trust sizes old new v posts before after (made, steps.calls serves, called) is runs durable none = store_so trust sizes old new v made posts before after serves called is runs durable none

-- the superblock is written, and not yet durable
not_durable : (now : SuperblockStage) → now ≡ Written → now ≡ Durable → ⊥
not_durable now one two = let both : Written ≡ Durable = sym one ∙ two in cc

flush_is : (sizes : Sizes) (now : SuperblockStage) (c : Call) → now ≡ Written → superblock_call sizes true now ≡ Some c → c ≡ call.Flush true
flush_is sizes now c written goes = let both : Some (call.Flush true) ≡ Some c = sym (ap (superblock_call sizes true) written) ∙ goes in cc

wait_so : (trust : Trust) (sizes : Sizes) (old new : DeviceZone) (v : Vio) (made : Trace) (posts : List Post) (before after : Seen) → DeviceServes sizes old v new made posts → HasCalled trust before after made
    → v.phase ≡ phase.Store → old.stopped ≡ false → old.superblock ≡ Written → (Rose before.faults after.faults → ⊥)
    → (posts ≡ (id.Device, item.Request v) ∷ []) × (IsTrue trust.tells → after.log ≡ call.Flush true ∷ before.log)
wait_so trust sizes old new v made posts before after (DeviceServes.announces there (Announces.succeeds c goes runs n m q)) called is runs' written none =
    let flush : c ≡ call.Flush true = flush_is sizes old.superblock c written goes in
    (q, λ tells. called.log tells ∙ ap (λ (t : Trace). calls t ++ before.log) m ∙ ap (λ (k : Call). k ∷ before.log) flush)
wait_so trust sizes old new v made posts before after (DeviceServes.announces there (Announces.fails c kept goes runs n m q)) called is runs' written none = absurd (not_failed trust before after _ _ kept made m called none)
wait_so trust sizes old new v made posts before after (DeviceServes.stores x is' to goes ready inside n m q) called is runs written none = absurd (not_durable old.superblock written ready)
wait_so trust sizes old new v made posts before after (DeviceServes.store_fails x kept is' to goes ready inside n m q) called is runs written none = absurd (not_durable old.superblock written ready)
wait_so trust sizes old new v made posts before after (DeviceServes.store_unmade is' stops n m q) called is runs written none = absurd (let both : true ≡ false = sym stops ∙ runs in cc)
wait_so trust sizes old new v made posts before after (DeviceServes.loads x bytes is' from ready inside n m q) called is runs written none = absurd (let both : phase.Load ≡ phase.Store = sym is' ∙ is in cc)
wait_so trust sizes old new v made posts before after (DeviceServes.load_fails x bytes kept is' from ready inside n m q) called is runs written none = absurd (let both : phase.Load ≡ phase.Store = sym is' ∙ is in cc)
wait_so trust sizes old new v made posts before after (DeviceServes.loads_leaf x bytes mappings is' there ready inside page n m q) called is runs written none = absurd (let both : phase.LoadLeaf ≡ phase.Store = sym is' ∙ is in cc)
wait_so trust sizes old new v made posts before after (DeviceServes.leaf_fails x bytes kept is' there ready inside n m q) called is runs written none = absurd (let both : phase.LoadLeaf ≡ phase.Store = sym is' ∙ is in cc)
wait_so trust sizes old new v made posts before after (DeviceServes.harms x bytes fault is' there ready inside damaged n m q) called is runs written none = absurd (let both : phase.LoadLeaf ≡ phase.Store = sym is' ∙ is in cc)
wait_so trust sizes old new v made posts before after (DeviceServes.flushes is' goes ready n m q) called is runs written none = absurd (let both : phase.Flush ≡ phase.Store = sym is' ∙ is in cc)
wait_so trust sizes old new v made posts before after (DeviceServes.flush_fails kept is' goes ready n m q) called is runs written none = absurd (let both : phase.Flush ≡ phase.Store = sym is' ∙ is in cc)
wait_so trust sizes old new v made posts before after (DeviceServes.flush_unmade is' stops n m q) called is runs written none = absurd (let both : phase.Flush ≡ phase.Store = sym is' ∙ is in cc)

pub waits_on : (trust : Trust) (sizes : Sizes) (old new : DeviceZone) (v : Vio) (posts : List Post) (before after : Seen) → Acts trust sizes (at.Device old) (item.Request v ∷ []) (at.Device new) posts before after
    → v.phase ≡ phase.Store → old.stopped ≡ false → old.superblock ≡ Written → (Rose before.faults after.faults → ⊥)
    → (posts ≡ (id.Device, item.Request v) ∷ []) × (IsTrue trust.tells → after.log ≡ call.Flush true ∷ before.log)
waits_on trust sizes old new v posts before after (made, steps.calls serves, called) is runs written none = wait_so trust sizes old new v made posts before after serves called is runs written none

-- a list isn't as long as one with an item before it
no_longer : (c : Call) (log : List Call) → log ≡ c ∷ log → ⊥
no_longer c log is = let long : length log ≡ length (c ∷ log) = ap (λ (l : List Call). length l) is in omega (arith, long)

-- the one call that the log has is this one
logged_one : (a b : Call) (log : List Call) → a ∷ log ≡ b ∷ log → a ≡ b
logged_one a b log is = cc

read_one : (x y : Pbn) (bytes bytes' : List ℕ) → call.Read y bytes' true ≡ call.Read x bytes true → (y ≡ x) × (bytes' ≡ bytes)
read_one x y bytes bytes' is = (cc, cc)

read_failed : (x y : Pbn) (bytes bytes' : List ℕ) → call.Read y bytes' false ≡ call.Read x bytes true → ⊥
read_failed x y bytes bytes' is = cc

not_kept : (trust : Trust) (before after : Seen) (w : Writer) (x y : Pbn) (bytes bytes' : List ℕ) (kept : Bool) (made : Trace) → made ≡ Fails w (call.Read y bytes' false) kept ∷ []
    → HasCalled trust before after made → IsTrue trust.tells → after.log ≡ call.Read x bytes true ∷ before.log → ⊥
not_kept trust before after w x y bytes bytes' true made m called tells read =
    let both : call.Read y bytes' false ∷ before.log ≡ call.Read x bytes true ∷ before.log = sym (called.log tells ∙ ap (λ (t : Trace). calls t ++ before.log) m) ∙ read in
    read_failed x y bytes bytes' (logged_one _ _ before.log both)
not_kept trust before after w x y bytes bytes' false made m called tells read =
    let both : before.log ≡ call.Read x bytes true ∷ before.log = sym (called.log tells ∙ ap (λ (t : Trace). calls t ++ before.log) m) ∙ read in
    no_longer (call.Read x bytes true) before.log both

module _ (trust : Trust) (sizes : Sizes) (old new : DeviceZone) (v : Vio) (made : Trace) (posts : List Post) (before after : Seen) (x : Pbn) (bytes : List ℕ)
    (called : HasCalled trust before after made) (is : v.phase ≡ phase.LoadLeaf) (stops : old.stopped ≡ true) (tells : IsTrue trust.tells)
    (read : after.log ≡ call.Read x bytes true ∷ before.log) (no_page : (mappings : List Mapping) → IsPage (leaf_head sizes.geometry v.at.0 x) bytes mappings → ⊥) where
  runs_not : old.stopped ≡ false → ⊥
  runs_not runs = let both : true ≡ false = sym stops ∙ runs in cc

  harm_so : DeviceServes sizes old v new made posts → posts ≡ (v.home, item.Request (ended phase.Abort Damaged v)) ∷ []
  harm_so (DeviceServes.announces there (Announces.succeeds c goes runs n m q)) = absurd (runs_not runs)
  harm_so (DeviceServes.announces there (Announces.fails c kept goes runs n m q)) = absurd (runs_not runs)
  harm_so (DeviceServes.loads_leaf y bytes' mappings is' there ready inside page n m q) =
      let both : call.Read y bytes' true ∷ before.log ≡ call.Read x bytes true ∷ before.log = sym (called.log tells ∙ ap (λ (t : Trace). calls t ++ before.log) m) ∙ read in
      let same = read_one x y bytes bytes' (logged_one _ _ before.log both) in
      let here : IsPage (leaf_head sizes.geometry v.at.0 x) bytes' mappings = subst (λ (b : Pbn). IsPage (leaf_head sizes.geometry v.at.0 b) bytes' mappings) same.0 page in
      absurd (no_page mappings (subst (λ (bs : List ℕ). IsPage (leaf_head sizes.geometry v.at.0 x) bs mappings) same.1 here))
  harm_so (DeviceServes.leaf_fails y bytes' kept is' there ready inside n m q) = absurd (not_kept trust before after v.request x y bytes bytes' kept made m called tells read)
  harm_so (DeviceServes.harms y bytes' fault is' there ready inside damaged n m q) =
      q ∙ ap (λ (s : Bool). (v.home, item.Request (ended phase.Abort Damaged v)) ∷ notices_after s sizes) stops
  harm_so (DeviceServes.stores y is' to goes ready inside n m q) = absurd (let both : phase.Store ≡ phase.LoadLeaf = sym is' ∙ is in cc)
  harm_so (DeviceServes.store_fails y kept is' to goes ready inside n m q) = absurd (let both : phase.Store ≡ phase.LoadLeaf = sym is' ∙ is in cc)
  harm_so (DeviceServes.store_unmade is' stopped n m q) = absurd (let both : phase.Store ≡ phase.LoadLeaf = sym is' ∙ is in cc)
  harm_so (DeviceServes.loads y bytes' is' from ready inside n m q) = absurd (let both : phase.Load ≡ phase.LoadLeaf = sym is' ∙ is in cc)
  harm_so (DeviceServes.load_fails y bytes' kept is' from ready inside n m q) = absurd (let both : phase.Load ≡ phase.LoadLeaf = sym is' ∙ is in cc)
  harm_so (DeviceServes.flushes is' goes ready n m q) = absurd (let both : phase.Flush ≡ phase.LoadLeaf = sym is' ∙ is in cc)
  harm_so (DeviceServes.flush_fails kept is' goes ready n m q) = absurd (let both : phase.Flush ≡ phase.LoadLeaf = sym is' ∙ is in cc)
  harm_so (DeviceServes.flush_unmade is' stopped n m q) = absurd (let both : phase.Flush ≡ phase.LoadLeaf = sym is' ∙ is in cc)

pub harmed_so : (trust : Trust) (sizes : Sizes) (old new : DeviceZone) (v : Vio) (posts : List Post) (before after : Seen) (x : Pbn) (bytes : List ℕ)
    → Acts trust sizes (at.Device old) (item.Request v ∷ []) (at.Device new) posts before after
    → v.phase ≡ phase.LoadLeaf → old.stopped ≡ true → IsTrue trust.tells → after.log ≡ call.Read x bytes true ∷ before.log
    → ((mappings : List Mapping) → IsPage (leaf_head sizes.geometry v.at.0 x) bytes mappings → ⊥)
    → posts ≡ (v.home, item.Request (ended phase.Abort Damaged v)) ∷ []
harmed_so trust sizes old new v posts before after x bytes (made, steps.calls serves, called) is stops tells read no_page =
    harm_so trust sizes old new v made posts before after x bytes called is stops tells read no_page serves
