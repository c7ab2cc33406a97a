use Rattle.std.proofs.Common.{◌≡◌, length, take}
use Rattle.vdo_core.specs.Notes.{KnowsPosts, KnowsWork}
use Rattle.vdo_core.proofs.notes.WorkNotes.of.Given as goal

-- the notes of the zones in front are right
abbrev pub invariant-loop-number : goal.invariant-loop-number
invariant-loop-number l = record {
  count : l.count ≡ length l.zones;
  posts : KnowsPosts l.count l.notes.posted l.notes.senders (take l.number l.zones);
  work : KnowsWork l.count l.sizes l.notes.works (take l.number l.zones);
}
