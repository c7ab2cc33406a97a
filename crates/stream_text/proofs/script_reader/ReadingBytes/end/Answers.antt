use Rattle.std.proofs.Common.{◌≢◌, subst}
use Rattle.std.specs.Prelude.{ℕ, List, []}
use Rattle.stream_text.specs.WholeScript.{after_text}
use Rattle.stream_text.specs.ReadingBytes.{StopsLine}
use Rattle.stream_text.proofs.LineLaws.{not_empty}
use Rattle.stream_text.proofs.ScriptLaws.{stops-last}
use Rattle.stream_text.proofs.WholeBlockLaws.{goes-last, whole-last}
use Rattle.stream_text.proofs.script_reader.ReadingBytes.end.Goals as goal

pub returns-in-Err-clause-refused : goal.returns-in-Err-clause-refused
returns-in-Err-clause-refused c =
    let self = c.args.self in
    let some : self.line.items ≢ [] = λ e. not_empty self.line.items c.is_empty.result c.is_empty.ensures c.if-is_empty.false e in
    stops-last self.number self.before self.streams self.line.items c.in-Err.stop c.stopped.result c.requires.one_line some c.requires.short c.requires.within
    (subst (λ (line : List ℕ). StopsLine c.in-Err.stop (after_text self.streams line)) c.deref.ensures.0 c.in-Err.ensures.stopped) c.stopped.ensures

pub returns-in-Ok-clause-ok : goal.returns-in-Ok-clause-ok
returns-in-Ok-clause-ok c =
    let self = c.args.self in
    let some : self.line.items ≢ [] = λ e. not_empty self.line.items c.is_empty.result c.is_empty.ensures c.if-is_empty.false e in
    goes-last self.number self.before self.streams c.add_line.new.streams c.into_requests-in-Ok.result self.line.items c.deref.result.now c.requires.one_line some
    c.requires.short c.requires.within c.deref.ensures.0 c.in-Ok.ensures.ok.same c.into_requests-in-Ok.ensures

pub returns-in-Ok-clause-shape : goal.returns-in-Ok-clause-shape
returns-in-Ok-clause-shape c =
    whole-last c.in-Ok.field-0 c.args.self.streams c.add_line.new.streams c.into_requests-in-Ok.result c.deref.result.now c.requires.writes
    c.add_line.ensures.rows c.in-Ok.ensures.ok c.into_requests-in-Ok.ensures
