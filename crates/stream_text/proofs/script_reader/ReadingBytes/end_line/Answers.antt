use Rattle.std.proofs.Common.{subst}
use Rattle.std.specs.Prelude.{ℕ, List}
use Rattle.stream_text.specs.WholeScript.{after_text}
use Rattle.stream_text.specs.ReadingBytes.{StopsLine}
use Rattle.stream_text.proofs.WholeBlockLaws.{goes-line, sound-line}
use Rattle.stream_text.proofs.ScriptLaws.{stops-line}
use Rattle.stream_text.proofs.script_reader.ReadingBytes.end_line.Goals as goal

pub returns-in-Err-clause-refused : goal.returns-in-Err-clause-refused
returns-in-Err-clause-refused c = λ rest.
    let self = c.args.self.now in
    stops-line self.number self.before self.streams self.line.items rest c.in-Err.stop c.stopped.result c.requires.sound.one_line c.requires.sound.short
    c.requires.room (subst (λ (line : List ℕ). StopsLine c.in-Err.stop (after_text self.streams line)) c.deref.ensures.0 c.in-Err.ensures.stopped) c.stopped.ensures

pub returns-in-Ok-clause-ok : goal.returns-in-Ok-clause-ok
returns-in-Ok-clause-ok c = λ rest.
    let self = c.args.self.now in
    goes-line self.number self.before c.len.result self.streams c.add_line.new.streams self.line.items c.deref.result.now c.clear.new.self.items rest
    c.requires.sound.one_line c.requires.sound.short c.requires.room c.deref.ensures.0 c.in-Ok.ensures.ok.same c.len.ensures.value c.clear.ensures

pub returns-in-Ok-clause-sound : goal.returns-in-Ok-clause-sound
returns-in-Ok-clause-sound c =
    let self = c.args.self.now in
    sound-line self.count self.number self.before c.len.result c.in-Ok.count self.streams c.add_line.new.streams self.line.items c.deref.result.now
    c.clear.new.self.items c.requires.sound c.requires.room c.add_line.ensures.rows c.in-Ok.ensures.ok c.len.ensures.value c.clear.ensures
