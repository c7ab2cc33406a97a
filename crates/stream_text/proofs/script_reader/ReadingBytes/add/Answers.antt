use Rattle.std.proofs.Common.{◌≤◌, ◌+◌, length, sym, arith, eqb-true}
use Rattle.stream_text.specs.declared.refusal.LineFault.TheVariants.{TooLong}
use Rattle.stream_text.proofs.ScriptLaws.{long-line, long-script, refuses-so}
use Rattle.stream_text.proofs.script_reader.ReadingBytes.add.Goals as goal

pub returns-then-self-len-ge-LONGEST_SCRIPT-clause-refused : goal.returns-then-self-len-ge-LONGEST_SCRIPT-clause-refused
returns-then-self-len-ge-LONGEST_SCRIPT-clause-refused c = λ rest.
    let self = c.args.self.now in
    let full : 134217728 ≤ self.before + length self.line.items = omega (arith, c.if-self-len-ge-LONGEST_SCRIPT.true, c.len.ensures.value) in
    refuses-so self.number TooLong c.stopped.result _ c.stopped.ensures
    (long-script self.number self.before self.streams self.line.items c.args.byte rest c.requires.one_line full)

pub returns-then-is_full-clause-refused : goal.returns-then-is_full-clause-refused
returns-then-is_full-clause-refused c = λ rest.
    let self = c.args.self.now in
    let full : 32768 ≤ length self.line.items = omega (arith, eqb-true _ _ (sym c.if-is_full.ensures.value)) in
    refuses-so self.number TooLong c.stopped-then-is_full.result _ c.stopped-then-is_full.ensures
    (long-line self.number self.before self.streams self.line.items c.args.byte rest c.requires.one_line c.if-byte-eq10.false full)
