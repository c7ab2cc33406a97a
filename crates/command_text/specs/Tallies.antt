-- How the requests of a run were answered.
use Rattle.std.specs.Prelude.{◌+◌, ◌<◌, ◌≤◌, List, [], ◌∷◌}
use Rattle.std.specs.List.{sum}
use Rattle.blk_base.specs.declared.request.Answer.{Answer as Reply}
use Rattle.blk_base.specs.declared.request.Answer.TheVariants.{Ok, Bytes, Range, NoSpace, Full, ReadFault, Stopped, Damaged}
use Rattle.vdo_model.specs.declared.report.DeskLine.{DeskLine}
use Rattle.vdo_model.specs.declared.report.DeskLine.TheVariants.{Begin, Answer}
use Rattle.command_text.specs.declared.tallies.Tally.{Tally}

-- bytes count as ok, and add to the sum of all bytes read; a full image counts as no space
abbrev pub with_answer : Reply → Tally → Tally
with_answer Ok t = record { ok = t.ok + 1; no_space = t.no_space; read_sum = t.read_sum }
with_answer (Bytes bytes) t = record { ok = t.ok + 1; no_space = t.no_space; read_sum = t.read_sum + sum bytes }
with_answer NoSpace t = record { ok = t.ok; no_space = t.no_space + 1; read_sum = t.read_sum }
with_answer Full t = record { ok = t.ok; no_space = t.no_space + 1; read_sum = t.read_sum }
with_answer Range t = t
with_answer ReadFault t = t
with_answer Stopped t = t
with_answer Damaged t = t

-- only answers count
abbrev pub with_line : DeskLine → Tally → Tally
with_line (Begin by) t = t
with_line (Answer by answer) t = with_answer answer t

-- all answers of a desk log
abbrev pub tally_of : List DeskLine → Tally
tally_of [] = record { ok = 0; no_space = 0; read_sum = 0 }
tally_of (line ∷ older) = with_line line (tally_of older)

-- one more answer can be counted
pub record HasRoom (t : Tally) : Type 0 where
  pub ok : t.ok < 18446744073709551615
  pub no_space : t.no_space < 18446744073709551615
  pub read_sum : t.read_sum < 340282366920938463463374607431767166976

-- one answer more counts one, and at most the bytes of a block
pub record GrowsLittle (before now : Tally) : Type 0 where
  pub ok : now.ok ≤ before.ok + 1
  pub no_space : now.no_space ≤ before.no_space + 1
  pub read_sum : now.read_sum ≤ before.read_sum + 1044480
