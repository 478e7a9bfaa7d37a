use Rattle.std.proofs.Common.{subst, rules}
use Rattle.sparc_decode.specs.Instr.{InRange}
use Rattle.sparc_text.proofs.Ascii.{line_utf8}
use Rattle.sparc_text.proofs.lines.put_line.Goals as goal

pub returns-clause-text : goal.returns-clause-text
returns-clause-text c =
    let h = line_utf8 c.args.at c.args.word (subst InRange c.decode.ensures.value c.decode.ensures.fields) in search (rules, h)
