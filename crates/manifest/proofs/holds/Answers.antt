-- `manifest::holds` meets its contract.
use Rattle.manifest.proofs.Lines.{parse-line, parse-torn, text-parse, begin-parse, end-parse, read_back}
use Rattle.manifest.proofs.Texts.{text-room}
use Rattle.manifest.proofs.Split.{lines-on-append, rest-newline, lines-prefix}
use Rattle.manifest.proofs.holds.Goals as goal

pub returns : goal.returns
returns c =
    record {
      written = parse-line;
      read = text-parse;
      begun = begin-parse;
      ended = end-parse;
      marked = parse-torn;
      room = text-room;
      split = lines-on-append;
      whole = rest-newline;
      cut = lines-prefix;
      back = read_back;
    }
