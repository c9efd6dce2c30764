use Rattle.harmonics_text.proofs.Runs.{line_and_absent}
use Rattle.harmonics_text.proofs.Valid.{line_valid}
use Rattle.harmonics_text.proofs.book_parser.BookParser.add_lines.Goals as goal

pub add_absent-requires : goal.add_absent-requires
add_absent-requires c = line_valid c.args.self.now c.add_line.new.self c.args.line.now c.requires.valid c.in_ok-add_line.ensures

pub returns-clause-read : goal.returns-clause-read
returns-clause-read c =
    line_and_absent c.args.self.now c.add_line.new.self c.add_absent.new.self c.args.line.now c.args.rest.now
    c.in_ok-absent.after.now c.in_ok-absent.absent c.requires.one c.in_ok-add_line.ensures c.in_ok-absent.ensures.read
