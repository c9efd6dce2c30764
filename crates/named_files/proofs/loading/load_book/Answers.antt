use Rattle.std.proofs.Common.{Ok, Err}
use Rattle.std.specs.Bool.{IsTrue}
use Rattle.std.proofs.lemmas.Result.{err_from_is_err_and}
use Rattle.named_files.proofs.LoadingLemmas.{book_unlike, excuses_form, excuses_reading, fed_passed, fed_unpassed, loaded_whole, memory_as}
use Rattle.named_files.specs.Loading.{loaded, source_of}
use Rattle.tide_edge.proofs.ReadingLemmas.{once_as, own_once}
use Rattle.tide_edge.specs.Whole.{whole, source_of as source_of_reading}
use Rattle.named_files.proofs.loading.load_book.Goals as goal

pub returns-in_err-passed-clause-came : goal.returns-in_err-passed-clause-came
returns-in_err-passed-clause-came g c =
    let p = err_from_is_err_and c.from_residual-in_err-passed.result c.from_residual-in_err-passed.ensures.1 in
    once_as
    source_of_reading
    (whole c.args.limit)
    source_of
    (loaded c.args.limit)
    c.args.limit
    c.args.name.now
    (g.F.Files.state c.args.files.now).open_log
    (g.F.Files.state c.pass_file-passed.new.files).open_log
    (Err c.in_err-passed.field-0.0)
    c.from_residual-in_err-passed.result
    (λ firm file meets. rw (p.1, p.2) (excuses_reading c.args.limit (IsTrue firm) file _ meets))
    (λ memory. rw (p.1, p.2) (memory_as c.in_err-passed.field-0.0 memory))
    c.in_err-passed.ensures.came

pub returns-in_err-passed-clause-own : goal.returns-in_err-passed-clause-own
returns-in_err-passed-clause-own g c =
    own_once source_of (loaded c.args.limit) c.args.limit c.args.name.now (g.F.Files.state c.args.files.now)
    (g.F.Files.state c.pass_file-passed.new.files) c.from_residual-in_err-passed.result c.pass_file-passed.ensures.read.file_contents
    (g.met.F.Files.lawful c.pass_file-passed.new.files) (returns-in_err-passed-clause-came g c)

pub returns-in_err-passed-clause-too_long : goal.returns-in_err-passed-clause-too_long
returns-in_err-passed-clause-too_long g c =
    fed_passed _ _ c.from_residual-in_err-passed.result c.from_residual-in_err-passed.ensures.1 c.in_err-passed.ensures.too_long

pub returns-in_err-book-clause-came : goal.returns-in_err-book-clause-came
returns-in_err-book-clause-came g c =
    let p = err_from_is_err_and c.from_residual-in_err-book.result c.from_residual-in_err-book.ensures.1 in
    once_as
    source_of_reading
    (whole c.args.limit)
    source_of
    (loaded c.args.limit)
    c.args.limit
    c.args.name.now
    (g.F.Files.state c.args.files.now).open_log
    (g.F.Files.state c.pass_file-passed.new.files).open_log
    (Ok c.pass_file-passed.new.receiver.reader.bytes)
    c.from_residual-in_err-book.result
    (λ firm file meets. rw (p.1, p.2) (excuses_form c.args.limit (IsTrue firm) file _ _ meets c.in_err-book.ensures.exact))
    (λ memory. absurd memory)
    c.in_ok-passed.ensures.came

pub returns-in_err-book-clause-own : goal.returns-in_err-book-clause-own
returns-in_err-book-clause-own g c =
    own_once source_of (loaded c.args.limit) c.args.limit c.args.name.now (g.F.Files.state c.args.files.now)
    (g.F.Files.state c.pass_file-passed.new.files) c.from_residual-in_err-book.result c.pass_file-passed.ensures.read.file_contents
    (g.met.F.Files.lawful c.pass_file-passed.new.files) (returns-in_err-book-clause-came g c)

pub returns-in_err-book-clause-too_long : goal.returns-in_err-book-clause-too_long
returns-in_err-book-clause-too_long g c =
    fed_unpassed _ c.from_residual-in_err-book.result
    (book_unlike _ c.from_residual-in_err-book.result c.from_residual-in_err-book.ensures.1)
    c.in_ok-passed.ensures.too_long

pub returns-clause-came : goal.returns-clause-came
returns-clause-came g c =
    once_as
    source_of_reading
    (whole c.args.limit)
    source_of
    (loaded c.args.limit)
    c.args.limit
    c.args.name.now
    (g.F.Files.state c.args.files.now).open_log
    (g.F.Files.state c.pass_file-passed.new.files).open_log
    (Ok c.pass_file-passed.new.receiver.reader.bytes)
    (Ok c.in_ok-book.field-0)
    (λ firm file meets. loaded_whole c.args.limit file _ _ meets c.in_ok-book.ensures.exact)
    (λ memory. absurd memory)
    c.in_ok-passed.ensures.came

pub returns-clause-own : goal.returns-clause-own
returns-clause-own g c =
    own_once source_of (loaded c.args.limit) c.args.limit c.args.name.now (g.F.Files.state c.args.files.now)
    (g.F.Files.state c.pass_file-passed.new.files) (Ok c.in_ok-book.field-0) c.pass_file-passed.ensures.read.file_contents
    (g.met.F.Files.lawful c.pass_file-passed.new.files) (returns-clause-came g c)
