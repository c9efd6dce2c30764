use Rattle.std.proofs.Common.{Err, length-append, ap, refl, arith}
use Rattle.harmonics_text.specs.Pieces.{Fed}
use Rattle.harmonics_text.specs.Workings.Readers.{reached}
use Rattle.harmonics_text.proofs.Readers.{reads_valid, reads_number, reads_more, reads_fault}
use Rattle.harmonics_text.proofs.book_reader.BookReader.feed.Goals as goal

pub read_piece-read-requires-clause-valid : goal.read_piece-read-requires-clause-valid
read_piece-read-requires-clause-valid c =
    reads_valid c.self.inside.history.items c.self.inside.progress (rw c.in_default.is at c.self.invariant.reads)

pub read_piece-read-requires-clause-count_bound : goal.read_piece-read-requires-clause-count_bound
read_piece-read-requires-clause-count_bound c =
    let number = reads_number c.self.inside.history.items c.self.inside.progress (rw c.in_default.is at c.self.invariant.reads) in
    let bytes = ap (λ (f : Fed). f.bytes) c.self.view_is in
    omega (arith, number, rw (← bytes) at c.requires)

pub invariant_of-self : goal.invariant_of-self
invariant_of-self c =
    let kept = reached c.self.inside.progress c.self.inside.fault in
    let bytes = ap (λ (f : Fed). f.bytes) c.self.view_is in
    rw c.then-self-inside.ensures record {
      reads = reads_more c.self.inside.history.items c.args.piece.now kept kept c.self.invariant.reads (rw c.in-Some.is refl);
      few = omega (arith, rw (← bytes) at c.requires, length-append c.self.inside.history.items c.args.piece.now);
    }

pub returns-in-Some-clause-exact : goal.returns-in-Some-clause-exact
returns-in-Some-clause-exact c = reads_fault c.then-self-inside.result.items c.self.inside.progress c.self.inside.fault
    (Err c.in-Some.fault) (invariant_of-self c).reads c.in-Some.is

pub invariant_of-self-2 : goal.invariant_of-self-2
invariant_of-self-2 c =
    let bytes = ap (λ (f : Fed). f.bytes) c.self.view_is in
    rw (c.then-self-inside.ensures, c.err-self-inside.ensures.value) record {
      reads =
          reads_more c.self.inside.history.items c.args.piece.now (reached c.self.inside.progress c.self.inside.fault) _
          c.self.invariant.reads (rw c.in_default.is c.read_piece-read.ensures);
      few = omega (arith, rw (← bytes) at c.requires, length-append c.self.inside.history.items c.args.piece.now);
    }

pub returns-clause-exact : goal.returns-clause-exact
returns-clause-exact c = reads_fault c.then-self-inside.result.items c.read_piece-read.new.self c.err-self-inside.result
    c.read_piece-read.result (invariant_of-self-2 c).reads c.err-self-inside.ensures.value
