use Rattle.std.proofs.Common.{◌≡◌, ℕ, true, List, Result, Ok, Err, refl, sym}
use Rattle.std.specs.Bool.{IsTrue}
use Rattle.decimal_text.specs.Expected.{Meets}
use Rattle.tide_edge.specs.Whole.{source_of}
use Rattle.tide_edge.specs.Workings.MemoryLaws.{memory_store}
use Rattle.tide_edge.specs.declared.files.read_all_fault.ReadAllFault.{ReadAllFault}
use Rattle.tide_edge.specs.declared.files.read_all_fault.ReadAllFault.TheVariants.{Failed, TooLong, NoMemory}
use Rattle.reading_tests.proofs.edge.read_steady.Goals as goal

-- over steady files the result is the expected one, unless memory ran out
settles : (expected result : Result (List ℕ) ReadAllFault) → Meets source_of (IsTrue true) expected result → ¬ (result ≡ Err NoMemory)
    → result ≡ expected
settles expected (Ok bytes) meets other = sym meets
settles expected (Err Failed) meets other = sym (meets refl)
settles expected (Err TooLong) meets other = sym meets
settles expected (Err NoMemory) meets other = absurd (other refl)

pub returns : goal.returns
returns c = λ other.
    let whole = rw (memory_store c.args.files.now, c.requires) at c.read_all.ensures.whole in
    settles _ c.read_all.result (whole refl) other
