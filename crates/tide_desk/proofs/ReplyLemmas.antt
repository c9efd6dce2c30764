-- The answer of a reply, with a refusal that keeps its table.
use Rattle.std.proofs.Common.{◌≡◌, Bool, true, false, List, Result, Ok, Err, refl}
use Rattle.decimal_text.specs.Expected.{EqualsUnlessNoMemory, Excused}
use Rattle.station_table.specs.declared.offsets.Offsets.{Offsets}
use Rattle.tide_answer.specs.declared.text.Answer.{Answer}
use Rattle.tide_fault.specs.declared.refusal.Refusal.{Refusal}
use Rattle.tide_fault.specs.Faults.{refusal_is_out_of_memory}
use Rattle.named_files.specs.declared.run_fault.RunFault.{RunFault}
use Rattle.named_files.specs.declared.run_fault.RunFault.TheVariants.{Refused}
use Rattle.named_files.specs.RunFaults.{is_out_of_memory, refused_over}

refused_excused : (memory : Bool) (rows : List Offsets) (expected : Result Answer Refusal) (refusal : Refusal)
    → Excused memory expected refusal → Excused memory (refused_over rows expected) (Refused refusal rows)
refused_excused true rows expected refusal excused = tt
refused_excused false rows expected refusal excused = rw excused refl

-- a result that is the expected one is so as the result of a run
pub refused_meets : (rows : List Offsets) (expected replied : Result Answer Refusal) (result : Result Answer RunFault)
    → EqualsUnlessNoMemory refusal_is_out_of_memory expected replied → result ≡ refused_over rows replied
    → EqualsUnlessNoMemory is_out_of_memory (refused_over rows expected) result
refused_meets rows expected (Ok answer) result meets is = rw (is, meets) refl
refused_meets rows expected (Err refusal) result meets is =
    rw is (refused_excused (refusal_is_out_of_memory refusal) rows expected refusal meets)
