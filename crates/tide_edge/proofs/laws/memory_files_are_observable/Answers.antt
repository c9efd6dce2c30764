use Rattle.tide_edge.specs.Workings.MemoryLaws.{memory_store}
use Rattle.tide_edge.proofs.laws.memory_files_are_observable.Goals as goal

pub returns-clause-file_contents : goal.returns-clause-file_contents
returns-clause-file_contents c = memory_store
