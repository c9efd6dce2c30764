use Rattle.std.specs.Bool.{IsTrue}
use Rattle.tide_server.specs.Laws.{server_states_in}
use Rattle.tide_server.proofs.MemoryLemmas.{holds_replies}
use Rattle.tide_server.proofs.laws.serve_in_memory.Goals as goal

pub returns : goal.returns
returns c = λ words status before after unasked asked ends.
    holds_replies (IsTrue (server_states_in before).files.file_contents.is_steady) words status before after unasked asked ends
