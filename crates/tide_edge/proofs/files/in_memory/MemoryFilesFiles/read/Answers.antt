use Rattle.std.proofs.Common.{◌≡◌, ◌∙◌, [], ap, arith, length, rules, sym}
use Rattle.tide_edge.specs.Memory.{files_state}
use Rattle.tide_edge.specs.Workings.MemoryLaws.{memory_of, none_left}
use Rattle.tide_edge.proofs.MemoryLemmas.{read_on}
use Rattle.tide_edge.proofs.files.in_memory.MemoryFilesFiles.read.Goals as goal

pub returns-in_err-next-clause-answer : goal.returns-in_err-next-clause-answer
returns-in_err-next-clause-answer c = search rules

pub returns-clause-none_open : goal.returns-clause-none_open
returns-clause-none_open c = λ none.
    let unread : c.rest_at-unread_bytes.result.now ≡ [] =
    rw c.deref.ensures.value at c.rest_at-unread_bytes.ensures.unread_bytes
    ∙ sym c.self.invariant.unread_bytes
    ∙ ap (λ files. (files_state files).unread_bytes) c.self.view_is
    ∙ none_left (files_state c.args.self.now) (memory_of c.args.self.now) none in
    omega (arith, c.min-count.ensures, ap length unread)

pub invariant_of-self-2 : goal.invariant_of-self-2
invariant_of-self-2 c =
    read_on c.self.inside.files.items c.self.inside.history.items c.then_read-self-inside.result.items c.self.inside.opened c.self.inside.at
    c.self.inside.fault_schedule _ c.self.invariant c.then_read-self-inside.ensures c.next.new.self c.min-count.result _ _
    c.next.ensures.after c.in_ok-next.ensures.answer c.min-count.ensures (rw c.deref.ensures.value at c.rest_at-unread_bytes.ensures.unread_bytes)
    (omega (arith, c.requires))
