use Rattle.std.proofs.Common.{◌∙◌, ap, sym, rules}
use Rattle.tide_edge.specs.Memory.{files_state}
use Rattle.tide_edge.proofs.MemoryLemmas.{next_open, next_result, open_after}
use Rattle.tide_edge.proofs.files.in_memory.MemoryFilesFiles.open.Goals as goal

pub invariant_of-self : goal.invariant_of-self
invariant_of-self c =
    next_open c.self.inside.files.items c.self.inside.history.items c.then_open-self-inside.result.items c.self.inside.opened c.self.inside.at
    c.self.inside.fault_schedule c.find-self-inside.new.fault_schedule c.args.name.now c.self.invariant c.then_open-self-inside.ensures
    c.find-self-inside.result (rw c.deref.ensures.value at c.find-self-inside.ensures.index) c.find-self-inside.ensures.after

pub returns-clause-answer : goal.returns-clause-answer
returns-clause-answer c =
    c.result_of.ensures
    ∙ rw (← c.self.view_is)
    (sym (next_result c.self.inside.files.items c.self.inside.history.items c.then_open-self-inside.result.items c.self.inside.opened
    c.self.inside.at c.self.inside.fault_schedule c.find-self-inside.new.fault_schedule c.args.name.now c.self.invariant c.then_open-self-inside.ensures
    c.find-self-inside.result (rw c.deref.ensures.value at c.find-self-inside.ensures.index) c.find-self-inside.ensures.after))

pub returns-clause-history : goal.returns-clause-history
returns-clause-history c = search rules

pub returns-clause-after : goal.returns-clause-after
returns-clause-after c =
    ap files_state (returns-clause-history c) ∙ open_after c.args.self.now c.args.name.now c.result_of.result (returns-clause-answer c)
