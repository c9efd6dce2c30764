use Rattle.std.proofs.Common.{arith}
use Rattle.fixed_sine.proofs.TableLemmas.{correction-entry, sines_rise}
use Rattle.fixed_sine.proofs.table.row_of.Goals as goal

pub overflow_sub-result : goal.overflow_sub-result
overflow_sub-result c = let up = (sines_rise c.args.degrees c.requires).up in omega arith

pub returns-clause-rise : goal.returns-clause-rise
returns-clause-rise c = let up = (sines_rise c.args.degrees c.requires).up in omega arith

pub returns-clause-correction : goal.returns-clause-correction
returns-clause-correction c = correction-entry c.args.degrees c.requires
