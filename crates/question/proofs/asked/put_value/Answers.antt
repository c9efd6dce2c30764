use Rattle.std.proofs.Common.{rules}
use Rattle.question.proofs.asked.put_value.Goals as goal

pub returns-in-File-clause-form : goal.returns-in-File-clause-form
returns-in-File-clause-form c = rw c.in-File.is (search rules)

pub returns-in-Offsets-clause-form : goal.returns-in-Offsets-clause-form
returns-in-Offsets-clause-form c = rw c.in-Offsets.is (search rules)

pub returns-in-Certificate-clause-form : goal.returns-in-Certificate-clause-form
returns-in-Certificate-clause-form c = rw c.in-Certificate.is (search rules)

pub returns-in-Station-clause-form : goal.returns-in-Station-clause-form
returns-in-Station-clause-form c = rw c.in-Station.is (search rules)

pub returns-in-Begin-clause-form : goal.returns-in-Begin-clause-form
returns-in-Begin-clause-form c = rw c.in-Begin.is (search rules)

pub returns-in-End-clause-form : goal.returns-in-End-clause-form
returns-in-End-clause-form c = rw c.in-End.is (search rules)

pub returns-in-Mark-clause-form : goal.returns-in-Mark-clause-form
returns-in-Mark-clause-form c = rw c.in-Mark.is (search rules)

pub returns-in-Step-clause-form : goal.returns-in-Step-clause-form
returns-in-Step-clause-form c = rw c.in-Step.is (search rules)

pub returns-in-Zone-clause-form : goal.returns-in-Zone-clause-form
returns-in-Zone-clause-form c = rw c.in-Zone.is (search rules)

pub returns-in-Layout-clause-form : goal.returns-in-Layout-clause-form
returns-in-Layout-clause-form c = rw c.in-Layout.is (search rules)

pub returns-in-Seed-clause-form : goal.returns-in-Seed-clause-form
returns-in-Seed-clause-form c = rw c.in-Seed.is (search rules)

pub returns-in-Port-clause-form : goal.returns-in-Port-clause-form
returns-in-Port-clause-form c = rw c.in-Port.is (search rules)

pub returns-in-Sheets-clause-form : goal.returns-in-Sheets-clause-form
returns-in-Sheets-clause-form c = rw c.in-Sheets.is (search rules)
